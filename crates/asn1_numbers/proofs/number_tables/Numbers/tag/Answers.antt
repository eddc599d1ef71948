-- A number that no tag has.
use Rattle.std.proofs.Common.{◌≡◌, ◌∙◌, SFits, arith, pos, sym, w64}
use Rattle.std.proofs.Math.Facts.{to_z-of_z}
use Rattle.std.proofs.Math.Path.{subst}
use Rattle.std.specs.Int.{FitsUnsignedBits}
use Rattle.asn1_names.specs.TermViews.{module_terms, tag_term}
use Rattle.asn1_names.specs.WholeNumbers.{IsNumber}
use Rattle.asn1_numbers.proofs.FoundLaws.{tag_number}
use Rattle.asn1_numbers.proofs.number_tables.Numbers.tag.Goals as goal

pub returns-in-Err : goal.returns-in-Err
returns-in-Err c = λ tag is.
    let ms = module_terms c.args.self.now in
    let n = c.in-Number.number in
    let said : IsNumber ms c.args.home (tag_term c.args.text.now).number n =
    subst (λ t. IsNumber ms c.args.home t n) c.token_text.ensures c.in-Number.ensures in
    let same : n ≡ pos tag.number = tag_number ms c.args.home (tag_term c.args.text.now) n tag said is in
    let small : SFits w64 (pos tag.number) = (let less = is.below in omega (arith, less)) in
    let back = to_z-of_z (subst (SFits w64) (sym same) small) in
    c.in-Err.ensures (subst (FitsUnsignedBits 32) (sym (back ∙ same)) is.below)
