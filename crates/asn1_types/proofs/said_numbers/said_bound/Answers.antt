-- A bound that is said.
use Rattle.std.proofs.Common.{◌∙◌, rules, sym, w64}
use Rattle.std.proofs.Math.Facts.{to_z-of_z}
use Rattle.std.proofs.Math.Path.{subst}
use Rattle.asn1_names.specs.NumbersFound.{FindsBound}
use Rattle.asn1_names.specs.TermViews.{bound_term, module_terms}
use Rattle.asn1_names.specs.WholeNumbers.{IsBound}
use Rattle.asn1_types.proofs.SaidLaws.{bound_said}
use Rattle.asn1_types.proofs.said_numbers.said_bound.Goals as goal

pub returns : goal.returns
returns c = λ of told says.
    let ms = module_terms c.args.numbers.now in
    subst (IsBound ms c.args.home of (bound_term c.args.bound.now))
    (sym (to_z-of_z {w = w64} {z = c.number_or_zero.result} (search rules) ∙ c.number_or_zero.ensures))
    (bound_said ms c.args.home of (bound_term c.args.bound.now) c.bound.result
    (subst (λ t. FindsBound ms c.args.home of t c.bound.result) c.bound_text.ensures (c.bound.ensures of told)) says)
