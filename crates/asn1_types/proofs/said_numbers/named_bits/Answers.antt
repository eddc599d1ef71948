-- One more number.
use Rattle.std.proofs.Common.{◌∙◌, [], rules, sym, w64}
use Rattle.std.proofs.Math.Facts.{to_z-of_z}
use Rattle.std.proofs.Math.Path.{subst}
use Rattle.asn1_names.specs.DenotedSyntax.{AreNamed}
use Rattle.asn1_names.specs.DenotedSyntax.AreNamed.{no_more}
use Rattle.asn1_names.specs.TermViews.{bit_term, module_terms}
use Rattle.asn1_types.proofs.SaidLaws.{names_step, said_as}
use Rattle.asn1_types.proofs.said_numbers.named_bits.Goals as goal

pub loop-one-init : goal.loop-one-init
loop-one-init c = λ says.
    subst (λ ps. AreNamed (module_terms c.args.numbers.now) c.args.home [] ps) (sym c.new-items.ensures.items) no_more

pub loop-one-preserved : goal.loop-one-preserved
loop-one-preserved c =
    names_step (module_terms c.args.numbers.now) c.args.home bit_term c.args.named.now c.loop-one.one-index
    c.one-item.result _ _ c.loop-one.items.items c.push.new.self.items c.loop-one-test.true c.one-item.is
    (c.in_ok-name.ensures ∙ c.as_slice.ensures) c.in_ok-push.ensures.items
    (said_as (sym (to_z-of_z {w = w64} {z = c.said_number-number.result} (search rules))) c.token_text.ensures
    c.said_number-number.ensures) c.loop-one.invariant
