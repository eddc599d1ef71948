-- A number that is said.
use Rattle.std.proofs.Common.{◌∙◌, rules, sym, w64}
use Rattle.std.proofs.Math.Facts.{to_z-of_z}
use Rattle.std.proofs.Math.Path.{subst}
use Rattle.asn1_names.specs.NumbersFound.{text_term}
use Rattle.asn1_names.specs.TermViews.{module_terms}
use Rattle.asn1_names.specs.WholeNumbers.{IsNumber}
use Rattle.asn1_types.proofs.SaidLaws.{number_said}
use Rattle.asn1_types.proofs.said_numbers.said_number.Goals as goal

pub returns : goal.returns
returns c = λ says. subst (IsNumber (module_terms c.args.numbers.now) c.args.home (text_term c.args.text))
    (sym (to_z-of_z {w = w64} {z = c.number_or_zero.result} (search rules) ∙ c.number_or_zero.ensures))
    (number_said _ _ _ c.number.result c.number.ensures says)
