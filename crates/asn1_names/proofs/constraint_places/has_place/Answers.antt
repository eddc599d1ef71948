-- A type as it is written.
use Rattle.std.proofs.Common.{MatchOption, ◌≡◌, ◌∙◌, ap, sym, true}
use Rattle.std.proofs.Math.Path.{subst}
use Rattle.asn1_values_syntax.specs.declared.constraint.Constraint.{Constraint}
use Rattle.asn1_names.specs.NumbersFound.{base_term}
use Rattle.asn1_names.specs.TermViews.{limit_term, type_term}
use Rattle.asn1_names.specs.TypeBase.{has_place as place_has}
use Rattle.asn1_names.specs.TypeBase.Base.{Written}
use Rattle.asn1_names.proofs.constraint_places.has_place.Goals as goal

pub returns-in-Size-constraint : goal.returns-in-Size-constraint
returns-in-Size-constraint c =
    subst (λ b. MatchOption (base_term b) (c.has_sizes.result ≡ true)
    (λ known. c.has_sizes.result ≡ place_has known (limit_term c.args.constraint.now))) (sym c.in-Written.is)
    (c.has_sizes.ensures c.in-Written.field-0 ∙ sym (ap (λ (k : Constraint). place_has
    (Written c.in-Written.field-0 (type_term c.in-Written.of.now)) (limit_term k)) c.in-Size-constraint.is))

pub returns-in-Values-constraint : goal.returns-in-Values-constraint
returns-in-Values-constraint c =
    subst (λ b. MatchOption (base_term b) (c.has_ranges.result ≡ true)
    (λ known. c.has_ranges.result ≡ place_has known (limit_term c.args.constraint.now))) (sym c.in-Written.is)
    (c.has_ranges.ensures c.in-Written.field-0 ∙ sym (ap (λ (k : Constraint). place_has
    (Written c.in-Written.field-0 (type_term c.in-Written.of.now)) (limit_term k)) c.in-Values-constraint.is))
