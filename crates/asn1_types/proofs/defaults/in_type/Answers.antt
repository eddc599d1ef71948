-- A type that is no name.
use Rattle.std.proofs.Common.{◌∙◌, ap, map, sym}
use Rattle.std.proofs.Math.Path.{subst}
use Rattle.asn1_names.specs.ModuleTerms.TypeTerm.{Alternatives}
use Rattle.asn1_names.specs.TermViews.{limit_terms, type_term}
use Rattle.asn1_types.specs.BuiltSyntaxes.{alternative_member}
use Rattle.asn1_types.specs.MeasuredTypes.{members_listed}
use Rattle.asn1_types.specs.SoughtDefaults.{TellsSought}
use Rattle.asn1_types.proofs.BuildingLaws.{alternatives_are}
use Rattle.asn1_types.proofs.DefaultLaws.{tagged_within, within_told}
use Rattle.asn1_types.proofs.defaults.in_type.Goals as goal

pub returns-in-Tagged : goal.returns-in-Tagged
returns-in-Tagged c = λ ms m no_name.
    within_told ms m (type_term c.args.of.now) _ (type_term c.deref.result.now) (type_term c.in-Tagged.inner.value)
    c.args.path.now (ap type_term c.in-Tagged.is) (ap type_term c.deref.ensures) (tagged_within c.args.path.now)

pub returns-in-Structured : goal.returns-in-Structured
returns-in-Structured c = λ ms m no_name.
    subst (λ t. TellsSought ms m t c.args.path.now m c.in_structure.result) (sym (ap type_term c.in-Structured.is))
    (c.in_structure.ensures ms m c.in-Structured.word)

pub returns-in-Choice : goal.returns-in-Choice
returns-in-Choice c = λ ms m no_name.
    let arm = c.in-Choice in
    let limits = limit_terms arm.constraints in
    subst (λ t. TellsSought ms m t c.args.path.now m c.in_alternatives.result)
    (sym (ap type_term arm.is ∙ alternatives_are arm.word arm.alternatives arm.constraints))
    (subst (λ xs. TellsSought ms m (Alternatives arm.word (members_listed (map alternative_member xs)) limits)
    c.args.path.now m c.in_alternatives.result) c.as_slice.ensures.value
    (c.in_alternatives.ensures ms m arm.word limits))
