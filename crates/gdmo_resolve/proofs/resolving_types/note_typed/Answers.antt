-- Fields, rules that are stated twice, and the steps of rules, one after the other.
use Rattle.std.proofs.Common.{◌≡◌, subst, sym}
use Rattle.std.specs.Prelude.{flat_map}
use Rattle.asn1_numbers.proofs.TargetLaws.{ok_by}
use Rattle.gdmo_names.proofs.NotingLaws.{both_noted}
use Rattle.gdmo_names.specs.FaultSets.{Either}
use Rattle.gdmo_names.specs.InStep.{AreEach}
use Rattle.gdmo_names.specs.PartTerms.{module_terms_of}
use Rattle.gdmo_names.specs.PartViews.{section_rules}
use Rattle.gdmo_names.specs.SectionFaults.{StatedTwice}
use Rattle.gdmo_targets.specs.SectionTables.{IsRuleTargets}
use Rattle.gdmo_types.specs.FieldFaults.{FieldFaults}
use Rattle.gdmo_rules.specs.FaultsOfSteps.{FaultsOfSteps}
use Rattle.gdmo_resolve.proofs.resolving_types.note_typed.Goals as goal

pub returns : goal.returns
returns c = ok_by c.judge_steps.result (λ steps ps k are.
    let stay = c.note_fields.ensures.stays (module_terms_of ps) are in
    both_noted (FieldFaults ps) (Either (StatedTwice ps) (FaultsOfSteps ps))
    (c.in_ok-note_fields.ensures.noted ps k.is_linkage are)
    (both_noted (StatedTwice ps) (FaultsOfSteps ps)
    (c.in_ok-note_stated_twice.ensures ps k.is_linkage.are_found.all k.are_read.apart
    (subst (λ xs. ps.rules ≡ flat_map section_rules xs) (sym c.as_slice-sections.ensures.value) k.are_rules)
    (subst (AreEach (IsRuleTargets ps c.args.known.linkage.now.templates.now) ps.rules)
    (sym c.as_slice-rules.ensures.value) k.are_targets.are_rules))
    (steps ps k stay.are_numbers))) c.judge_steps.ensures
