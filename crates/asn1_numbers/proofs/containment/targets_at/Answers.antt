-- What the type of the assignment names.
use Rattle.std.proofs.Common.{Global, Vec, ap, sym, ◌∙◌, ℕ}
use Rattle.std.proofs.Math.Path.{subst}
use Rattle.asn1_names.specs.TermViews.{module_terms, type_term}
use Rattle.asn1_numbers.specs.NamedTargets.{AreTargets}
use Rattle.asn1_numbers.proofs.LeadingLaws.{no_targets, targets_found}
use Rattle.asn1_numbers.proofs.containment.targets_at.Goals.{in-Some+in_ok-push_targets, in_default}
use Rattle.asn1_numbers.proofs.containment.targets_at.Goals as goal

pub returns : goal.returns
returns c = elim c.match-type_at.branch [
  | in-Some+in_ok-push_targets w ↦
      subst (λ (v : Vec ℕ Global). AreTargets (module_terms c.args.tables.now) c.args.number v.items)
      (sym w.targets-is) (targets_found (module_terms c.args.tables.now) c.args.number w.in-Some.home
      (type_term w.in-Some.of.now) c.new-targets.result.items w.push_targets.new.targets.items
      c.new-targets.ensures.items w.in-Some.ensures w.in_ok-push_targets.ensures)
  | in_default w ↦
      no_targets (module_terms c.args.tables.now) c.args.number c.match-type_at.targets.items
      (ap (λ (v : Vec ℕ Global). v.items) w.targets-is ∙ c.new-targets.ensures.items) w.in_default.ensures
]
