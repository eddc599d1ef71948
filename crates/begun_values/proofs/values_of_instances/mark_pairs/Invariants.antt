-- The names of the pairs so far are marked.
use Rattle.std.proofs.Common.{◌≡◌, ℕ, map, take}
use Rattle.gdmo_names.specs.InStep.{AreEach}
use Rattle.gdmo_names.specs.Mentions.{Role, wanted_kind}
use Rattle.gdmo_names.specs.PartTerms.{PartTerms}
use Rattle.gdmo_names.specs.PartViews.{pair_term}
use Rattle.gdmo_names.specs.TemplateTerms.TemplateKind.{AttributeKind}
use Rattle.gdmo_targets.specs.SectionTables.{TellsPair}
use Rattle.gdmo_types.specs.Linkages.{IsLinkage}
use Rattle.gdmo_begun_names.specs.BegunMarks.{AnyFirst, Marks}
use Rattle.begun_values.specs.SectionValues.{PairFirsts}
use Rattle.begun_values.proofs.values_of_instances.mark_pairs.Given as goal

abbrev pub invariant-loop-k : goal.invariant-loop-k
invariant-loop-k l = (parts : PartTerms) (document : ℕ) (role : Role) → IsLinkage parts l.linkage →
    wanted_kind role ≡ AttributeKind →
    AreEach (TellsPair parts l.linkage.templates.now document role) (map pair_term l.pairs) l.targets →
    Marks (AnyFirst (λ p. PairFirsts parts document role (pair_term p)) (take l.k l.pairs)) l.initial.names l.names
