use Rattle.std.proofs.Common.{ℕ, take}
use Rattle.gdmo_names.specs.InStep.{AreEach}
use Rattle.gdmo_names.specs.PartTerms.{PartTerms}
use Rattle.linked_templates.specs.MemberTexts.{IsFieldText, LinksField}
use Rattle.linked_templates.proofs.linking_members.linked_fields.Given as goal

abbrev pub invariant-loop-k : goal.invariant-loop-k
invariant-loop-k l = (parts : PartTerms) (document : ℕ) → AreEach (LinksField parts document) l.fields l.attributes →
    AreEach (IsFieldText parts document) (take l.k l.fields) l.linked.items
