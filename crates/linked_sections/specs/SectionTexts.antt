-- SectionTexts: what the steps of the work say of its parts: by which number a step's template is linked, and which
-- elements are added behind others (docs/PROFILE.md, section 9).
use Rattle.std.specs.Prelude.{ℕ, List, ◌++◌}
use Rattle.gdmo_linking.specs.LinkedTables.{Links}
use Rattle.gdmo_names.specs.InStep.{AreEach}
use Rattle.gdmo_names.specs.Mentions.Role.{StepAttribute, StepNotification}
use Rattle.gdmo_names.specs.PartTerms.{StepTerm, RuleTerm, PartTerms}
use Rattle.gdmo_names.specs.PartTerms.StepTerm.{SetTo, AddTo, EmitOf, ReplyWith}
use Rattle.gdmo_names.specs.TemplateTerms.ReferenceTerm.{ByLabel}

-- the template that a step names is linked by this number; REPLY names none here
abbrev pub LinksStep : PartTerms → RuleTerm → StepTerm → ℕ → Type 0
LinksStep parts rule (SetTo label taken) k = Links parts rule.document StepAttribute (ByLabel label) k
LinksStep parts rule (AddTo number label) k = Links parts rule.document StepAttribute (ByLabel label) k
LinksStep parts rule (EmitOf label value) k = Links parts rule.document StepNotification (ByLabel label) k
LinksStep parts rule (ReplyWith taken) k = Unit {0}

-- where elements are known of which these are a part, and those before them were told, these are told too
abbrev pub Pushes : {A B : Type 0} → (List A → Type 0) → (A → B → Type 0) → List A → List B → List B → Type 0
Pushes {A = A} known is xs old after = (before behind : List A) → known (before ++ (xs ++ behind)) →
    AreEach is before old → AreEach is (before ++ xs) after
