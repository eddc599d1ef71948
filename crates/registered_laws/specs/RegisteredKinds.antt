-- RegisteredKinds: the kinds of templates whose form ends with REGISTERED AS, and never without (X.722, sections 8.3,
-- 8.6, 8.8, 8.10 and 8.11; docs/PROFILE.md, section 2).
use Rattle.std.specs.Prelude.{◌≡◌, Bool, true, false, Some, Contains}
use Rattle.gdmo_names.specs.DocumentTemplates.{templates}
use Rattle.gdmo_names.specs.PartTerms.{Placed, PartTerms, identifier_of, kind_of}
use Rattle.gdmo_names.specs.TemplateTerms.{IdentifierTerm, TemplateKind, TemplateTerm}
use Rattle.gdmo_names.specs.TemplateTerms.TemplateKind.{ActionKind, BindingKind, ClassKind, GroupKind}
use Rattle.gdmo_names.specs.TemplateTerms.TemplateKind.{NotificationKind}

abbrev pub is_always_registered : TemplateKind → Bool
is_always_registered ClassKind = true
is_always_registered BindingKind = true
is_always_registered GroupKind = true
is_always_registered ActionKind = true
is_always_registered NotificationKind = true
is_always_registered _ = false

-- a template of these kinds is registered under an identifier
abbrev pub IsRegisteredKind : TemplateTerm → Type 0
IsRegisteredKind x = is_always_registered (kind_of x) ≡ true → (own : IdentifierTerm) × (identifier_of x ≡ Some own)

-- so is each one of a set of documents, as in every text that is read
abbrev pub AreRegisteredKinds : PartTerms → Type 0
AreRegisteredKinds parts = (by : Placed) → Contains (templates parts) by → IsRegisteredKind by.template
