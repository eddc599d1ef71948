-- InformationFields: fields of AND ATTRIBUTE IDS stand only behind WITH INFORMATION SYNTAX, as in every text that is
-- read (X.722, section 8.11; docs/PROFILE.md, section 2).
use Rattle.std.specs.Prelude.{◌≡◌, Option, None, Some, Contains}
use Rattle.token_grammar.specs.declared.qualified_name.QualifiedName.{QualifiedName}
use Rattle.gdmo_names.specs.DocumentTemplates.{templates}
use Rattle.gdmo_names.specs.PartTerms.{PartTerms, Placed, body_of}
use Rattle.gdmo_names.specs.TemplateTerms.{BodyTerm, FieldTerms}
use Rattle.gdmo_names.specs.TemplateTerms.BodyTerm.{NotificationBody}
use Rattle.gdmo_names.specs.TemplateTerms.FieldTerms.{NoFields}

-- there are no fields where no type of the information is stated
abbrev pub StandBeside : Option QualifiedName → FieldTerms → Type 0
StandBeside None stated = stated ≡ NoFields
StandBeside (Some information) stated = Unit {0}

-- so it is in a notification
abbrev pub HasInformation : BodyTerm → Type 0
HasInformation (NotificationBody behaviours parameters information stated reply) = StandBeside information stated
HasInformation _ = Unit {0}

abbrev pub HaveInformation : PartTerms → Type 0
HaveInformation parts = (by : Placed) → Contains (templates parts) by → HasInformation (body_of by.template)
