-- MemberTexts: which linked field is that of which field of a notification (X.722, section 8.11).
use Rattle.std.specs.Prelude.{◌≡◌, ℕ}
use Rattle.linked_parts.specs.declared.linked.LinkedField.{LinkedField}
use Rattle.gdmo_members.specs.declared.notification.Field.{Field as FieldText}
use Rattle.gdmo_linking.specs.LinkedTables.{Links}
use Rattle.gdmo_names.specs.MemberViews.{attribute_reference}
use Rattle.gdmo_names.specs.Mentions.Role.{FieldAttribute}
use Rattle.gdmo_names.specs.PartTerms.{PartTerms}

-- a field of a notification
abbrev pub LinksField : PartTerms → ℕ → FieldText → ℕ → Type 0
LinksField parts document own k = Links parts document FieldAttribute (attribute_reference own.attribute) k

pub record IsFieldText (parts : PartTerms) (document : ℕ) (own : FieldText) (x : LinkedField) : Type 0 where
  pub is_name : own.name ≡ x.name
  pub is_attribute : LinksField parts document own x.attribute
