-- TextLaws: the fields of notifications with the targets of their references (X.722, section 8.11).
use Rattle.std.specs.Prelude.{ℕ, List, [], ◌∷◌}
use Rattle.linked_parts.specs.declared.linked.LinkedField.{LinkedField}
use Rattle.gdmo_members.specs.declared.notification.Field.{Field as FieldText}
use Rattle.linked_templates.specs.LinkedMembers.{AreFields}
use Rattle.gdmo_linking.specs.Linkers.{LinksMention}
use Rattle.linked_templates.specs.MemberTexts.{IsFieldText, LinksField}
use Rattle.gdmo_names.specs.InStep.{AreEach}
use Rattle.gdmo_names.specs.MemberViews.{field_terms}
use Rattle.gdmo_names.specs.Mentions.{field_mentions}
use Rattle.gdmo_names.specs.PartTerms.{PartTerms}

pub field_links : (parts : PartTerms) (document : ℕ) (xs : List FieldText) (ks : List ℕ) →
    AreEach (LinksMention parts document) (field_mentions (field_terms xs)) ks →
    AreEach (LinksField parts document) xs ks
field_links parts document [] [] each = tt
field_links parts document [] (k ∷ ks) each = absurd each
field_links parts document (x ∷ xs) [] each = absurd each
field_links parts document (x ∷ xs) (k ∷ ks) each = (each.0, field_links parts document xs ks each.1)

pub are_fields : (parts : PartTerms) (document : ℕ) (xs : List FieldText) (ys : List LinkedField) →
    AreEach (IsFieldText parts document) xs ys → AreFields parts document (field_terms xs) ys
are_fields parts document [] [] each = tt
are_fields parts document [] (y ∷ ys) each = absurd each
are_fields parts document (x ∷ xs) [] each = absurd each
are_fields parts document (x ∷ xs) (y ∷ ys) each =
    (each.0.is_name, each.0.is_attribute, are_fields parts document xs ys each.1)
