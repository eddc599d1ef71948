-- PackageTexts: which linked attribute or group is that of which one in the text of a package (X.722, section 8.4).
use Rattle.std.specs.Prelude.{ℕ, List, [], ◌∷◌, ◌++◌}
use Rattle.linked_parts.specs.declared.linked.LinkedGroupUse.{LinkedGroupUse}
use Rattle.linked_parts.specs.declared.linked.LinkedUse.{LinkedUse}
use Rattle.gdmo_classes.specs.declared.attribute_use.AttributeUse.{AttributeUse}
use Rattle.gdmo_classes.specs.declared.member_use.GroupUse.{GroupUse}
use Rattle.gdmo_linking.specs.LinkedTables.{Links, AreLinked}
use Rattle.gdmo_linking.specs.Linkers.{IsNamed}
use Rattle.gdmo_names.specs.ClassViews.{group_reference, property_words, stated_term}
use Rattle.gdmo_names.specs.InStep.{AreAll}
use Rattle.gdmo_names.specs.MemberViews.{attribute_reference, reference_terms}
use Rattle.gdmo_names.specs.Mentions.{Mention, mentions}
use Rattle.gdmo_names.specs.Mentions.Role.{PackageAttribute, PackageGroup, AddedAttribute}
use Rattle.gdmo_names.specs.PartTerms.{PartTerms}
use Rattle.gdmo_names.specs.TemplateTerms.{ReferenceTerms}
use Rattle.gdmo_names.specs.TypeMeaning.{name_list, stated_values}
use Rattle.linked_packages.specs.LinkedPackages.{IsUse}

-- an attribute of a package
abbrev pub LinksUse : PartTerms → ℕ → AttributeUse → ℕ → Type 0
LinksUse parts document own k = Links parts document PackageAttribute (attribute_reference own.attribute) k

abbrev pub IsUseText : PartTerms → ℕ → AttributeUse → LinkedUse → Type 0
IsUseText parts document own x = IsUse parts document (attribute_reference own.attribute)
    (stated_term own.properties.default_value) (stated_term own.properties.initial_value)
    own.properties.permitted_values own.properties.required_values (property_words own.properties) x

-- the values and types that it names mean something
pub record IsNamedUse (parts : PartTerms) (own : AttributeUse) : Type 0 where
  pub named_default : AreAll (IsNamed parts) (stated_values (stated_term own.properties.default_value))
  pub named_initial : AreAll (IsNamed parts) (stated_values (stated_term own.properties.initial_value))
  pub named_permitted : AreAll (IsNamed parts) (name_list own.properties.permitted_values)
  pub named_required : AreAll (IsNamed parts) (name_list own.properties.required_values)

-- a group of a package, with the attributes that are added to it
abbrev pub LinksGroup : PartTerms → ℕ → GroupUse → ℕ → Type 0
LinksGroup parts document own k = Links parts document PackageGroup (group_reference own.group) k

abbrev pub added_terms : GroupUse → ReferenceTerms
added_terms own = reference_terms attribute_reference own.attributes.items

pub record IsGroupText (parts : PartTerms) (document : ℕ) (own : GroupUse) (x : LinkedGroupUse) : Type 0 where
  pub is_group : LinksGroup parts document own x.group
  pub are_added : AreLinked parts document AddedAttribute (added_terms own) x.added.items

-- what is added to groups, one after the other
abbrev pub added_mentions : List GroupUse → List Mention
added_mentions [] = []
added_mentions (x ∷ xs) = mentions AddedAttribute (added_terms x) ++ added_mentions xs
