-- LinkedPackages: which linked package is that of which template, field by field (X.722, section 8.4; docs/PROFILE.md,
-- section 12).
use Rattle.std.specs.Prelude.{◌≡◌, ℕ, List, [], ◌∷◌, Option, codes}
use Rattle.std.specs.List.{list_any}
use Rattle.token_grammar.specs.declared.qualified_name.QualifiedName.{QualifiedName}
use Rattle.token_grammar.specs.declared.token.Token.{Token}
use Rattle.token_grammar.specs.TokenTests.{is_word_of}
use Rattle.linked_parts.specs.declared.linked.LinkedGroupUse.{LinkedGroupUse}
use Rattle.linked_parts.specs.declared.linked.LinkedPackage.{LinkedPackage}
use Rattle.linked_parts.specs.declared.linked.LinkedUse.{LinkedUse}
use Rattle.gdmo_names.specs.LabelMeaning.{reference_token}
use Rattle.gdmo_linking.specs.LinkedNames.{IsOptionalName, stated_name, has_either, first_of}
use Rattle.gdmo_linking.specs.LinkedTables.{Links, AreLinked}
use Rattle.gdmo_names.specs.Mentions.{Role}
use Rattle.gdmo_names.specs.Mentions.Role.{PackageAttribute, PackageGroup, AddedAttribute, PackageAction}
use Rattle.gdmo_names.specs.Mentions.Role.{PackageNotification}
use Rattle.gdmo_names.specs.PartTerms.{PartTerms}
use Rattle.gdmo_names.specs.TemplateTerms.{ReferenceTerm, BodyTerm, StatedTerm}
use Rattle.gdmo_names.specs.TemplateTerms.{UseTerms, RowTerms}
use Rattle.gdmo_names.specs.TemplateTerms.BodyTerm.{PackageBody}
use Rattle.gdmo_names.specs.TemplateTerms.UseTerms.{NoUses, Use}
use Rattle.gdmo_names.specs.TemplateTerms.RowTerms.{NoRows, Row}

-- an attribute of a package, with its values, its types and the words of its other properties
pub record IsUse (parts : PartTerms) (document : ℕ) (attribute : ReferenceTerm) (default initial : StatedTerm)
    (permitted required : Option QualifiedName) (words : List Token) (x : LinkedUse) : Type 0 where
  pub is_attribute : Links parts document PackageAttribute attribute x.attribute
  pub is_token : reference_token attribute ≡ x.token
  pub is_default : IsOptionalName parts (stated_name default) x.default_value
  pub is_initial : IsOptionalName parts (stated_name initial) x.initial_value
  pub is_permitted : IsOptionalName parts permitted x.permitted
  pub is_required : IsOptionalName parts required x.required
  pub gets : has_either (codes "GET") (codes "GET-REPLACE") words ≡ x.get
  pub replaces : has_either (codes "REPLACE") (codes "GET-REPLACE") words ≡ x.replace
  pub adds : first_of (codes "ADD") (codes "ADD-REMOVE") words ≡ x.add
  pub removes : first_of (codes "REMOVE") (codes "ADD-REMOVE") words ≡ x.remove
  pub sets_default : list_any (is_word_of (codes "REPLACE-WITH-DEFAULT")) words ≡ x.set_to_default

abbrev pub AreUses : PartTerms → ℕ → UseTerms → List LinkedUse → Type 0
AreUses parts document NoUses [] = Unit {0}
AreUses parts document (Use attribute default initial permitted required words parameters rest) (x ∷ xs) =
    IsUse parts document attribute default initial permitted required words x × AreUses parts document rest xs
AreUses parts document _ _ = ⊥

abbrev pub AreGroupUses : PartTerms → ℕ → RowTerms → List LinkedGroupUse → Type 0
AreGroupUses parts document NoRows [] = Unit {0}
AreGroupUses parts document (Row group added rest) (x ∷ xs) =
    Links parts document PackageGroup group x.group × AreLinked parts document AddedAttribute added x.added.items
    × AreGroupUses parts document rest xs
AreGroupUses parts document _ _ = ⊥

-- actions, or notifications; their parameters say nothing that is compiled
abbrev pub AreRows : PartTerms → ℕ → Role → RowTerms → List ℕ → Type 0
AreRows parts document role NoRows [] = Unit {0}
AreRows parts document role (Row one parameters rest) (k ∷ ks) =
    Links parts document role one k × AreRows parts document role rest ks
AreRows parts document role _ _ = ⊥

pub record IsPackage (parts : PartTerms) (document : ℕ) (uses : UseTerms) (groups actions notifications : RowTerms)
    (x : LinkedPackage) : Type 0 where
  pub attributes_are : AreUses parts document uses x.attributes.items
  pub groups_are : AreGroupUses parts document groups x.groups.items
  pub actions_are : AreRows parts document PackageAction actions x.actions.items
  pub notifications_are : AreRows parts document PackageNotification notifications x.notifications.items

abbrev pub IsPackageOf : PartTerms → ℕ → BodyTerm → LinkedPackage → Type 0
IsPackageOf parts document (PackageBody behaviours uses groups actions notifications) x =
    IsPackage parts document uses groups actions notifications x
IsPackageOf parts document _ x = ⊥
