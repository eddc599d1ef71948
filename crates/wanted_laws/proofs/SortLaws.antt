-- SortLaws: where nothing is wrong with the references, each linked name of a type means a type, and each one of a
-- value means a value (X.722, section 8; docs/PROFILE.md, section 12).
use Rattle.std.specs.Prelude.{ℕ, List, Option, None, Some, Contains, IfSome, refl}
use Rattle.std.proofs.Common.{arith}
use Rattle.std.proofs.Math.Path.{subst}
use Rattle.token_grammar.specs.declared.qualified_name.QualifiedName.{QualifiedName}
use Rattle.token_grammar.specs.declared.token.Token.{Token}
use Rattle.asn1_names.specs.ModuleFaults.{IsNoValue}
use Rattle.asn1_names.specs.NameMeaning.{Meaning}
use Rattle.asn1_names.specs.NodeCount.{IsNoType}
use Rattle.linked_parts.specs.declared.linked.LinkedName.{LinkedName}
use Rattle.linked_parts.specs.declared.linked.NamedMeaning.{NamedMeaning}
use Rattle.gdmo_names.specs.FirstLabelFault.{AreFaultless}
use Rattle.gdmo_names.specs.FirstLabelFault.LabelFault.{KindWrong}
use Rattle.gdmo_names.specs.PartTerms.{PartTerms, module_terms_of}
use Rattle.gdmo_names.specs.TemplateTerms.{StatedTerm}
use Rattle.gdmo_names.specs.TemplateTerms.StatedTerm.{ByRule, NotStated, StatedValue}
use Rattle.gdmo_names.specs.TypeMeaning.{NamesType, NamesValue, name_list, qualified_meaning, stated_values}
use Rattle.gdmo_names.specs.WrongKinds.{IsOfOtherSort, IsTypeMeaning, IsValueMeaning}
use Rattle.gdmo_names.specs.WrongKinds.IsOfOtherSort.{type_for_value, value_for_type}
use Rattle.gdmo_names.specs.WrongKinds.WrongKindAt.{other_sort}
use Rattle.gdmo_linking.specs.LinkedNames.{IsLinkedName, IsMeant, IsOptionalName, stated_name}
use Rattle.gdmo_linking.specs.LinkedNames.IsMeant.{of_standard, of_type, of_value}
use Rattle.meant_names.specs.WantedMeanings.{MeansType, MeansValue}
use Rattle.wanted_laws.proofs.MeaningLaws.{same_meaning}

-- what is linked means something: a type, or a value
value_if_none : {name : Token} (meaning : Meaning) (told : NamedMeaning) → IsMeant name meaning told →
    IsNoType meaning → IsValueMeaning meaning
value_if_none _ _ of_type none = none
value_if_none _ _ of_value none = tt
value_if_none _ _ of_standard none = none

type_if_none : {name : Token} (meaning : Meaning) (told : NamedMeaning) → IsMeant name meaning told →
    IsNoValue meaning → IsTypeMeaning meaning
type_if_none _ _ of_type none = tt
type_if_none _ _ of_value none = none
type_if_none _ _ of_standard none = tt

-- each of these names is one of a type, or of a value, that a template of the document names
abbrev pub AreTypes : PartTerms → ℕ → List QualifiedName → Type 0
AreTypes parts document names = (name : QualifiedName) → Contains names name → NamesType parts document name

abbrev pub AreValues : PartTerms → ℕ → List QualifiedName → Type 0
AreValues parts document names = (name : QualifiedName) → Contains names name → NamesValue parts document name

module _ (parts : PartTerms) (faultless : AreFaultless parts) (document : ℕ) where
  never_other : (name : QualifiedName) → ¬ IsOfOtherSort parts document name
  never_other name other = faultless KindWrong document name.name.at (other_sort other refl)

  pub means_type : (name : QualifiedName) (linked : LinkedName) → NamesType parts document name →
      IsLinkedName parts name linked → MeansType (module_terms_of parts) linked
  means_type name linked names is none =
      let ms = module_terms_of parts in
      never_other name (value_for_type names (value_if_none (qualified_meaning ms name) linked.meaning is.meant
      (subst IsNoType (same_meaning ms name linked.meaning is.meant) none)))

  pub means_value : (name : QualifiedName) (linked : LinkedName) → NamesValue parts document name →
      IsLinkedName parts name linked → MeansValue (module_terms_of parts) linked
  means_value name linked names is none =
      let ms = module_terms_of parts in
      never_other name (type_for_value names (type_if_none (qualified_meaning ms name) linked.meaning is.meant
      (subst IsNoValue (same_meaning ms name linked.meaning is.meant) none)))

  -- ---- names that may be left out

  pub optional_type : (stated : Option QualifiedName) (linked : Option LinkedName) →
      AreTypes parts document (name_list stated) → IsOptionalName parts stated linked →
      IfSome linked (MeansType (module_terms_of parts))
  optional_type None None names is = tt
  optional_type None (Some x) names is = absurd is
  optional_type (Some name) None names is = absurd is
  optional_type (Some name) (Some x) names is = means_type name x (names name (0, omega arith, refl)) is

  pub stated_value : (stated : StatedTerm) (linked : Option LinkedName) →
      AreValues parts document (stated_values stated) →
      IsOptionalName parts (stated_name stated) linked → IfSome linked (MeansValue (module_terms_of parts))
  stated_value NotStated None names is = tt
  stated_value NotStated (Some x) names is = absurd is
  stated_value (StatedValue name) None names is = absurd is
  stated_value (StatedValue name) (Some x) names is = means_value name x (names name (0, omega arith, refl)) is
  stated_value (ByRule rule) None names is = tt
  stated_value (ByRule rule) (Some x) names is = absurd is
