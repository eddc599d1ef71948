-- Linkers: what is known where references are linked: none is missing, and templates and assignments have their places
-- (X.722, section 8; docs/PROFILE.md, section 12).
use Rattle.std.specs.Prelude.{◌≡◌, ◌≢◌, ℕ, List, Option, None, Some, get_or, map, slice_get}
use Rattle.token_grammar.specs.declared.qualified_name.QualifiedName.{QualifiedName}
use Rattle.asn1_names.specs.AssignmentNumbers.{Numbered, all_numbered}
use Rattle.asn1_names.specs.ModuleTerms.{ModuleTerm}
use Rattle.asn1_names.specs.NameMeaning.Meaning.{Nothing}
use Rattle.gdmo_names.specs.FoundViews.{body_term, found_term, found_views}
use Rattle.gdmo_names.specs.InStep.{AreAll, AreEach}
use Rattle.gdmo_names.specs.LabelMeaning.{Means}
use Rattle.gdmo_names.specs.Mentions.{Mention, template_mentions}
use Rattle.gdmo_names.specs.PartTerms.{Placed, PartTerms, kind_of, module_terms_of}
use Rattle.gdmo_names.specs.TargetTables.{HasMentions, TellsMention}
use Rattle.gdmo_names.specs.TypeMeaning.{qualified_meaning, type_names, value_names}
use Rattle.gdmo_names.specs.declared.found.Found.{Found}
use Rattle.gdmo_types.specs.Linkages.{IsLinkage}
use Rattle.gdmo_linking.specs.LinkedTables.{Links, of_kind}
use Rattle.gdmo_linking.specs.declared.linking.Linker.{Linker}

-- what is named in a document means a template of the kind that is wanted
abbrev pub IsMeant : PartTerms → ℕ → Mention → Type 0
IsMeant parts document x = (to : Placed) × Means parts document x.role x.reference to

-- a name means a type or a value
abbrev pub IsNamed : PartTerms → QualifiedName → Type 0
IsNamed parts name = qualified_meaning (module_terms_of parts) name ≢ Nothing

-- what is named in a document is linked by a number
abbrev pub LinksMention : PartTerms → ℕ → Mention → ℕ → Type 0
LinksMention parts document x k = Links parts document x.role x.reference k

-- each template has its place among those of its kind
abbrev pub HasPlace : List Placed → Placed → ℕ → Type 0
HasPlace xs x k = slice_get (of_kind (kind_of x.template) xs) k ≡ Some x

abbrev pub ArePlaces : List Placed → List ℕ → Type 0
ArePlaces xs places = AreEach (HasPlace xs) xs places

-- each assignment is told by the place of its module and its place in it
abbrev pub place_of : Numbered → ℕ × ℕ
place_of x = (x.in_module, x.place)

abbrev pub ArePlacesOf : List ModuleTerm → List (ℕ × ℕ) → Type 0
ArePlacesOf ms places = places ≡ map place_of (all_numbered 0 ms)

-- what stands at the place of a number
abbrev pub place_at : List ℕ → Option ℕ → ℕ
place_at places None = 0
place_at places (Some n) = get_or places n 0

pub record IsLinker (parts : PartTerms) (linker : Linker) : Type 0 where
  pub linkage : IsLinkage parts linker.linkage
  pub places : ArePlaces (found_views linker.linkage.templates.now) linker.places.now
  pub assignments : ArePlacesOf (module_terms_of parts) linker.assignments.now

-- a template was found, with the numbers of the templates that it names, and no reference in it is missing
pub record IsOwn (parts : PartTerms) (linker : Linker) (own : Found) (targets : List (Option ℕ)) : Type 0 where
  pub knows : IsLinker parts linker
  pub mentions : HasMentions linker.linkage.templates.now own
  pub told : AreEach (TellsMention parts linker.linkage.templates.now own.document)
      (template_mentions (found_term own)) targets
  pub meant : AreAll (IsMeant parts own.document) (template_mentions (found_term own))
  pub types : AreAll (IsNamed parts) (type_names (body_term own.body))
  pub values : AreAll (IsNamed parts) (value_names (body_term own.body))
