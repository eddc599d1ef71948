-- LinkedTables: where linked parts tell a template by a number: the place, counted from 0, among the templates of its
-- kind in the order of DocumentTemplates; and what they tell of first names (docs/PROFILE.md, section 12). Of the
-- texts of DEFAULT in types they tell nothing: resolved modules do (ResolvedTypes of asn1_names).
use Rattle.std.specs.Prelude.{◌≡◌, ◌==◌, ◌≤◌, ℕ, List, [], ◌∷◌, Bool, None, Some, Contains, length, slice_get}
use Rattle.std.specs.Prelude.{if◌then◌else◌}
use Rattle.gdmo_names.specs.BegunNames.{BeginsOne}
use Rattle.gdmo_names.specs.DocumentTemplates.{templates}
use Rattle.gdmo_names.specs.DoubleNames.{ValueHasArcs}
use Rattle.gdmo_names.specs.FirstNames.{DefinesNameFirst, root_arc}
use Rattle.gdmo_names.specs.LabelMeaning.{Means}
use Rattle.gdmo_names.specs.Mentions.{Role, wanted_kind}
use Rattle.gdmo_names.specs.PartTerms.{Placed, PartTerms, kind_of}
use Rattle.gdmo_names.specs.TemplateTerms.{TemplateKind, ReferenceTerm, ReferenceTerms}
use Rattle.gdmo_names.specs.TemplateTerms.ReferenceTerms.{NoReferences, Reference}
use Rattle.gdmo_names.specs.TemplateTerms.TemplateKind.{ClassKind, PackageKind, ParameterKind, BindingKind}
use Rattle.gdmo_names.specs.TemplateTerms.TemplateKind.{AttributeKind, GroupKind, BehaviourKind, ActionKind}
use Rattle.gdmo_names.specs.TemplateTerms.TemplateKind.{NotificationKind}

-- a number for each kind, by which two kinds are told apart
abbrev pub kind_number : TemplateKind → ℕ
kind_number ClassKind = 0
kind_number PackageKind = 1
kind_number ParameterKind = 2
kind_number BindingKind = 3
kind_number AttributeKind = 4
kind_number GroupKind = 5
kind_number BehaviourKind = 6
kind_number ActionKind = 7
kind_number NotificationKind = 8

abbrev pub is_kind : TemplateKind → Placed → Bool
is_kind kind x = kind_number (kind_of x.template) == kind_number kind

-- the templates of a kind
unfoldable pub of_kind : TemplateKind → List Placed → List Placed
of_kind kind [] = []
of_kind kind (x ∷ xs) = if is_kind kind x then x ∷ of_kind kind xs else of_kind kind xs

abbrev pub table : PartTerms → TemplateKind → List Placed
table parts kind = of_kind kind (templates parts)

-- a reference that stands in a document in this role is linked by the number k
pub record Links (parts : PartTerms) (document : ℕ) (role : Role) (reference : ReferenceTerm) (k : ℕ) : Type 0 where
  pub to : Placed
  pub means : Means parts document role reference to
  pub at : slice_get (table parts (wanted_kind role)) k ≡ Some to

-- references in a row that stand in a document in this role are linked by these numbers
pub data AreLinked (parts : PartTerms) (document : ℕ) (role : Role) : ReferenceTerms → List ℕ → Type 0 where
  no_more : AreLinked parts document role NoReferences []
  another : {x : ReferenceTerm} {xs : ReferenceTerms} {k : ℕ} {ks : List ℕ} → Links parts document role x k →
      AreLinked parts document role xs ks → AreLinked parts document role (Reference x xs) (k ∷ ks)

-- The arcs for which a first name stands: those that the first module gives it that defines it. More than 64 are those
-- of no object identifier, and they aren't told.
pub record StandsForArcs (parts : PartTerms) (name arcs : List ℕ) : Type 0 where
  pub begins : BeginsOne parts name
  pub no_root : root_arc name ≡ None
  pub m : ℕ
  pub i : ℕ
  pub defines : DefinesNameFirst parts name m i
  pub has : ValueHasArcs parts m i arcs
  pub few : length arcs ≤ 64

-- pairs of a name and its arcs tell each first name with which some identifier or value begins, and nothing else
pub record TellFirstNames (parts : PartTerms) (told : List (List ℕ × List ℕ)) : Type 0 where
  pub right : (name arcs : List ℕ) → Contains told (name, arcs) → StandsForArcs parts name arcs
  pub all : (name arcs : List ℕ) → StandsForArcs parts name arcs → Contains told (name, arcs)
