-- TableLaws: the templates of tables, and the identifiers of what is linked of them.
use Rattle.std.specs.Prelude.{◌≡◌, ℕ, zero, suc, ◌∷◌, [], List, Bool, true, false, Option, None, Some, All}
use Rattle.std.specs.Prelude.{Contains, get_or, if◌then◌else◌, option_and_then, refl, slice_get}
use Rattle.std.proofs.Common.{◌∙◌, ap, arith, sym}
use Rattle.std.proofs.lemmas.Bool.{eqb-true}
use Rattle.std.proofs.lemmas.Option.{same_Some, slice_get-get_or}
use Rattle.gdmo_names.specs.InStep.{AreEach}
use Rattle.gdmo_names.specs.PartTerms.{Placed, PartTerms, identifier_of, kind_of}
use Rattle.gdmo_names.specs.TemplateTerms.{BodyTerm, IdentifierTerm, TemplateKind}
use Rattle.gdmo_names.specs.TemplateTerms.TemplateKind.{ActionKind, AttributeKind, BehaviourKind, BindingKind}
use Rattle.gdmo_names.specs.TemplateTerms.TemplateKind.{ClassKind, GroupKind, NotificationKind, PackageKind}
use Rattle.gdmo_names.specs.TemplateTerms.TemplateKind.{ParameterKind}
use Rattle.gdmo_linking.specs.LinkedNames.{IsLinkedIdentifier}
use Rattle.gdmo_linking.specs.LinkedTables.{is_kind, kind_number, of_kind}
use Rattle.gdmo_linking.proofs.StepLaws.{each_at, each_from}
use Rattle.linked_parts.specs.declared.linked.LinkedHead.{LinkedHead}
use Rattle.linked_templates.specs.TemplateTables.{IsTemplate}
use Rattle.schema_records.specs.RegisteredParts.{HasIdentifier, IsRegisteredAt}

-- ---- elements of lists

pub first_of : {A : Type 0} (x : A) (xs : List A) → Contains (x ∷ xs) x
first_of x xs = (0, omega arith, refl)

pub later_of : {A : Type 0} (x y : A) (xs : List A) → Contains xs y → Contains (x ∷ xs) y
later_of x y xs has = (suc has.0, (let w = has.1 in omega (arith, w)), has.2)

-- ---- kinds

abbrev kind_of_number : ℕ → TemplateKind
kind_of_number n = get_or (ClassKind ∷ PackageKind ∷ ParameterKind ∷ BindingKind ∷ AttributeKind ∷ GroupKind ∷
    BehaviourKind ∷ ActionKind ∷ []) n NotificationKind

number_back : (kind : TemplateKind) → kind_of_number (kind_number kind) ≡ kind
number_back ClassKind = refl
number_back PackageKind = refl
number_back ParameterKind = refl
number_back BindingKind = refl
number_back AttributeKind = refl
number_back GroupKind = refl
number_back BehaviourKind = refl
number_back ActionKind = refl
number_back NotificationKind = refl

one_kind : (kind : TemplateKind) (x : Placed) → is_kind kind x ≡ true → kind_of x.template ≡ kind
one_kind kind x is = sym (number_back (kind_of x.template))
    ∙ ap kind_of_number (eqb-true (kind_number (kind_of x.template)) (kind_number kind) is) ∙ number_back kind

-- what stands in a table of templates of a kind
pub record StandsIn (kind : TemplateKind) (xs : List Placed) (x : Placed) : Type 0 where
  pub stands : Contains xs x
  pub of_kind : kind_of x.template ≡ kind

pub stands_at : (kind : TemplateKind) (xs : List Placed) (k : ℕ) (x : Placed) →
    slice_get (of_kind kind xs) k ≡ Some x → StandsIn kind xs x
unfolding of_kind
stands_at kind [] k x at = absurd (cc)
stands_at kind (y ∷ ys) k x at = by (is_kind kind y) refl (λ j there. stands_at kind ys j x there) k at
  where
    behind : StandsIn kind ys x → StandsIn kind (y ∷ ys) x
    behind found = record { stands = later_of y x ys found.stands; of_kind = found.of_kind }

    by : (test : Bool) → is_kind kind y ≡ test →
        ((j : ℕ) → slice_get (of_kind kind ys) j ≡ Some x → StandsIn kind ys x) → (k : ℕ) →
        slice_get (if test then y ∷ of_kind kind ys else of_kind kind ys) k ≡ Some x → StandsIn kind (y ∷ ys) x
    by true is further zero here = record {
      stands = (0, omega arith, same_Some y x here);
      of_kind = ap (λ (z : Placed). kind_of z.template) (sym (same_Some y x here)) ∙ one_kind kind y is;
    }
    by true is further (suc k) there = behind (further k there)
    by false is further k there = behind (further k there)

-- ---- identifiers

-- what is linked of an identifier is one
pub identifier_told : (parts : PartTerms) (stated : Option IdentifierTerm) (own : Option (List ℕ))
    (x : IdentifierTerm) → stated ≡ Some x → IsLinkedIdentifier parts stated own → (id : List ℕ) × (own ≡ Some id)
identifier_told parts None own x is told = absurd (cc)
identifier_told parts (Some y) None x is told = absurd told
identifier_told parts (Some y) (Some id) x is told = (id, refl)

module _ {L : Type 0} (parts : PartTerms) (head : L → LinkedHead) (is : ℕ → BodyTerm → L → Type 0) where
  pub head_identifier : (x : Placed) (y : L) (own : IdentifierTerm) → identifier_of x.template ≡ Some own →
      IsTemplate parts head is x y → HasIdentifier (head y)
  head_identifier x y own registered told =
      identifier_told parts (identifier_of x.template) (head y).identifier own registered told.0.identifier

  -- what is linked of a registered template is registered
  pub registered_at : (xs : List Placed) (ys : List L) (k : ℕ) (x : Placed) (own : IdentifierTerm) →
      AreEach (IsTemplate parts head is) xs ys → slice_get xs k ≡ Some x → identifier_of x.template ≡ Some own →
      IsRegisteredAt head ys k
  registered_at xs ys k x own each at registered =
      let found = each_at (IsTemplate parts head is) xs ys k x each at in
      let id = head_identifier x found.0 own registered found.2 in
      (id.0, ap (option_and_then (λ y. (head y).identifier)) found.1 ∙ id.1)

  -- what holds of each that is linked of a template of a kind holds of a table
  pub each_linked : (P : L → Type 0) (kind : TemplateKind) (xs : List Placed) (ys : List L) →
      ((x : Placed) (y : L) → StandsIn kind xs x → IsTemplate parts head is x y → P y) →
      AreEach (IsTemplate parts head is) (of_kind kind xs) ys → All P ys
  each_linked P kind xs ys step each n d within =
      let found = each_from (IsTemplate parts head is) (of_kind kind xs) ys n (get_or ys n d) each
      (slice_get-get_or ys n d within) in
      step found.0 (get_or ys n d) (stands_at kind xs n found.0 found.1) found.2
