-- Which values of an object that is created were tested, and how: those of the list, and those from elsewhere that the
-- agent doesn't write.
use Rattle.std.proofs.Common.{◌≡◌, ℕ, Bool, true, false, List, [], ◌∷◌, Option, None, Some, refl, sym, ap, ◌∙◌}
use Rattle.std.proofs.Common.{subst, inl, inr}
use Rattle.std.proofs.lemmas.Bool.{and_parts, false≢true}
use Rattle.std.specs.Prelude.{◌++◌, Contains, find, not, option_and_then, if◌then◌else◌}
use Rattle.std.specs.List.{list_any}
use Rattle.std.specs.Option.{option_map_or}
use Rattle.term_values.specs.Typed.{TypedValue}
use Rattle.term_model.specs.declared.creation.Creation.{Creation}
use Rattle.term_model.specs.declared.creation.Outline.{Outline}
use Rattle.term_model.specs.declared.filter_item.Given.{Given}
use Rattle.term_model.specs.declared.request.IdRef.TheVariants as ids
use Rattle.term_model.specs.declared.schema.Set.{Set}
use Rattle.term_model.specs.CmisErrors.{invalid_attribute_value, no_such_attribute}
use Rattle.term_model.specs.Comparing.{is_same_oid}
use Rattle.term_model.specs.CreateSteps.{attribute_error, fails, given_error, is_exempt, is_good_member}
use Rattle.term_model.specs.CreateSteps.{is_good_value, list_error, may_stand, member_error, octets_of}
use Rattle.term_model.specs.CreateSteps.{other_value_error, others_error}
use Rattle.term_model.specs.CreateValues.{created_value, gives, listed_value}
use Rattle.term_model.specs.Creation.{registered}
use Rattle.term_model.specs.PresentPackages.{is_among}
use Rattle.package_laws.proofs.Members.{first_or_later, here, nowhere, same_id, there}
use Rattle.opening_laws.proofs.Made.{first_none, second_none}

-- ---- members of the list

-- a member of the list whose attribute is this one
abbrev pub GivesIt : List ℕ → Given → TypedValue → Type 0
GivesIt id given value = (gives id given ≡ true) × (given.value ≡ Some value)

good_member : (schema : Set) (creation : Creation) (attributes : List (List ℕ)) (before : List Given) (given : Given)
    (id : List ℕ) → member_error schema creation attributes before given id ≡ None
    → is_good_member schema creation before id given ≡ true
good_member schema creation attributes before given id e =
    by (is_among attributes id) (is_good_member schema creation before id given) refl e
  where
    by : (b c : Bool) → is_good_member schema creation before id given ≡ c
        → (if b then (if c then None else fails 8 (invalid_attribute_value given.id given.raw))
        else fails 8 (no_such_attribute given.id)) ≡ None
        → is_good_member schema creation before id given ≡ true
    by true true is f = is
    by true false is f = absurd (cc)
    by false c is f = absurd (cc)

given_good : (schema : Set) (creation : Creation) (attributes : List (List ℕ)) (before : List Given) (given : Given)
    (id : List ℕ) (value : TypedValue) → given_error schema creation attributes before given ≡ None
    → GivesIt id given value → is_good_value schema creation id value ≡ true
given_good schema creation attributes before given id value e gives_it =
    by (registered given.id) gives_it.0 e
  where
    by : (o : Option (List ℕ)) → option_map_or (λ one. is_same_oid one id) o false ≡ true
        → option_map_or (member_error schema creation attributes before given) o
        (fails 8 (no_such_attribute given.id)) ≡ None
        → is_good_value schema creation id value ≡ true
    by None is f = absurd (false≢true is)
    by (Some own) is f =
        let same : own ≡ id = (same_id own id).0 is in
        let good = good_member schema creation attributes before given own f in
        let tests = and_parts (not (list_any (gives own) before))
        (option_map_or (is_good_value schema creation own) given.value false) good in
        subst (λ one. is_good_value schema creation one value ≡ true) same
        (subst (λ o. option_map_or (is_good_value schema creation own) o false ≡ true) gives_it.1 tests.1)

pub each_given_good : (schema : Set) (creation : Creation) (attributes : List (List ℕ)) (before given : List Given)
    (one : Given) (id : List ℕ) (value : TypedValue) → list_error schema creation attributes before given ≡ None
    → Contains given one → GivesIt id one value → is_good_value schema creation id value ≡ true
each_given_good schema creation attributes before [] one id value e at gives_it = absurd (nowhere one at)
each_given_good schema creation attributes before (first ∷ others) one id value e at gives_it =
    elim (first_or_later first one others at) [
      | inl same ↦
          given_good schema creation attributes before one id value
          (subst (λ (given : Given). given_error schema creation attributes before given ≡ None) same
          (first_none (given_error schema creation attributes before first)
          (list_error schema creation attributes (before ++ first ∷ []) others) e)) gives_it
      | inr later ↦
          each_given_good schema creation attributes (before ++ first ∷ []) others one id value
          (second_none (given_error schema creation attributes before first)
          (list_error schema creation attributes (before ++ first ∷ []) others) e) later gives_it
    ]

among : (list : List Given) (id : List ℕ) (value : TypedValue)
    → option_and_then (λ (given : Given). given.value) (find (gives id) list) ≡ Some value
    → (given : Given) × Contains list given × GivesIt id given value
among [] id value e = absurd (cc)
among (first ∷ others) id value e = by (gives id first) refl (among others id value) e
  where
    by : (b : Bool) → gives id first ≡ b
        → (option_and_then (λ (given : Given). given.value) (find (gives id) others) ≡ Some value
        → (given : Given) × Contains others given × GivesIt id given value)
        → option_and_then (λ (given : Given). given.value) (if b then Some first else find (gives id) others)
        ≡ Some value
        → (given : Given) × Contains (first ∷ others) given × GivesIt id given value
    by true is behind f = (first, here first others, (is, f))
    by false is behind f =
        let found = behind f in
        (found.0, there first found.0 others found.1, found.2)

-- the member that gives the value of an attribute
pub listed_from : (creation : Creation) (id : List ℕ) (value : TypedValue) → listed_value creation id ≡ Some value
    → (given : Given) × Contains creation.given given × GivesIt id given value
listed_from creation id value e = among creation.given id value e

-- ---- values from elsewhere

may_stand_so : (schema : Set) (creation : Creation) (id : List ℕ) (value : TypedValue)
    → other_value_error schema creation id value ≡ None → may_stand schema creation.class id value ≡ true
may_stand_so schema creation id value e = by (may_stand schema creation.class id value) refl e
  where
    by : (b : Bool) → may_stand schema creation.class id value ≡ b
        → (if b then None
        else fails 10 (invalid_attribute_value (ids.Global id) (octets_of schema id value))) ≡ None
        → may_stand schema creation.class id value ≡ true
    by true is f = is
    by false is f = absurd (cc)

other_stands : (schema : Set) (creation : Creation) (outline : Outline) (id : List ℕ) (value : TypedValue)
    → attribute_error schema creation outline id ≡ None → is_exempt schema creation outline id ≡ false
    → created_value schema creation outline id ≡ Some value → may_stand schema creation.class id value ≡ true
other_stands schema creation outline id value e plain has =
    may_stand_so schema creation id value
    (sym (ap (option_and_then (other_value_error schema creation id)) has)
    ∙ sym (ap (λ b. if b then None
    else option_and_then (other_value_error schema creation id) (created_value schema creation outline id)) plain) ∙ e)

pub each_other_stands : (schema : Set) (creation : Creation) (outline : Outline) (attributes : List (List ℕ))
    (id : List ℕ) (value : TypedValue) → others_error schema creation outline attributes ≡ None
    → Contains attributes id → is_exempt schema creation outline id ≡ false
    → created_value schema creation outline id ≡ Some value → may_stand schema creation.class id value ≡ true
each_other_stands schema creation outline [] id value e at plain has = absurd (nowhere id at)
each_other_stands schema creation outline (first ∷ others) id value e at plain has =
    elim (first_or_later first id others at) [
      | inl same ↦
          other_stands schema creation outline id value
          (subst (λ one. attribute_error schema creation outline one ≡ None) same
          (first_none (attribute_error schema creation outline first)
          (others_error schema creation outline others) e)) plain has
      | inr later ↦
          each_other_stands schema creation outline others id value
          (second_none (attribute_error schema creation outline first)
          (others_error schema creation outline others) e) later plain has
    ]
