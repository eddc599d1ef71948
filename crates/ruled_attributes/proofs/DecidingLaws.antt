-- DecidingLaws: whether a mandatory package of a class, or of one from which it derives, has an attribute is decided,
-- where the classes of a schema stand in an order (X.722, sections 5.2, 8.3 and 8.4).
use Rattle.std.specs.Prelude.{◌≡◌, ◌⊎◌, ◌<◌, ◌∷◌, [], ℕ, zero, suc, List, Bool, true, false, Some, Contains, get_or}
use Rattle.std.specs.Prelude.{length, refl}
use Rattle.std.specs.Bool.{Decides}
use Rattle.std.specs.Cmp.Lexicographic.{bytes_decides}
use Rattle.std.proofs.Common.{◌∙◌, arith, inl, inr, sym}
use Rattle.std.proofs.Math.Path.{subst}
use Rattle.std.proofs.lemmas.Bool.{false≢true}
use Rattle.term_model.specs.Comparing.{is_same_oid}
use Rattle.term_model.specs.Inheritance.{Derives, HasAttribute, IsAbove}
use Rattle.term_model.specs.Inheritance.IsAbove.{Further, Itself}
use Rattle.term_model.specs.WholeSet.{AreOrdered}
use Rattle.term_model.specs.declared.packages.PackageRec.{PackageRec}
use Rattle.term_model.specs.declared.packages.Property.{Property}
use Rattle.term_model.specs.declared.schema.ClassRec.{ClassRec}
use Rattle.term_model.specs.declared.schema.Set.{Set}
use Rattle.registered_laws.proofs.TableLaws.{first_of, later_of}

-- ---- what is decided

-- some element of a list has a property
abbrev IsSome : {A : Type 0} → (A → Type 0) → List A → Type 0
IsSome {A} P xs = (x : A) × Contains xs x × P x

-- where each element has a property or not, some element has it or none does
some_or_none : {A : Type 0} (P : A → Type 0) (xs : List A) → ((x : A) → Contains xs x → P x ⊎ (¬ P x)) →
    IsSome P xs ⊎ (¬ IsSome P xs)
some_or_none P [] each = inr (λ found. let w = found.1.1 in absurd (omega (arith, w)))
some_or_none {A} P (x ∷ xs) each =
    by (each x (first_of x xs)) (some_or_none P xs (λ y has. each y (later_of x y xs has)))
  where
    neither : ¬ P x → ¬ IsSome P xs → (y : A) (n : ℕ) → n < length (x ∷ xs) → get_or (x ∷ xs) n y ≡ y → P y → ⊥
    neither here there y zero within is holds = here (subst P (sym is) holds)
    neither here there y (suc n) within is holds = there (y, (n, omega (arith, within), is), holds)

    by : P x ⊎ (¬ P x) → IsSome P xs ⊎ (¬ IsSome P xs) → IsSome P (x ∷ xs) ⊎ (¬ IsSome P (x ∷ xs))
    by (inl holds) rest = inl (x, first_of x xs, holds)
    by (inr here) (inl found) = inl (found.0, later_of x found.0 xs found.1, found.2)
    by (inr here) (inr there) =
        inr (λ found. neither here there found.0 found.1.0 found.1.1 found.1.2 found.2)

either_or_neither : {A B : Type 0} → A ⊎ (¬ A) → B ⊎ (¬ B) → (A ⊎ B) ⊎ (¬ (A ⊎ B))
either_or_neither (inl one) other = inl (inl one)
either_or_neither (inr not_one) (inl other) = inl (inr other)
either_or_neither {A} {B} (inr not_one) (inr not_other) = inr neither
  where
    neither : A ⊎ B → ⊥
    neither (inl one) = not_one one
    neither (inr other) = not_other other

both_or_not : {A B : Type 0} → A ⊎ (¬ A) → (A → B ⊎ (¬ B)) → (A × B) ⊎ (¬ (A × B))
both_or_not (inr not_one) other = inr (λ both. not_one both.0)
both_or_not {A} {B} (inl one) other = by (other one)
  where
    by : B ⊎ (¬ B) → (A × B) ⊎ (¬ (A × B))
    by (inl two) = inl (one, two)
    by (inr not_two) = inr (λ both. not_two both.1)

same_or_not : (id other : List ℕ) → (id ≡ other) ⊎ (¬ (id ≡ other))
same_or_not id other = by (is_same_oid id other) (bytes_decides id other)
  where
    by : (b : Bool) → Decides b (id ≡ other) → (id ≡ other) ⊎ (¬ (id ≡ other))
    by true decides = inl (decides.0 refl)
    by false decides = inr (λ same. absurd (false≢true (decides.1 same)))

-- ---- classes above

above_from : {schema : Set} {class next above : List ℕ} → Derives schema class next → IsAbove schema next above →
    IsAbove schema class above
above_from one Itself = Further Itself one
above_from one (Further further derives) = Further (above_from one further) derives

-- a class is the one itself, or above one from which that derives directly
record IsAboveNext (schema : Set) (class above : List ℕ) : Type 0 where
  next : List ℕ
  one : Derives schema class next
  further : IsAbove schema next above

itself_or_next : {schema : Set} {class above : List ℕ} → IsAbove schema class above →
    (class ≡ above) ⊎ IsAboveNext schema class above
itself_or_next Itself = inl refl
itself_or_next {schema} {class} (Further {above = middle} {further = above} so_far derives) = by (itself_or_next so_far)
  where
    by : (class ≡ middle) ⊎ IsAboveNext schema class middle → (class ≡ above) ⊎ IsAboveNext schema class above
    by (inl same) = inr (record {
      next = above;
      one = subst (λ id. Derives schema id above) (sym same) derives;
      further = Itself;
    })
    by (inr next) = inr (record { next = next.next; one = next.one; further = Further next.further derives })

-- ---- attributes of classes

module _ (schema : Set) (attribute : List ℕ) where
  abbrev Has : List ℕ → Type 0
  Has class = HasAttribute schema class [] attribute

  -- a mandatory package of the record itself has the attribute
  abbrev OwnHas : ClassRec → Type 0
  OwnHas of_class = IsSome (λ (p : PackageRec). IsSome (λ (x : Property). x.attribute ≡ attribute) p.attributes)
      of_class.mandatory

  own_or_not : (of_class : ClassRec) → OwnHas of_class ⊎ (¬ OwnHas of_class)
  own_or_not of_class =
      some_or_none (λ (p : PackageRec). IsSome (λ (x : Property). x.attribute ≡ attribute) p.attributes)
      of_class.mandatory (λ p there. some_or_none (λ (x : Property). x.attribute ≡ attribute) p.attributes
      (λ x says. same_or_not x.attribute attribute))

  -- the record is that of the class, and has the attribute itself or by a superclass
  abbrev HasBy : List ℕ → ClassRec → Type 0
  HasBy class of_class = (of_class.id ≡ class) × (OwnHas of_class ⊎ IsSome Has of_class.superclasses)

  -- where the class that has it in its record is above another one, that one has the attribute too
  has_below : {class : List ℕ} (has : Has class) (other : List ℕ) → IsAbove schema other has.has.above → Has other
  has_below has other is_above = record {
    of_package = has.of_package;
    has = record {
      above = has.has.above;
      is_above = is_above;
      of_class = has.has.of_class;
      record_of = has.has.record_of;
      there = has.has.there;
    };
    property = has.property;
    stated = has.stated;
    is = has.is;
  }

  has_by : (class : List ℕ) → IsSome (HasBy class) schema.classes → Has class
  has_by class (of_class, known, (named, inl own)) = record {
    of_package = own.0;
    has = record {
      above = class;
      is_above = Itself;
      of_class = of_class;
      record_of = record { known = known; named = named };
      there = inl own.1;
    };
    property = own.2.0;
    stated = own.2.1;
    is = own.2.2;
  }
  has_by class (of_class, known, (named, inr (next, from, has))) = has_below has class (above_from
      (record { of_class = of_class; has = record { known = known; named = named }; from = from }) has.has.is_above)

  -- where no package is chosen, it is a mandatory one
  is_mandatory : (of_class : ClassRec) (p : PackageRec) →
      (Contains of_class.mandatory p ⊎ (Contains of_class.conditional p × ((id : List ℕ) × (p.id ≡ Some id)
      × Contains [] id))) → Contains of_class.mandatory p
  is_mandatory of_class p (inl there) = there
  is_mandatory of_class p (inr chosen) = let w = chosen.1.2.1 in absurd (omega (arith, w))

  by_record : (class : List ℕ) → Has class → IsSome (HasBy class) schema.classes
  by_record class has = by (itself_or_next has.has.is_above)
    where
      by : (class ≡ has.has.above) ⊎ IsAboveNext schema class has.has.above → IsSome (HasBy class) schema.classes
      by (inl same) = (
        has.has.of_class,
        has.has.record_of.known,
        (
          has.has.record_of.named ∙ sym same,
          inl (
            has.of_package,
            is_mandatory has.has.of_class has.of_package has.has.there,
            (has.property, has.stated, has.is),
          ),
        ),
      )
      by (inr above) = (
        above.one.of_class,
        above.one.has.known,
        (above.one.has.named, inr (above.next, above.one.from, has_below has above.next above.further)),
      )

  -- it is decided for a class where it is for those from which it derives directly
  decided : (class : List ℕ) → ((next : List ℕ) → Derives schema class next → Has next ⊎ (¬ Has next)) →
      Has class ⊎ (¬ Has class)
  decided class above = by (some_or_none (HasBy class) schema.classes (λ of_class known.
      both_or_not (same_or_not of_class.id class) (λ named. either_or_neither (own_or_not of_class)
      (some_or_none Has of_class.superclasses (λ next from. above next
      (record { of_class = of_class; has = record { known = known; named = named }; from = from }))))))
    where
      by : IsSome (HasBy class) schema.classes ⊎ (¬ IsSome (HasBy class) schema.classes) → Has class ⊎ (¬ Has class)
      by (inl found) = inl (has_by class found)
      by (inr none_has) = inr (λ has. none_has (by_record class has))

  module _ (ordered : AreOrdered schema) where
    by_place : (n : ℕ) (class : List ℕ) → ordered.0 class < n → Has class ⊎ (¬ Has class)
    by_place zero class below = absurd (omega (arith, below))
    by_place (suc n) class below = decided class
        (λ next derives. by_place n next (let less = ordered.2 class next derives in omega (arith, less, below)))

    has_or_not : (class : List ℕ) → Has class ⊎ (¬ Has class)
    has_or_not class = by_place (suc (ordered.0 class)) class (omega arith)

    pub has_unless : (class : List ℕ) → ¬ (¬ Has class) → Has class
    has_unless class unless = by (has_or_not class)
      where
        by : Has class ⊎ (¬ Has class) → Has class
        by (inl has) = has
        by (inr has_not) = absurd (unless has_not)
