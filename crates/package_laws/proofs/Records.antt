-- The record of a class is the first one with its identifier.
use Rattle.std.proofs.Common.{◌≡◌, ℕ, true, List, [], ◌∷◌, Option, None, Some, refl, sym, ap, ◌∙◌}
use Rattle.std.proofs.Common.{subst, inl, inr}
use Rattle.std.proofs.lemmas.Bool.{false≢true}
use Rattle.std.specs.Option.{option_map_or}
use Rattle.std.specs.Prelude.{Contains, IfSome, is_some}
use Rattle.term_model.specs.declared.schema.ClassRec.{ClassRec}
use Rattle.term_model.specs.declared.schema.Set.{Set}
use Rattle.term_model.specs.Comparing.{is_same_oid}
use Rattle.term_model.specs.Inheritance.{HasRecord}
use Rattle.term_model.specs.ObjectOperation.{class_record}
use Rattle.package_laws.specs.PackageLaws.{HasRecordOnce}
use Rattle.package_laws.proofs.Members.{either_way, first_or_later, here, nowhere, same_id, there}

abbrev IsIt : List ClassRec → List ℕ → ClassRec → Type 0
IsIt records class of_class = Contains records of_class × (of_class.id ≡ class)

later : (first : ClassRec) (records : List ClassRec) (class : List ℕ) (o : Option ClassRec)
    → IfSome o (IsIt records class) → IfSome o (IsIt (first ∷ records) class)
later first records class None h = tt
later first records class (Some of_class) h = (there first of_class records h.0, h.1)

record_is : (records : List ClassRec) (class : List ℕ) → IfSome (class_record records class) (IsIt records class)
record_is [] class = tt
record_is (first ∷ records) class =
    either_way (λ o. IfSome o (IsIt (first ∷ records) class)) (is_same_oid first.id class) (Some first)
    (class_record records class) (λ e. (here first records, (same_id first.id class).0 e))
    (λ e. later first records class (class_record records class) (record_is records class))

record_there : (records : List ClassRec) (class : List ℕ) (of_class : ClassRec) → Contains records of_class
    → of_class.id ≡ class → is_some (class_record records class) ≡ true
record_there [] class of_class at named = absurd (nowhere of_class at)
record_there (first ∷ records) class of_class at named =
    either_way (λ o. is_some o ≡ true) (is_same_oid first.id class) (Some first) (class_record records class)
    (λ e. refl)
    (λ e. elim (first_or_later first of_class records at) [
      | inl same ↦ absurd (false≢true (sym e ∙ (same_id first.id class).1 (ap (λ r. r.id) same ∙ named)))
      | inr behind ↦ record_there records class of_class behind named
    ])

-- where each identifier has one record, it is this one
pub record_known : (schema : Set) (class : List ℕ) (of_class : ClassRec) → HasRecordOnce schema
    → HasRecord schema class of_class → class_record schema.classes class ≡ Some of_class
record_known schema class of_class once has =
    only (class_record schema.classes class) (record_there schema.classes class of_class has.known has.named)
    (record_is schema.classes class)
  where
    only : (o : Option ClassRec) → is_some o ≡ true → IfSome o (IsIt schema.classes class) → o ≡ Some of_class
    only None e h = absurd (false≢true e)
    only (Some other) e h = ap Some (once other of_class h.0 has.known (h.1 ∙ sym has.named))

-- ---- what the record of a class states

pub stated_from : {X : Type 0} (f : ClassRec → List X) (schema : Set) (class : List ℕ) (x : X)
    → Contains (option_map_or f (class_record schema.classes class) []) x
    → (of_class : ClassRec) × HasRecord schema class of_class × Contains (f of_class) x
stated_from {X} f schema class x at =
    of_option (class_record schema.classes class) (record_is schema.classes class) at
  where
    of_option : (o : Option ClassRec) → IfSome o (IsIt schema.classes class) → Contains (option_map_or f o []) x
        → (of_class : ClassRec) × HasRecord schema class of_class × Contains (f of_class) x
    of_option None h inside = absurd (nowhere x inside)
    of_option (Some of_class) h inside = (of_class, record { known = h.0; named = h.1 }, inside)

pub stated_gets : {X : Type 0} (f : ClassRec → List X) (schema : Set) (class : List ℕ) (of_class : ClassRec) (x : X)
    → HasRecordOnce schema → HasRecord schema class of_class → Contains (f of_class) x
    → Contains (option_map_or f (class_record schema.classes class) []) x
stated_gets f schema class of_class x once has at =
    subst (λ o. Contains (option_map_or f o []) x) (sym (record_known schema class of_class once has)) at
