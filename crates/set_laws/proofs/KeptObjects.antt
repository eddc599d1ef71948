-- An object obeys its templates after modifications where it did before: X.711, section 7.4; X.722, sections 8.3 and
-- 8.4.
use Rattle.std.proofs.Common.{◌≡◌, ◌⊎◌, ℕ, ℤ, List, [], ◌∷◌, sym, subst, inl, inr}
use Rattle.std.specs.Cmp.Lexicographic.{slice_cmp}
use Rattle.std.specs.List.Sorted.{IsStrictlySortedBy}
use Rattle.std.specs.Ordering.{nat_cmp}
use Rattle.std.specs.Prelude.{All, Contains, IfOk, Result, Ok, Err}
use Rattle.term_values.specs.Typed.{TypedValue}
use Rattle.term_model.specs.declared.name.Rdn.{Rdn}
use Rattle.term_model.specs.declared.object.Object.{Object}
use Rattle.term_model.specs.declared.objects.NamedObject.{NamedObject}
use Rattle.term_model.specs.declared.request.Change.{Change}
use Rattle.term_model.specs.declared.request.IdRef.{IdRef}
use Rattle.term_model.specs.declared.request.IdRef.TheVariants as ids
use Rattle.term_model.specs.declared.schema.Set.{Set}
use Rattle.term_model.specs.Inheritance.{HasAttribute}
use Rattle.term_model.specs.Modifications.{Modified, modified, modified_by, settled, tried, unmodified, with_value}
use Rattle.term_model.specs.ObjectAttributes.{identifiers}
use Rattle.term_model.specs.WellFormedObjects.{IsGoodObject, IsPlainRecord}
use Rattle.term_model.specs.WholeSet.{IsWhole}
use Rattle.set_laws.specs.KeptMaps.{ObjectStaysGood, under}
use Rattle.set_laws.proofs.Given.{IsGiven, is_given, is_small_in}
use Rattle.set_laws.proofs.KeptPermitted.{IsRight, permitted_kept}
use Rattle.set_laws.proofs.KeptValues.{values_kept}
use Rattle.set_laws.proofs.SameKind.{with_value_identifiers}
use Rattle.set_laws.proofs.Sizes.{with_value_small}

-- ---- what each modification keeps

abbrev pub with_given : Set → Object → List ℕ → TypedValue → Object
with_given schema object id value = record object { attrs = with_value schema object id value }

abbrev pub Keeps : Set → List Rdn → (Object → Type 0) → Type 0
Keeps schema name P =
    (object : Object) (id : List ℕ) (value : TypedValue) → IsGiven schema name object id value → P object
    → P (with_given schema object id value)

module _ (schema : Set) (name : List Rdn) (P : Object → Type 0) (keeps : Keeps schema name P) where
  settled_keeps : (made : Modified) (change : Change) (id : List ℕ) (told : Result TypedValue ℤ)
      → IfOk told (IsGiven schema name made.object id) → P made.object
      → P (settled schema made change id told).object
  settled_keeps made change id (Ok value) given holds = keeps made.object id value given holds
  settled_keeps made change id (Err status) given holds = holds

  modified_by_keeps : (made : Modified) (change : Change) (id : IdRef) → P made.object
      → P (modified_by schema name made change id).object
  modified_by_keeps made change (ids.Global id) holds =
      settled_keeps made change id (tried schema name made.object change id)
      (is_given schema name made.object change id) holds
  modified_by_keeps made change (ids.Local number) holds = holds

  pub modified_keeps : (made : Modified) (changes : List Change) → P made.object
      → P (modified schema name made changes).object
  modified_keeps made [] holds = holds
  modified_keeps made (change ∷ changes) holds =
      modified_keeps (modified_by schema name made change change.id) changes
      (modified_by_keeps made change change.id holds)

-- ---- the object

object_kept : (schema : Set) (objects : List NamedObject) (name : List Rdn) → IsWhole schema
    → Keeps schema name (λ object. IsGoodObject schema objects (under name object))
object_kept schema objects name whole object id value given good =
    let same : identifiers object.attrs ≡ identifiers (with_value schema object id value) =
    sym (with_value_identifiers schema object id value) in
    record {
      class = good.class;
      known = good.known;
      once = subst (IsStrictlySortedBy (slice_cmp nat_cmp)) same good.once;
      of_packages = subst (All (HasAttribute schema object.class object.chosen)) same good.of_packages;
      each = λ attribute has. subst (λ found. Contains found attribute) same (good.each attribute has);
      values = values_kept schema name object id value whole given good.values;
      permitted = permitted good.permitted;
      small = with_value_small schema object id value (is_small_in schema name object id value given).0;
    }
  where
    permitted : IsPlainRecord schema objects (under name object) good.class
        ⊎ All (IsRight schema object.class good.class) object.attrs
        → IsPlainRecord schema objects (under name (with_given schema object id value)) good.class
        ⊎ All (IsRight schema object.class good.class) (with_value schema object id value)
    permitted (inl plain) = inl plain
    permitted (inr all) = inr (permitted_kept schema name object id value good.class whole good.known given all)

pub object_stays_good : ObjectStaysGood
object_stays_good schema objects name object changes whole good =
    modified_keeps schema name (λ one. IsGoodObject schema objects (under name one))
    (object_kept schema objects name whole) (unmodified object) changes good
