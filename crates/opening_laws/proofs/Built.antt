-- The map that an opening builds: by rising names, with the root, few, and each superior there.
use Rattle.std.proofs.Common.{◌≡◌, suc, ◌<◌, ◌≤◌, ◌⊎◌, Bool, true, false, List, [], ◌∷◌, ◌++◌, Some, Ok, length}
use Rattle.std.proofs.Common.{refl, sym, ap, ◌∙◌}
use Rattle.std.proofs.Common.{subst, arith, inl, inr, is_some}
use Rattle.std.specs.Prelude.{Contains}
use Rattle.std.specs.List.{AllByRecursion}
use Rattle.std.specs.List.Sorted.{IsStrictlySortedBy}
use Rattle.std.proofs.lemmas.List.Elements.{All-from_recursion}
use Rattle.std.proofs.lemmas.Option.{none-some}
use Rattle.term_model.specs.declared.name.Rdn.{Rdn}
use Rattle.term_model.specs.declared.object.Object.{Object}
use Rattle.term_model.specs.declared.objects.NamedObject.{NamedObject}
use Rattle.term_model.specs.declared.schema.InstRec.{InstRec}
use Rattle.term_model.specs.declared.schema.Set.{Set}
use Rattle.term_model.specs.Comparing.{is_same_name}
use Rattle.term_model.specs.Creating.{last_of, superior_of}
use Rattle.term_model.specs.LogRecords.{counted}
use Rattle.term_model.specs.NameOrder.{name_cmp}
use Rattle.term_model.specs.NamedObjects.{IsByName, names, object_at, stored}
use Rattle.term_model.specs.Opening.{opened, opened_instances}
use Rattle.term_model.proofs.MapLaws.{later, name_Decides, names_rise}
use Rattle.opening_laws.specs.OpeningLaws.{HasSuperior, OpenedAreByName, OpenedAreFew, OpenedHaveRoot}
use Rattle.opening_laws.specs.OpeningLaws.{OpenedHaveSuperiors}
use Rattle.opening_laws.proofs.Kept.{all_by, all_counted, all_stored, one_longer, same_length, same_names, stays_there}
use Rattle.opening_laws.proofs.Kept.{still_there}
use Rattle.opening_laws.proofs.Steps.{IsFree, instance_free, kept_in, same_Ok, then_ok}

-- the root, or a name whose superior is there
abbrev pub IsPlaced : List NamedObject → List Rdn → Type 0
IsPlaced objects name = (name ≡ []) ⊎ HasSuperior objects name

pub record IsBuilt (objects : List NamedObject) : Type 0 where
  pub by_name : IsByName objects
  pub few : length objects ≤ 100000
  pub root : Object
  pub there : object_at objects [] ≡ Some root
  pub below : AllByRecursion (λ (entry : NamedObject). IsPlaced objects entry.name) objects

root_built : (object : Object) → IsBuilt (record { name = []; object = object } ∷ [])
unfolding IsStrictlySortedBy
root_built object = record {
  by_name = (tt, tt);
  few = omega arith;
  root = object;
  there = refl;
  below = (inl refl, tt);
}

pub whole_name : (first : Rdn) (rest : List Rdn)
    → (first ∷ rest) ≡ superior_of (first ∷ rest) ++ last_of first rest ∷ []
whole_name first [] = refl
whole_name first (second ∷ rest) = ap (λ parts. first ∷ parts) (whole_name second rest)

-- a free name is placed
free_placed : (entry : NamedObject) (objects : List NamedObject) → IsFree objects entry.name
    → IsPlaced (stored entry objects) entry.name
free_placed entry objects free = inr (record {
  front = superior_of (free.first ∷ free.rest);
  last = last_of free.first free.rest;
  is = free.is ∙ whole_name free.first free.rest;
  deep = omega (arith, ap length free.is, free.deep);
  superior = free.superior;
  there = stays_there entry objects (superior_of (free.first ∷ free.rest)) free.superior
      (ap (λ n. is_some (object_at objects n)) free.is ∙ free.free) free.there;
})

-- what was placed stays so
still_placed : (entry : NamedObject) (objects : List NamedObject) (name : List Rdn)
    → is_some (object_at objects entry.name) ≡ false → IsPlaced objects name → IsPlaced (stored entry objects) name
still_placed entry objects name free (inl e) = inl e
still_placed entry objects name free (inr h) = inr (record {
  front = h.front;
  last = h.last;
  is = h.is;
  deep = h.deep;
  superior = h.superior;
  there = stays_there entry objects h.front h.superior free h.there;
})

stored_built : (entry : NamedObject) (objects : List NamedObject) → IsFree objects entry.name
    → length objects < 100000 → IsBuilt objects → IsBuilt (stored entry objects)
stored_built entry objects free small built =
    let none : is_some (object_at objects entry.name) ≡ false =
    ap (λ n. is_some (object_at objects n)) free.is ∙ free.free in
    let longer = one_longer entry objects in
    record {
      by_name = names_rise entry objects built.by_name;
      few = omega (arith, longer, small);
      root = built.root;
      there = stays_there entry objects [] built.root none built.there;
      below = all_stored (λ (x : NamedObject). IsPlaced (stored entry objects) x.name) entry objects
          (free_placed entry objects free)
          (all_by (λ (x : NamedObject). IsPlaced objects x.name)
          (λ (x : NamedObject). IsPlaced (stored entry objects) x.name) objects
          (λ x placed. still_placed entry objects x.name none placed) built.below);
    }

pub instances_built : (schema : Set) (instances : List InstRec) (objects : List NamedObject)
    → opened_instances schema instances ≡ Ok objects → IsBuilt objects
instances_built schema instances objects e =
    kept_in schema IsBuilt instances objects (λ first object there made. root_built object)
    (λ os instance object there made small built.
    stored_built (record { name = instance.name; object = object }) os (instance_free schema os instance object made)
    small built) e

-- ---- with the logs counted

placed_counted : (schema : Set) (objects : List NamedObject) (name : List Rdn) → IsPlaced objects name
    → IsPlaced (counted schema objects) name
placed_counted schema objects name (inl e) = inl e
placed_counted schema objects name (inr h) =
    let told = still_there schema objects h.front h.superior h.there in
    inr (record {
      front = h.front;
      last = h.last;
      is = h.is;
      deep = h.deep;
      superior = told.0;
      there = told.1;
    })

counted_built : (schema : Set) (objects : List NamedObject) → IsBuilt objects → IsBuilt (counted schema objects)
counted_built schema objects built =
    let told = still_there schema objects [] built.root built.there in
    record {
      by_name = subst (IsStrictlySortedBy name_cmp) (sym (same_names schema objects)) built.by_name;
      few = omega (arith, same_length schema objects, built.few);
      root = told.0;
      there = told.1;
      below = all_counted (IsPlaced (counted schema objects)) schema objects
          (all_by (λ (x : NamedObject). IsPlaced objects x.name)
          (λ (x : NamedObject). IsPlaced (counted schema objects) x.name) objects
          (λ x placed. placed_counted schema objects x.name placed) built.below);
    }

pub opened_built : (schema : Set) (objects : List NamedObject) → opened schema ≡ Ok objects → IsBuilt objects
opened_built schema objects e =
    let step =
    then_ok (opened_instances schema schema.instances) (λ found. Ok (counted schema found)) objects e in
    subst IsBuilt (same_Ok (counted schema step.0) objects step.2)
    (counted_built schema step.0 (instances_built schema schema.instances step.0 step.1))

-- ---- the laws

pub opened_by_name : OpenedAreByName
opened_by_name schema objects e = (opened_built schema objects e).by_name

pub opened_few : OpenedAreFew
opened_few schema objects e = (opened_built schema objects e).few

name_found : (objects : List NamedObject) (name : List Rdn) (object : Object) → object_at objects name ≡ Some object
    → Contains (names objects) name
name_found [] name object e = absurd (none-some object e)
name_found (x ∷ xs) name object e =
    by (λ f. name_found xs name object (sym (later x xs name f) ∙ e)) (is_same_name x.name name) refl
  where
    by : (is_same_name x.name name ≡ false → Contains (names xs) name) → (b : Bool) → is_same_name x.name name ≡ b
        → Contains (names (x ∷ xs)) name
    by behind true same = (0, omega arith, (name_Decides x.name name).0 same)
    by behind false other =
        let found = behind other in
        let within = found.1 in
        (suc found.0, omega arith, found.2)

pub opened_root : OpenedHaveRoot
opened_root schema objects e =
    let built = opened_built schema objects e in
    name_found objects [] built.root built.there

pub opened_superiors : OpenedHaveSuperiors
opened_superiors schema objects e =
    All-from_recursion (λ (entry : NamedObject). IsPlaced objects entry.name) objects
    (opened_built schema objects e).below
