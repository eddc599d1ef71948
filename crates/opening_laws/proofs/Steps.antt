-- What an opening that succeeds has done: the root first, then one instance after the other.
use Rattle.std.proofs.Common.{◌≡◌, ℕ, pos, suc, ◌<◌, ◌≤◌, Bool, true, false, List, [], ◌∷◌, Option, None, Some, Ok, Err}
use Rattle.std.proofs.Common.{length, refl, subst, arith, is_some}
use Rattle.std.proofs.lemmas.Bool.{and_parts}
use Rattle.std.specs.Prelude.{Contains, Result, if◌then◌else◌, nat_le, nat_lt, ◌&&◌}
use Rattle.std.specs.Option.{option_map_or}
use Rattle.term_model.specs.declared.name.Rdn.{Rdn}
use Rattle.term_model.specs.declared.object.Object.{Object}
use Rattle.term_model.specs.declared.objects.NamedObject.{NamedObject}
use Rattle.term_model.specs.declared.reply.CmisError.{CmisError}
use Rattle.term_model.specs.declared.request.Named.TheVariants as named
use Rattle.term_model.specs.declared.schema.InstRec.{InstRec}
use Rattle.term_model.specs.declared.schema.Set.{Set}
use Rattle.term_model.specs.CmisErrors.{duplicate_instance, invalid_instance, no_such_instance, no_such_object_class}
use Rattle.term_model.specs.CmisErrors.{no_such_reference}
use Rattle.term_model.specs.Creating.{Asking, below_superior, class_asked, created_below, creation_of, has_value}
use Rattle.term_model.specs.Creating.{in_place}
use Rattle.term_model.specs.declared.request.Instance.{Instance}
use Rattle.term_model.specs.Creating.{lacks_reference, last_of, refused, superior_of, under, under_name}
use Rattle.term_model.specs.GetRequest.{instance_octets}
use Rattle.term_model.specs.NamedObjects.{object_at, stored}
use Rattle.term_model.specs.Opening.{Opened, asking_of, bad, create_instance, create_root, opened_from}
use Rattle.term_model.specs.Opening.{opened_instances}
use Rattle.term_model.specs.Opening.{opened_one, placed, root_place, then_open}

-- ---- results

pub same_Ok : {X E : Type 0} (x y : X) → ◌≡◌ {A = Result X E} (Ok x) (Ok y) → x ≡ y
same_Ok x y e = cc

ok_err : {X E : Type 0} (x : X) (e : E) → ◌≡◌ {A = Result X E} (Err e) (Ok x) → ⊥
ok_err x e h = absurd (cc)

-- what came before succeeded
pub then_ok : (before : Opened) (next : List NamedObject → Opened) (objects : List NamedObject)
    → then_open before next ≡ Ok objects → (first : List NamedObject) × (before ≡ Ok first) × (next first ≡ Ok objects)
then_ok (Ok first) next objects e = (first, refl, e)
then_ok (Err fault) next objects e = absurd (ok_err objects fault e)

less : (a b : ℕ) → nat_lt a b ≡ true → a < b
less a b e = grind (arith, e)

-- what was placed is an object, and there were fewer than 100,000
pub placed_ok : (index : ℕ) (objects : List NamedObject) (name : List Rdn) (made : Result Object CmisError)
    (after : List NamedObject) → placed index objects name made ≡ Ok after
    → (object : Object) × (made ≡ Ok object) × (length objects < 100000)
    × (stored (record { name = name; object = object }) objects ≡ after)
placed_ok index objects name (Err error) after e = absurd (ok_err after _ e)
placed_ok index objects name (Ok object) after e = by (nat_lt (length objects) 100000) refl e
  where
    by : (b : Bool) → nat_lt (length objects) 100000 ≡ b
        → (if b then Ok (stored (record { name = name; object = object }) objects) else bad index (pos 10)) ≡ Ok after
        → (found : Object) × (◌≡◌ {A = Result Object CmisError} (Ok object) (Ok found)) × (length objects < 100000)
        × (stored (record { name = name; object = found }) objects ≡ after)
    by true few f = (object, refl, less (length objects) 100000 few, same_Ok _ after f)
    by false few f = absurd (ok_err after _ f)

pub one_ok : (schema : Set) (index : ℕ) (objects : List NamedObject) (instance : InstRec) (after : List NamedObject)
    → opened_one schema index objects instance ≡ Ok after
    → (object : Object) × (create_instance schema objects instance ≡ Ok object) × (length objects < 100000)
    × (stored (record { name = instance.name; object = object }) objects ≡ after)
one_ok schema index objects instance after e = by instance.root e
  where
    by : (b : Bool)
        → (if b then bad index (pos 0)
        else placed index objects instance.name (create_instance schema objects instance)) ≡ Ok after
        → (object : Object) × (create_instance schema objects instance ≡ Ok object) × (length objects < 100000)
        × (stored (record { name = instance.name; object = object }) objects ≡ after)
    by true f = absurd (ok_err after _ f)
    by false f = placed_ok index objects instance.name (create_instance schema objects instance) after f

-- ---- a fact that each step keeps

abbrev pub KeptBy : Set → List InstRec → (List NamedObject → Type 0) → Type 0
KeptBy schema instances Fact = (objects : List NamedObject) (instance : InstRec) (object : Object)
    → Contains instances instance
    → create_instance schema objects instance ≡ Ok object → length objects < 100000 → Fact objects
    → Fact (stored (record { name = instance.name; object = object }) objects)

first_there : (instance : InstRec) (others : List InstRec) → Contains (instance ∷ others) instance
first_there instance others = (0, omega arith, refl)

later_there : (first instance : InstRec) (others : List InstRec) → Contains others instance
    → Contains (first ∷ others) instance
later_there first instance others h =
    let within = h.1 in
    (suc h.0, omega arith, h.2)

pub kept_from : (schema : Set) (Fact : List NamedObject → Type 0) (index : ℕ) (instances : List InstRec)
    (before after : List NamedObject) → KeptBy schema instances Fact
    → opened_from schema index instances before ≡ Ok after
    → Fact before → Fact after
kept_from schema Fact index [] before after keeps e fact = subst Fact (same_Ok before after e) fact
kept_from schema Fact index (instance ∷ others) before after keeps e fact =
    let step =
    then_ok (opened_one schema index before instance) (opened_from schema (suc index) others) after e in
    let made = one_ok schema index before instance step.0 step.1 in
    kept_from schema Fact (suc index) others step.0 after
    (λ objects other object there. keeps objects other object (later_there instance other others there)) step.2
    (subst Fact made.3 (keeps before instance made.0 (first_there instance others) made.1 made.2 fact))

-- and that the root begins
pub kept_in : (schema : Set) (Fact : List NamedObject → Type 0) (instances : List InstRec) (objects : List NamedObject)
    → ((first : InstRec) (object : Object) → Contains instances first
    → create_root schema (asking_of schema first) ≡ Ok object
    → Fact (record { name = []; object = object } ∷ []))
    → KeptBy schema instances Fact → opened_instances schema instances ≡ Ok objects → Fact objects
kept_in schema Fact [] objects begins keeps e = absurd (ok_err objects _ e)
kept_in schema Fact (first ∷ others) objects begins keeps e = by first.root e
  where
    by : (b : Bool)
        → (if b
        then then_open (placed 1 [] [] (create_root schema (asking_of schema first))) (opened_from schema 2 others)
        else bad (root_place 2 others) (pos 0)) ≡ Ok objects → Fact objects
    by false f = absurd (ok_err objects _ f)
    by true f =
        let step =
        then_ok (placed 1 [] [] (create_root schema (asking_of schema first))) (opened_from schema 2 others) objects f
        in
        let made = placed_ok 1 [] [] (create_root schema (asking_of schema first)) step.0 step.1 in
        kept_from schema Fact 2 others step.0 objects
        (λ os other object there. keeps os other object (later_there first other others there)) step.2
        (subst Fact made.3 (begins first made.0 (first_there first others) made.1))

-- ---- the name of an object below the root

-- its superior is there and nothing stands under it
pub record IsFree (objects : List NamedObject) (name : List Rdn) : Type 0 where
  pub first : Rdn
  pub rest : List Rdn
  pub is : name ≡ first ∷ rest
  pub deep : suc (length rest) ≤ 32
  pub superior : Object
  pub there : object_at objects (superior_of (first ∷ rest)) ≡ Some superior
  pub free : is_some (object_at objects (first ∷ rest)) ≡ false

abbrev Made : Type 0
Made = Result Object CmisError

at_most : (a b : ℕ) → nat_le a b ≡ true → a ≤ b
at_most a b e = grind (arith, e)

-- the superior is there
superior_there : (schema : Set) (objects : List NamedObject) (asking : Asking) (class : List ℕ) (name : List Rdn)
    (part : Rdn) (object : Object) → in_place schema objects asking class name part ≡ Ok object
    → (superior : Object) × (object_at objects (superior_of name) ≡ Some superior)
    × (below_superior schema objects asking class name part superior ≡ Ok object)
superior_there schema objects asking class name part object e = by (object_at objects (superior_of name)) refl e
  where
    by : (o : Option Object) → object_at objects (superior_of name) ≡ o
        → option_map_or (below_superior schema objects asking class name part) o
        (refused (no_such_instance (instance_octets (superior_of name)))) ≡ Ok object
        → (superior : Object) × (object_at objects (superior_of name) ≡ Some superior)
        × (below_superior schema objects asking class name part superior ≡ Ok object)
    by None is f = absurd (ok_err object _ f)
    by (Some superior) is f = (superior, is, f)

-- and nothing stands under the name
name_free : (schema : Set) (objects : List NamedObject) (asking : Asking) (class : List ℕ) (name : List Rdn)
    (part : Rdn) (superior object : Object)
    → below_superior schema objects asking class name part superior ≡ Ok object
    → is_some (object_at objects name) ≡ false
name_free schema objects asking class name part superior object e = by (is_some (object_at objects name)) refl e
  where
    rest : Made
    rest = if lacks_reference objects class asking.reference
        then refused
        (no_such_reference
        (option_map_or (λ (reference : Instance). reference.raw)
        asking.reference []))
        else created_below schema asking.clause (is_some asking.reference) (creation_of objects asking class part)
        superior.class

    by : (b : Bool) → is_some (object_at objects name) ≡ b
        → (if b then refused (duplicate_instance asking.instance) else rest) ≡ Ok object
        → is_some (object_at objects name) ≡ false
    by true is f = absurd (ok_err object _ f)
    by false is f = is

named_free : (schema : Set) (objects : List NamedObject) (asking : Asking) (class : List ℕ) (name : List Rdn)
    (object : Object) → under_name schema objects asking class name ≡ Ok object → IsFree objects name
named_free schema objects asking class [] object e = absurd (ok_err object _ e)
named_free schema objects asking class (first ∷ rest) object e =
    by (nat_le (suc (length rest)) 32 && has_value schema (last_of first rest)) refl e
  where
    by : (b : Bool) → (nat_le (suc (length rest)) 32 && has_value schema (last_of first rest)) ≡ b
        → (if b then in_place schema objects asking class (first ∷ rest) (last_of first rest)
        else refused (invalid_instance asking.instance)) ≡ Ok object → IsFree objects (first ∷ rest)
    by false is f = absurd (ok_err object _ f)
    by true is f =
        let parts = and_parts (nat_le (suc (length rest)) 32) (has_value schema (last_of first rest)) is in
        let above = superior_there schema objects asking class (first ∷ rest) (last_of first rest) object f in
        record {
          first = first;
          rest = rest;
          is = refl;
          deep = at_most (suc (length rest)) 32 parts.0;
          superior = above.0;
          there = above.1;
          free = name_free schema objects asking class (first ∷ rest) (last_of first rest) above.0 object above.2;
        }

pub instance_free : (schema : Set) (objects : List NamedObject) (instance : InstRec) (object : Object)
    → create_instance schema objects instance ≡ Ok object → IsFree objects instance.name
instance_free schema objects instance object e =
    by (class_asked schema (asking_of schema instance).class) e
  where
    by : (o : Option (List ℕ))
        → option_map_or (under schema objects (asking_of schema instance) (named.Object instance.name)) o
        (refused (no_such_object_class (asking_of schema instance).class)) ≡ Ok object
        → IsFree objects instance.name
    by None f = absurd (ok_err object _ f)
    by (Some class) f = named_free schema objects (asking_of schema instance) class instance.name object f
