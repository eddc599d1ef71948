-- A creation reads what stands under its name and that of its reference object, and its superior's class.
use Rattle.std.proofs.Common.{◌≡◌, ℕ, suc, Bool, true, false, List, [], ◌∷◌, ◌++◌, Option, None, Some, Result}
use Rattle.std.proofs.Common.{refl, sym, ap, ◌∙◌, subst, length, inl, inr, if◌then◌else◌}
use Rattle.std.specs.Prelude.{◌&&◌, is_some, nat_le, not}
use Rattle.std.specs.Option.{option_map, option_map_or}
use Rattle.std.proofs.lemmas.Bool.{and_from, and_parts}
use Rattle.term_model.specs.declared.filter_item.Given.{Given}
use Rattle.term_model.specs.declared.name.Rdn.{Rdn}
use Rattle.term_model.specs.declared.object.Attribute.{Attribute}
use Rattle.term_model.specs.declared.object.Object.{Object}
use Rattle.term_model.specs.declared.objects.NamedObject.{NamedObject}
use Rattle.term_model.specs.declared.reply.CmisError.{CmisError}
use Rattle.term_model.specs.declared.request.IdRef.{IdRef}
use Rattle.term_model.specs.declared.request.Instance.{Instance}
use Rattle.term_model.specs.declared.request.Named.{Named}
use Rattle.term_model.specs.declared.request.Named.TheVariants as named
use Rattle.term_model.specs.declared.schema.Set.{Set}
use Rattle.term_model.specs.CmisErrors.{duplicate_instance, no_such_instance, no_such_reference}
use Rattle.term_model.specs.Comparing.{is_same_rdn}
use Rattle.term_model.specs.CreateEffect.{asking_for, create_one, effect_of, name_in}
use Rattle.term_model.specs.Creating.{Asking, below_superior, class_asked, create_named, created_below, has_value}
use Rattle.term_model.specs.Creating.{in_place, lacks_reference}
use Rattle.term_model.specs.Creating.{last_of, named_object, of_class, refused, superior_of, taken_over, under}
use Rattle.term_model.specs.GetRequest.{instance_octets}
use Rattle.term_model.specs.NamedObjects.{IsByName, object_at}
use Rattle.lock_model.specs.declared.lock_name.LockName.{LockName}
use Rattle.lock_model.specs.declared.lock_name.Part.{Part}
use Rattle.lock_model.specs.LockPath.{begins, inside_of, is_inside, tree}
use Rattle.lock_model.specs.Units.{common, creating, ended_at, ended_from, is_control, is_log_at, new_name, or_all}
use Rattle.lock_model.specs.Units.{reaching, taken_by, with_reference, writes}
use Rattle.lock_model.specs.ReadSet.{ReadSet, class_at, read_set}
use Rattle.lock_model.specs.CreationLaws.{naming}
use Rattle.lock_model.proofs.Names.{begins_itself, comparable, inside_begins}
use Rattle.lock_model.proofs.Maps.{Agree, agree_from}
use Rattle.lock_model.proofs.Covering.{ended_covers}
use Rattle.lock_model.proofs.Paths.{above_same}
use Rattle.term_model.proofs.MapLaws.{rdn_Decides}
use Rattle.lock_model.specs.declared.lock_name.Part.TheVariants as extents

-- ---- the creation, told by what it reads

abbrev ClassOf : Object → List ℕ
ClassOf object = object.class

-- the superior's class, what stands under the name, and what the reference object has
abbrev below_by : Set → Asking → List ℕ → Rdn → Bool → Bool → List Attribute → List ℕ → Result Object CmisError
below_by schema asking class part there lacks taken superior =
    if there then refused (duplicate_instance asking.instance)
    else (if lacks
    then refused (no_such_reference (option_map_or (λ (reference : Instance). reference.raw) asking.reference []))
    else created_below schema asking.clause (is_some asking.reference)
    (record {
      class = class;
      binding = None;
      named = part;
      given = asking.given;
      taken = taken;
      asked = asking.class;
      instance = asking.instance;
    }) superior)

in_place_is : (schema : Set) (objects : List NamedObject) (asking : Asking) (class : List ℕ) (name : List Rdn)
    (part : Rdn)
    → in_place schema objects asking class name part
    ≡ option_map_or (below_by schema asking class part (is_some (object_at objects name))
    (lacks_reference objects class asking.reference) (taken_over objects asking.reference))
    (class_at objects (superior_of name)) (refused (no_such_instance (instance_octets (superior_of name))))
in_place_is schema objects asking class name part = by (object_at objects (superior_of name))
  where
    by : (o : Option Object)
        → option_map_or (below_superior schema objects asking class name part) o
        (refused (no_such_instance (instance_octets (superior_of name))))
        ≡ option_map_or (below_by schema asking class part (is_some (object_at objects name))
        (lacks_reference objects class asking.reference) (taken_over objects asking.reference))
        (option_map (λ (object : Object). object.class) o)
        (refused (no_such_instance (instance_octets (superior_of name))))
    by None = refl
    by (Some object) = refl

abbrev SameReference : List NamedObject → List NamedObject → Option Instance → Type 0
SameReference one other None = Unit {0}
SameReference one other (Some reference) = named_object one reference.named ≡ named_object other reference.named

lacks_same : (one other : List NamedObject) (class : List ℕ) (r : Option Instance) → SameReference one other r
    → lacks_reference one class r ≡ lacks_reference other class r
lacks_same one other class None h = refl
lacks_same one other class (Some reference) h =
    ap (λ (o : Option Object). not (option_map_or (of_class class) o false)) h

taken_same : (one other : List NamedObject) (r : Option Instance) → SameReference one other r
    → taken_over one r ≡ taken_over other r
taken_same one other None h = refl
taken_same one other (Some reference) h =
    ap (λ (o : Option Object). option_map_or (λ (object : Object). object.attrs) o []) h

in_place_same : (schema : Set) (one other : List NamedObject) (asking : Asking) (class : List ℕ) (name : List Rdn)
    (part : Rdn) → object_at one name ≡ object_at other name
    → class_at one (superior_of name) ≡ class_at other (superior_of name) → SameReference one other asking.reference
    → in_place schema one asking class name part ≡ in_place schema other asking class name part
in_place_same schema one other asking class name part there above reference =
    let lacks = lacks_same one other class asking.reference reference in
    let taken = taken_same one other asking.reference reference in
    in_place_is schema one asking class name part
    ∙ (λ i. option_map_or (below_by schema asking class part (is_some (there i)) (lacks i) (taken i)) (above i)
    (refused (no_such_instance (instance_octets (superior_of name)))))
    ∙ sym (in_place_is schema other asking class name part)

-- ---- names

common_first : (xs ys : List Rdn) → begins (common xs ys) xs ≡ true
common_first [] ys = refl
common_first (x ∷ xs) [] = refl
common_first (x ∷ xs) (y ∷ ys) = by (common_first xs ys) (is_same_rdn x y)
  where
    by : begins (common xs ys) xs ≡ true → (b : Bool) → begins (if b then x ∷ common xs ys else []) (x ∷ xs) ≡ true
    by again true = and_from _ _ ((rdn_Decides x x).1 refl) again
    by again false = refl

common_second : (xs ys : List Rdn) → begins (common xs ys) ys ≡ true
common_second [] ys = refl
common_second (x ∷ xs) [] = refl
common_second (x ∷ xs) (y ∷ ys) = by (common_second xs ys) (is_same_rdn x y) refl
  where
    by : begins (common xs ys) ys ≡ true → (b : Bool) → is_same_rdn x y ≡ b
        → begins (if b then x ∷ common xs ys else []) (y ∷ ys) ≡ true
    by again true e = and_from _ _ e again
    by again false e = refl

pub superior_begins : (name : List Rdn) → begins (superior_of name) name ≡ true
superior_begins [] = refl
superior_begins (x ∷ []) = refl
superior_begins (x ∷ y ∷ rest) = and_from _ _ ((rdn_Decides x x).1 refl) (superior_begins (y ∷ rest))

-- ---- the unit has the name and the reference object

pub reaches_name : (reference : Option Instance) (name : List Rdn)
    → begins (with_reference reference name).name name ≡ true
reaches_name None name = begins_itself name
reaches_name (Some reference) name = by reference.named
  where
    by : (n : Named) → begins (reaching name n) name ≡ true
    by (named.Object from) = common_second from name
    by named.NonSpecific = begins_itself name
    by named.Nothing = begins_itself name

pub reference_is_tree : (reference : Option Instance) (name : List Rdn)
    → (with_reference reference name).part ≡ extents.Tree
reference_is_tree None name = refl
reference_is_tree (Some reference) name = refl

all_inside : (schema : Set) (unit : LockName) (name : List Rdn) → is_inside unit name ≡ true
    → is_inside (or_all schema unit).unit name ≡ true
all_inside schema unit name h = by (is_control schema unit.name)
  where
    by : (b : Bool) → is_inside (if b then writes (tree []) else writes unit).unit name ≡ true
    by true = refl
    by false = h

pub unit_has : (schema : Set) (is_log : List Rdn → Bool) (unit : LockName) (name : List Rdn)
    → is_inside unit name ≡ true → is_inside (ended_at is_log (or_all schema unit).unit) name ≡ true
unit_has schema is_log unit name h =
    ended_covers is_log (or_all schema unit).unit name (all_inside schema unit name h)

pub tree_inside : (unit : LockName) (name : List Rdn) → unit.part ≡ extents.Tree → begins unit.name name ≡ true
    → is_inside unit name ≡ true
tree_inside unit name is h = subst (λ (p : Part). inside_of p unit.name name ≡ true) (sym is) h

-- a unit that is a Tree and has a name has its superior, or it is below the superior
superior_same : (schema : Set) (unit : LockName) (one other : List NamedObject) (name : List Rdn)
    → unit.part ≡ extents.Tree → begins unit.name name ≡ true → IsByName one → IsByName other
    → read_set schema unit one ≡ read_set schema unit other
    → class_at one (superior_of name) ≡ class_at other (superior_of name)
superior_same schema unit one other name is h rises other_rises same =
    let agree : Agree (is_inside unit) one other =
    agree_from (is_inside unit) one other rises other_rises (ap (λ (c : ReadSet). c.held) same) in
    elim (comparable unit.name (superior_of name) name h (superior_begins name)) [
      | inl below ↦ ap (option_map (λ (object : Object). object.class))
          (agree.same (superior_of name) (tree_inside unit (superior_of name) is below))
      | inr above ↦ above_same schema unit one other agree (ap (λ (c : ReadSet). c.above) same) (superior_of name) above
    ]

pub ended_tree : (is_log : List Rdn → Bool) (front parts : List Rdn) (part : Part) → part ≡ extents.Tree
    → (ended_from is_log front parts part).part ≡ extents.Tree
ended_tree is_log front [] part is = by (is_log front)
  where
    by : (b : Bool) → (if b then tree front else record { name = front; part = part }).part ≡ extents.Tree
    by true = refl
    by false = is
ended_tree is_log front (first ∷ others) part is =
    by (ended_tree is_log (front ++ first ∷ []) others part is) (is_log front)
  where
    by : (ended_from is_log (front ++ first ∷ []) others part).part ≡ extents.Tree → (b : Bool)
        → (if b then tree front else ended_from is_log (front ++ first ∷ []) others part).part ≡ extents.Tree
    by again true = refl
    by again false = again

pub all_tree : (schema : Set) (unit : LockName) → unit.part ≡ extents.Tree
    → (or_all schema unit).unit.part ≡ extents.Tree
all_tree schema unit is = by (is_control schema unit.name)
  where
    by : (b : Bool) → (if b then writes (tree []) else writes unit).unit.part ≡ extents.Tree
    by true = refl
    by false = is

abbrev pub create_taken : Set → (List Rdn → Bool) → Option Instance → List Rdn → LockName
create_taken schema is_log reference name = ended_at is_log (or_all schema (with_reference reference name)).unit

named_same : (schema : Set) (is_log : List Rdn → Bool) (one other : List NamedObject) (asking : Asking)
    (class : List ℕ) (first : Rdn) (rest : List Rdn) → IsByName one → IsByName other
    → read_set schema (create_taken schema is_log asking.reference (first ∷ rest)) one
    ≡ read_set schema (create_taken schema is_log asking.reference (first ∷ rest)) other
    → in_place schema one asking class (first ∷ rest) (last_of first rest)
    ≡ in_place schema other asking class (first ∷ rest) (last_of first rest)
named_same schema is_log one other asking class first rest rises other_rises same =
    in_place_same schema one other asking class (first ∷ rest) (last_of first rest)
    (agree.same (first ∷ rest) there)
    (superior_same schema unit one other (first ∷ rest) is_tree (inside_begins unit (first ∷ rest) there) rises
    other_rises same) (by asking.reference refl)
  where
    unit : LockName
    unit = create_taken schema is_log asking.reference (first ∷ rest)

    whole : LockName
    whole = with_reference asking.reference (first ∷ rest)

    agree : Agree (is_inside unit) one other
    agree = agree_from (is_inside unit) one other rises other_rises (ap (λ (c : ReadSet). c.held) same)

    there : is_inside unit (first ∷ rest) ≡ true
    there = unit_has schema is_log whole (first ∷ rest)
        (tree_inside whole (first ∷ rest) (reference_is_tree asking.reference (first ∷ rest))
        (reaches_name asking.reference (first ∷ rest)))

    is_tree : unit.part ≡ extents.Tree
    is_tree = ended_tree is_log [] (or_all schema whole).unit.name (or_all schema whole).unit.part
        (all_tree schema whole (reference_is_tree asking.reference (first ∷ rest)))

    by_named : (reference : Instance) (n : Named) → reference.named ≡ n → asking.reference ≡ Some reference
        → named_object one n ≡ named_object other n
    by_named reference (named.Object from) e is =
        let has : is_inside (create_taken schema is_log (Some reference) (first ∷ rest)) from ≡ true =
        unit_has schema is_log (with_reference (Some reference) (first ∷ rest)) from
        (subst (λ (n : Named). begins (reaching (first ∷ rest) n) from ≡ true) (sym e) (common_first from
        (first ∷ rest))) in
        agree.same from
        (subst (λ (r : Option Instance). is_inside (create_taken schema is_log r (first ∷ rest)) from ≡ true)
        (sym is) has)
    by_named reference named.NonSpecific e is = refl
    by_named reference named.Nothing e is = refl

    by : (r : Option Instance) → asking.reference ≡ r → SameReference one other r
    by None e = tt
    by (Some reference) e = by_named reference reference.named refl e

by_class : (f g : List ℕ → Result Object CmisError) (r : Result Object CmisError) (o : Option (List ℕ))
    → ((c : List ℕ) → f c ≡ g c) → option_map_or f o r ≡ option_map_or g o r
by_class f g r None h = refl
by_class f g r (Some c) h = h c

if_same : (b : Bool) (x y r : Result Object CmisError) → (b ≡ true → x ≡ y)
    → (if b then x else r) ≡ (if b then y else r)
if_same true x y r h = h refl
if_same false x y r h = refl

abbrev pub CreationReads : Type 0
CreationReads = (schema : Set) (one other : List NamedObject) (class : IdRef) (instance : Instance)
    (reference : Option Instance) (given : List Given) (time : ℕ)
    → IsByName one → IsByName other
    → read_set schema (taken_by schema one (naming class instance reference given)).unit one
    ≡ read_set schema (taken_by schema one (naming class instance reference given)).unit other
    → create_one schema one class instance reference given time
    ≡ create_one schema other class instance reference given time

pub creation_reads : CreationReads
creation_reads = λ schema one other class instance reference given time rises other_rises same.
    by schema one other class instance reference given time rises other_rises same
  where
    by : (schema : Set) (one other : List NamedObject) (class : IdRef) (instance : Instance)
        (reference : Option Instance) (given : List Given) (time : ℕ) → IsByName one → IsByName other
        → read_set schema (taken_by schema one (naming class instance reference given)).unit one
        ≡ read_set schema (taken_by schema one (naming class instance reference given)).unit other
        → create_one schema one class instance reference given time
        ≡ create_one schema other class instance reference given time
    by schema one other class instance reference given time rises other_rises same =
        ap (effect_of schema (name_in instance.named) time) (by_named instance.named refl)
      where
        asking : Asking
        asking = asking_for class instance reference given

        short : (name : List Rdn) → instance.named ≡ named.Object name → new_name (named.Object name) ≡ Some name
            → read_set schema (create_taken schema (is_log_at schema one) reference name) one
            ≡ read_set schema (create_taken schema (is_log_at schema one) reference name) other
        short name is fits =
            subst (λ (o : Option (List Rdn)).
            read_set schema (ended_at (is_log_at schema one) (creating schema reference o).unit) one
            ≡ read_set schema (ended_at (is_log_at schema one) (creating schema reference o).unit) other)
            (ap new_name is ∙ fits) same

        by_named : (n : Named) → instance.named ≡ n
            → create_named schema one asking n ≡ create_named schema other asking n
        by_named named.NonSpecific is =
            by_class (under schema one asking named.NonSpecific) (under schema other asking named.NonSpecific) _
            (class_asked schema class) (λ c. refl)
        by_named named.Nothing is =
            by_class (under schema one asking named.Nothing) (under schema other asking named.Nothing) _
            (class_asked schema class) (λ c. refl)
        by_named (named.Object []) is =
            by_class (under schema one asking (named.Object [])) (under schema other asking (named.Object [])) _
            (class_asked schema class) (λ c. refl)
        by_named (named.Object (first ∷ rest)) is =
            by_class (under schema one asking (named.Object (first ∷ rest)))
            (under schema other asking (named.Object (first ∷ rest))) _ (class_asked schema class)
            (λ c. if_same (nat_le (suc (length rest)) 32 && has_value schema (last_of first rest)) _ _ _
            (λ good.
            let parts = and_parts (nat_le (suc (length rest)) 32) (has_value schema (last_of first rest)) good in
            named_same schema (is_log_at schema one) one other asking c first rest rises other_rises
            (short (first ∷ rest) is
            (ap (λ b. if b then Some (first ∷ rest) else None) parts.0))))
