-- Maps with the same read set have the same path.
use Rattle.std.proofs.Common.{◌≡◌, ℕ, Bool, true, false, List, [], ◌∷◌, ◌++◌, Option, None, Some}
use Rattle.std.proofs.Common.{refl, sym, ap, ◌∙◌, subst, append_assoc, append-nil, if◌then◌else◌}
use Rattle.std.specs.Option.{option_map, option_map_or}
use Rattle.term_model.specs.declared.name.Rdn.{Rdn}
use Rattle.term_model.specs.declared.object.Object.{Object}
use Rattle.term_model.specs.declared.objects.NamedObject.{NamedObject}
use Rattle.term_model.specs.declared.schema.Set.{Set}
use Rattle.term_model.specs.BoundClasses.{is_bound_log}
use Rattle.term_model.specs.NamedObjects.{object_at}
use Rattle.term_model.proofs.MapLaws.{same_itself}
use Rattle.lock_model.specs.declared.lock_name.LockName.{LockName}
use Rattle.lock_model.specs.declared.lock_name.Part.{Part}
use Rattle.lock_model.specs.LockPath.{begins, inside_of, is_inside, tree}
use Rattle.lock_model.specs.Units.{ended_from, is_log_at, taken_on}
use Rattle.lock_model.specs.ReadSet.{ReadSet, class_at, classes_from}
use Rattle.lock_model.specs.OperationLaws.{PathStays}
use Rattle.lock_model.proofs.Names.{begins_is, begins_itself}
use Rattle.lock_model.proofs.Maps.{Agree, agree_from}
use Rattle.lock_model.proofs.Covering.{front_begins}
use Rattle.lock_model.specs.declared.lock_name.Part.TheVariants as extents

first_of : Option (List ℕ) → List (Option (List ℕ)) → Option (List ℕ)
first_of other [] = other
first_of other (x ∷ xs) = x

rest_of : List (Option (List ℕ)) → List (Option (List ℕ))
rest_of [] = []
rest_of (x ∷ xs) = xs

-- the classes of superiors, one by one
pub classes_at : (one other : List NamedObject) (front parts : List Rdn) (last : Rdn) (behind : List Rdn)
    → classes_from one front (parts ++ last ∷ behind) ≡ classes_from other front (parts ++ last ∷ behind)
    → class_at one (front ++ parts) ≡ class_at other (front ++ parts)
unfolding first_of rest_of
classes_at one other front [] last behind h =
    subst (λ n. class_at one n ≡ class_at other n) (sym (append-nil front)) (ap (first_of None) h)
classes_at one other front (part ∷ parts) last behind h =
    subst (λ n. class_at one n ≡ class_at other n) (append_assoc front (part ∷ []) parts)
    (classes_at one other (front ++ part ∷ []) parts last behind (ap rest_of h))

itself_inside : (unit : LockName) → is_inside unit unit.name ≡ true
itself_inside unit = by unit.part
  where
    by : (part : Part) → inside_of part unit.name unit.name ≡ true
    by extents.Tree = begins_itself unit.name
    by extents.Own = same_itself unit.name

-- of each name that begins the unit's the class is in the read set
pub above_same : (schema : Set) (unit : LockName) (one other : List NamedObject) → Agree (is_inside unit) one other
    → classes_from one [] unit.name ≡ classes_from other [] unit.name → (name : List Rdn)
    → begins name unit.name ≡ true → class_at one name ≡ class_at other name
above_same schema unit one other h above name begun =
    let behind = begins_is name unit.name begun in by behind.0 behind.1
  where
    by : (rest : List Rdn) → unit.name ≡ name ++ rest → class_at one name ≡ class_at other name
    by [] is =
        subst (λ n. class_at one n ≡ class_at other n) (is ∙ append-nil name)
        (ap (option_map (λ (object : Object). object.class)) (h.same unit.name (itself_inside unit)))
    by (last ∷ rest) is =
        classes_at one other [] name last rest (subst (λ n. classes_from one [] n ≡ classes_from other [] n) is above)

-- whether a bound log stands there is told by the class
of_class : Set → Option (List ℕ) → Bool
of_class schema there = option_map_or (is_bound_log schema) there false

log_by_class : (schema : Set) (objects : List NamedObject) (name : List Rdn)
    → is_log_at schema objects name ≡ of_class schema (class_at objects name)
unfolding of_class
log_by_class schema objects name = by (object_at objects name)
  where
    by : (o : Option Object)
        → option_map_or (λ (object : Object). is_bound_log schema object.class) o false
        ≡ option_map_or (is_bound_log schema) (option_map (λ (object : Object). object.class) o) false
    by None = refl
    by (Some object) = refl

-- where the class is the same, so is whether a bound log stands there
pub log_same : (schema : Set) (one other : List NamedObject) (name : List Rdn)
    → class_at one name ≡ class_at other name → is_log_at schema one name ≡ is_log_at schema other name
log_same schema one other name h =
    log_by_class schema one name ∙ ap (of_class schema) h ∙ sym (log_by_class schema other name)

-- ---- the walk

pub ended_name : (is_log : List Rdn → Bool) (front parts : List Rdn) (part : Part)
    → begins front (ended_from is_log front parts part).name ≡ true
ended_name is_log front [] part = by (is_log front)
  where
    by : (b : Bool) → begins front (if b then tree front else record { name = front; part = part }).name ≡ true
    by true = begins_itself front
    by false = begins_itself front
ended_name is_log front (first ∷ others) part =
    by (ended_name is_log (front ++ first ∷ []) others part) (is_log front)
  where
    by : begins (front ++ first ∷ []) (ended_from is_log (front ++ first ∷ []) others part).name ≡ true → (b : Bool)
        → begins front (if b then tree front else ended_from is_log (front ++ first ∷ []) others part).name ≡ true
    by again true = begins_itself front
    by again false =
        front_begins front (first ∷ []) (ended_from is_log (front ++ first ∷ []) others part).name again

abbrev AlikeUpTo : (List Rdn → Bool) → (List Rdn → Bool) → List Rdn → Type 0
AlikeUpTo one other end = (name : List Rdn) → begins name end ≡ true → one name ≡ other name

pub ended_same : (one other : List Rdn → Bool) (front parts : List Rdn) (part : Part)
    → AlikeUpTo one other (ended_from one front parts part).name
    → ended_from other front parts part ≡ ended_from one front parts part
ended_same one other front [] part h =
    let at : one front ≡ other front = h front (ended_name one front [] part) in
    ap (λ b. if b then tree front else record { name = front; part = part }) (sym at)
ended_same one other front (first ∷ others) part h =
    let at : one front ≡ other front = h front (ended_name one front (first ∷ others) part) in
    ap (λ b. if b then tree front else ended_from other (front ++ first ∷ []) others part) (sym at)
    ∙ by (one front) (ended_same one other (front ++ first ∷ []) others part) h
  where
    by : (b : Bool)
        → (AlikeUpTo one other (ended_from one (front ++ first ∷ []) others part).name
        → ended_from other (front ++ first ∷ []) others part ≡ ended_from one (front ++ first ∷ []) others part)
        → AlikeUpTo one other (if b then tree front else ended_from one (front ++ first ∷ []) others part).name
        → (if b then tree front else ended_from other (front ++ first ∷ []) others part)
        ≡ (if b then tree front else ended_from one (front ++ first ∷ []) others part)
    by true again k = refl
    by false again k = again k

pub path_stays : PathStays
path_stays = λ schema one other whole rises other_rises same.
    let unit : LockName = (taken_on schema one whole).unit in
    let agree : Agree (is_inside unit) one other =
    agree_from (is_inside unit) one other rises other_rises (ap (λ (c : ReadSet). c.held) same) in
    let logs : AlikeUpTo (is_log_at schema one) (is_log_at schema other) unit.name = λ name begun.
    log_by_class schema one name
    ∙ ap (of_class schema) (above_same schema unit one other agree (ap (λ (c : ReadSet). c.above) same) name begun)
    ∙ sym (log_by_class schema other name) in
    let is = ended_same (is_log_at schema one) (is_log_at schema other) [] whole.unit.name whole.unit.part logs in
    λ i. record { unit = is i; writing = whole.writing }
