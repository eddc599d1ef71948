-- Paths whose modes go together have units that don't meet.
use Rattle.std.proofs.Common.{◌≡◌, Bool, true, false, List, [], ◌∷◌, ◌++◌, inl, inr}
use Rattle.std.proofs.Common.{refl, sym, ap, ◌∙◌, subst, append_assoc, append-nil}
use Rattle.std.specs.Option.{option_map}
use Rattle.std.specs.Prelude.{Contains}
use Rattle.std.proofs.lemmas.Bool.{false≢true}
use Rattle.term_model.specs.declared.name.Rdn.{Rdn}
use Rattle.term_model.specs.declared.object.Object.{Object}
use Rattle.term_model.specs.declared.objects.NamedObject.{NamedObject}
use Rattle.term_model.specs.declared.schema.Set.{Set}
use Rattle.term_model.specs.Comparing.{is_same_name}
use Rattle.term_model.specs.NamedObjects.{IsByName, object_at}
use Rattle.term_model.proofs.MapLaws.{name_Decides}
use Rattle.lock_model.specs.declared.lock_name.Mode.{Mode}
use Rattle.lock_model.specs.declared.lock_name.Part.{Part}
use Rattle.lock_model.specs.declared.path.Wanted.{Wanted}
use Rattle.lock_model.specs.LockPath.{at_the_unit, begins, goes_with, inside_of, is_inside}
use Rattle.lock_model.specs.LockPath.{on_the_way, own, tree, way_to}
use Rattle.lock_model.specs.Units.{IsPlain, is_control, is_control_part}
use Rattle.lock_model.specs.ReadSet.{class_at, classes_from, controls, read_set, inside, is_control_name}
use Rattle.lock_model.specs.OperationLaws.{Framed}
use Rattle.lock_model.specs.PathLaws.{DisjointUnits, GoTogether, ReadSetStays}
use Rattle.lock_model.proofs.Names.{begins_is, begins_itself, begins_more, begins_trans, comparable, inside_begins}
use Rattle.lock_model.proofs.Maps.{agree_kept}
use Rattle.lock_model.proofs.Ways.{at_unit, on_higher_tree, on_own_tree, on_tree}
use Rattle.lock_model.specs.declared.lock_name.Part.TheVariants as extents

abbrev at : List Rdn → Part → Bool → Wanted
at name part writing = record { unit = record { name = name; part = part }; writing = writing }

-- X goes with nothing; IX with no full mode
x_alone : (m : Mode) → goes_with (at_the_unit true) m ≡ true → ⊥
x_alone m h = false≢true h

way_not_unit : (writing : Bool) → goes_with (on_the_way true) (at_the_unit writing) ≡ true → ⊥
way_not_unit true h = false≢true h
way_not_unit false h = false≢true h

-- no way comes to the name of a Tree that is written
not_below : (n m : List Rdn) (part : Part) (writing : Bool)
    → GoTogether (way_to (at n extents.Tree true)) (way_to (at m part writing)) → begins n m ≡ true → ⊥
not_below n m part writing go h =
    let there = on_tree (at m part writing) n h in
    x_alone there.0 (go (tree n) (at_the_unit true) there.0 (at_unit (at n extents.Tree true)) there.1)

-- and no Tree above it is held
not_above : (n m : List Rdn) (writing : Bool)
    → GoTogether (way_to (at n extents.Tree true)) (way_to (at m extents.Tree writing)) → begins m n ≡ true → ⊥
not_above n m writing go h = let behind = begins_is m n h in by behind.0 behind.1
  where
    by : (rest : List Rdn) → n ≡ m ++ rest → ⊥
    by [] is =
        not_below n m extents.Tree writing go
        (subst (λ k. begins n k ≡ true) (is ∙ append-nil m) (begins_itself n))
    by (last ∷ rest) is =
        way_not_unit writing (go (tree m) (on_the_way true) (at_the_unit writing)
        (on_higher_tree (at n extents.Tree true) m rest last is) (at_unit (at m extents.Tree writing)))

-- nor is a Tree held that an object which is written stands in
not_over : (n m : List Rdn) (writing : Bool)
    → GoTogether (way_to (at n extents.Own true)) (way_to (at m extents.Tree writing)) → begins m n ≡ true → ⊥
not_over n m writing go h =
    way_not_unit writing (go (tree m) (on_the_way true) (at_the_unit writing)
    (on_own_tree (at n extents.Own true) m refl h) (at_unit (at m extents.Tree writing)))

not_same : (n m : List Rdn) (writing : Bool)
    → GoTogether (way_to (at n extents.Own true)) (way_to (at m extents.Own writing)) → m ≡ n → ⊥
not_same n m writing go is =
    x_alone (at_the_unit writing) (go (own n) (at_the_unit true) (at_the_unit writing) (at_unit (at n extents.Own true))
    (subst (λ k. Contains (way_to (at m extents.Own writing)) (own k, at_the_unit writing)) is
    (at_unit (at m extents.Own writing))))

pub unless : (b : Bool) → (b ≡ true → ⊥) → b ≡ false
unless true h = absurd (h refl)
unless false h = refl

abbrev Apart : List Rdn → Part → List Rdn → Part → List Rdn → Type 0
Apart n p m q name = (inside_of q m name ≡ false) × (begins name m ≡ true → p ≡ extents.Own)

apart : (n : List Rdn) (p : Part) (m : List Rdn) (q : Part) (writing : Bool) (name : List Rdn)
    → GoTogether (way_to (at n p true)) (way_to (at m q writing)) → inside_of p n name ≡ true → Apart n p m q name
apart n extents.Tree m extents.Tree writing name go within = (
  unless (begins m name) (λ h.
      elim (comparable n m name within h) [
        | inl below ↦ not_below n m extents.Tree writing go below
        | inr above ↦ not_above n m writing go above
      ]),
  λ h. absurd (not_below n m extents.Tree writing go (begins_trans n name m within h)),
)
apart n extents.Tree m extents.Own writing name go within = (
  unless (is_same_name m name) (λ h.
      not_below n m extents.Own writing go (subst (λ k. begins n k ≡ true) (sym ((name_Decides m name).0 h)) within)),
  λ h. absurd (not_below n m extents.Own writing go (begins_trans n name m within h)),
)
apart n extents.Own m extents.Tree writing name go within = (
  unless (begins m name) (λ h.
      not_over n m writing go (subst (λ k. begins m k ≡ true) (sym ((name_Decides n name).0 within)) h)),
  λ h. refl,
)
apart n extents.Own m extents.Own writing name go within = (
  unless (is_same_name m name) (λ h.
      not_same n m writing go ((name_Decides m name).0 h ∙ sym ((name_Decides n name).0 within))),
  λ h. refl,
)

pub disjoint_units : DisjointUnits
disjoint_units = λ one other name writes go within.
    apart one.unit.name one.unit.part other.unit.name other.unit.part other.writing name
    (subst (λ (w : Bool). GoTogether (way_to (at one.unit.name one.unit.part w)) (way_to other)) writes go) within

-- ---- read sets stay

classes_all : (one other : List NamedObject) (front parts : List Rdn)
    → ((p rest : List Rdn) (last : Rdn) → parts ≡ p ++ last ∷ rest
    → class_at one (front ++ p) ≡ class_at other (front ++ p))
    → classes_from one front parts ≡ classes_from other front parts
classes_all one other front [] h = refl
classes_all one other front (first ∷ others) h =
    let here : class_at one front ≡ class_at other front =
    subst (λ n. class_at one n ≡ class_at other n) (append-nil front) (h [] others first refl) in
    let rest : classes_from one (front ++ first ∷ []) others ≡ classes_from other (front ++ first ∷ []) others =
    classes_all one other (front ++ first ∷ []) others
    (λ p behind last is.
    subst (λ n. class_at one n ≡ class_at other n) (sym (append_assoc front (first ∷ []) p))
    (h (first ∷ p) behind last (ap (λ ps. first ∷ ps) is))) in
    λ i. here i ∷ rest i

-- a way begins at the root's Tree, so no other one goes with X there
root_alone : (other : Wanted) → GoTogether (way_to (at [] extents.Tree true)) (way_to other) → ⊥
root_alone other go = not_below [] other.unit.name other.unit.part other.writing go refl

-- a control object is in no unit that is written and isn't all
no_control : (schema : Set) (n : List Rdn) (p : Part) (other : Wanted) (name : List Rdn)
    → GoTogether (way_to (at n p true)) (way_to other) → is_control schema n ≡ false
    → is_control_name schema name ≡ true → inside_of p n name ≡ true → ⊥
no_control schema [] extents.Tree other name go plain h within = root_alone other go
no_control schema [] extents.Own other [] go plain h within = false≢true h
no_control schema [] extents.Own other (x ∷ xs) go plain h within = false≢true within
no_control schema (r ∷ rs) p other [] go plain h within = false≢true h
no_control schema (r ∷ rs) p other (x ∷ y ∷ ys) go plain h within = false≢true h
no_control schema (r ∷ rs) p other (x ∷ []) go plain h within =
    let begun = begins_is (r ∷ rs) (x ∷ []) (inside_begins (record { name = r ∷ rs; part = p }) (x ∷ []) within) in
    let same : x ≡ r = ap (λ (ps : List Rdn). first_or x ps) begun.1 in
    false≢true (sym plain ∙ ap (is_control_part schema) (sym same) ∙ h)
  where
    first_or : Rdn → List Rdn → Rdn
    first_or y [] = y
    first_or y (z ∷ zs) = z

pub read_set_stays : ReadSetStays
read_set_stays = λ schema one other before after go plain rises framed.
    by schema one other before after go plain rises framed one.writing refl
  where
    by : (schema : Set) (one other : Wanted) (before after : List NamedObject)
        → GoTogether (way_to one) (way_to other) → IsPlain schema one → IsByName before
        → Framed one before after → (b : Bool) → one.writing ≡ b
        → read_set schema other.unit after ≡ read_set schema other.unit before
    by schema one other before after go plain rises framed false reads =
        ap (read_set schema other.unit) (framed.reading reads)
    by schema one other before after go plain rises framed true writes =
        λ i. record { above = above i; rules = rules i; held = held i }
      where
        apart_at : (name : List Rdn) → is_inside one.unit name ≡ true
            → Apart one.unit.name one.unit.part other.unit.name other.unit.part name
        apart_at name within = disjoint_units one other name writes go within

        same_in : (name : List Rdn) → is_inside other.unit name ≡ true → (b : Bool) → is_inside one.unit name ≡ b
            → object_at after name ≡ object_at before name
        same_in name h true e = absurd (false≢true (sym (apart_at name e).0 ∙ h))
        same_in name h false e = framed.outside name e

        held : inside other.unit after ≡ inside other.unit before
        held = agree_kept (is_inside other.unit) after before (record {
          rises = framed.rises;
          other_rises = rises;
          same = λ name h. same_in name h (is_inside one.unit name) refl;
        })

        same_control : (name : List Rdn) → is_control_name schema name ≡ true → (b : Bool)
            → is_inside one.unit name ≡ b → object_at after name ≡ object_at before name
        same_control name h true e =
            absurd (no_control schema one.unit.name one.unit.part other name
            (subst (λ (w : Bool). GoTogether (way_to (at one.unit.name one.unit.part w)) (way_to other)) writes go)
            (plain writes) h e)
        same_control name h false e = framed.outside name e

        rules : controls schema after ≡ controls schema before
        rules = agree_kept (is_control_name schema) after before (record {
          rises = framed.rises;
          other_rises = rises;
          same = λ name h. same_control name h (is_inside one.unit name) refl;
        })

        -- a superior's class: it is outside, or is an object alone
        alone_at : (p : Part) (n name : List Rdn) → inside_of p n name ≡ true → p ≡ extents.Own → n ≡ name
        alone_at extents.Own n name h is = (name_Decides n name).0 h
        alone_at extents.Tree n name h is = absurd cc

        class_in : (name : List Rdn) → begins name other.unit.name ≡ true → (b : Bool) → is_inside one.unit name ≡ b
            → class_at after name ≡ class_at before name
        class_in name h true e =
            let alone : one.unit.part ≡ extents.Own = (apart_at name e).1 h in
            subst (λ n. class_at after n ≡ class_at before n)
            (alone_at one.unit.part one.unit.name name e alone) (framed.own alone)
        class_in name h false e = ap (option_map (λ (object : Object). object.class)) (framed.outside name e)

        above : classes_from after [] other.unit.name ≡ classes_from before [] other.unit.name
        above = classes_all after before [] other.unit.name
            (λ p rest last is.
            class_in p (subst (λ n. begins p n ≡ true) (sym is) (begins_more p (last ∷ rest)))
            (is_inside one.unit p) refl)
