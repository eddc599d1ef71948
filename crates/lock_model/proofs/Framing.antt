-- The laws for m-Get and m-Set.
use Rattle.std.proofs.Common.{◌≡◌, ℕ, Bool, true, false, List, [], ◌∷◌, Option, None, Some}
use Rattle.std.proofs.Common.{refl, sym, ap, ◌∙◌, inl, inr, length, subst, if◌then◌else◌, arith}
use Rattle.std.specs.Prelude.{nat_le}
use Rattle.std.specs.Option.{option_map}
use Rattle.std.proofs.lemmas.Bool.Decides.{nat_tests}
use Rattle.std.proofs.lemmas.Option.{none-some, same_Some}
use Rattle.term_model.specs.declared.name.Rdn.{Rdn}
use Rattle.term_model.specs.declared.object.Object.{Object}
use Rattle.term_model.specs.declared.objects.NamedObject.{NamedObject}
use Rattle.term_model.specs.declared.request.Change.{Change}
use Rattle.term_model.specs.declared.request.Head.{Head}
use Rattle.term_model.specs.declared.request.IdRef.{IdRef}
use Rattle.term_model.specs.declared.request.Named.{Named}
use Rattle.term_model.specs.declared.request.Named.TheVariants as named
use Rattle.term_model.specs.declared.schema.Set.{Set}
use Rattle.term_model.specs.Comparing.{is_same_name}
use Rattle.term_model.specs.NamedObjects.{IsByName, object_at, stored}
use Rattle.term_model.proofs.MapLaws.{name_Decides, others_stay, stored_is_found}
use Rattle.operation_model.specs.OperationChecks.{base_object}
use Rattle.operation_model.specs.WholeOperation.{Changed, getting, granted_at, installed, is_atomic}
use Rattle.operation_model.specs.WholeOperation.{setting}
use Rattle.lock_model.specs.declared.lock_name.LockName.{LockName}
use Rattle.lock_model.specs.LockPath.{is_inside, tree}
use Rattle.lock_model.specs.Units.{ended_at, in_scope_of, is_control, or_all, short_name, writes}
use Rattle.lock_model.specs.ReadSet.{class_at}
use Rattle.lock_model.specs.OperationLaws.{AreShort}
use Rattle.lock_model.proofs.Maps.{installed_outside, installed_rises}
use Rattle.lock_model.proofs.Keeping.{KeepsOn}
use Rattle.lock_model.proofs.OneObject.{IsOwnChange, get_none, set_is_own}
use Rattle.lock_model.proofs.Covering.{covers_more, ended_covers, scope_covers}
use Rattle.lock_model.proofs.Reading.{Covers}

-- ---- what is kept

pub record Kept (test : List Rdn → Bool) (before after : List NamedObject) : Type 0 where
  pub rises : IsByName after
  pub outside : (name : List Rdn) → test name ≡ false → object_at after name ≡ object_at before name
  pub classes : (name : List Rdn) → class_at after name ≡ class_at before name

pub kept_itself : (test : List Rdn → Bool) (objects : List NamedObject) → IsByName objects → Kept test objects objects
kept_itself test objects h = record { rises = h; outside = λ name out. refl; classes = λ name. refl }

-- another object of its class under a name
stored_classes : (objects : List NamedObject) (name : List Rdn) (before now : Object)
    → object_at objects name ≡ Some before → now.class ≡ before.class → (other : List Rdn)
    → class_at (stored (record { name = name; object = now }) objects) other ≡ class_at objects other
stored_classes objects name before now there class other = by (is_same_name name other) refl
  where
    entry : NamedObject
    entry = record { name = name; object = now }

    by : (b : Bool) → is_same_name name other ≡ b
        → class_at (stored entry objects) other ≡ class_at objects other
    by true e =
        let is : name ≡ other = (name_Decides name other).0 e in
        subst (λ n. class_at (stored entry objects) n ≡ class_at objects n) is
        (ap (option_map (λ (object : Object). object.class)) (stored_is_found entry objects)
        ∙ ap (λ (c : List ℕ). Some c) class
        ∙ sym (ap (option_map (λ (object : Object). object.class)) there))
    by false e = ap (option_map (λ (object : Object). object.class)) (others_stay entry objects other e)

pub own_change_keeps : (test : List Rdn → Bool) (start objects : List NamedObject) (name : List Rdn) (object : Object)
    (changes : Changed) → test name ≡ true → object_at objects name ≡ Some object → IsOwnChange name object changes
    → Kept test start objects → Kept test start (installed objects changes)
own_change_keeps test start objects name object changes within there change h =
    elim change [
      | inl none ↦ subst (λ (cs : Changed). Kept test start (installed objects cs)) (sym none) h
      | inr some ↦ (
          let made : Changed = (name, Some some.0) ∷ [] in
          subst (λ (cs : Changed). Kept test start (installed objects cs)) (sym some.1) (record {
            rises = installed_rises objects made h.rises;
            outside = λ n out. installed_outside test objects made n (within, tt) out ∙ h.outside n out;
            classes = λ n. stored_classes objects name object some.0 there some.2 n ∙ h.classes n;
          }))
    ]

pub get_keeps : (test : List Rdn → Bool) (start : List NamedObject) (schema : Set) (asked : Option (List IdRef))
    (time : ℕ) → KeepsOn test (λ objects. objects ≡ start) (getting schema asked time)
get_keeps test start schema asked time objects name object effect within good there is =
    ap (installed objects) (get_none schema name object asked (granted_at time) effect is) ∙ good

pub set_keeps : (test : List Rdn → Bool) (start : List NamedObject) (schema : Set) (head : Head)
    (changes : List Change) (time : ℕ) → KeepsOn test (Kept test start) (setting schema head changes time)
set_keeps test start schema head changes time objects name object effect within good there is =
    own_change_keeps test start objects name object effect.changes within there
    (set_is_own schema name object changes (is_atomic head) (granted_at time) effect is) good

-- ---- the base object

pub short_is : (n : Named) (base : List Rdn) → short_name n ≡ Some base → n ≡ named.Object base
short_is (named.Object name) base h = by (nat_le (length name) 32) h
  where
    by : (b : Bool) → (if b then Some name else None) ≡ Some base → named.Object name ≡ named.Object base
    by true e = ap named.Object (same_Some name base e)
    by false e = absurd (none-some base e)
short_is named.NonSpecific base h = absurd (none-some base h)
short_is named.Nothing base h = absurd (none-some base h)

pub short_absent : (objects : List NamedObject) (n : Named) → AreShort objects → short_name n ≡ None
    → base_object objects n ≡ None
short_absent objects (named.Object name) short h = by (nat_le (length name) 32) refl h
  where
    by : (b : Bool) → nat_le (length name) 32 ≡ b → (if b then Some name else None) ≡ None
        → object_at objects name ≡ None
    by true e f = absurd (none-some name (sym f))
    by false e f = short name (grind (arith, nat_tests))
short_absent objects named.NonSpecific short h = refl
short_absent objects named.Nothing short h = refl

-- who acts on control objects has all
pub all_covers : (schema : Set) (head : Head) (base : List Rdn)
    → Covers (is_inside (or_all schema (in_scope_of head base)).unit) base head.scope
all_covers schema head base = by (is_control schema (in_scope_of head base).name)
  where
    by : (b : Bool) → Covers (is_inside (if b then writes (tree []) else writes (in_scope_of head base)).unit) base
        head.scope
    by true = (refl, λ name h. refl)
    by false = scope_covers head base

abbrev pub whole_covers : (unit : LockName) (is_log : List Rdn → Bool) (base : List Rdn) (head : Head)
    → Covers (is_inside unit) base head.scope → Covers (is_inside (ended_at is_log unit)) base head.scope
whole_covers unit is_log base head covers =
    covers_more (is_inside unit) (is_inside (ended_at is_log unit)) base head.scope (ended_covers is_log unit) covers
