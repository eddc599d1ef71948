-- An m-Create that names the instance: what it changes, and of what it tells.
use Rattle.std.proofs.Common.{◌≡◌, ℕ, suc, Bool, true, false, List, [], ◌∷◌, Option, None, Some, Result, Ok, Err}
use Rattle.std.proofs.Common.{refl, sym, ap, ◌∙◌, subst, length, if◌then◌else◌}
use Rattle.std.specs.Prelude.{◌&&◌, nat_le}
use Rattle.std.specs.Option.{option_map_or}
use Rattle.std.proofs.lemmas.Bool.{false≢true}
use Rattle.std.proofs.lemmas.Option.{none-some, same_Some}
use Rattle.term_model.specs.declared.effect.Effect.{Effect}
use Rattle.term_model.specs.declared.filter_item.Given.{Given}
use Rattle.term_model.specs.declared.name.Rdn.{Rdn}
use Rattle.term_model.specs.declared.object.Object.{Object}
use Rattle.term_model.specs.declared.objects.NamedObject.{NamedObject}
use Rattle.term_model.specs.declared.reply.CmisError.{CmisError}
use Rattle.term_model.specs.declared.request.IdRef.{IdRef}
use Rattle.term_model.specs.declared.request.Instance.{Instance}
use Rattle.term_model.specs.declared.request.Named.{Named}
use Rattle.term_model.specs.declared.request.Named.TheVariants as named
use Rattle.term_model.specs.declared.schema.Set.{Set}
use Rattle.term_model.specs.CreateEffect.{asking_for, create_one, effect_of, name_in}
use Rattle.term_model.specs.Creating.{Asking, class_asked, create_named, has_value, last_of, refused, under}
use Rattle.term_model.specs.NamedObjects.{IsByName, object_at}
use Rattle.operation_model.specs.WholeOperation.{Changed, installed}
use Rattle.lock_model.specs.declared.lock_name.LockName.{LockName}
use Rattle.lock_model.specs.declared.path.Wanted.{Wanted}
use Rattle.lock_model.specs.LockPath.{is_inside}
use Rattle.lock_model.specs.Units.{creating, ended_at, is_log_at, new_name, or_all, taken_by, with_reference}
use Rattle.lock_model.specs.ReadSet.{ReadSet, class_at, read_set}
use Rattle.lock_model.specs.OperationLaws.{AlikeOutcomes, Framed}
use Rattle.lock_model.specs.CreationLaws.{CreateKeepsToUnit, created_outcome, effected, naming}
use Rattle.lock_model.proofs.Maps.{Agree, AreInside, agree_from, agree_kept, installed_agrees, installed_outside}
use Rattle.lock_model.proofs.Maps.{installed_rises}
use Rattle.lock_model.proofs.Plain.{whole_plain}
use Rattle.lock_model.proofs.WholeLaws.{all_writes}
use Rattle.lock_model.proofs.Creations.{all_tree, creation_reads, ended_tree, reaches_name, reference_is_tree}
use Rattle.lock_model.proofs.Creations.{tree_inside, unit_has}
use Rattle.lock_model.specs.declared.lock_name.Part.TheVariants as extents

-- a creation is refused where no new name is given
abbrev IsRefused : Result Object CmisError → Type 0
IsRefused (Ok object) = ⊥
IsRefused (Err error) = Unit {0}

refused_by : (f : List ℕ → Result Object CmisError) (e : CmisError) (o : Option (List ℕ))
    → ((c : List ℕ) → IsRefused (f c)) → IsRefused (option_map_or f o (refused e))
refused_by f e None h = tt
refused_by f e (Some c) h = h c

refused_if : (b c : Bool) (x : Result Object CmisError) (e : CmisError) → b ≡ false
    → IsRefused (if b && c then x else refused e)
refused_if false c x e h = tt
refused_if true c x e h = absurd (false≢true (sym h))

no_fit : (b : Bool) (name : List Rdn) → (if b then Some name else None) ≡ None → b ≡ false
no_fit true name h = absurd (none-some name (sym h))
no_fit false name h = refl

unnamed_refused : (schema : Set) (objects : List NamedObject) (asking : Asking) (n : Named) → new_name n ≡ None
    → IsRefused (create_named schema objects asking n)
unnamed_refused schema objects asking named.NonSpecific h =
    refused_by (under schema objects asking named.NonSpecific) _ (class_asked schema asking.class) (λ c. tt)
unnamed_refused schema objects asking named.Nothing h =
    refused_by (under schema objects asking named.Nothing) _ (class_asked schema asking.class) (λ c. tt)
unnamed_refused schema objects asking (named.Object []) h =
    refused_by (under schema objects asking (named.Object [])) _ (class_asked schema asking.class) (λ c. tt)
unnamed_refused schema objects asking (named.Object (first ∷ rest)) h =
    refused_by (under schema objects asking (named.Object (first ∷ rest))) _ (class_asked schema asking.class)
    (λ c. refused_if (nat_le (suc (length rest)) 32) (has_value schema (last_of first rest)) _ _
    (no_fit (nat_le (suc (length rest)) 32) (first ∷ rest) h))

refused_leaves : (schema : Set) (objects : List NamedObject) (n : List Rdn) (time : ℕ) (r : Result Object CmisError)
    → IsRefused r → (effected objects (effect_of schema n time r)).objects ≡ objects
refused_leaves schema objects n time (Ok object) h = absurd h
refused_leaves schema objects n time (Err error) h = refl

same_framed : (wanted : Wanted) (before after : List NamedObject) → IsByName before → after ≡ before
    → Framed wanted before after
same_framed wanted before after rises same = record {
  rises = subst IsByName (sym same) rises;
  outside = λ name out. ap (λ (objects : List NamedObject). object_at objects name) same;
  own = λ alone. ap (λ (objects : List NamedObject). class_at objects wanted.unit.name) same;
  reading = λ reads_. same;
}

-- a unit that is a Tree, with a change inside it
tree_framed : (wanted : Wanted) (objects : List NamedObject) (schema : Set) (n : List Rdn) (time : ℕ)
    (r : Result Object CmisError) → IsByName objects → wanted.unit.part ≡ extents.Tree → wanted.writing ≡ true
    → is_inside wanted.unit n ≡ true → Framed wanted objects (effected objects (effect_of schema n time r)).objects
tree_framed wanted objects schema n time (Err error) rises is writes within =
    same_framed wanted objects objects rises refl
tree_framed wanted objects schema n time (Ok object) rises is writes within =
    let made : Changed = (n, Some object) ∷ [] in
    record {
      rises = installed_rises objects made rises;
      outside = λ name out. installed_outside (is_inside wanted.unit) objects made name (within, tt) out;
      own = λ alone. absurd (cc (sym is ∙ alone));
      reading = λ reads_. absurd (false≢true (sym reads_ ∙ writes));
    }

name_is : (n : Named) (name : List Rdn) → new_name n ≡ Some name → name_in n ≡ name
name_is (named.Object []) name h = absurd (none-some name h)
name_is (named.Object (first ∷ rest)) name h = by (nat_le (length (first ∷ rest)) 32) h
  where
    by : (b : Bool) → (if b then Some (first ∷ rest) else None) ≡ Some name → first ∷ rest ≡ name
    by true e = same_Some (first ∷ rest) name e
    by false e = absurd (none-some name e)
name_is named.NonSpecific name h = absurd (none-some name h)
name_is named.Nothing name h = absurd (none-some name h)

abbrev create_wanted : Set → List NamedObject → Option Instance → Option (List Rdn) → Wanted
create_wanted schema objects reference o =
    let whole = creating schema reference o in
    record { unit = ended_at (is_log_at schema objects) whole.unit; writing = whole.writing }

abbrev CreationFrame : Type 0
CreationFrame = (schema : Set) (objects : List NamedObject) (class : IdRef) (instance : Instance)
    (reference : Option Instance) (given : List Given) (time : ℕ) → IsByName objects
    → Framed (taken_by schema objects (naming class instance reference given)) objects
    (created_outcome schema objects class instance reference given time).objects

creation_frame : CreationFrame
creation_frame = λ schema objects class instance reference given time rises.
    by schema objects class instance reference given time rises (new_name instance.named) refl
  where
    by : (schema : Set) (objects : List NamedObject) (class : IdRef) (instance : Instance)
        (reference : Option Instance) (given : List Given) (time : ℕ) → IsByName objects → (o : Option (List Rdn))
        → new_name instance.named ≡ o
        → Framed (taken_by schema objects (naming class instance reference given)) objects
        (created_outcome schema objects class instance reference given time).objects
    by schema objects class instance reference given time rises None e =
        let asking : Asking = asking_for class instance reference given in
        same_framed (taken_by schema objects (naming class instance reference given)) objects
        (created_outcome schema objects class instance reference given time).objects rises
        (refused_leaves schema objects (name_in instance.named) time (create_named schema objects asking instance.named)
        (unnamed_refused schema objects asking instance.named e))
    by schema objects class instance reference given time rises (Some name) e =
        let asking : Asking = asking_for class instance reference given in
        let wanted : Wanted = create_wanted schema objects reference (Some name) in
        let whole : LockName = with_reference reference name in
        let within : is_inside wanted.unit name ≡ true =
        unit_has schema (is_log_at schema objects) whole name
        (tree_inside whole name (reference_is_tree reference name) (reaches_name reference name)) in
        let is_tree : wanted.unit.part ≡ extents.Tree =
        ended_tree (is_log_at schema objects) [] (or_all schema whole).unit.name (or_all schema whole).unit.part
        (all_tree schema whole (reference_is_tree reference name)) in
        subst (λ (o : Option (List Rdn)). Framed (create_wanted schema objects reference o) objects
        (created_outcome schema objects class instance reference given time).objects) (sym e)
        (tree_framed wanted objects schema (name_in instance.named) time
        (create_named schema objects asking instance.named) rises is_tree (all_writes schema whole)
        (subst (λ n. is_inside wanted.unit n ≡ true) (sym (name_is instance.named name e)) within))

-- the same effect on maps that agree
effected_same : (unit : LockName) (one other : List NamedObject) (r : Result Effect CmisError)
    → Agree (is_inside unit) one other
    → ((effected one r).replies ≡ (effected other r).replies) × ((effected one r).sources ≡ (effected other r).sources)
    × Agree (is_inside unit) (effected one r).objects (effected other r).objects
effected_same unit one other (Ok effect) h =
    (refl, refl, installed_agrees (is_inside unit) one other effect.changes h)
effected_same unit one other (Err error) h = (refl, refl, h)

abbrev CreationTells : Type 0
CreationTells = (schema : Set) (one other : List NamedObject) (class : IdRef) (instance : Instance)
    (reference : Option Instance) (given : List Given) (time : ℕ) → IsByName one → IsByName other
    → read_set schema (taken_by schema one (naming class instance reference given)).unit one
    ≡ read_set schema (taken_by schema one (naming class instance reference given)).unit other
    → AlikeOutcomes (taken_by schema one (naming class instance reference given))
    (created_outcome schema one class instance reference given time)
    (created_outcome schema other class instance reference given time)

creation_tells : CreationTells
creation_tells = λ schema one other class instance reference given time rises other_rises same.
    let unit : LockName = (taken_by schema one (naming class instance reference given)).unit in
    let agree : Agree (is_inside unit) one other =
    agree_from (is_inside unit) one other rises other_rises (ap (λ (c : ReadSet). c.held) same) in
    let read = creation_reads schema one other class instance reference given time rises other_rises same in
    let made : Result Effect CmisError = create_one schema one class instance reference given time in
    let h = effected_same unit one other made agree in
    subst (λ (r : Result Effect CmisError).
    AlikeOutcomes (taken_by schema one (naming class instance reference given)) (effected one made) (effected other r))
    read (record {
      replies = h.0;
      sources = h.1;
      inside = agree_kept (is_inside unit) (effected one made).objects (effected other made).objects h.2;
    })

pub create_keeps_to_unit : CreateKeepsToUnit
create_keeps_to_unit = λ schema class instance reference given time. record {
  plain = whole_plain schema (naming class instance reference given);
  frame = λ objects rises short. creation_frame schema objects class instance reference given time rises;
  told = λ one other rises other_rises short other_short same.
      creation_tells schema one other class instance reference given time rises other_rises same;
}

-- any changes inside a Tree that is written
pub inside_framed : (wanted : Wanted) (objects : List NamedObject) (changes : Changed) → IsByName objects
    → wanted.unit.part ≡ extents.Tree → wanted.writing ≡ true → AreInside (is_inside wanted.unit) changes
    → Framed wanted objects (installed objects changes)
inside_framed wanted objects changes rises is writes within = record {
  rises = installed_rises objects changes rises;
  outside = λ name out. installed_outside (is_inside wanted.unit) objects changes name within out;
  own = λ alone. absurd (cc (sym is ∙ alone));
  reading = λ reads_. absurd (false≢true (sym reads_ ∙ writes));
}
