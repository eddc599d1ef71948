-- The laws for m-Get and m-Set, by whether the base object is named.
use Rattle.std.proofs.Common.{◌≡◌, ℕ, Bool, true, false, List, [], ◌∷◌, Option, None, Some}
use Rattle.std.proofs.Common.{refl, sym, ap, ◌∙◌, length, subst, if◌then◌else◌}
use Rattle.std.proofs.lemmas.Bool.{false≢true}
use Rattle.std.proofs.lemmas.Option.{none-some}
use Rattle.std.specs.Option.{option_map_or}
use Rattle.term_model.specs.declared.name.Rdn.{Rdn}
use Rattle.term_model.specs.declared.object.Object.{Object}
use Rattle.term_model.specs.declared.objects.NamedObject.{NamedObject}
use Rattle.term_model.specs.declared.reply.CmisError.{CmisError}
use Rattle.term_model.specs.declared.request.Change.{Change}
use Rattle.term_model.specs.declared.request.Head.{Head}
use Rattle.term_model.specs.declared.request.IdRef.{IdRef}
use Rattle.term_model.specs.declared.request.Named.TheVariants as named
use Rattle.term_model.specs.declared.request.Request.{Request}
use Rattle.term_model.specs.declared.request.Request.TheVariants as request
use Rattle.term_model.specs.declared.schema.Set.{Set}
use Rattle.term_model.specs.NamedObjects.{IsByName, object_at}
use Rattle.operation_model.specs.OperationChecks.{Checked, base_object, checked, checked_by, class_fault, first_fault}
use Rattle.operation_model.specs.OperationChecks.{form_fault, selected_by, base_name}
use Rattle.operation_model.specs.WholeOperation.{Act, Outcome, acted, get_outcome, getting, listed, set_outcome}
use Rattle.operation_model.specs.WholeOperation.{setting}
use Rattle.term_model.specs.CmisErrors.{no_such_instance}
use Rattle.lock_model.specs.declared.lock_name.LockName.{LockName}
use Rattle.lock_model.specs.declared.path.Wanted.{Wanted}
use Rattle.lock_model.specs.LockPath.{is_inside, tree}
use Rattle.lock_model.specs.Units.{ended_at, head_unit, in_scope_of, is_control, is_log_at, nothing_named, or_all}
use Rattle.lock_model.specs.Units.{reads, short_name, taken_by, writes}
use Rattle.lock_model.specs.ReadSet.{ReadSet, class_at, read_set}
use Rattle.lock_model.specs.OperationLaws.{AlikeOutcomes, AreShort, Framed, GetKeepsToUnit, SetKeepsToUnit}
use Rattle.lock_model.proofs.Maps.{Agree, agree_from, agree_kept}
use Rattle.lock_model.proofs.Folding.{ArePassing, Reads, SameOutcome, acted_same}
use Rattle.lock_model.proofs.Keeping.{acted_keeps}
use Rattle.lock_model.proofs.Covering.{scope_covers}
use Rattle.lock_model.proofs.Framing.{Kept, all_covers, get_keeps, kept_itself, set_keeps, short_absent, short_is}
use Rattle.lock_model.proofs.Framing.{whole_covers}
use Rattle.term_model.specs.Scope.{names_in_scope}
use Rattle.lock_model.proofs.Reading.{Covers, checked_of, checked_pass, checked_same, refused_same}
use Rattle.lock_model.proofs.Plain.{whole_plain}

-- the base object is named, and the unit has all in scope; or nothing is there
pub data Reaches (test : List Rdn → Bool) (head : Head) (objects : List NamedObject) : Type 0 where
  Named : (base : List Rdn) → head.base.named ≡ named.Object base → Covers test base head.scope
      → Reaches test head objects
  Absent : base_object objects head.base.named ≡ None → Reaches test head objects

-- the unit of a head, where the way of each named base covers its scope
head_reaches : (test : Wanted → List Rdn → Bool) (wanted : List Rdn → Wanted) (head : Head)
    (objects : List NamedObject) → AreShort objects
    → ((base : List Rdn) → Covers (test (wanted base)) base head.scope)
    → Reaches (test (head_unit wanted head)) head objects
head_reaches test wanted head objects short covers = by (short_name head.base.named) refl
  where
    by : (o : Option (List Rdn)) → short_name head.base.named ≡ o
        → Reaches (test (option_map_or wanted o nothing_named)) head objects
    by None e = Reaches.Absent (short_absent objects head.base.named short e)
    by (Some base) e = Reaches.Named base (short_is head.base.named base e) (covers base)

abbrev ended_test : (List Rdn → Bool) → Wanted → List Rdn → Bool
ended_test is_log wanted = is_inside (ended_at is_log wanted.unit)

get_reaches : (schema : Set) (objects maps : List NamedObject) (head : Head) (ids : Option (List IdRef))
    → AreShort maps → Reaches (is_inside (taken_by schema objects (request.Get head ids)).unit) head maps
get_reaches schema objects maps head ids short =
    head_reaches (ended_test (is_log_at schema objects)) (λ name. reads (in_scope_of head name)) head maps short
    (λ base. whole_covers (in_scope_of head base) (is_log_at schema objects) base head (scope_covers head base))

set_reaches : (schema : Set) (objects maps : List NamedObject) (head : Head) (changes : List Change) (confirmed : Bool)
    → AreShort maps → Reaches (is_inside (taken_by schema objects (request.Set head changes confirmed)).unit) head maps
set_reaches schema objects maps head changes confirmed short =
    head_reaches (ended_test (is_log_at schema objects)) (λ name. or_all schema (in_scope_of head name)) head maps short
    (λ base. whole_covers (or_all schema (in_scope_of head base)).unit (is_log_at schema objects) base head
    (all_covers schema head base))

-- what is acted on is in the unit
passing_none : (test : List Rdn → Bool) (class form : Option CmisError) (error : CmisError)
    (rest : List (Option CmisError)) (ns : List (List Rdn))
    → ArePassing test (checked_by (first_fault (class ∷ form ∷ Some error ∷ rest)) ns)
passing_none test (Some e) form error rest ns = tt
passing_none test None (Some e) error rest ns = tt
passing_none test None None error rest ns = tt

reached_pass : (schema : Set) (objects : List NamedObject) (head : Head) (count : ℕ) (test : List Rdn → Bool)
    → Reaches test head objects → ArePassing test (checked schema objects head count)
reached_pass schema objects head count test (Reaches.Named base is covers) =
    checked_pass schema objects head count test base is covers
reached_pass schema objects head count test (Reaches.Absent away) = by (base_object objects head.base.named) away
  where
    by : (o : Option Object) → o ≡ None
        → ArePassing test (checked_of schema head count o
        (names_in_scope objects (base_name head.base.named) head.scope)
        (selected_by schema objects (base_name head.base.named) head.scope head.filter))
    by None e =
        passing_none test (class_fault schema head) (form_fault head) (no_such_instance head.base.raw) _
        (selected_by schema objects (base_name head.base.named) head.scope head.filter)
    by (Some object) e = absurd (none-some object (sym e))

reached_same : (schema : Set) (one other : List NamedObject) (head : Head) (count : ℕ) (test : List Rdn → Bool)
    → Agree test one other → Reaches test head one → Reaches test head other
    → checked schema one head count ≡ checked schema other head count
reached_same schema one other head count test h (Reaches.Named base is covers) second =
    checked_same schema one other head count test base is covers h
reached_same schema one other head count test h (Reaches.Absent gone) (Reaches.Absent away) =
    refused_same schema one other head count gone away
reached_same schema one other head count test h (Reaches.Absent gone) (Reaches.Named base is covers) =
    checked_same schema one other head count test base is covers h

abbrev same_acted : (schema : Set) (one other : List NamedObject) (head : Head) (number count : ℕ) (act : Act)
    (test : List Rdn → Bool) → Reads test act → Agree test one other → Reaches test head one → Reaches test head other
    → SameOutcome test (acted one head number act (checked schema one head count))
    (acted other head number act (checked schema other head count))
same_acted schema one other head number count act test reads h first second =
    subst (λ (c : Checked). SameOutcome test (acted one head number act (checked schema one head count))
    (acted other head number act c)) (reached_same schema one other head count test h first second)
    (acted_same test one other head number act reads h (checked schema one head count)
    (reached_pass schema one head count test first))

-- ---- frame

abbrev unit_of : Set → List NamedObject → Request → LockName
unit_of schema objects asked = (taken_by schema objects asked).unit

get_left : (schema : Set) (objects : List NamedObject) (head : Head) (ids : Option (List IdRef)) (time : ℕ)
    → AreShort objects → (get_outcome schema objects head ids time).objects ≡ objects
get_left schema objects head ids time short =
    let test : List Rdn → Bool = is_inside (unit_of schema objects (request.Get head ids)) in
    acted_keeps test (λ left. left ≡ objects) (getting schema ids time) (get_keeps test objects schema ids time)
    objects head 0 refl (checked schema objects head (listed ids))
    (reached_pass schema objects head (listed ids) test (get_reaches schema objects objects head ids short))

set_left : (schema : Set) (objects : List NamedObject) (head : Head) (changes : List Change) (confirmed : Bool)
    (time : ℕ) → IsByName objects → AreShort objects
    → Kept (is_inside (unit_of schema objects (request.Set head changes confirmed))) objects
    (set_outcome schema objects head changes time).objects
set_left schema objects head changes confirmed time rises short =
    let test : List Rdn → Bool = is_inside (unit_of schema objects (request.Set head changes confirmed)) in
    acted_keeps test (Kept test objects) (setting schema head changes time)
    (set_keeps test objects schema head changes time) objects head 2 (kept_itself test objects rises)
    (checked schema objects head (length changes))
    (reached_pass schema objects head (length changes) test
    (set_reaches schema objects objects head changes confirmed short))

-- of a map that is as it was
still_framed : (wanted : Wanted) (before after : List NamedObject) → IsByName before → after ≡ before
    → Framed wanted before after
still_framed wanted before after rises same = record {
  rises = subst IsByName (sym same) rises;
  outside = λ name out. ap (λ (objects : List NamedObject). object_at objects name) same;
  own = λ alone. ap (λ (objects : List NamedObject). class_at objects wanted.unit.name) same;
  reading = λ reads_. same;
}

-- who names nothing changes nothing
absent_left : (schema : Set) (objects : List NamedObject) (head : Head) (number count : ℕ) (act : Act)
    → base_object objects head.base.named ≡ None
    → (acted objects head number act (checked schema objects head count)).objects ≡ objects
absent_left schema objects head number count act gone =
    acted_keeps (λ name. false) (λ left. left ≡ objects) act
    (λ left name object effect within good there is. absurd (false≢true within)) objects head number refl
    (checked schema objects head count)
    (reached_pass schema objects head count (λ name. false) (Reaches.Absent gone))

-- who acts on control objects writes too
pub all_writes : (schema : Set) (unit : LockName) → (or_all schema unit).writing ≡ true
all_writes schema unit = by (is_control schema unit.name)
  where
    by : (b : Bool) → (if b then writes (tree []) else writes unit).writing ≡ true
    by true = refl
    by false = refl

-- an operation that writes where it names an object, and here only reads, names none
reads_absent : (wanted : List Rdn → Wanted) (head : Head) (objects : List NamedObject) → AreShort objects
    → ((base : List Rdn) → (wanted base).writing ≡ true) → (head_unit wanted head).writing ≡ false
    → base_object objects head.base.named ≡ None
reads_absent wanted head objects short always h = by (short_name head.base.named) refl h
  where
    by : (o : Option (List Rdn)) → short_name head.base.named ≡ o
        → (option_map_or wanted o nothing_named).writing ≡ false → base_object objects head.base.named ≡ None
    by None e k = short_absent objects head.base.named short e
    by (Some base) e k = absurd (false≢true (sym k ∙ always base))

-- a Set that names an object writes; else it reads, and changes nothing
set_framed : (schema : Set) (objects : List NamedObject) (head : Head) (changes : List Change) (confirmed : Bool)
    (time : ℕ) → IsByName objects → AreShort objects
    → Framed (taken_by schema objects (request.Set head changes confirmed)) objects
    (set_outcome schema objects head changes time).objects
set_framed schema objects head changes confirmed time rises short =
    let h = set_left schema objects head changes confirmed time rises short in
    record {
      rises = h.rises;
      outside = h.outside;
      own = λ alone. h.classes (unit_of schema objects (request.Set head changes confirmed)).name;
      reading = λ reads_. absent_left schema objects head 2 (length changes) (setting schema head changes time)
          (reads_absent (λ name. or_all schema (in_scope_of head name)) head objects short
          (λ base. all_writes schema (in_scope_of head base)) reads_);
    }

get_framed : (schema : Set) (objects : List NamedObject) (head : Head) (ids : Option (List IdRef)) (time : ℕ)
    → IsByName objects → AreShort objects
    → Framed (taken_by schema objects (request.Get head ids)) objects (get_outcome schema objects head ids time).objects
get_framed schema objects head ids time rises short =
    still_framed (taken_by schema objects (request.Get head ids)) objects
    (get_outcome schema objects head ids time).objects rises (get_left schema objects head ids time short)

-- ---- reading

get_reads : (test : List Rdn → Bool) (schema : Set) (ids : Option (List IdRef)) (time : ℕ)
    → Reads test (getting schema ids time)
get_reads test schema ids time one other name object h within = refl

set_reads : (test : List Rdn → Bool) (schema : Set) (head : Head) (changes : List Change) (time : ℕ)
    → Reads test (setting schema head changes time)
set_reads test schema head changes time one other name object h within = refl

agree_by_read_set : (schema : Set) (unit : LockName) (one other : List NamedObject) → IsByName one → IsByName other
    → read_set schema unit one ≡ read_set schema unit other → Agree (is_inside unit) one other
agree_by_read_set schema unit one other rises other_rises same =
    agree_from (is_inside unit) one other rises other_rises (ap (λ (c : ReadSet). c.held) same)

-- outcomes that are the same up to maps that agree in the unit
alike : (wanted : Wanted) (o u : Outcome) → SameOutcome (is_inside wanted.unit) o u → AlikeOutcomes wanted o u
alike wanted o u h = record {
  replies = h.replies;
  sources = h.sources;
  inside = agree_kept (is_inside wanted.unit) o.objects u.objects h.objects;
}

pub get_keeps_to_unit : GetKeepsToUnit
get_keeps_to_unit = λ schema head ids time. record {
  plain = whole_plain schema (request.Get head ids);
  frame = λ objects rises short. get_framed schema objects head ids time rises short;
  told = λ one other rises other_rises short other_short same.
      let wanted : Wanted = taken_by schema one (request.Get head ids) in
      alike wanted (get_outcome schema one head ids time) (get_outcome schema other head ids time)
      (same_acted schema one other head 0 (listed ids) (getting schema ids time) (is_inside wanted.unit)
      (get_reads (is_inside wanted.unit) schema ids time)
      (agree_by_read_set schema wanted.unit one other rises other_rises same)
      (get_reaches schema one one head ids short) (get_reaches schema one other head ids other_short));
}

pub set_keeps_to_unit : SetKeepsToUnit
set_keeps_to_unit = λ schema head changes confirmed time. record {
  plain = whole_plain schema (request.Set head changes confirmed);
  frame = λ objects rises short. set_framed schema objects head changes confirmed time rises short;
  told = λ one other rises other_rises short other_short same.
      let wanted : Wanted = taken_by schema one (request.Set head changes confirmed) in
      alike wanted (set_outcome schema one head changes time) (set_outcome schema other head changes time)
      (same_acted schema one other head 2 (length changes) (setting schema head changes time) (is_inside wanted.unit)
      (set_reads (is_inside wanted.unit) schema head changes time)
      (agree_by_read_set schema wanted.unit one other rises other_rises same)
      (set_reaches schema one one head changes confirmed short)
      (set_reaches schema one other head changes confirmed other_short));
}
