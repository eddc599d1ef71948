-- What changes of the lock table keep.
use Rattle.std.proofs.Common.{◌≡◌, ◌≢◌, ◌<◌, ◌≤◌, ◌+◌, ◌⊎◌, ℕ, Bool, true, false, [], ◌∷◌, length}
use Rattle.std.proofs.Common.{take}
use Rattle.std.proofs.Common.{Option, None, Some, refl, sym, ap, ◌∙◌, subst, arith, inl, inr, cond}
use Rattle.std.specs.Prelude.{◌==◌, ◌&&◌, IfSome, IsSome, not, slice_get}
use Rattle.std.specs.BTreeMap.{is_at}
use Rattle.std.specs.List.{list_any}
use Rattle.std.specs.Ordering.{is_eq, nat_cmp}
use Rattle.std.specs.declared.cmp.Ordering.{Ordering}
use Rattle.std.specs.declared.cmp.Ordering.TheVariants.{Equal, Greater, Less}
use Rattle.std.proofs.lemmas.Bool.{and_parts, eqb-true, eq-eqb, false≢true}
use Rattle.std.proofs.lemmas.Cmp.{ranked}
use Rattle.std.proofs.lemmas.Option.{none-some, same_Some}
use Rattle.lock_model.specs.declared.lock_name.LockName.{LockName}
use Rattle.lock_model.specs.declared.lock_name.Mode.{Mode}
use Rattle.lock_model.specs.LockPath.{IsWay, Path, goes_with}
use Rattle.lock_model.specs.PathLaws.{GoTogether}
use Rattle.lock_model.specs.PathEnds.{ended}
use Rattle.lock_model.specs.Holdings.{bars, bars_other, conflicts}
use Rattle.lock_model.proofs.Granting.{together_symmetric}
use Rattle.lock_model.proofs.Waiting.{contains_taken, taken_contains}
use Rattle.subtree_locks.specs.declared.lock_table.Row.{Row}
use Rattle.subtree_locks.specs.LockRows.{CanEndAt, IsChanged, IsRow, IsTable, LockRows, entered_row, held_by}
use Rattle.subtree_locks.specs.LockRows.{holding, path_now, row_of}
use Rattle.subtree_locks.specs.Grants.{BarsNext, IsAnswer, NoneBars}
use Rattle.subtree_locks.specs.declared.grant.Grant.TheVariants as grant
use Rattle.subtree_locks.proofs.Barring.{any_conflict}
use Rattle.subtree_locks.proofs.Ends.{ended_length, ended_taken, none_long, ordered, some_short}

pub at_same : (op q : ℕ) → is_at (nat_cmp op) q ≡ true → op ≡ q
at_same op q h = by (nat_cmp op q) refl h
  where
    by : (r : Ordering) → nat_cmp op q ≡ r → is_eq r ≡ true → op ≡ q
    by Less e k = absurd (false≢true k)
    by Equal e k = ranked op q Equal (sym e)
    by Greater e k = absurd (false≢true k)

pub at_itself : (op : ℕ) → is_at (nat_cmp op) op ≡ true
at_itself op = by (nat_cmp op op) refl
  where
    by : (r : Ordering) → nat_cmp op op ≡ r → is_eq r ≡ true
    by Less e = absurd (let h = ranked op op Less (sym e) in omega arith)
    by Equal e = refl
    by Greater e = absurd (let h = ranked op op Greater (sym e) in omega arith)

pub at_other : (op q : ℕ) → is_at (nat_cmp op) q ≡ false → q ≢ op
at_other op q h same = false≢true (sym h ∙ subst (λ k. is_at (nat_cmp op) k ≡ true) (sym same) (at_itself op))

-- one operation has another row, or none, and the others have theirs
abbrev pub Updated : LockRows → ℕ → Option Row → LockRows → Type 0
Updated before op now after = (q : ℕ) → row_of after q ≡ cond (is_at (nat_cmp op) q) now (row_of before q)

-- what stands there then is the new row, or was there
found : (before after : LockRows) (op : ℕ) (now : Option Row) → Updated before op now after → (q : ℕ) (row : Row)
    → row_of after q ≡ Some row → ((q ≡ op) × (now ≡ Some row)) ⊎ ((q ≢ op) × (row_of before q ≡ Some row))
found before after op now h q row there = by (is_at (nat_cmp op) q) refl (sym (h q) ∙ there)
  where
    by : (b : Bool) → is_at (nat_cmp op) q ≡ b → cond b now (row_of before q) ≡ Some row
        → ((q ≡ op) × (now ≡ Some row)) ⊎ ((q ≢ op) × (row_of before q ≡ Some row))
    by true e k = inl (sym (at_same op q e), k)
    by false e k = inr (at_other op q e, k)

-- the table stays one, where the new row is one and goes together with those of the others
pub table_stays : (before after : LockRows) (op : ℕ) (now : Option Row) → IsTable before → Updated before op now after
    → ((row : Row) → now ≡ Some row → IsRow row)
    → ((row : Row) (b : ℕ) (other : Row) → now ≡ Some row → row_of before b ≡ Some other → b ≢ op
    → GoTogether (held_by row) (held_by other))
    → IsTable after
table_stays before after op now table h good goes = record {
  each = λ q row there. elim (found before after op now h q row there) [
    | inl new ↦ good row new.1
    | inr old ↦ table.each q row old.1
  ];
  together = λ a b one other at_a at_b differs. elim (found before after op now h a one at_a) [
    | inl new_a ↦ elim (found before after op now h b other at_b) [
      | inl new_b ↦ absurd (differs (new_a.0 ∙ sym new_b.0))
      | inr old_b ↦ goes one b other new_a.1 old_b.1 old_b.0
    ]
    | inr old_a ↦ elim (found before after op now h b other at_b) [
      | inl new_b ↦ together_symmetric (held_by other) (held_by one) (goes other a one new_b.1 old_a.1 old_a.0)
      | inr old_b ↦ table.together a b one other old_a.1 old_b.1 differs
    ]
  ];
}

pub nothing_told : (q : ℕ) (row : Row) → row_of [] q ≡ Some row → ⊥
nothing_told q row h = none-some row h

pub empty_table : IsTable []
empty_table = record {
  each = λ op row there. absurd (none-some row there);
  together = λ a b one other at_a at_b differs. absurd (none-some one at_a);
}

no_place : (path : Path) (q : Path) → GoTogether (take 0 path) q
no_place [] q lock m n mine theirs = absurd (omega (arith, mine.1))
no_place (x ∷ xs) q lock m n mine theirs = absurd (omega (arith, mine.1))

pub table_entered : (before after : LockRows) (op : ℕ) (path : Path) → IsTable before → IsWay path
    → Updated before op (Some (entered_row path)) after → IsTable after
table_entered before after op path table way h =
    table_stays before after op (Some (entered_row path)) table h
    (λ row is. subst IsRow (same_Some (entered_row path) row is) good)
    (λ row b other is there differs. subst (λ (r : Row). GoTogether (held_by r) (held_by other))
    (same_Some (entered_row path) row is) (no_place path (held_by other)))
  where
    good : IsRow (entered_row path)
    good = record { way = way; ends = tt; within = omega arith }

pub table_left : (before after : LockRows) (op : ℕ) → IsTable before → Updated before op None after → IsTable after
table_left before after op table h =
    table_stays before after op None table h (λ row is. absurd (none-some row is))
    (λ row b other is there differs. absurd (none-some row is))

before_or_at : (i k : ℕ) → i < k + 1 → (i < k) ⊎ (i ≡ k)
before_or_at i k h = elim (ordered i k) [
  | inl less ↦ inl less
  | inr rest ↦ elim rest [
    | inl same ↦ inr same
    | inr more ↦ absurd (omega arith)
  ]
]

-- the place that is granted goes with what others hold
granted_goes : (before : LockRows) (op : ℕ) (row : Row) (wanted : LockName × Mode) → IsTable before
    → row_of before op ≡ Some row → slice_get (path_now row) row.held ≡ Some wanted → NoneBars before op wanted
    → (b : ℕ) (other : Row) → row_of before b ≡ Some other → b ≢ op
    → GoTogether (take (row.held + 1) (path_now row)) (held_by other)
granted_goes before op row wanted table there is none b other at differs lock m n mine theirs =
    by_index (contains_taken (path_now row) (row.held + 1) (lock, m) mine)
  where
    last : slice_get (path_now row) row.held ≡ Some (lock, m) → goes_with m n ≡ true
    last has =
        let same : ◌≡◌ {A = LockName × Mode} wanted (lock, m) = same_Some wanted (lock, m) (sym is ∙ has) in
        any_conflict lock m n (held_by other) theirs
        (subst (λ (p : LockName × Mode). list_any (conflicts p) (held_by other) ≡ false) same (none b other at differs))

    by_index : (i : ℕ) × (i < row.held + 1) × (slice_get (path_now row) i ≡ Some (lock, m)) → goes_with m n ≡ true
    by_index found_at = elim (before_or_at found_at.0 row.held found_at.1) [
      | inl less ↦ table.together op b row other there at (λ e. differs (sym e)) lock m n
          (taken_contains (path_now row) row.held found_at.0 (lock, m) found_at.2 less) theirs
      | inr same ↦ last (subst (λ k. slice_get (path_now row) k ≡ Some (lock, m)) same found_at.2)
    ]

pub table_granted : (before after : LockRows) (op : ℕ) (row : Row) (wanted : LockName × Mode) → IsTable before
    → row_of before op ≡ Some row → slice_get (path_now row) row.held ≡ Some wanted → NoneBars before op wanted
    → Updated before op (Some (record row { held = row.held + 1 })) after → IsTable after
table_granted before after op row wanted table there is none h =
    table_stays before after op (Some more) table h
    (λ r same. subst IsRow (same_Some more r same) good)
    (λ r b other same at differs. subst (λ (x : Row). GoTogether (held_by x) (held_by other))
    (same_Some more r same) (granted_goes before op row wanted table there is none b other at differs))
  where
    more : Row
    more = record row { held = row.held + 1 }

    good : IsRow more
    good =
        let was = table.each op row there in
        let within = some_short (path_now row) row.held wanted is in
        record { way = was.way; ends = was.ends; within = omega arith }

-- what is held stays where the path ends elsewhere
held_taken : (path : Path) (end : Option ℕ) (held : ℕ) → IfSome end (λ k. (k < length path) × (held ≤ k))
    → take held (ended path end) ≡ take held path
held_taken path None held h = refl
held_taken path (Some at) held h = ended_taken path at held h.1

held_short : (path : Path) (end : Option ℕ) (held : ℕ) → held ≤ length path
    → IfSome end (λ k. (k < length path) × (held ≤ k)) → held ≤ length (ended path end)
held_short path None held within h = within
held_short path (Some at) held within h =
    let long = ended_length path at h.0 in
    let less = h.1 in
    omega arith

-- where it waits, it holds no place at the end or behind it
waits_before : (path : Path) (end : Option ℕ) (held : ℕ) → IfSome end (λ k. k < length path)
    → held < length (ended path end) → IfSome end (λ k. (k < length path) × (held ≤ k)) × (held < length path)
waits_before path None held ends waits = (tt, waits)
waits_before path (Some at) held ends waits =
    let long = ended_length path at ends in
    ((ends, omega arith), omega arith)

ends_there : (path : Path) (end : Option ℕ) (held : ℕ) → IfSome end (λ k. (k < length path) × (held ≤ k))
    → IfSome end (λ k. k < length path)
ends_there path None held h = tt
ends_there path (Some at) held h = h.0

pub table_ended : (before after : LockRows) (op : ℕ) (row : Row) (end : Option ℕ) → IsTable before
    → row_of before op ≡ Some row → CanEndAt row end → Updated before op (Some (record row { end = end })) after
    → IsTable after
table_ended before after op row end table there can h =
    table_stays before after op (Some other_end) table h
    (λ r same. subst IsRow (same_Some other_end r same) good)
    (λ r b other same at differs. subst (λ (x : Row). GoTogether (held_by x) (held_by other))
    (same_Some other_end r same)
    (subst (λ (p : Path). GoTogether p (held_by other)) (sym held_same)
    (table.together op b row other there at (λ e. differs (sym e)))))
  where
    other_end : Row
    other_end = record row { end = end }

    was : IsRow row
    was = table.each op row there

    waits : IfSome row.end (λ k. (k < length row.path) × (row.held ≤ k)) × (row.held < length row.path)
    waits = waits_before row.path row.end row.held was.ends can.0

    held_same : held_by other_end ≡ held_by row
    held_same =
        held_taken row.path end row.held can.1 ∙ sym (held_taken row.path row.end row.held waits.0)

    good : IsRow other_end
    good = let less = waits.1 in record {
      way = was.way;
      ends = ends_there row.path end row.held can.1;
      within = held_short row.path end row.held (omega arith) can.1;
    }

-- ---- by what the calls say

-- the operation has a row
abbrev IsThere : LockRows → ℕ → Type 0
IsThere rows op = (row : Row) × (row_of rows op ≡ Some row)

pub row_there : (rows : LockRows) (op : ℕ) → IsSome (row_of rows op) → IsThere rows op
row_there rows op h = by (row_of rows op) refl h
  where
    by : (o : Option Row) → row_of rows op ≡ o → IsSome o → IsThere rows op
    by None e k = absurd (false≢true k)
    by (Some row) e k = (row, e)

pub ended_table : (before value after : LockRows) (op : ℕ) (end : Option ℕ) → before ≡ value → IsTable before
    → IsSome (row_of value op) → ((row : Row) → row_of value op ≡ Some row → CanEndAt row end)
    → ((row : Row) → row_of before op ≡ Some row → IsChanged before op (record row { end = end }) after)
    → IsTable after
ended_table before value after op end same table there can changed =
    let at = row_there value op there in
    let was : row_of before op ≡ Some at.0 = ap (λ (rows : LockRows). row_of rows op) same ∙ at.1 in
    table_ended before after op at.0 end table was (can at.0 at.1) (changed at.0 was).rows

pub granted_table : (before value after : LockRows) (op place : ℕ) → before ≡ value → IsTable before
    → IsSome (row_of value op)
    → ((row : Row) → row_of before op ≡ Some row → IsAnswer before op row (grant.Held place))
    → ((row : Row) → row_of before op ≡ Some row → IsChanged before op (record row { held = place + 1 }) after)
    → IsTable after
granted_table before value after op place same table there answer changed =
    let at = row_there value op there in
    let row : Row = at.0 in
    let was : row_of before op ≡ Some row = ap (λ (rows : LockRows). row_of rows op) same ∙ at.1 in
    let told = answer row was in
    let free = told.1 in
    let here : place ≡ row.held = told.0 in
    table_granted before after op row free.0 table was
    (subst (λ k. slice_get (path_now row) k ≡ Some free.0) here free.1) free.2
    (subst (λ k. Updated before op (Some (record row { held = k + 1 })) after) here (changed row was).rows)

-- where no place is left, it holds its whole path
pub full_there : (row : Row) → IsRow row → slice_get (path_now row) row.held ≡ None → row.held ≡ length (path_now row)
full_there row good gone =
    let long = none_long (path_now row) row.held gone in
    let within = good.within in
    omega arith

-- ---- a look over all rows

-- what may bar stands among those that are left
abbrev pub Unbarred : LockRows → ℕ → LockName × Mode → LockRows → Type 0
Unbarred rows op wanted left = (q : ℕ) (row : Row) → row_of rows q ≡ Some row → q ≢ op
    → (bars wanted (holding q row) ≡ false) ⊎ (row_of left q ≡ Some row)

pub unbarred_first : (rows left : LockRows) (op : ℕ) (wanted : LockName × Mode) → left ≡ rows
    → Unbarred rows op wanted left
unbarred_first rows left op wanted same q row there differs =
    inr (ap (λ (r : LockRows). row_of r q) same ∙ there)

pub unbarred_step : (rows rest : LockRows) (op other : ℕ) (row : Row) (wanted : LockName × Mode)
    → Unbarred rows op wanted ((other, row) ∷ rest) → bars_other op wanted (holding other row) ≡ false
    → Unbarred rows op wanted rest
unbarred_step rows rest op other row wanted h none_here q r there differs = elim (h q r there differs) [
  | inl done ↦ inl done
  | inr left ↦ by (is_at (nat_cmp q) other) refl left
]
  where
    no_bar : other ≢ op → bars wanted (holding other row) ≡ false
    no_bar away = by_test (other == op) refl none_here
      where
        by_test : (b : Bool) → (other == op) ≡ b → (not b && bars wanted (holding other row)) ≡ false
            → bars wanted (holding other row) ≡ false
        by_test true e k = absurd (away (eqb-true other op e))
        by_test false e k = k

    by : (b : Bool) → is_at (nat_cmp q) other ≡ b → cond b (Some row) (row_of rest q) ≡ Some r
        → (bars wanted (holding q r) ≡ false) ⊎ (row_of rest q ≡ Some r)
    by true e k =
        inl (subst (λ (x : Row). bars wanted (holding q x) ≡ false) (same_Some row r k)
        (no_bar (λ same. differs (at_same q other e ∙ same))))
    by false e k = inr k

pub unbarred_last : (rows left : LockRows) (op : ℕ) (wanted : LockName × Mode) → Unbarred rows op wanted left
    → left ≡ [] → NoneBars rows op wanted
unbarred_last rows left op wanted h none_left q row there differs = elim (h q row there differs) [
  | inl done ↦ done
  | inr more ↦ absurd (none-some row (sym (ap (λ (r : LockRows). row_of r q) none_left) ∙ more))
]

-- whom a look finds bars the place
pub barred_by : (rows : LockRows) (op other : ℕ) (row : Row) (wanted : LockName × Mode) → row_of rows other ≡ Some row
    → bars_other op wanted (holding other row) ≡ true → BarsNext rows op wanted other
barred_by rows op other row wanted there barred =
    let parts = and_parts (not (other == op)) (bars wanted (holding other row)) barred in
    (differs parts.0, (row, there, parts.1))
  where
    differs : not (other == op) ≡ true → other ≢ op
    differs h same = by (other == op) refl h
      where
        itself : (other == op) ≡ true
        itself = eq-eqb other op same

        by : (b : Bool) → (other == op) ≡ b → not b ≡ true → ⊥
        by true e k = false≢true k
        by false e k = false≢true (sym e ∙ itself)
