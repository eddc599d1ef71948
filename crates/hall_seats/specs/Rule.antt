-- Rule: what the word of the table and the views of its seats are to each other, and what each step on the word tells;
-- README.md.
use Rattle.std.specs.Prelude.{◌≡◌, ℕ, true, false, List, [], ◌∷◌, length}
use mathlib.Core.Option.{Option, none, some}
use lib.ListN.{get_elem?}
use Rattle.agent_model.specs.declared.entry.Entry.{Entry}
use Rattle.atomic_table.specs.Table.{Me, Step}
use Rattle.hall_seats.specs.declared.right.Right.{Right}
use Rattle.hall_seats.specs.declared.rule.View.{View}
use Rattle.hall_seats.specs.Rights.{Distinct, Has, association, is_opened, own}
use Rattle.hall_seats.specs.Passes.{Sees}
use Rattle.hall_seats.specs.Views.{with_entry}

-- how the view of the seat `by` stands to the journal, which the seat `seat` has
pub record Fits (seat : ℕ) (journal : List Entry) (by : ℕ) (v : View) : Type 0 where
  pub mark : v.marked ≡ true → (by ≡ seat) × (v.list ≡ journal)
  pub sees : Sees journal v.list v.rights
  pub opened : (r : Right) → Has v.rights r → is_opened (association r) journal ≡ true
  pub once : Distinct v.rights
  pub olds : Sees v.at v.old v.olds

-- no right stands in two views
abbrev pub Alone : List View → Type 0
Alone views = (i j : ℕ) (v w : View) (r : Right) → get_elem? views i ≡ some v → get_elem? views j ≡ some w
    → Has v.rights r → Has w.rights r → i ≡ j

-- nothing was added for an association that wasn't opened
abbrev pub IsFresh : List Entry → Type 0
IsFresh journal = (r : Right) → is_opened (association r) journal ≡ false → own r journal ≡ []

-- there is one journal, whose length the word is
pub record Kept (words : List ℕ) (views : List View) : Type 0 where
  pub seat : ℕ
  pub journal : List Entry
  pub counted : words ≡ length journal ∷ []
  pub fresh : IsFresh journal
  pub fits : (by : ℕ) (v : View) → get_elem? views by ≡ some v → Fits seat journal by v
  pub alone : Alone views

-- what the seat that has the journal learns by a look at the word
pub record IsTold (v : View) (found : ℕ) : Type 0 where
  pub sees : Sees v.at v.old v.olds
  pub once : Distinct v.rights
  pub counted : found ≡ length v.list
  pub fresh : IsFresh v.list
  pub opened : (r : Right) → Has v.rights r → is_opened (association r) v.list ≡ true

-- a look changes nothing
abbrev pub Looks : Step Entry → Me Entry View → ℕ → Me Entry View → Type 0
Looks step before found after = (after ≡ before) × (before.0.marked ≡ true → IsTold before.0 found)

abbrev pub with_said : View → Option Entry → View
with_said v none = v
with_said v (some e) = with_entry v e

-- the step that adds the entry that it says
abbrev pub Counts : Step Entry → Me Entry View → ℕ → Me Entry View → Type 0
Counts step before found after = after ≡ (with_said before.0 step.said, before.1)
