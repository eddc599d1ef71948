-- Passes: what a pass knows, and what it says of the journal; README.md.
use Rattle.std.specs.Prelude.{◌≡◌, ◌⊎◌, ℕ, ◌+◌, false, List, ◌++◌}
use mathlib.Core.List.{IsPrefix}
use Rattle.agent_model.specs.declared.entry.Entry.{Entry}
use Rattle.agent_model.specs.declared.entry.Entry.TheVariants as entry
use Rattle.hall_seats.specs.declared.right.Right.{Right}
use Rattle.hall_seats.specs.declared.right.Right.TheVariants as right
use Rattle.hall_seats.specs.Rights.{Has, Holds, admissions, given_by, is_opened, own}

-- what a pass knows: the journal that it has seen, its rights, its parts of the ledger of admissions and the number of
-- admissions that these count
pub record Known : Type 0 where
  pub list : List Entry
  pub rights : List Right
  pub parts : ℕ
  pub admissions : ℕ

-- what was seen begins the journal, and with these rights each entry of theirs in the journal was seen
abbrev pub Sees : List Entry → List Entry → List Right → Type 0
Sees journal list rights = IsPrefix list journal × ((r : Right) → Holds rights r → own r list ≡ own r journal)

-- a pass before and after these entries were added by it, in this order: it has seen no less, it has their rights in
-- addition, and of the rights that it had no other entry was added
pub record Grew (old new : Known) (added : List Entry) : Type 0 where
  pub begins : IsPrefix old.list new.list
  pub rights : new.rights ≡ given_by added ++ old.rights
  pub own : (r : Right) → Holds old.rights r → own r new.list ≡ own r old.list ++ own r added
  pub parts : new.parts ≡ old.parts
  pub admissions : new.admissions ≡ old.admissions + admissions added

-- with these rights the entry may be added to the journal
abbrev pub MayAdd : List Right → List Entry → Entry → Type 0
MayAdd rights journal (entry.Opened a bind) = is_opened a journal ≡ false
MayAdd rights journal (entry.Arrived a apdu) = Has rights (right.Arriving a)
MayAdd rights journal (entry.Finished a) = Has rights (right.Arriving a)
MayAdd rights journal (entry.Taken a count) = Has rights (right.Taking a)
MayAdd rights journal (entry.Closed a why) = Has rights (right.Arriving a) ⊎ Has rights (right.Taking a)
MayAdd rights journal _ = Unit {0}
