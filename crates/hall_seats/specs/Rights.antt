-- Rights: which entries only the holder of a right adds; README.md.
use Rattle.std.specs.Prelude.{◌≡◌, ◌⊎◌, ℕ, ◌+◌, ◌==◌, ◌||◌, Bool, true, false, not, List, [], ◌∷◌, ◌++◌}
use Rattle.std.specs.List.{filter}
use Rattle.agent_model.specs.declared.entry.Entry.{Entry}
use Rattle.agent_model.specs.declared.entry.Entry.TheVariants as entry
use Rattle.hall_seats.specs.declared.right.Right.{Right}
use Rattle.hall_seats.specs.declared.right.Right.TheVariants as right

-- the association of a right
abbrev pub association : Right → ℕ
association (right.Arriving a) = a
association (right.Taking a) = a
association (right.Closing a) = a

-- an entry that only the holder of the right adds
abbrev pub is_own : Right → Entry → Bool
is_own (right.Arriving a) (entry.Arrived n apdu) = n == a
is_own (right.Arriving a) (entry.Finished n) = n == a
is_own (right.Taking a) (entry.Taken n count) = n == a
is_own (right.Closing a) (entry.Closed n why) = n == a
is_own _ _ = false

-- the entries that only the holder of the right adds, in their order
abbrev pub own : Right → List Entry → List Entry
own r journal = filter (is_own r) journal

-- the right is among these
abbrev pub Has : List Right → Right → Type 0
Has [] r = ⊥
Has (q ∷ others) r = (q ≡ r) ⊎ Has others r

-- each right stands there once
abbrev pub Distinct : List Right → Type 0
Distinct [] = Unit {0}
Distinct (r ∷ others) = ¬ (Has others r) × Distinct others

-- whoever has these rights has this one: the right to close is that of whoever has both others
abbrev pub Holds : List Right → Right → Type 0
Holds rights (right.Arriving a) = Has rights (right.Arriving a)
Holds rights (right.Taking a) = Has rights (right.Taking a)
Holds rights (right.Closing a) = Has rights (right.Arriving a) × Has rights (right.Taking a)

-- whoever has these rights may add the entries of this one: to close, either of the two others is enough
abbrev pub Shares : List Right → Right → Type 0
Shares rights (right.Arriving a) = Has rights (right.Arriving a)
Shares rights (right.Taking a) = Has rights (right.Taking a)
Shares rights (right.Closing a) = Has rights (right.Arriving a) ⊎ Has rights (right.Taking a)

abbrev pub is_arriving : Right → Bool
is_arriving (right.Arriving a) = true
is_arriving _ = false

-- the arriving rights
abbrev pub arriving : List Right → List Right
arriving rights = filter is_arriving rights

-- the others, which are the taking rights
abbrev pub taking : List Right → List Right
taking rights = filter (λ r. not (is_arriving r)) rights

-- the rights that an entry brings to whoever adds it: both of the association that it opens
abbrev pub given : Entry → List Right
given (entry.Opened a bind) = right.Arriving a ∷ right.Taking a ∷ []
given _ = []

-- the rights that entries bring, those of the last one first
abbrev pub given_by : List Entry → List Right
given_by [] = []
given_by (next ∷ others) = given_by others ++ given next

abbrev pub opens : ℕ → Entry → Bool
opens a (entry.Opened n bind) = n == a
opens a _ = false

-- the journal has opened the association
abbrev pub is_opened : ℕ → List Entry → Bool
is_opened a [] = false
is_opened a (next ∷ others) = opens a next || is_opened a others

abbrev pub admitted : Entry → ℕ
admitted (entry.Opened n bind) = 1
admitted _ = 0

-- how many associations the journal has opened
abbrev pub admissions : List Entry → ℕ
admissions [] = 0
admissions (next ∷ others) = admitted next + admissions others
