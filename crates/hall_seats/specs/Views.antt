-- Views: what a seat of the table knows, and how views are cut and joined; README.md.
use Rattle.std.specs.Prelude.{◌≡◌, ℕ, true, false, List, [], ◌∷◌, ◌++◌}
use Rattle.agent_model.specs.declared.entry.Entry.{Entry}
use Rattle.hall_seats.specs.declared.right.Right.{Right}
use Rattle.hall_seats.specs.declared.rule.View.{View}
use Rattle.hall_seats.specs.Passes.{Known}
use Rattle.hall_seats.specs.Rights.{given}

-- the one whose list is the journal
abbrev pub marked_with : List Entry → View
marked_with list = record { marked = true; list = list; rights = []; at = []; old = []; olds = [] }

-- one that nobody has any more
abbrev pub spent : View
spent = record { marked = false; list = []; rights = []; at = []; old = []; olds = [] }

abbrev pub with_rights : View → List Right → View
with_rights v rights = record v { rights = rights }

-- a further one that has seen the same, with these rights
abbrev pub cut_off : View → List Right → View
cut_off v rights = record { marked = false; list = v.list; rights = rights; at = []; old = []; olds = [] }

-- the first one has the rights of both, and remembers what the second one had seen and had rights to
abbrev pub taken_in : View → View → View
taken_in v w = record {
  marked = v.marked;
  list = v.list;
  rights = v.rights ++ w.rights;
  at = v.list;
  old = w.list;
  olds = w.rights;
}

-- an entry more, with the rights that it brings
abbrev pub with_entry : View → Entry → View
with_entry v e = record v { list = v.list ++ e ∷ []; rights = given e ++ v.rights }

abbrev pub IsJournal : View → Type 0
IsJournal v = v.marked ≡ true

-- what a pass with this view, these parts and this amount of the ledger knows
abbrev pub known : View → ℕ → ℕ → Known
known v parts amount = record { list = v.list; rights = v.rights; parts = parts; admissions = amount }
