-- Statuses: the numbers with which the program ends, which are this project's own: README.md, Answers;
-- docs/OPERATING.md, Commands.
use Rattle.std.specs.Prelude.{ℕ, List, [], ◌∷◌}

-- everything was done and written
abbrev pub done : ℕ
done = 0

-- the words are in no form
abbrev pub usage : ℕ
usage = 2

-- a call of the files failed
abbrev pub file_fault : ℕ
file_fault = 3

-- a document has a fault, or an instance can't be opened
abbrev pub bad_document : ℕ
bad_document = 4

-- a line of the script breaks its form or a condition
abbrev pub bad_script : ℕ
bad_script = 5

-- a call of the output failed where everything else was done
abbrev pub write_fault : ℕ
write_fault = 6

-- there was no memory
abbrev pub out_of_memory : ℕ
out_of_memory = 8

-- the journal of a script is full
abbrev pub journal_full : ℕ
journal_full = 9

-- a file is longer than its limit
abbrev pub file_too_large : ℕ
file_too_large = 10

-- the command, the documents or the script are of a form that is not built
abbrev pub not_built : ℕ
not_built = 12

abbrev pub all_statuses : List ℕ
all_statuses = done ∷ usage ∷ file_fault ∷ bad_document ∷ bad_script ∷ write_fault ∷ out_of_memory ∷ file_too_large
    ∷ not_built ∷ journal_full ∷ []
