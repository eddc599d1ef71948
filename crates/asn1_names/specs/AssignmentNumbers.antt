-- AssignmentNumbers: the assignments of all modules in order, by which they are numbered: first those of the first
-- module (X.680, section 13.1).
use Rattle.std.specs.Prelude.{ℕ, ◌+◌, List, [], ◌∷◌, ◌++◌, Bool, Option, None, Some, slice_get, length, if◌then◌else◌}
use Rattle.asn1_names.specs.ModuleTerms.{AssignmentTerm, ModuleTerm}
use Rattle.asn1_names.specs.NameMeaning.{is_called}

-- an assignment, with the places of its module and of itself in this
pub record Numbered : Type 0 where
  pub in_module : ℕ
  pub place : ℕ
  pub assignment : AssignmentTerm

-- those of the module at the place m, of which the first has the place i
abbrev pub numbered_from : ℕ → ℕ → List AssignmentTerm → List Numbered
numbered_from m i [] = []
numbered_from m i (x ∷ xs) = record { in_module = m; place = i; assignment = x } ∷ numbered_from m (i + 1) xs

-- those of all modules, of which the first has the place m
abbrev pub all_numbered : ℕ → List ModuleTerm → List Numbered
all_numbered m [] = []
all_numbered m (x ∷ xs) = numbered_from m 0 x.assignments ++ all_numbered (m + 1) xs

-- how many assignments there are
unfoldable pub assignment_count : List ModuleTerm → ℕ
assignment_count ms = length (all_numbered 0 ms)

-- the assignment with this number
unfoldable pub numbered_at : List ModuleTerm → ℕ → Option Numbered
numbered_at ms number = slice_get (all_numbered 0 ms) number

-- the number of the first element that passes a test, where the first of all has the number n
unfoldable pub first_at : {X : Type 0} → (X → Bool) → ℕ → List X → Option ℕ
first_at test n [] = None
first_at test n (x ∷ xs) = if test x then Some n else first_at test (n + 1) xs

-- the number of the first assignment that has the name
abbrev pub first_number : List ℕ → ℕ → List AssignmentTerm → Option ℕ
first_number name n xs = first_at (λ x. is_called name x.name) n xs

-- the place of the first module that has the name
abbrev pub first_place : List ℕ → ℕ → List ModuleTerm → Option ℕ
first_place name m xs = first_at (λ x. is_called name x.name) m xs
