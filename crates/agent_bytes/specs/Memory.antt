-- The outside in memory. Its calls have numbers, 0 the first; one with a listed number fails.
use Rattle.std.specs.Prelude.{◌≡◌, ℕ, ◌<◌, ◌⊎◌, List, [], ◌∷◌, length, Contains, Option, None, Some, IsSomeAnd}
use Rattle.std.specs.Prelude.{if◌then◌else◌}
use Rattle.std.specs.Str.{bytes_eq}

-- a sink in memory
pub record SinkState : Type 0 where
  -- all bytes that it took, and how many more it can take
  pub written : List ℕ
  pub room : ℕ
  -- the most bytes that one call takes
  pub turn : ℕ
  -- the numbers of the calls that are to fail
  pub failing : List ℕ
  -- how many calls there were, and how many of them failed
  pub calls : ℕ
  pub faults : ℕ

-- the next call of `write` fails: its number is listed, or no room is left for its bytes
abbrev pub WriteFails : SinkState → List ℕ → Type 0
WriteFails sink from =
    Contains sink.failing sink.calls ⊎ ((0 < length from) × (sink.room ≡ 0))

-- files in memory: each one's name and bytes, in the order in which they were added
pub record FilesState : Type 0 where
  pub files : List (List ℕ × List ℕ)
  -- the numbers of the calls that are to fail
  pub failing : List ℕ
  -- how many calls there were, and how many of them failed
  pub calls : ℕ
  pub faults : ℕ

-- the bytes of the first file of that name
abbrev pub bytes_named : List (List ℕ × List ℕ) → List ℕ → Option (List ℕ)
bytes_named [] name = None
bytes_named (file ∷ files) name =
    if bytes_eq file.0 name then Some file.1 else bytes_named files name

-- the next call of `read_file` fails: its number is listed, or no file has the name
abbrev pub ReadFails : FilesState → List ℕ → Type 0
ReadFails files name =
    Contains files.failing files.calls ⊎ (bytes_named files.files name ≡ None)

-- the next call of `read_file` finds a file that is longer than the limit
abbrev pub FindsTooLarge : FilesState → List ℕ → ℕ → Type 0
FindsTooLarge files name limit =
    (¬ Contains files.failing files.calls)
    × IsSomeAnd (bytes_named files.files name) (λ bytes. limit < length bytes)

-- a source in memory
pub record SourceState : Type 0 where
  -- the bytes that are left, and the most that one call gives
  pub left : List ℕ
  pub turn : ℕ
  -- the numbers of the calls that are to fail
  pub failing : List ℕ
  -- how many calls there were, and how many of them failed
  pub calls : ℕ
  pub faults : ℕ
