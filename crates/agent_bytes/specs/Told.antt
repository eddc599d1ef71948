-- What the outside tells of its bytes. None stands for an adapter that tells nothing.
use Rattle.std.specs.Prelude.{◌≡◌, ℕ, ◌<◌, List, ◌++◌, length, take, Option, Some, None, IsSomeAnd}

-- the bytes that a sink tells once it has gained some
abbrev pub gained : Option (List ℕ) → List ℕ → Option (List ℕ)
gained None bytes = None
gained (Some written) bytes = Some (written ++ bytes)

-- a part from the front was gained, and not all
pub record GainsPart (before after : Option (List ℕ)) (bytes : List ℕ) : Type 0 where
  pub count : ℕ
  pub short : count < length bytes
  pub written : after ≡ gained before (take count bytes)

-- the named file is there and has these bytes, where it is told
abbrev pub IsFile : Option (List ℕ → Option (List ℕ)) → List ℕ → List ℕ → Type 0
IsFile None name bytes = Unit {0}
IsFile (Some bytes_of) name bytes = bytes_of name ≡ Some bytes

-- the named file is there and has more bytes than the limit, where it is told
abbrev pub IsLonger : Option (List ℕ → Option (List ℕ)) → List ℕ → ℕ → Type 0
IsLonger None name limit = Unit {0}
IsLonger (Some bytes_of) name limit = IsSomeAnd (bytes_of name) (λ bytes. limit < length bytes)
