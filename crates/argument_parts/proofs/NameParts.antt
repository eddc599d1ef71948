-- The parts of a name that are read so far, and those that are left to be read.
use Rattle.std.proofs.Common.{List, Option, Some, None, ◌++◌, Bool, true, false}
use Rattle.term_model.specs.declared.name.Rdn.{Rdn}

-- the name once the rest is read, where each part so far is one or where some part is none
abbrev pub behind : Bool → List Rdn → Option (List Rdn) → Option (List Rdn)
behind true parts (Some rest) = Some (parts ++ rest)
behind true parts None = None
behind false parts rest = None
