-- What a sink tells after two gains, one after the other.
use Rattle.std.proofs.Common.{◌≡◌, ℕ, ◌+◌, ◌-◌, List, ◌++◌, length, take, drop, refl, ap, append_assoc}
use Rattle.std.proofs.Math.Seq.{take-add}
use Rattle.std.proofs.lemmas.List.{take_rest}
use Rattle.std.specs.Prelude.{Option, None, Some}
use Rattle.agent_bytes.specs.Told.{gained}

-- two gains are the gain of both together
pub gained-gained : (told : Option (List ℕ)) (a b : List ℕ) → gained (gained told a) b ≡ gained told (a ++ b)
gained-gained None a b = refl
gained-gained (Some written) a b = ap Some (append_assoc written a b)

-- the part up to `done`, and then `count` bytes of the rest
pub gained-part : (told : Option (List ℕ)) (bytes : List ℕ) (done count : ℕ) →
    gained (gained told (take done bytes)) (take count (take (length bytes - done) (drop done bytes)))
    ≡ gained told (take (done + count) bytes)
gained-part told bytes done count =
    rw (take_rest bytes done, gained-gained told, take-add done count bytes) refl
