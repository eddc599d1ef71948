-- What readers of trees answer: X.690, section 8.1; docs/PROFILE.md, section 3.
use Rattle.std.specs.Prelude.{◌≡◌, ℕ, zero, suc, ◌≤◌, List, length, take, drop, Option, None, Some, Result, Ok, Err, ⊤}
use Rattle.term_values.specs.declared.ber_kind.BerKind.{BerKind}
use Rattle.term_values.specs.Ber.{IsBer}
use Rattle.term_values.specs.BerReading.{Fault, Front, primitive_value, constructed_value, either, reading}
use Rattle.term_values.specs.FirstFault.{IsFirstFault}
use Rattle.term_values.specs.Tree.{TreeValue}
use Rattle.ber_tree.specs.declared.ber_refusal.BerRefusal.{BerRefusal}
use Rattle.ber_tree.specs.declared.ber_refusal.BerRefusal.TheVariants as refusal
use Rattle.ber_tree.specs.declared.header_reading.Header.{Header}

abbrev pub ok_map : {T U E : Type 0} → (T → U) → Result T E → Result U E
ok_map f (Ok x) = Ok (f x)
ok_map f (Err e) = Err e

-- what a header says, and the octets behind it
abbrev pub front_at : List ℕ → Header → Front
front_at octets header =
    record {
      constructed = header.constructed;
      tag = header.tag;
      extent = header.extent;
      rest =
          drop header.size octets;
    }

-- the refusal is the fault of the reading; want of memory says nothing
abbrev pub Refuses : {T : Type 0} → Result T Fault → BerRefusal → Type 0
Refuses reading (refusal.Fault at kind) = reading ≡ Err (at, kind)
Refuses reading refusal.Memory = ⊤

-- the answer is that of the reading: a value and the number of its octets, or the fault
abbrev pub Answers : {T : Type 0} → List ℕ → Result (T × List ℕ) Fault → Result (T × ℕ) BerRefusal → Type 0
Answers octets reading (Ok f) = (f.1 ≤ length octets) × (reading ≡ Ok (f.0, drop f.1 octets))
Answers octets reading (Err e) = Refuses reading e

-- the answer is that of the test whether a constructed value stops here
abbrev pub IsStop : Option (Result (List ℕ) Fault) → List ℕ → Result (Option ℕ) BerRefusal → Type 0
IsStop stop octets (Ok None) = stop ≡ None
IsStop stop octets (Ok (Some size)) = (size ≤ length octets) × (stop ≡ Some (Ok (drop size octets)))
IsStop stop octets (Err (refusal.Fault at kind)) = stop ≡ Some (Err (at, kind))
IsStop stop octets (Err refusal.Memory) = ⊥

-- the value whose header was read
abbrev pub body : ℕ → Option ℕ → ℕ → ℕ → Header → List ℕ → Result (TreeValue × List ℕ) Fault
body zero behind end place header rest = primitive_value end header.tag header.extent rest
body (suc depth) behind end place header rest =
    either header.constructed (constructed_value (reading depth) behind end place header.tag header.extent)
    (primitive_value end header.tag header.extent) rest

-- these bytes at the front spell the tree
pub record IsFront (bytes : List ℕ) (found : TreeValue × ℕ) : Type 0 where
  pub within : found.1 ≤ length bytes
  pub spells : IsBer (take found.1 bytes) found.0

-- the refusal names the first fault
abbrev pub IsCause : List ℕ → BerRefusal → Type 0
IsCause bytes (refusal.Fault at kind) = IsFirstFault bytes at kind
IsCause bytes refusal.Memory = ⊤

-- the answer is this one, or there was no memory
abbrev pub Gives : Result (TreeValue × ℕ) BerRefusal → Result (TreeValue × ℕ) (ℕ × BerKind) → Type 0
Gives (Ok f) wanted = wanted ≡ Ok f
Gives (Err (refusal.Fault at kind)) wanted = wanted ≡ Err (at, kind)
Gives (Err refusal.Memory) wanted = ⊤
