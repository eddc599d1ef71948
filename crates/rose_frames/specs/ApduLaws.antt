-- What holds of APDUs of remote operations that are read and written: X.229, section 9; X.690, section 10. The
-- relation is in Apdu, the reading in ApduReading, what is written in ApduWriting.
use Rattle.std.specs.Int.{w64}
use Rattle.std.specs.Prelude.{◌≡◌, ℕ, ◌<◌, ℤ, List, [], ◌++◌, true, Option, None, Some, FitsSigned}
use Rattle.term_values.specs.Ber.{most_depth}
use Rattle.term_values.specs.BerReading.{tree_at}
use Rattle.term_values.specs.Der.{written}
use Rattle.term_values.specs.Octets.{integer_contents}
use Rattle.term_values.specs.Tag.{context, universal}
use Rattle.term_values.specs.Tree.{TreeValue, TreeValues}
use Rattle.term_values.specs.Tree.TreeValue.{Primitive, Constructed}
use Rattle.term_values.specs.Tree.TreeValues.{Nothing, Then}
use Rattle.term_values.specs.Writable.{IsWritable}
use Rattle.term_values.specs.declared.tag.Tag.{Tag}
use Rattle.typed_laws.specs.TreeOctets.{HasOctets}
use Rattle.term_model.specs.Apdu.{IsApdu}
use Rattle.term_model.specs.ApduReading.{apdu_of}
use Rattle.term_model.specs.ApduWriting.{apdu_octets}
use Rattle.term_model.specs.RemoteOperation.{is_within_32_bits}
use Rattle.term_model.specs.declared.apdu.Apdu.{Apdu}
use Rattle.term_model.specs.declared.apdu.Apdu.TheVariants as apdus

-- an APDU that is read from a tree of octets is the one that the tree is
abbrev pub ReadIsApdu : Type 0
ReadIsApdu = (tree : TreeValue) (apdu : Apdu) → HasOctets tree → apdu_of tree ≡ Some apdu → IsApdu tree apdu

-- and the one that a tree is, is read
abbrev pub ApduIsRead : Type 0
ApduIsRead = (tree : TreeValue) (apdu : Apdu) → IsApdu tree apdu → apdu_of tree ≡ Some apdu

-- the tree of an APDU
abbrev pub whole_tree : Tag → ℤ → TreeValue
whole_tree tag n = Primitive tag (integer_contents n)

abbrev pub linked_tree : Option ℤ → TreeValues → TreeValues
linked_tree None rest = rest
linked_tree (Some id) rest = Then (whole_tree (context 0) id) rest

abbrev pub any_tree : Option TreeValue → TreeValues
any_tree None = Nothing
any_tree (Some x) = Then x Nothing

abbrev pub result_tree : Option ℤ → Option TreeValue → TreeValues
result_tree (Some op) (Some value) =
    Then (Constructed (universal 16) (Then (whole_tree (universal 2) op) (Then value Nothing))) Nothing
result_tree (Some op) None = Nothing
result_tree None value = Nothing

abbrev pub rejected_tree : Option ℤ → TreeValue
rejected_tree None = Primitive (universal 5) []
rejected_tree (Some id) = whole_tree (universal 2) id

abbrev pub apdu_tree : Apdu → TreeValue
apdu_tree (apdus.Invoke id linked op argument) =
    Constructed (context 1)
    (Then (whole_tree (universal 2) id) (linked_tree linked (Then (whole_tree (universal 2) op) (any_tree argument))))
apdu_tree (apdus.Result id op value) =
    Constructed (context 2) (Then (whole_tree (universal 2) id) (result_tree op value))
apdu_tree (apdus.Error id error parameter) =
    Constructed (context 3)
    (Then (whole_tree (universal 2) id) (Then (whole_tree (universal 2) error) (any_tree parameter)))
apdu_tree (apdus.Reject id class problem) =
    Constructed (context 4) (Then (rejected_tree id) (Then (whole_tree (context class) problem) Nothing))

-- ids are within 32 bits, other numbers within 64; a result has an operation and a value or neither; there are four
-- classes of problems
abbrev pub IsId : ℤ → Type 0
IsId n = is_within_32_bits n ≡ true

abbrev pub IsOptionalId : Option ℤ → Type 0
IsOptionalId None = Unit {0}
IsOptionalId (Some n) = IsId n

abbrev pub AreTogether : Option ℤ → Option TreeValue → Type 0
AreTogether (Some op) (Some value) = FitsSigned w64 op
AreTogether None None = Unit {0}
AreTogether (Some op) None = ⊥
AreTogether None (Some value) = ⊥

abbrev pub IsSound : Apdu → Type 0
IsSound (apdus.Invoke id linked op argument) = IsId id × IsOptionalId linked × FitsSigned w64 op
IsSound (apdus.Result id op value) = IsId id × AreTogether op value
IsSound (apdus.Error id error parameter) = IsId id × FitsSigned w64 error
IsSound (apdus.Reject id class problem) = IsOptionalId id × (class < 4) × FitsSigned w64 problem

-- what is written for an APDU is its tree, which is read as the APDU
abbrev pub WrittenIsApdu : Type 0
WrittenIsApdu = (apdu : Apdu) → IsSound apdu →
    (written (apdu_tree apdu) ≡ apdu_octets apdu) × (apdu_of (apdu_tree apdu) ≡ Some apdu)

-- whatever follows, where at most so many constructed values stand inside one another and the octets are few enough
abbrev pub WrittenIsReadBack : Type 0
WrittenIsReadBack = (apdu : Apdu) (rest : List ℕ) → IsWritable most_depth (apdu_tree apdu) →
    tree_at most_depth (apdu_octets apdu ++ rest) ≡ Some (apdu_tree apdu, rest)
