-- The definitions at examples: X.229, section 9; docs/PROFILE.md, section 4.
use Rattle.std.proofs.Common.{◌≡◌, [], ◌∷◌, true, false, pos, None, Some, refl}
use Rattle.term_values.specs.Der.{identifier_octets, length_octets}
use Rattle.term_values.specs.Octets.{integer_contents, integer_in}
use Rattle.term_values.specs.Tag.{context, universal}
use Rattle.term_values.specs.Tree.TreeValue.{Primitive, Constructed}
use Rattle.term_values.specs.Tree.TreeValues.{Nothing, Then}
use Rattle.term_model.specs.ApduReading.{apdu_of, is_recognised}
use Rattle.term_model.specs.ApduWriting.{apdu_octets}
use Rattle.term_model.specs.RemoteOperation.{frame}
use Rattle.term_model.specs.declared.apdu.Apdu.TheVariants as apdus
use Rattle.rose_frames.specs.Framing.{fault_in, in_hand, is_whole, place_inside}
use Rattle.rose_frames.specs.declared.frame_refusal.FrameRefusal.TheVariants.{TooLong, ZeroLength}

-- a frame of one octet, and what follows it
example_in_hand : in_hand (0 ∷ 0 ∷ 0 ∷ 1 ∷ 0xFF ∷ 0x00 ∷ []) ≡ 0 ∷ 0 ∷ 0 ∷ 1 ∷ 0xFF ∷ []
example_in_hand = refl

example_whole : is_whole (0 ∷ 0 ∷ 0 ∷ 1 ∷ 0xFF ∷ []) ≡ true
example_whole = refl

example_begun : place_inside (record { place = 12; octets = 0 ∷ 0 ∷ [] }) ≡ Some 12
example_begun = refl

-- the longest length is 1,048,576
example_longest : fault_in 12 (0x00 ∷ 0x10 ∷ 0x00 ∷ 0x00 ∷ []) ≡ None
example_longest = refl

example_too_long : fault_in 12 (0x00 ∷ 0x10 ∷ 0x00 ∷ 0x01 ∷ []) ≡ Some (TooLong 12 1048577)
example_too_long = refl

example_zero : fault_in 12 (0 ∷ 0 ∷ 0 ∷ 0 ∷ 0xA2 ∷ []) ≡ Some (ZeroLength 12)
example_zero = refl

-- the frame of the result without a value of invoke 2
example_result : frame (apdu_octets (apdus.Result (pos 2) None None)) ≡ 0 ∷ 0 ∷ 0 ∷ 5 ∷ 0xA2 ∷ 0x03 ∷ 0x02
    ∷ 0x01 ∷ 0x02 ∷ []
unfolding integer_contents identifier_octets length_octets
example_result = refl

-- the reject of an APDU without a known invoke id: general, unrecognisedAPDU
example_reject : apdu_octets (apdus.Reject None 0 (pos 0)) ≡ 0xA4 ∷ 0x05 ∷ 0x05 ∷ 0x00 ∷ 0x80 ∷ 0x01 ∷ 0x00 ∷ []
unfolding integer_contents identifier_octets length_octets
example_reject = refl

-- operation 2, linked to invoke 1
example_linked : apdu_of
    (Constructed (context 1) (Then (Primitive (universal 2) (2 ∷ []))
    (Then (Primitive (context 0) (1 ∷ [])) (Then (Primitive (universal 2) (2 ∷ [])) Nothing))))
    ≡ Some (apdus.Invoke (pos 2) (Some (pos 1)) (pos 2) None)
unfolding integer_in
example_linked = refl

-- the same without the operation
example_mistyped : apdu_of
    (Constructed (context 1)
    (Then (Primitive (universal 2) (2 ∷ [])) (Then (Primitive (context 0) (1 ∷ [])) Nothing))) ≡ None
unfolding integer_in
example_mistyped = refl

example_unrecognised : is_recognised (Constructed (universal 16) Nothing) ≡ false
example_unrecognised = refl
