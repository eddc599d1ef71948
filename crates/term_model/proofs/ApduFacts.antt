-- Examples of APDUs of remote operations, computed: X.229, section 9; docs/PROFILE.md, section 4.
use Rattle.std.proofs.Common.{arith, inl, inr}
use Rattle.std.specs.Prelude.{◌≡◌, pos, [], ◌∷◌, None, Some, refl}
use Rattle.term_values.specs.Der.{identifier_octets, length_octets}
use Rattle.term_values.specs.Octets.{integer_contents, integer_in}
use Rattle.term_values.specs.Tag.{context, universal}
use Rattle.term_values.specs.Tree.{TreeValue}
use Rattle.term_values.specs.Tree.TreeValue.{Constructed, Primitive}
use Rattle.term_values.specs.Tree.TreeValues.{Nothing, Then}
use Rattle.term_model.specs.declared.apdu.Apdu.TheVariants as apdus
use Rattle.term_model.specs.Apdu.{IsApdu}
use Rattle.term_model.specs.ApduReading.{apdu_of}
use Rattle.term_model.specs.ApduWriting.{apdu_octets}

abbrev one : TreeValue
one = Primitive (universal 2) (1 ∷ [])

abbrev three : TreeValue
three = Primitive (universal 2) (3 ∷ [])

abbrev null : TreeValue
null = Primitive (universal 5) []

-- [1] { 1, 3, NULL } is the Invoke of m-Get with the id 1 and the argument NULL
abbrev invoke_tree : TreeValue
invoke_tree = Constructed (context 1) (Then one (Then three (Then null Nothing)))

invoke_denoted : IsApdu invoke_tree (apdus.Invoke (pos 1) None (pos 3) (Some null))
unfolding integer_contents
invoke_denoted = record {
  denotes = (
    one ∷ (three ∷ (null ∷ [])),
    _,
    refl,
    inl (
      (pos 1, (refl, omega arith), refl, refl),
      inr (inl ((pos 3, (refl, omega arith), refl, refl), inl (refl, (refl, refl)))),
    ),
    refl,
  );
  any = refl;
}

invoke_read : apdu_of invoke_tree ≡ Some (apdus.Invoke (pos 1) None (pos 3) (Some null))
unfolding integer_in
invoke_read = refl

-- the same with the linked id 2
abbrev linked_tree : TreeValue
linked_tree =
    Constructed (context 1) (Then one (Then (Primitive (context 0) (2 ∷ [])) (Then three (Then null Nothing))))

linked_denoted : IsApdu linked_tree (apdus.Invoke (pos 1) (Some (pos 2)) (pos 3) (Some null))
unfolding integer_contents
linked_denoted = record {
  denotes = (
    one ∷ (Primitive (context 0) (2 ∷ []) ∷ (three ∷ (null ∷ []))),
    _,
    refl,
    inl (
      (pos 1, (refl, omega arith), refl, refl),
      inl (
        (pos 2, (refl, omega arith), refl, refl),
        inl ((pos 3, (refl, omega arith), refl, refl), inl (refl, (refl, refl))),
      ),
    ),
    refl,
  );
  any = refl;
}

linked_read : apdu_of linked_tree ≡ Some (apdus.Invoke (pos 1) (Some (pos 2)) (pos 3) (Some null))
unfolding integer_in
linked_read = refl

-- [2] { 1, { 3, NULL } }: the result NULL of the operation 3
abbrev operation_and_value : TreeValue
operation_and_value = Constructed (universal 16) (Then three (Then null Nothing))

abbrev result_tree : TreeValue
result_tree = Constructed (context 2) (Then one (Then operation_and_value Nothing))

result_denoted : IsApdu result_tree (apdus.Result (pos 1) (Some (pos 3)) (Some null))
unfolding integer_contents
result_denoted = record {
  denotes = (
    one ∷ (operation_and_value ∷ []),
    _,
    refl,
    inl (
      (pos 1, (refl, omega arith), refl, refl),
      inl (
        (three ∷ (null ∷ []), _, refl, inl ((pos 3, (refl, omega arith), refl, refl), inl (refl, (refl, refl))), refl),
        (refl, refl),
      ),
    ),
    refl,
  );
  any = (_, refl, refl);
}

-- [3] { 1, 3 }: the error 3 without a parameter
abbrev error_tree : TreeValue
error_tree = Constructed (context 3) (Then one (Then three Nothing))

error_denoted : IsApdu error_tree (apdus.Error (pos 1) (pos 3) None)
unfolding integer_contents
error_denoted = record {
  denotes = (
    one ∷ (three ∷ []),
    _,
    refl,
    inl (
      (pos 1, (refl, omega arith), refl, refl),
      inl ((pos 3, (refl, omega arith), refl, refl), inr (refl, refl)),
    ),
    refl,
  );
  any = tt;
}

-- [4] { NULL, [1] 3 }: a problem 3 of an invoke whose id is not known
abbrev reject_tree : TreeValue
reject_tree = Constructed (context 4) (Then null (Then (Primitive (context 1) (3 ∷ [])) Nothing))

reject_denoted : IsApdu reject_tree (apdus.Reject None 1 (pos 3))
unfolding integer_contents
reject_denoted = record {
  denotes = (
    null ∷ (Primitive (context 1) (3 ∷ []) ∷ []),
    _,
    refl,
    inl (
      (1, _, (refl, refl), refl),
      inl ((1, _, (pos 3, (refl, omega arith), refl, refl), refl), (refl, refl)),
    ),
    refl,
  );
  any = tt;
}

reject_read : apdu_of reject_tree ≡ Some (apdus.Reject None 1 (pos 3))
unfolding integer_in
reject_read = refl

-- what is written for each of them
invoke_written : apdu_octets (apdus.Invoke (pos 1) None (pos 3) (Some null))
    ≡ 0xA1 ∷ 0x08 ∷ 0x02 ∷ 0x01 ∷ 0x01 ∷ 0x02 ∷ 0x01 ∷ 0x03 ∷ 0x05 ∷ 0x00 ∷ []
unfolding identifier_octets length_octets integer_contents
invoke_written = refl

linked_written : apdu_octets (apdus.Invoke (pos 1) (Some (pos 2)) (pos 3) (Some null))
    ≡ 0xA1 ∷ 0x0B ∷ 0x02 ∷ 0x01 ∷ 0x01 ∷ 0x80 ∷ 0x01 ∷ 0x02 ∷ 0x02 ∷ 0x01 ∷ 0x03 ∷ 0x05 ∷ 0x00 ∷ []
unfolding identifier_octets length_octets integer_contents
linked_written = refl

result_written : apdu_octets (apdus.Result (pos 1) (Some (pos 3)) (Some null))
    ≡ 0xA2 ∷ 0x0A ∷ 0x02 ∷ 0x01 ∷ 0x01 ∷ 0x30 ∷ 0x05 ∷ 0x02 ∷ 0x01 ∷ 0x03 ∷ 0x05 ∷ 0x00 ∷ []
unfolding identifier_octets length_octets integer_contents
result_written = refl

error_written : apdu_octets (apdus.Error (pos 1) (pos 3) None)
    ≡ 0xA3 ∷ 0x06 ∷ 0x02 ∷ 0x01 ∷ 0x01 ∷ 0x02 ∷ 0x01 ∷ 0x03 ∷ []
unfolding identifier_octets length_octets integer_contents
error_written = refl

reject_written : apdu_octets (apdus.Reject None 1 (pos 3)) ≡ 0xA4 ∷ 0x05 ∷ 0x05 ∷ 0x00 ∷ 0x81 ∷ 0x01 ∷ 0x03 ∷ []
unfolding identifier_octets length_octets integer_contents
reject_written = refl
