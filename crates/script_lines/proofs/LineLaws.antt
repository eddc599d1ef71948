-- LineLaws: the words of a line tell the line, and have no line feed.
use Rattle.std.proofs.Common.{◌≡◌, ℕ, List, ◌∷◌, ◌++◌, None, refl, ap, ◌∙◌, subst, arith}
use Rattle.std.specs.Prelude.{codes, decimal}
use Rattle.std.proofs.lemmas.Bool.{eqb-false}
use Rattle.std.proofs.lemmas.Fmt.{decimal_injective}
use Rattle.std.proofs.lemmas.List.{append_cancel_left}
use Rattle.hex.specs.Hex.{encode_upper}
use Rattle.agent_model.specs.declared.script_line.ScriptLine.{ScriptLine}
use Rattle.agent_model.specs.declared.script_line.ScriptLine.TheVariants as line
use Rattle.script_lines.specs.ScriptText.{IsHeld, IsLine, IsNumber, words_of}
use Rattle.script_lines.specs.LineParts.{AreOctetsIn, IsLineIn, IsNumberIn, IsWithout}
use Rattle.script_lines.proofs.PartLaws.{Lacks, decimal_lacks, digits_lack, head_of, lacks, lacks_both, one_split}
use Rattle.script_lines.proofs.PartLaws.{same_octets, stands}

-- ---- words have no line feed

at_lacks : Lacks 10 (codes "at ")
at_lacks = (eqb-false 97 10 refl, (eqb-false 116 10 refl, (eqb-false 32 10 refl, tt)))

open_lacks : Lacks 10 (codes "open ")
open_lacks = (
  eqb-false 111 10 refl,
  (eqb-false 112 10 refl, (eqb-false 101 10 refl, (eqb-false 110 10 refl, (eqb-false 32 10 refl, tt)))),
)

send_lacks : Lacks 10 (codes "send ")
send_lacks = (
  eqb-false 115 10 refl,
  (eqb-false 101 10 refl, (eqb-false 110 10 refl, (eqb-false 100 10 refl, (eqb-false 32 10 refl, tt)))),
)

end_lacks : Lacks 10 (codes "end ")
end_lacks = (
  eqb-false 101 10 refl,
  (eqb-false 110 10 refl, (eqb-false 100 10 refl, (eqb-false 32 10 refl, tt))),
)

pub words_lack : (next : ScriptLine) → IsLine next → Lacks 10 (words_of next)
words_lack (line.At moment) is =
    lacks_both 10 (codes "at ") (decimal moment) at_lacks (decimal_lacks 10 moment (omega arith) is)
words_lack (line.Open bind) is =
    lacks_both 10 (codes "open ") (encode_upper bind) open_lacks (digits_lack 10 bind refl is.octets_all)
words_lack (line.Send number apdu) is =
    lacks_both 10 (codes "send ") (decimal number ++ (codes " " ++ encode_upper apdu)) send_lacks
    (lacks_both 10 (decimal number) (codes " " ++ encode_upper apdu) (decimal_lacks 10 number (omega arith) is.0)
    (eqb-false 32 10 refl, digits_lack 10 apdu refl is.1.octets_all))
words_lack (line.End number) is =
    lacks_both 10 (codes "end ") (decimal number) end_lacks (decimal_lacks 10 number (omega arith) is)

-- ---- the words of a line that sends

abbrev SendParts : List ℕ → List ℕ → Type 0
SendParts number digits = (n : ℕ) × (apdu : List ℕ) × IsNumber n × IsHeld apdu × (number ≡ decimal n)
    × (digits ≡ encode_upper apdu)

send_parts : (number digits : List ℕ) (next : ScriptLine) → Lacks 32 number → IsLine next
    → codes "send " ++ (number ++ (32 ∷ digits)) ≡ words_of next → SendParts number digits
send_parts number digits (line.At n) h is e = absurd (eqb-false 115 97 refl (ap head_of e))
send_parts number digits (line.Open bind) h is e = absurd (eqb-false 115 111 refl (ap head_of e))
send_parts number digits (line.End n) h is e = absurd (eqb-false 115 101 refl (ap head_of e))
send_parts number digits (line.Send n apdu) h is e =
    let same = one_split 32 number (decimal n) digits (encode_upper apdu) h (decimal_lacks 32 n (omega arith) is.0)
    (append_cancel_left (codes "send ") (number ++ (32 ∷ digits)) (decimal n ++ (32 ∷ encode_upper apdu)) e) in
    (n, apdu, is.0, is.1, same.0, same.1)

-- without a number there
pub sent_no_number : (number digits : List ℕ) → IsWithout 32 number → IsNumberIn number None
    → IsLineIn (codes "send " ++ (number ++ (32 ∷ digits))) None
sent_no_number number digits h none' next is e =
    let parts = send_parts number digits next (lacks 32 number h) is e in
    none' parts.0 parts.2 parts.4

-- without octets behind it
pub sent_no_octets : (number digits : List ℕ) → IsWithout 32 number → AreOctetsIn digits None
    → IsLineIn (codes "send " ++ (number ++ (32 ∷ digits))) None
sent_no_octets number digits h none' next is e =
    let parts = send_parts number digits next (lacks 32 number h) is e in
    none' parts.1 parts.3 parts.5

-- without a space
pub sent_no_space : (words : List ℕ) → IsWithout 32 words → IsLineIn (codes "send " ++ words) None
sent_no_space words h (line.At n) is e = eqb-false 115 97 refl (ap head_of e)
sent_no_space words h (line.Open bind) is e = eqb-false 115 111 refl (ap head_of e)
sent_no_space words h (line.End n) is e = eqb-false 115 101 refl (ap head_of e)
sent_no_space words h (line.Send n apdu) is e =
    let same = append_cancel_left (codes "send ") words (decimal n ++ (32 ∷ encode_upper apdu)) e in
    stands 32 (decimal n) (encode_upper apdu) (subst (Lacks 32) same (lacks 32 words h))

-- ---- the words of two lines

-- the first letter of a line's words
abbrev letter : ScriptLine → ℕ
letter (line.At moment) = 97
letter (line.Open bind) = 111
letter (line.Send number apdu) = 115
letter (line.End number) = 101

pub same_lines : (a b : ScriptLine) → IsLine a → IsLine b → words_of a ≡ words_of b → a ≡ b
same_lines (line.At m) (line.At n) ha hb e =
    ap (λ k. line.At k) (decimal_injective m n ha hb (append_cancel_left (codes "at ") (decimal m) (decimal n) e))
same_lines (line.Open x) (line.Open y) ha hb e =
    ap (λ o. line.Open o)
    (same_octets x y (append_cancel_left (codes "open ") (encode_upper x) (encode_upper y) e) ha hb)
same_lines (line.Send m x) (line.Send n y) ha hb e =
    let same = one_split 32 (decimal m) (decimal n) (encode_upper x) (encode_upper y)
    (decimal_lacks 32 m (omega arith) ha.0) (decimal_lacks 32 n (omega arith) hb.0)
    (append_cancel_left (codes "send ") (decimal m ++ (32 ∷ encode_upper x)) (decimal n ++ (32 ∷ encode_upper y)) e) in
    ap (λ k. line.Send k x) (decimal_injective m n ha.0 hb.0 same.0)
    ∙ ap (λ o. line.Send n o) (same_octets x y same.1 ha.1 hb.1)
same_lines (line.End m) (line.End n) ha hb e =
    ap (λ k. line.End k) (decimal_injective m n ha hb (append_cancel_left (codes "end ") (decimal m) (decimal n) e))
same_lines a b ha hb e = absurd (eqb-false (letter a) (letter b) refl (ap head_of e))
