-- ScriptFacts: texts of lines and the lines of a text, computed from the definitions; docs/PROFILE.md, section 5.
use Rattle.std.proofs.Common.{◌≡◌, [], ◌∷◌, refl, arith}
use Rattle.std.specs.Prelude.{codes}
use Rattle.std.specs.Fmt.{digits}
use Rattle.std.proofs.lemmas.List.Elements.{All-cons, All-nil}
use Rattle.hex.specs.Hex.{decode_pairs, encode_with}
use Rattle.hex.proofs.HexLemmas.{decode_of-ok}
use Rattle.agent_model.specs.declared.script_line.ScriptLine.TheVariants as line
use Rattle.script_lines.specs.ScriptText.{AreFirstLines, IsHeld, IsLine, line_text}
use Rattle.script_lines.proofs.LineLaws.{words_lack}
use Rattle.script_lines.proofs.ScriptLaws.{no_line_feed_there}

a_time : line_text (line.At 253370764799) ≡ codes "at 253370764799\n"
unfolding digits
a_time = refl

a_bind : line_text (line.Open (48 ∷ 6 ∷ 175 ∷ [])) ≡ codes "open 3006AF\n"
unfolding encode_with
a_bind = refl

an_apdu : line_text (line.Send 10 (161 ∷ 0 ∷ [])) ≡ codes "send 10 A100\n"
unfolding digits encode_with
an_apdu = refl

an_end : line_text (line.End 0) ≡ codes "end 0\n"
unfolding digits
an_end = refl

-- octets that a line may hold
held : IsHeld (161 ∷ 0 ∷ [])
unfolding decode_pairs
held = record {
  octets_all = (decode_of-ok (codes "A100") (161 ∷ 0 ∷ []) refl).3;
  some = omega arith;
  few = omega arith;
}

-- two lines, and a third without its line feed
first_lines : AreFirstLines (codes "at 9\nsend 10 A100\nend 10") (line.At 9 ∷ line.Send 10 (161 ∷ 0 ∷ []) ∷ [])
    (codes "end 10")
unfolding digits encode_with
first_lines = record {
  spelt = refl;
  each = All-cons IsLine (line.At 9) (line.Send 10 (161 ∷ 0 ∷ []) ∷ []) (omega arith)
      (All-cons IsLine (line.Send 10 (161 ∷ 0 ∷ [])) [] (omega arith, held) (All-nil IsLine));
  last = no_line_feed_there (codes "end 10") (words_lack (line.End 10) (omega arith));
}
