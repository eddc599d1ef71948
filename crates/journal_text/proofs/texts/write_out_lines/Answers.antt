use Rattle.std.proofs.Common.{◌≡◌, ◌+◌, ◌<◌, length, take, append_assoc, arith}
use Rattle.agent_model.specs.Texts.{out_lines}
use Rattle.journal_text.proofs.OutLines.{out_lines-more, text}
use Rattle.journal_text.proofs.texts.write_out_lines.Goals as goal

-- one more line
pub loop-place-preserved : goal.loop-place-preserved
loop-place-preserved c =
    let all = c.args.associations.now in
    let a = c.index-associations-place.result in
    let at = c.loop-place.place in
    let within : at < length all = omega arith in
    let more = out_lines-more 1 all at a within c.index-associations-place.is in
    let number : at + 1 ≡ 1 + at = omega arith in
    let written = c.in_ok-write_out_line.ensures in
    let grouped = append_assoc c.args.into.now.items (out_lines 1 (take at all)) (text (1 + at) a) in
    cc (more, number, written, grouped, c.loop-place.invariant)
