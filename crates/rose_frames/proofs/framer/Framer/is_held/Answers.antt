-- The tests of a whole frame, behind its four octets of length.
use Rattle.std.proofs.Common.{◌≡◌, ◌&&◌, ◌==◌, length, true, false, sym, ap, ◌∙◌, arith}
use Rattle.term_values.specs.Octets.{number}
use Rattle.rose_frames.specs.Framing.{is_size}
use Rattle.rose_frames.proofs.FramingLaws.{Fields, whole_fields}
use Rattle.rose_frames.proofs.framer.Framer.is_held.Goals as goal

pub returns-then-not-is_size : goal.returns-then-not-is_size
returns-then-not-is_size c =
    let f : Fields c.self.inside.filled c.self.inside.size c.self.inside.apdu.items =
    record {
      four = c.self.invariant.0;
      within = c.self.invariant.1;
      none_yet = c.self.invariant.2;
      some =
          c.self.invariant.3;
    } in
    let w = whole_fields c.args.self.now c.self.inside.place c.self.inside.filled c.self.inside.size
    c.self.inside.apdu.items f
    c.self.view_is (omega arith) in
    let sized : is_size (number c.self.inside.size) ≡ false =
    ap is_size (sym c.size_of-size.ensures) ∙ sym (c.if-not-is_size.ensures) in
    sym (w.1 ∙ ap (λ b. b && length c.self.inside.apdu.items == number c.self.inside.size) sized)

pub returns : goal.returns
returns c =
    let f : Fields c.self.inside.filled c.self.inside.size c.self.inside.apdu.items =
    record {
      four = c.self.invariant.0;
      within = c.self.invariant.1;
      none_yet = c.self.invariant.2;
      some =
          c.self.invariant.3;
    } in
    let w = whole_fields c.args.self.now c.self.inside.place c.self.inside.filled c.self.inside.size
    c.self.inside.apdu.items f
    c.self.view_is (omega arith) in
    let sized : is_size (number c.self.inside.size) ≡ true =
    ap is_size (sym c.size_of-size.ensures) ∙ sym (c.if-not-is_size.ensures) in
    ap (λ xs. length xs == c.size_of-size.result) c.as_slice.ensures.value
    ∙ (ap (λ n. length c.self.inside.apdu.items == n) c.size_of-size.ensures
    ∙ sym (w.1 ∙ ap (λ b. b && length c.self.inside.apdu.items == number c.self.inside.size) sized))
