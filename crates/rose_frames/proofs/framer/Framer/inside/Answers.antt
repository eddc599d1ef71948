-- A frame that is begun and not held.
use Rattle.std.proofs.Common.{sym, ap, arith}
use Rattle.rose_frames.specs.Framing.{Framing}
use Rattle.rose_frames.proofs.FramingLaws.{begun_some, Fields, fields_size}
use Rattle.rose_frames.proofs.framer.Framer.inside.Goals as goal

pub returns : goal.returns
returns c =
    let f : Fields c.self.inside.filled c.self.inside.size c.self.inside.apdu.items =
    record {
      four = c.self.invariant.0;
      within = c.self.invariant.1;
      none_yet = c.self.invariant.2;
      some =
          c.self.invariant.3;
    } in
    let some = fields_size c.args.self.now c.self.inside.place c.self.inside.filled c.self.inside.size
    c.self.inside.apdu.items f c.self.view_is in
    begun_some c.args.self.now c.self.inside.place (ap (λ (v : Framing). v.place) c.self.view_is)
    (omega (arith, some)) (sym c.if-is_held.ensures)
