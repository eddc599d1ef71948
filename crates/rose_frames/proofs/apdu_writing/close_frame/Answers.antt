-- The length stands before the APDU.
use Rattle.std.proofs.Common.{◌++◌, ◌-◌, length, reverse, ap, ◌∙◌}
use Rattle.term_values.specs.Octets.{octets}
use Rattle.ber_tree.proofs.Backwards.{before, behind_start}
use Rattle.rose_frames.proofs.apdu_writing.close_frame.Goals as goal

pub returns-clause-written : goal.returns-clause-written
returns-clause-written c = λ old apdu begin is.
    before old (octets 4 (length apdu)) apdu
    (c.in_ok-write_frame_length.ensures.written
    ∙ ap (λ n. c.args.into.now.items ++ reverse (octets 4 n))
    (ap (λ xs. length xs - c.args.start) c.as_slice.ensures.value
    ∙ behind_start old apdu c.args.into.now.items c.args.start begin is))
    is
