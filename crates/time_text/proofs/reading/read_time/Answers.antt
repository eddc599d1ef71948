use Rattle.std.proofs.Common.{length, ap, ◌∙◌}
use Rattle.time_text.proofs.MomentLaws.{text_is}
use Rattle.time_text.proofs.reading.read_time.Goals as goal

pub returns-then-text-ne-TEXT_LENGTH-clause-bad : goal.returns-then-text-ne-TEXT_LENGTH-clause-bad
returns-then-text-ne-TEXT_LENGTH-clause-bad c = λ seconds within is.
    c.if-text-ne-TEXT_LENGTH.true (ap (λ xs. length xs) (is ∙ text_is seconds))
