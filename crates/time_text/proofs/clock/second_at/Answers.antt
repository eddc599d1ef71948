use Rattle.std.proofs.Common.{◌∙◌, ap, arith, to_z, w8, w64, Some}
use Rattle.std.proofs.lemmas.Bool.{false≢true}
use Rattle.std.proofs.lemmas.Int.{to_z_pos}
use Rattle.jiff_core.specs.DateTime.{civil_nanos}
use Rattle.time_text.proofs.MomentLaws.{date_of, made_clock, has_instant, at_no_offset, instant_second, cast_back}
use Rattle.time_text.proofs.MomentLaws.{not_below}
use Rattle.time_text.proofs.clock.second_at.Goals as goal
use mir.Syntax.{w16}

pub returns-in_default : goal.returns-in_default
returns-in_default c = λ seconds within is.
    let parts = c.args.parts.now in
    absurd (false≢true (c.in_default.ensures.succeeds.1
    (date_of seconds within parts is (to_z w16 parts.year) (to_z w8 parts.month) (to_z w8 parts.day)
    (to_z_pos w16 parts.year (omega (arith, c.requires.year)))
    (to_z_pos w8 parts.month (omega (arith, c.requires.month)))
    (to_z_pos w8 parts.day (omega (arith, c.requires.day))))))

pub returns-in_default-to_timestamp : goal.returns-in_default-to_timestamp
returns-in_default-to_timestamp c = λ seconds within is.
    absurd (false≢true (c.in_default-to_timestamp.ensures.succeeds.1
    (has_instant _ seconds within
    (made_clock seconds within c.args.parts.now is c.from_parts.result c.in-Ok.date c.in-Ok-new.time
    c.from_parts.ensures.date
    c.from_parts.ensures.time c.in-Ok.ensures.value c.in-Ok-new.ensures.value))))

pub returns-then-seconds-lt0 : goal.returns-then-seconds-lt0
returns-then-seconds-lt0 c = λ seconds within is.
    let shows = made_clock seconds within c.args.parts.now is c.from_parts.result c.in-Ok.date c.in-Ok-new.time
    c.from_parts.ensures.date c.from_parts.ensures.time c.in-Ok.ensures.value c.in-Ok-new.ensures.value in
    absurd (not_below c.as_second-seconds.result seconds within
    (instant_second c.in-Ok-to_timestamp.moment.nanosecond c.as_second-seconds.result seconds
    (c.in-Ok-to_timestamp.ensures.value ∙ at_no_offset (civil_nanos c.from_parts.result) seconds shows)
    c.as_second-seconds.ensures)
    c.if-seconds-lt0.true)

pub returns : goal.returns
returns c = λ seconds within is.
    let shows = made_clock seconds within c.args.parts.now is c.from_parts.result c.in-Ok.date c.in-Ok-new.time
    c.from_parts.ensures.date c.from_parts.ensures.time c.in-Ok.ensures.value c.in-Ok-new.ensures.value in
    ap (λ n. Some n) (cast_back w64 c.as_second-seconds.result seconds
    (instant_second c.in-Ok-to_timestamp.moment.nanosecond c.as_second-seconds.result seconds
    (c.in-Ok-to_timestamp.ensures.value ∙ at_no_offset (civil_nanos c.from_parts.result) seconds shows)
    c.as_second-seconds.ensures)
    (omega arith))
