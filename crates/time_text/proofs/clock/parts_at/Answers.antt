use Rattle.std.proofs.Common.{arith, ◌∙◌, ◌≤◌, ◌/◌, pos, w8, ap}
use Rattle.time_text.specs.MomentParts.{parts_of}
use Rattle.time_text.proofs.DateLaws.{day_behind_1970, same_day}
use Rattle.time_text.proofs.MomentLaws.{clock_parts, cast_back, cast_fits, small_day}
use Rattle.time_text.proofs.clock.parts_at.Goals as goal
use mir.Syntax.{w16}

pub overflow_cast-result : goal.overflow_cast-result
overflow_cast-result c =
    let seconds = c.args.seconds in
    let within : seconds / 86400 ≤ 2932531 = omega (arith, c.requires) in
    let day = day_behind_1970 (seconds / 86400) within in
    let same = same_day c.clock_at-clock.result.date (seconds / 86400) within
    (clock_parts c.clock_at-clock.result seconds c.clock_at-clock.ensures).0 in
    cast_fits c.year.result (parts_of seconds).year (c.year.ensures ∙ same.0) (omega (arith, day.before))

pub returns-clause-parts : goal.returns-clause-parts
returns-clause-parts c =
    let seconds = c.args.seconds in
    let clock = c.clock_at-clock.result in
    let parts = parts_of seconds in
    let within : seconds / 86400 ≤ 2932531 = omega (arith, c.requires) in
    let day = day_behind_1970 (seconds / 86400) within in
    let told = clock_parts clock seconds c.clock_at-clock.ensures in
    let same = same_day clock.date (seconds / 86400) within told.0 in
    let year = cast_back w16 c.year.result parts.year (c.year.ensures ∙ same.0) (omega (arith, day.before)) in
    let month = cast_back w8 c.month.result parts.month (c.month.ensures ∙ ap (λ n. pos n) same.1)
    (omega (arith, day.civil.1)) in
    let date = cast_back w8 c.day.result parts.day (c.day.ensures ∙ ap (λ n. pos n) same.2)
    (omega (arith, same.2, small_day clock.date)) in
    let hour = cast_back w8 c.hour.result parts.hour (c.hour.ensures ∙ ap (λ n. pos n) told.1) (omega arith) in
    let minute = cast_back w8 c.minute.result parts.minute (c.minute.ensures ∙ ap (λ n. pos n) told.2) (omega arith) in
    let second = cast_back w8 c.second.result parts.second (c.second.ensures ∙ ap (λ n. pos n) told.3) (omega arith) in
    λ i. record { year = year i; month = month i; day = date i; hour = hour i; minute = minute i; second = second i }
