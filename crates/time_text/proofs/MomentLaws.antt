-- The cells of a moment's text, and the second that its parts tell.
use Rattle.std.proofs.Common.{rules, ◌≡◌, ℕ, ◌*◌, ◌/◌, ◌%◌, ◌^◌, ◌<◌, ◌≤◌, List, [], ◌∷◌, ◌++◌, refl, sym, ap, subst}
use Rattle.std.proofs.Common.{◌∙◌, arith, Fits, w8, w64, true, ℤ, pos, ◌-ℤ◌, to_z, of_z, unsigned_abs}
use Rattle.std.proofs.lemmas.Int.{to_z_pos}
use Rattle.std.specs.Int.{Width}
use Rattle.std.specs.Prelude.{int_div}
use Rattle.jiff_core.specs.declared.civil.datetime.DateTime.{DateTime}
use Rattle.jiff_core.specs.declared.civil.date.Date.{Date as CalendarDate}
use Rattle.jiff_core.specs.declared.civil.time.Time.{Time as ClockTime}
use Rattle.jiff_core.specs.Calendar.{IsDate}
use Rattle.jiff_core.specs.Date.{epoch_day, IsYmd}
use Rattle.jiff_core.specs.DateTime.{civil_nanos}
use Rattle.jiff_core.specs.Time.{time_nanos, IsHms}
use Rattle.jiff_core.specs.Timestamp.{IsTimestampNanos, nanos_of_seconds}
use Rattle.jiff_core.proofs.SignedLemmas.{signed_arith, back_small}
use Rattle.jiff_core.proofs.CalendarLemmas.{days_in_month_bounds}
use Rattle.jiff_core.proofs.DateTimeLemmas.{civil_nanos-parts, time_nanos_bound}
use Rattle.term_values.specs.Moment.{moment_text, date_from, digits_of}
use Rattle.time_text.specs.MomentParts.{parts_of}
use Rattle.time_text.specs.declared.parts.Parts.{Parts}
use Rattle.time_text.proofs.DateLaws.{day_behind_1970, civil_epoch_day}
use lib.Dec.{T}
use lib.Signed.{non_neg, lt_z}
use mir.Syntax.{w16}
use mir.Val.{hbits}

-- the text of parts
abbrev pub parts_text : Parts → List ℕ
parts_text parts =
    digits_of 4 parts.year ++ digits_of 2 parts.month ++ digits_of 2 parts.day
    ++ digits_of 2 parts.hour ++ digits_of 2 parts.minute ++ digits_of 2 parts.second ++ 90 ∷ []

pub text_is : (seconds : ℕ) → moment_text seconds ≡ parts_text (parts_of seconds)
unfolding moment_text
text_is seconds = refl

-- four digits are two numbers of two digits
pub year_digits : (year : ℕ) → digits_of 4 year ≡ digits_of 2 (year / 100) ++ digits_of 2 (year % 100)
year_digits year =
    let thousands : year / 10 / 10 / 10 % 10 ≡ year / 100 / 10 % 10 = omega arith in
    let hundreds : year / 10 / 10 % 10 ≡ year / 100 % 10 = omega arith in
    let tens : year / 10 % 10 ≡ year % 100 / 10 % 10 = omega arith in
    let units : year % 10 ≡ year % 100 % 10 = omega arith in
    cc

-- the digits behind the year's
abbrev behind_year : Parts → List ℕ
behind_year parts =
    digits_of 2 parts.month ++ digits_of 2 parts.day
    ++ digits_of 2 parts.hour ++ digits_of 2 parts.minute ++ digits_of 2 parts.second ++ 90 ∷ []

-- the same text as numbers of two digits
abbrev pub pairs_text : Parts → List ℕ
pairs_text parts = (digits_of 2 (parts.year / 100) ++ digits_of 2 (parts.year % 100)) ++ behind_year parts

pub pairs_are : (seconds : ℕ) → moment_text seconds ≡ pairs_text (parts_of seconds)
pairs_are seconds = text_is seconds
    ∙ ap (λ year. year ++ behind_year (parts_of seconds)) (year_digits (parts_of seconds).year)

-- the numbers of which a text consists are below those that its digits can tell
pub record IsSmall (parts : Parts) : Type 0 where
  pub year : parts.year < 10000
  pub month : parts.month < 100
  pub day : parts.day < 100
  pub hour : parts.hour < 100
  pub minute : parts.minute < 100
  pub second : parts.second < 100

pub parts_small : (seconds : ℕ) → seconds ≤ 253370764799 → IsSmall (parts_of seconds)
parts_small seconds within =
    let date = date_from 8029 1970 (seconds / 86400) in
    let day = day_behind_1970 (seconds / 86400) (omega arith) in
    record {
      year = omega (arith, day.before);
      month = omega (arith, day.civil.1);
      day = omega (arith, day.civil.2, days_in_month_bounds (pos date.year) date.month);
      hour = omega arith;
      minute = omega arith;
      second = omega arith;
    }

-- what a clock shows at a second
pub clock_parts : (clock : DateTime) (seconds : ℕ) → civil_nanos clock ≡ pos (seconds * 1000000000)
    → (epoch_day clock.date ≡ pos (seconds / 86400)) × (clock.time.hour ≡ seconds % 86400 / 3600)
    × (clock.time.minute ≡ seconds % 3600 / 60) × (clock.time.second ≡ seconds % 60)
clock_parts clock seconds is =
    let days : epoch_day clock.date ≡ pos (seconds / 86400) =
    omega (arith, signed_arith, civil_nanos-parts clock, time_nanos_bound clock.time) in
    let nanos : time_nanos clock.time ≡ seconds % 86400 * 1000000000 =
    omega (arith, signed_arith, civil_nanos-parts clock, time_nanos_bound clock.time) in (
      days,
      omega (arith, clock.time.minute_in, clock.time.second_in, clock.time.subsec_in),
      omega (arith, clock.time.minute_in, clock.time.second_in, clock.time.subsec_in),
      omega (arith, clock.time.minute_in, clock.time.second_in, clock.time.subsec_in),
    )

-- and the other way
pub clock_seconds : (clock : DateTime) (seconds : ℕ) → epoch_day clock.date ≡ pos (seconds / 86400)
    → clock.time.hour ≡ seconds % 86400 / 3600 → clock.time.minute ≡ seconds % 3600 / 60
    → clock.time.second ≡ seconds % 60
    → clock.time.subsec_nanosecond ≡ 0 → civil_nanos clock ≡ pos (seconds * 1000000000)
clock_seconds clock seconds days hour minute second subsec =
    omega (arith, signed_arith, civil_nanos-parts clock)

-- a cast of a small number that isn't negative keeps it
pub cast_back : (w : Width) (z : ℤ) (n : ℕ) → z ≡ pos n → n < 2 ^ hbits w → unsigned_abs (to_z w (of_z w z)) ≡ n
cast_back w z n is small = rw (is, back_small w (pos n) small)

pub cast_fits : (z : ℤ) (n : ℕ) → z ≡ pos n → n < 10000 → T (non_neg (to_z w16 (of_z w16 z)))
    × Fits w16 (unsigned_abs (to_z w16 (of_z w16 z)))
cast_fits z n is small = rw (is, back_small w16 (pos n) (omega arith)) (tt, search rules)

-- the date of a moment is one of the calendar
pub moment_date : (seconds : ℕ) → seconds ≤ 253370764799
    → IsDate (pos (parts_of seconds).year) (pos (parts_of seconds).month) (pos (parts_of seconds).day)
moment_date seconds within =
    let day = day_behind_1970 (seconds / 86400) (omega arith) in
    (day.civil.0, omega (arith, signed_arith, day.civil.1), omega (arith, signed_arith, day.civil.2))

-- a clock that shows its parts shows that second
pub told_clock : (clock : DateTime) (seconds : ℕ) → seconds ≤ 253370764799
    → IsYmd (pos (parts_of seconds).year) (pos (parts_of seconds).month) (pos (parts_of seconds).day) clock.date
    → IsHms (pos (parts_of seconds).hour) (pos (parts_of seconds).minute) (pos (parts_of seconds).second)
    (pos 0) clock.time
    → civil_nanos clock ≡ pos (seconds * 1000000000)
told_clock clock seconds within date time =
    let days = seconds / 86400 in
    let day = day_behind_1970 days (omega arith) in
    let month : clock.date.month ≡ (parts_of seconds).month = omega (arith, signed_arith, date.1) in
    let same : clock.date.day ≡ (parts_of seconds).day = omega (arith, signed_arith, date.2) in
    let shown : epoch_day clock.date ≡ pos days =
    rw (date.0, month, same) (civil_epoch_day (date_from 8029 1970 days) days day) in
    clock_seconds clock seconds shown (omega (arith, signed_arith, time.0)) (omega (arith, signed_arith, time.1))
    (omega (arith, signed_arith, time.2)) (omega (arith, signed_arith, time.3))

-- the second of an instant
pub instant_second : (nanos second : ℤ) (seconds : ℕ) → nanos ≡ pos (seconds * 1000000000)
    → second ≡ int_div nanos (pos 1000000000) → second ≡ pos seconds
instant_second nanos second seconds is at =
    let whole : seconds * 1000000000 / 1000000000 ≡ seconds = omega arith in
    at ∙ ap (λ z. int_div z (pos 1000000000)) is ∙ ap (λ n. pos n) whole

-- no month has more than 31 days
pub small_day : (date : CalendarDate) → date.day ≤ 31
small_day date = omega (arith, date.day_in, days_in_month_bounds date.year date.month)

-- what is read of the parts of a moment is a date
pub date_of : (seconds : ℕ) → seconds ≤ 253370764799 → (parts : Parts) → parts ≡ parts_of seconds → (year month day : ℤ)
    → year ≡ pos parts.year → month ≡ pos parts.month → day ≡ pos parts.day → IsDate year month day
date_of seconds within parts is year month day of_year of_month of_day =
    rw (of_year, of_month, of_day, is) (moment_date seconds within)

-- a clock that is made of the parts of a moment, cast to signed numbers, shows that second
pub made_clock : (seconds : ℕ) → seconds ≤ 253370764799 → (parts : Parts) → parts ≡ parts_of seconds
    → (clock : DateTime) (date : CalendarDate) (time : ClockTime) → clock.date ≡ date → clock.time ≡ time
    → IsYmd (to_z w16 parts.year) (to_z w8 parts.month) (to_z w8 parts.day) date
    → IsHms (to_z w8 parts.hour) (to_z w8 parts.minute) (to_z w8 parts.second) (pos 0) time
    → civil_nanos clock ≡ pos (seconds * 1000000000)
made_clock seconds within parts is clock date time date_is time_is of_date of_time =
    let told = parts_of seconds in
    let small = parts_small seconds within in
    let dated = subst (λ (p : Parts). IsYmd (to_z w16 p.year) (to_z w8 p.month) (to_z w8 p.day) date) is of_date in
    let timed = subst (λ (p : Parts). IsHms (to_z w8 p.hour) (to_z w8 p.minute) (to_z w8 p.second) (pos 0) time)
    is of_time in
    let year = dated.0 ∙ to_z_pos w16 told.year (omega (arith, small.year)) in
    let month = dated.1 ∙ to_z_pos w8 told.month (omega (arith, small.month)) in
    let day = dated.2 ∙ to_z_pos w8 told.day (omega (arith, small.day)) in
    let hour = timed.0 ∙ to_z_pos w8 told.hour (omega (arith, small.hour)) in
    let minute = timed.1 ∙ to_z_pos w8 told.minute (omega (arith, small.minute)) in
    let second = timed.2 ∙ to_z_pos w8 told.second (omega (arith, small.second)) in
    told_clock clock seconds within
    (subst (λ (d : CalendarDate). IsYmd (pos told.year) (pos told.month) (pos told.day) d) (sym date_is)
    (year, month, day))
    (subst (λ (t : ClockTime). IsHms (pos told.hour) (pos told.minute) (pos told.second) (pos 0) t) (sym time_is)
    (hour, minute, second, timed.3))

-- an instant that isn't negative has no second below 0
pub not_below : (second : ℤ) (seconds : ℕ) → seconds ≤ 253370764799 → second ≡ pos seconds
    → lt_z (to_z w64 (of_z w64 second)) (pos 0) ≡ true → ⊥
not_below second seconds within is below =
    let back : to_z w64 (of_z w64 second) ≡ pos seconds = rw is (back_small w64 (pos seconds) (omega arith)) in
    omega (arith, signed_arith, rw back at below)

pub has_instant : (nanos : ℤ) (seconds : ℕ) → seconds ≤ 253370764799 → nanos ≡ pos (seconds * 1000000000)
    → IsTimestampNanos (nanos -ℤ nanos_of_seconds (pos 0))
has_instant nanos seconds within is = omega (arith, signed_arith)

pub at_no_offset : (nanos : ℤ) (seconds : ℕ) → nanos ≡ pos (seconds * 1000000000)
    → nanos -ℤ nanos_of_seconds (pos 0) ≡ pos (seconds * 1000000000)
at_no_offset nanos seconds is = omega (arith, signed_arith)
