-- The date that `date_from` gives is one of the calendar, and has so many days before it.
use Rattle.std.proofs.Common.{◌≡◌, ℕ, zero, suc, ◌+◌, ◌-◌, ◌<◌, ◌≤◌, Bool, true, false, nat_lt, if◌then◌else◌, refl}
use Rattle.std.proofs.Common.{sym, ◌∙◌, subst, arith, pos}
use Rattle.std.proofs.lemmas.Bool.Decides.{nat_tests}
use Rattle.jiff_core.specs.declared.civil.date.Date.{Date as CalendarDate}
use Rattle.jiff_core.specs.Calendar.{day_count, days_in_month, days_in_year, days_from_civil, IsCivilDate, IsYear}
use Rattle.jiff_core.specs.Date.{epoch_day}
use Rattle.jiff_core.proofs.SignedLemmas.{signed_arith}
use Rattle.jiff_core.proofs.CalendarLemmas.{days_from_civil-day_count, day_count-day, day_count-next_month}
use Rattle.jiff_core.proofs.CalendarLemmas.{day_count-next_year, day_count-last_of_year, day_count-epoch, day_count-end}
use Rattle.jiff_core.proofs.DateLemmas.{epoch_day_injective}
use Rattle.term_values.specs.Moment.{Date, date_in_year, date_from, days_of_year}
use Rattle.term_values.specs.Times.{days_in}

-- a date of the calendar in a year, with so many days before it since the first day that is counted
pub record IsDay (year count : ℕ) (date : Date) : Type 0 where
  pub in_year : date.year ≡ year
  pub civil : IsCivilDate (pos year) date.month date.day
  pub counted : day_count (pos year) date.month date.day ≡ count

in_month : (year month days : ℕ) → IsYear (pos year) → 1 ≤ month → month ≤ 12 → days < days_in_month (pos year) month
    → IsDay year (day_count (pos year) month 1 + days) (record { year = year; month = month; day = days + 1 })
in_month year month days fits low high within = record {
  in_year = refl;
  civil = (fits, (low, high), (omega arith, omega arith));
  counted = omega (arith, day_count-day (pos year) month (days + 1) 1 (omega arith) (omega arith));
}

-- where the test tells whether the days lie in the month, and the other months are known
month_by_test : (test : Bool) (year month days count : ℕ) (later : Date) → nat_lt days (days_in year month) ≡ test
    → (days < days_in year month → IsDay year count (record { year = year; month = month; day = days + 1 }))
    → (days_in year month ≤ days → IsDay year count later)
    → IsDay year count (if test then record { year = year; month = month; day = days + 1 } else later)
month_by_test true year month days count later is here there = here (grind (arith, nat_tests))
month_by_test false year month days count later is here there = there (grind (arith, nat_tests))

-- the rest of a year, from the first of a month on
pub day_in_year : (months year month days : ℕ) → IsYear (pos year) → 1 ≤ month → month + months ≡ 12
    → days + day_count (pos year) month 1 < day_count (pos year) 1 1 + days_in_year (pos year)
    → IsDay year (day_count (pos year) month 1 + days) (date_in_year months year month days)
unfolding date_in_year
day_in_year zero year month days fits low last within =
    let december : month ≡ 12 = omega arith in
    in_month year month days fits low (omega arith)
    (rw december (omega (
      arith,
      rw december at within,
      day_count-last_of_year (pos year),
      day_count-day (pos year) 12 31 1 (omega arith) (omega arith),
    )))
day_in_year (suc months) year month days fits low last within =
    let next = day_count-next_month (pos year) month low in
    month_by_test _ year month days _ _ refl (λ here. in_month year month days fits low (omega arith) here)
    (λ past. subst (λ n. IsDay year n (date_in_year months year (month + 1) (days - days_in year month))) (omega arith)
    (day_in_year months year (month + 1) (days - days_in year month) fits (omega arith) (omega arith) (omega arith)))

-- a date of the calendar in one of some years, with so many days before it
pub record IsDayFrom (first last count : ℕ) (date : Date) : Type 0 where
  pub behind : first ≤ date.year
  pub before : date.year ≤ last
  pub civil : IsCivilDate (pos date.year) date.month date.day
  pub counted : day_count (pos date.year) date.month date.day ≡ count

of_year : (year last count : ℕ) (date : Date) → year ≤ last → IsDay year count date → IsDayFrom year last count date
of_year year last count date within day = record {
  behind = omega (arith, day.in_year);
  before = omega (arith, day.in_year);
  civil = rw day.in_year day.civil;
  counted = rw day.in_year day.counted;
}

year_by_test : (test : Bool) (year last days count : ℕ) (here later : Date) → nat_lt days (days_of_year year) ≡ test
    → (days < days_of_year year → IsDayFrom year last count here)
    → (days_of_year year ≤ days → IsDayFrom year last count later)
    → IsDayFrom year last count (if test then here else later)
year_by_test true year last days count one other is here there = here (grind (arith, nat_tests))
year_by_test false year last days count one other is here there = there (grind (arith, nat_tests))

weaker : (year last count : ℕ) (date : Date) → IsDayFrom (year + 1) last count date → IsDayFrom year last count date
weaker year last count date day =
    record { behind = omega (arith, day.behind); before = day.before; civil = day.civil; counted = day.counted }

-- the years from one on
pub day_from : (years year last days : ℕ) → year + years ≡ last → last ≤ 9999
    → days + day_count (pos year) 1 1 < day_count (pos last) 1 1 + days_in_year (pos last)
    → IsDayFrom year last (day_count (pos year) 1 1 + days) (date_from years year days)
unfolding date_from
day_from zero year last days sum fits within =
    let only : year ≡ last = omega arith in
    let here : days + day_count (pos year) 1 1 < day_count (pos year) 1 1 + days_in_year (pos year) =
    rw only (rw only at within) in
    of_year year last _ _ (omega arith)
    (day_in_year 11 year 1 days (omega (arith, signed_arith)) (omega arith) (omega arith) here)
day_from (suc years) year last days sum fits within =
    let next = day_count-next_year (pos year) (pos (year + 1)) (omega (arith, signed_arith))
    (omega (arith, signed_arith)) in
    year_by_test _ year last days _ _ _ refl
    (λ here. of_year year last _ _ (omega arith)
    (day_in_year 11 year 1 days (omega (arith, signed_arith)) (omega arith) (omega arith) (omega (arith, here))))
    (λ past. weaker year last _ _
    (subst (λ n. IsDayFrom (year + 1) last n (date_from years (year + 1) (days - days_of_year year)))
    (omega (arith, next, past))
    (day_from years (year + 1) last (days - days_of_year year) (omega arith) fits (omega (arith, next, past)))))

-- so many days behind the first of January 1970
pub day_behind_1970 : (days : ℕ) → days ≤ 2932531 → IsDayFrom 1970 9999 (4371953 + days) (date_from 8029 1970 days)
day_behind_1970 days within =
    let next = day_count-next_year (pos 9999) (pos 10000) (omega (arith, signed_arith)) (omega (arith, signed_arith)) in
    subst (λ n. IsDayFrom 1970 9999 (n + days) (date_from 8029 1970 days)) day_count-epoch
    (day_from 8029 1970 9999 days refl (omega arith) (omega (arith, next, day_count-end, day_count-epoch)))

-- its number of days behind 1970
pub civil_epoch_day : (date : Date) (days : ℕ) → IsDayFrom 1970 9999 (4371953 + days) date
    → days_from_civil (pos date.year) date.month date.day ≡ pos days
civil_epoch_day date days day =
    omega (arith, signed_arith, days_from_civil-day_count (pos date.year) date.month date.day, day.counted)

-- a date of the calendar with the same days before it is the same date
pub same_day : (calendar : CalendarDate) (days : ℕ) → days ≤ 2932531 → epoch_day calendar ≡ pos days
    → (calendar.year ≡ pos (date_from 8029 1970 days).year) × (calendar.month ≡ (date_from 8029 1970 days).month)
    × (calendar.day ≡ (date_from 8029 1970 days).day)
same_day calendar days within is =
    let day = day_behind_1970 days within in
    let date = date_from 8029 1970 days in
    let other : CalendarDate = record {
      year = pos date.year;
      month = date.month;
      day = date.day;
      year_in = day.civil.0;
      month_in = day.civil.1;
      day_in = day.civil.2;
    } in
    epoch_day_injective calendar other (is ∙ sym (civil_epoch_day date days day))
