-- A moment as GeneralizedTime in UTC, YYYYMMDDHHMMSSZ: X.680, section 46; the calendar is that of ISO 8601.
use Rattle.std.specs.Prelude.{ℕ, zero, suc, ◌+◌, ◌-◌, ◌/◌, ◌%◌, List, [], ◌∷◌, ◌++◌, nat_lt, if◌then◌else◌}
use Rattle.term_values.specs.Times.{is_leap_year, days_in}

abbrev pub days_of_year : ℕ → ℕ
days_of_year year = if is_leap_year year then 366 else 365

-- a date: year, month from 1, day from 1
pub record Date : Type 0 where
  pub year : ℕ
  pub month : ℕ
  pub day : ℕ

-- so many days behind the first of a month, with at most so many months to go
unfoldable pub date_in_year : ℕ → ℕ → ℕ → ℕ → Date
date_in_year zero year month days = record { year = year; month = month; day = days + 1 }
date_in_year (suc months) year month days =
    if nat_lt days (days_in year month) then record { year = year; month = month; day = days + 1 }
    else date_in_year months year (month + 1) (days - days_in year month)

-- so many days behind the first of January, with at most so many years to go
unfoldable pub date_from : ℕ → ℕ → ℕ → Date
date_from zero year days = date_in_year 11 year 1 days
date_from (suc years) year days =
    if nat_lt days (days_of_year year) then date_in_year 11 year 1 days
    else date_from years (year + 1) (days - days_of_year year)

-- the last so many decimal digits
abbrev pub digits_of : ℕ → ℕ → List ℕ
digits_of zero n = []
digits_of (suc count) n = digits_of count (n / 10) ++ (48 + n % 10) ∷ []

abbrev pub date_text : Date → List ℕ
date_text date = digits_of 4 date.year ++ digits_of 2 date.month ++ digits_of 2 date.day

-- so many seconds since 1970, up to the end of the year 9998; the last octet is Z
unfoldable pub moment_text : ℕ → List ℕ
moment_text seconds =
    date_text (date_from 8029 1970 (seconds / 86400))
    ++ digits_of 2 (seconds % 86400 / 3600) ++ digits_of 2 (seconds % 3600 / 60)
    ++ digits_of 2 (seconds % 60) ++ 90 ∷ []
