-- The text of a GeneralizedTime: X.680, section 46. 10, 12 or 14 digits of a date and a time of day that exist, then
-- optionally `.` or `,` and 1 to 9 digits, then optionally `Z`, or a sign and 2 or 4 digits.
use Rattle.std.specs.Prelude.{ℕ, ◌+◌, ◌-◌, ◌*◌, ◌%◌, List, [], ◌∷◌, Bool, true, false, ◌==◌, ◌&&◌, ◌||◌, not, nat_lt}
use Rattle.std.specs.Prelude.{length, if◌then◌else◌}
use Rattle.term_values.specs.Bounded.{is_between, is_digit}

-- the digits in front
abbrev pub front_digits : List ℕ → List ℕ
front_digits [] = []
front_digits (c ∷ cs) = if is_digit c then c ∷ front_digits cs else []

-- what stands behind the digits in front
abbrev pub behind_digits : List ℕ → List ℕ
behind_digits [] = []
behind_digits (c ∷ cs) = if is_digit c then behind_digits cs else c ∷ cs

-- the number of two digits
abbrev pub two_digits : ℕ → ℕ → ℕ
two_digits a b = (a - 48) * 10 + (b - 48)

-- each fourth year, but of the years of centuries each fourth one alone
abbrev pub is_leap_year : ℕ → Bool
is_leap_year year = year % 4 == 0 && (not (year % 100 == 0) || year % 400 == 0)

abbrev pub days_in : ℕ → ℕ → ℕ
days_in year month =
    if month == 2 then (if is_leap_year year then 29 else 28)
    else (if month == 4 || month == 6 || month == 9 || month == 11 then 30 else 31)

abbrev pub is_date : ℕ → ℕ → ℕ → Bool
is_date year month day = is_between 1 12 month && is_between 1 (days_in year month) day

abbrev pub are_seconds : List ℕ → Bool
are_seconds [] = true
are_seconds (a ∷ (b ∷ [])) = nat_lt (two_digits a b) 60
are_seconds _ = false

abbrev pub are_minutes : List ℕ → Bool
are_minutes [] = true
are_minutes (a ∷ (b ∷ rest)) = nat_lt (two_digits a b) 60 && are_seconds rest
are_minutes _ = false

abbrev pub is_hour : List ℕ → Bool
is_hour (a ∷ (b ∷ rest)) = nat_lt (two_digits a b) 24 && are_minutes rest
is_hour _ = false

-- the digits are a date and a time of day: YYYYMMDDHH, with MM, or with MMSS
abbrev pub is_moment : List ℕ → Bool
is_moment (a ∷ (b ∷ (c ∷ (d ∷ (e ∷ (f ∷ (g ∷ (h ∷ rest)))))))) =
    is_date (two_digits a b * 100 + two_digits c d) (two_digits e f) (two_digits g h) && is_hour rest
is_moment _ = false

abbrev pub is_nothing : List ℕ → Bool
is_nothing [] = true
is_nothing (c ∷ cs) = false

-- nothing, `Z`, or `+` or `-` and 2 or 4 digits
abbrev pub is_zone : List ℕ → Bool
is_zone [] = true
is_zone (c ∷ cs) =
    c == 90 && is_nothing cs
    || (c == 43 || c == 45) && is_nothing (behind_digits cs) && (length cs == 2 || length cs == 4)

-- optionally `.` or `,` and 1 to 9 digits, then a zone
abbrev pub is_fraction : List ℕ → Bool
is_fraction [] = true
is_fraction (c ∷ cs) =
    if c == 46 || c == 44 then is_between 1 9 (length (front_digits cs)) && is_zone (behind_digits cs)
    else is_zone (c ∷ cs)

abbrev pub is_time : List ℕ → Bool
is_time text = is_moment (front_digits text) && is_fraction (behind_digits text)
