-- Examples of GeneralizedTime: X.680, section 46, and its edges.
use Rattle.std.specs.Prelude.{◌≡◌, true, false, refl, codes}
use Rattle.term_values.specs.Moment.{moment_text, date_from, date_in_year}
use Rattle.term_values.specs.Times.{is_time, is_leap_year, days_in}

-- X.680, section 46.4: local time, UTC, and local time with its difference from UTC
local : is_time (codes "19851106210627.3") ≡ true
local = refl

utc : is_time (codes "19851106210627.3Z") ≡ true
utc = refl

difference : is_time (codes "19851106210627.3-0500") ≡ true
difference = refl

-- hours alone, with a comma, and a difference in hours
hours : is_time (codes "1985110621,123456789+05") ≡ true
hours = refl

minutes : is_time (codes "198511062106Z") ≡ true
minutes = refl

-- 2000 and 2024 are leap years, 1900 and 2023 are not
leap_day : is_time (codes "20000229000000Z") ≡ true
leap_day = refl

no_leap_day : is_time (codes "19000229000000Z") ≡ false
no_leap_day = refl

leap_year : is_leap_year 2024 ≡ true
leap_year = refl

usual_year : days_in 2023 2 ≡ 28
usual_year = refl

-- the last second of a day, and one past it
last_second : is_time (codes "99991231235959Z") ≡ true
last_second = refl

leap_second : is_time (codes "20161231235960Z") ≡ false
leap_second = refl

midnight : is_time (codes "2016123124Z") ≡ false
midnight = refl

no_month : is_time (codes "2016003100Z") ≡ false
no_month = refl

no_april_31 : is_time (codes "2016043100Z") ≡ false
no_april_31 = refl

-- an odd number of digits, too many, a point without digits, ten digits behind it, and something behind the end
odd : is_time (codes "201612310") ≡ false
odd = refl

long : is_time (codes "2016123100000000") ≡ false
long = refl

point : is_time (codes "2016123100.Z") ≡ false
point = refl

ten : is_time (codes "2016123100.1234567890") ≡ false
ten = refl

behind : is_time (codes "2016123100ZZ") ≡ false
behind = refl

three : is_time (codes "2016123100+123") ≡ false
three = refl

empty : is_time (codes "") ≡ false
empty = refl

-- the first second of 1970
first_moment : moment_text 0 ≡ codes "19700101000000Z"
unfolding moment_text date_from date_in_year
first_moment = refl

-- a leap day, the one of a year of a fourth century, and none in 2100
leap_day_of_1972 : moment_text 68169600 ≡ codes "19720229000000Z"
unfolding moment_text date_from date_in_year
leap_day_of_1972 = refl

leap_day_of_2000 : moment_text 951827696 ≡ codes "20000229123456Z"
unfolding moment_text date_from date_in_year
leap_day_of_2000 = refl

day_behind_february_2100 : moment_text 4107542400 ≡ codes "21000301000000Z"
unfolding moment_text date_from date_in_year
day_behind_february_2100 = refl

-- the last second that the text can tell
end_of_9998 : moment_text 253370764799 ≡ codes "99981231235959Z"
unfolding moment_text date_from date_in_year
end_of_9998 = refl
