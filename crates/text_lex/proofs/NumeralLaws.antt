-- Digits that spell a number.
use Rattle.std.proofs.Common.{◌≡◌, ℕ, ◌+◌, ◌*◌, ◌<◌, ◌≤◌, List, length, get_or, take, arith}
use Rattle.std.proofs.lemmas.Bool.Decides.{nat_tests}
use Rattle.std.proofs.lemmas.Int.Digits.{digits_value_more}
use Rattle.std.proofs.lemmas.Str.Parse.{digits_value-take-le}
use Rattle.std.specs.Char.{digit_value}
use Rattle.std.specs.Str.Parse.{digits_value}

-- digits at the front spell no more than all
pub digits_front : (ds : List ℕ) (i : ℕ) → i < length ds
    → digits_value 10 (take i ds) * 10 + digit_value (get_or ds i 0) ≤ digits_value 10 ds
digits_front ds i lt = let more = digits_value_more 10 ds i lt in let front =
    digits_value-take-le 10 ds (i + 1) (omega arith) in omega arith

pub digit_is : (c : ℕ) → 48 ≤ c → c ≤ 57 → digit_value c + 48 ≡ c
digit_is c low high = grind (arith, nat_tests)
