-- What holds between moments and their texts: X.680, section 46.
use Rattle.std.specs.Prelude.{◌≡◌, ℕ, ◌≤◌, length}
use Rattle.term_values.specs.Moment.{moment_text}

-- every text has 15 octets
abbrev pub HasFifteenOctets : Type 0
HasFifteenOctets = (seconds : ℕ) → length (moment_text seconds) ≡ 15

-- up to the end of the year 9998 no two seconds have one text
abbrev pub TellsOneMoment : Type 0
TellsOneMoment =
    (first second : ℕ) → first ≤ 253370764799 → second ≤ 253370764799 → moment_text first ≡ moment_text second
    → first ≡ second
