-- No two moments have one text.
use Rattle.std.proofs.Common.{◌≡◌, ℕ, ◌+◌, ◌-◌, ◌*◌, ◌/◌, ◌%◌, ◌<◌, ◌≤◌, List, get_or, sym, ap, ◌∙◌, arith, pos, Result}
use Rattle.std.proofs.Common.{Ok, Err, IfOk, OnErr}
use Rattle.jiff_core.specs.Calendar.{days_from_civil}
use Rattle.jiff_core.proofs.SignedLemmas.{signed_arith}
use Rattle.term_values.specs.Moment.{moment_text, date_from}
use Rattle.time_text.specs.MomentParts.{parts_of}
use Rattle.time_text.specs.declared.parts.Parts.{Parts}
use Rattle.time_text.specs.declared.reading.BadTime.{BadTime}
use Rattle.time_text.proofs.DateLaws.{day_behind_1970, civil_epoch_day}
use Rattle.time_text.proofs.MomentLaws.{IsSmall, parts_small, parts_text, text_is}

-- the number of two digits at a place
abbrev number_at : List ℕ → ℕ → ℕ
number_at text at = (get_or text at 0 - 48) * 10 + (get_or text (at + 1) 0 - 48)

two_read : (n : ℕ) → n < 100 → (48 + n / 10 % 10 - 48) * 10 + (48 + n % 10 - 48) ≡ n
two_read n small = omega arith

four_read : (n : ℕ) → n < 10000
    → ((48 + n / 10 / 10 / 10 % 10 - 48) * 10 + (48 + n / 10 / 10 % 10 - 48)) * 100
    + ((48 + n / 10 % 10 - 48) * 10 + (48 + n % 10 - 48)) ≡ n
four_read n small = omega arith

same_parts : (p q : Parts) → IsSmall p → IsSmall q → parts_text p ≡ parts_text q → p ≡ q
same_parts p q small other same =
    let year = sym (four_read p.year small.year) ∙ ap (λ text. number_at text 0 * 100 + number_at text 2) same
    ∙ four_read q.year other.year in
    let month = sym (two_read p.month small.month) ∙ ap (λ text. number_at text 4) same
    ∙ two_read q.month other.month in
    let day = sym (two_read p.day small.day) ∙ ap (λ text. number_at text 6) same ∙ two_read q.day other.day in
    let hour = sym (two_read p.hour small.hour) ∙ ap (λ text. number_at text 8) same ∙ two_read q.hour other.hour in
    let minute = sym (two_read p.minute small.minute) ∙ ap (λ text. number_at text 10) same
    ∙ two_read q.minute other.minute in
    let second = sym (two_read p.second small.second) ∙ ap (λ text. number_at text 12) same
    ∙ two_read q.second other.second in
    λ i. record { year = year i; month = month i; day = day i; hour = hour i; minute = minute i; second = second i }

-- the parts tell the day, and so the second
same_second : (first second : ℕ) → first ≤ 253370764799 → second ≤ 253370764799 → parts_of first ≡ parts_of second
    → first ≡ second
same_second first second within also same =
    let one = date_from 8029 1970 (first / 86400) in
    let other = date_from 8029 1970 (second / 86400) in
    let days = civil_epoch_day one (first / 86400) (day_behind_1970 (first / 86400) (omega arith)) in
    let others = civil_epoch_day other (second / 86400) (day_behind_1970 (second / 86400) (omega arith)) in
    let count = ap (λ (p : Parts). days_from_civil (pos p.year) p.month p.day) same in
    let day : first / 86400 ≡ second / 86400 = omega (arith, signed_arith, sym days ∙ count ∙ others) in
    let hour : first % 86400 / 3600 ≡ second % 86400 / 3600 = ap (λ (p : Parts). p.hour) same in
    let minute : first % 3600 / 60 ≡ second % 3600 / 60 = ap (λ (p : Parts). p.minute) same in
    let last : first % 60 ≡ second % 60 = ap (λ (p : Parts). p.second) same in
    omega (arith, day, hour, minute, last)

pub same_moment : (first second : ℕ) → first ≤ 253370764799 → second ≤ 253370764799
    → moment_text first ≡ moment_text second → first ≡ second
same_moment first second within also same =
    same_second first second within also
    (same_parts (parts_of first) (parts_of second) (parts_small first within) (parts_small second also)
    (sym (text_is first) ∙ same ∙ text_is second))

-- what is read of a moment's text, where a second is read only where it is written so, and no fault is told of such a
-- text
pub read_is : (read : Result ℕ BadTime) (seconds : ℕ) (text : List ℕ) → seconds ≤ 253370764799
    → text ≡ moment_text seconds
    → IfOk read (λ n. (n ≤ 253370764799) × (text ≡ moment_text n))
    → OnErr read ((n : ℕ) → n ≤ 253370764799 → text ≡ moment_text n → ⊥) → read ≡ Ok seconds
read_is (Ok n) seconds text within is told bad = ap (λ m. Ok m) (same_moment n seconds told.0 within (sym told.1 ∙ is))
read_is (Err e) seconds text within is told bad = absurd (bad seconds within is)
