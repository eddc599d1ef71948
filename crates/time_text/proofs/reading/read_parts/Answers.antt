use Rattle.std.proofs.Common.{◌≡◌, ◌∙◌, ◌∷◌, [], ◌/◌, ◌%◌, ◌+◌, ◌*◌, List, ℕ, ap, arith, get_or}
use Rattle.time_text.specs.MomentParts.{parts_of}
use Rattle.time_text.proofs.MomentLaws.{pairs_text, pairs_are, parts_small}
use Rattle.time_text.proofs.reading.read_parts.Goals as goal

pub returns-clause-parts : goal.returns-clause-parts
returns-clause-parts c = λ seconds within is.
    let parts = parts_of seconds in
    let small = parts_small seconds within in
    let cells : c.args.text.now ≡ pairs_text parts = is ∙ pairs_are seconds in
    let pair = λ (at : ℕ). λ (text : List ℕ). get_or text at 0 ∷ get_or text (at + 1) 0 ∷ [] in
    let century = c.number_of-century.ensures.value (parts.year / 100) (omega (arith, small.year))
    (ap (pair 0) cells) in
    let of_century = c.number_of-of_century.ensures.value (parts.year % 100) (omega arith) (ap (pair 2) cells) in
    let year : c.number_of-century.result * 100 + c.number_of-of_century.result ≡ parts.year =
    omega (arith, century, of_century) in
    let month = c.number_of.ensures.value parts.month small.month (ap (pair 4) cells) in
    let day = c.number_of-2.ensures.value parts.day small.day (ap (pair 6) cells) in
    let hour = c.number_of-3.ensures.value parts.hour small.hour (ap (pair 8) cells) in
    let minute = c.number_of-4.ensures.value parts.minute small.minute (ap (pair 10) cells) in
    let second = c.number_of-5.ensures.value parts.second small.second (ap (pair 12) cells) in
    λ i. record { year = year i; month = month i; day = day i; hour = hour i; minute = minute i; second = second i }
