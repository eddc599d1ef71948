-- Lists of unequal length are unequal.
use Rattle.std.proofs.Common.{rules, ◌≡◌, ◌≢◌, length, sym}
use Rattle.term_values.specs.PartsView.{parts_listed}
use Rattle.syntax_equality.proofs.PartLaws.{unequal_parts}
use Rattle.syntax_equality.proofs.equality.+equality.Goals as goal

pub are_same_parts-returns-then-items-held : goal.are_same_parts-returns-then-items-held
are_same_parts-returns-then-items-held t c =
    let parts : c.args.parts.now ≡ parts_listed c.as_slice-items.result.now = search rules in
    let other : c.args.other.now ≡ parts_listed c.as_slice-held.result.now = search rules in
    let unequal : length c.as_slice-items.result.now ≢ length c.as_slice-held.result.now = search rules in
    rw (parts, other) (sym (unequal_parts c.as_slice-items.result.now c.as_slice-held.result.now unequal))
