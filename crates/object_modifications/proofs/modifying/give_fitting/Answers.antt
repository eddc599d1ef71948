-- The value is given where it and the object aren't too long.
use Rattle.std.proofs.Common.{rules, ◌≡◌, ◌&&◌, false, true, refl, sym}
use Rattle.std.specs.Prelude.{nat_le}
use Rattle.term_values.specs.FitTest.{value_fits}
use Rattle.term_values.specs.Lengths.{counted, octet_count}
use Rattle.term_values.specs.Written.{der}
use Rattle.fitting_members.specs.MemberLengths.{members_length}
use Rattle.term_model.specs.ClassAttributes.{is_permitted}
use Rattle.attribute_rules.specs.Weights.{is_within}
use Rattle.object_modifications.proofs.TryingLaws.{both_hold, outcome_made, outcome_refused, second_fails}
use Rattle.object_modifications.proofs.modifying.give_fitting.Goals as goal

pub returns-then-not-is_short : goal.returns-then-not-is_short
returns-then-not-is_short c = λ property change tells fits knows.
    let held = c.args.held.now in
    let syntax = c.args.syntax.now in
    let value = c.args.value in
    let long : c.length_by-length.result ≡ octet_count (der syntax value) =
    search (rules, c.length_by-length.ensures c.count_octets-octets.ensures) in
    let past : (nat_le c.length_by-length.result 8192 && is_within c.in_ok-size.size) ≡ false = search rules in
    outcome_refused c.args.records.now c.args.seen.now c.args.total property syntax change held value
    c.known_length-before.result c.length_by-length.result c.in_ok-size.size tells
    (c.known_length-before.ensures property.permitted knows) long c.in_ok-size.ensures c.args.told held
    (second_fails (value_fits syntax value && is_permitted property.permitted value)
    (nat_le c.length_by-length.result 8192 && is_within c.in_ok-size.size) false (sym past) refl) refl knows

pub returns : goal.returns
returns c = λ property change tells fits knows.
    let held = c.args.held.now in
    let syntax = c.args.syntax.now in
    let value = c.args.value in
    let octets : c.count_octets-octets.result ≡ counted (members_length syntax value) =
    search (rules, c.count_octets-octets.ensures) in
    let long : c.length_by-length.result ≡ octet_count (der syntax value) =
    search (rules, c.length_by-length.ensures c.count_octets-octets.ensures) in
    let short : (nat_le c.length_by-length.result 8192 && is_within c.in_ok-size.size) ≡ true = search rules in
    outcome_made c.args.records.now c.args.seen.now c.args.total property syntax change held value
    c.known_length-before.result c.length_by-length.result c.in_ok-size.size tells
    (c.known_length-before.ensures property.permitted knows) long c.in_ok-size.ensures c.known_by.result
    (both_hold (value_fits syntax value && is_permitted property.permitted value)
    (nat_le c.length_by-length.result 8192 && is_within c.in_ok-size.size) true true (sym fits) (sym short) refl refl)
    (c.known_by.ensures (members_length syntax value) octets)
