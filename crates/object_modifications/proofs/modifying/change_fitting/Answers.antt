-- The members stay where the value then may be the attribute's, and else are as they were.
use Rattle.std.proofs.Common.{◌≡◌, ◌&&◌, arith, false, ap}
use Rattle.std.specs.Prelude.{nat_le}
use Rattle.term_values.specs.FitTest.{value_fits}
use Rattle.term_values.specs.Lengths.{counted}
use Rattle.fitting_members.specs.MemberLengths.{members_length}
use Rattle.term_model.specs.declared.object.Attribute.{Attribute}
use Rattle.term_model.specs.ClassAttributes.{is_permitted}
use Rattle.attribute_rules.specs.Weights.{is_within}
use Rattle.object_modifications.specs.declared.knowing.Knowledge.TheVariants.{Fits}
use Rattle.object_modifications.proofs.TryingLaws.{both_hold, first_fails, outcome_made, outcome_refused, second_fails}
use Rattle.object_modifications.proofs.modifying.change_fitting.Goals as goal
use Rattle.object_modifications.proofs.modifying.change_fitting.Goals.{else-came-via-else-came}
use Rattle.object_modifications.proofs.modifying.change_fitting.Goals.{else-came-via-then-came+else-is_short}

pub returns-then-is_short : goal.returns-then-is_short
returns-then-is_short c =
    let held = c.args.held.now in
    let syntax = c.args.syntax.now in
    let property = c.args.property.now in
    let value = c.change_members.new.value in
    let whole : c.args.octets ≡ counted (members_length syntax held.value) = omega (arith, c.requires.known.2) in
    outcome_made c.args.records.now c.args.seen.now c.args.total property syntax c.args.change.now held value
    c.length_by-before.result c.length_by-length.result c.in_ok-size.size c.in_ok-came.ensures.value
    (c.length_by-before.ensures whole) (c.length_by-length.ensures c.in_ok-came.ensures.octets) c.in_ok-size.ensures
    c.known_by.result
    (both_hold (value_fits syntax value && is_permitted property.permitted value)
    (nat_le c.length_by-length.result 8192 && is_within c.in_ok-size.size) c.in_ok-came.came.allowed c.is_short.result
    c.in_ok-came.ensures.allowed c.is_short.ensures c.if-came.true c.if-is_short.true)
    (c.known_by.ensures (members_length syntax value) c.in_ok-came.ensures.octets)

pub returns : goal.returns
returns c =
    let held = c.args.held.now in
    let syntax = c.args.syntax.now in
    let property = c.args.property.now in
    let value = c.change_members.new.value in
    let after : Attribute = record held { value = c.take_back.new.value } in
    let whole : c.args.octets ≡ counted (members_length syntax held.value) = omega (arith, c.requires.known.2) in
    let fails : (value_fits syntax value && is_permitted property.permitted value
    && (nat_le c.length_by-length.result 8192 && is_within c.in_ok-size.size)) ≡ false =
    elim c.else-came.branch [
      | else-came-via-then-came+else-is_short w ↦
          second_fails (value_fits syntax value && is_permitted property.permitted value)
          (nat_le c.length_by-length.result 8192 && is_within c.in_ok-size.size) w.is_short.result w.is_short.ensures
          w.if-is_short.false
      | else-came-via-else-came w ↦
          first_fails (value_fits syntax value && is_permitted property.permitted value)
          (nat_le c.length_by-length.result 8192 && is_within c.in_ok-size.size) c.in_ok-came.came.allowed
          c.in_ok-came.ensures.allowed w.if-came.false
    ] in
    outcome_refused c.args.records.now c.args.seen.now c.args.total property syntax c.args.change.now held value
    c.length_by-before.result c.length_by-length.result c.in_ok-size.size c.in_ok-came.ensures.value
    (c.length_by-before.ensures whole) (c.length_by-length.ensures c.in_ok-came.ensures.octets) c.in_ok-size.ensures
    (Fits c.args.octets) after fails
    (ap (λ v. record held { value = v }) (c.in_ok-take_back.ensures held.value c.in_ok-came.ensures.undo))
    c.requires.known
