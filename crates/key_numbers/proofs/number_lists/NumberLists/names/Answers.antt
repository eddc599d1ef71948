-- Names with their numbers, from the last one on.
use Rattle.std.proofs.Common.{◌∙◌, arith}
use Rattle.key_numbers.proofs.BuildingLaws.{names_more}
use Rattle.key_numbers.proofs.number_lists.NumberLists.names.Goals as goal

pub loop-i-preserved : goal.loop-i-preserved
loop-i-preserved c = (
  (λ k x h. c.with_name.ensures.grows k x (c.loop-i.invariant.0 k x h)),
  names_more c.with_name.new.self c.as_slice-items.result.now c.args.names.now c.loop-i.i _ c.in_ok-rest-2.rest
      c.index-items-place.result (c.as_slice-items.ensures.value ∙ c.names.view_is)
      (let within = c.loop-i-test.true in omega (arith, within)) c.index-items-place.is
      (c.in_ok-rest-2.ensures.is _ c.loop-i.invariant.1),
)
