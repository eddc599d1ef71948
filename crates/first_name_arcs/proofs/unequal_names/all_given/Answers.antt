-- One more definer, and all of them.
use Rattle.std.proofs.Common.{◌∙◌, [], arith, get_or, subst, sym}
use Rattle.std.proofs.lemmas.List.{take_all}
use Rattle.std.proofs.lemmas.Option.{same_Some, slice_get-get_or}
use Rattle.gdmo_names.specs.InStep.{AreEach}
use Rattle.gdmo_types.proofs.StepLaws.{each_step}
use Rattle.first_name_arcs.specs.UnequalNames.{TellsGiven}
use Rattle.first_name_arcs.proofs.unequal_names.all_given.Goals as goal

pub loop-number-init : goal.loop-number-init
loop-number-init c = λ parts has known whole begun are.
    subst (AreEach (TellsGiven parts c.args.known.now.numbers.lists) []) (sym c.new-given.ensures.items) tt

pub loop-number-preserved : goal.loop-number-preserved
loop-number-preserved c = λ parts has known whole begun are.
    let xs = c.args.definers.now in
    let i = c.loop-number.number-index in
    let at = slice_get-get_or xs i 0 c.loop-number-test.true in
    let one = are.right i (get_or xs i 0) at in
    each_step (TellsGiven parts c.args.known.now.numbers.lists) xs c.loop-number.given.items c.push.new.self.items i
    c.given_at.result c.loop-number-test.true
    (λ m there. subst (λ k. TellsGiven parts c.args.known.now.numbers.lists k c.given_at.result)
    (same_Some (get_or xs i 0) m (sym at ∙ there)) (c.given_at.ensures parts has known whole begun one.0 one.1))
    (c.loop-number.invariant parts has known whole begun are) c.in_ok-push.ensures.items

pub returns : goal.returns
returns c = λ parts has known whole begun are.
    subst (λ xs. AreEach (TellsGiven parts c.args.known.now.numbers.lists) xs c.loop-number.given.items)
    (take_all c.loop-number.number-index c.args.definers.now (omega (arith, c.loop-number-test.false)))
    (c.loop-number.invariant parts has known whole begun are)
