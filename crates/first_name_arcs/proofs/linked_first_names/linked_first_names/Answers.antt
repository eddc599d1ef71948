-- One more definer, and all of them.
use Rattle.std.proofs.Common.{◌++◌, ◌∷◌, [], arith, get_or, subst, sym, take}
use Rattle.std.proofs.lemmas.List.{take_all, take_more}
use Rattle.first_name_arcs.specs.ToldNames.{TellNames}
use Rattle.first_name_arcs.proofs.ToldLaws.{all_told, names_more, no_names}
use Rattle.first_name_arcs.proofs.linked_first_names.linked_first_names.Goals as goal

pub loop-number-init : goal.loop-number-init
loop-number-init c = λ parts has known whole begun.
    subst (TellNames parts []) (sym c.new-names.ensures.items) (no_names parts)

pub loop-number-preserved : goal.loop-number-preserved
loop-number-preserved c = λ parts has known whole begun.
    let xs = c.args.definers.now in
    let i = c.loop-number.number-index in
    let n = get_or xs i 0 in
    subst (λ ys. TellNames parts ys c.push_some.new.names.items) (sym (take_more xs i 0 c.loop-number-test.true))
    (subst (TellNames parts (take i xs ++ n ∷ [])) (sym c.in_ok-push_some.ensures)
    (names_more parts (take i xs) n c.loop-number.names.items (c.loop-number.invariant parts has known whole begun)
    c.in_ok-name.name (c.in_ok-name.ensures parts has known whole begun)))

pub returns : goal.returns
returns c = λ parts has are known whole begun.
    all_told parts c.args.definers.now c.loop-number.names.items are
    (subst (λ xs. TellNames parts xs c.loop-number.names.items)
    (take_all c.loop-number.number-index c.args.definers.now (omega (arith, c.loop-number-test.false)))
    (c.loop-number.invariant parts has known whole begun))
