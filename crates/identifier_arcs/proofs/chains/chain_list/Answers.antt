-- The list with which the element begins, and its other numbers behind it.
use Rattle.std.proofs.Common.{◌++◌, subst, ℕ, List}
use Rattle.key_numbers.specs.NumberedLists.{IsList}
use Rattle.identifier_arcs.proofs.ChainLaws.{tells_list, tells_none}
use Rattle.identifier_arcs.proofs.chains.chain_list.Goals as goal

pub returns-in_ok-list_behind-in-Some-clause-is : goal.returns-in_ok-list_behind-in-Some-clause-is
returns-in_ok-list_behind-in-Some-clause-is c =
    let chain = c.args.chain.now in
    let made = c.in_ok-list_behind-in-Some in
    let more : (xs : List ℕ) → IsList c.begin_list.new.lists c.in-Some.begun xs →
    IsList c.list_behind.new.lists made.field-0 (xs ++ chain.others.items) =
    (λ xs is. subst (λ ys. IsList c.list_behind.new.lists made.field-0 (xs ++ ys)) c.as_slice.ensures.value
    (made.ensures.is xs is)) in
    λ chains b. tells_list c.args.lists.now c.begin_list.new.lists c.list_behind.new.lists chains c.args.told.now chain
    c.in_ok-begun.field-0 c.in-Some.begun made.field-0 c.begin_list.ensures.grows c.in_ok-begun.ensures.is c.in-Some.is
    more b

pub returns-in-None-clause-is : goal.returns-in-None-clause-is
returns-in-None-clause-is c = λ chains b. tells_none c.args.lists.now c.begin_list.new.lists chains c.args.told.now
    c.args.chain.now c.in_ok-begun.field-0 c.begin_list.ensures.grows c.in_ok-begun.ensures.is c.in-None.is b
