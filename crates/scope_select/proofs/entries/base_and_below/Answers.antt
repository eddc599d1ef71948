-- What the scope reaches stands in the subtree.
use Rattle.std.proofs.Common.{◌≡◌, ◌<◌, ◌≤◌, ◌∙◌, IfOk, OnOk, ap, length, subst, sym}
use Rattle.scope_select.specs.Subtrees.{AllBegun, entries_in_scope, referred}
use Rattle.scope_select.proofs.SubtreeLaws.{all_begun, subtree_reached}
use Rattle.scope_select.proofs.entries.base_and_below.Goals as goal

pub reached_among-requires : goal.reached_among-requires
reached_among-requires g c =
    let objects = g.M.Ranged.objects c.args.mib.now in
    record {
      begun = subst (AllBegun c.args.base.now)
          (sym (ap referred c.as_slice.ensures.value ∙ c.in_ok-entries.ensures.entries))
          (all_begun objects c.args.base.now);
    }

pub returns-clause-entries : goal.returns-clause-entries
returns-clause-entries g c =
    let objects = g.M.Ranged.objects c.args.mib.now in
    let there = ap referred c.as_slice.ensures.value ∙ c.in_ok-entries.ensures.entries in
    subst (λ all. IfOk c.reached_among.result (λ entries. referred entries.items ≡ all))
    (ap (λ es. entries_in_scope es c.args.base.now c.args.scope.now) there
    ∙ subtree_reached objects c.args.base.now c.args.scope.now) c.reached_among.ensures.entries

pub returns-clause-few : goal.returns-clause-few
returns-clause-few g c =
    let objects = g.M.Ranged.objects c.args.mib.now in
    let there = ap referred c.as_slice.ensures.value ∙ c.in_ok-entries.ensures.entries in
    subst (λ all. OnOk c.reached_among.result (length all ≤ c.args.limit))
    (ap (λ es. entries_in_scope es c.args.base.now c.args.scope.now) there
    ∙ subtree_reached objects c.args.base.now c.args.scope.now) c.reached_among.ensures.few

pub returns-clause-many : goal.returns-clause-many
returns-clause-many g c = λ many.
    let objects = g.M.Ranged.objects c.args.mib.now in
    let there = ap referred c.as_slice.ensures.value ∙ c.in_ok-entries.ensures.entries in
    subst (λ all. c.args.limit < length all)
    (ap (λ es. entries_in_scope es c.args.base.now c.args.scope.now) there
    ∙ subtree_reached objects c.args.base.now c.args.scope.now) (c.reached_among.ensures.many many)
