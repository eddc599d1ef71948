-- One object of the subtree after the other.
use Rattle.std.proofs.Common.{◌≡◌, ◌+◌, ◌∷◌, ◌∙◌, ap, arith, drop, sym}
use Rattle.std.proofs.lemmas.List.{drop_more}
use Rattle.scope_select.specs.Subtrees.{referred}
use Rattle.scope_select.proofs.SubtreeLaws.{begun_at, reached_further}
use Rattle.scope_select.proofs.entries.reached_among.Goals as goal

pub add_entry-requires-clause-begun : goal.add_entry-requires-clause-begun
add_entry-requires-clause-begun c =
    begun_at c.args.base.now c.args.entries.now c.loop-entry.entry-index c.entry-item.result c.entry-item.result
    (omega arith) c.entry-item.is c.requires.begun

pub loop-entry-preserved : goal.loop-entry-preserved
loop-entry-preserved c =
    let entries = c.args.entries.now in
    let i = c.loop-entry.entry-index in
    let x = c.entry-item.result in
    let next : drop i entries ≡ x ∷ drop (i + 1) entries =
    drop_more entries i x (omega arith) ∙ ap (λ z. z ∷ drop (i + 1) entries) (sym c.entry-item.is) in (
      reached_further c.args.base.now c.args.scope.now entries (referred c.loop-entry.reached.items)
          (referred c.add_entry.new.reached.items) i x next c.loop-entry.invariant.0 c.in_ok-add_entry.ensures.added,
      c.in_ok-add_entry.ensures.few,
    )
