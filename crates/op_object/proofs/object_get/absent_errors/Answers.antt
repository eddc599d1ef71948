-- One more identifier.
use Rattle.std.proofs.Common.{rules, ◌≡◌, ◌||◌, ◌+◌, ◌∷◌, drop, ap, ◌∙◌, arith}
use Rattle.std.proofs.lemmas.List.{drop_more}
use Rattle.term_model.specs.ObjectGet.{is_same_id}
use Rattle.op_object.specs.IdSets.{has_ref}
use Rattle.op_object.proofs.GetLaws.{absent_more}
use Rattle.op_object.proofs.object_get.absent_errors.Goals as goal

pub loop-id-preserved : goal.loop-id-preserved
loop-id-preserved c =
    let xs = c.args.asked.now in
    let i = c.loop-id.id-index in
    let (before, whole, seen) = c.loop-id.invariant in
    let id = c.id-item.result in
    let here : drop i xs ≡ id ∷ drop (i + 1) xs =
    drop_more xs i id (omega arith) ∙ ap (λ z. z ∷ drop (i + 1) xs) (search rules) in (
      id ∷ before,
      absent_more c.args.held.now c.args.used.now before id (drop i xs) (drop (i + 1) xs) c.loop-id.errors.items
          c.add_absent.new.errors.items _ (has_ref c.loop-id.seen.globals c.loop-id.seen.locals id) whole here (seen id)
          c.in_ok-add_absent.ensures.added,
      λ e. c.in_ok-add_absent.ensures.noted e ∙ ap (λ b. is_same_id id e || b) (seen e),
    )
