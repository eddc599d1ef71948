-- The name by its last part and those before it.
use Rattle.std.proofs.Common.{rules, ◌≡◌, ◌++◌, ◌∷◌, [], subst}
use Rattle.std.specs.Prelude.{IfOk, Result}
use Rattle.term_model.specs.declared.object.Object.{Object}
use Rattle.term_model.specs.declared.reply.CmisError.{CmisError}
use Rattle.op_life.specs.AskingView.{asking_view}
use Rattle.op_life.proofs.PlacingLaws.{under_by}
use Rattle.op_life.proofs.creating.under_name.Goals as goal

pub returns-in-Some : goal.returns-in-Some
returns-in-Some g c =
    let whole : c.args.name.now ≡ c.in-Some.front.now ++ c.in-Some.part.now ∷ [] = search rules in
    subst (λ (told : Result Object CmisError). IfOk c.by_parts.result (λ came. came ≡ told))
    (under_by c.args.schema.now (g.M.Ranged.objects c.args.mib.now) (asking_view c.args.asking.now) c.args.class.now
    c.args.name.now c.in-Some.front.now c.in-Some.part.now whole)
    c.by_parts.ensures
