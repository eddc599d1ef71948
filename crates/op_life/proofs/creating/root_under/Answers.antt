-- The system's own name by its last part and those before it.
use Rattle.std.proofs.Common.{rules, ◌≡◌, ◌++◌, ◌∷◌, [], subst}
use Rattle.std.specs.Prelude.{IfOk, Result}
use Rattle.term_model.specs.declared.object.Object.{Object}
use Rattle.term_model.specs.declared.reply.CmisError.{CmisError}
use Rattle.op_life.specs.AskingView.{asking_view}
use Rattle.op_life.proofs.PlacingLaws.{root_by}
use Rattle.op_life.proofs.creating.root_under.Goals as goal

pub returns-in-Some : goal.returns-in-Some
returns-in-Some c =
    let whole : c.args.schema.now.system ≡ c.in-Some.field-0-1.now ++ c.in-Some.part.now ∷ [] = search rules in
    subst (λ (told : Result Object CmisError). IfOk c.root_named.result (λ came. came ≡ told))
    (root_by c.args.schema.now (asking_view c.args.asking.now) c.args.class.now c.args.schema.now.system
    c.in-Some.field-0-1.now c.in-Some.part.now whole)
    c.root_named.ensures
