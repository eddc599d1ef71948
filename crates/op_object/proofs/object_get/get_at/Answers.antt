-- A Get with a list.
use Rattle.std.proofs.Common.{rules, ◌≡◌, Some, subst}
use Rattle.term_model.specs.Effects.{TellsEffect}
use Rattle.term_model.specs.ObjectGet.{get_effect}
use Rattle.op_object.proofs.object_get.get_at.Goals as goal

pub returns-in-Some : goal.returns-in-Some
returns-in-Some c =
    let e : Some c.as_slice.result.now ≡ c.args.asked.now = search rules in
    subst
    (λ asked.
    TellsEffect
    (get_effect c.args.schema.now c.args.name.now c.args.object.now asked c.args.time.now) c.get_listed.result) e
    c.get_listed.ensures
