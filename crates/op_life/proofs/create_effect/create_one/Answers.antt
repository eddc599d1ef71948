-- What is asked for is what the definition makes of the request.
use Rattle.std.proofs.Common.{◌∙◌, ap, subst}
use Rattle.std.specs.Prelude.{min, Result}
use Rattle.term_model.specs.declared.object.Object.{Object}
use Rattle.term_model.specs.declared.reply.CmisError.{CmisError}
use Rattle.term_model.specs.CreateEffect.{effect_of, name_in}
use Rattle.term_model.specs.Creating.{Asking, create_named}
use Rattle.term_model.specs.Effects.{TellsEffect}
use Rattle.op_life.proofs.create_effect.create_one.Goals as goal

pub returns : goal.returns
returns g c =
    subst
    (λ (came : Result Object CmisError).
    TellsEffect
    (effect_of c.args.set.now (name_in c.args.instance.now.named) (min c.args.time 253370764799) came)
    c.effect_of.result)
    (c.in_ok-came.ensures
    ∙ ap
    (λ (asking : Asking).
    create_named c.args.set.now (g.M.Ranged.objects c.args.mib.now) asking c.args.instance.now.named)
    c.in_ok-asking.ensures)
    c.effect_of.ensures
