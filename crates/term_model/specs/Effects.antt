-- What a call that acts on one object tells: exactly the effect or the error of the definition, or that there was no
-- memory, of which nothing is said.
use Rattle.std.specs.Prelude.{◌≡◌, Result, Ok, Err}
use Rattle.term_model.specs.declared.effect.Effect.{Effect}
use Rattle.term_model.specs.declared.effect.OneRefusal.{OneRefusal}
use Rattle.term_model.specs.declared.effect.OneRefusal.TheVariants.{Cmis, Memory}
use Rattle.term_model.specs.declared.reply.CmisError.{CmisError}

abbrev pub TellsEffect : Result Effect CmisError → Result Effect OneRefusal → Type 0
TellsEffect told (Ok effect) = told ≡ Ok effect
TellsEffect told (Err (Cmis error)) = told ≡ Err error
TellsEffect told (Err Memory) = Unit {0}
