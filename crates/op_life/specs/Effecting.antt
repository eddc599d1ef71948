-- What a creation does, at the moment that a text tells: X.711, section 7.4, m-Create.
use Rattle.std.specs.Prelude.{ℕ, List, [], ◌∷◌, Some}
use Rattle.term_model.specs.declared.effect.Effect.{Effect}
use Rattle.term_model.specs.declared.effect.What.TheVariants.{Created}
use Rattle.term_model.specs.declared.name.Rdn.{Rdn}
use Rattle.term_model.specs.declared.object.Object.{Object}
use Rattle.term_model.specs.declared.reply.Reply.TheVariants as reply
use Rattle.term_model.specs.declared.schema.Set.{Set}
use Rattle.term_model.specs.ObjectOperation.{get_one}

abbrev pub effect_at : Set → List Rdn → Object → List ℕ → Effect
effect_at schema name object time = record {
  changes = (name, Some object) ∷ [];
  reply = reply.Single (get_one schema name object time);
  sources = record { name = name; class = object.class; what = Created } ∷ [];
}
