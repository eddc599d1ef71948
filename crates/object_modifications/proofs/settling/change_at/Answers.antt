-- The value at the place is the one of which something is known.
use Rattle.std.proofs.Common.{subst, sym}
use Rattle.term_model.specs.declared.object.Attribute.{Attribute}
use Rattle.object_modifications.specs.Knowing.{Knows}
use Rattle.object_modifications.proofs.settling.change_at.Goals as goal

pub change_value-requires : goal.change_value-requires
change_value-requires c = record {
  known =
      subst
      (λ (x : Attribute). Knows c.args.syntax.now c.args.property.now.permitted x.value c.args.told)
      (sym c.index_mut.ensures.value) (c.requires.known c.index_mut.result.now);
}
