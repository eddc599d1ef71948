-- The record says what its part says.
use Rattle.std.proofs.Common.{ap, sym, Some, ◌∙◌}
use Rattle.std.proofs.Math.Path.{subst}
use Rattle.class_faults.specs.AttributeSyntaxes.{AttributeHas}
use Rattle.schema_records.proofs.TypeLaws.{no_cycle}
use Rattle.schema_records.proofs.member_records.attribute_record.Goals as goal

pub returns : goal.returns
returns c = λ ms known at is has.
    let linked = c.args.parts.now.linked.now in record {
      part = c.args.part.now;
      stands = at;
      registered = record {
        is_id = is ∙ ap Some (sym c.in_ok-copy.ensures);
        is_label = sym c.in_ok-text_of.ensures;
      };
      has = subst (AttributeHas ms linked c.args.place) (sym c.in_ok-copy-2.ensures) has;
      rules = c.attribute_rules.ensures ms c.args.part.now known at
          (no_cycle ms linked c.args.place c.args.syntax.now has);
    }
