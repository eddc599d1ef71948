-- No class is bound where none has one of the two labels.
use Rattle.std.proofs.Common.{sym, ap, ◌∙◌}
use Rattle.std.specs.List.{list_any}
use Rattle.bound_classes.specs.KnownLabels.{is_known}
use Rattle.bound_classes.proofs.BehaviourLaws.{none_bound}
use Rattle.bound_classes.proofs.behaviour.has_bound_class.Goals as goal

pub returns-then-not-is_one_known : goal.returns-then-not-is_one_known
returns-then-not-is_one_known c =
    sym (none_bound c.args.schema.now (ap (list_any is_known) (sym c.as_slice.ensures)
    ∙ sym c.is_one_known.ensures ∙ c.if-not-is_one_known.true))
