-- The type that is meant, and the texts that are noted beside it.
use Rattle.filled_syntaxes.specs.BadDefaults.{BadBeside}
use Rattle.filled_syntaxes.specs.LinkedMeanings.{linked_arcs, linked_meaning}
use Rattle.linked_types.proofs.NotingSome.{all_noted}
use Rattle.linked_types.proofs.type_table.named_type.Goals as goal

pub returns-clause-told : goal.returns-clause-told
returns-clause-told c = λ ms linked known means. record {
  filled = c.in_ok-syntax.ensures.told ms linked (linked_meaning ms c.args.named.now) known means;
  called = c.in_ok-name.ensures ms linked known;
}

pub returns-clause-noted : goal.returns-clause-noted
returns-clause-noted c = λ ms linked known means.
    all_noted (BadBeside ms (linked_arcs linked) (linked_meaning ms c.args.named.now))
    (c.in_ok-syntax.ensures.noted ms linked (linked_meaning ms c.args.named.now) known means)
