-- No text stands at a component that may not be left out.
use Rattle.std.proofs.Common.{refl}
use Rattle.filled_syntaxes.specs.LinkedMeanings.{linked_arcs}
use Rattle.filled_syntaxes.proofs.WalkLaws.{no_presence, no_text, none_own}
use Rattle.filled_syntaxes.proofs.filling.Filling.own_default.Goals as goal

pub returns-else-optional-clause-told : goal.returns-else-optional-clause-told
returns-else-optional-clause-told c = λ ms linked meant f inner stands.
    no_presence ms (linked_arcs linked) meant c.args.path.now c.args.syntax.now c.args.optional _ refl
    (no_text ms meant c.args.path.now c.args.optional inner c.if-optional.false stands)

pub returns-else-optional-clause-noted : goal.returns-else-optional-clause-noted
returns-else-optional-clause-noted c = λ ms linked meant f inner stands.
    none_own ms (linked_arcs linked) meant c.args.path.now c.args.syntax.now c.args.bad.now.first
    (no_text ms meant c.args.path.now c.args.optional inner c.if-optional.false stands)
