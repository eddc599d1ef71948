-- The name, the filled syntax and the presence of a component.
use Rattle.std.proofs.Common.{sym}
use Rattle.std.proofs.Math.Path.{subst}
use Rattle.filled_syntaxes.specs.FilledSyntaxes.{IsPresence, texts_beside}
use Rattle.filled_syntaxes.specs.LinkedMeanings.{linked_arcs}
use Rattle.filled_syntaxes.proofs.filling.Filling.with_default.Goals as goal

pub returns-clause-told : goal.returns-clause-told
returns-clause-told c = λ ms linked meant f stands filled. record {
  named = c.in_ok-name.ensures;
  inner = filled;
  presence = subst (λ b. IsPresence (linked_arcs linked) (texts_beside ms meant c.args.path.now) c.args.syntax
      c.args.part.now.optional b c.in_ok-default.default) (sym c.still_optional-optional.ensures)
      (c.in_ok-default.ensures.told ms linked meant f c.args.part.now.syntax stands);
}

pub returns-clause-noted : goal.returns-clause-noted
returns-clause-noted c = λ ms linked meant f stands.
    c.in_ok-default.ensures.noted ms linked meant f c.args.part.now.syntax stands
