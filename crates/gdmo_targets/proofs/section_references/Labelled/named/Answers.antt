-- What the label means, and what is wrong with it.
use Rattle.std.proofs.Common.{refl}
use Rattle.gdmo_names.specs.TemplateTerms.ReferenceTerm.{ByLabel}
use Rattle.gdmo_targets.proofs.section_references.Labelled.named.Goals as goal

pub returns : goal.returns
returns c = λ parts is. (
  c.meant_template.ensures.means parts (ByLabel c.args.label.now) is.are is.tells refl,
  c.meant_template.ensures.faults parts (ByLabel c.args.label.now) is.are is.tells refl,
)
