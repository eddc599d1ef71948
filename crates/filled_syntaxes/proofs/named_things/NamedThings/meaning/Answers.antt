-- What a module assigns.
use Rattle.std.proofs.Common.{sym}
use Rattle.std.proofs.Math.Path.{subst}
use Rattle.asn1_names.specs.CodeMeanings.{Means}
use Rattle.filled_syntaxes.specs.LinkedMeanings.{linked_meaning}
use Rattle.filled_syntaxes.proofs.named_things.NamedThings.meaning.Goals as goal

pub returns-in-Assigned : goal.returns-in-Assigned
returns-in-Assigned c = λ ms linked known.
    subst (λ x. Means ms c.assigned.result (linked_meaning ms x)) (sym c.in-Assigned.is)
    (c.assigned.ensures ms linked known)
