-- With the texts of types.
use Rattle.std.proofs.Common.{◌∙◌, ap}
use Rattle.asn1_numbers.proofs.TargetLaws.{ok_by}
use Rattle.asn1_names.specs.TermViews.{module_terms}
use Rattle.gdmo_resolve.proofs.ResolvingLaws.{same_modules}
use Rattle.gdmo_resolve.proofs.resolving_types.note_types.Goals as goal

pub returns : goal.returns
returns c = ok_by c.note_texts.result (λ noted ps k. noted ps k
    (ap module_terms c.in_ok-texts.ensures ∙ same_modules ps c.args.known k)) c.note_texts.ensures
