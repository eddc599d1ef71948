-- With numbers for types.
use Rattle.std.proofs.Common.{◌∙◌, subst, sym}
use Rattle.asn1_numbers.proofs.TargetLaws.{ok_by}
use Rattle.type_numbers.specs.AskedTypes.{AreNumbers}
use Rattle.gdmo_resolve.proofs.resolving_types.note_texts.Goals as goal

pub returns : goal.returns
returns c = ok_by c.note_typed.result (λ noted ps k same. noted ps k
    (subst (λ ms. AreNumbers ms c.in_ok-numbers.numbers) k.is_linkage.are_modules
    (c.in_ok-numbers.ensures (same ∙ sym k.is_linkage.are_modules)))) c.note_typed.ensures
