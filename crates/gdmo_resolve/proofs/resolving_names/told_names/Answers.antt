-- What is noted of first names, and what is told of them.
use Rattle.std.proofs.Common.{subst, sym}
use Rattle.asn1_numbers.proofs.LeadingLaws.{if_ok_by}
use Rattle.gdmo_first_names.specs.DefinedNames.{AreDefiners}
use Rattle.gdmo_resolve.proofs.resolving_names.told_names.Goals as goal

pub returns : goal.returns
returns c = if_ok_by c.linked_first_names.result (λ names tells ps k assigned known begun.
    let definers = subst (AreDefiners ps) (sym c.as_slice-definers.ensures.value) assigned.are_definers in (
      tells ps k.has_modules definers known k.are_read.whole begun,
      c.in_ok-note_unequal.ensures ps k.has_modules definers known k.are_read.whole begun,
    )) c.linked_first_names.ensures
