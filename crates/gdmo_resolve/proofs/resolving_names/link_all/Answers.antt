-- Everything is linked, or memory is wanted.
use Rattle.std.proofs.Common.{subst, sym}
use Rattle.linked_documents.specs.CompleteParts.{AreKnownSections}
use Rattle.label_laws.proofs.CompleteLaws.{are_complete, are_registered}
use Rattle.gdmo_resolve.proofs.ResolvingLaws.{fits, known_sections, same_modules}
use Rattle.gdmo_resolve.proofs.resolving_names.link_all.Goals as goal

pub returns-in-Ok : goal.returns-in-Ok
returns-in-Ok c = λ ps k faultless told names.
    let fitting = fits ps c.args.known k in (
      faultless,
      c.in-Ok.ensures ps k.is_linkage (same_modules ps c.args.known k)
          (are_complete ps fitting faultless k.are_read) (subst (λ xs. AreKnownSections ps
          c.args.known.linkage.now.templates.now xs c.args.known.targets.now) (sym c.as_slice-sections.ensures.value)
          (known_sections ps c.args.known k)) (record {
            are_registered = are_registered ps fitting faultless c.args.identifiers.now told;
            are_first_names = names;
          }),
    )
