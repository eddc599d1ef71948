-- What links knows the templates, their places and those of the assignments.
use Rattle.std.proofs.Common.{ap, sym}
use Rattle.std.proofs.Math.Path.{subst}
use Rattle.gdmo_linking.specs.Linkers.{ArePlaces, ArePlacesOf}
use Rattle.gdmo_names.specs.FoundViews.{found_views}
use Rattle.gdmo_names.specs.PartTerms.{module_terms_of}
use Rattle.linked_documents.proofs.linking_parts.link_parts.Goals as goal

pub returns : goal.returns
returns c = λ parts is modules complete sections names.
    c.in_ok-linked.ensures parts (record {
      linkage = is;
      places = subst (ArePlaces (found_views c.args.linkage.now.templates.now)) (sym c.as_slice.ensures.value)
          c.in_ok-places.ensures;
      assignments = subst (ArePlacesOf (module_terms_of parts)) (sym c.as_slice-2.ensures.value)
          (subst (λ ms. ArePlacesOf ms c.in_ok-assignments.assignments.items) modules c.in_ok-assignments.ensures);
    }) complete sections names
