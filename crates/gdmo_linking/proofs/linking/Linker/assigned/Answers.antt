-- The places of an assignment.
use Rattle.std.proofs.Common.{◌∙◌, ap}
use Rattle.std.proofs.lemmas.Option.{get_or_from_slice_get}
use Rattle.linked_parts.specs.declared.linked.NamedMeaning.TheVariants.{Assigned}
use Rattle.gdmo_names.specs.PartTerms.{module_terms_of}
use Rattle.gdmo_linking.specs.Linkers.{place_of}
use Rattle.gdmo_linking.proofs.NameLaws.{assigned_at}
use Rattle.gdmo_linking.proofs.linking.Linker.assigned.Goals as goal

pub returns : goal.returns
returns c = λ parts numbered is at.
    ap (λ p. Assigned p.0 p.1) (c.pair_at-pair.ensures ∙
    get_or_from_slice_get c.args.self.now.assignments.now c.args.number (place_of numbered) (0, 0)
    (assigned_at (module_terms_of parts) c.args.self.now.assignments.now c.args.number numbered is.assignments at))
