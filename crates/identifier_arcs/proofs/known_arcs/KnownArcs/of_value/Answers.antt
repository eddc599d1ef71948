-- The value is told among all.
use Rattle.std.proofs.Common.{◌∙◌, ap, sym, subst}
use Rattle.std.specs.List.{slice_get}
use Rattle.std.specs.Option.{option_and_then}
use Rattle.asn1_names.specs.FirstNames.{found}
use Rattle.gdmo_names.specs.PartTerms.{arcs_at}
use Rattle.identifier_arcs.specs.KnownArcs.{TellsSaid}
use Rattle.identifier_arcs.proofs.KnownLaws.{told_value}
use Rattle.identifier_arcs.proofs.known_arcs.KnownArcs.of_value.Goals as goal

pub returns : goal.returns
returns c = λ parts known whole x at.
    let own = c.args.self.now in
    subst (TellsSaid parts own.numbers.lists (arcs_at parts x.in_module x.place))
    (sym (c.told_at.ensures ∙ ap (λ xs. option_and_then (λ z. z) (slice_get xs c.args.number))
    c.as_slice.ensures.value))
    (told_value parts (found own.defined.now) known.chains known.are_defined whole known.are_chains own.numbers.lists
    own.numbers.told.items c.args.number x known.are_told at)
