use Rattle.std.proofs.Common.{rules, ◌≡◌, sym, subst}
use Rattle.term_values.specs.Typed.TypedValue.{Octets, Pick}
use Rattle.value_match.specs.FirstEnd.{IsFirstEndOf}
use Rattle.value_match.proofs.PieceLaws.{first_of_octets}
use Rattle.value_match.proofs.substrings.end_of_octets.Goals as goal

pub returns-in-Octets : goal.returns-in-Octets
returns-in-Octets c =
    let is : c.args.value.now ≡ Pick c.in-Pick.kind (Octets c.as_slice.result.now) = search rules in
    subst (λ v. IsFirstEndOf Octets v c.args.octets.now c.args.from c.end_of_piece.result) (sym is)
    (first_of_octets c.in-Pick.kind c.as_slice.result.now c.args.octets.now c.args.from c.end_of_piece.result
    c.end_of_piece.ensures)
