-- The arcs are numbers of 32 bits.
use Rattle.std.proofs.Common.{ℕ, get_or, ap, sym, ◌∙◌, arith, rules, Fits, w32}
use Rattle.std.specs.List.{list_all}
use Rattle.term_values.specs.Oid.{is_arc}
use Rattle.term_values.proofs.OidLaws.{all_arcs}
use Rattle.asn1_leaf_values.proofs.arcs.ArcList.copy.Goals as goal

pub returns-clause-numbers : goal.returns-clause-numbers
returns-clause-numbers c =
    let fits : (k : ℕ) → Fits w32 (get_or c.as_slice-items.result.now k 0) = search rules in
    ap (list_all is_arc) (sym c.self.view_is ∙ sym c.as_slice-items.ensures.value)
    ∙ all_arcs c.as_slice-items.result.now (λ k. omega (arith, fits k))
