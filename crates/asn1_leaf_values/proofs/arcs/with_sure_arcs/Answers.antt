use Rattle.std.proofs.Common.{rules, ◌≡◌, ◌∷◌, [], ◌++◌, IfOk, map, option_map, ℕ, List, Option, Some, ap, sym, subst}
use Rattle.std.proofs.Common.{◌∙◌}
use Rattle.token_grammar.specs.declared.object_identifier.Arc.{Arc}
use Rattle.asn1_leaf_values.proofs.NumberLaws.{digits_then}
use Rattle.asn1_leaf_values.specs.Arcs.{arc_number, arc_numbers}
use Rattle.asn1_leaf_values.specs.TextValues.{arc_digits, arcs_digits}
use Rattle.asn1_leaf_values.proofs.arcs.with_sure_arcs.Goals as goal

pub returns-in-Some : goal.returns-in-Some
returns-in-Some c =
    let first = c.in-Named.first.number.text in
    let others = c.in-Named.others.items in
    let sure : arcs_digits c.args.sure.now ≡ first ∷ map arc_digits others = search rules in
    let one : option_map (λ n. c.args.arcs ++ n ∷ []) (arc_number first) ≡ Some c.in-Some.arcs = search rules in
    let lent : c.deref.result.now ≡ others = search rules in
    let whole : option_map (λ ns. c.args.arcs ++ ns) (arc_numbers (first ∷ map arc_digits others))
    ≡ option_map (λ ns. c.in-Some.arcs ++ ns) (arc_numbers (map arc_digits others)) =
    digits_then c.args.arcs c.in-Some.arcs first (map arc_digits others) one in
    subst (λ (ds : List (List ℕ)). IfOk c.with_arcs.result (λ found.
    option_map (λ ns. c.args.arcs ++ ns) (arc_numbers ds) ≡ found)) (sym sure)
    (subst (λ (o : Option (List ℕ)). IfOk c.with_arcs.result (λ found. o ≡ found)) (sym whole)
    (subst (λ (xs : List Arc). IfOk c.with_arcs.result (λ found.
    option_map (λ ns. c.in-Some.arcs ++ ns) (arc_numbers (map arc_digits xs)) ≡ found)) lent c.with_arcs.ensures))

pub returns-in-Some-3 : goal.returns-in-Some-3
returns-in-Some-3 c =
    let first = c.in-Number.first.text in
    let second = arc_digits c.in-Number.second in
    let others = c.in-Number.others.items in
    let sure : arcs_digits c.args.sure.now ≡ first ∷ second ∷ map arc_digits others = search rules in
    let one : option_map (λ n. c.args.arcs ++ n ∷ []) (arc_number first) ≡ Some c.in-Some-2.arcs = search rules in
    let two : option_map (λ n. c.in-Some-2.arcs ++ n ∷ []) (arc_number second) ≡ Some c.in-Some-3.arcs = search rules in
    let lent : c.deref-in-Some-3.result.now ≡ others = search rules in
    let whole : option_map (λ ns. c.args.arcs ++ ns) (arc_numbers (first ∷ second ∷ map arc_digits others))
    ≡ option_map (λ ns. c.in-Some-3.arcs ++ ns) (arc_numbers (map arc_digits others)) =
    digits_then c.args.arcs c.in-Some-2.arcs first (second ∷ map arc_digits others) one
    ∙ digits_then c.in-Some-2.arcs c.in-Some-3.arcs second (map arc_digits others) two in
    subst (λ (ds : List (List ℕ)). IfOk c.with_arcs-in-Some-3.result (λ found.
    option_map (λ ns. c.args.arcs ++ ns) (arc_numbers ds) ≡ found)) (sym sure)
    (subst (λ (o : Option (List ℕ)). IfOk c.with_arcs-in-Some-3.result (λ found. o ≡ found)) (sym whole)
    (subst (λ (xs : List Arc). IfOk c.with_arcs-in-Some-3.result (λ found.
    option_map (λ ns. c.in-Some-3.arcs ++ ns) (arc_numbers (map arc_digits xs)) ≡ found)) lent
    c.with_arcs-in-Some-3.ensures))
