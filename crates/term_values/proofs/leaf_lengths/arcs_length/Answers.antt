use Rattle.std.proofs.Common.{rules, ◌≡◌, ◌+◌, ◌-◌, ◌∷◌, drop, get_or, length, flat_map, ◌∙◌, arith}
use Rattle.std.proofs.lemmas.List.{drop_more}
use Rattle.term_values.proofs.LengthCounts.{arc_counts}
use Rattle.term_values.specs.Lengths.{octet_count}
use Rattle.term_values.specs.Oid.{subidentifier}
use Rattle.term_values.proofs.leaf_lengths.arcs_length.Goals as goal

pub loop-i-preserved : goal.loop-i-preserved
loop-i-preserved c =
    let xs = c.args.arcs.now in
    let j = c.loop-i.i - 1 in
    let x = get_or xs j 0 in
    let up : j + 1 ≡ c.loop-i.i = omega arith in
    let first : drop j xs ≡ x ∷ drop (j + 1) xs = drop_more xs j 0 (omega arith) in
    let one : c.subidentifier_length.result ≡ length (subidentifier x) = search rules in
    let before : c.loop-i.total ≡ octet_count (flat_map subidentifier (drop (j + 1) xs)) = rw up c.loop-i.invariant in
    c.plus-total.ensures
    ∙ arc_counts xs j x c.subidentifier_length.result c.loop-i.total first one
    c.subidentifier_length.ensures.small before
