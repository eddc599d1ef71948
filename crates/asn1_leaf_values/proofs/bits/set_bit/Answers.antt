use Rattle.std.proofs.Common.{rules, ◌≡◌, length, ◌≤◌, ◌+◌, ◌<◌, ℕ, Bool, true, false, List, [], ◌∷◌, ◌++◌, ap, sym}
use Rattle.std.proofs.Common.{◌∙◌, arith}
use Rattle.asn1_leaf_values.specs.LeafTexts.{with_bit}
use Rattle.asn1_leaf_values.proofs.BitLaws.{with_bit_behind, with_bit_there}
use Rattle.asn1_leaf_values.proofs.bits.set_bit.Goals as goal

pub loop-bits-preserved : goal.loop-bits-preserved
loop-bits-preserved c =
    let pushed : c.push.new.self.items ≡ c.loop-bits.bits.items ++ false ∷ [] = search rules in
    ap (with_bit c.args.number) pushed
    ∙ with_bit_behind c.args.number c.loop-bits.bits.items (search rules) ∙ c.loop-bits.invariant

pub returns : goal.returns
returns c =
    sym (with_bit_there c.args.number c.loop-bits.bits.items (search rules)) ∙ c.loop-bits.invariant
