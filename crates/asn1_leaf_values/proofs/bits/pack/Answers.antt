use Rattle.std.proofs.Common.{rules, ◌≡◌, length, ◌≤◌, ◌+◌, ◌<◌, ℕ, Bool, List, [], ◌∷◌, ◌++◌, take, drop, ap, sym, ◌∙◌}
use Rattle.std.proofs.Common.{arith, append_assoc}
use Rattle.asn1_leaf_values.specs.Bits.{weighed, packed}
use Rattle.asn1_leaf_values.proofs.BitLaws.{pack_step}
use Rattle.asn1_leaf_values.proofs.bits.pack.Goals as goal

pub octets-preserved : goal.octets-preserved
octets-preserved c =
    let bits = c.args.bits.now in
    record {
      within = omega (arith, c.octets.invariant.within);
      same = c.octets.invariant.same ∙ pack_step bits c.octets.items.items c.octets.at c.min-end.result c.weigh.result
          c.push.new.self.items (search rules) (search rules) (search rules) (search rules);
    }
