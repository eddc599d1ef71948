use Rattle.std.proofs.Common.{rules, ◌≡◌, ℕ, ◌+◌, ◌<◌, ◌≤◌, length, get_or, List, [], ◌∷◌, ◌++◌, drop, ap, sym, ◌∙◌}
use Rattle.std.proofs.Common.{arith}
use Rattle.std.proofs.lemmas.List.{drop_more}
use Rattle.std.specs.Prelude.{option_map}
use Rattle.asn1_leaf_values.specs.Literals.{undoubled}
use Rattle.asn1_leaf_values.proofs.StringLaws.{octet_read, double_read, two_more}
use Rattle.asn1_leaf_values.proofs.strings.undouble.Goals as goal

pub octets-preserved-then-octet-delimiter : goal.octets-preserved-then-octet-delimiter
octets-preserved-then-octet-delimiter c =
    let text = c.args.text.now in
    let at = c.octets.at in
    let x = get_or text at 0 in
    let pushed : c.push.new.self.items ≡ c.octets.items.items ++ x ∷ [] = search rules in
    record {
      within = omega (arith, c.octets-test.true);
      same = c.octets.invariant.same ∙ octet_read c.args.delimiter x c.octets.items.items (drop at text)
          (drop (at + 1) text) (drop_more text at 0 c.octets-test.true) c.if-octet-delimiter.true
          ∙ ap (λ ys. option_map (λ rest. ys ++ rest) (undoubled c.args.delimiter (drop (at + 1) text))) (sym pushed);
    }

pub octets-preserved : goal.octets-preserved
octets-preserved c =
    let text = c.args.text.now in
    let at = c.octets.at in
    let x = get_or text at 0 in
    let y = get_or text (at + 1) 0 in
    let pushed : c.push-else-octet-delimiter.new.self.items ≡ c.octets.items.items ++ x ∷ [] = search rules in
    let two : at + 1 < length text = omega (arith, c.octets-test.true, c.if-at-text.false) in
    record {
      within = omega arith;
      same = c.octets.invariant.same ∙ double_read c.args.delimiter x y c.octets.items.items (drop at text)
          (drop (at + 2) text) (two_more text at two) c.if-octet-delimiter.false c.if-text-at.false
          ∙ ap (λ ys. option_map (λ rest. ys ++ rest) (undoubled c.args.delimiter (drop (at + 2) text))) (sym pushed);
    }
