use Rattle.std.proofs.Common.{rules, ◌≡◌, true, false, not, get_or, refl, sym, ap, ◌∙◌, arith}
use Rattle.std.proofs.lemmas.List.{get_or_default}
use Rattle.ber_values.proofs.UnorderedLaws.{is_free}
use Rattle.asn1_values.proofs.UnorderedLaws.{one_free, none_free}
use Rattle.asn1_values.specs.Steps.{left_of, no_texts}
use Rattle.asn1_values.proofs.denoting.some_left.Goals as goal

pub returns-then-not-taken-k : goal.returns-then-not-taken-k
returns-then-not-taken-k c =
    let taken = c.args.taken.now in
    let k = c.loop-k.k in
    let marked : not (get_or taken k false) ≡ true = search rules in
    let free : get_or taken k true ≡ false = get_or_default taken k true false (search rules)
    ∙ is_free (get_or taken k false) marked in
    let some : no_texts (left_of taken c.args.texts.now) ≡ false =
    one_free taken c.args.texts.now k (search rules) (search rules) free in
    sym (ap not some)

pub returns : goal.returns
returns c =
    let all : no_texts (left_of c.args.taken.now c.args.texts.now) ≡ true =
    none_free c.args.taken.now c.args.texts.now (search rules) (λ j p. c.loop-k.invariant j (omega arith)) in
    sym (ap not all)
