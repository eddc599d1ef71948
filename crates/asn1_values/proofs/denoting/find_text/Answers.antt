use Rattle.std.proofs.Common.{rules, ◌≡◌, ◌<◌, true, false, not, get_or, length, [], ap, ◌∙◌, arith}
use Rattle.std.proofs.lemmas.List.{get_or_default}
use Rattle.ber_values.proofs.UnorderedLaws.{is_free}
use Rattle.asn1_values.proofs.UnorderedLaws.{found_at, found_nowhere}
use Rattle.asn1_leaf_values.specs.Literals.{same_name}
use Rattle.asn1_leaf_values.specs.TextValues.{said_name}
use Rattle.asn1_values.proofs.denoting.find_text.Goals as goal

pub returns-then-same_name-clause-found : goal.returns-then-same_name-clause-found
returns-then-same_name-clause-found c = λ d.
    let taken = c.args.taken.now in
    let texts = c.args.texts.now in
    let k = c.loop-k.k in
    let x = c.index-texts-k.result in
    let within : k < length texts = search rules in
    let marked : not (get_or taken k false) ≡ true = search rules in
    let free : get_or taken k true ≡ false = get_or_default taken k true false (search rules)
    ∙ is_free (get_or taken k false) marked in
    let item : get_or texts k d ≡ x = get_or_default texts k d x within ∙ (search rules) in
    let named : same_name c.args.name.now (said_name x) ≡ true = search rules in
    found_at c.args.name.now taken texts k d (search rules) within free
    (ap (λ y. same_name c.args.name.now (said_name y)) item ∙ named) (λ j p f. c.loop-k.invariant j d p f)

pub returns-clause-none : goal.returns-clause-none
returns-clause-none c =
    found_nowhere c.args.name.now c.args.taken.now c.args.texts.now (search rules)
    (λ j d p f. c.loop-k.invariant j d (omega arith) f)
