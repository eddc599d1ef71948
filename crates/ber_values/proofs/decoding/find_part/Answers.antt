use Rattle.std.proofs.Common.{rules, ◌≡◌, ◌<◌, true, false, not, get_or, length, [], ap, ◌∙◌, arith}
use Rattle.std.proofs.lemmas.List.{get_or_default}
use Rattle.ber_values.proofs.UnorderedLaws.{found_at, found_nowhere, is_free}
use Rattle.term_values.specs.Beginnings.{begins}
use Rattle.term_values.specs.Tree.TreeValue.{Primitive}
use Rattle.term_values.specs.TreeTags.{tag_of}
use Rattle.ber_values.proofs.decoding.find_part.Goals as goal

pub returns-then-begins-clause-found : goal.returns-then-begins-clause-found
returns-then-begins-clause-found c = λ d.
    let taken = c.args.taken.now in
    let rest = c.args.rest.now in
    let k = c.loop-k.k in
    let x = c.index-rest-k.result in
    let within : k < length rest = search rules in
    let marked : not (get_or taken k false) ≡ true = search rules in
    let free : get_or taken k true ≡ false = get_or_default taken k true false (search rules)
    ∙ is_free (get_or taken k false) marked in
    let item : get_or rest k d ≡ x = get_or_default rest k d x within ∙ (search rules) in
    let begun : begins c.args.part.now.syntax (tag_of x) ≡ true = search rules in
    found_at (begins c.args.part.now.syntax) taken rest k d (search rules) within free
    (ap (λ y. begins c.args.part.now.syntax (tag_of y)) item ∙ begun) (λ j p f. c.loop-k.invariant j d p f)

pub returns-clause-none : goal.returns-clause-none
returns-clause-none c =
    let d = Primitive (record { class = 0; number = 0 }) [] in
    found_nowhere (begins c.args.part.now.syntax) c.args.taken.now c.args.rest.now d (search rules)
    (λ j p f. c.loop-k.invariant j d (omega arith) f)
