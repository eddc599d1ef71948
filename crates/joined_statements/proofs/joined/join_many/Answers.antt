use Rattle.std.proofs.Common.{◌≡◌, ◌++◌, ◌∷◌, [], map, sym, ap, subst, ◌∙◌}
use Rattle.std.proofs.lemmas.List.{append_assoc, append-nil, map-append}
use Rattle.std.specs.List.Sorted.{IsStrictlySortedBy}
use Rattle.std.specs.Map.{keys_of}
use Rattle.std.specs.Map.Iter.{deref_pair}
use Rattle.std.specs.Ordering.{nat_cmp}
use Rattle.joined_statements.proofs.JoiningLaws.{AreJoinedBy, more_joined, none_before}
use Rattle.joined_statements.proofs.joined.join_many.Goals as goal

pub loop-attribute-preserved : goal.loop-attribute-preserved
loop-attribute-preserved c =
    let done = map deref_pair c.loop-attribute.yielded in
    let a = c.in-Some.attribute.now in
    let other = c.in-Some.other.now in
    let rest = c.next.new.self in
    let split = map-append deref_pair c.loop-attribute.yielded ((c.in-Some.attribute, c.in-Some.other) ∷ []) in
    let whole : done ++ (a, other) ∷ rest ≡ c.args.others.now.entries =
    ap (λ xs. done ++ xs) (sym c.in-Some.ensures.steps) ∙ c.loop-attribute.invariant.0 in
    let sorted : IsStrictlySortedBy nat_cmp (keys_of (done ++ (a, other) ∷ rest)) =
    subst (λ xs. IsStrictlySortedBy nat_cmp (keys_of xs)) (sym whole) c.iter-attribute-items.ensures.ordered in (
      ap (λ xs. xs ++ rest) split ∙ append_assoc done ((a, other) ∷ []) rest ∙ whole,
      subst (λ xs. AreJoinedBy c.args.values.now.items.now c.args.how c.args.attributes.now xs c.join_one.new.attributes)
          (sym split)
          (more_joined c.args.values.now.items.now c.args.how c.args.attributes.now c.loop-attribute.attributes
          c.join_one.new.attributes done a other c.loop-attribute.invariant.1 (none_before done rest a other sorted)
          c.in_ok-join_one.ensures),
    )

pub returns : goal.returns
returns c =
    let done = map deref_pair c.loop-attribute.yielded in
    let all : done ≡ c.args.others.now.entries =
    sym (append-nil done) ∙ ap (λ xs. done ++ xs) (sym c.in-None.ensures.steps.0) ∙ c.loop-attribute.invariant.0 in
    subst (λ xs. AreJoinedBy c.args.values.now.items.now c.args.how c.args.attributes.now xs c.loop-attribute.attributes)
    all c.loop-attribute.invariant.1
