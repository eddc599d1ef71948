-- An entry more, and all of them.
use Rattle.std.proofs.Common.{◌≡◌, ◌++◌, ◌∷◌, [], map, sym, ap, subst, ◌∙◌}
use Rattle.std.proofs.lemmas.List.{append_assoc, append-nil, map-append}
use Rattle.std.specs.Map.Iter.{deref_pair}
use Rattle.joined_properties.proofs.KeptLaws.{AreEachKept, all_kept, one_more}
use Rattle.joined_properties.proofs.comparing.are_kept.Goals as goal

pub loop-attribute-preserved : goal.loop-attribute-preserved
loop-attribute-preserved c =
    let done = map deref_pair c.loop-attribute.yielded in
    let a = c.in-Some.attribute.now in
    let one = c.in-Some.joined.now in
    let rest = c.next.new.self in
    let split = map-append deref_pair c.loop-attribute.yielded ((c.in-Some.attribute, c.in-Some.joined) ∷ []) in
    let whole : done ++ (a, one) ∷ rest ≡ c.args.one.now.entries =
    ap (λ xs. done ++ xs) (sym c.in-Some.ensures.steps) ∙ c.loop-attribute.invariant.0 in (
      ap (λ xs. xs ++ rest) split ∙ append_assoc done ((a, one) ∷ []) rest ∙ whole,
      subst (AreEachKept c.args.values.now.items.now c.args.other.now) (sym split)
          (one_more c.args.values.now.items.now c.args.other.now done (a, one) c.loop-attribute.invariant.1
          (c.is_kept-kept.ensures c.if-not-kept.false)),
    )

pub returns : goal.returns
returns c = λ _.
    let done = map deref_pair c.loop-attribute.yielded in
    let all : done ≡ c.args.one.now.entries =
    sym (append-nil done) ∙ ap (λ xs. done ++ xs) (sym c.in-None.ensures.steps.0) ∙ c.loop-attribute.invariant.0 in
    all_kept c.args.values.now.items.now c.args.one.now c.args.other.now done all c.loop-attribute.invariant.1
