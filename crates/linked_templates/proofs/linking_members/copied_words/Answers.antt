-- One word more, and all of them.
use Rattle.std.proofs.Common.{◌<◌, ◌≤◌, ◌++◌, ◌∷◌, [], ◌∙◌, ap, arith, length, sym, take}
use Rattle.std.proofs.lemmas.List.{take_all}
use Rattle.gdmo_linking.proofs.StepLaws.{at_place, taken}
use Rattle.linked_templates.proofs.linking_members.copied_words.Goals as goal

pub loop-word-preserved : goal.loop-word-preserved
loop-word-preserved c =
    let xs = c.args.words.now in
    let i = c.loop-word.word-index in
    let x = c.word-item.result in
    let within : i < length xs = omega (arith, c.loop-word-test.true) in
    c.in_ok-push.ensures.items ∙ ap (λ ys. ys ++ c.in_ok-token.field-0 ∷ []) c.loop-word.invariant ∙
    ap (λ y. take i xs ++ y ∷ []) c.in_ok-token.ensures ∙ sym (taken xs i x (at_place xs i x within c.word-item.is))

pub returns : goal.returns
returns c =
    let past : length c.args.words.now ≤ c.loop-word.word-index = omega (arith, c.loop-word-test.false) in
    c.loop-word.invariant ∙ take_all c.loop-word.word-index c.args.words.now past
