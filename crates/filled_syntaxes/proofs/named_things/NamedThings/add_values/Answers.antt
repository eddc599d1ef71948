-- One more assignment has been looked at, and in the end all of the module.
use Rattle.std.proofs.Common.{◌≡◌, ◌∙◌, ◌+◌, ◌++◌, ◌∷◌, ◌≤◌, ap, arith, drop, length, map, sym}
use Rattle.std.proofs.Math.Path.{subst}
use Rattle.std.proofs.lemmas.List.{drop_all, drop_more}
use Rattle.asn1_names.specs.AssignmentNumbers.{numbered_from}
use Rattle.asn1_names.specs.TermViews.{assignment_term}
use Rattle.filled_syntaxes.specs.JudgedAssignments.{AreJudged}
use Rattle.filled_syntaxes.proofs.JudgedLaws.{assignment_added}
use Rattle.filled_syntaxes.proofs.named_things.NamedThings.add_values.Goals as goal

pub loop-assignment-preserved : goal.loop-assignment-preserved
loop-assignment-preserved c = λ ms linked m behind before known home start.
    let xs = c.as_slice-own.result.now in
    let i = c.loop-assignment.assignment-index in
    let item = c.assignment-item.result in
    let split : drop i xs ≡ item ∷ drop (i + 1) xs =
    drop_more xs i item c.loop-assignment-test.true ∙ ap (λ z. z ∷ drop (i + 1) xs) (sym c.assignment-item.is) in
    let number = length c.as_slice-number.result.now in
    let counts : number ≡ length c.loop-assignment.values.items = ap length c.as_slice-number.ensures.value in
    subst (λ ys. AreJudged ms linked (numbered_from m (i + 1) (map assignment_term (drop (i + 1) xs)) ++ behind) ys before
    c.judge.new.bad.first) (sym c.in_ok-push.ensures.items)
    (assignment_added ms linked c.args.self.now c.args.text.now m i number (drop i xs) (drop (i + 1) xs) item behind
    c.loop-assignment.values.items c.in_ok-value.value known home split counts
    (c.loop-assignment.invariant ms linked m behind before known home start)
    (λ x j. c.in_ok-value.ensures.told ms linked x j)
    (λ x j is_of. c.in_ok-value.ensures.noted ms linked x j is_of))

pub returns : goal.returns
returns c = λ ms linked m behind before known home start.
    let xs = c.as_slice-own.result.now in
    let i = c.loop-assignment.assignment-index in
    let past : length xs ≤ i = omega (arith, c.loop-assignment-test.false) in
    subst (λ ys. AreJudged ms linked (numbered_from m i (map assignment_term ys) ++ behind)
    c.loop-assignment.values.items before c.loop-assignment.bad.first) (drop_all i xs past)
    (c.loop-assignment.invariant ms linked m behind before known home
    (subst (λ ys. AreJudged ms linked (numbered_from m 0 (map assignment_term ys) ++ behind) c.args.values.now.items
    before c.args.bad.now.first) (sym c.as_slice-own.ensures.value) start))
