use Rattle.std.proofs.Common.{rules, ◌≡◌, ◌+◌, ◌∷◌, [], ◌++◌, drop, take, length, sym, ap, ◌∙◌, subst, arith}
use Rattle.std.proofs.lemmas.List.{drop_more, take_more, take_all}
use Rattle.term_values.specs.Typed.{listed}
use Rattle.term_values.specs.Matching.{Have}
use Rattle.value_match.specs.FirstSizes.{first_size}
use Rattle.value_match.specs.MemberKeys.{member_key}
use Rattle.value_match.specs.RisingMembers.{AllBefore}
use Rattle.value_match.proofs.MemberLaws.{have_here}
use Rattle.value_match.proofs.OrderLaws.{before_is, all_before_last, passed_none, passed_all}
use Rattle.value_match.proofs.SameIs.{are_equal}
use Rattle.value_match.proofs.SizeLaws.{front_of, front_past}
use Rattle.value_match.proofs.sets.reach.Goals as goal

pub returns-then-is_same : goal.returns-then-is_same
returns-then-is_same c =
    let xs = c.args.held.now in
    let i = c.loop-at.at in
    let x = c.index-held-at-in-Alike.result in
    let front : drop i xs ≡ x ∷ drop (i + 1) xs = drop_more xs i x (omega arith)
    ∙ ap (λ z. z ∷ drop (i + 1) xs) (search rules) in
    record {
      known = subst (λ z. Have (listed xs) z) (are_equal x c.args.value.now (sym c.is_same.ensures ∙ c.if-is_same.true))
          (have_here i xs (drop (i + 1) xs) x front);
      measured = tt;
    }

pub returns-in-After : goal.returns-in-After
returns-in-After c =
    let xs = c.args.held.now in
    let i = c.loop-at.at in
    let x = c.index-held-at.result in
    let v = c.args.value.now in
    let key = member_key c.args.syntax.now in
    let front : drop i xs ≡ x ∷ drop (i + 1) xs = drop_more xs i x (omega arith)
    ∙ ap (λ z. z ∷ drop (i + 1) xs) (search rules) in
    let here : c.loop-at.held_size ≡ first_size c.args.syntax.now x = c.loop-at.invariant.measured
    ∙ front_of c.args.syntax.now i xs x front in
    record {
      known = (
        passed_none key i xs (drop (i + 1) xs) x v c.requires.rising c.loop-at.invariant.front front
            (before_is (key v) (key x) (c.in-After.ensures here c.first_size-size.ensures)),
        c.loop-at.invariant.front,
        c.loop-at.invariant.within,
      );
      measured = c.loop-at.invariant.measured;
    }

pub loop-at-preserved : goal.loop-at-preserved
loop-at-preserved c =
    let xs = c.args.held.now in
    let i = c.loop-at.at in
    let x = c.index-held-at.result in
    let v = c.args.value.now in
    let key = member_key c.args.syntax.now in
    let more : take (i + 1) xs ≡ take i xs ++ (x ∷ []) = take_more xs i x (omega arith)
    ∙ ap (λ z. take i xs ++ (z ∷ [])) (search rules) in
    let front : drop i xs ≡ x ∷ drop (i + 1) xs = drop_more xs i x (omega arith)
    ∙ ap (λ z. z ∷ drop (i + 1) xs) (search rules) in
    let here : c.loop-at.held_size ≡ first_size c.args.syntax.now x = c.loop-at.invariant.measured
    ∙ front_of c.args.syntax.now i xs x front in
    record {
      front = subst (λ zs. AllBefore key zs (key v)) (sym more) (all_before_last key (take i xs) x (key v)
          c.loop-at.invariant.front (before_is (key x) (key v) (c.in-Before.ensures here c.first_size-size.ensures)));
      within = omega arith;
      measured = c.size_from-held_size.ensures;
    }

pub returns : goal.returns
returns c =
    let xs = c.args.held.now in
    let i = c.loop-at.at in
    let v = c.args.value.now in
    let key = member_key c.args.syntax.now in
    let all : AllBefore key xs (key v) = subst (λ zs. AllBefore key zs (key v)) (take_all i xs (omega arith))
    c.loop-at.invariant.front in
    record {
      known = (
        passed_all key xs v all,
        subst (λ zs. AllBefore key zs (key v)) (sym (take_all (length xs) xs (omega arith))) all,
        omega arith,
      );
      measured = c.loop-at.invariant.measured ∙ front_past c.args.syntax.now i xs (omega arith)
          ∙ sym (front_past c.args.syntax.now (length xs) xs (omega arith));
    }
