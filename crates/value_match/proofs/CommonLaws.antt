-- A common member of two lists of members, looked for from the front of the first one.
use Rattle.std.proofs.Common.{◌≡◌, ℕ, List, [], ◌∷◌, drop, sym, subst}
use Rattle.term_values.specs.Typed.{TypedValue, TypedValues, listed}
use Rattle.term_values.specs.Matching.{Have, HaveCommon}
use Rattle.value_match.proofs.MemberLaws.{have_here, have_later, have_none}

-- one asserted member isn't held
pub common_later : (xs rest : List TypedValue) (x : TypedValue) (ys : TypedValues) → xs ≡ x ∷ rest → ¬ Have ys x
    → HaveCommon (listed xs) ys → HaveCommon (listed rest) ys
common_later xs rest x ys e never common =
    let member = common.0 in
    let other : ¬ (x ≡ member) = λ same. never (subst (λ z. Have ys z) (sym same) common.2) in
    (member, have_later xs rest x member e other common.1, common.2)

pub common_here : (i : ℕ) (xs rest : List TypedValue) (x : TypedValue) (ys : TypedValues) → drop i xs ≡ x ∷ rest
    → Have ys x → HaveCommon (listed xs) ys
common_here i xs rest x ys e h = (x, have_here i xs rest x e, h)

pub common_none : (xs : List TypedValue) (ys : TypedValues) → xs ≡ [] → ¬ HaveCommon (listed xs) ys
common_none xs ys e common = have_none xs common.0 e common.1
