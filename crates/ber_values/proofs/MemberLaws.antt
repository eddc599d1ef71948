-- One member more stands beside its encoding, or alone.
use Rattle.std.proofs.Common.{◌≡◌, ℕ, List, [], ◌∷◌, ◌++◌, length, refl, ap, ◌∙◌, sym, arith}
use Rattle.ber_values.specs.MemberOrder.{beside, members_of}
use Rattle.ber_values.specs.declared.member_order.Member.{Member}
use Rattle.term_values.specs.Typed.{TypedValue, TypedValues, listed}
use Rattle.term_values.specs.Typed.TypedValues.{Nothing, Then}

pub none_of : {T : Type 0} (xs : List T) → length xs ≡ 0 → xs ≡ []
none_of [] e = refl
none_of (x ∷ xs) e = absurd (omega arith)

pub one_member_more : (encoding : TypedValue → List ℕ) (xs : List TypedValue) (x : TypedValue)
    → beside encoding (listed (xs ++ x ∷ [])) ≡ beside encoding (listed xs) ++ record {
      octets = encoding x;
      value =
          x;
    } ∷ []
one_member_more encoding [] x = refl
one_member_more encoding (y ∷ ys) x =
    ap (λ zs. record { octets = encoding y; value = y } ∷ zs) (one_member_more encoding ys x)

values_then : List TypedValue → TypedValues → TypedValues
values_then [] rest = rest
values_then (x ∷ xs) rest = Then x (values_then xs rest)

listed_then : (xs : List TypedValue) (x : TypedValue) → listed (xs ++ x ∷ []) ≡ values_then xs (Then x Nothing)
unfolding values_then
listed_then [] x = refl
listed_then (y ∷ ys) x = ap (Then y) (listed_then ys x)

alone_then : (ms : List Member) (m : Member) (xs : List TypedValue) → listed xs ≡ members_of ms
    → values_then xs (Then m.value Nothing) ≡ members_of (ms ++ m ∷ [])
unfolding values_then
alone_then [] m [] e = refl
alone_then [] m (x ∷ xs) e = absurd (cc)
alone_then (n ∷ ms) m [] e = absurd (cc)
alone_then (n ∷ ms) m (x ∷ xs) e =
    let first : x ≡ n.value = cc in
    let rest : listed xs ≡ members_of ms = cc in
    ap (λ y. Then y (values_then xs (Then m.value Nothing))) first ∙ ap (Then n.value) (alone_then ms m xs rest)

pub one_value_more : (xs : List TypedValue) (x : TypedValue) (ms : List Member) (m : Member) → listed xs ≡ members_of ms
    → listed (xs ++ m.value ∷ []) ≡ members_of (ms ++ m ∷ [])
one_value_more xs x ms m e = listed_then xs m.value ∙ alone_then ms m xs e
