-- DecidingLaws: whether two syntaxes are one but for the values of their DEFAULTs is decided (X.680, section 25;
-- docs/PROFILE.md, section 12).
use Rattle.std.specs.Prelude.{◌≡◌, ◌≢◌, ◌==◌, ◌⊎◌, ℕ, false, true, refl}
use Rattle.std.proofs.Common.{ap, inl, inr}
use Rattle.std.proofs.lemmas.Bool.Decides.{eqb_tells}
use base.Stored.{Gv, gcons, gnil, gnum}
use Rattle.term_values.specs.SyntaxCode.{syntax_code}
use Rattle.term_values.specs.Syntaxes.{TypeSyntax}
use Rattle.term_model.specs.AlikeSyntaxes.{AreAlike, without_values}

-- ---- codes

number_or_not : {m n : ℕ} → (m ≡ n) ⊎ (¬ (m ≡ n)) → (gnum m ≡ gnum n) ⊎ (¬ (gnum m ≡ gnum n))
number_or_not (inl same) = inl (ap gnum same)
number_or_not (inr apart) = inr (λ e. apart (cc))

both_or_not : {a b c d : Gv} → (a ≡ c) ⊎ (¬ (a ≡ c)) → (b ≡ d) ⊎ (¬ (b ≡ d)) →
    (gcons a b ≡ gcons c d) ⊎ (¬ (gcons a b ≡ gcons c d))
both_or_not (inl same) (inl also) = inl (λ i. gcons (same i) (also i))
both_or_not (inl same) (inr apart) = inr (λ e. apart (cc))
both_or_not (inr apart) _ = inr (λ e. apart (cc))

code_or_not : (x y : Gv) → (x ≡ y) ⊎ (¬ (x ≡ y))
code_or_not gnil gnil = inl refl
code_or_not (gnum m) (gnum n) = number_or_not (by (eqb_tells m n))
  where
    by : ((m == n ≡ true) × (m ≡ n)) ⊎ ((m == n ≡ false) × (m ≢ n)) → (m ≡ n) ⊎ (¬ (m ≡ n))
    by (inl same) = inl same.1
    by (inr apart) = inr apart.1
code_or_not (gcons a b) (gcons c d) = both_or_not (code_or_not a c) (code_or_not b d)
code_or_not _ _ = inr (λ e. absurd (cc))

-- ---- syntaxes

pub alike_or_not : (one other : TypeSyntax) → AreAlike one other ⊎ (¬ AreAlike one other)
alike_or_not one other =
    by (code_or_not (syntax_code.code (without_values one)) (syntax_code.code (without_values other)))
  where
    by : (syntax_code.code (without_values one) ≡ syntax_code.code (without_values other))
        ⊎ (¬ (syntax_code.code (without_values one) ≡ syntax_code.code (without_values other))) →
        AreAlike one other ⊎ (¬ AreAlike one other)
    by (inl same) = inl (syntax_code.inj (without_values one) (without_values other) same)
    by (inr apart) = inr (λ alike. apart (ap syntax_code.code alike))

-- what is decided holds where it isn't refuted
pub unless_not : {A : Type 0} → A ⊎ (¬ A) → ¬ (¬ A) → A
unless_not (inl is) unless = is
unless_not (inr not_so) unless = absurd (unless not_so)

pub alike_unless : (one other : TypeSyntax) → ¬ (¬ AreAlike one other) → AreAlike one other
alike_unless one other = unless_not (alike_or_not one other)
