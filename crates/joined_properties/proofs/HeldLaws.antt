-- HeldLaws: which numbers are covered by what is held, and what is told truly of those that hold (X.722, section 8.4).
use Rattle.std.proofs.Common.{◌≡◌, ℕ, Option, Some, None, Bool, true, false, refl, sym, subst, ⊎_elim, inl, inr}
use Rattle.std.proofs.Common.{eq-eqb}
use Rattle.std.specs.Prelude.{◌⊎◌, ◌==◌, if◌then◌else◌}
use Rattle.std.proofs.lemmas.Bool.{eqb-true, false≢true}
use Rattle.term_values.specs.SameValue.{same_value}
use Rattle.term_values.specs.Typed.{TypedValue}
use Rattle.typed_laws.proofs.SameIs.{same_is}
use Rattle.joined_statements.specs.HeldValues.{are_equal, are_same, both, handed_on, hiding, value_at}
use Rattle.joined_statements.specs.JoinedStatements.{Values, join_held}
use Rattle.joined_statements.specs.declared.held.Held.{Held}
use Rattle.joined_statements.specs.declared.held.Held.TheVariants.{Nothing, NoValue, One, Unequal}
use Rattle.joined_statements.specs.declared.joined.Joining.{Joining}
use Rattle.joined_statements.specs.declared.joined.Joining.TheVariants.{Beside, Inherited, Own}
use Rattle.joined_properties.specs.NumberSummaries.{HoldUnequal, IsSummary}
use Rattle.joined_properties.specs.SameTables.{are_alike}
use Rattle.joined_properties.proofs.FactLaws.{either, or_first, or_second}

-- ---- equal values

equal_back : (x y : Option TypedValue) → are_equal x y ≡ true → are_equal y x ≡ true
equal_back (Some v) (Some w) e =
    let p = same_is v w e in
    subst (λ u. same_value w u ≡ true) (sym p) (subst (λ u. same_value u w ≡ true) p e)
equal_back _ _ e = absurd (false≢true e)

equal_on : (x y z : Option TypedValue) → are_equal x y ≡ true → are_equal y z ≡ true → are_equal x z ≡ true
equal_on (Some v) (Some w) (Some u) e f = subst (λ t. same_value t u ≡ true) (sym (same_is v w e)) f
equal_on (Some v) (Some w) None e f = absurd (false≢true f)
equal_on (Some v) None z e f = absurd (false≢true e)
equal_on None (Some w) z e f = absurd (false≢true e)
equal_on None None z e f = absurd (false≢true e)

same_cases : (values : Values) (n m : ℕ) → are_same values n m ≡ true →
    (n ≡ m) ⊎ (are_equal (value_at values n) (value_at values m) ≡ true)
same_cases values n m e =
    ⊎_elim (λ (p : (n == m) ≡ true). inl (eqb-true n m p))
    (λ (p : are_equal (value_at values n) (value_at values m) ≡ true). inr p)
    (either (n == m) (are_equal (value_at values n) (value_at values m)) e)

pub same_itself : (values : Values) (n : ℕ) → are_same values n n ≡ true
same_itself values n = or_first (n == n) (are_equal (value_at values n) (value_at values n)) (eq-eqb n n refl)

pub same_back : (values : Values) (n m : ℕ) → are_same values n m ≡ true → are_same values m n ≡ true
same_back values n m e =
    ⊎_elim (λ (p : n ≡ m). subst (λ x. are_same values x n ≡ true) p (same_itself values n))
    (λ (p : are_equal (value_at values n) (value_at values m) ≡ true).
    or_second (m == n) (are_equal (value_at values m) (value_at values n))
    (equal_back (value_at values n) (value_at values m) p))
    (same_cases values n m e)

pub same_on : (values : Values) (n m k : ℕ) → are_same values n m ≡ true → are_same values m k ≡ true →
    are_same values n k ≡ true
same_on values n m k e f =
    ⊎_elim (λ (p : n ≡ m). subst (λ x. are_same values x k ≡ true) (sym p) f)
    (λ (p : are_equal (value_at values n) (value_at values m) ≡ true).
    ⊎_elim (λ (q : m ≡ k). subst (λ x. are_same values n x ≡ true) q e)
    (λ (q : are_equal (value_at values m) (value_at values k) ≡ true).
    or_second (n == k) (are_equal (value_at values n) (value_at values k))
    (equal_on (value_at values n) (value_at values m) (value_at values k) p q))
    (same_cases values m k f))
    (same_cases values n m e)

-- ---- which numbers are covered

abbrev pub Covers : Values → Held → ℕ → Type 0
Covers values Nothing number = ⊥
Covers values NoValue number = ⊥
Covers values (One one) number = are_same values one number ≡ true
Covers values Unequal number = Unit {0}

one_or_all : (values : Values) (m n : ℕ) (b : Bool) → are_same values m n ≡ true →
    Covers values (if b then One m else Unequal) n
one_or_all values m n true c = c
one_or_all values m n false c = tt

other_or_all : (values : Values) (m k n : ℕ) (b : Bool) → are_same values m k ≡ b → are_same values k n ≡ true →
    Covers values (if b then One m else Unequal) n
other_or_all values m k n true e c = same_on values m k n e c
other_or_all values m k n false e c = tt

pub covers_first : (values : Values) (h g : Held) (n : ℕ) → Covers values h n → Covers values (both values h g) n
covers_first values Nothing g n c = absurd c
covers_first values NoValue g n c = absurd c
covers_first values (One m) Nothing n c = c
covers_first values (One m) NoValue n c = c
covers_first values (One m) (One k) n c = one_or_all values m n (are_same values m k) c
covers_first values (One m) Unequal n c = tt
covers_first values Unequal g n c = tt

pub covers_second : (values : Values) (h g : Held) (n : ℕ) → Covers values g n → Covers values (both values h g) n
covers_second values Nothing g n c = c
covers_second values NoValue Nothing n c = absurd c
covers_second values NoValue NoValue n c = absurd c
covers_second values NoValue (One k) n c = c
covers_second values NoValue Unequal n c = tt
covers_second values (One m) Nothing n c = absurd c
covers_second values (One m) NoValue n c = absurd c
covers_second values (One m) (One k) n c = other_or_all values m k n (are_same values m k) refl c
covers_second values (One m) Unequal n c = tt
covers_second values Unequal g n c = tt

pub covers_handed : (values : Values) (h : Held) (n : ℕ) → Covers values h n → Covers values (handed_on h) n
covers_handed values Nothing n c = c
covers_handed values NoValue n c = absurd c
covers_handed values (One m) n c = c
covers_handed values Unequal n c = tt

pub covers_own : (values : Values) (h g : Held) (n : ℕ) → Covers values h n → Covers values (hiding h g) n
covers_own values Nothing g n c = absurd c
covers_own values NoValue g n c = absurd c
covers_own values (One m) g n c = c
covers_own values Unequal g n c = tt

pub covers_inherited : (values : Values) (h g : Held) (n : ℕ) → h ≡ Nothing → Covers values g n →
    Covers values (hiding h g) n
covers_inherited values h g n e c = subst (λ x. Covers values (hiding x g) n) (sym e) c

pub alike_covers : (values : Values) (h g : Held) (n : ℕ) → are_alike values h g ≡ true → Covers values h n →
    Covers values g n
alike_covers values (One m) (One k) n e c = same_on values k m n (same_back values m k e) c
alike_covers values Unequal Unequal n e c = tt
alike_covers values Nothing Nothing n e c = absurd c
alike_covers values NoValue NoValue n e c = absurd c
alike_covers _ _ _ _ e c = absurd (false≢true e)

-- ---- what is told truly

abbrev pub IsTold : Values → (ℕ → Type 0) → Held → Type 0
IsTold values Holds Nothing = Unit {0}
IsTold values Holds NoValue = Unit {0}
IsTold values Holds (One number) = Holds number
IsTold values Holds Unequal = HoldUnequal values Holds

told_two : (values : Values) (Holds : ℕ → Type 0) (m k : ℕ) (b : Bool) → are_same values m k ≡ b → Holds m → Holds k →
    IsTold values Holds (if b then One m else Unequal)
told_two values Holds m k true e p q = p
told_two values Holds m k false e p q =
    record { one = m; one_holds = p; other = k; other_holds = q; unequal = e }

pub told_both : (values : Values) (Holds : ℕ → Type 0) (h g : Held) → IsTold values Holds h → IsTold values Holds g →
    IsTold values Holds (both values h g)
told_both values Holds Nothing g p q = q
told_both values Holds NoValue Nothing p q = tt
told_both values Holds NoValue NoValue p q = tt
told_both values Holds NoValue (One k) p q = q
told_both values Holds NoValue Unequal p q = q
told_both values Holds (One m) Nothing p q = p
told_both values Holds (One m) NoValue p q = p
told_both values Holds (One m) (One k) p q = told_two values Holds m k (are_same values m k) refl p q
told_both values Holds (One m) Unequal p q = q
told_both values Holds Unequal g p q = p

told_handed : (values : Values) (Holds : ℕ → Type 0) (h : Held) → IsTold values Holds h →
    IsTold values Holds (handed_on h)
told_handed values Holds Nothing p = tt
told_handed values Holds NoValue p = tt
told_handed values Holds (One m) p = p
told_handed values Holds Unequal p = p

pub told_hiding : (values : Values) (Holds : ℕ → Type 0) (h g : Held) → IsTold values Holds h →
    (h ≡ Nothing → IsTold values Holds g) → IsTold values Holds (hiding h g)
told_hiding values Holds Nothing g p q = q refl
told_hiding values Holds NoValue g p q = tt
told_hiding values Holds (One m) g p q = p
told_hiding values Holds Unequal g p q = p

pub told_join : (values : Values) (Holds : ℕ → Type 0) (how : Joining) (h g : Held) → IsTold values Holds h →
    IsTold values Holds g → IsTold values Holds (join_held values how h g)
told_join values Holds Beside h g p q = told_both values Holds h g p q
told_join values Holds Inherited h g p q = told_both values Holds h (handed_on g) p (told_handed values Holds g q)
told_join values Holds Own h g p q = told_hiding values Holds g h q (λ _. p)

pub told_more : (values : Values) (Holds Others : ℕ → Type 0) (h : Held) → ((n : ℕ) → Holds n → Others n) →
    IsTold values Holds h → IsTold values Others h
told_more values Holds Others Nothing f p = tt
told_more values Holds Others NoValue f p = tt
told_more values Holds Others (One m) f p = f m p
told_more values Holds Others Unequal f p = record {
  one = p.one;
  one_holds = f p.one p.one_holds;
  other = p.other;
  other_holds = f p.other p.other_holds;
  unequal = p.unequal;
}

-- what is told truly, and covers all that hold, is their summary
pub summary : (values : Values) (Holds : ℕ → Type 0) (h : Held) → IsTold values Holds h →
    ((n : ℕ) → Holds n → Covers values h n) → IsSummary values Holds h
summary values Holds Nothing p covers = covers
summary values Holds NoValue p covers = covers
summary values Holds (One m) p covers = (p, covers)
summary values Holds Unequal p covers = p

-- two of which nothing is held, side by side
pub both_nothing : (values : Values) (h g : Held) → both values h g ≡ Nothing → (h ≡ Nothing) × (g ≡ Nothing)
both_nothing values Nothing g e = (refl, e)
both_nothing values NoValue Nothing e = absurd (cc)
both_nothing values NoValue NoValue e = absurd (cc)
both_nothing values NoValue (One k) e = absurd (cc)
both_nothing values NoValue Unequal e = absurd (cc)
both_nothing values (One m) Nothing e = absurd (cc)
both_nothing values (One m) NoValue e = absurd (cc)
both_nothing values (One m) (One k) e = absurd (never (are_same values m k) e)
  where
    never : (b : Bool) → (if b then One m else Unequal) ≡ Nothing → ⊥
    never true p = absurd (cc)
    never false p = absurd (cc)
both_nothing values (One m) Unequal e = absurd (cc)
both_nothing values Unequal g e = absurd (cc)
