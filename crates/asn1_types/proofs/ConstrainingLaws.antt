-- ConstrainingLaws: what one constraint after the other leaves of a syntax (X.680, sections 49 to 51).
use Rattle.std.proofs.Common.{◌≡◌, ◌==◌, ◌<◌, ◌≤◌, ◌+◌, ℕ, zero, suc, ℤ, List, [], ◌∷◌}
use Rattle.std.proofs.Common.{◌++◌, Option, None, Some, Contains, true, refl}
use Rattle.std.proofs.Common.{ap, arith, get_or, length, map, sym, take, ◌∙◌}
use Rattle.std.proofs.Math.Path.{subst}
use Rattle.term_values.specs.Syntaxes.{TypeSyntax}
use Rattle.std.specs.Prelude.{option_map}
use Rattle.std.specs.declared.alloc.Global.{Global}
use Rattle.std.specs.declared.vec.Vec.{Vec}
use Rattle.std.proofs.lemmas.Bool.{eqb-true}
use Rattle.std.proofs.lemmas.List.{nil_from_length, take_all}
use Rattle.asn1_values_syntax.specs.declared.constraint.Range.{Range}
use Rattle.asn1_names.specs.Constraining.{AreRanges, Constrains, Narrows, is_size_limit, limit_ranges}
use Rattle.asn1_names.specs.Constraining.Constrains.{no_more, another}
use Rattle.asn1_names.specs.DenotedSyntax.{size_limits}
use Rattle.asn1_names.specs.ModuleTerms.{LimitTerm, TypeTerm, ModuleTerm}
use Rattle.asn1_names.specs.ModuleTerms.LimitTerm.{SizeLimit}
use Rattle.asn1_names.specs.Narrowing.{can_narrow}
use Rattle.asn1_names.specs.SaidNumbers.{AllSayBounds}
use Rattle.asn1_names.specs.TermViews.{range_terms}
use Rattle.asn1_names.proofs.BaseLaws.{constrained_place}
use Rattle.asn1_names.proofs.NumberLaws.{map_more}
use Rattle.asn1_types.specs.BuiltSyntaxes.{TakesLimits}

pub here_in : {X : Type 0} (x : X) (xs : List X) → Contains (x ∷ xs) x
here_in x xs = (0, omega arith, refl)

pub further_in : {X : Type 0} (x y : X) (xs : List X) → Contains xs y → Contains (x ∷ xs) y
further_in x y xs (k, within, is) = (suc k, omega arith, is)

pub in_map : {X Y : Type 0} (f : X → Y) (xs : List X) (i : ℕ) (x : X) → i < length xs → x ≡ get_or xs i x →
    Contains (map f xs) (f x)
in_map f [] i x within is = absurd (omega (arith, within))
in_map f (y ∷ ys) zero x within is = (0, omega arith, ap f (sym is))
in_map f (y ∷ ys) (suc i) x within is = further_in (f y) (f x) (map f ys) (in_map f ys i x (omega (arith, within)) is)

-- one of the constraints
one_of : (ms : List ModuleTerm) (m : ℕ) (of : TypeTerm) (limit : LimitTerm) (limits : List LimitTerm)
    (first before : TypeSyntax) → Contains limits limit →
    ((b : _) → can_narrow b before ≡ can_narrow b first) → TakesLimits ms m of limits first →
    TakesLimits ms m of (limit ∷ []) before
one_of ms m of limit limits first before there place takes = record {
  said = λ other is. subst (λ l. AllSayBounds ms m of (limit_ranges l)) (only limit other is) (takes.said limit there);
  placed = λ other is. subst (λ l. can_narrow (is_size_limit l) before ≡ true) (only limit other is)
      (place (is_size_limit limit) ∙ takes.placed limit there);
}
  where
    only : (x y : LimitTerm) → Contains (x ∷ []) y → x ≡ y
    only x y (zero, within, is) = is
    only x y (suc k, within, is) = absurd (omega (arith, within))

pub constrained_more : {ms : List ModuleTerm} {m : ℕ} {of : TypeTerm} {limits more : List LimitTerm}
    {first before after : TypeSyntax} → Constrains ms m of limits first before →
    Constrains ms m of more before after → Constrains ms m of (limits ++ more) first after
constrained_more no_more one = one
constrained_more (another ranges narrows rest) one = another ranges narrows (constrained_more rest one)

-- a step of a loop over constraints
pub constrained_step : {X : Type 0} (ms : List ModuleTerm) (m : ℕ) (of : TypeTerm) (f : X → LimitTerm) (xs : List X)
    (i : ℕ) (x : X) (first before after : TypeSyntax) → i < length xs → x ≡ get_or xs i x →
    (TakesLimits ms m of (f x ∷ []) before → Constrains ms m of (f x ∷ []) before after) →
    (TakesLimits ms m of (map f xs) first → Constrains ms m of (map f (take i xs)) first before) →
    TakesLimits ms m of (map f xs) first → Constrains ms m of (map f (take (i + 1) xs)) first after
constrained_step ms m of f xs i x first before after within is one rest takes =
    let so_far = rest takes in
    subst (λ ls. Constrains ms m of ls first after) (sym (map_more f xs i x within is))
    (constrained_more so_far
    (one (one_of ms m of (f x) (map f xs) first before (in_map f xs i x within is) (constrained_place so_far) takes)))

-- one constraint
pub one_constraint : (ms : List ModuleTerm) (m : ℕ) (of : TypeTerm) (limit : LimitTerm) (pairs : List (ℤ × ℤ))
    (before after : TypeSyntax) →
    (AllSayBounds ms m of (limit_ranges limit) → AreRanges ms m of (limit_ranges limit) pairs) →
    ((is_size : _) → can_narrow is_size before ≡ true → Narrows pairs is_size before after) →
    TakesLimits ms m of (limit ∷ []) before → Constrains ms m of (limit ∷ []) before after
one_constraint ms m of limit pairs before after ranges narrows takes =
    another (ranges (takes.said limit (here_in limit [])))
    (narrows (is_size_limit limit) (takes.placed limit (here_in limit []))) no_more

pub empty_list : {X : Type 0} (xs : List X) → (length xs == 0) ≡ true → xs ≡ []
empty_list xs is = nil_from_length xs (eqb-true (length xs) 0 is)

-- the loop's end, and no constraints at all
pub constrained_end : {X : Type 0} (ms : List ModuleTerm) (m : ℕ) (of : TypeTerm) (f : X → LimitTerm) (xs : List X)
    (i : ℕ) (first left : TypeSyntax) → length xs ≤ i →
    (TakesLimits ms m of (map f xs) first → Constrains ms m of (map f (take i xs)) first left) →
    TakesLimits ms m of (map f xs) first → Constrains ms m of (map f xs) first left
constrained_end ms m of f xs i first left past told takes =
    subst (λ ys. Constrains ms m of (map f ys) first left) (take_all i xs past) (told takes)

pub constrained_none : {X : Type 0} (ms : List ModuleTerm) (m : ℕ) (of : TypeTerm) (f : X → LimitTerm) (xs : List X)
    (syntax : TypeSyntax) → xs ≡ [] → TakesLimits ms m of (map f xs) syntax → Constrains ms m of (map f xs) syntax
    syntax
constrained_none ms m of f xs syntax is takes =
    subst (λ ys. Constrains ms m of (map f ys) syntax syntax) (sym is) no_more

-- ---- the sizes of a list

pub no_sizes : (ms : List ModuleTerm) (m : ℕ) (of : TypeTerm) (size : Option (Vec Range Global)) (syntax : TypeSyntax) →
    size ≡ None → TakesLimits ms m of (size_limits (option_map range_terms size)) syntax →
    Constrains ms m of (size_limits (option_map range_terms size)) syntax syntax
no_sizes ms m of size syntax is takes =
    subst (λ s. Constrains ms m of (size_limits (option_map range_terms s)) syntax syntax) (sym is) no_more

pub stated_sizes : (ms : List ModuleTerm) (m : ℕ) (of : TypeTerm) (size : Option (Vec Range Global))
    (ranges : Vec Range Global) (pairs : List (ℤ × ℤ)) (before after : TypeSyntax) → size ≡ Some ranges →
    (AllSayBounds ms m of (range_terms ranges) → AreRanges ms m of (range_terms ranges) pairs) →
    ((is_size : _) → can_narrow is_size before ≡ true → Narrows pairs is_size before after) →
    TakesLimits ms m of (size_limits (option_map range_terms size)) before →
    Constrains ms m of (size_limits (option_map range_terms size)) before after
stated_sizes ms m of size ranges pairs before after is told narrows takes =
    subst (λ s. Constrains ms m of (size_limits (option_map range_terms s)) before after) (sym is)
    (one_constraint ms m of (SizeLimit (range_terms ranges)) pairs before after told narrows
    (subst (λ s. TakesLimits ms m of (size_limits (option_map range_terms s)) before) is takes))
