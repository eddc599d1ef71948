-- Examples: what classes state, what they have, and what sums up values; X.722, sections 5.2 and 8.4; docs/PROFILE.md,
-- section 18.
use Rattle.std.proofs.Common.{◌≡◌, ◌<◌, ◌∷◌, [], Some, None, true, false, pos, refl, sym, subst, ap}
use Rattle.std.proofs.Common.{arith, inl, inr}
use Rattle.std.specs.Prelude.{Contains, slice_get}
use Rattle.std.specs.Global.{Vec}
use Rattle.term_values.specs.Typed.TypedValue.{Int}
use Rattle.joined_statements.specs.HeldValues.{are_same}
use Rattle.joined_statements.specs.declared.held.Held.TheVariants.{Nothing, NoValue, One, Unequal}
use Rattle.link_graphs.specs.Leading.Leads.{at_once}
use Rattle.linked_parts.specs.declared.linked.LinkedClass.{LinkedClass}
use Rattle.joined_properties.specs.declared.statement.Statement.{Statement}
use Rattle.joined_properties.specs.HeldNumbers.{HoldsNumber}
use Rattle.joined_properties.specs.HeldNumbers.HoldsNumber.{own, inherited}
use Rattle.joined_properties.specs.NumberSummaries.{IsSummary}
use Rattle.joined_properties.specs.OwnStatements.{OwnStatement}
use Rattle.joined_properties.specs.ReachedStatements.{HasStatement}
use Rattle.joined_properties.specs.SameTables.{are_alike}
use Rattle.joined_properties.specs.StatementChains.{said_in, statements_of}

-- a class with one package, which has one statement
stated_by_package : (upper lower : LinkedClass) (package_ : Vec Statement) (statement : Statement) →
    upper.mandatory.items ≡ 0 ∷ [] → package_.items ≡ statement ∷ [] →
    OwnStatement (upper ∷ lower ∷ []) (package_ ∷ []) 0 statement
stated_by_package upper lower package_ statement p q = record {
  of_class = upper;
  class_at = refl;
  place = 0;
  own = inl (subst (λ xs. Contains xs 0) (sym p) (0, omega arith, refl));
  statements = package_;
  package_at = refl;
  says = subst (λ xs. Contains xs statement) (sym q) (0, omega arith, refl);
}

-- a class that derives from it has the statement too
had_below : (upper lower : LinkedClass) (package_ : Vec Statement) (statement : Statement) →
    upper.mandatory.items ≡ 0 ∷ [] → package_.items ≡ statement ∷ [] → lower.superclasses.items ≡ 0 ∷ [] →
    HasStatement (upper ∷ lower ∷ []) (package_ ∷ []) 1 statement
had_below upper lower package_ statement p q r = record {
  above = 0;
  is_above = inr (at_once (record { place = 0; stands = ap (λ xs. slice_get xs 0) r; within = omega arith }));
  says = stated_by_package upper lower package_ statement p q;
}

-- and the default that is stated holds in it, where it states none itself
held_below : (upper lower : LinkedClass) (package_ : Vec Statement) (statement : Statement) →
    upper.mandatory.items ≡ 0 ∷ [] → package_.items ≡ statement ∷ [] → lower.superclasses.items ≡ 0 ∷ [] →
    statement.joined.default ≡ One 3 →
    ((other : Statement) → ¬ OwnStatement (upper ∷ lower ∷ []) (package_ ∷ []) 1 other) →
    HoldsNumber (λ joined. joined.default) statement.attribute (upper ∷ lower ∷ []) (package_ ∷ []) 1 3
held_below upper lower package_ statement p q r e none_ =
    inherited lower refl (λ other is same. absurd (none_ other is))
    (subst (λ xs. Contains xs 0) (sym r) (0, omega arith, refl))
    (own statement (stated_by_package upper lower package_ statement p q) refl e)

-- one number sums up itself, and two with unequal values are unequal
one_alone : IsSummary [] (λ number. number ≡ 3) (One 3)
one_alone = (refl, λ other e. subst (λ n. are_same [] 3 n ≡ true) (sym e) refl)

two_unequal : IsSummary (Some (Int (pos 5)) ∷ Some (Int (pos 6)) ∷ []) (λ number. number < 2) Unequal
two_unequal = record { one = 0; one_holds = omega arith; other = 1; other_holds = omega arith; unequal = refl }

none_alone : IsSummary [] (λ number. ⊥) NoValue
none_alone = λ number holds. holds

-- equal values say the same, whichever has its number told
equal_numbers : are_alike (Some (Int (pos 5)) ∷ Some (Int (pos 5)) ∷ []) (One 0) (One 1) ≡ true
equal_numbers = refl

no_value : are_alike [] Nothing NoValue ≡ false
no_value = refl

-- a place past the end says nothing
nothing_there : said_in [] 7 0 ≡ None
nothing_there = refl

no_packages : statements_of [] (4 ∷ []) ≡ []
no_packages = refl
