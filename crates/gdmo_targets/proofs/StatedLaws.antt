-- StatedLaws: rules whose class and action are those of an earlier one; and what the sentence says of them.
use Rattle.std.specs.Prelude.{◌≡◌, ◌<◌, ◌≤◌, ◌+◌, ◌⊎◌, ◌&&◌, ◌||◌, ◌==◌, ℕ, zero, suc, List, [], ◌∷◌, ◌++◌, Bool, true}
use Rattle.std.specs.Prelude.{false, Option, None, Some, length, map, not, option_and_then, option_map, refl, slice_get}
use Rattle.std.specs.Prelude.{AllPairs, flat_map, take}
use Rattle.std.specs.List.{list_any}
use Rattle.std.proofs.Common.{ap, arith, cond, get_or, inl, inr, sym, subst, ◌∙◌}
use Rattle.std.proofs.lemmas.Bool.{and_parts, eq-eqb, eqb-true, false≢true, true≢false}
use Rattle.std.proofs.lemmas.List.{append-nil, append_assoc, map-append, take_all}
use Rattle.std.proofs.lemmas.Option.{get_or_from_slice_get, same_Some, slice_get-map, slice_get_read}
use Rattle.std.proofs.lemmas.Option.{slice_get_within}
use Rattle.std.specs.BTreeMap.{is_at}
use Rattle.std.specs.BTreeSet.{BTreeSet, contains}
use Rattle.std.specs.Cmp.{unsigned_tied}
use Rattle.std.specs.Ordering.{is_eq, nat_cmp, ordering_then}
use Rattle.std.specs.declared.cmp.Ordering.{Ordering}
use Rattle.std.specs.declared.cmp.Ordering.TheVariants.{Less, Equal, Greater}
use Rattle.extra_syntax.specs.declared.rule.Rule.{Rule}
use Rattle.extra_syntax.specs.declared.instances.InstancesSection.{InstancesSection}
use Rattle.extra_syntax.specs.declared.rules.RulesSection.{RulesSection}
use Rattle.extra_syntax.specs.declared.section.Section.{Section}
use Rattle.extra_syntax.specs.declared.section.Section.TheVariants.{Rules, Instances}
use Rattle.gdmo_names.specs.declared.first_fault.LabelFault.{LabelFault as NotedFault}
use Rattle.gdmo_names.specs.declared.found.Found.{Found}
use Rattle.gdmo_names.specs.DocumentTemplates.{templates}
use Rattle.gdmo_names.specs.FaultSets.{Either, Notes, OneFault, ThisFault}
use Rattle.gdmo_names.specs.FirstLabelFault.{HasFault, LabelFault}
use Rattle.gdmo_names.specs.FirstLabelFault.LabelFault.{KindWrong}
use Rattle.gdmo_names.specs.FoundViews.{AreTemplates, found_views, numbered}
use Rattle.gdmo_names.specs.InStep.{AreEach}
use Rattle.gdmo_names.specs.PartTerms.{Placed, PartTerms, RuleTerm, label_of}
use Rattle.gdmo_names.specs.RuleFaults.{IsStatedTwice}
use Rattle.gdmo_names.specs.RuleWords.{IsOfAction, IsOfClass}
use Rattle.gdmo_names.specs.SectionFaults.{StatedTwice}
use Rattle.gdmo_names.specs.TargetTables.{ArePlacedApart, AreTwo}
use Rattle.gdmo_names.specs.PartViews.{rule_term, section_rules}
use Rattle.gdmo_names.proofs.NotingLaws.{both_noted, map_more, none_noted, noted_by, one_not, one_there}
use Rattle.gdmo_targets.specs.declared.section_references.RuleTargets.{RuleTargets}
use Rattle.gdmo_targets.specs.SectionTables.{IsRuleTargets}
use Rattle.gdmo_targets.specs.StatedRules.{AgainAt, AgainBefore, AgainIn, has_pair, has_that_pair}
use Rattle.gdmo_targets.specs.StatedRules.{is_same_pair, is_that_pair}
use Rattle.gdmo_targets.specs.StatedRules.{known_number, number_of, pair_cmp, rule_terms, stated_before, stated_pair}
use Rattle.gdmo_targets.specs.StatedRules.{text_term}
use Rattle.gdmo_targets.specs.declared.stated_rules.RuleText.{RuleText}
use Rattle.gdmo_targets.proofs.PlaceLaws.{beside, beside_it}
use Rattle.gdmo_targets.proofs.SectionLaws.{flat_more}

-- ---- pairs

eq_then : (x y : Ordering) → is_eq (ordering_then x y) ≡ (is_eq x && is_eq y)
eq_then Less y = refl
eq_then Equal y = refl
eq_then Greater y = refl

pair_test : (x y : ℕ × ℕ) → is_eq (pair_cmp x y) ≡ is_same_pair x y
pair_test x y = eq_then (nat_cmp x.0 y.0) (nat_cmp x.1 y.1)
    ∙ ap (λ z. z && is_eq (nat_cmp x.1 y.1)) (unsigned_tied x.0 y.0)
    ∙ ap (λ z. (x.0 == y.0) && z) (unsigned_tied x.1 y.1)

or_cond : (test before : Bool) → cond test true before ≡ (before || test)
or_cond true true = refl
or_cond true false = refl
or_cond false true = refl
or_cond false false = refl

pub pair_added : (before after : BTreeSet (ℕ × ℕ)) (pair other : ℕ × ℕ) →
    contains pair_cmp after other ≡ cond (is_at (pair_cmp pair) other) true (contains pair_cmp before other) →
    has_pair after other ≡ (has_pair before other || is_same_pair pair other)
pair_added before after pair other e = e ∙ or_cond (is_at (pair_cmp pair) other) (has_pair before other)
    ∙ ap (λ z. has_pair before other || z) (pair_test pair other)

or_false : (a : Bool) → (a || false) ≡ a
or_false true = refl
or_false false = refl

or_assoc : (a b c : Bool) → (a || (b || c)) ≡ ((a || b) || c)
or_assoc true b c = refl
or_assoc false b c = refl

or_either : (a b : Bool) → (a || b) ≡ true → (a ≡ true) ⊎ (b ≡ true)
or_either true b test = inl refl
or_either false b test = inr test

or_right : (a b : Bool) → b ≡ true → (a || b) ≡ true
or_right true b test = refl
or_right false b test = test

or_left : (a b : Bool) → a ≡ true → (a || b) ≡ true
or_left a b test = ap (λ x. x || b) test

pub kept_same : (old : Bool) → old ≡ (old || false)
kept_same old = sym (or_false old)

-- what is inserted was there, or wasn't
pub held : (old added : Bool) → added ≡ not old → not added ≡ true → old ≡ true
held true added is test = refl
held false added is test = absurd (true≢false (sym test ∙ ap not is))

pub not_held : (old added : Bool) → added ≡ not old → not added ≡ false → ¬ (old ≡ true)
not_held old added is test so = true≢false (sym (ap (λ b. not (not b)) so) ∙ ap not (sym is) ∙ test)

same_pair : (x y : ℕ × ℕ) → is_same_pair x y ≡ true → x ≡ y
same_pair (a, b) (c, d) test =
    let both = and_parts (a == c) (b == d) test in λ i. (eqb-true a c both.0 i, eqb-true b d both.1 i)

itself : (x : ℕ × ℕ) → is_same_pair x x ≡ true
itself x = ap (λ a. a && (x.1 == x.1)) (eq-eqb x.0 x.0 refl) ∙ eq-eqb x.1 x.1 refl

that_pair : (pair : Option (ℕ × ℕ)) (other : ℕ × ℕ) → is_that_pair pair other ≡ true → pair ≡ Some other
that_pair None other test = absurd (false≢true test)
that_pair (Some pair) other test = ap Some (same_pair pair other test)

pub pairs_grown : (before after : BTreeSet (ℕ × ℕ)) (pair : ℕ × ℕ) →
    ((other : ℕ × ℕ) → contains pair_cmp after other
    ≡ cond (is_at (pair_cmp pair) other) true (contains pair_cmp before other)) → (other : ℕ × ℕ) →
    has_pair after other ≡ (has_pair before other || is_same_pair pair other)
pairs_grown before after pair updated other = pair_added before after pair other (updated other)

-- ---- one rule

pub again_noted : (stated : BTreeSet (ℕ × ℕ)) (pair : ℕ × ℕ) (added : Bool) (document at : ℕ)
    (before after : Option NotedFault) → added ≡ not (contains pair_cmp stated pair) → not added ≡ true →
    Notes (ThisFault KindWrong document at) before after →
    Notes (OneFault (has_pair stated pair ≡ true) KindWrong document at) before after
again_noted stated pair added document at before after is test h =
    one_there (held (has_pair stated pair) added is test) h

pub new_noted : (stated : BTreeSet (ℕ × ℕ)) (pair : ℕ × ℕ) (added : Bool) (document at : ℕ)
    (before : Option NotedFault) → added ≡ not (contains pair_cmp stated pair) → not added ≡ false →
    Notes (OneFault (has_pair stated pair ≡ true) KindWrong document at) before before
new_noted stated pair added document at before is test =
    one_not KindWrong document at before (not_held (has_pair stated pair) added is test)

-- a rule that has both a class and an action, and one that hasn't
pub pair_noted : (stated : BTreeSet (ℕ × ℕ)) (pair : Option (ℕ × ℕ)) (one : ℕ × ℕ) (document at : ℕ)
    (before after : Option NotedFault) → pair ≡ Some one →
    Notes (OneFault (has_pair stated one ≡ true) KindWrong document at) before after →
    Notes (OneFault (has_that_pair stated pair ≡ true) KindWrong document at) before after
pair_noted stated pair one document at before after is h =
    subst (λ p. Notes (OneFault (has_that_pair stated p ≡ true) KindWrong document at) before after) (sym is) h

pub no_pair_noted : (stated : BTreeSet (ℕ × ℕ)) (pair : Option (ℕ × ℕ)) (document at : ℕ)
    (before : Option NotedFault) → pair ≡ None →
    Notes (OneFault (has_that_pair stated pair ≡ true) KindWrong document at) before before
no_pair_noted stated pair document at before is = one_not KindWrong document at before
    (λ test. false≢true (sym (ap (has_that_pair stated) is) ∙ test))

pub pair_grown : (now next : BTreeSet (ℕ × ℕ)) (pair : Option (ℕ × ℕ)) (one : ℕ × ℕ) → pair ≡ Some one →
    ((other : ℕ × ℕ) → has_pair next other ≡ (has_pair now other || is_same_pair one other)) → (other : ℕ × ℕ) →
    has_pair next other ≡ (has_pair now other || is_that_pair pair other)
pair_grown now next pair one is grows other =
    grows other ∙ ap (λ p. has_pair now other || is_that_pair p other) (sym is)

pub no_pair_grown : (now : BTreeSet (ℕ × ℕ)) (pair : Option (ℕ × ℕ)) → pair ≡ None → (other : ℕ × ℕ) →
    has_pair now other ≡ (has_pair now other || is_that_pair pair other)
no_pair_grown now pair is other =
    kept_same (has_pair now other) ∙ ap (λ p. has_pair now other || is_that_pair p other) (sym is)

-- ---- the rules before a place

pub stated_none : (views : List Placed) (targets : List RuleTargets) (other : ℕ × ℕ) →
    stated_before views targets 0 other ≡ false
stated_none views targets other = refl

stated_next : (views : List Placed) (targets : List RuleTargets) (k : ℕ) (other : ℕ × ℕ) →
    stated_before views targets (suc k) other ≡ (stated_before views targets k other
    || is_that_pair (option_and_then (stated_pair views) (slice_get targets k)) other)
stated_next views [] zero other = refl
stated_next views [] (suc k) other = refl
stated_next views (x ∷ xs) zero other = or_false (is_that_pair (stated_pair views x) other)
stated_next views (x ∷ xs) (suc k) other =
    ap (λ z. is_that_pair (stated_pair views x) other || z) (stated_next views xs k other)
    ∙ or_assoc (is_that_pair (stated_pair views x) other) (stated_before views xs k other)
    (is_that_pair (option_and_then (stated_pair views) (slice_get xs k)) other)

after : (n : ℕ) → n + 1 ≡ suc n
after n = omega arith

pub stated_more : (views : List Placed) (targets : List RuleTargets) (k : ℕ) (pair : Option (ℕ × ℕ))
    (now next : ℕ × ℕ → Bool) → pair ≡ option_and_then (stated_pair views) (slice_get targets k) →
    ((other : ℕ × ℕ) → now other ≡ stated_before views targets k other) →
    ((other : ℕ × ℕ) → next other ≡ (now other || is_that_pair pair other)) →
    (other : ℕ × ℕ) → next other ≡ stated_before views targets (k + 1) other
stated_more views targets k pair now next is so_far grows other = grows other
    ∙ ap (λ b. b || is_that_pair pair other) (so_far other)
    ∙ ap (λ p. stated_before views targets k other || is_that_pair p other) is
    ∙ sym (stated_next views targets k other)
    ∙ ap (λ n. stated_before views targets n other) (sym (after k))

-- one of them is for this class and this action
earlier_one : (views : List Placed) (targets : List RuleTargets) (n : ℕ) (pair : ℕ × ℕ) →
    stated_before views targets n pair ≡ true →
    (j : ℕ) × (own : RuleTargets) × (j < n) × (slice_get targets j ≡ Some own) × (stated_pair views own ≡ Some pair)
earlier_one views targets zero pair test = absurd (false≢true test)
earlier_one views [] (suc n) pair test = absurd (false≢true test)
earlier_one views (x ∷ xs) (suc n) pair test =
    elim (or_either (is_that_pair (stated_pair views x) pair) (stated_before views xs n pair) test) as
    (λ _. (j : ℕ) × (own : RuleTargets) × (j < suc n) × (slice_get (x ∷ xs) j ≡ Some own)
    × (stated_pair views own ≡ Some pair)) [
      | inl here ↦ (0, x, omega arith, refl, that_pair (stated_pair views x) pair here)
      | inr behind ↦ (let found = earlier_one views xs n pair behind in
          (suc found.0, found.1, (let less = found.2 in omega (arith, less)), found.3, found.4))
    ]

stated_one : (views : List Placed) (targets : List RuleTargets) (n j : ℕ) (own : RuleTargets) (pair : ℕ × ℕ) → j < n →
    slice_get targets j ≡ Some own → stated_pair views own ≡ Some pair → stated_before views targets n pair ≡ true
stated_one views targets zero j own pair less at is = absurd (omega (arith, less))
stated_one views [] (suc n) j own pair less at is = absurd (cc)
stated_one views (x ∷ xs) (suc n) zero own pair less at is =
    or_left (is_that_pair (stated_pair views x) pair) (stated_before views xs n pair)
    (ap (λ y. is_that_pair (stated_pair views y) pair) (same_Some x own at) ∙ ap (λ p. is_that_pair p pair) is
    ∙ itself pair)
stated_one views (x ∷ xs) (suc n) (suc j) own pair less at is =
    or_right (is_that_pair (stated_pair views x) pair) (stated_before views xs n pair)
    (stated_one views xs n j own pair (omega (arith, less)) at is)

-- ---- one more rule of a loop

pub again_none : (views : List Placed) (rules : List RuleTerm) (targets : List RuleTargets)
    (before : Option NotedFault) → Notes (AgainBefore views rules targets 0) before before
again_none views rules targets before = none_noted (AgainBefore views rules targets 0) before
    (λ k d t fault. let less = fault.1 in omega (arith, less))

nat_cases : (j k : ℕ) → j < k + 1 → (j < k) ⊎ (j ≡ k)
nat_cases j k h = grind arith

pub again_step : (views : List Placed) (rules : List RuleTerm) (targets : List RuleTargets) (k : ℕ) (rule : RuleTerm)
    (stated : BTreeSet (ℕ × ℕ)) (pair : Option (ℕ × ℕ)) {one other next : Option NotedFault} →
    slice_get rules k ≡ Some rule → pair ≡ option_and_then (stated_pair views) (slice_get targets k) →
    ((other : ℕ × ℕ) → has_pair stated other ≡ stated_before views targets k other) →
    Notes (AgainBefore views rules targets k) one other →
    Notes (OneFault (has_that_pair stated pair ≡ true) KindWrong rule.document rule.class.at) other next →
    Notes (AgainBefore views rules targets (k + 1)) one next
again_step views rules targets k rule stated pair at is has p q =
    noted_by (Either (AgainBefore views rules targets k)
    (OneFault (has_that_pair stated pair ≡ true) KindWrong rule.document rule.class.at))
    (AgainBefore views rules targets (k + 1))
    (λ kind d t fault. elim fault as (λ _. AgainBefore views rules targets (k + 1) kind d t) [
      | inl here ↦ (here.0, (let less = here.1 in omega (arith, less)), here.2)
      | inr here ↦ (
        k,
        omega arith,
        (let one = known pair refl here.0 in record {
          rule = rule;
          stands = at;
          pair = one.0;
          is_for = sym is ∙ one.1;
          again = sym (has one.0) ∙ one.2;
          fault = (here.1, here.2, here.3);
        }),
      )
    ])
    (λ kind d t fault. last_of kind d t fault.0 fault.1 fault.2)
    (both_noted (AgainBefore views rules targets k)
    (OneFault (has_that_pair stated pair ≡ true) KindWrong rule.document rule.class.at) p q)
  where
    known : (its : Option (ℕ × ℕ)) → pair ≡ its → has_that_pair stated its ≡ true →
        (one : ℕ × ℕ) × (pair ≡ Some one) × (has_pair stated one ≡ true)
    known None same test = absurd (false≢true test)
    known (Some one) same test = (one, same, test)

    this : (kind : LabelFault) (document token : ℕ) → AgainAt views rules targets k kind document token →
        OneFault (has_that_pair stated pair ≡ true) KindWrong rule.document rule.class.at kind document token
    this kind document token fault =
        let same : fault.rule ≡ rule = same_Some fault.rule rule (sym fault.stands ∙ at) in
        let told = subst (λ (r : RuleTerm). ThisFault KindWrong r.document r.class.at kind document token) same
        fault.fault in
        (ap (has_that_pair stated) (is ∙ fault.is_for) ∙ has fault.pair ∙ fault.again, told.0, told.1, told.2)

    last_of : (kind : LabelFault) (document token j : ℕ) → j < k + 1 →
        AgainAt views rules targets j kind document token →
        Either (AgainBefore views rules targets k)
        (OneFault (has_that_pair stated pair ≡ true) KindWrong rule.document rule.class.at) kind document token
    last_of kind document token j below fault = elim (nat_cases j k below) as
        (λ _. Either (AgainBefore views rules targets k)
        (OneFault (has_that_pair stated pair ≡ true) KindWrong rule.document rule.class.at) kind document token) [
          | inl less ↦ inl (j, less, fault)
          | inr same ↦ inr (this kind document token
              (subst (λ n. AgainAt views rules targets n kind document token) same fault))
        ]

-- the end of a loop over all rules
pub again_all : (views : List Placed) (rules : List RuleTerm) (targets : List RuleTargets) (k : ℕ)
    {one next : Option NotedFault} → length rules ≤ k → Notes (AgainBefore views rules targets k) one next →
    Notes (AgainIn views rules targets) one next
again_all views rules targets k past h = noted_by (AgainBefore views rules targets k) (AgainIn views rules targets)
    (λ kind d t fault. (fault.0, fault.2))
    (λ kind d t fault. (
      fault.0,
      (let within = slice_get_within rules fault.0 fault.1.rule fault.1.stands in omega (arith, within, past)),
      fault.1,
    )) h

-- ---- numbers and templates

known_is : (views : List Placed) (n : Option ℕ) (m : ℕ) → known_number views n ≡ Some m →
    (to : Placed) × (n ≡ Some m) × (slice_get views m ≡ Some to)
known_is views None m is = absurd (cc)
known_is views (Some j) m is = by (slice_get views j) refl is
  where
    by : (found : Option Placed) → slice_get views j ≡ found → number_of found (Some j) ≡ Some m →
        (to : Placed) × (Some j ≡ Some m) × (slice_get views m ≡ Some to)
    by None there told = absurd (cc)
    by (Some to) there told =
        (to, told, subst (λ i. slice_get views i ≡ Some to) (same_Some j m told) there)

known_as : (views : List Placed) (n : Option ℕ) (m : ℕ) (to : Placed) → n ≡ Some m → slice_get views m ≡ Some to →
    known_number views n ≡ Some m
known_as views n m to is at = ap (known_number views) is ∙ ap (λ found. number_of found (Some m)) at

number_there : (views : List Placed) (n : Option ℕ) (to : Placed) → numbered views n ≡ Some to →
    (m : ℕ) × (n ≡ Some m) × (slice_get views m ≡ Some to)
number_there views None to is = absurd (cc)
number_there views (Some m) to is = (m, refl, is)

-- the class and the action of a rule that has both
pub record IsPair (views : List Placed) (own : RuleTargets) (pair : ℕ × ℕ) : Type 0 where
  pub class : Placed
  pub class_number : own.class ≡ Some pair.0
  pub class_at : slice_get views pair.0 ≡ Some class
  pub action : Placed
  pub action_number : own.action ≡ Some pair.1
  pub action_at : slice_get views pair.1 ≡ Some action

pair_is : (views : List Placed) (own : RuleTargets) (pair : ℕ × ℕ) → stated_pair views own ≡ Some pair →
    IsPair views own pair
pair_is views own pair is = by (known_number views own.class) (known_number views own.action) refl refl is
  where
    by : (class action : Option ℕ) → known_number views own.class ≡ class → known_number views own.action ≡ action →
        option_and_then (λ c. option_map (λ a. (c, a)) action) class ≡ Some pair → IsPair views own pair
    by None action class_is action_is told = absurd (cc)
    by (Some c) None class_is action_is told = absurd (cc)
    by (Some c) (Some a) class_is action_is told =
        let same : (c, a) ≡ pair = same_Some (c, a) pair told in
        let one = known_is views own.class pair.0 (class_is ∙ ap (λ (p : ℕ × ℕ). Some p.0) same) in
        let other = known_is views own.action pair.1 (action_is ∙ ap (λ (p : ℕ × ℕ). Some p.1) same) in record {
          class = one.0;
          class_number = one.1;
          class_at = one.2;
          action = other.0;
          action_number = other.1;
          action_at = other.2;
        }

pair_as : (views : List Placed) (own : RuleTargets) (c a : ℕ) (class action : Placed) → own.class ≡ Some c →
    slice_get views c ≡ Some class → own.action ≡ Some a → slice_get views a ≡ Some action →
    stated_pair views own ≡ Some (c, a)
pair_as views own c a class action class_is class_at action_is action_at =
    ap (option_and_then (λ k. option_map (λ n. (k, n)) (known_number views own.action)))
    (known_as views own.class c class class_is class_at)
    ∙ ap (option_map (λ n. (c, n))) (known_as views own.action a action action_is action_at)

-- templates with two numbers are two
three_deeper : (i j : ℕ) → (i < j) ⊎ ((j < i) ⊎ (i ≡ j)) → (suc i < suc j) ⊎ ((suc j < suc i) ⊎ (suc i ≡ suc j))
three_deeper i j (inl h) = inl (omega (arith, h))
three_deeper i j (inr (inl h)) = inr (inl (omega (arith, h)))
three_deeper i j (inr (inr h)) = inr (inr (ap suc h))

three_cases : (i j : ℕ) → (i < j) ⊎ ((j < i) ⊎ (i ≡ j))
three_cases zero zero = inr (inr refl)
three_cases zero (suc j) = inl (omega arith)
three_cases (suc i) zero = inr (inl (omega arith))
three_cases (suc i) (suc j) = three_deeper i j (three_cases i j)

one_number : (views : List Placed) (i j : ℕ) (to : Placed) → ((m n : ℕ) → m < n → slice_get views m ≡ Some to →
    slice_get views n ≡ Some to → ⊥) → slice_get views i ≡ Some to → slice_get views j ≡ Some to → i ≡ j
one_number views i j to apart one other = by (three_cases i j)
  where
    by : (i < j) ⊎ ((j < i) ⊎ (i ≡ j)) → i ≡ j
    by (inl less) = absurd (apart i j less one other)
    by (inr (inl less)) = absurd (apart j i less other one)
    by (inr (inr same)) = same

apart_at : (views : List Placed) (to : Placed) → AllPairs AreTwo views → (m n : ℕ) → m < n →
    slice_get views m ≡ Some to → slice_get views n ≡ Some to → ⊥
apart_at views to apart m n less one other =
    subst (λ y. AreTwo to y) (get_or_from_slice_get views n to to other)
    (subst (λ x. AreTwo x (get_or views n to)) (get_or_from_slice_get views m to to one)
    (apart m n to less (slice_get_within views n to other))) refl refl

-- ---- what the sentence says of it

optional_is : (views : List Placed) (own : Option RuleTargets) (pair : ℕ × ℕ) →
    option_and_then (stated_pair views) own ≡ Some pair →
    (x : RuleTargets) × (own ≡ Some x) × (stated_pair views x ≡ Some pair)
optional_is views None pair is = absurd (cc)
optional_is views (Some x) pair is = (x, refl, is)

class_of : (parts : PartTerms) (xs : List Found) (rule : RuleTerm) (own : RuleTargets) (n : ℕ) (class : Placed) →
    IsRuleTargets parts xs rule own → own.class ≡ Some n → slice_get (found_views xs) n ≡ Some class →
    IsOfClass parts rule class
class_of parts xs rule own n class is number at = (is.is_class class).0 (ap (numbered (found_views xs)) number ∙ at)

action_of : (parts : PartTerms) (xs : List Found) (rule : RuleTerm) (own : RuleTargets) (n : ℕ) (action : Placed) →
    IsRuleTargets parts xs rule own → own.action ≡ Some n → slice_get (found_views xs) n ≡ Some action →
    IsOfAction parts rule action
action_of parts xs rule own n action is number at =
    (is.is_action action).0 (ap (numbered (found_views xs)) number ∙ at)

to_twice : (parts : PartTerms) (xs : List Found) (targets : List RuleTargets) →
    AreEach (IsRuleTargets parts xs) parts.rules targets → (k : ℕ) (kind : LabelFault) (document token : ℕ) →
    AgainAt (found_views xs) parts.rules targets k kind document token → StatedTwice parts kind document token
to_twice parts xs targets each k kind document token fault =
    let own = optional_is (found_views xs) (slice_get targets k) fault.pair fault.is_for in
    let rule = beside_it (IsRuleTargets parts xs) parts.rules targets k own.0 each own.1 in
    let is : IsRuleTargets parts xs fault.rule own.0 = subst (λ r. IsRuleTargets parts xs r own.0)
    (same_Some rule.0 fault.rule (sym rule.1 ∙ fault.stands)) rule.2 in
    let before = earlier_one (found_views xs) targets k fault.pair fault.again in
    let first = beside_it (IsRuleTargets parts xs) parts.rules targets before.0 before.1 each before.3 in
    let pair = pair_is (found_views xs) own.0 fault.pair own.2 in
    let first_pair = pair_is (found_views xs) before.1 fault.pair before.4 in record {
      rule = fault.rule;
      twice = record {
        earlier = before.0;
        later = k;
        rising = before.2;
        first = first.0;
        is_first = first.1;
        is_later = fault.stands;
        class = pair.class;
        of_class = class_of parts xs fault.rule own.0 fault.pair.0 pair.class is pair.class_number pair.class_at;
        first_of_class = class_of parts xs first.0 before.1 fault.pair.0 pair.class first.2 first_pair.class_number
            pair.class_at;
        action = pair.action;
        of_action = action_of parts xs fault.rule own.0 fault.pair.1 pair.action is pair.action_number pair.action_at;
        first_of_action = action_of parts xs first.0 before.1 fault.pair.1 pair.action first.2
            first_pair.action_number pair.action_at;
      };
      is_in = fault.fault.1;
      is_at = fault.fault.2;
      is_wrong = fault.fault.0;
    }

from_twice : (parts : PartTerms) (xs : List Found) (targets : List RuleTargets) → AreTemplates parts xs →
    ArePlacedApart parts → AreEach (IsRuleTargets parts xs) parts.rules targets → (kind : LabelFault)
    (document token : ℕ) → StatedTwice parts kind document token →
    (k : ℕ) × AgainAt (found_views xs) parts.rules targets k kind document token
from_twice parts xs targets are apart each kind document token fault =
    let twice = fault.twice in
    let views = found_views xs in
    let own = beside (IsRuleTargets parts xs) parts.rules targets twice.later fault.rule each twice.is_later in
    let first = beside (IsRuleTargets parts xs) parts.rules targets twice.earlier twice.first each twice.is_first in
    let class = number_there views own.0.class twice.class ((own.2.is_class twice.class).1 twice.of_class) in
    let action = number_there views own.0.action twice.action ((own.2.is_action twice.action).1 twice.of_action) in
    let its_class = number_there views first.0.class twice.class
    ((first.2.is_class twice.class).1 twice.first_of_class) in
    let its_action = number_there views first.0.action twice.action
    ((first.2.is_action twice.action).1 twice.first_of_action) in
    let two = subst (AllPairs AreTwo) (sym are) apart in
    let same_class = one_number views its_class.0 class.0 twice.class (apart_at views twice.class two) its_class.2
    class.2 in
    let same_action = one_number views its_action.0 action.0 twice.action (apart_at views twice.action two)
    its_action.2 action.2 in (
      twice.later,
      record {
        rule = fault.rule;
        stands = twice.is_later;
        pair = (class.0, action.0);
        is_for = ap (option_and_then (stated_pair views)) own.1
            ∙ pair_as views own.0 class.0 action.0 twice.class twice.action class.1 class.2 action.1 action.2;
        again = stated_one views targets twice.later twice.earlier first.0 (class.0, action.0) twice.rising first.1
            (pair_as views first.0 class.0 action.0 twice.class twice.action (its_class.1 ∙ ap Some same_class) class.2
            (its_action.1 ∙ ap Some same_action) action.2);
        fault = (fault.is_wrong, fault.is_in, fault.is_at);
      },
    )

-- what is noted of all rules is what the sentence says
pub twice_noted : (parts : PartTerms) (xs : List Found) (rules : List RuleTerm) (targets : List RuleTargets)
    {one next : Option NotedFault} → AreTemplates parts xs → ArePlacedApart parts →
    AreEach (IsRuleTargets parts xs) parts.rules targets → rules ≡ parts.rules →
    Notes (AgainIn (found_views xs) rules targets) one next → Notes (StatedTwice parts) one next
twice_noted parts xs rules targets {one = one} {next = next} are apart each is h =
    noted_by (AgainIn (found_views xs) parts.rules targets) (StatedTwice parts)
    (λ kind d t fault. to_twice parts xs targets each fault.0 kind d t fault.1)
    (from_twice parts xs targets are apart each)
    (subst (λ rs. Notes (AgainIn (found_views xs) rs targets) one next) is h)

-- ---- the rules of sections, one behind the other

pub section_added : (section : Section) (x : RulesSection) (now next : List RuleTerm) → section ≡ Rules x →
    next ≡ now ++ map (rule_term x.document) x.rules.items → next ≡ now ++ section_rules section
section_added section x now next is told = told ∙ ap (λ (y : Section). now ++ section_rules y) (sym is)

pub section_without : (section : Section) (x : InstancesSection) (now : List RuleTerm) → section ≡ Instances x →
    now ≡ now ++ section_rules section
section_without section x now is =
    sym (append-nil now) ∙ ap (λ (y : Section). now ++ section_rules y) (sym is)

pub text_at : (texts : List RuleText) (i : ℕ) (x : RuleText) → i < length texts → x ≡ get_or texts i x →
    slice_get (rule_terms texts) i ≡ Some (text_term x)
text_at texts i x within is = slice_get-map text_term texts i
    ∙ ap (option_map text_term) (slice_get_read texts (length texts) i x refl within is)

pub no_pair : (stated : BTreeSet (ℕ × ℕ)) (other : ℕ × ℕ) → stated.keys ≡ [] → has_pair stated other ≡ false
no_pair stated other is = ap (list_any (is_at (pair_cmp other))) is

pub texts_step : (front : List RuleTerm) (document : ℕ) (xs : List Rule) (i : ℕ) (x : Rule) (now next : List RuleText)
    (text : RuleText) → i < length xs → x ≡ get_or xs i x → next ≡ now ++ text ∷ [] →
    text_term text ≡ rule_term document x → rule_terms now ≡ front ++ map (rule_term document) (take i xs) →
    rule_terms next ≡ front ++ map (rule_term document) (take (i + 1) xs)
texts_step front document xs i x now next text within is pushed told so_far = ap rule_terms pushed
    ∙ map-append text_term now (text ∷ [])
    ∙ ap (λ rs. rs ++ text_term text ∷ []) so_far
    ∙ append_assoc front (map (rule_term document) (take i xs)) (text_term text ∷ [])
    ∙ ap (λ r. front ++ (map (rule_term document) (take i xs) ++ r ∷ [])) told
    ∙ ap (λ rs. front ++ rs) (sym (map_more (rule_term document) xs i x within is))

pub texts_end : (front : List RuleTerm) (document : ℕ) (xs : List Rule) (i : ℕ) (now : List RuleText) → length xs ≤ i →
    rule_terms now ≡ front ++ map (rule_term document) (take i xs) →
    rule_terms now ≡ front ++ map (rule_term document) xs
texts_end front document xs i now past so_far =
    so_far ∙ ap (λ ys. front ++ map (rule_term document) ys) (take_all i xs past)

pub sections_next : (sections : List Section) (i : ℕ) (x : Section) (now next : List RuleTerm) → i < length sections →
    x ≡ get_or sections i x → next ≡ now ++ section_rules x → now ≡ flat_map section_rules (take i sections) →
    next ≡ flat_map section_rules (take (i + 1) sections)
sections_next sections i x now next within is told so_far =
    told ∙ ap (λ rs. rs ++ section_rules x) so_far ∙ sym (flat_more section_rules sections i x within is)

pub sections_all : (sections : List Section) (i : ℕ) (now : List RuleTerm) → length sections ≤ i →
    now ≡ flat_map section_rules (take i sections) → now ≡ flat_map section_rules sections
sections_all sections i now past so_far = so_far ∙ ap (flat_map section_rules) (take_all i sections past)
