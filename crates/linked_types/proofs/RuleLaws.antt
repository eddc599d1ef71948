-- RuleLaws: the rules of attributes, taken in an order in which each stands behind its base (X.722, section 8.7).
use Rattle.std.proofs.Common.{◌≡◌, ◌⊎◌, ◌∙◌, ◌<◌, ◌≤◌, ◌+◌, ℕ, zero, suc, List, [], ◌∷◌, Option, None, Some, refl, sym}
use Rattle.std.proofs.Common.{inl, inr, ap}
use Rattle.std.proofs.Common.{arith, length, map}
use Rattle.std.specs.Prelude.{◌||◌, Bool, true, false, codes, option_map, slice_get, slice_set}
use Rattle.std.proofs.Math.Path.{subst}
use Rattle.std.proofs.lemmas.Bool.{cases_lt}
use Rattle.std.proofs.lemmas.List.{length-map, length-set}
use Rattle.std.proofs.lemmas.Option.{slice_get_within}
use Rattle.term_values.specs.declared.rules.Rules.{Rules}
use Rattle.token_grammar.specs.declared.token.Token.{Token}
use Rattle.link_graphs.specs.Cycles.{IsBehindTargets}
use Rattle.link_graphs.specs.Leading.{Leads, LeadsAtOnce, Reaches, targets_of}
use Rattle.link_graphs.specs.Leading.Leads.{at_once}
use Rattle.linked_parts.specs.declared.linked.Linked.{Linked}
use Rattle.linked_parts.specs.declared.linked.LinkedAttribute.{LinkedAttribute}
use Rattle.linked_parts.specs.declared.linked.LinkedSyntax.{LinkedSyntax}
use Rattle.linked_parts.specs.declared.linked.LinkedSyntax.TheVariants.{OfAttribute, OfType}
use Rattle.class_faults.specs.AttributeSyntaxes.{HasRuleCalled, attribute_bases, bases_of}
use Rattle.class_faults.specs.AttributeSyntaxes.HasRuleCalled.{of_base, own}
use Rattle.linked_types.specs.AttributeRules.{AreAttributeRules, ReachesNoCycle, TellsRule, has_word}
use Rattle.linked_types.specs.RuleSteps.{base_rules, either_rules, rules_now, set_where, stated_rules, stepped_rules}
use Rattle.linked_types.specs.RuleSteps.{with_base}
use Rattle.link_graphs.proofs.LeadingLaws.{leads_on}
use Rattle.linked_types.proofs.TableLaws.{some_is, there_once}

-- one of the rules: its word, and whether it is told
pub record IsRule (word : List ℕ) (told : Rules → Bool) : Type 0 where
  pub stated : (words : List Token) → told (stated_rules words) ≡ has_word word words
  pub either : (one other : Rules) → told (either_rules one other) ≡ (told one || told other)

-- ---- tests

or_left : (a b : Bool) → a ≡ true → (a || b) ≡ true
or_left a b is = ap (λ x. x || b) is

or_right : (a b : Bool) → b ≡ true → (a || b) ≡ true
or_right true b is = refl
or_right false b is = is

or_cases : (a b : Bool) → (a || b) ≡ true → (a ≡ true) ⊎ (b ≡ true)
or_cases true b is = inl refl
or_cases false b is = inr is

-- ---- elements that are set

get_same : {A : Type 0} (xs : List A) (i : ℕ) (y : A) → i < length xs → slice_get (slice_set xs i y) i ≡ Some y
get_same [] i y h = absurd (omega arith)
get_same (x ∷ xs) zero y h = refl
get_same (x ∷ xs) (suc i) y h = get_same xs i y (omega arith)

get_other : {A : Type 0} (xs : List A) (i j : ℕ) (y : A) → (j ≡ i → ⊥) → slice_get (slice_set xs i y) j ≡ slice_get xs j
get_other [] i j y h = refl
get_other (x ∷ xs) zero zero y h = absurd (h refl)
get_other (x ∷ xs) zero (suc j) y h = refl
get_other (x ∷ xs) (suc i) zero y h = refl
get_other (x ∷ xs) (suc i) (suc j) y h = get_other xs i j y (λ e. h (ap suc e))

get_set : {A : Type 0} (xs : List A) (i j : ℕ) (y x : A) → slice_get (slice_set xs i y) j ≡ Some x →
    ((j ≡ i) × (y ≡ x)) ⊎ ((j ≡ i → ⊥) × (slice_get xs j ≡ Some x))
get_set [] i j y x is = absurd (cc)
get_set (z ∷ zs) zero zero y x is = inl (refl, some_is y x is)
get_set (z ∷ zs) zero (suc j) y x is = inr (λ e. absurd (cc), is)
get_set (z ∷ zs) (suc i) zero y x is = inr (λ e. absurd (cc), is)
get_set (z ∷ zs) (suc i) (suc j) y x is = deeper (get_set zs i j y x is)
  where
    deeper : ((j ≡ i) × (y ≡ x)) ⊎ ((j ≡ i → ⊥) × (slice_get zs j ≡ Some x)) →
        ((suc j ≡ suc i) × (y ≡ x)) ⊎ ((suc j ≡ suc i → ⊥) × (slice_get (z ∷ zs) (suc j) ≡ Some x))
    deeper (inl h) = inl (ap suc h.0, h.1)
    deeper (inr h) = inr (λ e. h.0 (omega (arith, e)), h.1)

there_of : {A : Type 0} (xs : List A) (k : ℕ) → k < length xs → (x : A) × (slice_get xs k ≡ Some x)
there_of [] k h = absurd (omega arith)
there_of (x ∷ xs) zero h = (x, refl)
there_of (x ∷ xs) (suc k) h = there_of xs k (omega arith)

get_map : {A B : Type 0} (f : A → B) (xs : List A) (k : ℕ) (y : B) → slice_get (map f xs) k ≡ Some y →
    (x : A) × ((slice_get xs k ≡ Some x) × (f x ≡ y))
get_map f [] k y is = absurd (cc)
get_map f (x ∷ xs) zero y is = (x, (refl, some_is (f x) y is))
get_map f (x ∷ xs) (suc k) y is = get_map f xs k y is

-- ---- the base of an attribute

targets_there : (xs : List LinkedAttribute) (k : ℕ) (x : LinkedAttribute) → slice_get xs k ≡ Some x →
    targets_of (map (λ (y : LinkedAttribute). bases_of y.syntax) xs) k ≡ bases_of x.syntax
targets_there [] k x h = absurd (cc)
targets_there (y ∷ ys) zero x h = ap (λ (z : LinkedAttribute). bases_of z.syntax) (some_is y x h)
targets_there (y ∷ ys) (suc k) x h = targets_there ys k x h

pub base_led : (linked : Linked) (k b : ℕ) (x : LinkedAttribute) → slice_get linked.attributes.items k ≡ Some x →
    x.syntax ≡ OfAttribute b → b < length linked.attributes.items → LeadsAtOnce (attribute_bases linked) k b
base_led linked k b x at is within = record {
  place = 0;
  stands = subst (λ ts. slice_get ts 0 ≡ Some b)
      (sym (targets_there linked.attributes.items k x at ∙ ap bases_of is)) refl;
  within = let l = length-map linked.attributes.items (λ (y : LinkedAttribute). bases_of y.syntax) in omega arith;
}

-- ---- one rule of all attributes, when those before a place of the order were joined with their bases

pub record OneSoFar (linked : Linked) (order : List ℕ) (i : ℕ) (rules : List Rules) (word : List ℕ) (told : Rules →
    Bool)
    : Type 0 where
  pub stated : (k : ℕ) (x : LinkedAttribute) (r : Rules) → slice_get linked.attributes.items k ≡ Some x →
      slice_get rules k ≡ Some r → has_word word x.rules.items ≡ true → told r ≡ true
  pub sound : (k : ℕ) (r : Rules) → slice_get rules k ≡ Some r → told r ≡ true → HasRuleCalled linked word k
  pub joined : (j k b : ℕ) (x : LinkedAttribute) (r s : Rules) → j < i → slice_get order j ≡ Some k →
      ¬ Leads (attribute_bases linked) k k → slice_get linked.attributes.items k ≡ Some x → x.syntax ≡ OfAttribute b →
      slice_get rules k ≡ Some r → slice_get rules b ≡ Some s → told s ≡ true → told r ≡ true

pub one_first : (linked : Linked) (order : List ℕ) (word : List ℕ) (told : Rules → Bool) → IsRule word told →
    OneSoFar linked order 0 (map (λ (x : LinkedAttribute). stated_rules x.rules.items) linked.attributes.items) word
    told
one_first linked order word told rule = record {
  stated = λ k x r at got has.
      let m = get_map (λ (y : LinkedAttribute). stated_rules y.rules.items) linked.attributes.items k r got in
      let same = there_once (slice_get linked.attributes.items k) m.0 x m.1.0 at in
      ap told (sym m.1.1 ∙ ap (λ (y : LinkedAttribute). stated_rules y.rules.items) same) ∙ rule.stated x.rules.items
      ∙ has;
  sound = λ k r got has.
      let m = get_map (λ (y : LinkedAttribute). stated_rules y.rules.items) linked.attributes.items k r got in
      own m.1.0 (sym (rule.stated m.0.rules.items) ∙ ap told m.1.1 ∙ has);
  joined = λ j k b x r s less. absurd (omega arith);
}

-- what an attribute is told from its own words and from its base
now_stated : (word : List ℕ) (told : Rules → Bool) → IsRule word told → (known : List Rules) (x : LinkedAttribute) →
    has_word word x.rules.items ≡ true → told (rules_now known x) ≡ true
now_stated word told rule known x has = by (base_rules known x.syntax)
  where
    by : (o : Option Rules) → told (with_base (stated_rules x.rules.items) o) ≡ true
    by None = rule.stated x.rules.items ∙ has
    by (Some r) = rule.either (stated_rules x.rules.items) r
        ∙ or_left (told (stated_rules x.rules.items)) (told r) (rule.stated x.rules.items ∙ has)

now_joined : (word : List ℕ) (told : Rules → Bool) → IsRule word told →
    (known : List Rules) (x : LinkedAttribute) (b : ℕ)
    (s : Rules) → x.syntax ≡ OfAttribute b → slice_get known b ≡ Some s → told s ≡ true →
    told (rules_now known x) ≡ true
now_joined word told rule known x b s is got has =
    ap (λ o. told (with_base (stated_rules x.rules.items) o)) (ap (base_rules known) is ∙ got)
    ∙ rule.either (stated_rules x.rules.items) s ∙ or_right (told (stated_rules x.rules.items)) (told s) has

now_sound : (linked : Linked) (word : List ℕ) (told : Rules → Bool) → IsRule word told → (known : List Rules) →
    ((k : ℕ) (r : Rules) → slice_get known k ≡ Some r → told r ≡ true → HasRuleCalled linked word k) → (k : ℕ)
    (x : LinkedAttribute) → slice_get linked.attributes.items k ≡ Some x → told (rules_now known x) ≡ true →
    HasRuleCalled linked word k
now_sound linked word told rule known sound k x at has = of_syntax x.syntax refl
  where
    stated : told (stated_rules x.rules.items) ≡ true → HasRuleCalled linked word k
    stated h = own at (sym (rule.stated x.rules.items) ∙ h)

    by : (b : ℕ) → x.syntax ≡ OfAttribute b → (o : Option Rules) → slice_get known b ≡ o →
        told (with_base (stated_rules x.rules.items) o) ≡ true → HasRuleCalled linked word k
    by b is None got h = stated h
    by b is (Some r) got h = either_of (or_cases (told (stated_rules x.rules.items)) (told r)
        (sym (rule.either (stated_rules x.rules.items) r) ∙ h))
      where
        either_of : (told (stated_rules x.rules.items) ≡ true) ⊎ (told r ≡ true) → HasRuleCalled linked word k
        either_of (inl a) = stated a
        either_of (inr a) = of_base at is (sound b r got a)

    of_syntax : (s : LinkedSyntax) → x.syntax ≡ s → HasRuleCalled linked word k
    of_syntax (OfType name) is =
        stated (sym (ap (λ s. told (with_base (stated_rules x.rules.items) (base_rules known s))) is) ∙ has)
    of_syntax (OfAttribute b) is = by b is (slice_get known b) refl
        (sym (ap (λ s. told (with_base (stated_rules x.rules.items) (base_rules known s))) is) ∙ has)

-- one more attribute is joined with its base
pub one_set : (linked : Linked) (order : List ℕ) (i place : ℕ) (rules : List Rules) (word : List ℕ)
    (told : Rules → Bool) (x : LinkedAttribute) → IsRule word told → IsBehindTargets (attribute_bases linked) order →
    length rules ≡ length linked.attributes.items → slice_get order i ≡ Some place →
    slice_get linked.attributes.items place ≡ Some x → OneSoFar linked order i rules word told →
    OneSoFar linked order (i + 1) (slice_set rules place (rules_now rules x)) word told
one_set linked order i place rules word told x rule behind size here at so_far = record {
  stated = λ k y r there got has. by_stated k y r there has (get_set rules place k (rules_now rules x) r got);
  sound = λ k r got has. by_sound k r has (get_set rules place k (rules_now rules x) r got);
  joined = λ j k b y r s less order_at acyclic there is got base_got has. by_joined j k b y r s less order_at acyclic
      there
      is (get_set rules place k (rules_now rules x) r got)
      (get_set rules place b (rules_now rules x) s base_got) has;
}
  where
    same_item : (k : ℕ) (y : LinkedAttribute) → slice_get linked.attributes.items k ≡ Some y → k ≡ place → y ≡ x
    same_item k y there same = there_once (slice_get linked.attributes.items place) y x
        (subst (λ n. slice_get linked.attributes.items n ≡ Some y) same there) at

    by_stated : (k : ℕ) (y : LinkedAttribute) (r : Rules) → slice_get linked.attributes.items k ≡ Some y →
        has_word word y.rules.items ≡ true → ((k ≡ place) × (rules_now rules x ≡ r))
        ⊎ ((k ≡ place → ⊥) × (slice_get rules k ≡ Some r)) → told r ≡ true
    by_stated k y r there has (inl h) =
        sym (ap told h.1) ∙ now_stated word told rule rules x
        (sym (ap (λ (z : LinkedAttribute). has_word word z.rules.items) (same_item k y there h.0)) ∙ has)
    by_stated k y r there has (inr h) = so_far.stated k y r there h.1 has

    by_sound : (k : ℕ) (r : Rules) → told r ≡ true → ((k ≡ place) × (rules_now rules x ≡ r))
        ⊎ ((k ≡ place → ⊥) × (slice_get rules k ≡ Some r)) → HasRuleCalled linked word k
    by_sound k r has (inl h) = subst (HasRuleCalled linked word) (sym h.0)
        (now_sound linked word told rule rules so_far.sound place x at (ap told h.1 ∙ has))
    by_sound k r has (inr h) = so_far.sound k r h.1 has

    by_joined : (j k b : ℕ) (y : LinkedAttribute) (r s : Rules) → j < i + 1 → slice_get order j ≡ Some k →
        ¬ Leads (attribute_bases linked) k k → slice_get linked.attributes.items k ≡ Some y → y.syntax ≡ OfAttribute b →
        ((k ≡ place) × (rules_now rules x ≡ r)) ⊎ ((k ≡ place → ⊥) × (slice_get rules k ≡ Some r)) →
        ((b ≡ place) × (rules_now rules x ≡ s)) ⊎ ((b ≡ place → ⊥) × (slice_get rules b ≡ Some s)) →
        told s ≡ true → told r ≡ true
    by_joined j k b y r s less order_at acyclic there is (inl h) (inl g) has =
        sym (ap told h.1) ∙ ap told g.1 ∙ has
    by_joined j k b y r s less order_at acyclic there is (inl h) (inr g) has =
        sym (ap told h.1) ∙ now_joined word told rule rules x b s
        (sym (ap (λ (z : LinkedAttribute). z.syntax) (same_item k y there h.0)) ∙ is) g.1 has
    by_joined j k b y r s less order_at acyclic there is (inr h) (inr g) has =
        so_far.joined j k b y r s (earlier (cases_lt j i)) order_at acyclic there is h.1 g.1 has
      where
        earlier : (j < i) ⊎ (i ≤ j) → j < i
        earlier (inl l) = l
        earlier (inr m) =
            let e : i ≡ j = omega arith in
            absurd (h.0 (there_once (slice_get order j) k place order_at
            (subst (λ n. slice_get order n ≡ Some place) e here)))
    by_joined j k b y r s less order_at acyclic there is (inr h) (inl g) has =
        let within : b < length linked.attributes.items =
        let w = slice_get_within linked.attributes.items place x at in let e = g.0 in omega arith in
        let stood = behind.behind j k b order_at acyclic (base_led linked k b y there is within) in
        let same = behind.once stood.0 i b stood.2 (subst (λ n. slice_get order i ≡ Some n) (sym g.0) here) in
        let l = stood.1 in
        let same_place : j ≡ i → k ≡ place = λ e. there_once (slice_get order i) k place
        (subst (λ n. slice_get order n ≡ Some k) e order_at) here in
        absurd (h.0 (same_place (omega arith)))

-- an element of the order without an attribute changes nothing
pub one_skipped : (linked : Linked) (order : List ℕ) (i place : ℕ) (rules : List Rules) (word : List ℕ)
    (told : Rules → Bool) → slice_get order i ≡ Some place → slice_get linked.attributes.items place ≡ None →
    OneSoFar linked order i rules word told → OneSoFar linked order (i + 1) rules word told
one_skipped linked order i place rules word told here gone so_far = record {
  stated = so_far.stated;
  sound = so_far.sound;
  joined = λ j k b y r s less order_at acyclic there. by j k b y r s less order_at acyclic there (cases_lt j i);
}
  where
    by : (j k b : ℕ) (y : LinkedAttribute) (r s : Rules) → j < i + 1 → slice_get order j ≡ Some k →
        ¬ Leads (attribute_bases linked) k k → slice_get linked.attributes.items k ≡ Some y → (j < i) ⊎ (i ≤ j) →
        y.syntax ≡ OfAttribute b → slice_get rules k ≡ Some r → slice_get rules b ≡ Some s → told s ≡ true →
        told r ≡ true
    by j k b y r s less order_at acyclic there (inl l) = so_far.joined j k b y r s l order_at acyclic there
    by j k b y r s less order_at acyclic there (inr m) =
        let e : j ≡ i = omega arith in
        let same = there_once (slice_get order i) k place (subst (λ n. slice_get order n ≡ Some k) e order_at) here in
        absurd (apart (subst (λ n. slice_get linked.attributes.items n ≡ Some y) same there))
      where
        apart : slice_get linked.attributes.items place ≡ Some y → ⊥
        apart p = absurd (cc)

-- ---- at the end

reaches_base : {lists : List (List ℕ)} {k b t : ℕ} → LeadsAtOnce lists k b → Reaches lists b t → Reaches lists k t
reaches_base {lists} {k} {b} one (inl same) = inr (at_once (subst (λ n. LeadsAtOnce lists k n) same one))
reaches_base one (inr d) = inr (leads_on (at_once one) d)

rule_within : {linked : Linked} {word : List ℕ} {k : ℕ} → HasRuleCalled linked word k →
    k < length linked.attributes.items
rule_within {linked} (own {k = k} {x = x} at has) = slice_get_within linked.attributes.items k x at
rule_within {linked} (of_base {k = k} {x = x} at is has) = slice_get_within linked.attributes.items k x at

pub one_whole : (linked : Linked) (order : List ℕ) (i : ℕ) (rules : List Rules) (word : List ℕ) (told : Rules → Bool) →
    IsBehindTargets (attribute_bases linked) order → length rules ≡ length linked.attributes.items → length order ≤ i →
    OneSoFar linked order i rules word told → (k : ℕ) (r : Rules) → slice_get rules k ≡ Some r →
    ReachesNoCycle linked k → TellsRule linked word k (told r)
one_whole linked order i rules word told behind size past so_far k r got acyclic =
    (so_far.sound k r got, λ has. whole has r got acyclic)
  where
    whole : {k : ℕ} → HasRuleCalled linked word k → (r : Rules) → slice_get rules k ≡ Some r → ReachesNoCycle linked k →
        told r ≡ true
    whole (own {k = k} {x = x} at has) r got acyclic = so_far.stated k x r at got has
    whole (of_base {k = k} {base = b} {x = x} at is has) r got acyclic =
        let within = rule_within has in
        let led = base_led linked k b x at is within in
        let s = there_of rules b (omega arith) in
        let there = slice_get_within linked.attributes.items k x at in
        let l = length-map linked.attributes.items (λ (y : LinkedAttribute). bases_of y.syntax) in
        let stood = behind.every k (omega arith) in
        let low = slice_get_within order stood.0 k stood.1 in
        so_far.joined stood.0 k b x r s.0 (omega arith) stood.1 (acyclic k (inl refl)) at is got s.1
        (whole has s.0 s.1 (λ t reaches. acyclic t (reaches_base led reaches)))

-- ---- all five

pub record AllSoFar (linked : Linked) (order : List ℕ) (i : ℕ) (rules : List Rules) : Type 0 where
  pub size : length rules ≡ length linked.attributes.items
  pub equality : OneSoFar linked order i rules (codes "EQUALITY") (λ r. r.equality)
  pub ordering : OneSoFar linked order i rules (codes "ORDERING") (λ r. r.ordering)
  pub substrings : OneSoFar linked order i rules (codes "SUBSTRINGS") (λ r. r.substrings)
  pub comparison : OneSoFar linked order i rules (codes "SET-COMPARISON") (λ r. r.comparison)
  pub intersection : OneSoFar linked order i rules (codes "SET-INTERSECTION") (λ r. r.intersection)

is_equality : IsRule (codes "EQUALITY") (λ r. r.equality)
is_equality = record { stated = λ words. refl; either = λ one other. refl }

is_ordering : IsRule (codes "ORDERING") (λ r. r.ordering)
is_ordering = record { stated = λ words. refl; either = λ one other. refl }

is_substrings : IsRule (codes "SUBSTRINGS") (λ r. r.substrings)
is_substrings = record { stated = λ words. refl; either = λ one other. refl }

is_comparison : IsRule (codes "SET-COMPARISON") (λ r. r.comparison)
is_comparison = record { stated = λ words. refl; either = λ one other. refl }

is_intersection : IsRule (codes "SET-INTERSECTION") (λ r. r.intersection)
is_intersection = record { stated = λ words. refl; either = λ one other. refl }

pub all_first : (linked : Linked) (order : List ℕ) (rules : List Rules) →
    rules ≡ map (λ (x : LinkedAttribute). stated_rules x.rules.items) linked.attributes.items →
    AllSoFar linked order 0 rules
all_first linked order rules is = subst (AllSoFar linked order 0) (sym is) (record {
  size = length-map linked.attributes.items (λ (x : LinkedAttribute). stated_rules x.rules.items);
  equality = one_first linked order (codes "EQUALITY") (λ r. r.equality) is_equality;
  ordering = one_first linked order (codes "ORDERING") (λ r. r.ordering) is_ordering;
  substrings = one_first linked order (codes "SUBSTRINGS") (λ r. r.substrings) is_substrings;
  comparison = one_first linked order (codes "SET-COMPARISON") (λ r. r.comparison) is_comparison;
  intersection = one_first linked order (codes "SET-INTERSECTION") (λ r. r.intersection) is_intersection;
})

all_set : (linked : Linked) (order : List ℕ) (i place : ℕ) (rules : List Rules) (x : LinkedAttribute) →
    IsBehindTargets (attribute_bases linked) order → slice_get order i ≡ Some place →
    slice_get linked.attributes.items place ≡ Some x → AllSoFar linked order i rules →
    AllSoFar linked order (i + 1) (slice_set rules place (rules_now rules x))
all_set linked order i place rules x behind here at all = record {
  size = length-set rules place (rules_now rules x) ∙ all.size;
  equality = one_set linked order i place rules (codes "EQUALITY") (λ r. r.equality) x is_equality behind all.size
      here at
      all.equality;
  ordering = one_set linked order i place rules (codes "ORDERING") (λ r. r.ordering) x is_ordering behind all.size
      here at
      all.ordering;
  substrings = one_set linked order i place rules (codes "SUBSTRINGS") (λ r. r.substrings) x is_substrings behind
      all.size
      here at all.substrings;
  comparison = one_set linked order i place rules (codes "SET-COMPARISON") (λ r. r.comparison) x is_comparison behind
      all.size here at all.comparison;
  intersection = one_set linked order i place rules (codes "SET-INTERSECTION") (λ r. r.intersection) x is_intersection
      behind all.size here at all.intersection;
}

all_skipped : (linked : Linked) (order : List ℕ) (i place : ℕ) (rules : List Rules) → slice_get order i ≡ Some place →
    slice_get linked.attributes.items place ≡ None → AllSoFar linked order i rules → AllSoFar linked order (i + 1) rules
all_skipped linked order i place rules here gone all = record {
  size = all.size;
  equality = one_skipped linked order i place rules (codes "EQUALITY") (λ r. r.equality) here gone all.equality;
  ordering = one_skipped linked order i place rules (codes "ORDERING") (λ r. r.ordering) here gone all.ordering;
  substrings = one_skipped linked order i place rules (codes "SUBSTRINGS") (λ r. r.substrings) here gone all.substrings;
  comparison = one_skipped linked order i place rules (codes "SET-COMPARISON") (λ r. r.comparison) here gone
      all.comparison;
  intersection = one_skipped linked order i place rules (codes "SET-INTERSECTION") (λ r. r.intersection) here gone
      all.intersection;
}

pub all_step : (linked : Linked) (order : List ℕ) (i place : ℕ) (rules after : List Rules) →
    IsBehindTargets (attribute_bases linked) order → slice_get order i ≡ Some place →
    after ≡ stepped_rules linked.attributes.items rules place → AllSoFar linked order i rules →
    AllSoFar linked order (i + 1) after
all_step linked order i place rules after behind here is all = subst (AllSoFar linked order (i + 1)) (sym is)
    (by (slice_get linked.attributes.items place) refl)
  where
    by : (o : Option LinkedAttribute) → slice_get linked.attributes.items place ≡ o →
        AllSoFar linked order (i + 1) (set_where rules place (option_map (rules_now rules) o))
    by None gone = all_skipped linked order i place rules here gone all
    by (Some x) at = all_set linked order i place rules x behind here at all

pub all_whole : (linked : Linked) (order : List ℕ) (i : ℕ) (rules : List Rules) →
    IsBehindTargets (attribute_bases linked) order → length order ≤ i → AllSoFar linked order i rules →
    AreAttributeRules linked rules
all_whole linked order i rules behind past all = record {
  size = all.size;
  told = λ k r got acyclic. record {
    equality = one_whole linked order i rules (codes "EQUALITY") (λ x. x.equality) behind all.size past all.equality k r
        got acyclic;
    ordering = one_whole linked order i rules (codes "ORDERING") (λ x. x.ordering) behind all.size past all.ordering k r
        got acyclic;
    substrings = one_whole linked order i rules (codes "SUBSTRINGS") (λ x. x.substrings) behind all.size past
        all.substrings k r got acyclic;
    comparison = one_whole linked order i rules (codes "SET-COMPARISON") (λ x. x.comparison) behind all.size past
        all.comparison k r got acyclic;
    intersection = one_whole linked order i rules (codes "SET-INTERSECTION") (λ x. x.intersection) behind all.size past
        all.intersection k r got acyclic;
  };
}
