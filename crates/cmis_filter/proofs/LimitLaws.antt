-- The tests of a tree tell whether the filter that it gives is within the limits.
use Rattle.std.proofs.Common.{◌≡◌, ℕ, zero, suc, ◌+◌, ◌-◌, ◌<◌, ◌≤◌, max, List, false, Option, None, Some}
use Rattle.std.proofs.Common.{not, refl, ap, sym, ◌∙◌, subst, ⊎_elim, arith}
use Rattle.std.specs.Prelude.{◌==◌, ◌&&◌, ◌||◌, nat_lt, nat_le, IfSome, is_some, option_and_then, if◌then◌else◌}
use Rattle.std.proofs.lemmas.Bool.{cases_lt, le-leb, le-ltb, lt-leb, lt-ltb, ne_eqb, or_left}
use Rattle.term_values.specs.FilterTrees.{is_context}
use Rattle.term_values.specs.Tag.{context}
use Rattle.term_values.specs.Tree.{TreeValue, TreeValues}
use Rattle.term_values.specs.Tree.TreeValue.{Primitive, Constructed}
use Rattle.term_values.specs.Tree.TreeValues.{Nothing, Then}
use Rattle.term_values.specs.declared.tag.Tag.{Tag}
use Rattle.term_model.specs.declared.filter_item.Item.{Item}
use Rattle.term_model.specs.declared.schema.AttrRec.{AttrRec}
use Rattle.term_model.specs.FilterLimits.{is_within_limits, item_count, item_counts, levels, most_levels}
use Rattle.term_model.specs.FilterReading.{filter_in, filters_in, one_filter_in, one_item_in}
use Rattle.term_model.specs.FilterTrees.{FilterTree, FilterTrees}
use Rattle.term_model.specs.FilterTrees.FilterTree.{OfItem, And, Or, Not}
use Rattle.term_model.specs.FilterTrees.FilterTrees.{Then as AndFilters}
use Rattle.cmis_filter.specs.TreeLimits.{all_items_left, is_deeper, is_large, is_some_deeper, items_left}
use Rattle.cmis_filter.proofs.TagTests.{at, if_both, if_mapped, if_same, or_nothing}

-- ---- numbers

test_same : (a b c d : ℕ) → (a < b → c < d) → (b ≤ a → d ≤ c) → nat_lt a b ≡ nat_lt c d
test_same a b c d below above =
    ⊎_elim (λ (h : a < b). lt-ltb a b h ∙ sym (lt-ltb c d (below h)))
    (λ (h : b ≤ a). le-ltb a b h ∙ sym (le-ltb c d (above h)))
    (cases_lt a b)

one_level : (most n : ℕ) → (most == 0 || nat_lt (most - 1) n) ≡ nat_lt most (suc n)
one_level zero n = sym (lt-ltb 0 (suc n) (omega arith))
one_level (suc m) n =
    rw (ne_eqb (suc m) 0 (λ e. absurd (omega (arith, e))))
    (test_same (suc m - 1) n (suc m) (suc n) (λ h. omega (arith, h)) (λ h. omega (arith, h)))

most_of_two : (most a b : ℕ) → (nat_lt most a || nat_lt most b) ≡ nat_lt most (max a b)
most_of_two most a b =
    ⊎_elim
    (λ (h : most < a). or_left (nat_lt most a) (nat_lt most b) (lt-ltb most a h)
    ∙ sym (lt-ltb most (max a b) (omega (arith, h))))
    (λ (h : a ≤ most). rw (le-ltb most a h)
    (test_same most b most (max a b) (λ k. omega (arith, k)) (λ k. omega (arith, h, k))))
    (cases_lt most a)

-- what is left of so many once some are taken
abbrev left_of : ℕ → ℕ → Option ℕ
left_of most n = if nat_lt most n then None else Some (most - n)

one_left : (most : ℕ) → (if most == 0 then None else Some (most - 1)) ≡ left_of most 1
one_left zero = refl
one_left (suc m) = rw (ne_eqb (suc m) 0 (λ e. absurd (omega (arith, e))), le-ltb (suc m) 1 (omega arith)) refl

nothing_taken : (most : ℕ) → Some most ≡ left_of most 0
nothing_taken most = rw (le-ltb most 0 (omega arith)) (ap Some (omega arith))

taken_twice : (most a b : ℕ) → option_and_then (λ left. left_of left b) (left_of most a) ≡ left_of most (a + b)
taken_twice most a b =
    ⊎_elim
    (λ (h : most < a). rw (lt-ltb most a h, lt-ltb most (a + b) (omega (arith, h))) refl)
    (λ (h : a ≤ most). rw (le-ltb most a h)
    (⊎_elim
    (λ (k : (most - a) < b). rw (lt-ltb (most - a) b k, lt-ltb most (a + b) (omega (arith, h, k))) refl)
    (λ (k : b ≤ (most - a)). rw (le-ltb (most - a) b k, le-ltb most (a + b) (omega (arith, h, k)))
    (ap Some (omega (arith, h, k))))
    (cases_lt (most - a) b)))
    (cases_lt most a)

then_some : {A : Type 0} (o : Option A) → option_and_then (λ x. Some x) o ≡ o
then_some None = refl
then_some (Some x) = refl

all_taken : (f : ℕ → Option ℕ) (b : ℕ) → ((left : ℕ) → f left ≡ left_of left b) → (o : Option ℕ)
    → option_and_then f o ≡ option_and_then (λ left. left_of left b) o
all_taken f b is None = refl
all_taken f b is (Some left) = is left

is_left : (most n : ℕ) → is_some (left_of most n) ≡ nat_le n most
is_left most n =
    ⊎_elim (λ (h : most < n). rw (lt-ltb most n h, lt-leb n most h) refl)
    (λ (h : n ≤ most). rw (le-ltb most n h, le-leb n most h) refl)
    (cases_lt most n)

both_limits : (a n b m : ℕ) → (nat_lt a n || not (nat_le m b)) ≡ not (nat_le n a && nat_le m b)
both_limits a n b m =
    ⊎_elim (λ (h : a < n). rw (lt-ltb a n h, lt-leb n a h) refl)
    (λ (h : n ≤ a). rw (le-ltb a n h, le-leb n a h) refl)
    (cases_lt a n)

-- ---- trees and the filters that they give

pub record Counted (tree : TreeValue) (filter : FilterTree) : Type 0 where
  deep : (most : ℕ) → is_deeper most tree ≡ nat_lt most (levels filter)
  many : (most : ℕ) → items_left most tree ≡ left_of most (item_count filter)

-- of trees of which the filters have so many levels at most and so many items together
record Within (trees : TreeValues) (deepest together : ℕ) : Type 0 where
  deep : (most : ℕ) → is_some_deeper most trees ≡ nat_lt most deepest
  many : (most : ℕ) → all_items_left most trees ≡ left_of most together

item_counted : (inside : TreeValues) (item : Item) → Counted (Constructed (context 8) inside) (OfItem item)
item_counted inside item = record {
  deep = λ most. ap (λ b. most == 0 || b) (sym (le-ltb (most - 1) 0 (omega arith))) ∙ one_level most 0;
  many = one_left;
}

-- one level more than the filters inside
outer : (tag : Tag) (inside : TreeValues) (filter : FilterTree) (deepest together : ℕ)
    → is_context 8 tag ≡ false → Within inside deepest together
    → levels filter ≡ suc deepest → item_count filter ≡ together → Counted (Constructed tag inside) filter
outer tag inside filter deepest together other within height count = record {
  deep = λ most. rw (other, height) (ap (λ b. most == 0 || b) (within.deep (most - 1)) ∙ one_level most deepest);
  many = λ most. rw (other, count) (within.many most);
}

first_and_others : (x : TreeValue) (xs : TreeValues) (filter : FilterTree) (filters : FilterTrees) → Counted x filter
    → Within xs (most_levels filters) (item_counts filters)
    → Within (Then x xs) (max (levels filter) (most_levels filters)) (item_count filter + item_counts filters)
first_and_others x xs filter filters p q = record {
  deep = λ most. rw (p.deep most, q.deep most) (most_of_two most (levels filter) (most_levels filters));
  many = λ most. rw (p.many most)
      (all_taken (λ left. all_items_left left xs) (item_counts filters) q.many (left_of most (item_count filter))
      ∙ taken_twice most (item_count filter) (item_counts filters));
}

one_alone : (x : TreeValue) (filter : FilterTree) → Counted x filter
    → Within (Then x Nothing) (levels filter) (item_count filter)
one_alone x filter p = record {
  deep = λ most. sym (or_nothing (is_deeper most x)) ∙ p.deep most;
  many = λ most. then_some (items_left most x) ∙ p.many most;
}

any_item : (o : Option Item) → IfSome o (λ item. Unit {0})
any_item None = tt
any_item (Some item) = tt

abbrev Told : List AttrRec → TreeValues → Tag → Type 0
Told records inside tag =
    IfSome (filter_in records (Constructed tag inside)) (λ filter. Counted (Constructed tag inside) filter)

abbrev AllTold : TreeValues → FilterTrees → Type 0
AllTold trees filters = Within trees (most_levels filters) (item_counts filters)

abbrev OneTold : TreeValues → FilterTree → Type 0
OneTold trees filter = Within trees (levels filter) (item_count filter)

mutual
  pub counted : (records : List AttrRec) (x : TreeValue) → IfSome (filter_in records x) (λ filter. Counted x filter)
  counted records (Primitive tag contents) = tt
  counted records (Constructed tag inside) =
      let G = Told records inside in
      at 8 G tag
      (if_mapped (λ item. Unit {0}) (Counted (Constructed (context 8) inside)) OfItem (one_item_in records inside)
      (any_item (one_item_in records inside)) (λ item q. item_counted inside item))
      (λ a. at 9 G tag
      (if_mapped (AllTold inside) (Counted (Constructed (context 9) inside)) And (filters_in records inside)
      (all_counted records inside)
      (λ filters q. outer (context 9) inside (And filters) (most_levels filters)
      (item_counts filters) refl q refl refl))
      (λ b. at 10 G tag
      (if_mapped (AllTold inside) (Counted (Constructed (context 10) inside)) Or (filters_in records inside)
      (all_counted records inside)
      (λ filters q. outer (context 10) inside (Or filters) (most_levels filters)
      (item_counts filters) refl q refl refl))
      (λ c. at 11 G tag
      (if_mapped (OneTold inside) (Counted (Constructed (context 11) inside)) Not (one_filter_in records inside)
      (one_counted records inside)
      (λ filter q. outer (context 11) inside (Not filter) (levels filter) (item_count filter) refl q refl refl))
      (λ d. rw (a, b, c, d) tt))))

  all_counted : (records : List AttrRec) (xs : TreeValues) → IfSome (filters_in records xs) (AllTold xs)
  all_counted records Nothing = record {
    deep = λ most. sym (le-ltb most 0 (omega arith));
    many = nothing_taken;
  }
  all_counted records (Then x xs) =
      if_both (Counted x) (AllTold xs) (AllTold (Then x xs)) AndFilters (filter_in records x) (filters_in records xs)
      (counted records x) (all_counted records xs) (λ filter filters p q. first_and_others x xs filter filters p q)

  one_counted : (records : List AttrRec) (xs : TreeValues) → IfSome (one_filter_in records xs) (OneTold xs)
  one_counted records Nothing = tt
  one_counted records (Then x Nothing) =
      if_same (Counted x) (OneTold (Then x Nothing)) (filter_in records x) (counted records x)
      (λ filter p. one_alone x filter p)
  one_counted records (Then x (Then y ys)) = tt

-- what the tests of a tree that gives a filter tell of the filter
pub large_is : (records : List AttrRec) (tree : TreeValue) (filter : FilterTree) → filter_in records tree ≡ Some filter
    → is_large tree ≡ not (is_within_limits filter)
large_is records tree filter is =
    let told = subst (λ o. IfSome o (λ found. Counted tree found)) is (counted records tree) in
    rw (told.deep 16, told.many 256)
    (ap (λ b. nat_lt 16 (levels filter) || not b) (is_left 256 (item_count filter))
    ∙ both_limits 16 (levels filter) 256 (item_count filter))
