-- ChainLaws: an element that leads back to itself has no numbers, and the others are told in an order in which each
-- stands behind the one with which it begins.
use Rattle.std.proofs.Common.{◌≡◌, ◌∙◌, ℕ, suc, zero, ◌+◌, ◌<◌, ◌≤◌, ◌⊎◌, List, [], ◌∷◌, ◌++◌, Bool, true}
use Rattle.std.proofs.Common.{Option, None, Some, length, set, length-set, replicate, refl, sym, ap, inl, inr, subst}
use Rattle.std.proofs.Common.{arith, false, get_or}
use Rattle.std.proofs.Math.Dec.{ltb}
use Rattle.std.specs.List.{slice_get}
use Rattle.std.specs.Option.{option_and_then}
use Rattle.std.proofs.lemmas.Bool.{cases_lt, ltb-true, ltb-false}
use Rattle.std.proofs.lemmas.List.{length-map, length-replicate}
use Rattle.std.proofs.lemmas.Option.{none-some, slice_get_past, slice_get_read, slice_get_within, same_Some}
use Rattle.key_numbers.specs.NumberedLists.{Grows, IsList, Row}
use Rattle.key_numbers.proofs.ListLaws.{list_grows}
use Rattle.link_graphs.specs.Cycles.{IsBehindTargets, MarkCycles}
use Rattle.link_graphs.specs.Leading.{LeadsAtOnce, Leads, targets_of}
use Rattle.link_graphs.specs.Leading.Leads.{at_once, onward}
use Rattle.identifier_arcs.specs.declared.chains.Begin.{Begin}
use Rattle.identifier_arcs.specs.declared.chains.Begin.TheVariants.{Number, Element, Nowhere}
use Rattle.identifier_arcs.specs.declared.chains.Chain.{Chain}
use Rattle.identifier_arcs.specs.Chains.{AreTold, HasNumbers, IsAcyclic, IsBegun, TellsBegin, TellsNumbers}
use Rattle.identifier_arcs.specs.Chains.{chain_lists, chain_targets}
use Rattle.identifier_arcs.specs.Chains.HasNumbers.{begun, behind}

-- ---- what a list has at a place

pub there_is : {X : Type 0} (xs : List X) (i : ℕ) (x : X) → true ≡ ltb i (length xs) → x ≡ get_or xs i x →
    slice_get xs i ≡ Some x
there_is xs i x e is = slice_get_read xs (length xs) i x refl (ltb-true i (length xs) (sym e)) is

pub not_there : {X : Type 0} (xs : List X) (i : ℕ) → false ≡ ltb i (length xs) → slice_get xs i ≡ None
not_there xs i e = slice_get_past xs i (ltb-false i (length xs) (sym e))

-- ---- the graph of chains

pub targets_there : (chains : List Chain) (e : ℕ) (x : Chain) → slice_get chains e ≡ Some x →
    targets_of (chain_lists chains) e ≡ chain_targets x.begin
targets_there [] e x h = absurd (none-some x h)
targets_there (y ∷ chains) zero x h = ap (λ (z : Chain). chain_targets z.begin) (same_Some y x h)
targets_there (y ∷ chains) (suc e) x h = targets_there chains e x h

pub begin_leads : (chains : List Chain) (e place : ℕ) (x : Chain) → slice_get chains e ≡ Some x →
    x.begin ≡ Element place → place < length chains → LeadsAtOnce (chain_lists chains) e place
begin_leads chains e place x h is within = record {
  place = 0;
  stands = subst (λ xs. slice_get xs 0 ≡ Some place) (sym (targets_there chains e x h ∙ ap chain_targets is)) refl;
  within = let l = length-map chains (λ (y : Chain). chain_targets y.begin) in omega (arith, l, within);
}

only_one : (k place y : ℕ) → slice_get (place ∷ []) k ≡ Some y → place ≡ y
only_one zero place y h = same_Some place y h
only_one (suc k) place y h = absurd (none-some y h)

-- an element leads nowhere but to the one with which it begins
only_begin : (chains : List Chain) (e place y : ℕ) (x : Chain) → slice_get chains e ≡ Some x →
    x.begin ≡ Element place → LeadsAtOnce (chain_lists chains) e y → place ≡ y
only_begin chains e place y x h is one = only_one one.place place y
    (subst (λ xs. slice_get xs one.place ≡ Some y) (targets_there chains e x h ∙ ap chain_targets is) one.stands)

no_begin : (chains : List Chain) (e y first : ℕ) (x : Chain) → slice_get chains e ≡ Some x →
    x.begin ≡ Number first → LeadsAtOnce (chain_lists chains) e y → ⊥
no_begin chains e y first x h is one = nowhere one.place
    (subst (λ xs. slice_get xs one.place ≡ Some y) (targets_there chains e x h ∙ ap chain_targets is) one.stands)
  where
    nowhere : (k : ℕ) → slice_get [] k ≡ Some y → ⊥
    nowhere k i = none-some y i

first_step : {lists : List (List ℕ)} {e t : ℕ} → Leads lists e t → (y : ℕ) × LeadsAtOnce lists e y
first_step {lists} {e} {t} (at_once one) = (t, one)
first_step (onward d one) = first_step d

by_step : {lists : List (List ℕ)} {e t : ℕ} (k : ℕ) → ((y : ℕ) → LeadsAtOnce lists e y → k ≡ y) →
    Leads lists e t → (k ≡ t) ⊎ Leads lists k t
by_step {lists} {e} {t} k only (at_once one) = inl (only t one)
by_step {lists} {e} {t} k only (onward {between = b} d one) = further (by_step k only d)
  where
    further : (k ≡ b) ⊎ Leads lists k b → (k ≡ t) ⊎ Leads lists k t
    further (inl same) = inr (at_once (subst (λ z. LeadsAtOnce lists z t) (sym same) one))
    further (inr f) = inr (onward f one)

-- what leads back to itself leads to one that does
back_on : {lists : List (List ℕ)} {e : ℕ} (k : ℕ) → ((y : ℕ) → LeadsAtOnce lists e y → k ≡ y) →
    Leads lists e e → Leads lists k k
back_on {lists} {e} k only f = by (by_step k only f)
  where
    step : LeadsAtOnce lists e k
    step = let s = first_step f in subst (λ z. LeadsAtOnce lists e z) (sym (only s.0 s.1)) s.1

    by : (k ≡ e) ⊎ Leads lists k e → Leads lists k k
    by (inl same) = subst (λ z. Leads lists z z) (sym same) f
    by (inr g) = onward g step

pub no_numbers : (chains : List Chain) (e : ℕ) (x : Chain) (numbers : List ℕ) → slice_get chains e ≡ Some x →
    Leads (chain_lists chains) e e → HasNumbers chains x numbers → ⊥
no_numbers chains e x numbers h f (begun {first = first} is) =
    let s = first_step f in no_begin chains e s.0 first x h is s.1
no_numbers chains e x numbers h f (behind {y = y} {place = place} {numbers = before} is there d) =
    no_numbers chains place y before there (back_on place (λ z one. only_begin chains e place z x h is one) f) d

-- ---- what is told of an element

pub tells_grows : (before after : Row) (chains : List Chain) (x : Chain) (answer : Option ℕ) → Grows before after →
    TellsNumbers before chains x answer → TellsNumbers after chains x answer
tells_grows before after chains x None grows t = t
tells_grows before after chains x (Some n) grows t = (t.0, list_grows grows t.1, t.2)

pub all_grown : (before after : Row) (chains : List Chain) (told : List (Option ℕ)) → Grows before after →
    AreTold before chains told → AreTold after chains told
all_grown before after chains told grows a = record {
  size = a.size;
  right = λ k x answer there known. tells_grows before after chains x answer grows (a.right k x answer there known);
}

-- by what is told of its beginning
pub data Began (row : Row) (chains : List Chain) (x : Chain) : Option ℕ → Type 0 where
  nothing : ((numbers : List ℕ) → ¬ HasNumbers chains x numbers) → Began row chains x None
  list : {n : ℕ} {numbers : List ℕ} → IsList row n numbers → HasNumbers chains x (numbers ++ x.others.items) →
      Began row chains x (Some n)

no_element : (chains : List Chain) (x : Chain) → x.begin ≡ Nowhere → (numbers : List ℕ) →
    ¬ HasNumbers chains x numbers
no_element chains x is numbers (begun h) = absurd (cc)
no_element chains x is numbers (behind h there d) = absurd (cc)

not_behind : (chains : List Chain) (x : Chain) (place : ℕ) → x.begin ≡ Element place →
    ((y : Chain) (numbers : List ℕ) → slice_get chains place ≡ Some y → ¬ HasNumbers chains y numbers) →
    (numbers : List ℕ) → ¬ HasNumbers chains x numbers
not_behind chains x place is never numbers (begun h) = absurd (cc)
not_behind chains x place is never numbers (behind {y = y} {place = other} {numbers = before} h there d) =
    never y before (subst (λ k. slice_get chains k ≡ Some y) (same_element (sym h ∙ is)) there) d
  where
    same_element : Element other ≡ Element place → other ≡ place
    same_element e = cc

pub there_of : {A : Type 0} (xs : List A) (k : ℕ) → k < length xs → (x : A) × (slice_get xs k ≡ Some x)
there_of [] k h = absurd (omega (arith, h))
there_of (x ∷ xs) zero h = (x, refl)
there_of (x ∷ xs) (suc k) h = there_of xs k (omega (arith, h))

module _ (before after : Row) (chains : List Chain) (told : List (Option ℕ)) (x : Chain) (grows : Grows before after)
    (b : IsBegun before chains told x.begin) where
  known : (place : ℕ) (y : Chain) (answer : Option ℕ) → x.begin ≡ Element place → slice_get chains place ≡ Some y →
      slice_get told place ≡ Some answer → Began after chains x answer
  known place y answer is there at = by answer (b.right place y answer is there at)
    where
      by : (answer : Option ℕ) → TellsNumbers before chains y answer → Began after chains x answer
      by None never = nothing (not_behind chains x place is (λ z numbers other d.
          never numbers (subst (λ w. HasNumbers chains w numbers) (same_Some z y (sym other ∙ there)) d)))
      by (Some n) has = list (list_grows grows has.1) (behind is there has.2)

  of_element : (place : ℕ) (answer : Option ℕ) → x.begin ≡ Element place → (found : Option (Option ℕ)) →
      slice_get told place ≡ found → answer ≡ option_and_then (λ z. z) found → (own : Option Chain) →
      slice_get chains place ≡ own → Began after chains x answer
  of_element place answer is found at same None none =
      subst (λ z. Began after chains x z) (sym (same ∙ nothing_found found at)) (nothing (not_behind chains x place is
      (λ z numbers other d. none-some z (sym none ∙ other))))
    where
      nothing_found : (found : Option (Option ℕ)) → slice_get told place ≡ found →
          option_and_then (λ z. z) found ≡ None
      nothing_found None h = refl
      nothing_found (Some answer) h = absurd (let w = slice_get_within told place answer h in
          let y = there_of chains place (omega (arith, w, b.size)) in none-some y.0 (sym none ∙ y.1))
  of_element place answer is None at same (Some y) there =
      absurd (let w = slice_get_within chains place y there in
      let z = there_of told place (omega (arith, w, b.size)) in none-some z.0 (sym at ∙ z.1))
  of_element place answer is (Some other) at same (Some y) there =
      known place y answer is there (at ∙ ap Some (sym same))

  pub began : (begin : Begin) (answer : Option ℕ) → x.begin ≡ begin → TellsBegin after begin told answer →
      Began after chains x answer
  began (Number first) answer is t =
      subst (λ z. Began after chains x z) (sym t.1) (list t.2 (begun is))
  began (Element place) answer is t = of_element place answer is (slice_get told place) refl t
      (slice_get chains place) refl
  began Nowhere answer is t = subst (λ z. Began after chains x z) (sym t) (nothing (no_element chains x is))

began_none : (row : Row) (chains : List Chain) (x : Chain) (answer : Option ℕ) → answer ≡ None →
    Began row chains x answer → (numbers : List ℕ) → ¬ HasNumbers chains x numbers
began_none row chains x answer is (nothing never) = never
began_none row chains x answer is (list l h) = absurd (none-some _ (sym is))

began_list : (row after : Row) (chains : List Chain) (x : Chain) (answer : Option ℕ) (n m : ℕ) → answer ≡ Some n →
    ((xs : List ℕ) → IsList row n xs → IsList after m (xs ++ x.others.items)) → Began row chains x answer →
    TellsNumbers after chains x (Some m)
began_list row after chains x answer n m is more (nothing never) = absurd (none-some n is)
began_list row after chains x answer n m is more (list {n = own} {numbers = numbers} l h) =
    (numbers ++ x.others.items, more numbers (subst (λ k. IsList row k numbers) (same_Some own n is) l), h)

pub tells_none : (before after : Row) (chains : List Chain) (told : List (Option ℕ)) (x : Chain)
    (answer : Option ℕ) → Grows before after → TellsBegin after x.begin told answer → answer ≡ None →
    IsBegun before chains told x.begin → TellsNumbers after chains x None
tells_none before after chains told x answer grows t is b = began_none after chains x answer is
    (began before after chains told x grows b x.begin answer refl t)

pub tells_list : (before between after : Row) (chains : List Chain) (told : List (Option ℕ)) (x : Chain)
    (answer : Option ℕ) (n m : ℕ) → Grows before between → TellsBegin between x.begin told answer →
    answer ≡ Some n → ((xs : List ℕ) → IsList between n xs → IsList after m (xs ++ x.others.items)) →
    IsBegun before chains told x.begin → TellsNumbers after chains x (Some m)
tells_list before between after chains told x answer n m grows t is more b =
    began_list between after chains x answer n m is more
    (began before between chains told x grows b x.begin answer refl t)

-- ---- one element after the other

get_same : {A : Type 0} (xs : List A) (i : ℕ) (y : A) → i < length xs → slice_get (set xs i y) i ≡ Some y
get_same [] i y h = absurd (omega (arith, h))
get_same (x ∷ xs) zero y h = refl
get_same (x ∷ xs) (suc i) y h = get_same xs i y (omega (arith, h))

get_other : {A : Type 0} (xs : List A) (i j : ℕ) (y : A) → (j ≡ i → ⊥) → slice_get (set xs i y) j ≡ slice_get xs j
get_other [] i j y h = refl
get_other (x ∷ xs) zero zero y h = absurd (h refl)
get_other (x ∷ xs) zero (suc j) y h = refl
get_other (x ∷ xs) (suc i) zero y h = refl
get_other (x ∷ xs) (suc i) (suc j) y h = get_other xs i j y (λ e. h (ap suc e))

-- what is told of the elements before a place of the order
pub record ToldBefore (row : Row) (chains : List Chain) (order : List ℕ) (place : ℕ) (told : List (Option ℕ))
    : Type 0 where
  pub size : length told ≡ length chains
  pub before : (k e : ℕ) (x : Chain) (answer : Option ℕ) → k < place → slice_get order k ≡ Some e →
      slice_get chains e ≡ Some x → slice_get told e ≡ Some answer → TellsNumbers row chains x answer

pub none_told : (row : Row) (chains : List Chain) (order : List ℕ) (n : ℕ) → n ≡ length chains →
    ToldBefore row chains order 0 (replicate n None)
none_told row chains order n is = record {
  size = length-replicate n None ∙ is;
  before = λ k e x answer less. absurd (omega (arith, less));
}

module _ (row after : Row) (chains : List Chain) (order : List ℕ) (w : IsBehindTargets (chain_lists chains) order)
    (place e : ℕ) (at : slice_get order place ≡ Some e) (told : List (Option ℕ))
    (t : ToldBefore row chains order place told) where
  pub element_within : e < length chains
  element_within = let i = w.elements place e at in
      let l = length-map chains (λ (y : Chain). chain_targets y.begin) in omega (arith, i, l)

  -- the element with which this one begins is told
  pub is_begun : (x : Chain) → slice_get chains e ≡ Some x → IsAcyclic chains e → IsBegun row chains told x.begin
  is_begun x h acyclic = record {
    size = t.size;
    right = λ next y answer is there known.
        let inside = slice_get_within chains next y there in
        let stood = w.behind place e next at acyclic (begin_leads chains e next x h is inside) in
        t.before stood.0 next y answer stood.1 stood.2 there known;
  }

  pub one_told : (answer : Option ℕ) → Grows row after →
      ((x : Chain) → slice_get chains e ≡ Some x → TellsNumbers after chains x answer) →
      ToldBefore after chains order (place + 1) (set told e answer)
  one_told answer grows right = record {
    size = length-set told e answer ∙ t.size;
    before = λ k f x own less there stands known. by k f x own less there stands known (cases_lt k place);
  }
    where
      by : (k f : ℕ) (x : Chain) (own : Option ℕ) → k < place + 1 → slice_get order k ≡ Some f →
          slice_get chains f ≡ Some x → slice_get (set told e answer) f ≡ Some own → (k < place) ⊎ (place ≤ k) →
          TellsNumbers after chains x own
      by k f x own less there stands known (inl l) =
          let apart : f ≡ e → ⊥ = (λ s. let j = w.once k place e (subst (λ z. slice_get order k ≡ Some z) s there) at
          in omega (arith, j, l)) in
          tells_grows row after chains x own grows
          (t.before k f x own l there stands (sym (get_other told e f answer apart) ∙ known))
      by k f x own less there stands known (inr m) =
          let same : place ≡ k = omega (arith, less, m) in
          let it : f ≡ e = same_Some f e (sym there ∙ ap (slice_get order) (sym same) ∙ at) in
          let is : answer ≡ own = same_Some answer own (sym (get_same told e answer
          (let i = element_within in let s = t.size in omega (arith, i, s))) ∙
          ap (slice_get (set told e answer)) (sym it) ∙ known) in
          subst (λ z. TellsNumbers after chains x z) is (right x (ap (slice_get chains) (sym it) ∙ stands))

pub all_told : (row : Row) (chains : List Chain) (order : List ℕ) (place : ℕ) (told : List (Option ℕ)) →
    IsBehindTargets (chain_lists chains) order → length order ≤ place → ToldBefore row chains order place told →
    AreTold row chains told
all_told row chains order place told w all t = record {
  size = t.size;
  right = λ e x answer stands known.
      let inside = slice_get_within chains e x stands in
      let l = length-map chains (λ (y : Chain). chain_targets y.begin) in
      let stood = w.every e (omega (arith, inside, l)) in
      let i = slice_get_within order stood.0 e stood.1 in
      t.before stood.0 e x answer (omega (arith, i, all)) stood.1 stands known;
}

pub marked_none : (row : Row) (chains : List Chain) (marks : List Bool) (e : ℕ) → slice_get marks e ≡ Some true →
    (x : Chain) → slice_get chains e ≡ Some x → MarkCycles (chain_lists chains) marks → TellsNumbers row chains x None
marked_none row chains marks e is x h m = λ numbers d. no_numbers chains e x numbers h (m.leads e is) d
