-- UnequalLaws: that of the arcs that definers give one has other ones of the same name before it says that an earlier
-- module gives the name other arcs.
use Rattle.std.proofs.Common.{◌≡◌, ◌∙◌, ◌⊎◌, ◌<◌, ◌≤◌, ◌∷◌, [], ℕ, zero, suc, List, Option, None, Some, refl, sym, ap}
use Rattle.std.proofs.Common.{arith, inl, inr, subst, take}
use Rattle.std.specs.Prelude.{◌≢◌, slice_get}
use Rattle.std.proofs.lemmas.Bool.{cases_lt}
use Rattle.std.proofs.lemmas.Option.{none-some, same_Some}
use Rattle.token_grammar.specs.declared.token.Token.{Token}
use Rattle.token_grammar.specs.Form.{Tree}
use Rattle.asn1_names.specs.AssignmentNumbers.{Numbered, numbered_at}
use Rattle.asn1_names.specs.ModuleTerms.{AssignmentTerm, ModuleTerm, NumberTerm, TypeTerm}
use Rattle.asn1_names.specs.NameMeaning.{Meaning, assigned_in}
use Rattle.asn1_names.specs.NameMeaning.Meaning.{ValueAt}
use Rattle.asn1_numbers.proofs.StandingLaws.{one_number_at}
use Rattle.key_numbers.specs.NumberedLists.{AreOnce, IsList, Row}
use Rattle.key_numbers.proofs.ListLaws.{one_list, one_number}
use Rattle.gdmo_first_names.specs.DefinedNames.{AreDefiners, DefinesAt, DefinesFirstAt}
use Rattle.gdmo_first_names.proofs.DefinedLaws.{before_number, defined_named, defined_number}
use Rattle.gdmo_first_names.proofs.OwnLaws.{stands_in}
use Rattle.gdmo_names.specs.declared.first_fault.LabelFault.{LabelFault as NotedFault}
use Rattle.gdmo_names.specs.BegunNames.{BeginsOne}
use Rattle.gdmo_names.specs.DoubleNames.{IsUnequalAgain, ValueHasArcs}
use Rattle.gdmo_names.specs.FaultSets.{Notes}
use Rattle.gdmo_names.specs.FirstLabelFault.{LabelFault}
use Rattle.gdmo_names.specs.FirstLabelFault.LabelFault.{LabelDouble}
use Rattle.gdmo_names.specs.FirstNames.{DefinesName, HasArcs}
use Rattle.gdmo_names.specs.InStep.{AreEach}
use Rattle.gdmo_names.specs.PartTerms.{PartTerms, module_terms_of}
use Rattle.gdmo_names.specs.TemplateTerms.{IdentifierTerm}
use Rattle.gdmo_names.proofs.NotingLaws.{noted_by}
use Rattle.gdmo_types.specs.PlaceFaults.{AtPlaces}
use Rattle.identifier_arcs.proofs.KnownLaws.{one_arcs}
use Rattle.first_name_arcs.specs.GivenArcs.{Given, UnequalBefore}
use Rattle.first_name_arcs.specs.UnequalNames.{IsGiven, TellsGiven, UnequalNames}

-- ---- elements of lists

each_at : {A B : Type 0} (Is : A → B → Type 0) (xs : List A) (ys : List B) (k : ℕ) (x : A) → AreEach Is xs ys →
    slice_get xs k ≡ Some x → (y : B) × (slice_get ys k ≡ Some y) × Is x y
each_at Is [] ys k x each at = absurd (none-some x at)
each_at Is (w ∷ ws) [] k x each at = absurd each
each_at Is (w ∷ ws) (z ∷ zs) zero x each at = (z, refl, subst (λ v. Is v z) (same_Some w x at) each.0)
each_at Is (w ∷ ws) (z ∷ zs) (suc k) x each at = each_at Is ws zs k x each.1 at

each_of : {A B : Type 0} (Is : A → B → Type 0) (xs : List A) (ys : List B) (k : ℕ) (y : B) → AreEach Is xs ys →
    slice_get ys k ≡ Some y → (x : A) × (slice_get xs k ≡ Some x) × Is x y
each_of Is [] [] k y each at = absurd (none-some y at)
each_of Is [] (z ∷ zs) k y each at = absurd each
each_of Is (w ∷ ws) [] k y each at = absurd each
each_of Is (w ∷ ws) (z ∷ zs) zero y each at = (w, refl, subst (Is w) (same_Some z y at) each.0)
each_of Is (w ∷ ws) (z ∷ zs) (suc k) y each at = each_of Is ws zs k y each.1 at

taken_at : {A : Type 0} (xs : List A) (n k : ℕ) (x : A) → k < n → slice_get xs k ≡ Some x →
    slice_get (take n xs) k ≡ Some x
taken_at [] n k x less at = absurd (none-some x at)
taken_at (y ∷ ys) zero k x less at = absurd (omega (arith, less))
taken_at (y ∷ ys) (suc n) zero x less at = at
taken_at (y ∷ ys) (suc n) (suc k) x less at = taken_at ys n k x (omega (arith, less)) at

of_taken : {A : Type 0} (xs : List A) (n k : ℕ) (x : A) → slice_get (take n xs) k ≡ Some x →
    (k < n) × (slice_get xs k ≡ Some x)
of_taken [] zero k x at = absurd (none-some x at)
of_taken [] (suc n) k x at = absurd (none-some x at)
of_taken (y ∷ ys) zero k x at = absurd (none-some x at)
of_taken (y ∷ ys) (suc n) zero x at = (omega arith, at)
of_taken (y ∷ ys) (suc n) (suc k) x at =
    let rest = of_taken ys n k x at in (let less = rest.0 in omega (arith, less), rest.1)

-- ---- definers

place_meant : Meaning → ℕ
place_meant (ValueAt m i of stated text) = i
place_meant _ = 0

same_place : (m i v j : ℕ) (of other : TypeTerm) (stated its_stated : Option NumberTerm) (text its_text : Tree) →
    ValueAt m i of stated text ≡ ValueAt v j other its_stated its_text → i ≡ j
unfolding place_meant
same_place m i v j of other stated its_stated text its_text h = ap place_meant h

-- a module defines a name at one place
pub one_place : (parts : PartTerms) (name : List ℕ) (m i v j : ℕ) → DefinesName parts name m i →
    DefinesName parts name v j → m ≡ v → i ≡ j
one_place parts name m i v j one other same =
    same_place m i v j one.of other.of one.number other.number one.text other.text
    (sym one.means ∙ ap (λ k. assigned_in (module_terms_of parts) k name) same ∙ other.means)

numbered_one : (parts : PartTerms) (n : ℕ) (x y : Numbered) → numbered_at (module_terms_of parts) n ≡ Some x →
    numbered_at (module_terms_of parts) n ≡ Some y → x ≡ y
numbered_one parts n x y at there = same_Some x y (sym at ∙ there)

-- an assignment defines one name
one_name : (parts : PartTerms) (one other : List ℕ) (n : ℕ) → DefinesAt parts one n → DefinesAt parts other n →
    one ≡ other
one_name parts one other n d e = sym (defined_named parts one n d) ∙
    ap (λ (x : Numbered). x.assignment.name.text) (numbered_one parts n d.numbered e.numbered d.at e.at) ∙
    defined_named parts other n e

pub defines_at : (parts : PartTerms) (name : List ℕ) (n : ℕ) → DefinesFirstAt parts name n → DefinesAt parts name n
defines_at parts name n f = record {
  numbered = f.numbered;
  at = f.at;
  no_root = f.no_root;
  defines = f.defines.defines;
}

pub one_name_first : (parts : PartTerms) (one other : List ℕ) (n : ℕ) → DefinesFirstAt parts one n →
    DefinesFirstAt parts other n → one ≡ other
one_name_first parts one other n f g = one_name parts one other n (defines_at parts one n f) (defines_at parts other n g)

-- a name has one assignment that is the first to define it
pub one_first : (parts : PartTerms) (name : List ℕ) (a b : ℕ) → DefinesFirstAt parts name a →
    DefinesFirstAt parts name b → a ≡ b
one_first parts name a b f g = by (cases_lt f.numbered.in_module g.numbered.in_module)
    (cases_lt g.numbered.in_module f.numbered.in_module)
  where
    by : (f.numbered.in_module < g.numbered.in_module) ⊎ (g.numbered.in_module ≤ f.numbered.in_module) →
        (g.numbered.in_module < f.numbered.in_module) ⊎ (f.numbered.in_module ≤ g.numbered.in_module) → a ≡ b
    by (inl less) further =
        absurd (g.defines.first f.numbered.in_module f.numbered.place less f.defines.defines)
    by (inr more) (inl less) =
        absurd (f.defines.first g.numbered.in_module g.numbered.place less g.defines.defines)
    by (inr more) (inr most) =
        let home : f.numbered.in_module ≡ g.numbered.in_module = omega (arith, more, most) in
        one_number_at (module_terms_of parts) a b f.numbered g.numbered f.at g.at home
        (one_place parts name f.numbered.in_module f.numbered.place g.numbered.in_module g.numbered.place
        f.defines.defines g.defines.defines home)

-- of two definers of a name the one with the lower number stands in an earlier module
earlier_module : (parts : PartTerms) (name : List ℕ) (a b : ℕ) (d : DefinesAt parts name a)
    (e : DefinesAt parts name b) → a < b → d.numbered.in_module < e.numbered.in_module
earlier_module parts name a b d e less = by (cases_lt d.numbered.in_module e.numbered.in_module)
    (cases_lt e.numbered.in_module d.numbered.in_module)
  where
    by : (d.numbered.in_module < e.numbered.in_module) ⊎ (e.numbered.in_module ≤ d.numbered.in_module) →
        (e.numbered.in_module < d.numbered.in_module) ⊎ (d.numbered.in_module ≤ e.numbered.in_module) →
        d.numbered.in_module < e.numbered.in_module
    by (inl before) further = before
    by (inr more) (inl behind) = absurd (
        let greater = before_number (module_terms_of parts) b a e.numbered d.numbered e.at d.at behind in
        omega (arith, less, greater))
    by (inr more) (inr most) = absurd (
        let home : d.numbered.in_module ≡ e.numbered.in_module = omega (arith, more, most) in
        let same : a ≡ b = one_number_at (module_terms_of parts) a b d.numbered e.numbered d.at e.at home
        (one_place parts name d.numbered.in_module d.numbered.place e.numbered.in_module e.numbered.place
        d.defines e.defines home) in
        omega (arith, less, same))

-- a value has one list of arcs
pub value_one : (parts : PartTerms) (m i : ℕ) (a b : List ℕ) → ValueHasArcs parts m i a → ValueHasArcs parts m i b →
    a ≡ b
value_one parts m i a b one other =
    let same : one.text ≡ other.text = same_Some one.text other.text
    (same_Some (Some one.text) (Some other.text) (sym one.reads ∙ other.reads)) in
    one_arcs (subst (λ (x : IdentifierTerm). HasArcs parts x a) same one.has) other.has

-- ---- both ways

module _ (parts : PartTerms) (row : Row) (once : AreOnce row) (numbers : List ℕ) (given : List (Option Given))
    (are : AreDefiners parts numbers) (each : AreEach (TellsGiven parts row) numbers given) where
  -- the definer that gives arcs at a place
  record IsThere (p : ℕ) (own : Given) : Type 0 where
    pub number : ℕ
    pub at : slice_get numbers p ≡ Some number
    pub is : IsGiven parts row number own

  is_there : (p : ℕ) (own : Given) → slice_get given p ≡ Some (Some own) → IsThere p own
  is_there p own at =
      let found = each_of (TellsGiven parts row) numbers given p (Some own) each at in
      record { number = found.0; at = found.1; is = found.2 }

  unequal_of : (p q : ℕ) (own other : Given) → q < p → IsThere p own → IsThere q other → other.first ≡ own.first →
      other.list ≢ own.list → (kind : LabelFault) (document token : ℕ) → LabelDouble ≡ kind →
      own.document ≡ document → own.name.now.at ≡ token → UnequalNames parts kind document token
  unequal_of p q own other less t u same unequal kind document token is_kind is_in is_at =
      let g = t.is in
      let h = u.is in
      let rises = are.rise q p u.number t.number less u.at t.at in
      let named : h.name ≡ g.name = one_name_first parts h.name g.name own.first
      (subst (DefinesFirstAt parts h.name) same h.is_first) g.is_first in
      let e : DefinesAt parts g.name u.number = subst (λ n. DefinesAt parts n u.number) named h.defines in
      let x = g.defines.numbered in
      let home = stands_in (module_terms_of parts) t.number x g.defines.at in
      let is_home : home.0 ≡ g.home = same_Some home.0 g.home (sym home.1 ∙ g.home_at) in
      let text = defined_named parts g.name t.number g.defines in record {
        m = x.in_module;
        i = x.place;
        home = g.home;
        assignment = x.assignment;
        home_at = g.home_at;
        at = subst (λ (y : ModuleTerm). slice_get y.assignments x.place ≡ Some x.assignment) is_home home.2;
        again = subst (IsUnequalAgain parts x.in_module x.place) (sym text) (record {
          begins = g.begins;
          no_root = g.defines.no_root;
          defines = g.defines.defines;
          k = h.defines.numbered.in_module;
          j = h.defines.numbered.place;
          before = subst (λ n. n < x.in_module) (ap (λ (y : Numbered). y.in_module)
              (numbered_one parts u.number e.numbered h.defines.numbered e.at h.defines.at))
              (earlier_module parts g.name u.number t.number e g.defines rises);
          first_defines = subst (λ n. DefinesName parts n h.defines.numbered.in_module h.defines.numbered.place)
              named h.defines.defines;
          arcs = g.arcs;
          has = g.has;
          first_arcs = h.arcs;
          first_has = h.has;
          unequal = λ is. unequal (one_number once h.list g.list (sym is));
        });
        is_in = g.is_in ∙ is_in;
        is_at = ap (λ (y : Token). y.at) g.is_named ∙ is_at;
        is_double = is_kind;
      }

  to_unequal : (kind : LabelFault) (document token : ℕ) → AtPlaces (UnequalBefore given) given kind document token →
      UnequalNames parts kind document token
  to_unequal kind document token (p, None, at, fault) = absurd fault
  to_unequal kind document token (p, Some own, at, fault) =
      let h = fault.0 in
      let before = of_taken given p h.k (Some h.other) h.stands in
      unequal_of p h.k own h.other before.0 (is_there p own at) (is_there h.k h.other before.1) h.same h.unequal
      kind document token fault.1 fault.2 fault.3

  -- a definer with arcs stands at a place
  record Stands (number : ℕ) (name arcs : List ℕ) : Type 0 where
    pub p : ℕ
    pub own : Given
    pub at : slice_get numbers p ≡ Some number
    pub there : slice_get given p ≡ Some (Some own)
    pub is : IsGiven parts row number own
    pub named : is.name ≡ name
    pub same_arcs : is.arcs ≡ arcs

  stands : (number : ℕ) (name arcs : List ℕ) (d : DefinesAt parts name number) → BeginsOne parts name →
      ValueHasArcs parts d.numbered.in_module d.numbered.place arcs → Stands number name arcs
  stands number name arcs d begins has =
      let place = are.all name number d in
      let told = each_at (TellsGiven parts row) numbers given place.0 number each place.1 in
      by place.0 place.1 told.0 told.1 told.2
    where
      by : (p : ℕ) → slice_get numbers p ≡ Some number → (own : Option Given) → slice_get given p ≡ Some own →
          TellsGiven parts row number own → Stands number name arcs
      by p at None there never = absurd (never name arcs d begins has)
      by p at (Some own) there g =
          let same = numbered_one parts number g.defines.numbered d.numbered g.defines.at d.at in record {
            p = p;
            own = own;
            at = at;
            there = there;
            is = g;
            named = one_name parts g.name name number g.defines d;
            same_arcs = value_one parts d.numbered.in_module d.numbered.place g.arcs arcs
                (subst (λ (y : Numbered). ValueHasArcs parts y.in_module y.place g.arcs) same g.has) has;
          }

  before_place : (p q a b : ℕ) → slice_get numbers p ≡ Some a → slice_get numbers q ≡ Some b → a < b → p < q
  before_place p q a b at there less = by (cases_lt p q) (cases_lt q p)
    where
      by : (p < q) ⊎ (q ≤ p) → (q < p) ⊎ (p ≤ q) → p < q
      by (inl before) further = before
      by (inr more) (inl behind) = absurd (let h = are.rise q p b a behind there at in omega (arith, h, less))
      by (inr more) (inr most) = absurd (
          let same : p ≡ q = omega (arith, more, most) in
          let h : a ≡ b = same_Some a b (sym at ∙ ap (slice_get numbers) same ∙ there) in omega (arith, h, less))

  from_unequal : (kind : LabelFault) (document token : ℕ) → UnequalNames parts kind document token →
      AtPlaces (UnequalBefore given) given kind document token
  from_unequal kind document token u =
      let name = u.assignment.name.text in
      let again = u.again in
      let one = defined_number parts name u.m u.i again.no_root again.defines in
      let first = defined_number parts name again.k again.j again.no_root again.first_defines in
      let own = stands one.0 name again.arcs one.1 again.begins
      (subst (λ v. ValueHasArcs parts v one.1.numbered.place again.arcs) (sym one.2)
      (subst (λ v. ValueHasArcs parts u.m v again.arcs) (sym one.3) again.has)) in
      let other = stands first.0 name again.first_arcs first.1 again.begins
      (subst (λ v. ValueHasArcs parts v first.1.numbered.place again.first_arcs) (sym first.2)
      (subst (λ v. ValueHasArcs parts again.k v again.first_arcs) (sym first.3) again.first_has)) in
      let less : first.0 < one.0 = before_number (module_terms_of parts) first.0 one.0 first.1.numbered one.1.numbered
      first.1.at one.1.at (subst (λ v. v < one.1.numbered.in_module) (sym first.2)
      (subst (λ v. again.k < v) (sym one.2) again.before)) in
      let before = before_place other.p own.p first.0 one.0 other.at own.at less in
      let x = own.is.defines.numbered in
      let home : own.is.home ≡ u.home = same_Some own.is.home u.home
      (sym own.is.home_at ∙ ap (slice_get (module_terms_of parts))
      (ap (λ (y : Numbered). y.in_module)
      (numbered_one parts one.0 x one.1.numbered own.is.defines.at one.1.at) ∙ one.2) ∙ u.home_at) in
      let there = stands_in (module_terms_of parts) one.0 one.1.numbered one.1.at in
      let own_home : there.0 ≡ u.home = same_Some there.0 u.home
      (sym there.1 ∙ ap (slice_get (module_terms_of parts)) one.2 ∙ u.home_at) in
      let assigned : one.1.numbered.assignment ≡ u.assignment = same_Some one.1.numbered.assignment u.assignment
      (sym there.2 ∙ ap (λ (y : ModuleTerm). slice_get y.assignments one.1.numbered.place) own_home ∙
      ap (slice_get u.home.assignments) one.3 ∙ u.at) in (
        own.p,
        Some own.own,
        own.there,
        (
          record {
            k = other.p;
            other = other.own;
            stands = taken_at given own.p other.p (Some other.own) before other.there;
            same = one_first parts name other.own.first own.own.first
                (subst (λ n. DefinesFirstAt parts n other.own.first) other.named other.is.is_first)
                (subst (λ n. DefinesFirstAt parts n own.own.first) own.named own.is.is_first);
            unequal = λ is. again.unequal (sym own.same_arcs ∙
                one_list own.is.list (subst (λ n. IsList row n other.is.arcs) is other.is.list) ∙ other.same_arcs);
          },
          u.is_double,
          sym own.is.is_in ∙ ap (λ (y : ModuleTerm). y.document) home ∙ u.is_in,
          sym (ap (λ (y : Token). y.at) own.is.is_named) ∙
              ap (λ (y : Numbered). y.assignment.name.at)
              (numbered_one parts one.0 x one.1.numbered own.is.defines.at one.1.at) ∙
              ap (λ (y : AssignmentTerm). y.name.at) assigned ∙ u.is_at,
        ),
      )

  pub unequal_noted : {before after : Option NotedFault} → Notes (AtPlaces (UnequalBefore given) given) before after →
      Notes (UnequalNames parts) before after
  unequal_noted h =
      noted_by (AtPlaces (UnequalBefore given) given) (UnequalNames parts) to_unequal from_unequal h
