-- KnownLaws: the arcs of an identifier are the numbers of its chain, among the chains of all values.
use Rattle.std.proofs.Common.{◌≡◌, ◌∙◌, ◌<◌, ◌≤◌, ◌⊎◌, ◌∷◌, ◌++◌, [], ℕ, List, Option, None, Some, refl, sym, ap}
use Rattle.std.proofs.Common.{arith, inl, inr, length, subst, ◌+◌, zero, suc, get_or, take}
use Rattle.std.specs.Borrow.{Bor}
use Rattle.std.specs.Prelude.{All, map, slice_get}
use Rattle.std.specs.Option.{option_and_then}
use Rattle.std.proofs.lemmas.Bool.{cases_lt}
use Rattle.std.proofs.lemmas.List.{map-append}
use Rattle.std.proofs.lemmas.Option.{none-some, same_Some, slice_get_within}
use Rattle.token_grammar.specs.declared.token.Token.{Token}
use Rattle.token_grammar.specs.Form.{Tree}
use Rattle.asn1_syntax.specs.declared.module.Assigned.{Assigned}
use Rattle.asn1_syntax.specs.declared.module.Module.{Module}
use Rattle.asn1_names.specs.AssignmentNumbers.{Numbered, assignment_count, numbered_at}
use Rattle.asn1_names.specs.CodeMeanings.{IsAssignment}
use Rattle.asn1_names.specs.ModuleTerms.{AssignmentTerm, NumberTerm, TypeTerm}
use Rattle.asn1_names.specs.NameMeaning.{Meaning, assigned_in}
use Rattle.asn1_names.specs.NameMeaning.Meaning.{ValueAt}
use Rattle.asn1_names.specs.TermViews.{assigned_term, module_terms}
use Rattle.asn1_numbers.proofs.EachLaws.{EachIs, each_at}
use Rattle.asn1_numbers.proofs.StandingLaws.{number_within}
use Rattle.key_numbers.specs.NumberedLists.{Row}
use Rattle.gdmo_first_names.specs.DefinedNames.{DefinesFirstAt, TellsDefined}
use Rattle.gdmo_first_names.specs.ReadModules.{AreWhole, HasModules, IsWhole}
use Rattle.gdmo_first_names.proofs.NameSteps.{own_numbered}
use Rattle.gdmo_first_names.proofs.TextLaws.{arcs_there, assigned_said, read_terms, term_arcs}
use Rattle.gdmo_names.proofs.NotingLaws.{map_more}
use Rattle.gdmo_names.specs.FirstNames.{DefinesNameFirst, HasArcs, arc_value, root_arc}
use Rattle.gdmo_names.specs.FirstNames.HasArcs.{number, root, defined}
use Rattle.gdmo_names.specs.PartTerms.{PartTerms, arcs_at, module_terms_of}
use Rattle.gdmo_names.specs.PartViews.{assigned_arcs}
use Rattle.gdmo_names.specs.TemplateTerms.{FirstTerm, IdentifierTerm}
use Rattle.gdmo_names.specs.TemplateTerms.FirstTerm.{ArcNumber, ArcName}
use Rattle.identifier_arcs.specs.declared.chains.Begin.{Begin}
use Rattle.identifier_arcs.specs.declared.chains.Begin.TheVariants.{Number, Element, Nowhere}
use Rattle.identifier_arcs.specs.declared.chains.Chain.{Chain}
use Rattle.identifier_arcs.specs.ArcTexts.{tokens_said}
use Rattle.identifier_arcs.specs.Chains.{AreTold, HasNumbers, IsBegun, TellsNumbers}
use Rattle.identifier_arcs.specs.Chains.HasNumbers.{begun, behind}
use Rattle.identifier_arcs.specs.KnownArcs.{AreChains, IsChain, IsValueChain, TellsArcs, TellsChain, TellsSaid}
use Rattle.identifier_arcs.specs.KnownArcs.{first_begin, name_begin}
use Rattle.identifier_arcs.proofs.ChainLaws.{there_of}

-- ---- a first name stands for one value

place_meant : Meaning → ℕ
place_meant (ValueAt m i of stated text) = i
place_meant _ = 0

same_place : (m i v j : ℕ) (of other : TypeTerm) (stated its_stated : Option NumberTerm) (text its_text : Tree) →
    ValueAt m i of stated text ≡ ValueAt v j other its_stated its_text → i ≡ j
unfolding place_meant
same_place m i v j of other stated its_stated text its_text h = ap place_meant h

one_first : (parts : PartTerms) (name : List ℕ) (m i v j : ℕ) → DefinesNameFirst parts name m i →
    DefinesNameFirst parts name v j → (m ≡ v) × (i ≡ j)
one_first parts name m i v j one other = by (cases_lt m v) (cases_lt v m)
  where
    by : (m < v) ⊎ (v ≤ m) → (v < m) ⊎ (m ≤ v) → (m ≡ v) × (i ≡ j)
    by (inl less) further = absurd (other.first m i less one.defines)
    by (inr more) (inl less) = absurd (one.first v j less other.defines)
    by (inr more) (inr most) =
        let same : m ≡ v = omega (arith, more, most) in (
          same,
          same_place m i v j one.defines.of other.defines.of one.defines.number other.defines.number
              one.defines.text other.defines.text (sym one.defines.means ∙
              ap (λ k. assigned_in (module_terms_of parts) k name) same ∙ other.defines.means),
        )

-- the number under which a first name is told
record ToldFirst (parts : PartTerms) (told : Option ℕ) (m i : ℕ) : Type 0 where
  pub k : ℕ
  pub numbered : Numbered
  pub is_told : told ≡ Some k
  pub at : numbered_at (module_terms_of parts) k ≡ Some numbered
  pub in_module : numbered.in_module ≡ m
  pub place : numbered.place ≡ i

told_first : (parts : PartTerms) (name : List ℕ) (m i : ℕ) (told : Option ℕ) → TellsDefined parts name told →
    root_arc name ≡ None → DefinesNameFirst parts name m i → ToldFirst parts told m i
told_first parts name m i None t no_root d = absurd (t no_root m i d.defines)
told_first parts name m i (Some k) t no_root d =
    let same = one_first parts name t.numbered.in_module t.numbered.place m i t.defines d in record {
      k = k;
      numbered = t.numbered;
      is_told = refl;
      at = t.at;
      in_module = same.0;
      place = same.1;
    }

-- ---- an identifier has one list of arcs

token_of : FirstTerm → Token
token_of (ArcNumber token) = token
token_of (ArcName token) = token

same_digits : (x : IdentifierTerm) (t u : Token) → x.first ≡ ArcNumber t → x.first ≡ ArcNumber u → t ≡ u
unfolding token_of
same_digits x t u h i = ap token_of (sym h ∙ i)

same_name : (x : IdentifierTerm) (t u : Token) → x.first ≡ ArcName t → x.first ≡ ArcName u → t ≡ u
unfolding token_of
same_name x t u h i = ap token_of (sym h ∙ i)

two_ways : {P : Type 0} (x : IdentifierTerm) (t u : Token) → x.first ≡ ArcNumber t → x.first ≡ ArcName u → P
two_ways x t u h i = absurd (cc)

pub one_arcs : {parts : PartTerms} {x : IdentifierTerm} {a b : List ℕ} → HasArcs parts x a → HasArcs parts x b → a ≡ b
one_arcs {parts} {x} (number {first = t} h) (number {first = u} i) =
    ap (λ z. arc_value z ∷ map arc_value x.others) (same_digits x t u h i)
one_arcs {parts} {x} (number {first = t} h) (root {name = u} i j) = two_ways x t u h i
one_arcs {parts} {x} (number {first = t} h) (defined {name = u} i j f s d) = two_ways x t u h i
one_arcs {parts} {x} (root {name = t} h j) (number {first = u} i) = two_ways x u t i h
one_arcs {parts} {x} (root {name = t} {arc = a} h j) (root {name = u} {arc = b} i k) =
    ap (λ z. z ∷ map arc_value x.others)
    (same_Some a b (sym j ∙ ap (λ (z : Token). root_arc z.text) (same_name x t u h i) ∙ k))
one_arcs {parts} {x} (root {name = t} {arc = a} h j) (defined {name = u} i k f s d) =
    absurd (none-some a (sym k ∙ ap (λ (z : Token). root_arc z.text) (same_name x u t i h) ∙ j))
one_arcs {parts} {x} (defined {name = u} i k f s d) (number {first = t} h) = two_ways x t u h i
one_arcs {parts} {x} (defined {name = u} i k f s d) (root {name = t} {arc = a} h j) =
    absurd (none-some a (sym k ∙ ap (λ (z : Token). root_arc z.text) (same_name x u t i h) ∙ j))
one_arcs {parts} {x} (defined {y = y} {name = t} {m = m} {i = i} {arcs = arcs} h j f s d)
    (defined {y = z} {name = u} {m = v} {i = w} k l g r e) =
    let same = one_first parts u.text m i v w
    (subst (λ (n : Token). DefinesNameFirst parts n.text m i) (same_name x t u h k) f) g in
    let it : y ≡ z = same_Some y z (same_Some (Some y) (Some z) (sym s ∙ ap (λ n. arcs_at parts n i) same.0 ∙
    ap (arcs_at parts v) same.1 ∙ r)) in
    ap (λ xs. xs ++ map arc_value x.others) (one_arcs (subst (λ n. HasArcs parts n arcs) it d) e)

-- ---- with what a chain begins

begin_name : (told : List ℕ → Option ℕ) (x : IdentifierTerm) (name : Token) → x.first ≡ ArcName name →
    first_begin told x.first ≡ name_begin (root_arc name.text) (told name.text)
begin_name told x name is = ap (first_begin told) is

-- an identifier that begins with a number
data StatesFirst (x : IdentifierTerm) (first : ℕ) : Type 0 where
  by_number : {token : Token} → x.first ≡ ArcNumber token → arc_value token ≡ first → StatesFirst x first
  by_root : {name : Token} → x.first ≡ ArcName name → root_arc name.text ≡ Some first → StatesFirst x first

-- with the value of the assignment with a number
record NamesFirst (told : List ℕ → Option ℕ) (x : IdentifierTerm) (k : ℕ) : Type 0 where
  pub name : Token
  pub is : x.first ≡ ArcName name
  pub no_root : root_arc name.text ≡ None
  pub is_told : told name.text ≡ Some k

number_of : Begin → ℕ
number_of (Number n) = n
number_of (Element n) = n
number_of Nowhere = 0

same_number : (n k : ℕ) → Number n ≡ Number k → n ≡ k
unfolding number_of
same_number n k h = ap number_of h

same_element : (n k : ℕ) → Element n ≡ Element k → n ≡ k
unfolding number_of
same_element n k h = ap number_of h

states_named : (x : IdentifierTerm) (name : Token) (first : ℕ) (arc own : Option ℕ) → x.first ≡ ArcName name →
    root_arc name.text ≡ arc → name_begin arc own ≡ Number first → StatesFirst x first
states_named x name first (Some arc) own is root_is h = by_root is (root_is ∙ ap Some (same_number arc first h))
states_named x name first None (Some k) is root_is h = absurd (cc)
states_named x name first None None is root_is h = absurd (cc)

states_first : (told : List ℕ → Option ℕ) (x : IdentifierTerm) (first : ℕ) (term : FirstTerm) → x.first ≡ term →
    first_begin told term ≡ Number first → StatesFirst x first
states_first told x first (ArcNumber token) is h = by_number is (same_number (arc_value token) first h)
states_first told x first (ArcName name) is h =
    states_named x name first (root_arc name.text) (told name.text) is refl h

names_named : (told : List ℕ → Option ℕ) (x : IdentifierTerm) (name : Token) (k : ℕ) (arc own : Option ℕ) →
    x.first ≡ ArcName name → root_arc name.text ≡ arc → told name.text ≡ own → name_begin arc own ≡ Element k →
    NamesFirst told x k
names_named told x name k (Some arc) own is root_is own_is h = absurd (cc)
names_named told x name k None (Some n) is root_is own_is h = record {
  name = name;
  is = is;
  no_root = root_is;
  is_told = own_is ∙ ap Some (same_element n k h);
}
names_named told x name k None None is root_is own_is h = absurd (cc)

names_first : (told : List ℕ → Option ℕ) (x : IdentifierTerm) (k : ℕ) (term : FirstTerm) → x.first ≡ term →
    first_begin told term ≡ Element k → NamesFirst told x k
names_first told x k (ArcNumber token) is h = absurd (cc)
names_first told x k (ArcName name) is h =
    names_named told x name k (root_arc name.text) (told name.text) is refl refl h

no_begin : (chains : List Chain) (z : Chain) {numbers : List ℕ} → z.begin ≡ Nowhere → HasNumbers chains z numbers → ⊥
no_begin chains z nowhere (begun h) = absurd (cc)
no_begin chains z nowhere (behind h its d) = absurd (cc)

-- ---- arcs and numbers

module _ (parts : PartTerms) (told : List ℕ → Option ℕ) (chains : List Chain)
    (are : (name : List ℕ) → TellsDefined parts name (told name)) (whole : AreWhole parts)
    (own : AreChains parts told chains) where
  -- what the assignment with a number says
  said_at : (k : ℕ) (x : Numbered) (said : Option IdentifierTerm) → numbered_at (module_terms_of parts) k ≡ Some x →
      arcs_at parts x.in_module x.place ≡ Some said →
      (chain : Chain) × (slice_get chains k ≡ Some chain) × TellsChain told said chain
  said_at k x said at says =
      let c = own k x at in
      let v = c.2 x at in
      (c.0, c.1, subst (λ s. TellsChain told s c.0) (same_Some v.0 said (sym v.1 ∙ says)) v.2)

  pub to_numbers : {x : IdentifierTerm} {arcs : List ℕ} (chain : Chain) → IsChain told x chain →
      HasArcs parts x arcs → HasNumbers chains chain arcs
  to_numbers {x} chain c (number {first = first} is) =
      subst (λ xs. HasNumbers chains chain (arc_value first ∷ xs)) c.behind
      (begun (c.begins ∙ ap (first_begin told) is))
  to_numbers {x} chain c (root {name = name} {arc = arc} is root_is) =
      subst (λ xs. HasNumbers chains chain (arc ∷ xs)) c.behind
      (begun (c.begins ∙ begin_name told x name is ∙ ap (λ o. name_begin o (told name.text)) root_is))
  to_numbers {x} chain c (defined {y = y} {name = name} {m = m} {i = i} {arcs = arcs} is no_root first says d) =
      let t = told_first parts name.text m i (told name.text) (are name.text) no_root first in
      let there = said_at t.k t.numbered (Some y) t.at
      (ap (λ v. arcs_at parts v t.numbered.place) t.in_module ∙ ap (arcs_at parts m) t.place ∙ says) in
      subst (λ xs. HasNumbers chains chain (arcs ++ xs)) c.behind
      (behind (c.begins ∙ begin_name told x name is ∙ ap (λ o. name_begin o (told name.text)) no_root ∙
      ap (name_begin None) t.is_told) there.1
      (to_numbers there.0 (there.2 (whole.of_values m i y says)) d))

  stated_arcs : (x : IdentifierTerm) (first : ℕ) → StatesFirst x first →
      HasArcs parts x (first ∷ map arc_value x.others)
  stated_arcs x first (by_number is same) =
      subst (λ n. HasArcs parts x (n ∷ map arc_value x.others)) same (number is)
  stated_arcs x first (by_root is root_is) = root is root_is

  pub to_arcs : {x : IdentifierTerm} {chain : Chain} {numbers : List ℕ} → IsChain told x chain →
      HasNumbers chains chain numbers → HasArcs parts x numbers
  to_arcs {x} {chain} c (begun {first = first} is) =
      subst (λ xs. HasArcs parts x (first ∷ xs)) (sym c.behind)
      (stated_arcs x first (states_first told x first x.first refl (sym c.begins ∙ is)))
  to_arcs {x} {chain} c (behind {y = y} {place = k} {numbers = numbers} is there d) =
      let n = names_first told x k x.first refl (sym c.begins ∙ is) in
      by n (subst (TellsDefined parts n.name.text) n.is_told (are n.name.text)) (λ z own_chain. to_arcs own_chain d)
    where
      said : (n : NamesFirst told x k) (f : DefinesFirstAt parts n.name.text k) →
          ((z : IdentifierTerm) → IsChain told z y → HasArcs parts z numbers) → (o : Option IdentifierTerm) →
          arcs_at parts f.numbered.in_module f.numbered.place ≡ Some o →
          HasArcs parts x (numbers ++ chain.others.items)
      said n f again None says =
          let t = said_at k f.numbered None f.at says in
          absurd (no_begin chains t.0 t.2 (subst (λ w. HasNumbers chains w numbers)
          (same_Some y t.0 (sym there ∙ t.1)) d))
      said n f again (Some z) says =
          let t = said_at k f.numbered (Some z) f.at says in
          subst (λ xs. HasArcs parts x (numbers ++ xs)) (sym c.behind)
          (defined n.is n.no_root f.defines says (again z
          (subst (λ w. IsChain told z w) (sym (same_Some y t.0 (sym there ∙ t.1)))
          (t.2 (whole.of_values f.numbered.in_module f.numbered.place z says)))))

      by : (n : NamesFirst told x k) → DefinesFirstAt parts n.name.text k →
          ((z : IdentifierTerm) → IsChain told z y → HasArcs parts z numbers) →
          HasArcs parts x (numbers ++ chain.others.items)
      by n f again = let v = (own k f.numbered f.at).2 f.numbered f.at in said n f again v.0 v.1

  -- ---- what is told

  pub told_arcs : (row : Row) (x : IdentifierTerm) (chain : Chain) (answer : Option ℕ) → IsChain told x chain →
      TellsNumbers row chains chain answer → TellsArcs parts row x answer
  told_arcs row x chain None c t = λ arcs h. t arcs (to_numbers chain c h)
  told_arcs row x chain (Some n) c t = (t.0, t.1, to_arcs c t.2)

  no_told : (row : Row) (chain : Chain) (answer : Option ℕ) → chain.begin ≡ Nowhere →
      TellsNumbers row chains chain answer → answer ≡ None
  no_told row chain None nowhere t = refl
  no_told row chain (Some n) nowhere t = absurd (no_begin chains chain nowhere t.2)

  told_said : (row : Row) (m i : ℕ) (said : Option IdentifierTerm) (chain : Chain) (answer : Option ℕ) →
      arcs_at parts m i ≡ Some said → TellsChain told said chain → TellsNumbers row chains chain answer →
      TellsSaid parts row (Some said) answer
  told_said row m i None chain answer says c t = no_told row chain answer c t
  told_said row m i (Some x) chain answer says c t =
      told_arcs row x chain answer (c (whole.of_values m i x says)) t

  -- the value of an assignment
  pub told_value : (row : Row) (list : List (Option ℕ)) (k : ℕ) (x : Numbered) → AreTold row chains list →
      numbered_at (module_terms_of parts) k ≡ Some x →
      TellsSaid parts row (arcs_at parts x.in_module x.place) (option_and_then (λ z. z) (slice_get list k))
  told_value row list k x a at =
      let c = own k x at in
      let v = c.2 x at in
      let i = slice_get_within chains k c.0 c.1 in
      let o = there_of list k (let n = a.size in omega (arith, i, n)) in
      subst (λ s. TellsSaid parts row s (option_and_then (λ z. z) (slice_get list k))) (sym v.1)
      (subst (λ z. TellsSaid parts row (Some v.0) (option_and_then (λ w. w) z)) (sym o.1)
      (told_said row x.in_module x.place v.0 c.0 o.0 v.1 v.2 (a.right k c.0 o.0 c.1 o.1)))

pub begun_told : (row : Row) (chains : List Chain) (list : List (Option ℕ)) (begin : Begin) →
    AreTold row chains list → IsBegun row chains list begin
begun_told row chains list begin a = record {
  size = a.size;
  right = λ place y answer is there known. a.right place y answer there known;
}

-- ---- the chains of values

pub value_said : (parts : PartTerms) (modules : List Module) (told : List ℕ → Option ℕ) (n m : ℕ)
    (a : AssignmentTerm) (assigned : Assigned) (chain : Chain) → HasModules parts modules →
    IsAssignment (module_terms modules) n m a → a.assigned ≡ assigned_term assigned →
    TellsChain told (assigned_arcs assigned) chain → IsValueChain parts told n chain
value_said parts modules told n m a assigned chain has is same tells = λ x at. (
  assigned_arcs assigned,
  arcs_there parts modules n x has at ∙ ap Some (ap (λ (y : AssignmentTerm). term_arcs y.assigned)
      (own_numbered parts modules n m a has is x at).1 ∙ ap term_arcs same ∙ assigned_said assigned),
  tells,
)

pub value_none : (parts : PartTerms) (modules : List Module) (told : List ℕ → Option ℕ) (n : ℕ) (chain : Chain) →
    HasModules parts modules → numbered_at (module_terms modules) n ≡ None → IsValueChain parts told n chain
value_none parts modules told n chain has nothing = λ x at. absurd (none-some x
    (sym nothing ∙ ap (λ ms. numbered_at ms n) (sym (read_terms parts modules has)) ∙ at))

pub chains_told : (parts : PartTerms) (modules : List Module) (told : List ℕ → Option ℕ) (n : ℕ)
    (chains : List Chain) → HasModules parts modules → assignment_count (module_terms modules) ≤ n →
    EachIs (IsValueChain parts told) n chains → AreChains parts told chains
chains_told parts modules told n chains has all each = λ k x at.
    let w = number_within (module_terms modules) k x
    (ap (λ ms. numbered_at ms k) (sym (read_terms parts modules has)) ∙ at) in
    each_at (IsValueChain parts told) n chains k each (omega (arith, w, all))

-- ---- the numbers of arcs

pub whole_at : (xs : List (Bor Token)) (i : ℕ) (x : Bor Token) → i < length xs → x ≡ get_or xs i x →
    All IsWhole (tokens_said xs) → IsWhole x.now
whole_at [] i x within is all = absurd (omega (arith, within))
whole_at (y ∷ ys) zero x within is all =
    subst (λ (z : Bor Token). IsWhole z.now) (sym is) (all 0 y.now (omega arith))
whole_at (y ∷ ys) (suc i) x within is all =
    whole_at ys i x (omega (arith, within)) is (λ k d less. all (suc k) d (omega (arith, less)))

pub values_more : (xs : List (Bor Token)) (i : ℕ) (x : Bor Token) (values after : List ℕ) (n : ℕ) → i < length xs →
    x ≡ get_or xs i x → All IsWhole (tokens_said xs) → (IsWhole x.now → n ≡ arc_value x.now) →
    after ≡ values ++ n ∷ [] → values ≡ map arc_value (tokens_said (take i xs)) →
    after ≡ map arc_value (tokens_said (take (i + 1) xs))
values_more xs i x values after n within is all value pushed so_far =
    pushed ∙ ap (λ m. values ++ m ∷ []) (value (whole_at xs i x within is all)) ∙
    ap (λ ys. ys ++ arc_value x.now ∷ []) so_far ∙
    sym (ap (map arc_value) (map_more (λ (z : Bor Token). z.now) xs i x within is) ∙
    map-append arc_value (tokens_said (take i xs)) (x.now ∷ []))
