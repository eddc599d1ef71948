-- LeadingLaws: what leads to what in the graph of types, and which types contain which.
use Rattle.std.specs.Prelude.{◌≡◌, ◌<◌, ◌⊎◌, ℕ, ◌+◌, List, [], ◌∷◌, Bool, None, Some, length}
use Rattle.std.specs.Prelude.{refl}
use Rattle.std.specs.Prelude.{IfOk, Result, Ok, Err}
use Rattle.std.proofs.Common.{ap, arith, inl, inr, sym, subst, ◌∙◌}
use Rattle.std.proofs.lemmas.Option.{same_Some}
use Rattle.link_graphs.specs.Cycles.{IsBehindTargets, MarkCycles}
use Rattle.link_graphs.specs.Leading.{Leads, LeadsAtOnce}
use Rattle.link_graphs.specs.Leading.Leads.{at_once, onward}
use Rattle.link_graphs.specs.Marking.{IsListed}
use Rattle.asn1_names.specs.AssignmentNumbers.{Numbered, assignment_count, numbered_at}
use Rattle.asn1_names.specs.CodeMeanings.{IsTypeOf}
use Rattle.asn1_names.specs.Containment.{ContainsType, Names}
use Rattle.asn1_names.specs.Containment.ContainsType.{directly, through}
use Rattle.asn1_names.specs.ModuleTerms.{ModuleTerm, TypeTerm}
use Rattle.asn1_names.specs.NameMeaning.{type_at}
use Rattle.asn1_names.specs.Occurrences.{type_assigned}
use Rattle.asn1_names.specs.TypeWalks.{LeadsTo, NamesType}
use Rattle.asn1_numbers.specs.NamedTargets.{AddsNamed, AreTargets, IsTypeGraph}
use Rattle.asn1_numbers.specs.NumberedTypes.{IsBehindNamed, IsCyclicNumber, MarkCyclic}
use Rattle.asn1_numbers.proofs.EachLaws.{EachIs, targets_by}
use Rattle.asn1_numbers.proofs.MeantLaws.{assigns_type, numbered_type, placed_number, reference_type}
use Rattle.asn1_numbers.proofs.StandingLaws.{number_within}

-- ---- a type of an assignment

pub same_numbered : (ms : List ModuleTerm) (k : ℕ) (x y : Numbered) → numbered_at ms k ≡ Some x →
    numbered_at ms k ≡ Some y → x ≡ y
same_numbered ms k x y h g = same_Some x y (sym h ∙ g)

-- an assigned type is the type of its assignment
pub type_is : (ms : List ModuleTerm) (k : ℕ) (x : Numbered) (of : TypeTerm) → numbered_at ms k ≡ Some x →
    type_at ms x.in_module x.place ≡ Some of → IsTypeOf ms k x.in_module of
type_is ms k x of at type = record {
  numbered = x;
  at = at;
  module_is = refl;
  is = ap type_assigned (assigns_type x.assignment of (sym (numbered_type ms k x at) ∙ type));
}

pub same_type : (ms : List ModuleTerm) (k m v : ℕ) (of its : TypeTerm) → IsTypeOf ms k m of → IsTypeOf ms k v its →
    (m ≡ v) × (of ≡ its)
same_type ms k m v of its h g =
    let same = same_numbered ms k h.numbered g.numbered h.at g.at in (
      sym h.module_is ∙ ap (λ x. x.in_module) same ∙ g.module_is,
      sym h.is ∙ ap (λ x. type_assigned x.assignment.assigned) same ∙ g.is,
    )

pub type_within : (ms : List ModuleTerm) (k m : ℕ) (of : TypeTerm) → IsTypeOf ms k m of → k < assignment_count ms
type_within ms k m of h = number_within ms k h.numbered h.at

-- ---- what an assignment leads to

pub leads_by : (ms : List ModuleTerm) (k m t : ℕ) (of : TypeTerm) → IsTypeOf ms k m of → LeadsTo ms k t →
    NamesType ms m of t
leads_by ms k m t of is leads =
    let same = same_type ms k leads.m m leads.of of leads.is is in
    subst (λ v. NamesType ms v of t) same.0 (subst (λ x. NamesType ms leads.m x t) same.1 leads.names)

keep_right : {A B : Type 0} → (A → ⊥) → A ⊎ B → B
keep_right f (inl a) = absurd (f a)
keep_right f (inr b) = b

-- nothing is listed in an empty list
none_listed : (xs : List ℕ) (t : ℕ) → xs ≡ [] → IsListed xs t → ⊥
none_listed [] t e h = absurd (let at = h.1 in cc)
none_listed (x ∷ xs) t e h = absurd (cc)

pub targets_found : (ms : List ModuleTerm) (k m : ℕ) (of : TypeTerm) (before after : List ℕ) → before ≡ [] →
    IsTypeOf ms k m of → AddsNamed ms m of before after → AreTargets ms k after
targets_found ms k m of before after empty is adds = λ t. (
  λ listed. record { m = m; of = of; is = is; names = keep_right (none_listed before t empty) ((adds t).0 listed) },
  λ leads. (adds t).1 (inr (leads_by ms k m t of is leads)),
)

none_some : {X : Type 0} (x : X) → None ≡ Some x → ⊥
none_some x h = absurd (cc)

pub no_targets : (ms : List ModuleTerm) (k : ℕ) (targets : List ℕ) → targets ≡ [] → numbered_at ms k ≡ None →
    AreTargets ms k targets
no_targets ms k targets empty absent = λ t. (
  λ listed. absurd (none_listed targets t empty listed),
  λ leads. absurd (none_some leads.is.numbered (sym absent ∙ leads.is.at)),
)

-- ---- the graph

pub graph_is : (ms : List ModuleTerm) (lists : List (List ℕ)) (n : ℕ) → n ≡ assignment_count ms →
    EachIs (AreTargets ms) n lists → IsTypeGraph ms lists
graph_is ms lists n count each = record {
  size = each.size ∙ count;
  targets = λ one. targets_by (AreTargets ms one) lists one (each.each one) (past one);
}
  where
    past : (one : ℕ) → length lists < one + 1 → AreTargets ms one []
    past one less = λ other. (
      λ listed. absurd (none_listed [] other refl listed),
      λ leads. absurd (
          let within = type_within ms one leads.m leads.of leads.is in
          let size = each.size in omega (arith, less, within, size, count)),
    )

-- ---- containing, and leading

-- what is led to is an assigned type
led_type : (ms : List ModuleTerm) (t : ℕ) (y : Numbered) (m : ℕ) (of : TypeTerm) → numbered_at ms t ≡ Some y →
    NamesType ms m of t → (its : TypeTerm) × (type_at ms y.in_module y.place ≡ Some its)
led_type ms t y m of at names =
    let same = same_numbered ms t names.numbered y names.at at in (
      names.names.named,
      ap (λ (x : Numbered). type_at ms x.in_module x.place) (sym same) ∙
          reference_type ms m names.numbered.in_module names.numbered.place names.names.module_name names.names.name
          names.names.named names.names.means,
    )

names_at : (ms : List ModuleTerm) (m t : ℕ) (of : TypeTerm) (y : Numbered) → numbered_at ms t ≡ Some y →
    NamesType ms m of t → Names ms m of y.in_module y.place
names_at ms m t of y at names =
    subst (λ (z : Numbered). Names ms m of z.in_module z.place) (same_numbered ms t names.numbered y names.at at)
    names.names

leads_at : (ms : List ModuleTerm) (lists : List (List ℕ)) (e t : ℕ) → IsTypeGraph ms lists →
    LeadsAtOnce lists e t → LeadsTo ms e t
leads_at ms lists e t graph h = (graph.targets e t).0 (h.place, h.stands)

at_once_by : (ms : List ModuleTerm) (lists : List (List ℕ)) (e t : ℕ) → IsTypeGraph ms lists → LeadsTo ms e t →
    LeadsAtOnce lists e t
at_once_by ms lists e t graph leads =
    let listed = (graph.targets e t).1 leads in record {
      place = listed.0;
      stands = listed.1;
      within = (
          let less = number_within ms t leads.names.numbered leads.names.at in
          let size = graph.size in omega (arith, less, size));
    }

-- an assigned type contains what it leads to
contains_by : {ms : List ModuleTerm} {lists : List (List ℕ)} {e t : ℕ} → IsTypeGraph ms lists → Leads lists e t →
    (x y : Numbered) (of : TypeTerm) → numbered_at ms e ≡ Some x → numbered_at ms t ≡ Some y →
    type_at ms x.in_module x.place ≡ Some of → ContainsType ms x.in_module x.place y.in_module y.place
contains_by {ms = ms} {lists = lists} {e = e} {t = t} graph (at_once h) x y of at there type =
    let names = leads_by ms e x.in_module t of (type_is ms e x of at type) (leads_at ms lists e t graph h) in
    directly type (names_at ms x.in_module t of y there names)
contains_by {ms = ms} {lists = lists} {e = e} {t = t} graph (onward {between = b} rest h) x y of at there type =
    let leads = leads_at ms lists b t graph h in
    let z = leads.is.numbered in
    let before = contains_by graph rest x z of at leads.is.at type in
    let its = last_type before in
    let names = leads_by ms b z.in_module t its.0 (type_is ms b z its.0 leads.is.at its.1) leads in
    through {of = its.0} before its.1 (names_at ms z.in_module t its.0 y there names)
  where
    last_type : {v j : ℕ} {n i : ℕ} {ns : List ModuleTerm} → ContainsType ns n i v j →
        (its : TypeTerm) × (type_at ns v j ≡ Some its)
    last_type {v = v} {j = j} {ns = ns} (directly {of = own} k names) =
        (names.named, reference_type ns _ v j names.module_name names.name names.named names.means)
    last_type {v = v} {j = j} {ns = ns} (through c k names) =
        (names.named, reference_type ns _ v j names.module_name names.name names.named names.means)

-- a name of the type at one place is one of the type at the same place
named_there : (ms : List ModuleTerm) (m v j w k n : ℕ) (of : TypeTerm) → w ≡ m → k ≡ v → n ≡ j →
    Names ms m of v j → Names ms w of k n
named_there ms m v j w k n of home there place names =
    subst (λ a. Names ms a of k n) (sym home)
    (subst (λ a. Names ms m of a n) (sym there) (subst (λ a. Names ms m of v a) (sym place) names))

-- a type leads to what it contains
leads_on : {ms : List ModuleTerm} {lists : List (List ℕ)} {m i v j : ℕ} → IsTypeGraph ms lists →
    ContainsType ms m i v j → (e t : ℕ) (x y : Numbered) → numbered_at ms e ≡ Some x → numbered_at ms t ≡ Some y →
    x.in_module ≡ m → x.place ≡ i → y.in_module ≡ v → y.place ≡ j → Leads lists e t
leads_on {ms = ms} {lists = lists} graph (directly {of = of} type names) e t x y at there xm xi yv yj =
    let own : IsTypeOf ms e x.in_module of = type_is ms e x of at ((λ k. type_at ms (xm k) (xi k)) ∙ type) in
    at_once (at_once_by ms lists e t graph (record {
      m = x.in_module;
      of = of;
      is = own;
      names = record {
        numbered = y;
        at = there;
        names = named_there ms _ _ _ x.in_module y.in_module y.place of xm yv yj names;
      };
    }))
leads_on {ms = ms} {lists = lists} graph (through {w = w} {k = k} {of = of} c type names) e t x y at there xm xi yv yj =
    let found = placed_number ms w k of type in
    let home = found.1.in_module in
    let own : IsTypeOf ms found.0 home of = type_is ms found.0 found.1 of found.2
    ((λ l. type_at ms (found.3 l) (found.4 l)) ∙ type) in
    onward (leads_on graph c e found.0 x found.1 at found.2 xm xi found.3 found.4)
    (at_once_by ms lists found.0 t graph (record {
      m = home;
      of = of;
      is = own;
      names = record {
        numbered = y;
        at = there;
        names = named_there ms w _ _ home y.in_module y.place of found.3 yv yj names;
      };
    }))

-- ---- what is found of the graph

cyclic_number : (ms : List ModuleTerm) (lists : List (List ℕ)) (e : ℕ) → IsTypeGraph ms lists → Leads lists e e →
    IsCyclicNumber ms e
cyclic_number ms lists e graph leads =
    let target = last_step leads in
    let led = leads_at ms lists target.0 e graph target.1 in
    let y = led.names.numbered in
    let type = led_type ms e y led.m led.of led.names.at led.names in record {
      numbered = y;
      at = led.names.at;
      cyclic = contains_by graph leads y y type.0 led.names.at led.names.at type.1;
    }
  where
    last_step : {xs : List (List ℕ)} {a b : ℕ} → Leads xs a b → (between : ℕ) × LeadsAtOnce xs between b
    last_step {a = a} (at_once h) = (a, h)
    last_step (onward {between = between} rest h) = (between, h)

leads_back : (ms : List ModuleTerm) (lists : List (List ℕ)) (e : ℕ) → IsTypeGraph ms lists → IsCyclicNumber ms e →
    Leads lists e e
leads_back ms lists e graph is =
    leads_on graph is.cyclic e e is.numbered is.numbered is.at is.at refl refl refl refl

pub cyclic_marked : (ms : List ModuleTerm) (lists : List (List ℕ)) (marks : List Bool) → IsTypeGraph ms lists →
    MarkCycles lists marks → MarkCyclic ms marks
cyclic_marked ms lists marks graph marked = record {
  size = marked.size ∙ graph.size;
  cyclic = λ e is. cyclic_number ms lists e graph (marked.leads e is);
  marked = λ e is. marked.marked e (leads_back ms lists e graph is);
}

pub behind_named : (ms : List ModuleTerm) (lists : List (List ℕ)) (order : List ℕ) → IsTypeGraph ms lists →
    IsBehindTargets lists order → IsBehindNamed ms order
behind_named ms lists order graph behind = record {
  numbers = λ k e at. (let less = behind.elements k e at in let size = graph.size in omega (arith, less, size));
  every = λ e less. behind.every e (let size = graph.size in omega (arith, less, size));
  once = behind.once;
  behind = λ k e t at acyclic leads. behind.behind k e t at
      (λ back. acyclic (cyclic_number ms lists e graph back)) (at_once_by ms lists e t graph leads);
}

pub if_ok_by : {A E : Type 0} {P Q : A → Type 0} (r : Result A E) → ((x : A) → P x → Q x) → IfOk r P → IfOk r Q
if_ok_by (Ok x) f h = f x h
if_ok_by (Err e) f h = tt
