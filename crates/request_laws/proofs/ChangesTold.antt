-- The requests that are read of the arguments of m-Set and m-Action are those that the trees denote: X.711, section
-- 7.4.
use Rattle.std.proofs.Common.{◌≡◌, ℤ, pos, List, [], ◌∷◌, Bool, true, false, Option, None, Some, refl, sym, ap, subst}
use Rattle.std.proofs.Common.{◌∙◌, ⊎_elim}
use Rattle.std.proofs.lemmas.Bool.{and_parts, cases_Bool}
use Rattle.std.proofs.lemmas.Option.{none-some, same_Some}
use Rattle.std.specs.List.{list_all}
use Rattle.std.specs.Prelude.{find, option_and_then, option_map}
use Rattle.term_values.specs.FilterTrees.{is_context}
use Rattle.term_values.specs.LeafReading.{no_trees}
use Rattle.term_values.specs.Tag.{context, universal}
use Rattle.term_values.specs.Tree.{TreeValue, TreeValues}
use Rattle.term_values.specs.Tree.TreeValue.{Constructed}
use Rattle.term_values.specs.Tree.TreeValues.{Nothing, Then}
use Rattle.typed_laws.proofs.Choosing.{if_some, map_some, then_some}
use Rattle.typed_laws.specs.TreeOctets.{HasOctets, HaveOctets}
use Rattle.filter_laws.specs.DenotingLaws.{AreClear, IsClear, is_clear}
use Rattle.filter_laws.proofs.GivenTold.{given_is_denoted}
use Rattle.filter_laws.proofs.IdTold.{id_is_denoted}
use Rattle.term_model.specs.declared.filter_item.Given.{Given}
use Rattle.term_model.specs.declared.request.Change.{Change}
use Rattle.term_model.specs.declared.request.IdRef.{IdRef}
use Rattle.term_model.specs.declared.request.IdRef.TheVariants.{Global, Local}
use Rattle.term_model.specs.declared.request.Request.{Request}
use Rattle.term_model.specs.declared.request.Request.TheVariants as requests
use Rattle.term_model.specs.declared.schema.AttrRec.{AttrRec}
use Rattle.term_model.specs.declared.schema.Set.{Set}
use Rattle.term_model.specs.ApduReading.{at_most_one as one_at_most}
use Rattle.term_model.specs.ArgumentRows.{all_in, at_end, at_front, held_under, inside_last}
use Rattle.term_model.specs.Assertions.{IsIdRef, attribute_given, attribute_syntax, given_of, id_in}
use Rattle.term_model.specs.Comparing.{is_same_oid}
use Rattle.term_model.specs.Parts.{inside_under, one_under}
use Rattle.term_model.specs.RequestHeads.{ScopedTrees, head_of}
use Rattle.term_model.specs.ScopedReading.{action_inside, action_of, action_syntax, action_with, change_behind}
use Rattle.term_model.specs.ScopedReading.{change_in, change_inside, change_with, changes_of, operator_of, set_of}
use Rattle.request_laws.specs.ChangeDenoting.{ActionIsDenoted, ActionsAreClear, AreChanges, DenotesAction, DenotesSet}
use Rattle.request_laws.specs.ChangeDenoting.{IsArgument, IsChange, IsOperator, IsValue, SetIsDenoted}
use Rattle.request_laws.specs.RequestDenoting.{before}
use Rattle.request_laws.proofs.HeadTold.{front_back, front_octets, head_told, inside_told, one_told, whole_told}
use Rattle.request_laws.proofs.ScopedTold.{Scoped, argument_told, last_told, nothing_told}

-- ---- syntaxes

found_clear : (test : AttrRec → Bool) (records : List AttrRec) → AreClear records
    → IsClear (option_map (λ (of_attribute : AttrRec). of_attribute.syntax) (find test records))
found_clear test [] clear = tt
found_clear test (x ∷ xs) clear =
    let parts = and_parts (is_clear x) (list_all is_clear xs) clear in
    ⊎_elim (λ (e : test x ≡ true). rw e parts.0)
    (λ (e : test x ≡ false). rw e (found_clear test xs parts.1))
    (cases_Bool (test x))

syntax_clear : (records : List AttrRec) (id : IdRef) → AreClear records → IsClear (attribute_syntax records id)
syntax_clear records (Global id) clear =
    found_clear (λ (of_attribute : AttrRec). is_same_oid of_attribute.id id) records clear
syntax_clear records (Local number) clear = tt

-- ---- the one component that is left

alone_told : {A : Type 0} (read : TreeValues → Option A) (xs : TreeValues) (a : A) → HaveOctets xs
    → option_and_then read (inside_last 12 xs) ≡ Some a
    → (inside : TreeValues) × (xs ≡ Then (Constructed (context 12) inside) Nothing) × HaveOctets inside
    × (read inside ≡ Some a)
alone_told read Nothing a octets e = absurd (none-some _ e)
alone_told read (Then x Nothing) a octets e =
    let f = then_some read (inside_under (context 12) x) a e in
    let is = inside_told (context 12) x f.0 f.1 in
    (f.0, ap (λ t. Then t Nothing) is, subst HasOctets is octets.0, f.2)
alone_told read (Then x (Then y ys)) a octets e = absurd (none-some _ e)

-- ---- modifications

operator_told : (o : Option TreeValue) (n : ℤ) → ((x : TreeValue) → o ≡ Some x → HasOctets x)
    → operator_of o ≡ Some n → IsOperator o n
operator_told None n octets e = sym (same_Some (pos 0) n e)
operator_told (Some x) n octets e = (n, whole_told (context 2) x n (octets x refl) e, refl, refl)

most_told : (xs : TreeValues) (o : Option TreeValue) → HaveOctets xs → one_at_most xs ≡ Some o
    → (xs ≡ before o Nothing) × ((x : TreeValue) → o ≡ Some x → HasOctets x)
most_told Nothing o octets e =
    subst (λ p. (Nothing ≡ before p Nothing) × ((x : TreeValue) → p ≡ Some x → HasOctets x)) (same_Some None o e)
    (refl, λ x f. absurd (none-some _ f))
most_told (Then y ys) o octets e =
    let p = if_some (no_trees ys) (Some (Some y)) o e in
    subst (λ p. (Then y ys ≡ before p Nothing) × ((x : TreeValue) → p ≡ Some x → HasOctets x))
    (same_Some (Some y) o p.1)
    (ap (Then y) (nothing_told ys p.0), λ x f. subst HasOctets (same_Some y x f) octets.0)

value_told : (records : List AttrRec) (id : IdRef) (o : Option TreeValue) → AreClear records
    → ((x : TreeValue) → o ≡ Some x → HasOctets x)
    → IsValue (attribute_syntax records id) id o (option_map (attribute_given records id) o)
value_told records id None clear octets = refl
value_told records id (Some x) clear octets = (
  attribute_given records id x,
  given_is_denoted (attribute_syntax records id) id x (syntax_clear records id clear) (octets x refl),
  refl,
)

-- what stands behind the operator
abbrev Behind : List AttrRec → ℤ → TreeValues → Change → Type 0
Behind records n xs change =
    (id : TreeValue) × (value : Option TreeValue) × (xs ≡ Then id (before value Nothing)) × (change.operator ≡ n)
    × IsIdRef 0 1 id change.id × IsValue (attribute_syntax records change.id) change.id value change.given

behind_told : (records : List AttrRec) (n : ℤ) (xs : TreeValues) (change : Change) → AreClear records → HaveOctets xs
    → change_behind records n xs ≡ Some change → Behind records n xs change
behind_told records n Nothing change clear octets e = absurd (none-some _ e)
behind_told records n (Then id rest) change clear octets e =
    let g = then_some (λ value. option_map (λ named. change_with records n named value) (id_in 0 1 id))
    (one_at_most rest) change e in
    let m = map_some (λ named. change_with records n named g.0) (id_in 0 1 id) change g.2 in
    let t = most_told rest g.0 octets.1 g.1 in
    subst (Behind records n (Then id rest)) m.2 (
      id,
      g.0,
      ap (Then id) t.0,
      refl,
      id_is_denoted 0 1 id m.0 octets.0 m.1,
      value_told records m.0 g.0 clear t.1,
    )

change_told : (records : List AttrRec) (tree : TreeValue) (change : Change) → AreClear records → HasOctets tree
    → change_in records tree ≡ Some change → IsChange records tree change
change_told records tree change clear octets e =
    let i = then_some (change_inside records) (inside_under (universal 16) tree) change e in
    let is = inside_told (universal 16) tree i.0 i.1 in
    let operator = at_front (is_context 2) i.0 in
    let held = front_octets (is_context 2) i.0 (subst HasOctets is octets) in
    let f = then_some (λ n. change_behind records n operator.1) (operator_of operator.0) change i.2 in
    let b = behind_told records f.0 operator.1 change clear held.1 f.2 in (
      operator.0,
      b.0,
      b.1,
      is ∙ ap (Constructed (universal 16)) (front_back (is_context 2) i.0 ∙ ap (before operator.0) b.2),
      subst (IsOperator operator.0) (sym b.3) (operator_told operator.0 f.0 held.0 f.1),
      b.4,
      b.5,
    )

changes_told : (records : List AttrRec) (xs : TreeValues) (changes : List Change) → AreClear records → HaveOctets xs
    → all_in (change_in records) xs ≡ Some changes → AreChanges records xs changes
changes_told records Nothing changes clear octets e = subst (AreChanges records Nothing) (same_Some [] changes e) refl
changes_told records (Then x xs) changes clear octets e =
    let f = then_some (λ a. option_map (λ rest. a ∷ rest) (all_in (change_in records) xs)) (change_in records x)
    changes e in
    let m = map_some (λ rest. f.0 ∷ rest) (all_in (change_in records) xs) changes f.2 in
    subst (AreChanges records (Then x xs)) m.2
    (x, xs, refl, change_told records x f.0 clear octets.0 f.1, changes_told records xs m.0 clear octets.1 m.1)

set_told : (set : Set) (confirmed : Bool) (tree : TreeValue) (request : Request) → AreClear set.attributes
    → (trees : ScopedTrees) × Scoped tree trees × (set_of set confirmed trees ≡ Some request)
    → DenotesSet set confirmed tree request
set_told set confirmed tree request clear a =
    let i = then_some (λ changes. option_map (λ head. requests.Set head changes confirmed) (head_of set a.0))
    (changes_of set.attributes a.0.rest) request a.2 in
    let h = map_some (λ head. requests.Set head i.0 confirmed) (head_of set a.0) request i.2 in
    let l = alone_told (all_in (change_in set.attributes)) a.0.rest i.0 a.1.held.rest i.1 in (
      a.0,
      l.0,
      h.0,
      i.0,
      a.1.is,
      l.1,
      head_told set a.0 h.0 clear a.1.held h.1,
      changes_told set.attributes l.0 i.0 clear l.2 l.3,
      sym h.2,
    )

pub set_is_denoted : SetIsDenoted
set_is_denoted set tree request clear octets = (
  λ e. set_told set false tree request clear (argument_told (set_of set false) tree request octets e),
  λ e. set_told set true tree request clear (argument_told (set_of set true) tree request octets e),
)

-- ---- actions

argument_held : (set : Set) (id : IdRef) (o : Option TreeValue) (value : Option TreeValue) → ActionsAreClear set
    → ((x : TreeValue) → o ≡ Some x → HasOctets x) → held_under 4 o ≡ Some value
    → IsArgument (action_syntax set.actions id) id o
    (option_map (given_of (action_syntax set.actions id) id) value)
argument_held set id None value clear octets e =
    subst (λ v. IsArgument (action_syntax set.actions id) id None
    (option_map (given_of (action_syntax set.actions id) id) v)) (same_Some None value e) refl
argument_held set id (Some x) value clear octets e =
    let m = map_some Some (one_under (context 4) x) value e in
    let is = one_told (context 4) x m.0 m.1 in
    subst (λ v. IsArgument (action_syntax set.actions id) id (Some x)
    (option_map (given_of (action_syntax set.actions id) id) v)) m.2 (
      m.0,
      given_of (action_syntax set.actions id) id m.0,
      is,
      given_is_denoted (action_syntax set.actions id) id m.0 (clear id) (subst HasOctets is (octets x refl)).0,
      refl,
    )

abbrev Acted : Set → TreeValues → IdRef × Option Given → Type 0
Acted set xs action =
    (id : TreeValue) × (value : Option TreeValue) × (xs ≡ Then id (before value Nothing))
    × IsIdRef 2 3 id action.0 × IsArgument (action_syntax set.actions action.0) action.0 value action.1

action_told : (set : Set) (xs : TreeValues) (action : IdRef × Option Given) → ActionsAreClear set → HaveOctets xs
    → action_inside set.actions xs ≡ Some action → Acted set xs action
action_told set Nothing action clear octets e = absurd (none-some _ e)
action_told set (Then id rest) action clear octets e =
    let g = then_some (λ value. option_map (λ named. action_with set.actions named value) (id_in 2 3 id))
    (option_and_then (held_under 4) (at_end 4 rest)) action e in
    let m = map_some (λ named. action_with set.actions named g.0) (id_in 2 3 id) action g.2 in
    let l = then_some (held_under 4) (at_end 4 rest) g.0 g.1 in
    let last = last_told 4 rest l.0 octets.1 l.1 in
    subst (Acted set (Then id rest)) m.2 (
      id,
      l.0,
      ap (Then id) last.is,
      id_is_denoted 2 3 id m.0 octets.0 m.1,
      argument_held set m.0 l.0 g.0 clear last.octets l.2,
    )

act_told : (set : Set) (confirmed : Bool) (tree : TreeValue) (request : Request) → AreClear set.attributes
    → ActionsAreClear set → (trees : ScopedTrees) × Scoped tree trees × (action_of set confirmed trees ≡ Some request)
    → DenotesAction set confirmed tree request
act_told set confirmed tree request clear actions a =
    let i = then_some (λ (action : IdRef × Option Given).
    option_map (λ head. requests.Act head action.0 action.1 confirmed) (head_of set a.0))
    (option_and_then (action_inside set.actions) (inside_last 12 a.0.rest)) request a.2 in
    let h = map_some (λ head. requests.Act head i.0.0 i.0.1 confirmed) (head_of set a.0) request i.2 in
    let l = alone_told (action_inside set.actions) a.0.rest i.0 a.1.held.rest i.1 in
    let t = action_told set l.0 i.0 actions l.2 l.3 in (
      a.0,
      t.0,
      t.1,
      h.0,
      i.0.0,
      i.0.1,
      a.1.is,
      l.1 ∙ ap (λ xs. Then (Constructed (context 12) xs) Nothing) t.2,
      head_told set a.0 h.0 clear a.1.held h.1,
      t.3,
      t.4,
      sym h.2,
    )

pub action_is_denoted : ActionIsDenoted
action_is_denoted set tree request clear actions octets = (
  λ e. act_told set false tree request clear actions (argument_told (action_of set false) tree request octets e),
  λ e. act_told set true tree request clear actions (argument_told (action_of set true) tree request octets e),
)
