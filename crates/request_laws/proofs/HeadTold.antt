-- The head that is read is the one that the components denote: X.711, section 7.4.
use Rattle.std.proofs.Common.{◌≡◌, ℕ, ℤ, pos, List, Bool, true, false, Option, None, Some, refl, sym, ap, subst, ◌∙◌}
use Rattle.std.proofs.Common.{⊎_elim}
use Rattle.std.proofs.lemmas.Bool.{cases_Bool, false≢true}
use Rattle.std.proofs.lemmas.Option.{none-some, same_Some}
use Rattle.std.specs.Prelude.{IfSome, is_some, option_and_then, option_map}
use Rattle.term_values.specs.CmipTypes.{explicit, object_instance, scope}
use Rattle.term_values.specs.Decoding.{value_in}
use Rattle.term_values.specs.Denotes.{Denotes, IsWhole}
use Rattle.term_values.specs.Der.{written}
use Rattle.term_values.specs.FilterTrees.{is_context}
use Rattle.term_values.specs.Octets.{integer_in}
use Rattle.term_values.specs.SpellingLaws.{AreOctets}
use Rattle.term_values.specs.Syntaxes.TypeSyntax.{Any}
use Rattle.term_values.specs.Tag.{context, is_same_tag, universal}
use Rattle.term_values.specs.Tree.{TreeValue, TreeValues}
use Rattle.term_values.specs.Tree.TreeValue.{Primitive, Constructed}
use Rattle.term_values.specs.Tree.TreeValues.{Nothing, Then}
use Rattle.term_values.specs.TreeTags.{tag_of}
use Rattle.term_values.specs.Typed.{TypedValue}
use Rattle.term_values.specs.Typed.TypedValue.{Int, Raw}
use Rattle.term_values.specs.declared.tag.Tag.{Tag}
use Rattle.typed_laws.proofs.Choosing.{if_some, map_some, same_tag, then_some}
use Rattle.typed_laws.proofs.LeavesTold.{whole_of}
use Rattle.typed_laws.proofs.ReadingStatements.{reading_denotes_holds}
use Rattle.typed_laws.specs.TreeOctets.{HasOctets, HaveOctets}
use Rattle.filter_laws.specs.DenotingLaws.{AreClear}
use Rattle.filter_laws.proofs.FilterTold.{filter_is_denoted}
use Rattle.filter_laws.proofs.IdTold.{id_is_denoted}
use Rattle.filter_laws.proofs.Options.{at, if_found, there}
use Rattle.term_model.specs.declared.filter.Asked.{Asked}
use Rattle.term_model.specs.declared.request.Head.{Head}
use Rattle.term_model.specs.declared.request.IdRef.{IdRef}
use Rattle.term_model.specs.declared.request.Instance.{Instance}
use Rattle.term_model.specs.declared.schema.Set.{Set}
use Rattle.term_model.specs.declared.scope.Scope.{Scope}
use Rattle.term_model.specs.declared.scope.Scope.TheVariants as scopes
use Rattle.term_model.specs.ArgumentRows.{at_front, begins_filter, held_under}
use Rattle.term_model.specs.Assertions.{IsIdRef, id_in}
use Rattle.term_model.specs.FilterReading.{asked_of, filter_in}
use Rattle.term_model.specs.InstanceNames.{instance_in, named_in}
use Rattle.term_model.specs.Parts.{contents_under, inside_under, integer_under, one, one_under}
use Rattle.term_model.specs.RequestHeads.{ScopedTrees, filter_of, head_of, head_with, object_of, options_behind}
use Rattle.term_model.specs.RequestHeads.{options_of, scope_in, scope_of, sync_of}
use Rattle.request_laws.specs.RequestDenoting.{IsAccess, IsAsked, IsHead, IsInstance, IsScope, IsSync, before, row}
use Rattle.request_laws.specs.RequestDenoting.{scope_value}
use Rattle.request_laws.proofs.Instances.{instance_same}
use Rattle.request_laws.proofs.Options.{some_there}

-- ---- values under a tag

pub inside_told : (tag : Tag) (x : TreeValue) (inside : TreeValues) → inside_under tag x ≡ Some inside
    → x ≡ Constructed tag inside
inside_told tag (Primitive own contents) inside e = absurd (none-some _ e)
inside_told tag (Constructed own held) inside e =
    let t = if_some (is_same_tag own tag) (Some held) inside e in
    let own_is = same_tag own tag t.0 in
    let inside_is = same_Some held inside t.1 in
    λ i. Constructed (own_is i) (inside_is i)

pub one_told : (tag : Tag) (x y : TreeValue) → one_under tag x ≡ Some y → x ≡ Constructed tag (Then y Nothing)
one_told tag x y e =
    let f = then_some one (inside_under tag x) y e in
    inside_told tag x f.0 f.1 ∙ ap (Constructed tag) (alone f.0 f.2)
  where
    alone : (xs : TreeValues) → one xs ≡ Some y → xs ≡ Then y Nothing
    alone Nothing e = absurd (none-some _ e)
    alone (Then a Nothing) e = ap (λ b. Then b Nothing) (same_Some a y e)
    alone (Then a (Then b xs)) e = absurd (none-some _ e)

pub whole_told : (tag : Tag) (x : TreeValue) (n : ℤ) → HasOctets x → integer_under tag x ≡ Some n → IsWhole tag x n
whole_told tag (Constructed own inside) n octets e = absurd (none-some _ e)
whole_told tag (Primitive own contents) n octets e =
    let f = then_some integer_in (contents_under tag (Primitive own contents)) n e in
    let t = if_some (is_same_tag own tag) (Some contents) f.0 f.1 in
    let w = whole_of contents n octets (ap integer_in (same_Some contents f.0 t.1) ∙ f.2) in
    let own_is = same_tag own tag t.0 in
    let contents_are = w.0 in
    ((λ i. Primitive (own_is i) (contents_are i)), w.1)

-- ---- the components

pub access_told : (o : Option TreeValue) → is_some (held_under 5 o) ≡ true → IsAccess o
access_told None e = tt
access_told (Some x) e = go (one_under (context 5) x) refl e
  where
    go : (o : Option TreeValue) → one_under (context 5) x ≡ o → is_some (option_map Some o) ≡ true
        → (value : TypedValue) × Denotes (explicit 5 Any) x value
    go None is e = absurd (false≢true e)
    go (Some y) is e = (Raw (written y), (y, one_told (context 5) x y is, refl))

sync_told : (o : Option TreeValue) (n : ℤ) → ((x : TreeValue) → o ≡ Some x → HasOctets x) → sync_of o ≡ Some n
    → IsSync o n
sync_told None n octets e = sym (same_Some (pos 0) n e)
sync_told (Some x) n octets e = (n, whole_told (context 6) x n (octets x refl) e, refl, refl)

abbrev ScopeTold : List ℕ → Tag → Type 0
ScopeTold contents tag =
    IfSome (scope_in (Primitive tag contents)) (λ reach. Denotes scope (Primitive tag contents) (scope_value reach))

contents_told : (contents : List ℕ) (n : ℤ) (tag : Tag) → AreOctets contents → integer_in contents ≡ Some n
    → IsWhole tag (Primitive tag contents) n
contents_told contents n tag octets found =
    let w = whole_of contents n octets found in
    (ap (Primitive tag) w.0, w.1)

scope_in_told : (x : TreeValue) → HasOctets x
    → IfSome (scope_in x) (λ reach. Denotes scope x (scope_value reach))
scope_in_told (Constructed tag inside) octets = tt
scope_in_told (Primitive tag contents) octets =
    ⊎_elim
    (λ (e : is_same_tag (universal 2) tag ≡ true). subst (ScopeTold contents) (same_tag (universal 2) tag e)
    (if_found (λ reach. Denotes scope (Primitive (universal 2) contents) (scope_value reach)) scopes.Plain
    (integer_in contents) (λ n found.
    (0, Int n, (n, contents_told contents n (universal 2) octets found, refl, refl), refl))))
    (λ (e : is_same_tag (universal 2) tag ≡ false).
    at 1 (ScopeTold contents) tag
    (if_found (λ reach. Denotes scope (Primitive (context 1) contents) (scope_value reach)) scopes.Level
    (integer_in contents) (λ n found.
    (1, Int n, (n, contents_told contents n (context 1) octets found, refl, refl), refl)))
    (λ f. at 2 (ScopeTold contents) tag
    (if_found (λ reach. Denotes scope (Primitive (context 2) contents) (scope_value reach)) scopes.Upto
    (integer_in contents) (λ n found.
    (2, Int n, (n, contents_told contents n (context 2) octets found, refl, refl), refl)))
    (λ g. rw (e, f, g) tt)))
    (cases_Bool (is_same_tag (universal 2) tag))

scope_told : (o : Option TreeValue) (reach : Scope) → ((x : TreeValue) → o ≡ Some x → HasOctets x)
    → scope_of o ≡ Some reach → IsScope o reach
scope_told None reach octets e = sym (same_Some (scopes.Plain (pos 0)) reach e)
scope_told (Some x) reach octets e =
    let f = then_some scope_in (one_under (context 7) x) reach e in
    let is = one_told (context 7) x f.0 f.1 in
    let held : HasOctets f.0 = (subst HasOctets is (octets x refl)).0 in
    (f.0, is, there (λ s. Denotes scope f.0 (scope_value s)) (scope_in f.0) reach (scope_in_told f.0 held) f.2)

asked_told : (set : Set) (o : Option TreeValue) (asked : Asked) → AreClear set.attributes
    → ((x : TreeValue) → o ≡ Some x → HasOctets x) → filter_of set o ≡ Some asked → IsAsked set o asked
asked_told set None asked clear octets e = sym (same_Some _ asked e)
asked_told set (Some x) asked clear octets e =
    let m = map_some (asked_of set.attributes (written x)) (filter_in set.attributes x) asked e in
    (m.0, filter_is_denoted set.attributes x m.0 clear (octets x refl) m.1, sym m.2)

pub instance_told : (set : Set) (x : TreeValue) (instance : Instance) → HasOctets x → instance_in set x ≡ Some instance
    → IsInstance set x instance
instance_told set x instance octets e =
    let v = some_there (instance_in set x) (value_in object_instance x) instance (instance_same set x) e in
    let m = map_some (λ found. record { raw = written x; named = found }) (named_in set x) instance e in
    let same : record { raw = written x; named = m.0 } ≡ instance = m.2 in (
      (v.0, reading_denotes_holds object_instance x v.0 octets v.1),
      sym (ap (λ (i : Instance). i.raw) same),
      m.1 ∙ ap (λ (i : Instance). Some i.named) same,
    )

-- ---- the components in their row

pub front_back : (test : Tag → Bool) (xs : TreeValues) → xs ≡ before (at_front test xs).0 (at_front test xs).1
front_back test Nothing = refl
front_back test (Then x xs) =
    ⊎_elim (λ (e : test (tag_of x) ≡ true). rw e refl) (λ (e : test (tag_of x) ≡ false). rw e refl)
    (cases_Bool (test (tag_of x)))

before_octets : (o : Option TreeValue) (xs : TreeValues) → HaveOctets (before o xs)
    → ((x : TreeValue) → o ≡ Some x → HasOctets x) × HaveOctets xs
before_octets None xs h = (λ x e. absurd (none-some _ e), h)
before_octets (Some y) xs h = (λ x e. subst HasOctets (same_Some y x e) h.0, h.1)

pub front_octets : (test : Tag → Bool) (xs : TreeValues) → HaveOctets xs
    → ((x : TreeValue) → (at_front test xs).0 ≡ Some x → HasOctets x) × HaveOctets (at_front test xs).1
front_octets test xs h =
    before_octets (at_front test xs).0 (at_front test xs).1 (subst HaveOctets (front_back test xs) h)

pub row_back : (class base : TreeValue) (xs : TreeValues)
    → Then class (Then base xs) ≡ row (options_behind class base xs)
row_back class base xs =
    let access = at_front (is_context 5) xs in
    let sync = at_front (is_context 6) access.1 in
    let reach = at_front (is_context 7) sync.1 in
    ap (λ ys. Then class (Then base ys)) (front_back (is_context 5) xs
    ∙ ap (before access.0) (front_back (is_context 6) access.1
    ∙ ap (before sync.0) (front_back (is_context 7) sync.1
    ∙ ap (before reach.0) (front_back begins_filter reach.1))))

abbrev Held : Option TreeValue → Type 0
Held o = (x : TreeValue) → o ≡ Some x → HasOctets x

pub record TreesHeld (trees : ScopedTrees) : Type 0 where
  pub class : HasOctets trees.class
  pub base : HasOctets trees.base
  pub sync : Held trees.sync
  pub reach : Held trees.scope
  pub filter : Held trees.filter
  pub rest : HaveOctets trees.rest

pub trees_held : (class base : TreeValue) (xs : TreeValues) → HaveOctets (Then class (Then base xs))
    → TreesHeld (options_behind class base xs)
trees_held class base xs h =
    let access = front_octets (is_context 5) xs h.1.1 in
    let sync = front_octets (is_context 6) (at_front (is_context 5) xs).1 access.1 in
    let reach = front_octets (is_context 7) (at_front (is_context 6) (at_front (is_context 5) xs).1).1 sync.1 in
    let filter = front_octets begins_filter
    (at_front (is_context 7) (at_front (is_context 6) (at_front (is_context 5) xs).1).1).1 reach.1 in
    record {
      class = h.0;
      base = h.1.0;
      sync = sync.0;
      reach = reach.0;
      filter = filter.0;
      rest = filter.1;
    }

pub head_told : (set : Set) (trees : ScopedTrees) (head : Head) → AreClear set.attributes → TreesHeld trees
    → head_of set trees ≡ Some head → IsHead set trees head
head_told set trees head clear held e =
    let f = then_some (head_with set trees.class trees.base trees.filter)
    (options_of trees.access trees.sync trees.scope) head e in
    let o = if_some (is_some (held_under 5 trees.access)) (option_and_then (λ n. option_map (λ reach. (n, reach))
    (scope_of trees.scope)) (sync_of trees.sync)) f.0 f.1 in
    let s = then_some (λ n. option_map (λ reach. (n, reach)) (scope_of trees.scope)) (sync_of trees.sync) f.0 o.1 in
    let r = map_some (λ reach. (s.0, reach)) (scope_of trees.scope) f.0 s.2 in
    let b = then_some (λ (object : IdRef × Instance). option_map (λ asked. record {
      class = object.0;
      base = object.1;
      sync = f.0.0;
      scope = f.0.1;
      filter = asked;
    }) (filter_of set trees.filter)) (object_of set trees.class trees.base) head f.2 in
    let q = map_some (λ asked. record {
      class = b.0.0;
      base = b.0.1;
      sync = f.0.0;
      scope = f.0.1;
      filter = asked;
    }) (filter_of set trees.filter) head b.2 in
    let i = then_some (λ id. option_map (λ instance. (id, instance)) (instance_in set trees.base))
    (id_in 0 1 trees.class) b.0 b.1 in
    let n = map_some (λ instance. (i.0, instance)) (instance_in set trees.base) b.0 i.2 in
    subst (IsHead set trees) q.2
    (record {
      class = subst (λ (p : IdRef × Instance). IsIdRef 0 1 trees.class p.0) n.2
          (id_is_denoted 0 1 trees.class i.0 held.class i.1);
      base = subst (λ (p : IdRef × Instance). IsInstance set trees.base p.1) n.2
          (instance_told set trees.base n.0 held.base n.1);
      access = access_told trees.access o.0;
      sync = subst (λ (p : ℤ × Scope). IsSync trees.sync p.0) r.2 (sync_told trees.sync s.0 held.sync s.1);
      reach = subst (λ (p : ℤ × Scope). IsScope trees.scope p.1) r.2 (scope_told trees.scope r.0 held.reach r.1);
      filter = asked_told set trees.filter q.0 clear held.filter q.1;
    })
