-- The requests that are read of the arguments of m-Get and m-Delete are those that the trees denote: X.711, section
-- 7.4.
use Rattle.std.proofs.Common.{◌≡◌, ℕ, List, [], ◌∷◌, Bool, true, false, Option, None, Some, refl, sym, ap, subst}
use Rattle.std.proofs.Common.{◌∙◌, ⊎_elim}
use Rattle.std.proofs.lemmas.Bool.{cases_Bool}
use Rattle.std.proofs.lemmas.Option.{none-some, same_Some}
use Rattle.std.specs.Prelude.{option_and_then, option_map, if◌then◌else◌}
use Rattle.term_values.specs.Decoding.{inside_of}
use Rattle.term_values.specs.FilterTrees.{is_context}
use Rattle.term_values.specs.LeafReading.{no_trees}
use Rattle.term_values.specs.Tag.{context, universal}
use Rattle.term_values.specs.Tree.{TreeValue, TreeValues}
use Rattle.term_values.specs.Tree.TreeValue.{Primitive, Constructed}
use Rattle.term_values.specs.Tree.TreeValues.{Nothing, Then}
use Rattle.term_values.specs.TreeTags.{tag_of}
use Rattle.typed_laws.proofs.Choosing.{if_some, map_some, same_tag, then_some}
use Rattle.typed_laws.specs.TreeOctets.{HasOctets, HaveOctets}
use Rattle.filter_laws.proofs.IdTold.{id_is_denoted}
use Rattle.term_model.specs.declared.request.IdRef.{IdRef}
use Rattle.term_model.specs.declared.request.Request.TheVariants as requests
use Rattle.term_model.specs.ArgumentRows.{all_in, at_end, where_last}
use Rattle.term_model.specs.Assertions.{id_in}
use Rattle.term_model.specs.Parts.{inside_under}
use Rattle.term_model.specs.RequestHeads.{ScopedTrees, head_of, options_behind, scoped_in}
use Rattle.term_model.specs.ScopedReading.{asked_ids, delete_of, get_of, ids_of}
use Rattle.request_laws.specs.RequestDenoting.{AreAsked, AreIds, DeleteIsDenoted, GetIsDenoted, before, row}
use Rattle.request_laws.proofs.HeadTold.{TreesHeld, head_told, inside_told, row_back, trees_held}

-- ---- the components of an argument with a scope

pub record Scoped (tree : TreeValue) (trees : ScopedTrees) : Type 0 where
  pub is : tree ≡ Constructed (universal 16) (row trees)
  pub held : TreesHeld trees

scoped_told : (xs : TreeValues) (trees : ScopedTrees) → HaveOctets xs → scoped_in xs ≡ Some trees
    → (xs ≡ row trees) × TreesHeld trees
scoped_told Nothing trees octets e = absurd (none-some _ e)
scoped_told (Then class Nothing) trees octets e = absurd (none-some _ e)
scoped_told (Then class (Then base xs)) trees octets e =
    let is = same_Some (options_behind class base xs) trees e in
    (row_back class base xs ∙ ap row is, subst TreesHeld is (trees_held class base xs octets))

pub argument_told : {A : Type 0} (f : ScopedTrees → Option A) (tree : TreeValue) (request : A) → HasOctets tree
    → option_and_then (λ xs. option_and_then f (scoped_in xs)) (inside_under (universal 16) tree) ≡ Some request
    → (trees : ScopedTrees) × Scoped tree trees × (f trees ≡ Some request)
argument_told f tree request octets e =
    let i = then_some (λ xs. option_and_then f (scoped_in xs)) (inside_under (universal 16) tree) request e in
    let is = inside_told (universal 16) tree i.0 i.1 in
    let s = then_some f (scoped_in i.0) request i.2 in
    let p = scoped_told i.0 s.0 (subst HasOctets is octets) s.1 in
    (s.0, (record { is = is ∙ ap (Constructed (universal 16)) p.0; held = p.1 }), s.2)

pub nothing_told : (xs : TreeValues) → no_trees xs ≡ true → xs ≡ Nothing
nothing_told Nothing e = refl
nothing_told (Then x xs) e = absurd (cc)

-- ---- m-Get

ids_told : (xs : TreeValues) (ids : List IdRef) → HaveOctets xs → all_in (id_in 0 1) xs ≡ Some ids → AreIds xs ids
ids_told Nothing ids octets e = subst (AreIds Nothing) (same_Some [] ids e) refl
ids_told (Then x xs) ids octets e =
    let f = then_some (λ a. option_map (λ rest. a ∷ rest) (all_in (id_in 0 1) xs)) (id_in 0 1 x) ids e in
    let m = map_some (λ rest. f.0 ∷ rest) (all_in (id_in 0 1) xs) ids f.2 in
    subst (AreIds (Then x xs)) m.2
    (x, xs, refl, id_is_denoted 0 1 x f.0 octets.0 f.1, ids_told xs m.0 octets.1 m.1)

pub inside_held : (x : TreeValue) (inside : TreeValues) → inside_of x ≡ Some inside → x ≡ Constructed (tag_of x) inside
inside_held (Primitive tag contents) inside e = absurd (none-some _ e)
inside_held (Constructed tag held) inside e = ap (Constructed tag) (same_Some held inside e)

asked_told : (o : Option TreeValue) (ids : Option (List IdRef)) → ((x : TreeValue) → o ≡ Some x → HasOctets x)
    → ((x : TreeValue) → o ≡ Some x → tag_of x ≡ context 12) → ids_of o ≡ Some ids → AreAsked o ids
asked_told None ids octets tags e = sym (same_Some None ids e)
asked_told (Some x) ids octets tags e =
    let m = map_some Some (option_and_then (all_in (id_in 0 1)) (inside_of x)) ids e in
    let i = then_some (all_in (id_in 0 1)) (inside_of x) m.0 m.1 in
    let is : x ≡ Constructed (context 12) i.0 =
    inside_held x i.0 i.1 ∙ ap (λ t. Constructed t i.0) (tags x refl) in
    (i.0, m.0, is, ids_told i.0 m.0 (subst HasOctets is (octets x refl)) i.2, sym m.2)

pub record LastOf (number : ℕ) (xs : TreeValues) (o : Option TreeValue) : Type 0 where
  pub is : xs ≡ before o Nothing
  pub tags : (x : TreeValue) → o ≡ Some x → tag_of x ≡ context number
  pub octets : (x : TreeValue) → o ≡ Some x → HasOctets x

abbrev front_of : TreeValue → TreeValues → Bool → Option TreeValue × TreeValues
front_of y ys b = if b then (Some y, ys) else (None, Then y ys)

pub last_told : (number : ℕ) (xs : TreeValues) (o : Option TreeValue) → HaveOctets xs → at_end number xs ≡ Some o
    → LastOf number xs o
last_told number Nothing o octets e =
    subst (LastOf number Nothing) (same_Some None o e)
    (record { is = refl; tags = λ x f. absurd (none-some _ f); octets = λ x f. absurd (none-some _ f) })
last_told number (Then y ys) o octets e =
    ⊎_elim
    (λ (t : is_context number (tag_of y) ≡ true).
    let g : (if no_trees ys then Some (Some y) else None) ≡ Some o = subst
    (λ b. where_last (front_of y ys b) ≡ Some o) t e in
    let p = if_some (no_trees ys) (Some (Some y)) o g in
    subst (LastOf number (Then y ys)) (same_Some (Some y) o p.1) (record {
      is = ap (Then y) (nothing_told ys p.0);
      tags = λ x f. ap tag_of (sym (same_Some y x f)) ∙ sym (same_tag (context number) (tag_of y) t);
      octets = λ x f. subst HasOctets (same_Some y x f) octets.0;
    }))
    (λ (t : is_context number (tag_of y) ≡ false).
    let g : None ≡ Some o = subst
    (λ b. where_last (front_of y ys b) ≡ Some o) t e in
    absurd (none-some _ g))
    (cases_Bool (is_context number (tag_of y)))

pub get_is_denoted : GetIsDenoted
get_is_denoted set tree request clear octets e =
    let a = argument_told (get_of set) tree request octets e in
    let i = then_some (λ ids. option_map (λ head. requests.Get head ids) (head_of set a.0)) (asked_ids a.0.rest)
    request a.2 in
    let h = map_some (λ head. requests.Get head i.0) (head_of set a.0) request i.2 in
    let l = then_some ids_of (at_end 12 a.0.rest) i.0 i.1 in
    let last = last_told 12 a.0.rest l.0 a.1.held.rest l.1 in (
      a.0,
      l.0,
      h.0,
      i.0,
      a.1.is,
      last.is,
      head_told set a.0 h.0 clear a.1.held h.1,
      asked_told l.0 i.0 last.octets last.tags l.2,
      sym h.2,
    )

-- ---- m-Delete

pub delete_is_denoted : DeleteIsDenoted
delete_is_denoted set tree request clear octets e =
    let a = argument_told (delete_of set) tree request octets e in
    let w = if_some (no_trees a.0.rest) (option_map requests.Delete (head_of set a.0)) request a.2 in
    let h = map_some requests.Delete (head_of set a.0) request w.1 in (
      a.0,
      h.0,
      a.1.is,
      nothing_told a.0.rest w.0,
      head_told set a.0 h.0 clear a.1.held h.1,
      sym h.2,
    )
