-- What is read as an APDU is the tree of it.
use Rattle.std.proofs.Common.{◌≡◌, ◌⊎◌, inl, inr, ℕ, ◌<◌, ℤ, Bool, true, false, ◌==◌, [], ◌∷◌, Option, None, Some}
use Rattle.std.proofs.Common.{FitsSigned, refl, sym, ap, ◌∙◌, subst}
use Rattle.std.specs.Int.{w64}
use Rattle.std.specs.Prelude.{option_map, option_and_then, if◌then◌else◌, nat_lt}
use Rattle.std.proofs.lemmas.Bool.{and_parts, eqb-true, ltb-true}
use Rattle.std.proofs.lemmas.Option.{none-some, same_Some}
use Rattle.term_values.specs.Octets.{integer_in}
use Rattle.term_values.specs.Tag.{context, is_same_tag, universal}
use Rattle.term_values.specs.Tree.{TreeValue, TreeValues}
use Rattle.term_values.specs.Tree.TreeValue.{Primitive, Constructed}
use Rattle.term_values.specs.Tree.TreeValues.{Nothing, Then}
use Rattle.term_values.specs.TreeTags.{tag_of}
use Rattle.term_values.specs.declared.tag.Tag.{Tag}
use Rattle.typed_laws.proofs.Choosing.{if_some, map_some, same_tag, then_some}
use Rattle.typed_laws.proofs.LeavesTold.{whole_of}
use Rattle.typed_laws.specs.TreeOctets.{HasOctets, HaveOctets}
use Rattle.term_model.specs.ApduReading.{apdu_of, at_most_one, error_id, error_in, error_number, id_under, invoke_id}
use Rattle.term_model.specs.ApduReading.{invoke_in, invoke_linked, invoke_operation, is_class, null_in, problem_in}
use Rattle.term_model.specs.ApduReading.{reject_in, rejected_in, result_id, result_in, result_parts, within_32_bits}
use Rattle.term_model.specs.Parts.{contents_under, inside_under, integer_under, two, two_under}
use Rattle.term_model.specs.RemoteOperation.{is_within_32_bits}
use Rattle.term_model.specs.declared.apdu.Apdu.{Apdu}
use Rattle.term_model.specs.declared.apdu.Apdu.TheVariants as apdus
use Rattle.rose_frames.specs.ApduLaws.{AreTogether, IsId, IsOptionalId, IsSound, any_tree, apdu_tree, linked_tree}
use Rattle.rose_frames.specs.ApduLaws.{rejected_tree, result_tree, whole_tree}

pub integer_told : (tag : Tag) (x : TreeValue) (n : ℤ) → HasOctets x → integer_under tag x ≡ Some n →
    (x ≡ whole_tree tag n) × FitsSigned w64 n
integer_told tag (Constructed own inside) n h e = absurd (none-some _ e)
integer_told tag (Primitive own contents) n h e =
    let f = then_some integer_in (contents_under tag (Primitive own contents)) n e in
    let t = if_some (is_same_tag own tag) (Some contents) f.0 f.1 in
    let c = same_Some contents f.0 t.1 in
    let w = whole_of contents n h (ap integer_in c ∙ f.2) in
    let own_is = same_tag own tag t.0 in
    (λ i. Primitive (own_is i) (w.0 i), w.1)

pub id_told : (tag : Tag) (x : TreeValue) (n : ℤ) → HasOctets x → id_under tag x ≡ Some n
    → (x ≡ whole_tree tag n) × IsId n
id_told tag x n h e =
    let f = then_some within_32_bits (integer_under tag x) n e in
    let w = if_some (is_within_32_bits f.0) (Some f.0) n f.2 in
    let same = same_Some f.0 n w.1 in
    ((integer_told tag x f.0 h f.1).0 ∙ ap (whole_tree tag) same, subst (λ m. is_within_32_bits m ≡ true) same w.0)

any_told : (xs : TreeValues) (any : Option TreeValue) → at_most_one xs ≡ Some any → xs ≡ any_tree any
any_told Nothing any e = ap any_tree (same_Some None any e)
any_told (Then x Nothing) any e = ap any_tree (same_Some (Some x) any e)
any_told (Then x (Then y ys)) any e = absurd (none-some _ e)

-- what stands behind the linked id of an Invoke
record Operation (id : ℤ) (linked : Option ℤ) (xs : TreeValues) (apdu : Apdu) : Type 0 where
  op : ℤ
  argument : Option TreeValue
  is : apdu ≡ apdus.Invoke id linked op argument
  trees : xs ≡ Then (whole_tree (universal 2) op) (any_tree argument)
  fits : FitsSigned w64 op

operation_told : (id : ℤ) (linked : Option ℤ) (xs : TreeValues) (apdu : Apdu) → HaveOctets xs →
    invoke_linked id linked xs ≡ Some apdu → Operation id linked xs apdu
operation_told id linked Nothing apdu h e = absurd (none-some _ e)
operation_told id linked (Then x xs) apdu h e =
    let f = then_some (λ (f : ℤ × TreeValues). invoke_operation id linked f.0 f.1)
    (option_map (λ a. (a, xs)) (integer_under (universal 2) x)) apdu e in
    let m = map_some (λ a. (a, xs)) (integer_under (universal 2) x) f.0 f.1 in
    let n = integer_told (universal 2) x m.0 h.0 m.1 in
    let rest : invoke_operation id linked m.0 xs ≡ Some apdu =
    subst (λ (p : ℤ × TreeValues). invoke_operation id linked p.0 p.1 ≡ Some apdu) (sym m.2) f.2 in
    let g = map_some (λ argument. apdus.Invoke id linked m.0 argument) (at_most_one xs) apdu rest in
    let others = any_told xs g.0 g.1 in
    record { op = m.0; argument = g.0; is = sym g.2; trees = λ i. Then (n.0 i) (others i); fits = n.1 }

-- what stands behind the invoke id of an Invoke
record Linked (id : ℤ) (xs : TreeValues) (apdu : Apdu) : Type 0 where
  linked : Option ℤ
  rest : TreeValues
  operation : Operation id linked rest apdu
  trees : xs ≡ linked_tree linked rest
  within : IsOptionalId linked

linked_by : (b : Bool) (id : ℤ) (x : TreeValue) (xs : TreeValues) (apdu : Apdu) → HaveOctets (Then x xs) →
    option_and_then (λ (f : Option ℤ × TreeValues). invoke_linked id f.0 f.1)
    (if b then option_map (λ n. (Some n, xs)) (id_under (context 0) x) else Some (None, Then x xs)) ≡ Some apdu →
    Linked id (Then x xs) apdu
linked_by false id x xs apdu h e =
    record {
      linked = None;
      rest = Then x xs;
      operation = operation_told id None (Then x xs) apdu h e;
      trees = refl;
      within = tt;
    }
linked_by true id x xs apdu h e =
    let f = then_some (λ (f : Option ℤ × TreeValues). invoke_linked id f.0 f.1)
    (option_map (λ n. (Some n, xs)) (id_under (context 0) x)) apdu e in
    let m = map_some (λ n. (Some n, xs)) (id_under (context 0) x) f.0 f.1 in
    let n = id_told (context 0) x m.0 h.0 m.1 in
    let rest : invoke_linked id (Some m.0) xs ≡ Some apdu =
    subst (λ (p : Option ℤ × TreeValues). invoke_linked id p.0 p.1 ≡ Some apdu) (sym m.2) f.2 in
    record {
      linked = Some m.0;
      rest = xs;
      operation = operation_told id (Some m.0) xs apdu h.1 rest;
      trees = ap (λ y. Then y xs) n.0;
      within = n.1;
    }

linked_told : (id : ℤ) (xs : TreeValues) (apdu : Apdu) → HaveOctets xs → invoke_id id xs ≡ Some apdu → Linked id xs apdu
linked_told id Nothing apdu h e = absurd (none-some _ e)
linked_told id (Then x xs) apdu h e = linked_by (is_same_tag (tag_of x) (context 0)) id x xs apdu h e

-- the tree and the soundness of what was read
abbrev pub IsTreeOf : TreeValue → Apdu → Type 0
IsTreeOf tree apdu = (tree ≡ apdu_tree apdu) × IsSound apdu

invoke_told : (inside : TreeValues) (apdu : Apdu) → HaveOctets inside → invoke_in inside ≡ Some apdu →
    IsTreeOf (Constructed (context 1) inside) apdu
invoke_told Nothing apdu h e = absurd (none-some _ e)
invoke_told (Then x xs) apdu h e =
    let f = then_some (λ (f : ℤ × TreeValues). invoke_id f.0 f.1)
    (option_map (λ a. (a, xs)) (id_under (universal 2) x)) apdu e in
    let m = map_some (λ a. (a, xs)) (id_under (universal 2) x) f.0 f.1 in
    let n = id_told (universal 2) x m.0 h.0 m.1 in
    let rest : invoke_id m.0 xs ≡ Some apdu =
    subst (λ (p : ℤ × TreeValues). invoke_id p.0 p.1 ≡ Some apdu) (sym m.2) f.2 in
    let l = linked_told m.0 xs apdu h.1 rest in
    let o = l.operation in
    let tail : xs ≡ linked_tree l.linked (Then (whole_tree (universal 2) o.op) (any_tree o.argument)) =
    l.trees ∙ ap (linked_tree l.linked) o.trees in
    let whole : Constructed (context 1) (Then x xs) ≡ apdu_tree (apdus.Invoke m.0 l.linked o.op o.argument) =
    λ i. Constructed (context 1) (Then (n.0 i) (tail i)) in
    subst (IsTreeOf (Constructed (context 1) (Then x xs))) (sym o.is) (whole, (n.1, l.within, o.fits))

-- a value of two inside a SEQUENCE
pub pair_told : (tag : Tag) (x : TreeValue) (parts : TreeValue × TreeValue) → two_under tag x ≡ Some parts →
    x ≡ Constructed tag (Then parts.0 (Then parts.1 Nothing))
pair_told tag (Primitive own contents) parts e = absurd (none-some _ e)
pair_told tag (Constructed own inside) parts e =
    let f = then_some two (inside_under tag (Constructed own inside)) parts e in
    let t = if_some (is_same_tag own tag) (Some inside) f.0 f.1 in
    let own_is = same_tag own tag t.0 in
    let inside_is = two_told inside parts (ap two (same_Some inside f.0 t.1) ∙ f.2) in
    λ i. Constructed (own_is i) (inside_is i)
  where
    two_told : (xs : TreeValues) (parts : TreeValue × TreeValue) → two xs ≡ Some parts
        → xs ≡ Then parts.0 (Then parts.1 Nothing)
    two_told Nothing parts e = absurd (none-some _ e)
    two_told (Then a Nothing) parts e = absurd (none-some _ e)
    two_told (Then a (Then b Nothing)) parts e =
        ap (λ (p : TreeValue × TreeValue). Then p.0 (Then p.1 Nothing)) (same_Some (a, b) parts e)
    two_told (Then a (Then b (Then d xs))) parts e = absurd (none-some _ e)

record Body (id : ℤ) (xs : TreeValues) (apdu : Apdu) : Type 0 where
  op : Option ℤ
  value : Option TreeValue
  is : apdu ≡ apdus.Result id op value
  trees : xs ≡ result_tree op value
  sound : AreTogether op value

body_told : (id : ℤ) (xs : TreeValues) (apdu : Apdu) → HaveOctets xs → result_id id xs ≡ Some apdu → Body id xs apdu
body_told id Nothing apdu h e =
    record {
      op = None;
      value = None;
      is = sym (same_Some (apdus.Result id None None) apdu e);
      trees =
          refl;
      sound = tt;
    }
body_told id (Then x (Then y ys)) apdu h e = absurd (none-some _ e)
body_told id (Then x Nothing) apdu h e =
    let f = then_some (result_parts id) (two_under (universal 16) x) apdu e in
    let p = pair_told (universal 16) x f.0 f.1 in
    let m = map_some (λ op. apdus.Result id (Some op) (Some f.0.1)) (integer_under (universal 2) f.0.0) apdu f.2 in
    let octets : HasOctets (Constructed (universal 16) (Then f.0.0 (Then f.0.1 Nothing))) = subst HasOctets p h.0 in
    let n = integer_told (universal 2) f.0.0 m.0 octets.0 m.1 in
    record {
      op = Some m.0;
      value = Some f.0.1;
      is = sym m.2;
      trees = ap (λ y. Then y Nothing) (p ∙ ap (λ y. Constructed (universal 16) (Then y (Then f.0.1 Nothing))) n.0);
      sound = n.1;
    }

result_told : (inside : TreeValues) (apdu : Apdu) → HaveOctets inside → result_in inside ≡ Some apdu →
    IsTreeOf (Constructed (context 2) inside) apdu
result_told Nothing apdu h e = absurd (none-some _ e)
result_told (Then x xs) apdu h e =
    let f = then_some (λ (f : ℤ × TreeValues). result_id f.0 f.1)
    (option_map (λ a. (a, xs)) (id_under (universal 2) x)) apdu e in
    let m = map_some (λ a. (a, xs)) (id_under (universal 2) x) f.0 f.1 in
    let n = id_told (universal 2) x m.0 h.0 m.1 in
    let b = body_told m.0 xs apdu h.1
    (subst (λ (p : ℤ × TreeValues). result_id p.0 p.1 ≡ Some apdu) (sym m.2) f.2) in
    let tail = b.trees in
    let whole : Constructed (context 2) (Then x xs) ≡ apdu_tree (apdus.Result m.0 b.op b.value) =
    λ i. Constructed (context 2) (Then (n.0 i) (tail i)) in
    subst (IsTreeOf (Constructed (context 2) (Then x xs))) (sym b.is) (whole, (n.1, b.sound))

record Failure (id : ℤ) (xs : TreeValues) (apdu : Apdu) : Type 0 where
  error : ℤ
  parameter : Option TreeValue
  is : apdu ≡ apdus.Error id error parameter
  trees : xs ≡ Then (whole_tree (universal 2) error) (any_tree parameter)
  fits : FitsSigned w64 error

failure_told : (id : ℤ) (xs : TreeValues) (apdu : Apdu) → HaveOctets xs → error_id id xs ≡ Some apdu
    → Failure id xs apdu
failure_told id Nothing apdu h e = absurd (none-some _ e)
failure_told id (Then x xs) apdu h e =
    let f = then_some (λ (f : ℤ × TreeValues). error_number id f.0 f.1)
    (option_map (λ a. (a, xs)) (integer_under (universal 2) x)) apdu e in
    let m = map_some (λ a. (a, xs)) (integer_under (universal 2) x) f.0 f.1 in
    let n = integer_told (universal 2) x m.0 h.0 m.1 in
    let rest : error_number id m.0 xs ≡ Some apdu =
    subst (λ (p : ℤ × TreeValues). error_number id p.0 p.1 ≡ Some apdu) (sym m.2) f.2 in
    let g = map_some (λ parameter. apdus.Error id m.0 parameter) (at_most_one xs) apdu rest in
    let others = any_told xs g.0 g.1 in
    record { error = m.0; parameter = g.0; is = sym g.2; trees = λ i. Then (n.0 i) (others i); fits = n.1 }

error_told : (inside : TreeValues) (apdu : Apdu) → HaveOctets inside → error_in inside ≡ Some apdu →
    IsTreeOf (Constructed (context 3) inside) apdu
error_told Nothing apdu h e = absurd (none-some _ e)
error_told (Then x xs) apdu h e =
    let f = then_some (λ (f : ℤ × TreeValues). error_id f.0 f.1)
    (option_map (λ a. (a, xs)) (id_under (universal 2) x)) apdu e in
    let m = map_some (λ a. (a, xs)) (id_under (universal 2) x) f.0 f.1 in
    let n = id_told (universal 2) x m.0 h.0 m.1 in
    let b = failure_told m.0 xs apdu h.1
    (subst (λ (p : ℤ × TreeValues). error_id p.0 p.1 ≡ Some apdu) (sym m.2) f.2) in
    let tail = b.trees in
    let whole : Constructed (context 3) (Then x xs) ≡ apdu_tree (apdus.Error m.0 b.error b.parameter) =
    λ i. Constructed (context 3) (Then (n.0 i) (tail i)) in
    subst (IsTreeOf (Constructed (context 3) (Then x xs))) (sym b.is) (whole, (n.1, b.fits))

null_told : (x : TreeValue) (id : Option ℤ) → is_same_tag (tag_of x) (universal 5) ≡ true → null_in x ≡ Some id →
    (x ≡ rejected_tree id) × IsOptionalId id
null_told (Constructed own inside) id t e = absurd (none-some _ e)
null_told (Primitive own (octet ∷ octets)) id t e = absurd (none-some _ e)
null_told (Primitive own []) id t e =
    let is : None ≡ id = same_Some None id e in
    subst (λ (o : Option ℤ). (Primitive own [] ≡ rejected_tree o) × IsOptionalId o) is
    (ap (λ tag. Primitive tag []) (same_tag own (universal 5) t), tt)

rejected_by : (b : Bool) (x : TreeValue) (id : Option ℤ) → is_same_tag (tag_of x) (universal 5) ≡ b → HasOctets x →
    (if b then null_in x else option_map (λ n. Some n) (id_under (universal 2) x)) ≡ Some id →
    (x ≡ rejected_tree id) × IsOptionalId id
rejected_by true x id t h e = null_told x id t e
rejected_by false x id t h e =
    let m = map_some (λ n. Some n) (id_under (universal 2) x) id e in
    let n = id_told (universal 2) x m.0 h m.1 in
    subst (λ (o : Option ℤ). (x ≡ rejected_tree o) × IsOptionalId o) m.2 n

problem_told : (x : TreeValue) (f : ℕ × ℤ) → HasOctets x → problem_in x ≡ Some f →
    (x ≡ whole_tree (context f.0) f.1) × (f.0 < 4) × FitsSigned w64 f.1
problem_told (Constructed own inside) f h e = absurd (none-some _ e)
problem_told (Primitive own contents) f h e =
    let t = if_some (is_class own) (option_map (λ n. (own.number, n)) (integer_in contents)) f e in
    let p = and_parts (own.class == 2) (nat_lt own.number 4) t.0 in
    let m = map_some (λ n. (own.number, n)) (integer_in contents) f t.1 in
    let w = whole_of contents m.0 h m.1 in
    let class_is = eqb-true own.class 2 p.0 in
    let tag_is : own ≡ context own.number = λ i. record { class = class_is i; number = own.number } in
    subst (λ (g : ℕ × ℤ). (Primitive own contents ≡ whole_tree (context g.0) g.1) × (g.0 < 4) × FitsSigned w64 g.1) m.2
    (λ i. Primitive (tag_is i) (w.0 i), ltb-true own.number 4 p.1, w.1)

reject_told : (inside : TreeValues) (apdu : Apdu) → HaveOctets inside → reject_in inside ≡ Some apdu →
    IsTreeOf (Constructed (context 4) inside) apdu
reject_told Nothing apdu h e = absurd (none-some _ e)
reject_told (Then x Nothing) apdu h e = absurd (none-some _ e)
reject_told (Then x (Then y (Then z zs))) apdu h e = absurd (none-some _ e)
reject_told (Then x (Then y Nothing)) apdu h e =
    let f = then_some (λ id. option_map (λ (g : ℕ × ℤ). apdus.Reject id g.0 g.1) (problem_in y))
    (rejected_in x) apdu e in
    let m = map_some (λ (g : ℕ × ℤ). apdus.Reject f.0 g.0 g.1) (problem_in y) apdu f.2 in
    let r = rejected_by (is_same_tag (tag_of x) (universal 5)) x f.0 refl h.0 f.1 in
    let p = problem_told y m.0 h.1.0 m.1 in
    let whole : Constructed (context 4) (Then x (Then y Nothing)) ≡ apdu_tree (apdus.Reject f.0 m.0.0 m.0.1) =
    λ i. Constructed (context 4) (Then (r.0 i) (Then (p.0 i) Nothing)) in
    subst (IsTreeOf (Constructed (context 4) (Then x (Then y Nothing)))) m.2 (whole, (r.1, p.1, p.2))

-- which APDU it is
if_else : (b : Bool) (one other : Option Apdu) (apdu : Apdu) → (if b then one else other) ≡ Some apdu →
    ((b ≡ true) × (one ≡ Some apdu)) ⊎ (other ≡ Some apdu)
if_else true one other apdu e = inl (refl, e)
if_else false one other apdu e = inr e

under_tag : (tag own : Tag) (inside : TreeValues) (apdu : Apdu) → is_same_tag tag own ≡ true →
    IsTreeOf (Constructed own inside) apdu → IsTreeOf (Constructed tag inside) apdu
under_tag tag own inside apdu t told = (ap (λ x. Constructed x inside) (same_tag tag own t) ∙ told.0, told.1)

pub tree_told : (tree : TreeValue) (apdu : Apdu) → HasOctets tree → apdu_of tree ≡ Some apdu → IsTreeOf tree apdu
tree_told (Primitive tag contents) apdu h e = absurd (none-some _ e)
tree_told (Constructed tag inside) apdu h e =
    elim (if_else (is_same_tag tag (context 1)) (invoke_in inside) _ apdu e) [
      | inl one ↦ under_tag tag (context 1) inside apdu one.0 (invoke_told inside apdu h one.1)
      | inr e2 ↦ elim (if_else (is_same_tag tag (context 2)) (result_in inside) _ apdu e2) [
        | inl two ↦ under_tag tag (context 2) inside apdu two.0 (result_told inside apdu h two.1)
        | inr e3 ↦ elim (if_else (is_same_tag tag (context 3)) (error_in inside) _ apdu e3) [
          | inl three ↦ under_tag tag (context 3) inside apdu three.0 (error_told inside apdu h three.1)
          | inr e4 ↦ elim (if_else (is_same_tag tag (context 4)) (reject_in inside) None apdu e4) [
            | inl four ↦ under_tag tag (context 4) inside apdu four.0 (reject_told inside apdu h four.1)
            | inr never ↦ absurd (none-some _ never)
          ]
        ]
      ]
    ]
