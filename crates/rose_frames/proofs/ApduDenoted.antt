-- What denotes an APDU is its tree.
use Rattle.std.proofs.Common.{◌≡◌, inl, inr, ℕ, zero, suc, ◌<◌, ℤ, pos, List, [], ◌∷◌, Option, None, Some, FitsSigned}
use Rattle.std.proofs.Common.{refl, sym, ap, ◌∙◌, subst, arith}
use Rattle.std.specs.Int.{w64}
use Rattle.std.specs.Prelude.{codes}
use Rattle.std.proofs.lemmas.Option.{same_Some}
use Rattle.term_values.specs.CmipTypes.{at_most_one, implicit, number, one}
use Rattle.term_values.specs.Denotes.{Denotes, PartsDenote, PickDenotes}
use Rattle.term_values.specs.PduSyntaxes.{invoke, invoke_id, operation_result, problem, reject, return_error}
use Rattle.term_values.specs.PduSyntaxes.{return_result}
use Rattle.term_values.specs.Syntaxes.{TypeParts}
use Rattle.term_values.specs.Syntaxes.TypeSyntax.{Any, Choice, NullType}
use Rattle.term_values.specs.Syntaxes.TypeParts.{NoParts}
use Rattle.term_values.specs.Tag.{context, universal}
use Rattle.term_values.specs.Tree.{TreeValue, listed as trees_listed}
use Rattle.term_values.specs.Tree.TreeValue.{Constructed}
use Rattle.term_values.specs.Tree.TreeValues.{Nothing, Then}
use Rattle.term_values.specs.Typed.{TypedValue, TypedSlots}
use Rattle.term_values.specs.Typed.TypedValue.{Int, Null, Parts, Pick}
use Rattle.term_values.specs.Typed.TypedSlots.{NoSlots, Filled, Empty}
use Rattle.term_values.specs.declared.tag.Tag.{Tag}
use Rattle.term_model.specs.Apdu.{AnyIsLast, IsApdu, IsLast, IsLastOfLast, any_slot, number_slot, rejected}
use Rattle.term_model.specs.Apdu.{result_slots}
use Rattle.term_model.specs.declared.apdu.Apdu.{Apdu}
use Rattle.term_model.specs.declared.apdu.Apdu.TheVariants as apdus
use Rattle.rose_frames.specs.ApduLaws.{AreTogether, IsId, IsOptionalId, any_tree, linked_tree, rejected_tree}
use Rattle.rose_frames.specs.ApduLaws.{result_tree, whole_tree}
use Rattle.rose_frames.proofs.ApduTold.{IsTreeOf}
use Rattle.rose_frames.proofs.ApduDenoting.{DenotesId, DenotesNumber, allowed_id, parts_of}

abbrev pub slots_back : TypedValue → TypedSlots
slots_back (Parts slots) = slots
slots_back _ = NoSlots

abbrev int_back : TypedValue → ℤ
int_back (Int n) = n
int_back _ = pos 0

abbrev pick_back : TypedValue → ℕ × TypedValue
pick_back (Pick k v) = (k, v)
pick_back _ = (0, Null)

id_back : (tag : Tag) (x : TreeValue) (n : ℤ) → DenotesId tag x (Int n) → (x ≡ whole_tree tag n) × IsId n
id_back tag x n d =
    let same : d.0 ≡ n = sym (ap int_back d.3) in
    (d.1.0 ∙ ap (whole_tree tag) same, subst IsId same (allowed_id d.0 d.2))

number_back : (tag : Tag) (x : TreeValue) (n : ℤ) → DenotesNumber tag x (Int n) → (x ≡ whole_tree tag n)
    × FitsSigned w64 n
number_back tag x n d =
    let same : d.0 ≡ n = sym (ap int_back d.3) in
    (d.1.0 ∙ ap (whole_tree tag) same, subst (λ m. FitsSigned w64 m) same d.1.1)

abbrev any_parts : TypeParts
any_parts = at_most_one (codes "argument") Any NoParts

abbrev number_parts : TypeParts
number_parts = one (codes "op") number any_parts

abbrev linked_parts : TypeParts
linked_parts = at_most_one (codes "linked") (implicit 0 invoke_id) number_parts

-- both are there, or neither
abbrev AreAlike : Option TreeValue → Option TreeValue → Type 0
AreAlike None None = Unit {0}
AreAlike (Some x) (Some y) = Unit {0}
AreAlike None (Some y) = ⊥
AreAlike (Some x) None = ⊥

not_empty : (x : TreeValue) (xs : List TreeValue) → x ∷ xs ≡ [] → ⊥
not_empty x xs e = absurd (cc)

any_denoted : (xs : List TreeValue) (any : Option TreeValue) → PartsDenote any_parts xs (any_slot any NoSlots) →
    (given : Option TreeValue) × (trees_listed xs ≡ any_tree given) × AreAlike any given
any_denoted [] None p = (None, refl, tt)
any_denoted [] (Some x) p = elim p [ inl f ↦ absurd f | inr f ↦ absurd f ]
any_denoted (y ∷ ys) None p = elim p [ inl f ↦ absurd f | inr f ↦ absurd (not_empty y ys f.0) ]
any_denoted (y ∷ ys) (Some x) p =
    elim p [ inl f ↦ (Some y, ap (λ zs. Then y (trees_listed zs)) f.1.0, tt) | inr f ↦ absurd f ]

number_denoted : (xs : List TreeValue) (n : ℤ) (any : Option TreeValue) →
    PartsDenote number_parts xs (Filled (Int n) (any_slot any NoSlots)) →
    (given : Option TreeValue) × (trees_listed xs ≡ Then (whole_tree (universal 2) n) (any_tree given))
    × AreAlike any given
    × FitsSigned w64 n
number_denoted [] n any p = elim p [ inl f ↦ absurd f | inr f ↦ absurd f ]
number_denoted (x ∷ xs) n any p =
    elim p [
      | inl f ↦
          let b = number_back (universal 2) x n f.0 in
          let a = any_denoted xs any f.1 in
          (a.0, (λ i. Then (b.0 i) (a.1 i)), a.2, b.1)
      | inr f ↦ absurd f
    ]

linked_denoted : (xs : List TreeValue) (linked : Option ℤ) (n : ℤ) (any : Option TreeValue) →
    PartsDenote linked_parts xs (number_slot linked (Filled (Int n) (any_slot any NoSlots))) →
    (given : Option TreeValue)
    × (trees_listed xs ≡ linked_tree linked (Then (whole_tree (universal 2) n) (any_tree given))) × AreAlike any given
    × IsOptionalId linked × FitsSigned w64 n
linked_denoted [] None n any p =
    elim p [ inl f ↦ absurd f | inr f ↦ let a = number_denoted [] n any f in (a.0, a.1, a.2, tt, a.3) ]
linked_denoted (x ∷ xs) None n any p =
    elim p [ inl f ↦ absurd f | inr f ↦ let a = number_denoted (x ∷ xs) n any f in (a.0, a.1, a.2, tt, a.3) ]
linked_denoted [] (Some l) n any p = elim p [ inl f ↦ absurd f | inr f ↦ absurd f ]
linked_denoted (x ∷ xs) (Some l) n any p =
    elim p [
      | inl f ↦
          let b = id_back (context 0) x l f.0 in
          let a = number_denoted xs n any f.1 in
          (a.0, (λ i. Then (b.0 i) (a.1 i)), a.2, b.1, a.3)
      | inr f ↦ absurd f
    ]

-- what is of any type is the last one
last_linked : (tag : Tag) (x y : TreeValue) (linked : Option ℤ) (any given : Option TreeValue) → AreAlike any given →
    AnyIsLast any (Constructed tag (Then x (linked_tree linked (Then y (any_tree given))))) → given ≡ any
last_linked tag x y linked None None a l = refl
last_linked tag x y linked None (Some z) a l = absurd a
last_linked tag x y linked (Some w) None a l = absurd a
last_linked tag x y None (Some w) (Some z) a l = l
last_linked tag x y (Some n) (Some w) (Some z) a l = l

invoke_row : (inside : List TreeValue) (id : ℤ) (linked : Option ℤ) (op : ℤ) (argument : Option TreeValue) →
    PartsDenote (parts_of invoke) inside
    (Filled (Int id) (number_slot linked (Filled (Int op) (any_slot argument NoSlots)))) →
    (given : Option TreeValue)
    × (trees_listed inside
    ≡ Then (whole_tree (universal 2) id) (linked_tree linked (Then (whole_tree (universal 2) op) (any_tree given))))
    × AreAlike argument given × (IsId id × IsOptionalId linked × FitsSigned w64 op)
invoke_row [] id linked op argument p = elim p [ inl f ↦ absurd f | inr f ↦ absurd f ]
invoke_row (x ∷ xs) id linked op argument p =
    elim p [
      | inl f ↦
          let b = id_back (universal 2) x id f.0 in
          let a = linked_denoted xs linked op argument f.1 in
          (a.0, (λ i. Then (b.0 i) (a.1 i)), a.2, (b.1, a.3, a.4))
      | inr f ↦ absurd f
    ]

invoke_tree : (tree : TreeValue) (id : ℤ) (linked : Option ℤ) (op : ℤ) (argument : Option TreeValue) →
    IsApdu tree (apdus.Invoke id linked op argument) → IsTreeOf tree (apdus.Invoke id linked op argument)
invoke_tree tree id linked op argument a =
    let d = a.denotes in
    let r = invoke_row d.0 id linked op argument
    (subst (PartsDenote (parts_of invoke) d.0) (sym (ap slots_back d.4)) d.3) in
    let whole : tree ≡ Constructed (context 1) (Then (whole_tree (universal 2) id)
    (linked_tree linked (Then (whole_tree (universal 2) op) (any_tree r.0)))) = d.2
    ∙ ap (Constructed (context 1)) r.1 in
    let same : r.0 ≡ argument =
    last_linked (context 1) (whole_tree (universal 2) id) (whole_tree (universal 2) op) linked argument r.0 r.2
    (subst (AnyIsLast argument) whole a.any) in (
      whole ∙ ap (λ (g : Option TreeValue). Constructed (context 1) (Then (whole_tree (universal 2) id)
          (linked_tree linked (Then (whole_tree (universal 2) op) (any_tree g))))) same,
      r.3,
    )

-- the operation and the value of a result
abbrev body_parts : TypeParts
body_parts = one (codes "op") number (one (codes "result") Any NoParts)

abbrev result_parts : TypeParts
result_parts = at_most_one [] operation_result NoParts

value_row : (xs : List TreeValue) (value : TreeValue)
    → PartsDenote (one (codes "result") Any NoParts) xs (any_slot (Some value) NoSlots) →
    (given : TreeValue) × (trees_listed xs ≡ Then given Nothing)
value_row [] value p = elim p [ inl f ↦ absurd f | inr f ↦ absurd f ]
value_row (y ∷ ys) value p =
    elim p [ inl f ↦ (y, ap (λ zs. Then y (trees_listed zs)) f.1.0) | inr f ↦ absurd f ]

no_value : (xs : List TreeValue) → PartsDenote (one (codes "result") Any NoParts) xs (Empty NoSlots) → ⊥
no_value [] p = elim p [ inl f ↦ f | inr f ↦ f ]
no_value (y ∷ ys) p = elim p [ inl f ↦ f | inr f ↦ f ]

body_row : (xs : List TreeValue) (op : ℤ) (value : TreeValue) →
    PartsDenote body_parts xs (Filled (Int op) (any_slot (Some value) NoSlots)) →
    (given : TreeValue) × (trees_listed xs ≡ Then (whole_tree (universal 2) op) (Then given Nothing))
    × FitsSigned w64 op
body_row [] op value p = elim p [ inl f ↦ absurd f | inr f ↦ absurd f ]
body_row (x ∷ xs) op value p =
    elim p [
      | inl f ↦
          let b = number_back (universal 2) x op f.0 in
          let v = value_row xs value f.1 in
          (v.0, (λ i. Then (b.0 i) (v.1 i)), b.1)
      | inr f ↦ absurd f
    ]

no_body : (xs : List TreeValue) (op : ℤ) → PartsDenote body_parts xs (Filled (Int op) (Empty NoSlots)) → ⊥
no_body [] op p = elim p [ inl f ↦ f | inr f ↦ f ]
no_body (x ∷ xs) op p = elim p [ inl f ↦ no_value xs f.1 | inr f ↦ f ]

no_operation : (xs : List TreeValue) (slots : TypedSlots) → PartsDenote body_parts xs (Empty slots) → ⊥
no_operation [] slots p = elim p [ inl f ↦ f | inr f ↦ f ]
no_operation (x ∷ xs) slots p = elim p [ inl f ↦ f | inr f ↦ f ]

result_denoted : (xs : List TreeValue) (op : Option ℤ) (value : Option TreeValue) →
    PartsDenote result_parts xs (result_slots op value) →
    (given : Option TreeValue) × (trees_listed xs ≡ result_tree op given) × AreAlike value given × AreTogether op value
result_denoted [] None None p = (None, refl, tt, tt)
result_denoted (y ∷ ys) None None p = elim p [ inl f ↦ absurd f | inr f ↦ absurd (not_empty y ys f.0) ]
result_denoted [] (Some op) (Some v) p = elim p [ inl f ↦ absurd f | inr f ↦ absurd f ]
result_denoted (y ∷ ys) (Some op) (Some v) p =
    elim p [
      | inl f ↦
          let d = f.0 in
          let b = body_row d.0 op v (subst (PartsDenote body_parts d.0) (sym (ap slots_back d.4)) d.3) in
          let body = d.2 ∙ ap (Constructed (universal 16)) b.1 in
          (Some b.0, (λ i. Then (body i) (trees_listed (f.1.0 i))), tt, b.2)
      | inr f ↦ absurd f
    ]
result_denoted [] (Some op) None p = elim p [ inl f ↦ absurd f | inr f ↦ absurd f ]
result_denoted (y ∷ ys) (Some op) None p =
    elim p [
      | inl f ↦ let d = f.0 in
          absurd (no_body d.0 op (subst (PartsDenote body_parts d.0) (sym (ap slots_back d.4)) d.3))
      | inr f ↦ absurd f
    ]
result_denoted [] None (Some v) p = elim p [ inl f ↦ absurd f | inr f ↦ absurd f ]
result_denoted (y ∷ ys) None (Some v) p =
    elim p [
      | inl f ↦
          let d = f.0 in absurd (no_operation d.0 _ (subst (PartsDenote body_parts d.0) (sym (ap slots_back d.4)) d.3))
      | inr f ↦ absurd f
    ]

result_row : (inside : List TreeValue) (id : ℤ) (op : Option ℤ) (value : Option TreeValue) →
    PartsDenote (parts_of return_result) inside (Filled (Int id) (result_slots op value)) →
    (given : Option TreeValue) × (trees_listed inside ≡ Then (whole_tree (universal 2) id) (result_tree op given))
    × AreAlike value given × (IsId id × AreTogether op value)
result_row [] id op value p = elim p [ inl f ↦ absurd f | inr f ↦ absurd f ]
result_row (x ∷ xs) id op value p =
    elim p [
      | inl f ↦
          let b = id_back (universal 2) x id f.0 in
          let a = result_denoted xs op value f.1 in
          (a.0, (λ i. Then (b.0 i) (a.1 i)), a.2, (b.1, a.3))
      | inr f ↦ absurd f
    ]

-- what is of any type in a result
abbrev ValueIsLast : Option TreeValue → TreeValue → Type 0
ValueIsLast None tree = Unit {0}
ValueIsLast (Some value) tree = IsLastOfLast value tree

last_value : (x : TreeValue) (op : Option ℤ) (value given : Option TreeValue) → AreAlike value given
    → AreTogether op value →
    ValueIsLast value (Constructed (context 2) (Then x (result_tree op given))) → given ≡ value
last_value x None None None a t l = refl
last_value x (Some op) None given a t l = absurd t
last_value x None (Some v) given a t l = absurd t
last_value x None None (Some y) a t l = absurd a
last_value x (Some op) (Some v) None a t l = absurd a
last_value x (Some op) (Some v) (Some y) a t l =
    subst (λ (body : TreeValue). IsLast v body → Some y ≡ Some v) (same_Some _ l.0 l.1) (λ e. e) l.2

result_any : (id : ℤ) (op : Option ℤ) (value : Option TreeValue) (tree : TreeValue) →
    IsApdu tree (apdus.Result id op value) → ValueIsLast value tree
result_any id op None tree a = tt
result_any id op (Some value) tree a = a.any

result_is : (tree : TreeValue) (id : ℤ) (op : Option ℤ) (value : Option TreeValue) →
    IsApdu tree (apdus.Result id op value) → IsTreeOf tree (apdus.Result id op value)
result_is tree id op value a =
    let d = a.denotes in
    let r = result_row d.0 id op value
    (subst (PartsDenote (parts_of return_result) d.0) (sym (ap slots_back d.4)) d.3) in
    let whole : tree ≡ Constructed (context 2) (Then (whole_tree (universal 2) id) (result_tree op r.0)) =
    d.2 ∙ ap (Constructed (context 2)) r.1 in
    let same : r.0 ≡ value =
    last_value (whole_tree (universal 2) id) op value r.0 r.2 r.3.1
    (subst (ValueIsLast value) whole (result_any id op value tree a)) in (
      whole ∙ ap (λ (g : Option TreeValue). Constructed (context 2)
          (Then (whole_tree (universal 2) id) (result_tree op g))) same,
      r.3,
    )

error_row : (inside : List TreeValue) (id error : ℤ) (parameter : Option TreeValue) →
    PartsDenote (parts_of return_error) inside (Filled (Int id) (Filled (Int error) (any_slot parameter NoSlots))) →
    (given : Option TreeValue)
    × (trees_listed inside ≡ Then (whole_tree (universal 2) id)
    (Then (whole_tree (universal 2) error) (any_tree given)))
    × AreAlike parameter given × (IsId id × FitsSigned w64 error)
error_row [] id error parameter p = elim p [ inl f ↦ absurd f | inr f ↦ absurd f ]
error_row (x ∷ xs) id error parameter p =
    elim p [
      | inl f ↦
          let b = id_back (universal 2) x id f.0 in
          let a = number_denoted xs error parameter f.1 in
          (a.0, (λ i. Then (b.0 i) (a.1 i)), a.2, (b.1, a.3))
      | inr f ↦ absurd f
    ]

error_is : (tree : TreeValue) (id error : ℤ) (parameter : Option TreeValue) →
    IsApdu tree (apdus.Error id error parameter) → IsTreeOf tree (apdus.Error id error parameter)
error_is tree id error parameter a =
    let d = a.denotes in
    let r = error_row d.0 id error parameter
    (subst (PartsDenote (parts_of return_error) d.0) (sym (ap slots_back d.4)) d.3) in
    let whole : tree ≡ Constructed (context 3) (Then (whole_tree (universal 2) id)
    (Then (whole_tree (universal 2) error) (any_tree r.0))) = d.2 ∙ ap (Constructed (context 3)) r.1 in
    let same : r.0 ≡ parameter =
    last_linked (context 3) (whole_tree (universal 2) id) (whole_tree (universal 2) error) None parameter r.0 r.2
    (subst (AnyIsLast parameter) whole a.any) in (
      whole ∙ ap (λ (g : Option TreeValue). Constructed (context 3) (Then (whole_tree (universal 2) id)
          (Then (whole_tree (universal 2) error) (any_tree g)))) same,
      r.3,
    )

-- the alternative of a CHOICE
pub picked_back : (parts : TypeParts) (x : TreeValue) (k : ℕ) (v : TypedValue) → Denotes (Choice parts) x (Pick k v) →
    PickDenotes parts k x v
picked_back parts x k v d =
    subst (λ (p : ℕ × TypedValue). PickDenotes parts p.0 x p.1) (sym (ap pick_back d.3)) d.2

abbrev rejected_parts : TypeParts
rejected_parts = one [] invoke_id (one [] NullType NoParts)

rejected_denoted : (x : TreeValue) (id : Option ℤ) → Denotes (Choice rejected_parts) x (rejected id) →
    (x ≡ rejected_tree id) × IsOptionalId id
rejected_denoted x None d = ((picked_back rejected_parts x 1 Null d).0, tt)
rejected_denoted x (Some id) d = id_back (universal 2) x id (picked_back rejected_parts x 0 (Int id) d)

problem_denoted : (x : TreeValue) (class : ℕ) (n : ℤ) → PickDenotes (parts_of problem) class x (Int n) →
    (x ≡ whole_tree (context class) n) × (class < 4) × FitsSigned w64 n
problem_denoted x zero n d = let b = number_back (context 0) x n d in (b.0, omega arith, b.1)
problem_denoted x (suc zero) n d = let b = number_back (context 1) x n d in (b.0, omega arith, b.1)
problem_denoted x (suc (suc zero)) n d = let b = number_back (context 2) x n d in (b.0, omega arith, b.1)
problem_denoted x (suc (suc (suc zero))) n d = let b = number_back (context 3) x n d in (b.0, omega arith, b.1)
problem_denoted x (suc (suc (suc (suc class)))) n d = absurd d

reject_row : (inside : List TreeValue) (id : Option ℤ) (class : ℕ) (n : ℤ) →
    PartsDenote (parts_of reject) inside (Filled (rejected id) (Filled (Pick class (Int n)) NoSlots)) →
    (trees_listed inside ≡ Then (rejected_tree id) (Then (whole_tree (context class) n) Nothing))
    × (IsOptionalId id × (class < 4) × FitsSigned w64 n)
reject_row [] id class n p = elim p [ inl f ↦ absurd f | inr f ↦ absurd f ]
reject_row (x ∷ []) id class n p =
    elim p [ inl f ↦ elim f.1 [ inl g ↦ absurd g | inr g ↦ absurd g ] | inr f ↦ absurd f ]
reject_row (x ∷ (y ∷ ys)) id class n p =
    elim p [
      | inl f ↦ elim f.1 [
        | inl g ↦
            let b = rejected_denoted x id f.0 in
            let c = problem_denoted y class n (picked_back (parts_of problem) y class (Int n) g.0) in
            ((λ i. Then (b.0 i) (Then (c.0 i) (trees_listed (g.1.0 i)))), (b.1, c.1, c.2))
        | inr g ↦ absurd g
      ]
      | inr f ↦ absurd f
    ]

reject_is : (tree : TreeValue) (id : Option ℤ) (class : ℕ) (n : ℤ) →
    IsApdu tree (apdus.Reject id class n) → IsTreeOf tree (apdus.Reject id class n)
reject_is tree id class n a =
    let d = a.denotes in
    let r = reject_row d.0 id class n (subst (PartsDenote (parts_of reject) d.0) (sym (ap slots_back d.4)) d.3) in
    (d.2 ∙ ap (Constructed (context 4)) r.0, r.1)

pub tree_denoted : (tree : TreeValue) (apdu : Apdu) → IsApdu tree apdu → IsTreeOf tree apdu
tree_denoted tree (apdus.Invoke id linked op argument) a = invoke_tree tree id linked op argument a
tree_denoted tree (apdus.Result id op value) a = result_is tree id op value a
tree_denoted tree (apdus.Error id error parameter) a = error_is tree id error parameter a
tree_denoted tree (apdus.Reject id class n) a = reject_is tree id class n a
