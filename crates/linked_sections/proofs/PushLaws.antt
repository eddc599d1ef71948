-- PushLaws: elements that are added one after the other, where all of them are known.
use Rattle.std.specs.Prelude.{◌≡◌, ℕ, List, [], ◌∷◌, ◌++◌, None, Some, flat_map, length, map, refl, slice_get}
use Rattle.std.specs.Prelude.{◌+◌, Option, IfSome, get_or, is_some, ltb}
use Rattle.std.specs.Borrow.{Bor}
use Rattle.std.specs.Option.{option_copied}
use Rattle.std.proofs.Common.{ap, ltb-false, ltb-true, sym, take, ◌∙◌}
use Rattle.std.proofs.Math.Path.{subst}
use Rattle.std.proofs.lemmas.Grind.{flat_map-append}
use Rattle.std.proofs.lemmas.List.{append-nil, append_assoc, map-append}
use Rattle.std.proofs.lemmas.Option.{same_Some, slice_get_past, slice_get_read}
use Rattle.gdmo_linking.proofs.StepLaws.{all_at, each_at, each_push, taken}
use Rattle.gdmo_names.specs.InStep.{AreAll, AreEach}
use Rattle.linked_sections.specs.SectionTexts.{Pushes}

pub pushes_none : {A B : Type 0} (known : List A → Type 0) (is : A → B → Type 0) (old after : List B) → after ≡ old →
    Pushes known is [] old after
pushes_none known is old after same = λ before behind all each.
    subst (λ zs. AreEach is zs after) (sym (append-nil before))
    (subst (λ ys. AreEach is before ys) (sym same) each)

pub pushes_both : {A B : Type 0} (known : List A → Type 0) (is : A → B → Type 0) (xs ys : List A) (old between after :
    List B) → Pushes known is xs old between → Pushes known is ys between after → Pushes known is (xs ++ ys) old after
pushes_both known is xs ys old between after one other = λ before behind all each.
    let inner = subst known (ap (λ zs. before ++ zs) (append_assoc xs ys behind)) all in
    subst (λ zs. AreEach is zs after) (append_assoc before xs ys)
    (other (before ++ xs) behind (subst known (sym (append_assoc before xs (ys ++ behind))) inner)
    (one before (ys ++ behind) inner each))

pub pushes_same : {A B : Type 0} (known : List A → Type 0) (is : A → B → Type 0) (xs ys : List A) (old after : List B) →
    xs ≡ ys → Pushes known is xs old after → Pushes known is ys old after
pushes_same known is xs ys old after same pushed = subst (λ zs. Pushes known is zs old after) same pushed

-- ---- lists of which one element more is seen

pub map_more : {X A : Type 0} (f : X → A) (xs : List X) (i : ℕ) (x : X) → slice_get xs i ≡ Some x →
    map f (take i xs) ++ f x ∷ [] ≡ map f (take (i + 1) xs)
map_more f xs i x at = sym (ap (map f) (taken xs i x at) ∙ map-append f (take i xs) (x ∷ []))

pub flat_more : {X A : Type 0} (f : X → List A) (xs : List X) (i : ℕ) (x : X) → slice_get xs i ≡ Some x →
    flat_map f (take i xs) ++ f x ≡ flat_map f (take (i + 1) xs)
flat_more f xs i x at = ap (λ zs. flat_map f (take i xs) ++ zs) (sym (append-nil (f x))) ∙
    sym (ap (flat_map f) (taken xs i x at) ∙ flat_map-append f (take i xs) (x ∷ []))

-- ---- the element that comes next

at_behind : {A : Type 0} (before behind : List A) (x : A) →
    slice_get (before ++ (x ∷ behind)) (length before) ≡ Some x
at_behind [] behind x = refl
at_behind (y ∷ before) behind x = at_behind before behind x

pub next_is : {A : Type 0} (is : A → Type 0) (before behind : List A) (x : A) → AreAll is (before ++ (x ∷ behind)) → is x
next_is is before behind x all = all_at is (before ++ (x ∷ behind)) (length before) x all (at_behind before behind x)

pub next_told : {A T : Type 0} (tells : A → T → Type 0) (before behind : List A) (x : A) (targets : List T) (i : ℕ)
    (own : T) → AreEach tells (before ++ (x ∷ behind)) targets → i ≡ length before → slice_get targets i ≡ Some own →
    tells x own
next_told tells before behind x targets i own each here at =
    let there = each_at tells (before ++ (x ∷ behind)) targets (length before) x each (at_behind before behind x) in
    subst (tells x) (same_Some there.0 own (sym there.1 ∙ ap (slice_get targets) (sym here) ∙ at)) there.2

pub next_there : {A T : Type 0} (tells : A → T → Type 0) (before behind : List A) (x : A) (targets : List T) (i : ℕ) →
    AreEach tells (before ++ (x ∷ behind)) targets → i ≡ length before → slice_get targets i ≡ None → ⊥
next_there tells before behind x targets i each here none =
    let there = each_at tells (before ++ (x ∷ behind)) targets (length before) x each (at_behind before behind x) in
    let both = sym none ∙ ap (slice_get targets) here ∙ there.1 in absurd (cc)

pub next_pushed : {A B : Type 0} (is : A → B → Type 0) (before : List A) (x : A) (old after : List B) (y : B) →
    AreEach is before old → is x y → after ≡ old ++ y ∷ [] → AreEach is (before ++ x ∷ []) after
next_pushed is before x old after y each one pushed =
    subst (λ ys. AreEach is (before ++ x ∷ []) ys) (sym pushed) (each_push is before old x y each one)

-- ---- what `get` gives of a list

got : {X : Type 0} (xs : List X) (i : ℕ) (r : Option (Bor X)) → is_some r ≡ ltb i (length xs) →
    IfSome r (λ x. x.now ≡ get_or xs i x.now) → option_copied r ≡ slice_get xs i
got xs i None e is = sym (slice_get_past xs i (ltb-false i (length xs) (sym e)))
got xs i (Some x) e is = sym (slice_get_read xs (length xs) i x.now refl (ltb-true i (length xs) (sym e)) is)

pub got_one : {X : Type 0} (xs : List X) (i : ℕ) (r : Option (Bor X)) (x : Bor X) → is_some r ≡ ltb i (length xs) →
    IfSome r (λ y. y.now ≡ get_or xs i y.now) → r ≡ Some x → slice_get xs i ≡ Some x.now
got_one xs i r x e is one = sym (got xs i r e is) ∙ ap option_copied one

pub got_none : {X : Type 0} (xs : List X) (i : ℕ) (r : Option (Bor X)) → is_some r ≡ ltb i (length xs) →
    IfSome r (λ y. y.now ≡ get_or xs i y.now) → r ≡ None → slice_get xs i ≡ None
got_none xs i r e is none = sym (got xs i r e is) ∙ ap option_copied none
