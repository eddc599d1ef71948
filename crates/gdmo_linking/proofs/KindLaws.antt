-- KindLaws: the places of templates among those of their kinds.
use Rattle.std.specs.Prelude.{◌≡◌, ◌==◌, ◌≤◌, ℕ, zero, suc, ◌+◌, List, [], ◌∷◌, ◌++◌, Bool, true, false, Some}
use Rattle.std.specs.Prelude.{length, refl, slice_get, if◌then◌else◌}
use Rattle.std.proofs.Common.{ap, arith, sym, ◌∙◌}
use Rattle.std.proofs.Math.Path.{subst}
use Rattle.std.proofs.lemmas.Cmp.{nat_eq_equiv}
use Rattle.gdmo_linking.specs.LinkedTables.{is_kind, kind_number, of_kind}
use Rattle.gdmo_linking.specs.Linkers.{ArePlaces, HasPlace}
use Rattle.gdmo_linking.proofs.StepLaws.{each_also, each_push}
use Rattle.gdmo_names.specs.PartTerms.{Placed, kind_of}
use Rattle.gdmo_names.specs.TemplateTerms.{TemplateKind}

if_behind : (b : Bool) (x : Placed) (xs ys : List Placed) →
    (if b then x ∷ (xs ++ ys) else xs ++ ys) ≡ (if b then x ∷ xs else xs) ++ ys
if_behind true x xs ys = refl
if_behind false x xs ys = refl

pub kind_append : (kind : TemplateKind) (xs ys : List Placed) → of_kind kind (xs ++ ys) ≡ of_kind kind xs ++ of_kind kind ys
unfolding of_kind
kind_append kind [] ys = refl
kind_append kind (x ∷ xs) ys = ap (λ zs. if is_kind kind x then x ∷ zs else zs) (kind_append kind xs ys) ∙
    if_behind (is_kind kind x) x (of_kind kind xs) (of_kind kind ys)

one_kind : (b : Bool) (x : Placed) → b ≡ true → (if b then x ∷ [] else []) ≡ x ∷ []
one_kind b x is = ap (λ c. if c then x ∷ [] else []) is

no_kind : (b : Bool) (x : Placed) → b ≡ false → (if b then x ∷ [] else []) ≡ []
no_kind b x is = ap (λ c. if c then x ∷ [] else []) is

pub kind_more : (kind : TemplateKind) (xs : List Placed) (x : Placed) → is_kind kind x ≡ true →
    of_kind kind (xs ++ x ∷ []) ≡ of_kind kind xs ++ x ∷ []
unfolding of_kind
kind_more kind xs x is = kind_append kind xs (x ∷ []) ∙ ap (λ zs. of_kind kind xs ++ zs) (one_kind (is_kind kind x) x is)

append_none : (xs : List Placed) → xs ++ [] ≡ xs
append_none [] = refl
append_none (x ∷ xs) = ap (λ zs. x ∷ zs) (append_none xs)

pub kind_less : (kind : TemplateKind) (xs : List Placed) (x : Placed) → is_kind kind x ≡ false →
    of_kind kind (xs ++ x ∷ []) ≡ of_kind kind xs
unfolding of_kind
kind_less kind xs x is = kind_append kind xs (x ∷ []) ∙
    ap (λ zs. of_kind kind xs ++ zs) (no_kind (is_kind kind x) x is) ∙ append_none (of_kind kind xs)

pub number_same : (n : ℕ) → (n == n) ≡ true
number_same n = nat_eq_equiv.refl n

-- ---- places stay where further templates come

get_left : {A : Type 0} (xs ys : List A) (k : ℕ) (x : A) → slice_get xs k ≡ Some x → slice_get (xs ++ ys) k ≡ Some x
get_left [] ys k x at = absurd (cc)
get_left (z ∷ xs) ys zero x at = at
get_left (z ∷ xs) ys (suc k) x at = get_left xs ys k x at

get_last : {A : Type 0} (xs : List A) (x : A) (k : ℕ) → k ≡ length xs → slice_get (xs ++ x ∷ []) k ≡ Some x
get_last [] x zero is = refl
get_last [] x (suc k) is = absurd (omega (arith, is))
get_last (z ∷ xs) x zero is = absurd (omega (arith, is))
get_last (z ∷ xs) x (suc k) is = get_last xs x k (omega (arith, is))

place_stays : (xs : List Placed) (more x : Placed) (k : ℕ) → HasPlace xs x k → HasPlace (xs ++ more ∷ []) x k
place_stays xs more x k at = ap (λ zs. slice_get zs k) (kind_append (kind_of x.template) xs (more ∷ [])) ∙
    get_left (of_kind (kind_of x.template) xs) (of_kind (kind_of x.template) (more ∷ [])) k x at

-- one template more, whose place is the count of those of its kind
pub places_more : (xs : List Placed) (x : Placed) (places after : List ℕ) (k : ℕ) → ArePlaces xs places →
    k ≡ length (of_kind (kind_of x.template) xs) → after ≡ places ++ k ∷ [] → ArePlaces (xs ++ x ∷ []) after
places_more xs x places after k are is pushed = subst (λ ks. ArePlaces (xs ++ x ∷ []) ks) (sym pushed)
    (each_push (HasPlace (xs ++ x ∷ [])) xs places x k
    (each_also (HasPlace xs) (HasPlace (xs ++ x ∷ [])) xs places (λ y j at. place_stays xs x y j at) are)
    (ap (λ zs. slice_get zs k) (kind_more (kind_of x.template) xs x (number_same (kind_number (kind_of x.template)))) ∙
    get_last (of_kind (kind_of x.template) xs) x k is))

-- ---- how many there are of each kind

pub length_push : {A : Type 0} (xs : List A) (x : A) → length (xs ++ x ∷ []) ≡ length xs + 1
length_push [] x = refl
length_push (y ∷ ys) x = let rest = length_push ys x in omega (arith, rest)

pub kind_count : (kind : TemplateKind) (xs : List Placed) → length (of_kind kind xs) ≤ length xs
unfolding of_kind
kind_count kind [] = omega arith
kind_count kind (x ∷ xs) = by (is_kind kind x) (kind_count kind xs)
  where
    by : (b : Bool) → length (of_kind kind xs) ≤ length xs →
        length (if b then x ∷ of_kind kind xs else of_kind kind xs) ≤ length (x ∷ xs)
    by true rest = omega (arith, rest)
    by false rest = omega (arith, rest)
