-- OnceLaws: where a part has one record at most, parts have one list of records; a truth value is told by whether it is
-- true, and an option by the value that it holds.
use Rattle.std.specs.Prelude.{◌≡◌, ◌↔◌, ◌∷◌, [], List, Bool, true, false, Option, None, Some, All, refl}
use Rattle.std.proofs.Common.{sym}
use Rattle.std.proofs.lemmas.List.Elements.{All-head, All-tail}
use Rattle.linked_types.specs.PartIdentifiers.{AreEach}

-- there is one of each at most
abbrev pub HasOne : {A B : Type 0} → (A → B → Type 0) → Type 0
HasOne {A} {B} Is = (x : A) (one other : B) → Is x one → Is x other → one ≡ other

pub one_each : {A B : Type 0} (Is : A → B → Type 0) → HasOne Is → HasOne (AreEach Is)
one_each Is once [] [] [] is also = refl
one_each Is once [] [] (z ∷ zs) is also = absurd also
one_each Is once [] (y ∷ ys) zs is also = absurd is
one_each Is once (x ∷ xs) [] zs is also = absurd is
one_each Is once (x ∷ xs) (y ∷ ys) [] is also = absurd also
one_each Is once (x ∷ xs) (y ∷ ys) (z ∷ zs) is also =
    let first = once x y z is.0 also.0 in
    let rest = one_each Is once xs ys zs is.1 also.1 in λ i. first i ∷ rest i

-- two records of one part have something in common, and so have two lists of records, place by place
pub each_same : {A B : Type 0} (Is : A → B → Type 0) (Same : B → B → Type 0) →
    ((x : A) (one other : B) → Is x one → Is x other → Same one other) → (xs : List A) (ones others : List B) →
    AreEach Is xs ones → AreEach Is xs others → AreEach Same ones others
each_same Is Same same [] [] [] is also = tt
each_same Is Same same [] [] (z ∷ zs) is also = absurd also
each_same Is Same same [] (y ∷ ys) zs is also = absurd is
each_same Is Same same (x ∷ xs) [] zs is also = absurd is
each_same Is Same same (x ∷ xs) (y ∷ ys) [] is also = absurd also
each_same Is Same same (x ∷ xs) (y ∷ ys) (z ∷ zs) is also =
    (same x y z is.0 also.0, each_same Is Same same xs ys zs is.1 also.1)

-- what follows at each place
pub each_then : {A B : Type 0} (R S : A → B → Type 0) (P : A → Type 0) (Q : B → Type 0) →
    ((x : A) (y : B) → P x → Q y → R x y → S x y) → (xs : List A) (ys : List B) → All P xs → All Q ys →
    AreEach R xs ys → AreEach S xs ys
each_then R S P Q step [] [] ps qs are = tt
each_then R S P Q step [] (y ∷ ys) ps qs are = absurd are
each_then R S P Q step (x ∷ xs) [] ps qs are = absurd are
each_then R S P Q step (x ∷ xs) (y ∷ ys) ps qs are = (
  step x y (All-head P x xs ps) (All-head Q y ys qs) are.0,
  each_then R S P Q step xs ys (All-tail P x xs ps) (All-tail Q y ys qs) are.1,
)

pub same_bool : (one other : Bool) → (one ≡ true) ↔ (other ≡ true) → one ≡ other
same_bool true other same = sym (same.0 refl)
same_bool false true same = same.1 refl
same_bool false false same = refl

pub same_option : {A : Type 0} (one other : Option A) → ((x : A) → (one ≡ Some x) ↔ (other ≡ Some x)) → one ≡ other
same_option None None same = refl
same_option None (Some x) same = (same x).1 refl
same_option (Some x) other same = sym ((same x).0 refl)
