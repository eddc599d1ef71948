-- ListLaws: what holds of each member of a list, and of what an option has.
use Rattle.std.specs.Prelude.{◌≡◌, ◌∷◌, suc, List, Option, None, Some, All, Contains, IfSome, get_or, refl}
use Rattle.std.proofs.Common.{arith}
use Rattle.std.proofs.Math.Path.{subst}
use Rattle.std.proofs.lemmas.Option.{slice_get-get_or}
use Rattle.schema_records.proofs.ClassLaws.{at_contains}

pub each_of_all : {A : Type 0} (P : A → Type 0) (xs : List A) (x : A) → All P xs → Contains xs x → P x
each_of_all P xs x all there = subst P there.2 (all there.0 x there.1)

pub all_of_each : {A : Type 0} (P : A → Type 0) (xs : List A) → ((x : A) → Contains xs x → P x) → All P xs
all_of_each P xs each k d within =
    each (get_or xs k d) (at_contains xs k (get_or xs k d) (slice_get-get_or xs k d within))

pub first_of : {A : Type 0} (x : A) (xs : List A) → Contains (x ∷ xs) x
first_of x xs = (0, omega arith, refl)

pub later_of : {A : Type 0} (x y : A) (xs : List A) → Contains xs y → Contains (x ∷ xs) y
later_of x y xs has = (suc has.0, (let w = has.1 in omega (arith, w)), has.2)

pub if_some : {A : Type 0} (P : A → Type 0) (o : Option A) → ((x : A) → o ≡ Some x → P x) → IfSome o P
if_some P None each = tt
if_some P (Some x) each = each x refl

pub some_of : {A : Type 0} (P : A → Type 0) (o : Option A) (x : A) → IfSome o P → o ≡ Some x → P x
some_of P o x is same = subst (λ other. IfSome other P) same is
