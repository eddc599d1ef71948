-- What holds of a value that is there.
use Rattle.std.proofs.Common.{◌≡◌, ℕ, true, false, Option, None, Some, refl, subst, ⊎_elim}
use Rattle.std.specs.Prelude.{is_some, IfSome, option_map, option_and_then}
use Rattle.std.proofs.lemmas.Bool.{cases_Bool, false≢true}
use Rattle.term_values.specs.FilterTrees.{is_context}
use Rattle.term_values.specs.Tag.{context}
use Rattle.term_values.specs.declared.tag.Tag.{Tag}
use Rattle.typed_laws.proofs.Choosing.{same_tag}

pub if_found : {A B : Type 0} (P : B → Type 0) (f : A → B) (o : Option A) → ((x : A) → o ≡ Some x → P (f x))
    → IfSome (option_map f o) P
if_found P f None law = tt
if_found P f (Some x) law = law x refl

pub if_mapped : {A B : Type 0} (Q : A → Type 0) (P : B → Type 0) (f : A → B) (o : Option A) → IfSome o Q
    → ((x : A) → Q x → P (f x)) → IfSome (option_map f o) P
if_mapped Q P f None q law = tt
if_mapped Q P f (Some x) q law = law x q

pub if_then : {A B : Type 0} (Q : A → Type 0) (P : B → Type 0) (f : A → B) (o : Option A) → IfSome o Q
    → ((x : A) → Q x → P (f x)) → IfSome (option_and_then (λ x. Some (f x)) o) P
if_then Q P f None q law = tt
if_then Q P f (Some x) q law = law x q

pub if_nothing : {A B : Type 0} (P : B → Type 0) (f : A → Option B) (o : Option A) → ((x : A) → f x ≡ None)
    → IfSome (option_and_then f o) P
if_nothing P f None law = tt
if_nothing P f (Some x) law = rw (law x) tt

pub if_both : {A C D : Type 0} (Q : A → Type 0) (R : C → Type 0) (P : D → Type 0) (g : A → C → D) (o : Option A)
    (p : Option C) → IfSome o Q → IfSome p R → ((x : A) (y : C) → Q x → R y → P (g x y))
    → IfSome (option_and_then (λ x. option_map (g x) p) o) P
if_both Q R P g None p q r law = tt
if_both Q R P g (Some x) None q r law = tt
if_both Q R P g (Some x) (Some y) q r law = law x y q r

pub there : {A : Type 0} (P : A → Type 0) (o : Option A) (x : A) → IfSome o P → o ≡ Some x → P x
there P o x h e = rw e at h

pub mapped : {A B : Type 0} (f : A → B) (o : Option A) → is_some o ≡ true → is_some (option_map f o) ≡ true
mapped f None e = e
mapped f (Some x) e = refl

pub then_mapped : {A B : Type 0} (f : A → B) (o : Option A) → is_some o ≡ true
    → is_some (option_and_then (λ x. Some (f x)) o) ≡ true
then_mapped f None e = e
then_mapped f (Some x) e = refl

pub both_there : {A C D : Type 0} (g : A → C → D) (o : Option A) (p : Option C) → is_some o ≡ true → is_some p ≡ true
    → is_some (option_and_then (λ x. option_map (g x) p) o) ≡ true
both_there g None p e f = e
both_there g (Some x) None e f = f
both_there g (Some x) (Some y) e f = refl

pub none_if : {A : Type 0} (P : A → Type 0) (o : Option A) → IfSome o P → ((x : A) → ¬ (P x)) → o ≡ None
none_if P None h never = refl
none_if P (Some x) h never = absurd (never x h)

pub some_of : {A : Type 0} (o : Option A) → is_some o ≡ true → (x : A) × (o ≡ Some x)
some_of None e = absurd (false≢true e)
some_of (Some x) e = (x, refl)

-- what holds of the tag with this number, and of each other one
pub at : (n : ℕ) (G : Tag → Type 0) (tag : Tag) → G (context n) → (is_context n tag ≡ false → G tag) → G tag
at n G tag here otherwise =
    ⊎_elim (λ (e : is_context n tag ≡ true). subst G (same_tag (context n) tag e) here) otherwise
    (cases_Bool (is_context n tag))
