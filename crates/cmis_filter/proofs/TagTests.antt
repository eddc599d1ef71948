-- A tag that is the context-specific one with a number, or another one.
use Rattle.std.proofs.Common.{◌≡◌, ℕ, Bool, true, false, Option, None, Some, refl, ap, subst, ⊎_elim}
use Rattle.std.specs.Prelude.{◌==◌, ◌&&◌, ◌||◌, is_some, option_map, option_and_then, IfSome}
use Rattle.std.proofs.lemmas.Bool.{and_parts, cases_Bool, eqb-true}
use Rattle.term_values.specs.FilterTrees.{is_context}
use Rattle.term_values.specs.Tag.{context, is_same_tag}
use Rattle.term_values.specs.declared.tag.Tag.{Tag}

same_tag : (a b : Tag) → is_same_tag a b ≡ true → a ≡ b
same_tag a b e =
    let p = and_parts (a.class == b.class) (a.number == b.number) e in
    let c = eqb-true a.class b.class p.0 in
    let n = eqb-true a.number b.number p.1 in
    λ i. record { class = c i; number = n i }

-- what holds of the tag with this number, and of each other one
pub at : (n : ℕ) (G : Tag → Type 0) (tag : Tag) → G (context n) → (is_context n tag ≡ false → G tag) → G tag
at n G tag here otherwise =
    ⊎_elim (λ (e : is_context n tag ≡ true). subst G (same_tag (context n) tag e) here) otherwise
    (cases_Bool (is_context n tag))

pub or_nothing : (b : Bool) → b ≡ (b || false)
or_nothing true = refl
or_nothing false = refl

pub or_nothing_twice : (b : Bool) → b ≡ ((b || false) || false)
or_nothing_twice true = refl
or_nothing_twice false = refl

-- ---- what is there once a value is mapped

pub mapped : {A B : Type 0} (f : A → B) (o : Option A) → is_some (option_map f o) ≡ is_some o
mapped f None = refl
mapped f (Some x) = refl

pub then_mapped : {A B : Type 0} (f : A → B) (o : Option A) → is_some (option_and_then (λ x. Some (f x)) o) ≡ is_some o
then_mapped f None = refl
then_mapped f (Some x) = refl

pub then_nothing : {A B : Type 0} (f : A → Option B) (o : Option A) → ((x : A) → f x ≡ None)
    → is_some (option_and_then f o) ≡ false
then_nothing f None law = refl
then_nothing f (Some x) law = ap is_some (law x)

pub both_mapped : {A B C D : Type 0} (f : A → B) (g : B → C → D) (o : Option A) (p : Option C)
    → is_some (option_and_then (λ x. option_map (g x) p) (option_map f o)) ≡ (is_some o && is_some p)
both_mapped f g None p = refl
both_mapped f g (Some x) None = refl
both_mapped f g (Some x) (Some y) = refl

pub both_some : {A C D : Type 0} (g : A → C → D) (o : Option A) (p : Option C)
    → is_some (option_and_then (λ x. option_map (g x) p) o) ≡ (is_some o && is_some p)
both_some g None p = refl
both_some g (Some x) None = refl
both_some g (Some x) (Some y) = refl

-- ---- what holds of a value that is there

pub if_mapped : {A B : Type 0} (Q : A → Type 0) (P : B → Type 0) (f : A → B) (o : Option A) → IfSome o Q
    → ((x : A) → Q x → P (f x)) → IfSome (option_map f o) P
if_mapped Q P f None q law = tt
if_mapped Q P f (Some x) q law = law x q

pub if_same : {A : Type 0} (Q P : A → Type 0) (o : Option A) → IfSome o Q → ((x : A) → Q x → P x) → IfSome o P
if_same Q P None q law = tt
if_same Q P (Some x) q law = law x q

pub if_both : {A C D : Type 0} (Q : A → Type 0) (R : C → Type 0) (P : D → Type 0) (g : A → C → D) (o : Option A)
    (p : Option C) → IfSome o Q → IfSome p R → ((x : A) (y : C) → Q x → R y → P (g x y))
    → IfSome (option_and_then (λ x. option_map (g x) p) o) P
if_both Q R P g None p q r law = tt
if_both Q R P g (Some x) None q r law = tt
if_both Q R P g (Some x) (Some y) q r law = law x y q r
