-- Where an answer is there, by its parts.
use Rattle.std.proofs.Common.{◌≡◌, Bool, true, false, ◌&&◌, Option, None, Some, refl, sym, ◌∙◌}
use Rattle.std.proofs.lemmas.Bool.{false≢true}
use Rattle.std.specs.Prelude.{◌||◌, is_some, option_map, option_and_then, if◌then◌else◌}
use Rattle.term_values.specs.Tag.{is_same_tag}
use Rattle.term_values.specs.declared.tag.Tag.{Tag}
use Rattle.typed_laws.proofs.Choosing.{same_itself, same_tag}

pub is_mapped : {A B : Type 0} (f : A → B) (o : Option A) → is_some (option_map f o) ≡ is_some o
is_mapped f None = refl
is_mapped f (Some x) = refl

pub is_then : {A B : Type 0} (f : A → B) (o : Option A) → is_some (option_and_then (λ x. Some (f x)) o) ≡ is_some o
is_then f None = refl
is_then f (Some x) = refl

pub is_both : {A C D : Type 0} (g : A → C → D) (o : Option A) (p : Option C)
    → is_some (option_and_then (λ x. option_map (g x) p) o) ≡ (is_some o && is_some p)
is_both g None p = refl
is_both g (Some x) None = refl
is_both g (Some x) (Some y) = refl

-- the second answer is there or not, whatever the first one is
pub is_followed : {A B : Type 0} (f : A → Option B) (b : Bool) (o : Option A) → ((x : A) → is_some (f x) ≡ b)
    → is_some (option_and_then f o) ≡ (is_some o && b)
is_followed f b None law = refl
is_followed f b (Some x) law = law x

pub is_then_same : {A B C : Type 0} (f : A → Option B) (g : A → Option C) (o : Option A)
    → ((x : A) → is_some (f x) ≡ is_some (g x)) → is_some (option_and_then f o) ≡ is_some (option_and_then g o)
is_then_same f g None law = refl
is_then_same f g (Some x) law = law x

-- an answer where a test holds
pub is_where : {A : Type 0} (b : Bool) (o : Option A) → is_some (if b then o else None) ≡ (b && is_some o)
is_where true o = refl
is_where false o = refl

pub and_true : (b : Bool) → b ≡ (b && true)
and_true true = refl
and_true false = refl

pub and_turned : (a b : Bool) → (a && b) ≡ (b && a)
and_turned true true = refl
and_turned true false = refl
and_turned false true = refl
and_turned false false = refl

pub or_nothing : (b : Bool) → (b || false) ≡ b
or_nothing true = refl
or_nothing false = refl

pub or_four : (a b c d : Bool) → (a || (b || (c || (d || false)))) ≡ (((a || b) || c) || d)
or_four true b c d = refl
or_four false true c d = refl
or_four false false true d = refl
or_four false false false true = refl
or_four false false false false = refl

-- two tests that hold together
pub both_ways : (a b : Bool) → (a ≡ true → b ≡ true) → (b ≡ true → a ≡ true) → a ≡ b
both_ways true b f g = sym (f refl)
both_ways false true f g = g refl
both_ways false false f g = refl

pub is_same_back : (a b : Tag) → is_same_tag a b ≡ is_same_tag b a
is_same_back a b =
    both_ways (is_same_tag a b) (is_same_tag b a) (turned a b) (turned b a)
  where
    turned : (a b : Tag) → is_same_tag a b ≡ true → is_same_tag b a ≡ true
    turned a b e = rw (same_tag a b e) (same_itself b)

pub none_there : {A B : Type 0} (o : Option A) (p : Option B) → is_some o ≡ is_some p → o ≡ None → p ≡ None
none_there o None same e = refl
none_there None (Some y) same e = absurd (false≢true same)
none_there (Some x) (Some y) same e = absurd (false≢true (sym (λ i. is_some (e i))))

pub some_there : {A B : Type 0} (o : Option A) (p : Option B) (x : A) → is_some o ≡ is_some p → o ≡ Some x
    → (y : B) × (p ≡ Some y)
some_there o (Some y) x same e = (y, refl)
some_there o None x same e = absurd (false≢true (sym same ∙ (λ i. is_some (e i))))
