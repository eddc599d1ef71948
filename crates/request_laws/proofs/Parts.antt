-- Numbers, values under a tag, members and the last component of a row: each is read where it is denoted.
use Rattle.std.proofs.Common.{◌≡◌, ℕ, ◌∷◌, true, false, ◌&&◌, Option, None, Some, refl, sym, ◌∙◌, ⊎_elim}
use Rattle.std.proofs.lemmas.Bool.{cases_Bool}
use Rattle.std.specs.Prelude.{is_some, option_and_then}
use Rattle.term_values.specs.CmipTypes.{explicit, number}
use Rattle.term_values.specs.Decoding.{denoted, members_in, one_in, parts_in, under, within}
use Rattle.term_values.specs.LeafReading.{no_trees}
use Rattle.term_values.specs.Octets.{integer_in}
use Rattle.term_values.specs.Syntaxes.TypeSyntax.{Any, Tagged}
use Rattle.term_values.specs.Syntaxes.TypeParts.{NoParts}
use Rattle.term_values.specs.Tag.{context, is_same_tag}
use Rattle.term_values.specs.Tree.{TreeValue, TreeValues}
use Rattle.term_values.specs.Tree.TreeValue.{Primitive, Constructed}
use Rattle.term_values.specs.Tree.TreeValues.{Nothing, Then}
use Rattle.term_values.specs.Typed.{TypedValue}
use Rattle.term_values.specs.Typed.TypedValue.{Int}
use Rattle.term_values.specs.Typed.TypedValues.{Then as AndValues}
use Rattle.term_values.specs.declared.tag.Tag.{Tag}
use Rattle.term_model.specs.ArgumentRows.{all_in, held_under}
use Rattle.term_model.specs.Parts.{inside_under, integer_under, one, one_under}
use Rattle.request_laws.proofs.Options.{is_both, is_mapped, is_same_back, is_then}

pub number_same : (tag : Tag) (x : TreeValue)
    → is_some (integer_under tag x) ≡ is_some (denoted false (Tagged tag false number) x)
number_same tag (Constructed own inside) =
    ⊎_elim (λ (e : is_same_tag tag own ≡ true). rw e refl) (λ (e : is_same_tag tag own ≡ false). rw e refl)
    (cases_Bool (is_same_tag tag own))
number_same tag (Primitive own contents) =
    ⊎_elim
    (λ (e : is_same_tag tag own ≡ true).
    rw (e, is_same_back own tag ∙ e) (sym (is_then Int (integer_in contents))))
    (λ (e : is_same_tag tag own ≡ false). rw (e, is_same_back own tag ∙ e) refl)
    (cases_Bool (is_same_tag tag own))

-- what trees under a tag give
pub under_same : {A : Type 0} (tag : Tag) (read : TreeValues → Option A) (value : TreeValues → Option TypedValue)
    → ((xs : TreeValues) → is_some (read xs) ≡ is_some (value xs)) → (x : TreeValue)
    → is_some (option_and_then read (inside_under tag x)) ≡ is_some (under false tag (within value) x)
under_same tag read value law (Primitive own contents) =
    ⊎_elim (λ (e : is_same_tag tag own ≡ true). rw e refl) (λ (e : is_same_tag tag own ≡ false). rw e refl)
    (cases_Bool (is_same_tag tag own))
under_same tag read value law (Constructed own inside) =
    ⊎_elim
    (λ (e : is_same_tag tag own ≡ true). rw (e, is_same_back own tag ∙ e) (law inside))
    (λ (e : is_same_tag tag own ≡ false). rw (e, is_same_back own tag ∙ e) refl)
    (cases_Bool (is_same_tag tag own))

one_same : (xs : TreeValues) → is_some (one xs) ≡ is_some (one_in (denoted false Any) xs)
one_same Nothing = refl
one_same (Then x Nothing) = refl
one_same (Then x (Then y ys)) = refl

pub one_under_same : (number : ℕ) (x : TreeValue)
    → is_some (one_under (context number) x) ≡ is_some (denoted false (explicit number Any) x)
one_under_same number x = under_same (context number) one (one_in (denoted false Any)) one_same x

pub held_same : (number : ℕ) (x : TreeValue)
    → is_some (held_under number (Some x)) ≡ is_some (denoted false (explicit number Any) x)
held_same number x = is_mapped Some (one_under (context number) x) ∙ one_under_same number x

-- what the one tree under a tag gives
one_then : {A : Type 0} (read : TreeValue → Option A) (value : TreeValue → Option TypedValue)
    → ((x : TreeValue) → is_some (read x) ≡ is_some (value x)) → (xs : TreeValues)
    → is_some (option_and_then read (one xs)) ≡ is_some (one_in value xs)
one_then read value law Nothing = refl
one_then read value law (Then x Nothing) = law x
one_then read value law (Then x (Then y ys)) = refl

pub chained : {A B C : Type 0} (f : B → Option C) (g : A → Option B) (o : Option A)
    → option_and_then f (option_and_then g o) ≡ option_and_then (λ x. option_and_then f (g x)) o
chained f g None = refl
chained f g (Some x) = refl

pub explicit_same : {A : Type 0} (number : ℕ) (read : TreeValue → Option A) (value : TreeValue → Option TypedValue)
    → ((x : TreeValue) → is_some (read x) ≡ is_some (value x)) → (x : TreeValue)
    → is_some (option_and_then read (one_under (context number) x))
    ≡ is_some (under false (context number) (within (one_in value)) x)
explicit_same number read value law x =
    (λ i. is_some (chained read one (inside_under (context number) x) i))
    ∙ under_same (context number) (λ xs. option_and_then read (one xs)) (one_in value) (one_then read value law) x

pub members_same : {A : Type 0} (read : TreeValue → Option A) (member : TreeValue → Option TypedValue)
    → ((x : TreeValue) → is_some (read x) ≡ is_some (member x)) → (xs : TreeValues)
    → is_some (all_in read xs) ≡ is_some (members_in member xs)
members_same read member law Nothing = refl
members_same read member law (Then x xs) =
    is_both (λ a rest. a ∷ rest) (read x) (all_in read xs)
    ∙ (λ i. law x i && members_same read member law xs i)
    ∙ sym (is_both AndValues (member x) (members_in member xs))

pub end_same : (xs : TreeValues) → is_some (parts_in NoParts xs) ≡ no_trees xs
end_same Nothing = refl
end_same (Then x xs) = refl
