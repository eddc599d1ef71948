-- FormLaws: words in their forms, and words that are in none.
use Rattle.std.proofs.Common.{rules, ◌≡◌, ◌<◌, ◌≤◌, ◌↔◌, ℕ, List, [], ◌∷◌, IsTrue, Bool, true, map, take, length, get_or}
use Rattle.std.proofs.Common.{◌==◌, ap, refl, sym, ◌∙◌, arith}
use Rattle.std.proofs.Math.Path.{subst}
use Rattle.std.proofs.Math.Seq.{take-length}
use Rattle.std.proofs.Math.ListN.{get_or-map}
use Rattle.std.proofs.lemmas.List.{length-map}
use Rattle.std.specs.List.{All}
use Rattle.command_line.specs.WordForms.{AreNames, Begins, IsPlace}
use Rattle.command_line.specs.WordForms.Begins.{begun}

-- names are words of which each is a place
pub all_places : {A : Type 0} (f : A → List ℕ) (words : List A) (i : ℕ) → 0 < length words → length words ≤ 64 →
    i ≡ length words → All IsPlace (map f (take i words)) → AreNames (map f words)
all_places f words i some few is_end places = record {
  some = let many = length-map words f in omega (arith, many, some);
  few = let many = length-map words f in omega (arith, many, few);
  places = subst (λ xs. All IsPlace (map f xs)) (ap (λ n. take n words) is_end ∙ take-length words) places;
}

-- a word among them that isn't in its place
pub one_outside : {A : Type 0} (f : A → List ℕ) (words : List A) (i : ℕ) (word : A) → i < length words →
    word ≡ get_or words i word → (IsPlace (f word) → ⊥) → AreNames (map f words) → ⊥
one_outside f words i word within is outside names =
    outside (subst (λ (x : List ℕ). IsPlace x) (get_or-map f words i word ∙ ap f (sym is))
    (names.places i (f word) (let many = length-map words f in omega (arith, many, within))))

-- too few, or too many
pub too_few : {A : Type 0} (f : A → List ℕ) (words : List A) → length words ≡ 0 → AreNames (map f words) → ⊥
too_few f words none names = let many = length-map words f in let some = names.some in omega (arith, many, none, some)

pub too_many : {A : Type 0} (f : A → List ℕ) (words : List A) → 64 < length words → AreNames (map f words) → ⊥
too_many f words more names = let many = length-map words f in let few = names.few in omega (arith, many, more, few)

rest_of : {First : List ℕ → Type 0} {Rest : List (List ℕ) → Type 0} {word : List ℕ} {rest : List (List ℕ)} →
    Begins First Rest (word ∷ rest) → Rest rest
rest_of (begun first rest) = rest

-- words that begin as they should are in the form exactly where the rest is in its own
pub told_by_rest : {A : Type 0} (f : A → List ℕ) (First : List ℕ → Type 0) (Rest : List (List ℕ) → Type 0)
    (words rest : List A) (word : A) (answer : Bool) → words ≡ word ∷ rest → First (f word) →
    IsTrue answer ↔ Rest (map f rest) → IsTrue answer ↔ Begins First Rest (map f words)
told_by_rest f First Rest words rest word answer is first told =
    subst (λ ws. IsTrue answer ↔ Begins First Rest (map f ws)) (sym is)
    (λ yes. begun first (told.0 yes), λ all. told.1 (rest_of all))

-- no words are none, also as octets
pub none_as_well : {A : Type 0} (f : A → List ℕ) (words : List A) (answer : Bool) → answer ≡ (length words == 0) →
    IsTrue answer ↔ (map f words ≡ [])
none_as_well f [] answer told = (λ yes. refl, λ same. told)
none_as_well f (word ∷ words) answer told = (λ yes. absurd (untrue (sym yes ∙ told)), λ same. absurd (cc))
  where
    untrue : true ≡ (length (word ∷ words) == 0) → ⊥
    untrue e = search rules
