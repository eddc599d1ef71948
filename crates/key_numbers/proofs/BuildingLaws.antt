-- BuildingLaws: a list of numbers is built from its front on.
use Rattle.std.proofs.Common.{◌≡◌, ◌<◌, ◌≤◌, ◌++◌, ◌∷◌, [], ◌+◌, ◌-◌, ◌∙◌, ℕ, ℤ, suc, List, Bool, Some, append_assoc, ap, arith, drop, get_or, length, refl, sym, take}
use Rattle.std.proofs.Math.Path.{subst}
use Rattle.std.proofs.lemmas.List.{drop_more, take_more}
use Rattle.std.specs.List.{slice_get}
use Rattle.term_values.specs.Sketch.{Sketch}
use Rattle.term_values.specs.Sketch.Sketch.{Leaf, Join}
use Rattle.term_values.specs.SyntaxPieces.{mark}
use Rattle.term_values.specs.declared.tag.Tag.{Tag}
use Rattle.key_numbers.specs.KeyNumbers.{IsSketchNumber, leaf_code, names_sketch, pair_code, pairs_code}
use Rattle.key_numbers.specs.KeyNumbers.IsSketchNumber.{leaf, join}
use Rattle.key_numbers.specs.NumberedLists.{Grows, IsList, Row}
use Rattle.key_numbers.proofs.ListLaws.{list_grows}
use Rattle.key_numbers.proofs.SketchLaws.{sketch_grows, sketch_within}

-- the list that a number had at first has so much behind it now
abbrev pub IsBuilt : Row → ℕ → Row → ℕ → List ℕ → Type 0
IsBuilt first before now list so_far =
    Grows first now × ((xs : List ℕ) → IsList first before xs → IsList now list (xs ++ so_far))

with_nothing : (xs : List ℕ) → xs ≡ xs ++ []
with_nothing [] = refl
with_nothing (x ∷ xs) = ap (λ ys. x ∷ ys) (with_nothing xs)

pub built_first : (row : Row) (before : ℕ) → IsBuilt row before row before []
built_first row before = ((λ k x h. h), (λ xs is. subst (λ ys. IsList row before ys) (with_nothing xs) is))

pub built_more : (first now after : Row) (before list n : ℕ) (ys zs whole : List ℕ) → ys ++ zs ≡ whole →
    IsBuilt first before now list ys → Grows now after →
    ((xs : List ℕ) → IsList now list xs → IsList after n (xs ++ zs)) → IsBuilt first before after n whole
built_more first now after before list n ys zs whole same so_far grows more = (
  (λ k x h. grows k x (so_far.0 k x h)),
  (λ xs is.
      subst (λ us. IsList after n us) (append_assoc xs ys zs ∙ ap (λ us. xs ++ us) same)
      (more (xs ++ ys) (so_far.1 xs is))),
)

pub take_all : {A : Type 0} (xs : List A) → take (length xs) xs ≡ xs
take_all [] = refl
take_all (x ∷ xs) = ap (λ ys. x ∷ ys) (take_all xs)

pub octets_more : (xs : List ℕ) (i : ℕ) → i < length xs → take i xs ++ get_or xs i 0 ∷ [] ≡ take (i + 1) xs
octets_more xs i within = sym (take_more xs i 0 within)

pairs_append : (xs ys : List (ℤ × ℤ)) → pairs_code (xs ++ ys) ≡ pairs_code xs ++ pairs_code ys
pairs_append [] ys = refl
pairs_append (x ∷ xs) ys = ap (λ zs. pair_code x ++ zs) (pairs_append xs ys) ∙
    sym (append_assoc (pair_code x) (pairs_code xs) (pairs_code ys))

pub pairs_more : (xs : List (ℤ × ℤ)) (i : ℕ) (d : ℤ × ℤ) → i < length xs →
    pairs_code (take i xs) ++ pair_code (get_or xs i d) ≡ pairs_code (take (i + 1) xs)
pairs_more xs i d within =
    ap (λ zs. pairs_code (take i xs) ++ zs) (with_nothing (pair_code (get_or xs i d))) ∙
    (sym (pairs_append (take i xs) (get_or xs i d ∷ [])) ∙ ap pairs_code (sym (take_more xs i d within)))

-- ---- trees

pub two_joined : (before after : Row) (kind one other left right n : ℕ) → Grows before after →
    (one ≤ length before → left ≡ one) → (other ≤ length before → right ≡ other) →
    (k : ℕ) × (n ≡ suc k) × (slice_get after k ≡ Some (kind + 2, left, right)) →
    (x y : Sketch) → IsSketchNumber before x one → IsSketchNumber before y other → IsSketchNumber after (Join kind x y) n
two_joined before after kind one other left right n grows lefts rights found x y is its =
    let same = lefts (sketch_within before one x is) in
    let also = rights (sketch_within before other y its) in
    let form : kind + 2 ≡ suc (suc kind) = omega arith in
    subst (λ z. IsSketchNumber after (Join kind x y) z) (sym found.1)
    (join (subst (λ p. slice_get after found.0 ≡ Some p) (λ i. (form i, same i, also i)) found.2)
    (sketch_grows grows is) (sketch_grows grows its))

pub leaf_told : (first before after : Row) (list n : ℕ) {kind : ℕ} {octets : List ℕ} {pairs : List (ℤ × ℤ)} →
    Grows before after → (k : ℕ) × (n ≡ suc k) × (slice_get after k ≡ Some (1, list, 0)) →
    IsList before list (leaf_code kind octets pairs) → IsSketchNumber after (Leaf kind octets pairs) n
leaf_told first before after list n {kind = kind} {octets = octets} {pairs = pairs} grows found is =
    subst (λ z. IsSketchNumber after (Leaf kind octets pairs) z) (sym found.1) (leaf found.2 (list_grows grows is))

pub tag_told : (row : Row) (n made : ℕ) (tag : Tag) (explicit : Bool) → made ≡ mark explicit →
    IsList row n (made ∷ (2 ∷ (tag.class ∷ (tag.number ∷ [])))) →
    IsList row n (leaf_code (mark explicit) (tag.class ∷ (tag.number ∷ [])) [])
tag_told row n made tag explicit same is =
    subst (λ z. IsList row n (z ∷ (2 ∷ (tag.class ∷ (tag.number ∷ []))))) same is

pub names_more : (row : Row) (items names : List (List ℕ × ℤ)) (i place n : ℕ) (x : List ℕ × ℤ) → items ≡ names →
    place + (i + 1) ≡ length items → x ≡ get_or items place x →
    IsSketchNumber row (Join 0 (Leaf 0 x.0 []) (Join 0 (Leaf 0 [] ((x.1, x.1) ∷ []))
    (names_sketch (drop (length names - i) names)))) n →
    IsSketchNumber row (names_sketch (drop (length names - (i + 1)) names)) n
names_more row items names i place n x same sizes elem is =
    let size : length items ≡ length names = ap length same in
    let front : length names - (i + 1) ≡ place = omega (arith, sizes, size) in
    let left : place + 1 ≡ length names - i = omega (arith, sizes, size) in
    let within : place < length names = omega (arith, sizes, size) in
    let first : get_or names place x ≡ x = ap (λ ys. get_or ys place x) (sym same) ∙ sym elem in
    let e : drop (length names - (i + 1)) names ≡ x ∷ drop (length names - i) names =
    ap (λ k. drop k names) front ∙ (drop_more names place x within ∙
    (λ j. first j ∷ drop (left j) names)) in
    subst (λ xs. IsSketchNumber row (names_sketch xs) n) (sym e) is
