-- What is written with its last octet first: a part that follows stands before it, a header is closed over what it
-- heads, and the whole is turned round at the end.
use Rattle.std.proofs.Common.{
  ◌≡◌,
  ℕ,
  ◌-◌,
  List,
  [],
  ◌∷◌,
  ◌++◌,
  true,
  length,
  reverse,
  take,
  drop,
  append_assoc,
  refl,
  sym,
  ap,
  ◌∙◌,
  arith,
}
use Rattle.std.proofs.Math.Seq.{drop-append_seam, take-append_seam}
use Rattle.std.proofs.lemmas.List.{length-append, length-reverse, reverse-append}
use Rattle.term_values.specs.declared.tag.Tag.{Tag}
use Rattle.term_values.specs.Der.{encoded, identifier_octets, length_octets}

-- b was appended, and then a, which stands before it
pub before : (old a b : List ℕ) {first second : List ℕ} → second ≡ first ++ reverse a → first ≡ old ++ reverse b
    → second ≡ old ++ reverse (a ++ b)
before old a b later sooner =
    later ∙ ap (λ xs. xs ++ reverse a) sooner
    ∙ (append_assoc old (reverse b) (reverse a) ∙ ap (λ xs. old ++ xs) (sym (reverse-append a b)))

-- how much stands behind a place
pub behind_start : (old contents into : List ℕ) (start : ℕ) → start ≡ length old → into ≡ old ++ reverse contents
    → length into - start ≡ length contents
behind_start old contents into start begin is =
    omega (arith, begin, ap length is, length-append old (reverse contents), length-reverse contents)

-- a header over the contents
pub value_closed : (old contents : List ℕ) (tag : Tag) {into now : List ℕ} {size : ℕ} → into ≡ old ++ reverse contents
    → size ≡ length contents → now ≡ into ++ reverse (identifier_octets true tag ++ length_octets size)
    → now ≡ old ++ reverse (encoded true tag contents)
value_closed old contents tag {into} {now} is counted headed =
    before old (identifier_octets true tag ++ length_octets (length contents)) contents
    (headed ∙ ap (λ n. into ++ reverse (identifier_octets true tag ++ length_octets n)) counted) is
    ∙ ap (λ xs. old ++ reverse xs)
    (append_assoc (identifier_octets true tag) (length_octets (length contents)) contents)

twice : (xs : List ℕ) → reverse (reverse xs) ≡ xs
twice [] = refl
twice (x ∷ xs) =
    ap reverse (reverse-append (x ∷ []) xs)
    ∙ (reverse-append (reverse xs) (reverse (x ∷ [])) ∙ ap (λ ys. x ∷ ys) (twice xs))

-- all of it turned round
pub turned : (octets : List ℕ) {written now : List ℕ} → now ≡ take 0 written ++ reverse (drop 0 written)
    → written ≡ reverse octets → now ≡ octets
turned octets last is = last ∙ ap reverse is ∙ twice octets

-- what stands behind a place turned round
pub turned_behind : (old octets : List ℕ) {written now : List ℕ} {start : ℕ} → start ≡ length old
    → written ≡ old ++ reverse octets → now ≡ take start written ++ reverse (drop start written) → now ≡ old ++ octets
turned_behind old octets {written} {now} {start} begin is last =
    last
    ∙ ap (λ n. take n written ++ reverse (drop n written)) begin
    ∙ ap (λ xs. take (length old) xs ++ reverse (drop (length old) xs)) is
    ∙ ap (λ xs. xs ++ reverse (drop (length old) (old ++ reverse octets))) (take-append_seam old (reverse octets))
    ∙ ap (λ xs. old ++ reverse xs) (drop-append_seam old (reverse octets))
    ∙ ap (λ xs. old ++ xs) (twice octets)
