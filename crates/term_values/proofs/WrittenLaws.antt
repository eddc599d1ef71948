-- What is written spells: X.690, sections 8.1.2, 8.1.3 and 10.1.
use Rattle.std.proofs.Common.{◌≡◌, ℕ, zero, suc, ◌+◌, ◌*◌, ◌/◌, ◌%◌, ◌^◌, ◌<◌, ◌≤◌, Bool, true, false, List, [], ◌∷◌}
use Rattle.std.proofs.Common.{◌++◌, length, Some, sym, refl, subst, inl, inr, ⊎_elim, arith}
use Rattle.std.proofs.lemmas.Bool.{lt-ltb, le-ltb, cases_lt}
use Rattle.term_values.specs.declared.tag.Tag.{Tag}
use Rattle.term_values.specs.Oid.{subidentifier}
use Rattle.term_values.specs.Octets.{octets, count_unsigned}
use Rattle.term_values.specs.Der.{identifier_octets, length_octets, written, written_all}
use Rattle.term_values.specs.Ber.{IsContinued, Continues, IsHighNumber, IsIdentifier, IsLength, Parts, Spells}
use Rattle.term_values.specs.Ber.{SpellsAll}
use Rattle.term_values.specs.Tree.{TreeValue, TreeValues}
use Rattle.term_values.specs.Tree.TreeValue.{Primitive, Constructed}
use Rattle.term_values.specs.Tree.TreeValues.{Nothing, Then}
use Rattle.term_values.specs.Writable.{IsTag, IsWritable, AreWritable}
use Rattle.term_values.proofs.NumberLaws.{number-octets_all, length-octets}

holds_at : (n count : ℕ) → count_unsigned n ≡ count → n < 256 ^ count → 0 < count → count ≤ 8 →
    (n < 256 ^ count_unsigned n) × (0 < count_unsigned n) × (count_unsigned n ≤ 8)
holds_at n count e h i j = subst (λ c. (n < 256 ^ c) × (0 < c) × (c ≤ 8)) (sym e) (h, i, j)

-- the octets that are counted hold the number
pub holds_number : (n : ℕ) → n < 18446744073709551616 → (n < 256 ^ count_unsigned n) × (0 < count_unsigned n)
    × (count_unsigned n ≤ 8)
holds_number n top =
    ⊎_elim
    (λ (h : n < 256). let e : count_unsigned n ≡ 1 = rw (lt-ltb n 256 h) refl in
    holds_at n 1 e h (omega arith) (omega arith))
    (λ (l : 256 ≤ n).
    ⊎_elim
    (λ (h : n < 65536). let e : count_unsigned n ≡ 2 = rw (le-ltb n 256 (omega arith), lt-ltb n 65536 h) refl in
    holds_at n 2 e h (omega arith) (omega arith))
    (λ (l : 65536 ≤ n).
    ⊎_elim
    (λ (h : n < 16777216). let e : count_unsigned n ≡ 3 =
    rw (le-ltb n 256 (omega arith), le-ltb n 65536 (omega arith), lt-ltb n 16777216 h) refl in
    holds_at n 3 e h (omega arith) (omega arith))
    (λ (l : 16777216 ≤ n).
    ⊎_elim
    (λ (h : n < 4294967296). let e : count_unsigned n ≡ 4 =
    rw (
      le-ltb n 256 (omega arith),
      le-ltb n 65536 (omega arith),
      le-ltb n 16777216 (omega arith),
      lt-ltb n
          4294967296 h,
    ) refl in holds_at n 4 e h (omega arith) (omega arith))
    (λ (l : 4294967296 ≤ n).
    ⊎_elim
    (λ (h : n < 1099511627776). let e : count_unsigned n ≡ 5 =
    rw (
      le-ltb n 256 (omega arith),
      le-ltb n 65536 (omega arith),
      le-ltb n 16777216 (omega arith),
      le-ltb n
          4294967296 (omega arith),
      lt-ltb n 1099511627776 h,
    ) refl in holds_at n 5 e h (omega arith) (omega arith))
    (λ (l : 1099511627776 ≤ n).
    ⊎_elim
    (λ (h : n < 281474976710656). let e : count_unsigned n ≡ 6 =
    rw (
      le-ltb n 256 (omega arith),
      le-ltb n 65536 (omega arith),
      le-ltb n 16777216 (omega arith),
      le-ltb n
          4294967296 (omega arith),
      le-ltb n 1099511627776 (omega arith),
      lt-ltb n 281474976710656 h,
    ) refl in
    holds_at n 6 e h (omega arith) (omega arith))
    (λ (l : 281474976710656 ≤ n).
    ⊎_elim
    (λ (h : n < 72057594037927936). let e : count_unsigned n ≡ 7 =
    rw (
      le-ltb n 256 (omega arith),
      le-ltb n 65536 (omega arith),
      le-ltb n 16777216 (omega arith),
      le-ltb n
          4294967296 (omega arith),
      le-ltb n 1099511627776 (omega arith),
      le-ltb n 281474976710656 (omega arith),
      lt-ltb
          n 72057594037927936 h,
    ) refl in holds_at n 7 e h (omega arith) (omega arith))
    (λ (l : 72057594037927936 ≤ n).
    let e : count_unsigned n ≡ 8 =
    rw (
      le-ltb n 256 (omega arith),
      le-ltb n 65536 (omega arith),
      le-ltb n 16777216 (omega arith),
      le-ltb n
          4294967296 (omega arith),
      le-ltb n 1099511627776 (omega arith),
      le-ltb n 281474976710656 (omega arith),
      le-ltb
          n 72057594037927936 (omega arith),
    ) refl in holds_at n 8 e top (omega arith) (omega arith))
    (cases_lt n 72057594037927936))
    (cases_lt n 281474976710656))
    (cases_lt n 1099511627776))
    (cases_lt n 4294967296))
    (cases_lt n 16777216))
    (cases_lt n 65536))
    (cases_lt n 256)

-- one more octet of a tag's number
continue_with : (begun octet next found : ℕ) (octets : List ℕ) → begun * 128 + octet % 128 ≡ next →
    IsContinued begun octet → Continues next octets found → Continues begun (octet ∷ octets) found
continue_with begun octet next found octets e is c = (is, subst (λ b. Continues b octets found) (sym e) c)

-- the groups of seven bits before the last one
abbrev groups_1 : ℕ → List ℕ
groups_1 n = (128 + n / 128 % 128) ∷ []

abbrev groups_2 : ℕ → List ℕ
groups_2 n = (128 + n / 16384 % 128) ∷ groups_1 n

abbrev groups_3 : ℕ → List ℕ
groups_3 n = (128 + n / 2097152 % 128) ∷ groups_2 n

abbrev groups_4 : ℕ → List ℕ
groups_4 n = (128 + n / 268435456 % 128) ∷ groups_3 n

continues_1 : (n : ℕ) → 128 ≤ n → n < 4294967296 → Continues (n / 16384) (groups_1 n) (n / 128)
continues_1 n h t =
    continue_with (n / 16384) (128 + n / 128 % 128) (n / 128) (n / 128) [] (omega arith)
    (record { more = omega arith; needed = omega arith; small = omega arith }) refl

continues_2 : (n : ℕ) → 16384 ≤ n → n < 4294967296 → Continues (n / 2097152) (groups_2 n) (n / 128)
continues_2 n h t =
    continue_with (n / 2097152) (128 + n / 16384 % 128) (n / 16384) (n / 128) (groups_1 n) (omega arith)
    (record { more = omega arith; needed = omega arith; small = omega arith }) (continues_1 n (omega arith) t)

continues_3 : (n : ℕ) → 2097152 ≤ n → n < 4294967296 → Continues (n / 268435456) (groups_3 n) (n / 128)
continues_3 n h t =
    continue_with (n / 268435456) (128 + n / 2097152 % 128) (n / 2097152) (n / 128) (groups_2 n) (omega arith)
    (record { more = omega arith; needed = omega arith; small = omega arith }) (continues_2 n (omega arith) t)

continues_4 : (n : ℕ) → 268435456 ≤ n → n < 4294967296 → Continues 0 (groups_4 n) (n / 128)
continues_4 n h t =
    continue_with 0 (128 + n / 268435456 % 128) (n / 268435456) (n / 128) (groups_3 n) (omega arith)
    (record { more = omega arith; needed = omega arith; small = omega arith }) (continues_3 n (omega arith) t)

from_zero : (begun found : ℕ) (octets : List ℕ) → begun ≡ 0 → Continues begun octets found → Continues 0 octets found
from_zero begun found octets e c = subst (λ b. Continues b octets found) e c

high_number : (n : ℕ) (front : List ℕ) → 31 ≤ n → n < 4294967296 → Continues 0 front (n / 128) →
    IsHighNumber n (front ++ (n % 128) ∷ [])
high_number n front h t c =
    record {
      front = front;
      begun = n / 128;
      last = n % 128;
      whole = refl;
      continues = c;
      ended =
          omega arith;
      number_is = omega arith;
      high = h;
      small = t;
    }

number_spelt : (n : ℕ) → 31 ≤ n → n < 4294967296 → IsHighNumber n (subidentifier n)
unfolding subidentifier
number_spelt n h t =
    ⊎_elim
    (λ (i : n < 128). rw (lt-ltb n 128 i) (high_number n [] h t (let e : 0 ≡ n / 128 = omega arith in e)))
    (λ (i : 128 ≤ n). ⊎_elim
    (λ (j : n < 16384).
    rw (le-ltb n 128 i, lt-ltb n 16384 j)
    (high_number n (groups_1 n) h t
    (from_zero (n / 16384) (n / 128) (groups_1 n) (omega arith) (continues_1 n i t))))
    (λ (j : 16384 ≤ n). ⊎_elim
    (λ (k : n < 2097152).
    rw (le-ltb n 128 i, le-ltb n 16384 j, lt-ltb n 2097152 k)
    (high_number n (groups_2 n) h t
    (from_zero (n / 2097152) (n / 128) (groups_2 n) (omega arith) (continues_2 n j t))))
    (λ (k : 2097152 ≤ n). ⊎_elim
    (λ (l : n < 268435456).
    rw (le-ltb n 128 i, le-ltb n 16384 j, le-ltb n 2097152 k, lt-ltb n 268435456 l)
    (high_number n (groups_3 n) h t
    (from_zero (n / 268435456) (n / 128) (groups_3 n) (omega arith) (continues_3 n k t))))
    (λ (l : 268435456 ≤ n).
    rw (le-ltb n 128 i, le-ltb n 16384 j, le-ltb n 2097152 k, le-ltb n 268435456 l)
    (high_number n (groups_4 n) h t (continues_4 n l t)))
    (cases_lt n 268435456))
    (cases_lt n 2097152))
    (cases_lt n 16384))
    (cases_lt n 128)

identifier_spelt : (constructed : Bool) (tag : Tag) → IsTag tag →
    IsIdentifier constructed tag (identifier_octets constructed tag)
unfolding identifier_octets
identifier_spelt constructed tag is =
    ⊎_elim
    (λ (l : tag.number < 31).
    rw (lt-ltb tag.number 31 l) (record { class = is.class; used = is.used; spelt = inl (l, refl) }))
    (λ (h : 31 ≤ tag.number).
    rw (le-ltb tag.number 31 h) (record {
      class = is.class;
      used = is.used;
      spelt =
          inr (subidentifier tag.number, number_spelt tag.number h is.small, refl);
    }))
    (cases_lt tag.number 31)

length_spelt : (n : ℕ) → n < 4294967296 → IsLength (length_octets n) n
unfolding length_octets
length_spelt n top =
    ⊎_elim
    (λ (h : n < 128). rw (lt-ltb n 128 h) (inl (h, refl, refl)))
    (λ (l : 128 ≤ n).
    let c = holds_number n (omega arith) in
    let count = count_unsigned n in
    let long : length (octets count n) ≡ count = length-octets count n in
    let some = c.1 in
    let few = c.2 in
    rw (le-ltb n 128 l) (inr (omega arith, omega arith, omega arith, sym (number-octets_all count n c.0), top)))
    (cases_lt n 128)

parts_written : (constructed : Bool) (tag : Tag) (contents : List ℕ) → IsTag tag → length contents < 4294967296 →
    Parts constructed tag contents
    (identifier_octets constructed tag ++ (length_octets (length contents) ++ contents))
parts_written constructed tag contents is top = record {
  identifier = identifier_octets constructed tag;
  size = length_octets (length contents);
  rest = contents;
  extent = Some (length contents);
  is_identifier = identifier_spelt constructed tag is;
  is_extent = length_spelt (length contents) top;
  encloses = (refl, refl);
  whole = refl;
}

mutual
  pub written_spells : (depth : ℕ) (tree : TreeValue) → IsWritable depth tree → Spells depth (written tree) tree
  written_spells depth (Primitive tag contents) w = parts_written false tag contents w.0 w.1
  written_spells zero (Constructed tag inside) w = absurd w
  written_spells (suc depth) (Constructed tag inside) w =
      (written_all inside, parts_written true tag (written_all inside) w.0 w.1, all_written_spell depth inside w.2)

  all_written_spell : (depth : ℕ) (trees : TreeValues) → AreWritable depth trees →
      SpellsAll depth (written_all trees) trees
  all_written_spell depth Nothing w = refl
  all_written_spell depth (Then x xs) w =
      (written x, written_all xs, refl, written_spells depth x w.0, all_written_spell depth xs w.1)
