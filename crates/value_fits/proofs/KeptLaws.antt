-- What is read from octets can be written where its own length has 32 bits, and octets are tested to be one value in
-- its one form exactly where they are: X.690, sections 8.1 and 10.1.
use Rattle.std.proofs.Common.{◌≡◌, ◌<◌, ◌≤◌, ◌⊎◌, ℕ, zero, suc, Bool, true, false, List, [], ◌∷◌, ◌++◌, None, Some}
use Rattle.std.proofs.Common.{Option, refl, ap, sym, ◌∙◌, subst, arith, length, length-append, length-drop, drop}
use Rattle.std.proofs.Common.{inl, inr}
use Rattle.std.proofs.Math.ListN.{drop_of_length-le}
use Rattle.std.specs.Prelude.{◌≢◌, option_and_then, nat_lt, ◌+◌, if◌then◌else◌}
use Rattle.std.proofs.lemmas.Bool.{and_parts, and_from, ltb-true, lt-ltb, false≢true}
use Rattle.std.proofs.lemmas.List.{append-nil}
use Rattle.std.proofs.lemmas.Option.{none-some, same_Some}
use Rattle.std.proofs.lemmas.Slice.Eq.{bytes_eq-Decides}
use Rattle.term_values.proofs.Statements.{reading_spells_holds, written_is_read_holds}
use Rattle.term_values.specs.Ber.{IsIdentifier, Spells, SpellsAll}
use Rattle.term_values.specs.BerReading.{tree_at, alone}
use Rattle.term_values.specs.Der.{written, written_all, identifier_octets, leading_bits, length_octets}
use Rattle.term_values.specs.Oid.{subidentifier}
use Rattle.term_values.specs.Fits.{IsKept}
use Rattle.term_values.specs.SameValue.{same_octets}
use Rattle.term_values.specs.SpellingLaws.{AreOctets}
use Rattle.term_values.specs.Tree.{TreeValue, TreeValues}
use Rattle.term_values.specs.Tree.TreeValue.{Primitive, Constructed}
use Rattle.term_values.specs.Tree.TreeValues.{Nothing, Then}
use Rattle.term_values.specs.Writable.{IsTag, IsWritable, AreWritable}
use Rattle.term_values.specs.declared.tag.Tag.{Tag}
use Rattle.typed_laws.proofs.WritableLaws.{contents_within, front_within, back_within}
use Rattle.typed_laws.proofs.Choosing.{then_some}
use Rattle.typed_laws.specs.Nesting.{nesting, nesting_inside}
use Rattle.term_values.specs.KeptTest.{is_tag, is_writable, are_writable, is_short, tree_of, kept_as, is_kept}

-- ---- tests and facts

tag_is : (tag : Tag) → IsTag tag → is_tag tag ≡ true
tag_is tag is =
    and_from (nat_lt tag.class 4) _ (lt-ltb tag.class 4 is.class)
    (and_from (nat_lt tag.number 4294967296) _ (lt-ltb tag.number 4294967296 is.small)
    (lt-ltb 0 (tag.class + tag.number) is.used))

is_tag_of : (tag : Tag) → is_tag tag ≡ true → IsTag tag
is_tag_of tag e =
    let p = and_parts (nat_lt tag.class 4) _ e in
    let q = and_parts (nat_lt tag.number 4294967296) _ p.1 in
    record {
      class = ltb-true tag.class 4 p.0;
      small = ltb-true tag.number 4294967296 q.0;
      used = ltb-true 0 (tag.class + tag.number) q.1;
    }

mutual
  writable_is : (depth : ℕ) (tree : TreeValue) → IsWritable depth tree → is_writable tree ≡ true
  writable_is depth (Primitive tag contents) w =
      and_from (is_tag tag) _ (tag_is tag w.0) (lt-ltb (length contents) 4294967296 w.1)
  writable_is zero (Constructed tag inside) w = absurd w
  writable_is (suc depth) (Constructed tag inside) w =
      and_from (is_tag tag) _ (tag_is tag w.0)
      (and_from (nat_lt (length (written_all inside)) 4294967296) _
      (lt-ltb (length (written_all inside)) 4294967296 w.1) (all_writable_is depth inside w.2))

  all_writable_is : (depth : ℕ) (trees : TreeValues) → AreWritable depth trees → are_writable trees ≡ true
  all_writable_is depth Nothing w = refl
  all_writable_is depth (Then x xs) w =
      and_from (is_writable x) _ (writable_is depth x w.0) (all_writable_is depth xs w.1)

mutual
  is_writable_of : (depth : ℕ) (tree : TreeValue) → nesting tree ≤ depth → is_writable tree ≡ true
      → IsWritable depth tree
  is_writable_of depth (Primitive tag contents) h e =
      let p = and_parts (is_tag tag) _ e in
      (is_tag_of tag p.0, ltb-true (length contents) 4294967296 p.1)
  is_writable_of zero (Constructed tag inside) h e = absurd (omega arith)
  is_writable_of (suc depth) (Constructed tag inside) h e =
      let p = and_parts (is_tag tag) _ e in
      let q = and_parts (nat_lt (length (written_all inside)) 4294967296) _ p.1 in (
        is_tag_of tag p.0,
        ltb-true (length (written_all inside)) 4294967296 q.0,
        are_writable_of depth inside (omega arith) q.1,
      )

  are_writable_of : (depth : ℕ) (trees : TreeValues) → nesting_inside trees ≤ depth → are_writable trees ≡ true
      → AreWritable depth trees
  are_writable_of depth Nothing h e = tt
  are_writable_of depth (Then x xs) h e =
      let p = and_parts (is_writable x) _ e in
      (is_writable_of depth x (omega arith) p.0, are_writable_of depth xs (omega arith) p.1)

-- ---- a tree that octets spell can be written, where that takes fewer than 2 ^ 32 octets

small_number : (n : ℕ) (low high : Type 0) → (low → n < 31) → (high → n < 4294967296) → low ⊎ high → n < 4294967296
small_number n low high l h (inl x) = let s = l x in omega arith
small_number n low high l h (inr x) = h x

spelt_tag : (constructed : Bool) (tag : Tag) (octets : List ℕ) → IsIdentifier constructed tag octets → IsTag tag
spelt_tag constructed tag octets is = record {
  class = is.class;
  small = small_number tag.number _ _ (λ x. x.0) (λ x. x.1.small) is.spelt;
  used = is.used;
}

mutual
  spelt_writable : (depth : ℕ) (bytes : List ℕ) (tree : TreeValue) → Spells depth bytes tree
      → is_short tree ≡ true → IsWritable depth tree
  spelt_writable depth bytes (Primitive tag contents) s short =
      (spelt_tag false tag s.identifier s.is_identifier, ltb-true (length contents) 4294967296 short)
  spelt_writable zero bytes (Constructed tag inside) s short = absurd s
  spelt_writable (suc depth) bytes (Constructed tag inside) s short =
      let p = s.1 in
      let few = ltb-true (length (written_all inside)) 4294967296 short in
      (spelt_tag true tag p.identifier p.is_identifier, few, all_spelt_writable depth s.0 inside s.2 few)

  all_spelt_writable : (depth : ℕ) (bytes : List ℕ) (trees : TreeValues) → SpellsAll depth bytes trees
      → length (written_all trees) < 4294967296 → AreWritable depth trees
  all_spelt_writable depth bytes Nothing s few = tt
  all_spelt_writable depth bytes (Then x xs) s few = (
    spelt_writable depth s.0 x s.3 (short_of x (front_within (written x) (written_all xs) 4294967296 few)),
    all_spelt_writable depth s.1 xs s.4 (back_within (written x) (written_all xs) 4294967296 few),
  )

  short_of : (tree : TreeValue) → length (written tree) < 4294967296 → is_short tree ≡ true
  short_of (Primitive tag contents) few =
      lt-ltb (length contents) 4294967296
      (contents_within (identifier_octets false tag) (length_octets (length contents)) contents 4294967296 few)
  short_of (Constructed tag inside) few =
      lt-ltb (length (written_all inside)) 4294967296
      (contents_within (identifier_octets true tag) (length_octets (length (written_all inside)))
      (written_all inside) 4294967296 few)

-- ---- one value that is all of the octets

pub tree_whole : (octets : List ℕ) (tree : TreeValue) (size : ℕ)
    → tree_at (length octets) octets ≡ Some (tree, drop size octets) → size ≡ length octets
    → tree_of octets ≡ Some tree
tree_whole octets tree size is whole =
    let none : drop size octets ≡ [] = drop_of_length-le octets (omega arith) in
    rw (is, none) refl

more_behind : (tree : TreeValue) (rest : List ℕ) → 0 < length rest → alone (tree, rest) ≡ None
more_behind tree [] h = absurd (omega arith)
more_behind tree (x ∷ xs) h = refl

pub tree_more : (octets : List ℕ) (tree : TreeValue) (size : ℕ)
    → tree_at (length octets) octets ≡ Some (tree, drop size octets) → size ≤ length octets → size ≢ length octets
    → tree_of octets ≡ None
tree_more octets tree size is within differs =
    let some : 0 < length (drop size octets) = rw (length-drop size octets) (omega arith) in
    rw is (more_behind tree (drop size octets) some)

-- ---- what is read can be written, where it is short

both_true : (b c : Bool) → (b ≡ true → c ≡ true) → (c ≡ true → b ≡ true) → b ≡ c
both_true true c there back = sym (there refl)
both_true false true there back = back refl
both_true false false there back = refl

short_if : (tree : TreeValue) → is_writable tree ≡ true → is_short tree ≡ true
short_if (Primitive tag contents) e = (and_parts (is_tag tag) _ e).1
short_if (Constructed tag inside) e =
    (and_parts (nat_lt (length (written_all inside)) 4294967296) _ (and_parts (is_tag tag) _ e).1).0

alone_is : (found : TreeValue × List ℕ) (tree : TreeValue) → alone found ≡ Some tree → found.0 ≡ tree
alone_is (found, []) tree e = same_Some found tree e
alone_is (found, octet ∷ octets) tree e = absurd (none-some _ e)

pub read_writable : (octets : List ℕ) (tree : TreeValue) → AreOctets octets → tree_of octets ≡ Some tree
    → is_writable tree ≡ is_short tree
read_writable octets tree are e =
    let g = then_some alone (tree_at (length octets) octets) tree e in
    let r = reading_spells_holds (length octets) octets g.0.0 g.0.1 are g.1 in
    let spells : Spells (length octets) r.front tree =
    subst (λ (found : TreeValue). Spells (length octets) r.front found) (alone_is g.0 tree g.2) r.spells in
    both_true (is_writable tree) (is_short tree) (short_if tree)
    (λ short. writable_is (length octets) tree (spelt_writable (length octets) r.front tree spells short))

-- ---- the test is the fact

same_octets_is : (xs ys : List ℕ) → same_octets xs ys ≡ true → xs ≡ ys
same_octets_is xs ys e = (bytes_eq-Decides xs ys).0 e

is_same_octets : (xs ys : List ℕ) → xs ≡ ys → same_octets xs ys ≡ true
is_same_octets xs ys e = (bytes_eq-Decides xs ys).1 e

pub kept_if : (octets : List ℕ) (which : TreeValue → Bool) → is_kept octets which ≡ true → IsKept octets which
kept_if octets which e = from_tree (tree_of octets) e
  where
    from_tree : (found : Option TreeValue) → kept_as octets which found ≡ true → IsKept octets which
    from_tree None e = absurd (false≢true e)
    from_tree (Some tree) e =
        let p = and_parts (which tree) _ e in
        let q = and_parts (is_writable tree) _ p.1 in
        record {
          depth = nesting tree;
          tree = tree;
          writable = is_writable_of (nesting tree) tree (omega arith) q.0;
          such = p.0;
          whole = same_octets_is octets (written tree) q.1;
        }

header_some : (a b c : List ℕ) (depth : ℕ) → 0 < length a → length (a ++ (b ++ c)) ≤ suc depth → length c ≤ depth
header_some a b c depth some h =
    let e = length-append a (b ++ c) in
    let f = length-append b c in
    omega arith

identifier_some : (tag : Tag) → 0 < length (identifier_octets true tag)
unfolding identifier_octets
identifier_some tag = either (nat_lt tag.number 31)
  where
    either : (b : Bool)
        → 0 < length (if b then (leading_bits true tag + tag.number) ∷ []
        else (leading_bits true tag + 31) ∷ subidentifier tag.number)
    either true = omega arith
    either false = omega arith

-- no tree has more constructed values inside one another than octets
mutual
  as_deep : (depth most : ℕ) (tree : TreeValue) → length (written tree) ≤ most → IsWritable depth tree
      → IsWritable most tree
  as_deep depth most (Primitive tag contents) h w = w
  as_deep zero most (Constructed tag inside) h w = absurd w
  as_deep (suc depth) zero (Constructed tag inside) h w =
      absurd (let some = identifier_some tag in let e = length-append (identifier_octets true tag)
      (length_octets (length (written_all inside)) ++ written_all inside) in omega arith)
  as_deep (suc depth) (suc most) (Constructed tag inside) h w = (
    w.0,
    w.1,
    all_as_deep depth most inside
        (header_some (identifier_octets true tag) (length_octets (length (written_all inside))) (written_all inside)
        most (identifier_some tag) h) w.2,
  )

  all_as_deep : (depth most : ℕ) (trees : TreeValues) → length (written_all trees) ≤ most → AreWritable depth trees
      → AreWritable most trees
  all_as_deep depth most Nothing h w = tt
  all_as_deep depth most (Then x xs) h w =
      let e = length-append (written x) (written_all xs) in
      (as_deep depth most x (omega arith) w.0, all_as_deep depth most xs (omega arith) w.1)

read_again : (octets : List ℕ) (tree : TreeValue) (depth : ℕ) → octets ≡ written tree → IsWritable depth tree
    → tree_of octets ≡ Some tree
read_again octets tree depth whole w =
    let deep = as_deep depth (length octets) tree (omega (arith, ap length whole)) w in
    let read = written_is_read_holds (length octets) tree [] deep in
    let same : octets ≡ written tree ++ [] = whole ∙ sym (append-nil (written tree)) in
    let found : tree_at (length octets) octets ≡ Some (tree, []) = ap (tree_at (length octets)) same ∙ read in
    ap (option_and_then alone) found

pub kept_is : (octets : List ℕ) (which : TreeValue → Bool) → IsKept octets which → is_kept octets which ≡ true
kept_is octets which k =
    ap (kept_as octets which) (read_again octets k.tree k.depth k.whole k.writable)
    ∙ and_from (which k.tree) _ k.such
    (and_from (is_writable k.tree) _ (writable_is k.depth k.tree k.writable)
    (is_same_octets octets (written k.tree) k.whole))
