-- The laws of specs/WritingLaws, proved.
use Rattle.std.proofs.Common.{◌≡◌, true, Some, None, sym, ◌∙◌, refl, ap, subst, ℕ, suc, zero, ◌≤◌, List, [], ◌++◌}
use Rattle.std.proofs.Common.{length, arith, append_assoc, false}
use Rattle.std.specs.Prelude.{max}
use Rattle.std.proofs.lemmas.List.{append_cancel_left}
use Rattle.std.proofs.lemmas.Option.{same_Some}
use Rattle.term_values.proofs.ReadingLaws.{octets_back, octets_front}
use Rattle.term_values.proofs.Statements.{one_tree_holds, reading_spells_holds, written_is_read_holds}
use Rattle.term_values.proofs.Statements.{written_spells_holds}
use Rattle.term_values.specs.Ber.{most_depth, Spells}
use Rattle.term_values.specs.BerReading.{tree_at}
use Rattle.term_values.specs.Decoding.{value_in}
use Rattle.term_values.specs.Der.{written, written_all, identifier_octets, length_octets}
use Rattle.term_values.specs.SpellingLaws.{AreOctets}
use Rattle.term_values.specs.Tree.{TreeValue, TreeValues}
use Rattle.term_values.specs.Tree.TreeValue.{Primitive, Constructed}
use Rattle.term_values.specs.Tree.TreeValues.{Nothing, Then}
use Rattle.term_values.specs.Writable.{IsWritable, AreWritable}
use Rattle.term_values.specs.Written.{der}
use Rattle.typed_laws.specs.Nesting.{nesting, nesting_inside}
use Rattle.typed_laws.specs.TreeOctets.{HasOctets, HaveOctets}
use Rattle.typed_laws.specs.WritingLaws.{WrittenIsReadAgain, WrittenDenotes, WrittenIsReadBack, OneValueWritten}
use Rattle.typed_laws.proofs.DenotesTold.{told}
use Rattle.typed_laws.proofs.ReadAgain.{again}
use Rattle.typed_laws.proofs.TagsCan.{tags_can}
use Rattle.typed_laws.proofs.WritableLaws.{writable_deeper, all_deeper}

at_most_left : (a b : ℕ) → a ≤ max a b
at_most_left a b = omega arith

at_most_right : (a b : ℕ) → b ≤ max a b
at_most_right a b = omega arith

mutual
  writable_nesting : (depth : ℕ) (tree : TreeValue) → IsWritable depth tree → IsWritable (nesting tree) tree
  writable_nesting depth (Primitive tag contents) w = w
  writable_nesting zero (Constructed tag inside) w = absurd w
  writable_nesting (suc depth) (Constructed tag inside) w = (w.0, w.1, all_nesting depth inside w.2)

  all_nesting : (depth : ℕ) (trees : TreeValues) → AreWritable depth trees → AreWritable (nesting_inside trees) trees
  all_nesting depth Nothing w = tt
  all_nesting depth (Then x xs) w = (
    writable_deeper (nesting x) (max (nesting x) (nesting_inside xs)) x (at_most_left (nesting x) (nesting_inside xs))
        (writable_nesting depth x w.0),
    all_deeper (nesting_inside xs) (max (nesting x) (nesting_inside xs)) xs
        (at_most_right (nesting x) (nesting_inside xs)) (all_nesting depth xs w.1),
  )

pub written_is_read_again_holds : WrittenIsReadAgain
written_is_read_again_holds syntax value can =
    let a = again syntax None value can.clear (λ e. absurd (cc)) tt (tags_can syntax can.tags) can.fits can.short in
    (a.tree, record { writable = writable_nesting a.depth a.tree a.writable; whole = a.whole; read = a.read })

-- ---- the octets of a tree

sym_assoc : (a b c : List ℕ) → a ++ (b ++ c) ≡ (a ++ b) ++ c
sym_assoc a b c = sym (append_assoc a b c)

mutual
  has_octets : (tree : TreeValue) → AreOctets (written tree) → HasOctets tree
  has_octets (Primitive tag contents) h =
      octets_back (written (Primitive tag contents)) (identifier_octets false tag ++ length_octets (length contents))
      contents
      (sym_assoc (identifier_octets false tag) (length_octets (length contents)) contents) h
  has_octets (Constructed tag inside) h =
      have_octets inside (octets_back (written (Constructed tag inside))
      (identifier_octets true tag ++ length_octets (length (written_all inside))) (written_all inside)
      (sym_assoc (identifier_octets true tag) (length_octets (length (written_all inside))) (written_all inside)) h)

  have_octets : (trees : TreeValues) → AreOctets (written_all trees) → HaveOctets trees
  have_octets Nothing h = tt
  have_octets (Then x xs) h = (
    has_octets x (octets_front (written_all (Then x xs)) (written x) (written_all xs) refl h),
    have_octets xs (octets_back (written_all (Then x xs)) (written x) (written_all xs) refl h),
  )

pub written_denotes_holds : WrittenDenotes
written_denotes_holds syntax value can h =
    let a = written_is_read_again_holds syntax value can in
    let r = a.1 in (
      a.0,
      subst (λ bytes. Spells (nesting a.0) bytes a.0) (sym r.whole) (written_spells_holds (nesting a.0) a.0 r.writable),
      told syntax None a.0 value tt (has_octets a.0 (subst AreOctets r.whole h)) r.read,
    )

pub written_is_read_back_holds : WrittenIsReadBack
written_is_read_back_holds syntax value can =
    let a = written_is_read_again_holds syntax value can in
    let r = a.1 in (
      a.0,
      r.read,
      λ rest d. ap (λ bytes. tree_at most_depth (bytes ++ rest)) r.whole
          ∙ written_is_read_holds most_depth a.0 rest (writable_deeper (nesting a.0) most_depth a.0 d r.writable),
      λ rest others found h e. back a.0 r.writable r.whole rest others found h e,
    )
  where
    back : (tree : TreeValue) → IsWritable (nesting tree) tree → der syntax value ≡ written tree
        → (rest others : List ℕ) (found : TreeValue) → AreOctets (der syntax value ++ rest)
        → tree_at most_depth (der syntax value ++ rest) ≡ Some (found, others) → (found ≡ tree) × (others ≡ rest)
    back tree writable whole rest others found h e =
        let s = reading_spells_holds most_depth (der syntax value ++ rest) found others h e in
        let same : s.front ++ others ≡ written tree ++ rest = sym s.whole ∙ ap (λ bytes. bytes ++ rest) whole in
        let one = one_tree_holds s.front (written tree) others rest most_depth (nesting tree) found tree s.spells
        (written_spells_holds (nesting tree) tree writable) same in
        (one.1, append_cancel_left (written tree) others rest (ap (λ bytes. bytes ++ others) (sym one.0) ∙ same))

pub one_value_written_holds : OneValueWritten
one_value_written_holds syntax value other can may e =
    let a = written_is_read_again_holds syntax value can in
    let b = written_is_read_again_holds syntax other may in
    let ra = a.1 in
    let rb = b.1 in
    let same : written a.0 ++ [] ≡ written b.0 ++ [] = ap (λ bytes. bytes ++ []) (sym ra.whole ∙ (e ∙ rb.whole)) in
    let one = one_tree_holds (written a.0) (written b.0) [] [] (nesting a.0) (nesting b.0) a.0 b.0
    (written_spells_holds (nesting a.0) a.0 ra.writable) (written_spells_holds (nesting b.0) b.0 rb.writable) same in
    same_Some value other (sym ra.read ∙ (ap (value_in syntax) one.1 ∙ rb.read))
