-- A tree that octets spell has octets: X.690, section 8.1.
use Rattle.std.proofs.Common.{ℕ, zero, suc, List, [], ◌∷◌, ◌++◌, Bool, Option, Some, None, true, false, refl, subst}
use Rattle.term_values.proofs.ReadingLaws.{octets_back, octets_front}
use Rattle.term_values.specs.Ber.{Parts, Encloses, Spells, SpellsAll}
use Rattle.term_values.specs.SpellingLaws.{AreOctets}
use Rattle.term_values.specs.Tree.{TreeValue, TreeValues}
use Rattle.term_values.specs.Tree.TreeValue.{Primitive, Constructed}
use Rattle.term_values.specs.Tree.TreeValues.{Nothing, Then}
use Rattle.term_values.specs.declared.tag.Tag.{Tag}
use Rattle.typed_laws.specs.TreeOctets.{HasOctets, HaveOctets}

enclosed_octets : (extent : Option ℕ) (contents rest : List ℕ) → Encloses extent contents rest → AreOctets rest
    → AreOctets contents
enclosed_octets (Some n) contents rest e h = subst AreOctets e.1 h
enclosed_octets None contents rest e h = octets_front rest contents (0 ∷ 0 ∷ []) e h

parts_octets : (constructed : Bool) (tag : Tag) (contents bytes : List ℕ) → Parts constructed tag contents bytes
    → AreOctets bytes → AreOctets contents
parts_octets constructed tag contents bytes p h =
    let behind = octets_back bytes p.identifier (p.size ++ p.rest) p.whole h in
    enclosed_octets p.extent contents p.rest p.encloses (octets_back (p.size ++ p.rest) p.size p.rest refl behind)

mutual
  pub spelt_octets : (depth : ℕ) (bytes : List ℕ) (tree : TreeValue) → AreOctets bytes → Spells depth bytes tree
      → HasOctets tree
  spelt_octets depth bytes (Primitive tag contents) h s = parts_octets false tag contents bytes s h
  spelt_octets zero bytes (Constructed tag inside) h s = absurd s
  spelt_octets (suc depth) bytes (Constructed tag inside) h s =
      all_octets depth s.0 inside (parts_octets true tag s.0 bytes s.1 h) s.2

  all_octets : (depth : ℕ) (bytes : List ℕ) (trees : TreeValues) → AreOctets bytes → SpellsAll depth bytes trees
      → HaveOctets trees
  all_octets depth bytes Nothing h s = tt
  all_octets depth bytes (Then x xs) h s = (
    spelt_octets depth s.0 x (octets_front bytes s.0 s.1 s.2 h) s.3,
    all_octets depth s.1 xs (octets_back bytes s.0 s.1 s.2 h) s.4,
  )
