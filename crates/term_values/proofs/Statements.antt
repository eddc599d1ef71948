-- The laws of specs/SpellingLaws, proved.
use Rattle.std.proofs.Common.{◌≡◌, ℕ, zero, suc, ◌+◌, ◌≤◌, List, [], ◌∷◌, ◌++◌, length, Some, None, sym, ap, ◌∙◌, refl}
use Rattle.std.proofs.Common.{subst, arith}
use Rattle.std.specs.Prelude.{Result, Ok, Err, option_and_then}
use Rattle.std.proofs.lemmas.List.{append-nil, append_cancel_right}
use Rattle.std.proofs.lemmas.Option.{none-some, same_Some, option_and_then_some, some_pair_parts}
use Rattle.term_values.specs.declared.ber_kind.BerKind.{BerKind}
use Rattle.term_values.specs.Octets.{count_unsigned}
use Rattle.term_values.specs.Der.{written}
use Rattle.term_values.specs.Ber.{most_depth, Spells, SpellsAll, IsBer}
use Rattle.term_values.specs.BerReading.{Fault, found_in, reading, tree_at, tree_in, alone}
use Rattle.term_values.specs.FirstFault.{IsFirstFault}
use Rattle.term_values.specs.Tree.{TreeValue, TreeValues}
use Rattle.term_values.specs.Tree.TreeValue.{Primitive, Constructed}
use Rattle.term_values.specs.Tree.TreeValues.{Nothing, Then}
use Rattle.term_values.specs.SpellingLaws.{AreOctets, OneTree, Spelling, ReadingSpells, SpellingIsRead, WholeReading}
use Rattle.term_values.specs.SpellingLaws.{HasTree, NoFaultBesideTree, SomeFault, OneFault, FoundFault, WrittenSpells}
use Rattle.term_values.specs.SpellingLaws.{WrittenIsRead, NumberOfOctets, OctetsOfNumber}
use Rattle.term_values.proofs.ContentsLaws.{error_same, reading_told}
use Rattle.term_values.proofs.Faults.{fault_found}
use Rattle.term_values.proofs.NumberLaws.{number-octets_all, octets-number}
use Rattle.term_values.proofs.ReadingLaws.{ReadingTold}
use Rattle.term_values.proofs.Spelled.{spelling_read}
use Rattle.term_values.proofs.WrittenLaws.{holds_number, written_spells}

-- a greater depth spells no less
mutual
  spells_deeper : (d e : ℕ) (bytes : List ℕ) (tree : TreeValue) → d ≤ e → Spells d bytes tree → Spells e bytes tree
  spells_deeper d e bytes (Primitive tag contents) h s = s
  spells_deeper zero e bytes (Constructed tag inside) h s = absurd s
  spells_deeper (suc d) zero bytes (Constructed tag inside) h s = absurd (omega arith)
  spells_deeper (suc d) (suc e) bytes (Constructed tag inside) h s =
      (s.0, s.1, all_deeper d e s.0 inside (omega arith) s.2)

  all_deeper : (d e : ℕ) (bytes : List ℕ) (trees : TreeValues) → d ≤ e → SpellsAll d bytes trees →
      SpellsAll e bytes trees
  all_deeper d e bytes Nothing h s = s
  all_deeper d e bytes (Then x xs) h s = (s.0, s.1, s.2, spells_deeper d e s.0 x h s.3, all_deeper d e s.1 xs h s.4)

pub one_tree_holds : OneTree
one_tree_holds a b x y d e s t f g h =
    let depth = d + e in
    let left = spelling_read depth None 0 a x s (spells_deeper d depth a s (omega arith) f) in
    let right = spelling_read depth None 0 b y t (spells_deeper e depth b t (omega arith) g) in
    let p = some_pair_parts s t x y (ap found_in (sym left ∙ (ap (reading depth None 0) h ∙ right))) in
    (append_cancel_right a b y (ap (λ z. a ++ z) (sym p.1) ∙ h), p.0)

found_spells : (depth end : ℕ) (bytes : List ℕ) (tree : TreeValue) (rest : List ℕ)
    (r : Result (TreeValue × List ℕ) Fault) → ReadingTold depth None end bytes r → found_in r ≡ Some (tree, rest) →
    Spelling depth bytes tree rest
found_spells depth end bytes tree rest (Ok p) t e =
    subst (λ (q : TreeValue × List ℕ). Spelling depth bytes q.0 q.1) (same_Some p (tree, rest) e) t
found_spells depth end bytes tree rest (Err f) t e = absurd (none-some _ e)

reading_spells : (depth : ℕ) (bytes : List ℕ) (tree : TreeValue) (rest : List ℕ) → AreOctets bytes →
    tree_at depth bytes ≡ Some (tree, rest) → Spelling depth bytes tree rest
reading_spells depth bytes tree rest h e =
    found_spells depth (length bytes) bytes tree rest (reading depth None (length bytes) bytes)
    (reading_told depth None (length bytes) bytes h) e

pub reading_spells_holds : ReadingSpells
reading_spells_holds = reading_spells

pub spelling_is_read_holds : SpellingIsRead
spelling_is_read_holds depth front rest tree s =
    ap found_in (spelling_read depth None (length (front ++ rest)) front rest tree s)

whole_from : (front rest : List ℕ) (read tree : TreeValue) → alone (read, rest) ≡ Some tree →
    (rest ≡ []) × (read ≡ tree)
whole_from front [] read tree e = (refl, same_Some read tree e)
whole_from front (x ∷ xs) read tree e = absurd (none-some _ e)

whole_spells : (bytes : List ℕ) (tree : TreeValue) → AreOctets bytes → tree_in bytes ≡ Some tree → IsBer bytes tree
whole_spells bytes tree h e =
    option_and_then_some alone (tree_at most_depth bytes) tree e (λ read was e2.
    let w = whole_from [] read.1 read.0 tree e2 in
    let s = reading_spells most_depth bytes read.0 read.1 h was in
    let front : s.front ≡ bytes = sym (append-nil s.front) ∙ (ap (λ ys. s.front ++ ys) (sym w.0) ∙ sym s.whole) in
    subst (λ t. IsBer bytes t) w.1 (subst (λ ys. IsBer ys read.0) front s.spells))

whole_read : (bytes : List ℕ) (tree : TreeValue) → IsBer bytes tree → tree_in bytes ≡ Some tree
whole_read bytes tree s =
    let e : tree_at most_depth bytes ≡ Some (tree, []) = ap (tree_at most_depth) (sym (append-nil bytes))
    ∙ spelling_is_read_holds most_depth bytes [] tree s in
    ap (option_and_then alone) e

pub whole_reading_holds : WholeReading
whole_reading_holds bytes tree h = (whole_spells bytes tree h, whole_read bytes tree)

-- bytes of which a front spells a tree are read as it
tree_read : (bytes : List ℕ) (end : ℕ) (t : HasTree bytes) → reading most_depth None end bytes ≡ Ok (t.0, t.1)
tree_read bytes end t = ap (reading most_depth None end) t.2.whole
    ∙ spelling_read most_depth None end t.2.front t.1 t.0 t.2.spells

no_both : {T E : Type 0} (x : T) (e : E) → ◌≡◌ {A = Result T E} (Ok x) (Err e) → ⊥
no_both x e p = absurd (cc)

pub no_fault_beside_tree_holds : NoFaultBesideTree
no_fault_beside_tree_holds bytes place kind t f =
    no_both _ _ (sym (tree_read bytes (length bytes) t) ∙ fault_found most_depth None bytes (length bytes) place kind f)

fault_told : (bytes : List ℕ) (r : Result (TreeValue × List ℕ) Fault) →
    ReadingTold most_depth None (length bytes) bytes r → ¬ (HasTree bytes) → (place : ℕ) × (kind : BerKind)
    × IsFirstFault bytes place kind
fault_told bytes (Ok p) t never = absurd (never (p.0, p.1, t))
fault_told bytes (Err f) t never = (f.0, f.1, t)

pub some_fault_holds : SomeFault
some_fault_holds bytes h never =
    fault_told bytes (reading most_depth None (length bytes) bytes)
    (reading_told most_depth None (length bytes) bytes h) never

pub one_fault_holds : OneFault
one_fault_holds bytes p q k l f g =
    let e : ◌≡◌ {A = Fault} (p, k) (q, l) =
    error_same (p, k) (q, l) (sym (fault_found most_depth None bytes (length bytes) p k f)
    ∙ fault_found most_depth None bytes (length bytes) q l g) in
    (ap (λ (h : Fault). h.0) e, ap (λ (h : Fault). h.1) e)

found_told : (bytes : List ℕ) (place : ℕ) (kind : BerKind) (r : Result (TreeValue × List ℕ) Fault) →
    ReadingTold most_depth None (length bytes) bytes r → r ≡ Err (place, kind) → IsFirstFault bytes place kind
found_told bytes place kind (Ok p) t e = absurd (no_both _ _ e)
found_told bytes place kind (Err f) t e =
    subst (λ (g : Fault). IsFirstFault bytes g.0 g.1) (error_same f (place, kind) e) t

pub found_fault_holds : FoundFault
found_fault_holds bytes place kind h = (
  found_told bytes place kind (reading most_depth None (length bytes) bytes)
      (reading_told most_depth None (length bytes) bytes h),
  fault_found most_depth None bytes (length bytes) place
      kind,
)

pub number_of_octets_holds : NumberOfOctets
number_of_octets_holds n h = number-octets_all (count_unsigned n) n (holds_number n h).0

pub octets_of_number_holds : OctetsOfNumber
octets_of_number_holds bytes h = octets-number bytes h

pub written_spells_holds : WrittenSpells
written_spells_holds depth tree w = written_spells depth tree w

pub written_is_read_holds : WrittenIsRead
written_is_read_holds depth tree rest w =
    spelling_is_read_holds depth (written tree) rest tree (written_spells depth tree w)
