-- PartLaws: the keys of parts are numbered from the last one on.
use Rattle.std.proofs.Common.{◌≡◌, ◌≤◌, ◌+◌, ◌-◌, ◌∷◌, [], ◌∙◌, ℕ, suc, zero, List, Bool, Option, None, Some, ap, arith, length, refl, slice_get, sym}
use Rattle.std.proofs.Math.Path.{subst}
use Rattle.term_values.specs.PartsView.{parts_listed}
use Rattle.term_values.specs.Syntaxes.{TypeParts}
use Rattle.term_values.specs.declared.syntax.Part.{Part as PartOfSyntax}
use Rattle.asn1_names.specs.ModuleTerms.{ModuleTerm, TypeTerm}
use Rattle.key_numbers.specs.KeyNumbers.{IsKeyNumber, IsSketchNumber, parts_sketch}
use Rattle.key_numbers.specs.NumberedLists.{Grows, Row}
use Rattle.key_numbers.specs.TypeKeys.{PartKeys, TypeKey}
use Rattle.key_numbers.specs.TypeKeys.PartKeys.{NoKeys, PartKey}
use Rattle.key_numbers.proofs.SketchLaws.{sketch_grows}
use Rattle.type_numbers.specs.KeysBeside.{AreBesideAt, IsBesideAt}
use Rattle.type_numbers.specs.MarkedKeys.{marked, marked_parts}
use Rattle.type_numbers.specs.PlacedTerms.{default_at, member_at}
use Rattle.type_numbers.proofs.BesideLaws.{part_beside}

-- the keys from a place on
abbrev pub keys_from : ℕ → PartKeys → PartKeys
keys_from zero keys = keys
keys_from (suc k) NoKeys = NoKeys
keys_from (suc k) (PartKey name key optional default rest) = keys_from k rest

keys_past : (items : List PartOfSyntax) (f : ℕ → List ℕ → Bool) (k : ℕ) → k ≡ length items →
    keys_from k (marked_parts (parts_listed items) f) ≡ NoKeys
keys_past [] f zero e = refl
keys_past [] f (suc k) e = refl
keys_past (x ∷ items) f zero e = absurd (omega (arith, e))
keys_past (x ∷ items) f (suc k) e = keys_past items (λ j. f (suc j)) k (omega (arith, e))

keys_more : (items : List PartOfSyntax) (f : ℕ → List ℕ → Bool) (k : ℕ) (x : PartOfSyntax) → slice_get items k ≡ Some x →
    keys_from k (marked_parts (parts_listed items) f) ≡ PartKey x.name (marked x.syntax (λ path. f k path)) x.optional
    (f k []) (keys_from (suc k) (marked_parts (parts_listed items) f))
keys_more [] f k x at = absurd (no_part at)
  where
    no_part : None ≡ Some x → ⊥
    no_part h = absurd (cc)
keys_more (y ∷ items) f zero x at =
    ap (λ z. PartKey z.name (marked z.syntax (λ path. f 0 path)) z.optional (f 0 [])
    (marked_parts (parts_listed items) (λ j. f (suc j)))) (same y x at)
  where
    same : (a b : PartOfSyntax) → Some a ≡ Some b → a ≡ b
    same a b h = cc
keys_more (y ∷ items) f (suc k) x at = keys_more items (λ j. f (suc j)) k x at

-- the rest has this number, whatever the marks are
abbrev pub AreNumbered : List ModuleTerm → Option (ℕ × TypeTerm) → List PartOfSyntax → Row → ℕ → ℕ → Type 0
AreNumbered ms text items row k n = (f : ℕ → List ℕ → Bool) →
    AreBesideAt ms text (marked_parts (parts_listed items) f) →
    IsSketchNumber row (parts_sketch (keys_from k (marked_parts (parts_listed items) f))) n

pub numbered_first : (ms : List ModuleTerm) (text : Option (ℕ × TypeTerm)) (items : List PartOfSyntax) (row : Row)
    (k n : ℕ) → k ≡ length items → IsSketchNumber row (parts_sketch NoKeys) n → AreNumbered ms text items row k n
numbered_first ms text items row k n all is =
    λ f b. subst (λ keys. IsSketchNumber row (parts_sketch keys) n) (sym (keys_past items f k all)) is

pub numbered_more : (ms : List ModuleTerm) (text at : Option (ℕ × TypeTerm)) (items : List PartOfSyntax)
    (before between after : Row) (i place rest n one : ℕ) (mark : Bool) (x : PartOfSyntax) →
    place + (i + 1) ≡ length items → slice_get items place ≡ Some x → at ≡ member_at text place →
    mark ≡ default_at text place → Grows before between → AreNumbered ms text items before (length items - i) rest →
    ((f : List ℕ → Bool) → IsBesideAt ms at (marked x.syntax f) → IsKeyNumber between (marked x.syntax f) one) →
    ((key : TypeKey) (keys : PartKeys) → IsKeyNumber between key one →
    IsSketchNumber between (parts_sketch keys) rest →
    IsSketchNumber after (parts_sketch (PartKey x.name key x.optional mark keys)) n) →
    AreNumbered ms text items after (length items - (i + 1)) n
numbered_more ms text at items before between after i place rest n one mark x sizes there member default grows so_far
    typed told = λ f b.
    let keys = marked_parts (parts_listed items) f in
    let part = part_beside ms text items f place x there b in
    let left : length items - i ≡ suc place = omega (arith, sizes) in
    let front : length items - (i + 1) ≡ place = omega (arith, sizes) in
    let own = typed (λ path. f place path) (subst (λ t. IsBesideAt ms t (marked x.syntax (λ path. f place path)))
    (sym member) part.beside) in
    let behind = sketch_grows grows (so_far f b) in
    let number = told (marked x.syntax (λ path. f place path)) (keys_from (suc place) keys) own
    (subst (λ k. IsSketchNumber between (parts_sketch (keys_from k keys)) rest) left behind) in
    subst (λ k. IsSketchNumber after (parts_sketch (keys_from k keys)) n) (sym front)
    (subst (λ ks. IsSketchNumber after (parts_sketch ks) n) (sym (keys_more items f place x there))
    (subst (λ d. IsSketchNumber after (parts_sketch (PartKey x.name (marked x.syntax (λ path. f place path)) x.optional
    d (keys_from (suc place) keys))) n) (default ∙ sym part.marked) number))

pub numbered_all : (ms : List ModuleTerm) (text : Option (ℕ × TypeTerm)) (items : List PartOfSyntax) (parts : TypeParts)
    (row : Row) (i n : ℕ) → length items ≤ i → parts_listed items ≡ parts →
    AreNumbered ms text items row (length items - i) n → (f : ℕ → List ℕ → Bool) →
    AreBesideAt ms text (marked_parts parts f) → IsSketchNumber row (parts_sketch (marked_parts parts f)) n
numbered_all ms text items parts row i n past e told f b =
    let all : length items - i ≡ 0 = omega (arith, past) in
    subst (λ ps. IsSketchNumber row (parts_sketch (marked_parts ps f)) n) e
    (subst (λ k. IsSketchNumber row (parts_sketch (keys_from k (marked_parts (parts_listed items) f))) n) all
    (told f (subst (λ ps. AreBesideAt ms text (marked_parts ps f)) (sym e) b)))
