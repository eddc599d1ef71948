-- NameLaws: which component, or number, has a name, as the numbers of types tell it.
use Rattle.std.proofs.Common.{◌≡◌, ◌≢◌, ◌==◌, ◌||◌, ◌⊎◌, ◌∷◌, [], ◌∙◌, ℕ, List, Bool, true, false, Option, None, Some, ap, inl, inr, refl, sym, true≢false, if◌then◌else◌}
use Rattle.std.proofs.Math.Path.{subst}
use Rattle.std.specs.Cmp.Lexicographic.{other_text, pointwise, same_text}
use Rattle.term_values.specs.Sketch.{Sketch}
use Rattle.term_values.specs.Sketch.Sketch.{Leaf, Join}
use Rattle.term_values.specs.Syntaxes.{Named}
use Rattle.key_numbers.specs.ComponentKeys.{TellsComponent, beneath_key, component_key, has_number_key, is_tag_key, names_one}
use Rattle.key_numbers.specs.ComponentKeys.{part_key}
use Rattle.key_numbers.specs.KeyNumbers.{IsSketchNumber, TellsTwo, key_sketch, names_sketch, parts_sketch}
use Rattle.key_numbers.specs.NumberedLists.{AreOnce, Row}
use Rattle.key_numbers.specs.TypeKeys.{TypeKey, PartKeys}
use Rattle.key_numbers.specs.TypeKeys.TypeKey.{BooleanKey, IntegerKey, EnumeratedKey, BitStringKey, OctetStringKey}
use Rattle.key_numbers.specs.TypeKeys.TypeKey.{NullKey, IdentifierKey, TextKey, TimeKey, SequenceKey, SetKey}
use Rattle.key_numbers.specs.TypeKeys.TypeKey.{SequenceOfKey, SetOfKey, ChoiceKey, TaggedKey, AnyKey, FilterKey}
use Rattle.key_numbers.specs.TypeKeys.PartKeys.{NoKeys, PartKey}
use Rattle.key_numbers.proofs.SketchLaws.{one_sketch, one_sketch_number}

-- ---- names

abbrev octets_of : Sketch → List ℕ
octets_of (Leaf kind octets pairs) = octets
octets_of (Join kind one other) = []

by_test : (P : Bool → Type 0) (b : Bool) → (b ≡ true → P true) → (b ≡ false → P false) → P b
by_test P true h g = h refl
by_test P false h g = g refl

-- two names have one number exactly where they are one
is_called : (row : Row) (a b : List ℕ) (n k : ℕ) → AreOnce row → IsSketchNumber row (Leaf 0 a []) n →
    IsSketchNumber row (Leaf 0 b []) k → n ≡ k → pointwise ◌==◌ a b ≡ true
is_called row a b n k once h g e =
    let same : a ≡ b = ap octets_of (one_sketch h g e) in
    by_test (λ t. t ≡ true) (pointwise ◌==◌ a b) (λ t. refl) (λ f. absurd (other_text a b (sym f) same))

not_called : (row : Row) (a b : List ℕ) (n k : ℕ) → AreOnce row → IsSketchNumber row (Leaf 0 a []) n →
    IsSketchNumber row (Leaf 0 b []) k → n ≢ k → pointwise ◌==◌ a b ≡ false
not_called row a b n k once h g apart =
    by_test (λ t. t ≡ false) (pointwise ◌==◌ a b) (λ t. absurd (apart
    (one_sketch_number once h g (ap (λ x. Leaf 0 x []) (same_text a b (sym t)))))) (λ f. refl)

-- what a number tells of the two that it joins
abbrev pub Two : Row → ℕ → Option (ℕ × ℕ × ℕ) → Type 0
Two row n told = (s : Sketch) → IsSketchNumber row s n → TellsTwo row s told

-- ---- names of numbers

-- those that are left tell what all of them tell
abbrev pub NamesLeft : Row → ℕ → ℕ → ℕ → Type 0
NamesLeft row called names at = (name : List ℕ) (xs : Named) → IsSketchNumber row (Leaf 0 name []) called →
    IsSketchNumber row (names_sketch xs) names →
    (ys : Named) × IsSketchNumber row (names_sketch ys) at × (names_one name ys ≡ names_one name xs)

pub names_first : (row : Row) (called names : ℕ) → NamesLeft row called names names
names_first row called names = λ name xs is_name are. (xs, are, refl)

names_end : (row : Row) (name : List ℕ) (ys : Named) → TellsTwo row (names_sketch ys) None → false ≡ names_one name ys
names_end row name [] told = refl
names_end row name (y ∷ ys) told = absurd told

pub names_past : (row : Row) (called names at : ℕ) → NamesLeft row called names at → Two row at None →
    (name : List ℕ) (xs : Named) → IsSketchNumber row (Leaf 0 name []) called →
    IsSketchNumber row (names_sketch xs) names → false ≡ names_one name xs
names_past row called names at left two name xs is_name are =
    let found = left name xs is_name are in
    names_end row name found.0 (two (names_sketch found.0) found.1) ∙ found.2

names_here : (row : Row) (called one : ℕ) (name : List ℕ) (ys : Named) (x : ℕ × ℕ × ℕ) → AreOnce row →
    IsSketchNumber row (Leaf 0 name []) called → TellsTwo row (names_sketch ys) (Some x) → x.1 ≡ called →
    true ≡ names_one name ys
names_here row called one name [] x once is_name told e = absurd told
names_here row called one name (y ∷ ys) x once is_name told e =
    ap (λ b. b || names_one name ys) (sym (is_called row y.0 name x.1 called once told.1 is_name e))

pub names_found : (row : Row) (called names at : ℕ) (x : ℕ × ℕ × ℕ) → AreOnce row → NamesLeft row called names at →
    Two row at (Some x) → x.1 ≡ called → (name : List ℕ) (xs : Named) → IsSketchNumber row (Leaf 0 name []) called →
    IsSketchNumber row (names_sketch xs) names → true ≡ names_one name xs
names_found row called names at x once left two e name xs is_name are =
    let found = left name xs is_name are in
    names_here row called 0 name found.0 x once is_name (two (names_sketch found.0) found.1) e ∙ found.2

names_none : (row : Row) (P : Type 0) (ys : Named) (x : ℕ × ℕ × ℕ) → TellsTwo row (names_sketch ys) (Some x) →
    Two row x.2 None → P
names_none row P [] x told two = absurd told
names_none row P (y ∷ ys) x told two = absurd (two (Join 0 (Leaf 0 [] ((y.1, y.1) ∷ [])) (names_sketch ys)) told.2)

pub names_cut : (row : Row) (called names at : ℕ) (x : ℕ × ℕ × ℕ) → NamesLeft row called names at →
    Two row at (Some x) → Two row x.2 None → (name : List ℕ) (xs : Named) →
    IsSketchNumber row (Leaf 0 name []) called → IsSketchNumber row (names_sketch xs) names → false ≡ names_one name xs
names_cut row called names at x left two gone name xs is_name are =
    let found = left name xs is_name are in
    names_none row (false ≡ names_one name xs) found.0 x (two (names_sketch found.0) found.1) gone

names_on : (row : Row) (called : ℕ) (name : List ℕ) (all : Bool) (ys : Named) (x z : ℕ × ℕ × ℕ) → AreOnce row →
    IsSketchNumber row (Leaf 0 name []) called → TellsTwo row (names_sketch ys) (Some x) → Two row x.2 (Some z) →
    x.1 ≢ called → names_one name ys ≡ all →
    (rest : Named) × IsSketchNumber row (names_sketch rest) z.2 × (names_one name rest ≡ all)
names_on row called name all [] x z once is_name told two apart e = absurd told
names_on row called name all (y ∷ ys) x z once is_name told two apart e = (
  ys,
  (two (Join 0 (Leaf 0 [] ((y.1, y.1) ∷ [])) (names_sketch ys)) told.2).2,
  ap (λ b. b || names_one name ys) (sym (not_called row y.0 name x.1 called once told.1 is_name apart)) ∙ e,
)

pub names_more : (row : Row) (called names at : ℕ) (x z : ℕ × ℕ × ℕ) → AreOnce row → NamesLeft row called names at →
    Two row at (Some x) → Two row x.2 (Some z) → x.1 ≢ called → NamesLeft row called names z.2
names_more row called names at x z once left two behind apart = λ name xs is_name are.
    let found = left name xs is_name are in
    names_on row called name (names_one name xs) found.0 x z once is_name (two (names_sketch found.0) found.1) behind
    apart found.2

-- ---- components

abbrev pub PartsLeft : Row → ℕ → ℕ → ℕ → Type 0
PartsLeft row called parts at = (name : List ℕ) (keys : PartKeys) → IsSketchNumber row (Leaf 0 name []) called →
    IsSketchNumber row (parts_sketch keys) parts →
    (left : PartKeys) × IsSketchNumber row (parts_sketch left) at × (part_key name left ≡ part_key name keys)

pub parts_first : (row : Row) (called parts : ℕ) → PartsLeft row called parts parts
parts_first row called parts = λ name keys is_name are. (keys, are, refl)

-- what is told of the component of a name
abbrev pub TellsPart : Row → ℕ → ℕ → Option ℕ → Type 0
TellsPart row called parts told = (name : List ℕ) (keys : PartKeys) → IsSketchNumber row (Leaf 0 name []) called →
    IsSketchNumber row (parts_sketch keys) parts → TellsComponent row (part_key name keys) told

parts_end : (row : Row) (name : List ℕ) (left : PartKeys) → TellsTwo row (parts_sketch left) None →
    TellsComponent row (part_key name left) None
parts_end row name NoKeys told = tt
parts_end row name (PartKey its of optional default rest) told = absurd told

pub parts_past : (row : Row) (called parts at : ℕ) → PartsLeft row called parts at → Two row at None →
    TellsPart row called parts None
parts_past row called parts at so_far two name keys is_name are =
    let found = so_far name keys is_name are in
    subst (λ k. TellsComponent row k None) found.2
    (parts_end row name found.0 (two (parts_sketch found.0) found.1))

parts_none : (row : Row) (P : Type 0) (left : PartKeys) (x : ℕ × ℕ × ℕ) → TellsTwo row (parts_sketch left) (Some x) →
    Two row x.2 None → P
parts_none row P NoKeys x told two = absurd told
parts_none row P (PartKey its of optional default rest) x told two =
    absurd (two (Join 0 (key_sketch of) (parts_sketch rest)) told.2)

pub parts_cut : (row : Row) (called parts at : ℕ) (x : ℕ × ℕ × ℕ) → PartsLeft row called parts at →
    Two row at (Some x) → Two row x.2 None → TellsPart row called parts None
parts_cut row called parts at x so_far two gone name keys is_name are =
    let found = so_far name keys is_name are in
    parts_none row (TellsComponent row (part_key name keys) None) found.0 x (two (parts_sketch found.0) found.1) gone

parts_here : (row : Row) (called : ℕ) (name : List ℕ) (left : PartKeys) (x z : ℕ × ℕ × ℕ) → AreOnce row →
    IsSketchNumber row (Leaf 0 name []) called → TellsTwo row (parts_sketch left) (Some x) → Two row x.2 (Some z) →
    x.1 ≡ called → TellsComponent row (part_key name left) (Some z.1)
parts_here row called name NoKeys x z once is_name told two e = absurd told
parts_here row called name (PartKey its of optional default rest) x z once is_name told two e =
    subst (λ b. TellsComponent row (if b then Some of else part_key name rest) (Some z.1))
    (sym (is_called row its name x.1 called once told.1 is_name e))
    (two (Join 0 (key_sketch of) (parts_sketch rest)) told.2).1

pub parts_found : (row : Row) (called parts at : ℕ) (x z : ℕ × ℕ × ℕ) → AreOnce row → PartsLeft row called parts at →
    Two row at (Some x) → Two row x.2 (Some z) → x.1 ≡ called → TellsPart row called parts (Some z.1)
parts_found row called parts at x z once so_far two behind e name keys is_name are =
    let found = so_far name keys is_name are in
    subst (λ k. TellsComponent row k (Some z.1)) found.2
    (parts_here row called name found.0 x z once is_name (two (parts_sketch found.0) found.1) behind e)

parts_on : (row : Row) (called : ℕ) (name : List ℕ) (all : Option TypeKey) (left : PartKeys) (x z : ℕ × ℕ × ℕ) →
    AreOnce row → IsSketchNumber row (Leaf 0 name []) called → TellsTwo row (parts_sketch left) (Some x) →
    Two row x.2 (Some z) → x.1 ≢ called → part_key name left ≡ all →
    (rest : PartKeys) × IsSketchNumber row (parts_sketch rest) z.2 × (part_key name rest ≡ all)
parts_on row called name all NoKeys x z once is_name told two apart e = absurd told
parts_on row called name all (PartKey its of optional default rest) x z once is_name told two apart e = (
  rest,
  (two (Join 0 (key_sketch of) (parts_sketch rest)) told.2).2,
  ap (λ b. if b then Some of else part_key name rest)
      (sym (not_called row its name x.1 called once told.1 is_name apart)) ∙ e,
)

pub parts_more : (row : Row) (called parts at : ℕ) (x z : ℕ × ℕ × ℕ) → AreOnce row → PartsLeft row called parts at →
    Two row at (Some x) → Two row x.2 (Some z) → x.1 ≢ called → PartsLeft row called parts z.2
parts_more row called parts at x z once so_far two behind apart = λ name keys is_name are.
    let found = so_far name keys is_name are in
    parts_on row called name (part_key name keys) found.0 x z once is_name (two (parts_sketch found.0) found.1) behind
    apart found.2

-- ---- of a type under tags

pub component_beneath : (name : List ℕ) (key : TypeKey) → component_key name (beneath_key key) ≡ component_key name key
component_beneath name (TaggedKey tag explicit of) = component_beneath name of
component_beneath name _ = refl

not_these : (kind form : ℕ) → (kind == 6) ≡ false → (kind == 7) ≡ false → form ≡ kind → (form ≡ 6) ⊎ (form ≡ 7) → ⊥
not_these kind form six seven e (inl h) = true≢false (sym (ap (λ n. n == 6) (sym e ∙ h)) ∙ six)
not_these kind form six seven e (inr h) = true≢false (sym (ap (λ n. n == 7) (sym e ∙ h)) ∙ seven)

-- the parts of a SEQUENCE or SET
pub component_told : (row : Row) (called : ℕ) (name : List ℕ) (key : TypeKey) (x : ℕ × ℕ × ℕ) (told : Option ℕ) →
    IsSketchNumber row (Leaf 0 name []) called → TellsTwo row (key_sketch key) (Some x) →
    (x.0 ≡ 6) ⊎ (x.0 ≡ 7) → TellsPart row called x.2 told → TellsComponent row (component_key name key) told
component_told row called name (SequenceKey keys) x told is_name two form part = part name keys is_name two.2
component_told row called name (SetKey keys) x told is_name two form part = part name keys is_name two.2
component_told row called name (IntegerKey names bounds) x told is_name two form part =
    absurd (not_these 2 x.0 refl refl two.0 form)
component_told row called name (EnumeratedKey names) x told is_name two form part =
    absurd (not_these 3 x.0 refl refl two.0 form)
component_told row called name (BitStringKey names bounds) x told is_name two form part =
    absurd (not_these 4 x.0 refl refl two.0 form)
component_told row called name (TextKey charset bounds) x told is_name two form part =
    absurd (not_these 5 x.0 refl refl two.0 form)
component_told row called name (ChoiceKey keys) x told is_name two form part =
    absurd (not_these 8 x.0 refl refl two.0 form)
component_told row called name (SequenceOfKey of bounds) x told is_name two form part =
    absurd (not_these 9 x.0 refl refl two.0 form)
component_told row called name (SetOfKey of bounds) x told is_name two form part =
    absurd (not_these 10 x.0 refl refl two.0 form)
component_told row called name (TaggedKey tag explicit of) x told is_name two form part =
    absurd (not_these 11 x.0 refl refl two.0 form)
component_told row called name BooleanKey x told is_name two form part = absurd two
component_told row called name NullKey x told is_name two form part = absurd two
component_told row called name IdentifierKey x told is_name two form part = absurd two
component_told row called name TimeKey x told is_name two form part = absurd two
component_told row called name AnyKey x told is_name two form part = absurd two
component_told row called name FilterKey x told is_name two form part = absurd two
component_told row called name (OctetStringKey bounds) x told is_name two form part = absurd two

-- those that have no parts have no components
pub component_none : (row : Row) (name : List ℕ) (key : TypeKey) → TellsTwo row (key_sketch key) None →
    TellsComponent row (component_key name key) None
component_none row name BooleanKey two = tt
component_none row name NullKey two = tt
component_none row name IdentifierKey two = tt
component_none row name TimeKey two = tt
component_none row name AnyKey two = tt
component_none row name FilterKey two = tt
component_none row name (OctetStringKey bounds) two = tt
component_none row name _ two = absurd two

-- nor has what isn't a SEQUENCE or SET, where tags are gone past
pub component_other : (row : Row) (name : List ℕ) (key : TypeKey) (x : ℕ × ℕ × ℕ) → is_tag_key key ≡ false →
    TellsTwo row (key_sketch key) (Some x) → x.0 ≢ 6 → x.0 ≢ 7 → TellsComponent row (component_key name key) None
component_other row name (SequenceKey keys) x bare two six seven = absurd (six two.0)
component_other row name (SetKey keys) x bare two six seven = absurd (seven two.0)
component_other row name (TaggedKey tag explicit of) x bare two six seven = absurd (true≢false bare)
component_other row name (IntegerKey names bounds) x bare two six seven = tt
component_other row name (EnumeratedKey names) x bare two six seven = tt
component_other row name (BitStringKey names bounds) x bare two six seven = tt
component_other row name (TextKey charset bounds) x bare two six seven = tt
component_other row name (ChoiceKey keys) x bare two six seven = tt
component_other row name (SequenceOfKey of bounds) x bare two six seven = tt
component_other row name (SetOfKey of bounds) x bare two six seven = tt
component_other row name _ x bare two six seven = absurd two

-- ---- numbers of a name

pub number_beneath : (name : List ℕ) (key : TypeKey) → has_number_key name (beneath_key key) ≡ has_number_key name key
number_beneath name (TaggedKey tag explicit of) = number_beneath name of
number_beneath name _ = refl

-- what is told of the names
abbrev pub TellsNames : Row → ℕ → ℕ → Bool → Type 0
TellsNames row called names told = (name : List ℕ) (xs : Named) → IsSketchNumber row (Leaf 0 name []) called →
    IsSketchNumber row (names_sketch xs) names → told ≡ names_one name xs

not_those : (kind form : ℕ) → (kind == 2) ≡ false → (kind == 3) ≡ false → form ≡ kind → (form ≡ 2) ⊎ (form ≡ 3) → ⊥
not_those kind form two three e (inl h) = true≢false (sym (ap (λ n. n == 2) (sym e ∙ h)) ∙ two)
not_those kind form two three e (inr h) = true≢false (sym (ap (λ n. n == 3) (sym e ∙ h)) ∙ three)

pub number_told : (row : Row) (called : ℕ) (name : List ℕ) (key : TypeKey) (x : ℕ × ℕ × ℕ) (told : Bool) →
    IsSketchNumber row (Leaf 0 name []) called → TellsTwo row (key_sketch key) (Some x) →
    (x.0 ≡ 2) ⊎ (x.0 ≡ 3) → TellsNames row called x.2 told → told ≡ has_number_key name key
number_told row called name (IntegerKey names bounds) x told is_name two form tells = tells name names is_name two.2
number_told row called name (EnumeratedKey names) x told is_name two form tells = tells name names is_name two.2
number_told row called name (BitStringKey names bounds) x told is_name two form tells =
    absurd (not_those 4 x.0 refl refl two.0 form)
number_told row called name (TextKey charset bounds) x told is_name two form tells =
    absurd (not_those 5 x.0 refl refl two.0 form)
number_told row called name (SequenceKey keys) x told is_name two form tells =
    absurd (not_those 6 x.0 refl refl two.0 form)
number_told row called name (SetKey keys) x told is_name two form tells = absurd (not_those 7 x.0 refl refl two.0 form)
number_told row called name (ChoiceKey keys) x told is_name two form tells =
    absurd (not_those 8 x.0 refl refl two.0 form)
number_told row called name (SequenceOfKey of bounds) x told is_name two form tells =
    absurd (not_those 9 x.0 refl refl two.0 form)
number_told row called name (SetOfKey of bounds) x told is_name two form tells =
    absurd (not_those 10 x.0 refl refl two.0 form)
number_told row called name (TaggedKey tag explicit of) x told is_name two form tells =
    absurd (not_those 11 x.0 refl refl two.0 form)
number_told row called name BooleanKey x told is_name two form tells = absurd two
number_told row called name NullKey x told is_name two form tells = absurd two
number_told row called name IdentifierKey x told is_name two form tells = absurd two
number_told row called name TimeKey x told is_name two form tells = absurd two
number_told row called name AnyKey x told is_name two form tells = absurd two
number_told row called name FilterKey x told is_name two form tells = absurd two
number_told row called name (OctetStringKey bounds) x told is_name two form tells = absurd two

pub number_none : (row : Row) (name : List ℕ) (key : TypeKey) → TellsTwo row (key_sketch key) None →
    false ≡ has_number_key name key
number_none row name BooleanKey two = refl
number_none row name NullKey two = refl
number_none row name IdentifierKey two = refl
number_none row name TimeKey two = refl
number_none row name AnyKey two = refl
number_none row name FilterKey two = refl
number_none row name (OctetStringKey bounds) two = refl
number_none row name _ two = absurd two

pub number_other : (row : Row) (name : List ℕ) (key : TypeKey) (x : ℕ × ℕ × ℕ) → is_tag_key key ≡ false →
    TellsTwo row (key_sketch key) (Some x) → x.0 ≢ 2 → x.0 ≢ 3 → false ≡ has_number_key name key
number_other row name (IntegerKey names bounds) x bare two first second = absurd (first two.0)
number_other row name (EnumeratedKey names) x bare two first second = absurd (second two.0)
number_other row name (TaggedKey tag explicit of) x bare two first second = absurd (true≢false bare)
number_other row name (BitStringKey names bounds) x bare two first second = refl
number_other row name (TextKey charset bounds) x bare two first second = refl
number_other row name (SequenceKey keys) x bare two first second = refl
number_other row name (SetKey keys) x bare two first second = refl
number_other row name (ChoiceKey keys) x bare two first second = refl
number_other row name (SequenceOfKey of bounds) x bare two first second = refl
number_other row name (SetOfKey of bounds) x bare two first second = refl
number_other row name _ x bare two first second = absurd two
