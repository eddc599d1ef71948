-- QueryLaws: what the number of a type tells of it: what stands beneath its tags, its names and its components.
use Rattle.std.proofs.Common.{◌≡◌, ◌<◌, ◌≤◌, ◌==◌, ◌∙◌, ℕ, suc, zero, Bool, true, false, Option, None, Some, arith, ap, refl, sym, true≢false}
use Rattle.std.proofs.Math.Path.{subst}
use Rattle.std.proofs.lemmas.Bool.{eqb-true}
use Rattle.std.specs.List.{slice_get}
use Rattle.term_values.specs.Sketch.{Sketch}
use Rattle.term_values.specs.Sketch.Sketch.{Leaf, Join}
use Rattle.key_numbers.specs.ComponentKeys.{beneath_key, is_integer_key, is_tag_key}
use Rattle.key_numbers.specs.KeyNumbers.{IsKeyNumber, IsSketchNumber, TellsTwo, key_sketch}
use Rattle.key_numbers.specs.KeyNumbers.IsSketchNumber.{leaf, join}
use Rattle.key_numbers.specs.NumberedLists.{Row}
use Rattle.key_numbers.specs.TypeKeys.{TypeKey}
use Rattle.key_numbers.specs.TypeKeys.TypeKey.{BooleanKey, IntegerKey, EnumeratedKey, BitStringKey, OctetStringKey}
use Rattle.key_numbers.specs.TypeKeys.TypeKey.{NullKey, IdentifierKey, TextKey, TimeKey, SequenceKey, SetKey}
use Rattle.key_numbers.specs.TypeKeys.TypeKey.{SequenceOfKey, SetOfKey, ChoiceKey, TaggedKey, AnyKey, FilterKey}

-- ---- two that are joined

none_told : (row : Row) (x : ℕ × ℕ × ℕ) (k : ℕ) → slice_get row k ≡ Some x → slice_get row k ≡ None → ⊥
none_told row x k h g = absurd (cc)

pub two_of_none : (row : Row) (n : ℕ) → ((k : ℕ) → n ≡ suc k → slice_get row k ≡ None) → (s : Sketch) →
    IsSketchNumber row s n → TellsTwo row s None
two_of_none row n none s (leaf {k = k} {list = list} is h) = absurd (none_told row (1, list, 0) k is (none k refl))
two_of_none row n none s (join {kind = kind} {k = k} {x = x} {y = y} is h i) =
    absurd (none_told row (suc (suc kind), x, y) k is (none k refl))

abbrev three_of : Option (ℕ × ℕ × ℕ) → ℕ × ℕ × ℕ
three_of None = (0, 0, 0)
three_of (Some x) = x

abbrev less_one : ℕ → ℕ
less_one zero = 0
less_one (suc n) = n

same_form : (row : Row) (k j : ℕ) (x y : ℕ × ℕ × ℕ) → suc k ≡ suc j → slice_get row k ≡ Some x →
    slice_get row j ≡ Some y → x ≡ y
same_form row k j x y e h g = ap three_of (sym h ∙ (ap (λ n. slice_get row (less_one n)) e ∙ g))

pub two_of_leaf : (row : Row) (n k form one other : ℕ) → n ≡ suc k → slice_get row k ≡ Some (form, one, other) →
    form < 2 → (s : Sketch) → IsSketchNumber row s n → TellsTwo row s None
two_of_leaf row n k form one other is there few s (leaf its h) = tt
two_of_leaf row n k form one other is there few s (join {kind = kind} {k = j} {x = x} {y = y} its h i) =
    let same = same_form row j k (suc (suc kind), x, y) (form, one, other) is its there in
    let forms : suc (suc kind) ≡ form = ap (λ (z : ℕ × ℕ × ℕ). z.0) same in absurd (omega (arith, forms, few))

pub two_of_join : (row : Row) (n k form one other : ℕ) → n ≡ suc k → slice_get row k ≡ Some (form, one, other) →
    2 ≤ form → (s : Sketch) → IsSketchNumber row s n → TellsTwo row s (Some (form, one, other))
two_of_join row n k form one other is there many s (leaf {k = j} {list = list} its h) =
    let same = same_form row j k (1, list, 0) (form, one, other) is its there in
    let forms : ◌≡◌ {A = ℕ} 1 form = ap (λ (z : ℕ × ℕ × ℕ). z.0) same in absurd (omega (arith, forms, many))
two_of_join row n k form one other is there many s
    (join {kind = kind} {k = j} {x = x} {y = y} {one = a} {other = b} its h i) =
    let same = same_form row j k (suc (suc kind), x, y) (form, one, other) is its there in (
      sym (ap (λ (z : ℕ × ℕ × ℕ). z.0) same),
      subst (λ z. IsSketchNumber row a z) (ap (λ (z : ℕ × ℕ × ℕ). z.1) same) h,
      subst (λ z. IsSketchNumber row b z) (ap (λ (z : ℕ × ℕ × ℕ). z.2) same) i,
    )

-- ---- what stands beneath tags

abbrev form_of : Sketch → ℕ
form_of (Leaf kind octets pairs) = 1
form_of (Join kind one other) = suc (suc kind)

form_told : (row : Row) (s : Sketch) (x : ℕ × ℕ × ℕ) → TellsTwo row s (Some x) → x.0 ≡ form_of s
form_told row (Leaf kind octets pairs) x told = absurd told
form_told row (Join kind one other) x told = told.0

tag_form : (key : TypeKey) → (form_of (key_sketch key) == 11) ≡ is_tag_key key
tag_form BooleanKey = refl
tag_form NullKey = refl
tag_form IdentifierKey = refl
tag_form TimeKey = refl
tag_form AnyKey = refl
tag_form FilterKey = refl
tag_form (OctetStringKey bounds) = refl
tag_form (IntegerKey names bounds) = refl
tag_form (EnumeratedKey names) = refl
tag_form (BitStringKey names bounds) = refl
tag_form (TextKey charset bounds) = refl
tag_form (SequenceKey keys) = refl
tag_form (SetKey keys) = refl
tag_form (ChoiceKey keys) = refl
tag_form (SequenceOfKey of bounds) = refl
tag_form (SetOfKey of bounds) = refl
tag_form (TaggedKey tag explicit of) = refl

integer_form : (key : TypeKey) → is_tag_key key ≡ false → (form_of (key_sketch key) == 2) ≡ is_integer_key key
integer_form BooleanKey bare = refl
integer_form NullKey bare = refl
integer_form IdentifierKey bare = refl
integer_form TimeKey bare = refl
integer_form AnyKey bare = refl
integer_form FilterKey bare = refl
integer_form (OctetStringKey bounds) bare = refl
integer_form (IntegerKey names bounds) bare = refl
integer_form (EnumeratedKey names) bare = refl
integer_form (BitStringKey names bounds) bare = refl
integer_form (TextKey charset bounds) bare = refl
integer_form (SequenceKey keys) bare = refl
integer_form (SetKey keys) bare = refl
integer_form (ChoiceKey keys) bare = refl
integer_form (SequenceOfKey of bounds) bare = refl
integer_form (SetOfKey of bounds) bare = refl
integer_form (TaggedKey tag explicit of) bare = absurd (true≢false bare)

untagged : (key : TypeKey) → is_tag_key key ≡ false → beneath_key key ≡ key
untagged (TaggedKey tag explicit of) bare = absurd (true≢false bare)
untagged _ bare = refl

pub bare_beneath : (key : TypeKey) → is_tag_key (beneath_key key) ≡ false
bare_beneath (TaggedKey tag explicit of) = bare_beneath of
bare_beneath _ = refl

integer_beneath : (key : TypeKey) → is_integer_key (beneath_key key) ≡ is_integer_key key
integer_beneath (TaggedKey tag explicit of) = integer_beneath of
integer_beneath _ = refl

-- the number is that of a type from which only tags were taken
abbrev pub IsBeneath : Row → ℕ → ℕ → Type 0
IsBeneath row number at = (key : TypeKey) → IsKeyNumber row key number →
    (k : TypeKey) × IsKeyNumber row k at × (beneath_key k ≡ beneath_key key)

pub beneath_first : (row : Row) (number : ℕ) → IsBeneath row number number
beneath_first row number = λ key is. (key, is, refl)

inner : (row : Row) (key : TypeKey) (x : ℕ × ℕ × ℕ) → is_tag_key key ≡ true → TellsTwo row (key_sketch key) (Some x) →
    (k : TypeKey) × IsKeyNumber row k x.2 × (beneath_key k ≡ beneath_key key)
inner row (TaggedKey tag explicit of) x e told = (of, told.2, refl)
inner row _ x e told = absurd (true≢false (sym e))

pub beneath_more : (row : Row) (number at : ℕ) (x : ℕ × ℕ × ℕ) → IsBeneath row number at →
    ((s : Sketch) → IsSketchNumber row s at → TellsTwo row s (Some x)) → x.0 ≡ 11 → IsBeneath row number x.2
beneath_more row number at x so_far two form = λ key is.
    let found = so_far key is in
    let told = two (key_sketch found.0) found.1 in
    let tag : is_tag_key found.0 ≡ true = sym (tag_form found.0) ∙
    ap (λ n. n == 11) (sym (form_told row (key_sketch found.0) x told) ∙ form) in
    let under = inner row found.0 x tag told in (under.0, under.1, under.2 ∙ found.2)

by_test : (b : Bool) → (b ≡ true → ⊥) → b ≡ false
by_test true h = absurd (h refl)
by_test false h = refl

not_eleven : (n : ℕ) → (n ≡ 11 → ⊥) → (n == 11) ≡ false
not_eleven n h = by_test (n == 11) (λ e. h (eqb-true n 11 e))

end_at : (row : Row) (number at : ℕ) → IsBeneath row number at →
    ((k : TypeKey) → IsKeyNumber row k at → is_tag_key k ≡ false) → (key : TypeKey) → IsKeyNumber row key number →
    IsKeyNumber row (beneath_key key) at
end_at row number at so_far bare key is =
    let found = so_far key is in
    subst (λ k. IsKeyNumber row k at) (sym (untagged found.0 (bare found.0 found.1)) ∙ found.2) found.1

pub beneath_end : (row : Row) (number at : ℕ) (x : ℕ × ℕ × ℕ) → IsBeneath row number at →
    ((s : Sketch) → IsSketchNumber row s at → TellsTwo row s (Some x)) → (x.0 ≡ 11 → ⊥) → (key : TypeKey) →
    IsKeyNumber row key number → IsKeyNumber row (beneath_key key) at
beneath_end row number at x so_far two form = end_at row number at so_far (λ k is.
    sym (tag_form k) ∙ (ap (λ n. n == 11) (sym (form_told row (key_sketch k) x (two (key_sketch k) is))) ∙
    not_eleven x.0 form))

none_bare : (row : Row) (key : TypeKey) → TellsTwo row (key_sketch key) None → is_tag_key key ≡ false
none_bare row (TaggedKey tag explicit of) told = absurd told
none_bare row _ told = refl

pub beneath_leaf : (row : Row) (number at : ℕ) → IsBeneath row number at →
    ((s : Sketch) → IsSketchNumber row s at → TellsTwo row s None) → (key : TypeKey) → IsKeyNumber row key number →
    IsKeyNumber row (beneath_key key) at
beneath_leaf row number at so_far two = end_at row number at so_far (λ k is. none_bare row k (two (key_sketch k) is))

-- ---- INTEGER

none_no_integer : (row : Row) (key : TypeKey) → is_tag_key key ≡ false → TellsTwo row (key_sketch key) None →
    false ≡ is_integer_key key
none_no_integer row (IntegerKey names bounds) bare told = absurd told
none_no_integer row (TaggedKey tag explicit of) bare told = absurd told
none_no_integer row _ bare told = refl

pub integer_told : (row : Row) (at : ℕ) (x : ℕ × ℕ × ℕ) (key : TypeKey) → IsKeyNumber row (beneath_key key) at →
    ((s : Sketch) → IsSketchNumber row s at → TellsTwo row s (Some x)) → (x.0 == 2) ≡ is_integer_key key
integer_told row at x key is two =
    ap (λ n. n == 2) (form_told row (key_sketch (beneath_key key)) x (two (key_sketch (beneath_key key)) is)) ∙
    (integer_form (beneath_key key) (bare_beneath key) ∙ integer_beneath key)

pub no_integer_told : (row : Row) (at : ℕ) (key : TypeKey) → IsKeyNumber row (beneath_key key) at →
    ((s : Sketch) → IsSketchNumber row s at → TellsTwo row s None) → false ≡ is_integer_key key
no_integer_told row at key is two =
    none_no_integer row (beneath_key key) (bare_beneath key) (two (key_sketch (beneath_key key)) is) ∙
    integer_beneath key
