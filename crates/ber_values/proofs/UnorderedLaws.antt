-- One component of a SET more has been read.
use Rattle.std.proofs.Common.{◌≡◌, ◌≤◌, ◌<◌, ◌+◌, ℕ, zero, suc, Bool, true, false, cond, not, length, take, drop}
use Rattle.std.proofs.Common.{get_or, set, replicate, arith, take_all, List, [], ◌∷◌, ◌++◌, Option, None, Some, refl}
use Rattle.std.proofs.Common.{ap, sym, ◌∙◌}
use Rattle.std.proofs.lemmas.List.{append-nil}
use Rattle.std.specs.Prelude.{option_map, option_and_then}
use Rattle.ber_values.specs.Left.{slot_left_out, slot_before, slots_before, left_of, slot_by, next_slot}
use Rattle.ber_values.proofs.DecodingLaws.{left_out_is, nothing_left, nothing_left_out, slot_read}
use Rattle.term_values.specs.Beginnings.{begins}
use Rattle.term_values.specs.Decoding.{denoted, unordered_in, left_out, taken_out, where_taken}
use Rattle.term_values.specs.LeafReading.{no_trees}
use Rattle.term_values.specs.PartsView.{parts_listed}
use Rattle.term_values.specs.Syntaxes.TypeParts.{NoParts}
use Rattle.term_values.specs.Tree.{TreeValue, TreeValues, listed as trees_listed}
use Rattle.term_values.specs.Tree.TreeValues.{Nothing as NoTrees, Then as AndTrees}
use Rattle.term_values.specs.TreeTags.{tag_of}
use Rattle.term_values.specs.Typed.{TypedValue, TypedSlots}
use Rattle.term_values.specs.Typed.TypedSlots.{NoSlots, Filled}
use Rattle.term_values.specs.declared.syntax.Part.{Part}
use Rattle.term_values.specs.declared.tag.Tag.{Tag}
use Rattle.term_values.specs.declared.value.Slot.{Slot}
use Rattle.term_values.specs.declared.value.Slot.TheVariants.{Absent, Present}

-- what the others hold behind the first component
abbrev behind : List Part → Option (Slot × TreeValues) → Option TypedSlots
behind rest next = option_and_then (λ (r : Slot × TreeValues). option_map (slot_before r.0) (unordered_in
    (parts_listed rest) r.1)) next

read_one : (part : Part) (rest : List Part) (x : TreeValue) (others : TreeValues) (o : Option TypedValue)
    → option_and_then (λ v. option_map (Filled v) (unordered_in (parts_listed rest) others)) o
    ≡ behind rest (option_map (λ v. (Present v, others)) o)
read_one part rest x others None = refl
read_one part rest x others (Some v) = refl

leave_one : (part : Part) (rest : List Part) (trees : TreeValues) (o : Option Slot)
    → slot_left_out part.optional part.default ≡ o
    → left_out part.optional part.default (unordered_in (parts_listed rest) trees)
    ≡ behind rest (option_map (λ slot. (slot, trees)) o)
leave_one part rest trees None e = nothing_left_out part.optional part.default (unordered_in
    (parts_listed rest) trees) e
leave_one part rest trees (Some slot) e =
    left_out_is part.optional part.default slot (unordered_in (parts_listed rest) trees) e

by_taken : (part : Part) (rest : List Part) (trees : TreeValues) (o : Option (TreeValue × TreeValues))
    → where_taken o (λ x others. option_and_then (λ v. option_map (Filled v) (unordered_in
    (parts_listed rest) others)) (denoted false part.syntax x))
    (left_out part.optional part.default (unordered_in (parts_listed rest) trees))
    ≡ behind rest (slot_by o (denoted false part.syntax) (option_map (λ slot. (slot, trees))
    (slot_left_out part.optional part.default)))
by_taken part rest trees None = leave_one part rest trees (slot_left_out part.optional part.default) refl
by_taken part rest trees (Some taken) = read_one part rest taken.0 taken.1 (denoted false part.syntax taken.0)

one_component : (part : Part) (rest : List Part) (trees : TreeValues)
    → unordered_in (parts_listed (part ∷ rest)) trees ≡ behind rest (next_slot part trees)
one_component part rest trees = by_taken part rest trees (taken_out (begins part.syntax) trees)

pub component_read : (before : List Slot) (part : Part) (left rest : List Part) (trees others : TreeValues)
    (slot : Slot)
    → left ≡ part ∷ rest → next_slot part trees ≡ Some (slot, others)
    → option_map (slots_before before) (unordered_in (parts_listed left) trees)
    ≡ option_map (slots_before (before ++ slot ∷ [])) (unordered_in (parts_listed rest) others)
component_read before part left rest trees others slot e is =
    rw e (ap (option_map (slots_before before)) (one_component part rest trees ∙ ap (behind rest) is)
    ∙ slot_read before slot (unordered_in (parts_listed rest) others))

pub component_missing : (before : List Slot) (part : Part) (left rest : List Part) (trees : TreeValues)
    → left ≡ part ∷ rest → next_slot part trees ≡ None
    → option_map (slots_before before) (unordered_in (parts_listed left) trees) ≡ None
component_missing before part left rest trees e is =
    rw e (ap (option_map (slots_before before)) (one_component part rest trees ∙ ap (behind rest) is))

pub none_left : (trees : TreeValues) → no_trees trees ≡ true → unordered_in NoParts trees ≡ Some NoSlots
none_left NoTrees e = refl
none_left (AndTrees x xs) e = absurd (cc)

pub some_left_over : (trees : TreeValues) → no_trees trees ≡ false → unordered_in NoParts trees ≡ None
some_left_over NoTrees e = absurd (cc)
some_left_over (AndTrees x xs) e = refl

pub all_left : (xs : List TreeValue) → left_of (replicate (length xs) false) xs ≡ trees_listed xs
all_left [] = refl
all_left (x ∷ xs) = ap (AndTrees x) (all_left xs)

-- the first tree that isn't taken and may begin the component
pub found_at : (starts : Tag → Bool) (bs : List Bool) (xs : List TreeValue) (k : ℕ) (d : TreeValue)
    → length bs ≡ length xs
    → k < length xs → get_or bs k true ≡ false → starts (tag_of (get_or xs k d)) ≡ true
    → ((j : ℕ) → j < k → get_or bs j true ≡ false → starts (tag_of (get_or xs j d)) ≡ false)
    → taken_out starts (left_of bs xs) ≡ Some (get_or xs k d, left_of (set bs k true) xs)
found_at starts [] [] k d l h free begun before = absurd (omega arith)
found_at starts [] (x ∷ xs) k d l h free begun before = absurd (omega arith)
found_at starts (b ∷ bs) [] k d l h free begun before = absurd (omega arith)
found_at starts (true ∷ bs) (x ∷ xs) zero d l h free begun before = absurd (cc)
found_at starts (false ∷ bs) (x ∷ xs) zero d l h free begun before = rw begun refl
found_at starts (true ∷ bs) (x ∷ xs) (suc k) d l h free begun before =
    found_at starts bs xs k d (omega arith) (omega arith) free begun (λ j p f. before (suc j) (omega arith) f)
found_at starts (false ∷ bs) (x ∷ xs) (suc k) d l h free begun before =
    let first : starts (tag_of x) ≡ false = before 0 (omega arith) refl in
    rw (
      first,
      found_at starts bs xs k d (omega arith) (omega arith) free begun (λ j p f. before (suc j)
          (omega arith) f),
    ) refl

pub found_nowhere : (starts : Tag → Bool) (bs : List Bool) (xs : List TreeValue) (d : TreeValue) → length bs ≡ length xs
    → ((j : ℕ) → j < length xs → get_or bs j true ≡ false → starts (tag_of (get_or xs j d)) ≡ false)
    → taken_out starts (left_of bs xs) ≡ None
found_nowhere starts [] [] d l before = refl
found_nowhere starts [] (x ∷ xs) d l before = absurd (omega arith)
found_nowhere starts (b ∷ bs) [] d l before = absurd (omega arith)
found_nowhere starts (true ∷ bs) (x ∷ xs) d l before =
    found_nowhere starts bs xs d (omega arith) (λ j p f. before (suc j) (omega arith) f)
found_nowhere starts (false ∷ bs) (x ∷ xs) d l before =
    let first : starts (tag_of x) ≡ false = before 0 (omega arith) refl in
    rw (first, found_nowhere starts bs xs d (omega arith) (λ j p f. before (suc j) (omega arith) f)) refl

-- whether some tree isn't taken
pub one_free : (bs : List Bool) (xs : List TreeValue) (k : ℕ) → length bs ≡ length xs → k < length xs
    → get_or bs k true ≡ false → no_trees (left_of bs xs) ≡ false
one_free [] [] k l h free = absurd (omega arith)
one_free [] (x ∷ xs) k l h free = absurd (omega arith)
one_free (b ∷ bs) [] k l h free = absurd (omega arith)
one_free (true ∷ bs) (x ∷ xs) zero l h free = absurd (cc)
one_free (false ∷ bs) (x ∷ xs) zero l h free = refl
one_free (true ∷ bs) (x ∷ xs) (suc k) l h free = one_free bs xs k (omega arith) (omega arith) free
one_free (false ∷ bs) (x ∷ xs) (suc k) l h free = refl

pub none_free : (bs : List Bool) (xs : List TreeValue) → length bs ≡ length xs
    → ((j : ℕ) → j < length xs → get_or bs j true ≡ true) → no_trees (left_of bs xs) ≡ true
none_free [] [] l h = refl
none_free [] (x ∷ xs) l h = absurd (omega arith)
none_free (b ∷ bs) [] l h = absurd (omega arith)
none_free (true ∷ bs) (x ∷ xs) l h = none_free bs xs (omega arith) (λ j p. h (suc j) (omega arith))
none_free (false ∷ bs) (x ∷ xs) l h = absurd (let e = h 0 (omega arith) in cc)

-- no tree begins the component, or one does
pub next_absent : (part : Part) (trees : TreeValues) → taken_out (begins part.syntax) trees ≡ None
    → next_slot part trees ≡ option_map (λ slot. (slot, trees)) (slot_left_out part.optional part.default)
next_absent part trees e = rw e refl

pub next_present : (part : Part) (trees : TreeValues) (x : TreeValue) (others : TreeValues)
    → taken_out (begins part.syntax) trees ≡ Some (x, others)
    → next_slot part trees ≡ option_map (λ v. (Present v, others)) (denoted false part.syntax x)
next_present part trees x others e = rw e refl

pub nothing_before : (o : Option TypedSlots) → option_map (slots_before []) o ≡ o
nothing_before None = refl
nothing_before (Some slots) = refl

-- a slice that is lent and comes back
pub put_back : (xs ys : List Bool) (n : ℕ) → length ys ≡ length xs → n ≡ length xs
    → take n (ys ++ drop (length ys) xs) ≡ ys
put_back xs ys n e f =
    let none : drop (length ys) xs ≡ [] = nothing_left xs (length ys) (omega arith) in
    ap (λ zs. take n (ys ++ zs)) none ∙ ap (take n) (append-nil ys) ∙ take_all n ys (omega arith)

pub is_true : (b : Bool) → false ≡ not b → b ≡ true
is_true true e = refl
is_true false e = absurd (cc)

pub is_free : (b : Bool) → not b ≡ true → b ≡ false
is_free true e = absurd (cc)
is_free false e = refl
