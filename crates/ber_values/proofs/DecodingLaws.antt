-- One member or one component more has been read.
use Rattle.std.proofs.Common.{◌≡◌, ◌≤◌, ◌<◌, ◌+◌, ℕ, zero, suc, Bool, true, false, cond, not, length, drop, get_or, set}
use Rattle.std.proofs.Common.{replicate, arith, List, [], ◌∷◌, ◌++◌, Option, None, Some, refl, ap, sym, ◌∙◌}
use Rattle.std.specs.Prelude.{option_map, option_and_then, if◌then◌else◌}
use Rattle.ber_values.specs.Left.{slot_left_out, next_begins, values_before, slot_before, slots_before, left_of}
use Rattle.ber_values.specs.Left.{slot_by, next_slot}
use Rattle.term_values.specs.Beginnings.{begins}
use Rattle.term_values.specs.Bounded.{allowed_size}
use Rattle.term_values.specs.Decoding.{denoted, members_in, parts_in, unordered_in, left_out, taken_out, where_taken}
use Rattle.term_values.specs.Decoding.{picked_in}
use Rattle.term_values.specs.Fits.{count}
use Rattle.term_values.specs.LeafReading.{no_trees}
use Rattle.term_values.specs.PartsView.{parts_listed}
use Rattle.term_values.specs.SlotsView.{slots_listed}
use Rattle.term_values.specs.Syntaxes.{TypeSyntax, TypeParts}
use Rattle.term_values.specs.Syntaxes.TypeParts.{NoParts}
use Rattle.term_values.specs.Tree.{TreeValue, TreeValues, listed as trees_listed}
use Rattle.term_values.specs.Tree.TreeValues.{Nothing as NoTrees, Then as AndTrees}
use Rattle.term_values.specs.TreeTags.{tag_of}
use Rattle.term_values.specs.Typed.{TypedValue, TypedValues, TypedSlots, listed}
use Rattle.term_values.specs.Typed.TypedSlots.{NoSlots, Filled, Empty}
use Rattle.term_values.specs.Typed.TypedValues.{Nothing, Then}
use Rattle.term_values.specs.declared.syntax.Part.{Part}
use Rattle.term_values.specs.declared.tag.Tag.{Tag}
use Rattle.term_values.specs.declared.value.Slot.{Slot}
use Rattle.term_values.specs.declared.value.Slot.TheVariants.{Absent, Present}

pub nothing_left : {T : Type 0} (xs : List T) (i : ℕ) → length xs ≤ i → drop i xs ≡ []
nothing_left [] zero h = refl
nothing_left [] (suc i) h = refl
nothing_left (x ∷ xs) zero h = absurd (omega arith)
nothing_left (x ∷ xs) (suc i) h = nothing_left xs i (omega arith)

-- ---- members

values_pushed : (xs : List TypedValue) (x : TypedValue) (rest : TypedValues)
    → values_before (xs ++ x ∷ []) rest ≡ values_before xs (Then x rest)
values_pushed [] x rest = refl
values_pushed (y ∷ ys) x rest = ap (Then y) (values_pushed ys x rest)

value_read : (xs : List TypedValue) (x : TypedValue) (rest : Option TypedValues)
    → option_map (values_before xs) (option_map (Then x) rest) ≡ option_map (values_before (xs ++ x ∷ [])) rest
value_read xs x None = refl
value_read xs x (Some rest) = rw (values_pushed xs x rest) refl

pub values_all : (xs : List TypedValue) → values_before xs Nothing ≡ listed xs
values_all [] = refl
values_all (x ∷ xs) = ap (Then x) (values_all xs)

-- one value more is a member
pub member_read : (member : TreeValue → Option TypedValue) (before : List TypedValue) (x : TreeValue)
    (left rest : List TreeValue) (v : TypedValue) → left ≡ x ∷ rest → member x ≡ Some v
    → option_map (values_before before) (members_in member (trees_listed left))
    ≡ option_map (values_before (before ++ v ∷ [])) (members_in member (trees_listed rest))
member_read member before x left rest v e is = rw (e, is) (value_read before v (members_in member (trees_listed rest)))

-- a value that is none
pub member_missing : (member : TreeValue → Option TypedValue) (before : List TypedValue) (x : TreeValue)
    (left rest : List TreeValue) → left ≡ x ∷ rest → member x ≡ None
    → option_map (values_before before) (members_in member (trees_listed left)) ≡ None
member_missing member before x left rest e is = rw (e, is) refl

pub count_listed : (xs : List TypedValue) → count (listed xs) ≡ length xs
count_listed [] = refl
count_listed (x ∷ xs) = omega (arith, count_listed xs)

-- ---- components

slots_pushed : (xs : List Slot) (x : Slot) (rest : TypedSlots)
    → slots_before (xs ++ x ∷ []) rest ≡ slots_before xs (slot_before x rest)
slots_pushed [] x rest = refl
slots_pushed (y ∷ ys) x rest = ap (slot_before y) (slots_pushed ys x rest)

pub slot_read : (xs : List Slot) (x : Slot) (rest : Option TypedSlots)
    → option_map (slots_before xs) (option_map (slot_before x) rest) ≡ option_map (slots_before (xs ++ x ∷ [])) rest
slot_read xs x None = refl
slot_read xs x (Some rest) = rw (slots_pushed xs x rest) refl

pub slots_all : (xs : List Slot) → slots_before xs NoSlots ≡ slots_listed xs
slots_all [] = refl
slots_all (Absent ∷ xs) = ap Empty (slots_all xs)
slots_all (Present x ∷ xs) = ap (Filled x) (slots_all xs)

pub left_out_is : (optional : Bool) (default : Option TypedValue) (slot : Slot) (rest : Option TypedSlots)
    → slot_left_out optional default ≡ Some slot → left_out optional default rest ≡ option_map (slot_before slot) rest
left_out_is optional (Some default) (Present v) rest is = let same : default ≡ v = cc in rw same refl
left_out_is optional (Some default) Absent rest is = absurd (cc)
left_out_is true None Absent rest is = refl
left_out_is true None (Present v) rest is = absurd (cc)
left_out_is false None slot rest is = absurd (cc)

pub nothing_left_out : (optional : Bool) (default : Option TypedValue) (rest : Option TypedSlots)
    → slot_left_out optional default ≡ None → left_out optional default rest ≡ None
nothing_left_out optional (Some default) rest is = absurd (cc)
nothing_left_out true None rest is = absurd (cc)
nothing_left_out false None rest is = refl

-- a component that is there
part_present : (part : Part) (rest : List Part) (x : TreeValue) (xs : List TreeValue) (v : TypedValue)
    → begins part.syntax (tag_of x) ≡ true → denoted false part.syntax x ≡ Some v
    → parts_in (parts_listed (part ∷ rest)) (trees_listed (x ∷ xs))
    ≡ option_map (slot_before (Present v)) (parts_in (parts_listed rest) (trees_listed xs))
part_present part rest x xs v begun is = rw (begun, is) refl

part_left_out : (part : Part) (rest : List Part) (xs : List TreeValue) (slot : Slot)
    → next_begins part.syntax (trees_listed xs) ≡ false → slot_left_out part.optional part.default ≡ Some slot
    → parts_in (parts_listed (part ∷ rest)) (trees_listed xs)
    ≡ option_map (slot_before slot) (parts_in (parts_listed rest) (trees_listed xs))
part_left_out part rest [] slot begun is =
    left_out_is part.optional part.default slot (parts_in (parts_listed rest) NoTrees) is
part_left_out part rest (x ∷ xs) slot begun is =
    rw begun (left_out_is part.optional part.default slot (parts_in (parts_listed rest) (trees_listed (x ∷ xs))) is)

-- values behind the last component
pub too_many : (xs : List TreeValue) (at : ℕ) → at < length xs → parts_in NoParts (trees_listed (drop at xs)) ≡ None
too_many [] at h = absurd (omega arith)
too_many (x ∷ xs) zero h = refl
too_many (x ∷ xs) (suc at) h = too_many xs at (omega arith)

pub part_there : (before : List Slot) (part : Part) (left rest : List Part) (trees : List TreeValue) (x : TreeValue)
    (xs : List TreeValue) (v : TypedValue) → left ≡ part ∷ rest → trees ≡ x ∷ xs
    → next_begins part.syntax (trees_listed trees) ≡ true → denoted false part.syntax x ≡ Some v
    → option_map (slots_before before) (parts_in (parts_listed left) (trees_listed trees))
    ≡ option_map (slots_before (before ++ Present v ∷ [])) (parts_in (parts_listed rest) (trees_listed xs))
part_there before part left rest trees x xs v e f begun is =
    let there : begins part.syntax (tag_of x) ≡ true =
    sym (ap (λ ys. next_begins part.syntax (trees_listed ys)) f) ∙ begun in
    rw (e, f) (ap (option_map (slots_before before)) (part_present part rest x xs v there is)
    ∙ slot_read before (Present v) (parts_in (parts_listed rest) (trees_listed xs)))

pub part_absent : (before : List Slot) (part : Part) (left rest : List Part) (trees : List TreeValue) (slot : Slot)
    → left ≡ part ∷ rest → next_begins part.syntax (trees_listed trees) ≡ false
    → slot_left_out part.optional part.default ≡ Some slot
    → option_map (slots_before before) (parts_in (parts_listed left) (trees_listed trees))
    ≡ option_map (slots_before (before ++ slot ∷ [])) (parts_in (parts_listed rest) (trees_listed trees))
part_absent before part left rest trees slot e begun is =
    rw e (ap (option_map (slots_before before)) (part_left_out part rest trees slot begun is)
    ∙ slot_read before slot (parts_in (parts_listed rest) (trees_listed trees)))

-- a component that is no value of its syntax, or that may not be left out
pub part_bad : (before : List Slot) (part : Part) (left rest : List Part) (trees : List TreeValue) (x : TreeValue)
    (xs : List TreeValue) → left ≡ part ∷ rest → trees ≡ x ∷ xs
    → next_begins part.syntax (trees_listed trees) ≡ true → denoted false part.syntax x ≡ None
    → option_map (slots_before before) (parts_in (parts_listed left) (trees_listed trees)) ≡ None
part_bad before part left rest trees x xs e f begun is =
    let there : begins part.syntax (tag_of x) ≡ true =
    sym (ap (λ ys. next_begins part.syntax (trees_listed ys)) f) ∙ begun in
    rw (e, f) (rw (there, is) refl)

missing : (part : Part) (rest : List Part) (xs : List TreeValue) → next_begins part.syntax (trees_listed xs) ≡ false
    → slot_left_out part.optional part.default ≡ None → parts_in (parts_listed (part ∷ rest)) (trees_listed xs) ≡ None
missing part rest [] begun is = nothing_left_out part.optional part.default (parts_in (parts_listed rest) NoTrees) is
missing part rest (x ∷ xs) begun is =
    rw begun (nothing_left_out part.optional part.default (parts_in (parts_listed rest) (trees_listed (x ∷ xs))) is)

pub part_missing : (before : List Slot) (part : Part) (left rest : List Part) (trees : List TreeValue)
    → left ≡ part ∷ rest → next_begins part.syntax (trees_listed trees) ≡ false
    → slot_left_out part.optional part.default ≡ None
    → option_map (slots_before before) (parts_in (parts_listed left) (trees_listed trees)) ≡ None
part_missing before part left rest trees e begun is =
    rw e (ap (option_map (slots_before before)) (missing part rest trees begun is))
