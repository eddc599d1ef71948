-- One component of a SET more has been read.
use Rattle.std.proofs.Common.{◌≡◌, ◌≤◌, ◌<◌, ◌+◌, ℕ, zero, suc, Bool, true, false, cond, not, length, drop, get_or, set}
use Rattle.std.proofs.Common.{replicate, arith, List, [], ◌∷◌, ◌++◌, Option, None, Some, refl, ap, sym, ◌∙◌}
use Rattle.std.specs.Prelude.{option_map, option_and_then}
use Rattle.ber_values.proofs.DecodingLaws.{slot_read, left_out_is, nothing_left_out}
use Rattle.ber_values.specs.Left.{slot_left_out, slot_before, slots_before}
use Rattle.term_values.specs.Decoding.{left_out}
use Rattle.term_values.specs.PartsView.{parts_listed}
use Rattle.term_values.specs.Syntaxes.TypeParts.{NoParts}
use Rattle.term_values.specs.Typed.{TypedValue, TypedSlots}
use Rattle.term_values.specs.Typed.TypedSlots.{NoSlots, Filled}
use Rattle.term_values.specs.declared.syntax.Part.{Part}
use Rattle.term_values.specs.declared.value.Slot.{Slot}
use Rattle.term_values.specs.declared.value.Slot.TheVariants.{Absent, Present}
use Rattle.asn1_values_syntax.specs.declared.value.ValuePart.{ValuePart}
use Rattle.asn1_values.specs.Denoted.{Reading, denoted, unordered_said, taken_out, where_taken}
use Rattle.asn1_leaf_values.specs.Literals.{same_name}
use Rattle.asn1_values.specs.Steps.{left_of, no_texts, slot_by, next_slot}
use Rattle.asn1_leaf_values.specs.TextValues.{TextValue, TextParts, said_name, said_value, parts_said}
use Rattle.asn1_leaf_values.specs.TextValues.TextParts.{NoTexts, AndText}

-- what the others hold behind the first component
abbrev behind : Reading → List Part → Option (Slot × TextParts) → Option TypedSlots
behind filter rest next = option_and_then (λ (r : Slot × TextParts). option_map (slot_before r.0)
    (unordered_said filter (parts_listed rest) r.1)) next

read_one : (filter : Reading) (rest : List Part) (others : TextParts) (o : Option TypedValue)
    → option_and_then (λ v. option_map (Filled v) (unordered_said filter (parts_listed rest) others)) o
    ≡ behind filter rest (option_map (λ v. (Present v, others)) o)
read_one filter rest others None = refl
read_one filter rest others (Some v) = refl

leave_one : (filter : Reading) (part : Part) (rest : List Part) (texts : TextParts) (o : Option Slot)
    → slot_left_out part.optional part.default ≡ o
    → left_out part.optional part.default (unordered_said filter (parts_listed rest) texts)
    ≡ behind filter rest (option_map (λ slot. (slot, texts)) o)
leave_one filter part rest texts None e = nothing_left_out part.optional part.default
    (unordered_said filter (parts_listed rest) texts) e
leave_one filter part rest texts (Some slot) e = left_out_is part.optional part.default slot
    (unordered_said filter (parts_listed rest) texts) e

by_taken : (filter : Reading) (part : Part) (rest : List Part) (texts : TextParts)
    (o : Option (TextValue × TextParts))
    → where_taken o (λ text others. option_and_then (λ v. option_map (Filled v) (unordered_said filter
    (parts_listed rest) others)) (denoted filter part.syntax text))
    (left_out part.optional part.default (unordered_said filter (parts_listed rest) texts))
    ≡ behind filter rest (slot_by o (denoted filter part.syntax) (option_map (λ slot. (slot, texts))
    (slot_left_out part.optional part.default)))
by_taken filter part rest texts None =
    leave_one filter part rest texts (slot_left_out part.optional part.default) refl
by_taken filter part rest texts (Some taken) =
    read_one filter rest taken.1 (denoted filter part.syntax taken.0)

one_component : (filter : Reading) (part : Part) (rest : List Part) (texts : TextParts)
    → unordered_said filter (parts_listed (part ∷ rest)) texts
    ≡ behind filter rest (next_slot filter part texts)
one_component filter part rest texts = by_taken filter part rest texts (taken_out part.name texts)

pub component_read : (filter : Reading) (before : List Slot) (part : Part) (left rest : List Part)
    (texts others : TextParts) (slot : Slot) → left ≡ part ∷ rest
    → next_slot filter part texts ≡ Some (slot, others)
    → option_map (slots_before before) (unordered_said filter (parts_listed left) texts)
    ≡ option_map (slots_before (before ++ slot ∷ [])) (unordered_said filter (parts_listed rest) others)
component_read filter before part left rest texts others slot e is =
    rw e (ap (option_map (slots_before before)) (one_component filter part rest texts ∙ ap (behind filter rest) is)
    ∙ slot_read before slot (unordered_said filter (parts_listed rest) others))

pub component_missing : (filter : Reading) (before : List Slot) (part : Part) (left rest : List Part)
    (texts : TextParts) → left ≡ part ∷ rest → next_slot filter part texts ≡ None
    → option_map (slots_before before) (unordered_said filter (parts_listed left) texts) ≡ None
component_missing filter before part left rest texts e is =
    rw e (ap (option_map (slots_before before)) (one_component filter part rest texts ∙ ap (behind filter rest) is))

pub none_left : (filter : Reading) (texts : TextParts) → no_texts texts ≡ true
    → unordered_said filter NoParts texts ≡ Some NoSlots
none_left filter NoTexts e = refl
none_left filter (AndText own text others) e = absurd (cc)

pub some_left_over : (filter : Reading) (texts : TextParts) → no_texts texts ≡ false
    → unordered_said filter NoParts texts ≡ None
some_left_over filter NoTexts e = absurd (cc)
some_left_over filter (AndText own text others) e = refl

pub all_left : (xs : List ValuePart) → left_of (replicate (length xs) false) xs ≡ parts_said xs
all_left [] = refl
all_left (x ∷ xs) = ap (AndText (said_name x) (said_value x)) (all_left xs)

-- the first text of the name that isn't taken
pub found_at : (name : List ℕ) (bs : List Bool) (xs : List ValuePart) (k : ℕ) (d : ValuePart)
    → length bs ≡ length xs
    → k < length xs → get_or bs k true ≡ false → same_name name (said_name (get_or xs k d)) ≡ true
    → ((j : ℕ) → j < k → get_or bs j true ≡ false → same_name name (said_name (get_or xs j d)) ≡ false)
    → taken_out name (left_of bs xs) ≡ Some (said_value (get_or xs k d), left_of (set bs k true) xs)
found_at name [] [] k d l h free begun before = absurd (omega arith)
found_at name [] (x ∷ xs) k d l h free begun before = absurd (omega arith)
found_at name (b ∷ bs) [] k d l h free begun before = absurd (omega arith)
found_at name (true ∷ bs) (x ∷ xs) zero d l h free begun before = absurd (cc)
found_at name (false ∷ bs) (x ∷ xs) zero d l h free begun before = rw begun refl
found_at name (true ∷ bs) (x ∷ xs) (suc k) d l h free begun before =
    found_at name bs xs k d (omega arith) (omega arith) free begun (λ j p f. before (suc j) (omega arith) f)
found_at name (false ∷ bs) (x ∷ xs) (suc k) d l h free begun before =
    let first : same_name name (said_name x) ≡ false = before 0 (omega arith) refl in
    rw (
      first,
      found_at name bs xs k d (omega arith) (omega arith) free begun (λ j p f. before (suc j)
          (omega arith) f),
    ) refl

pub found_nowhere : (name : List ℕ) (bs : List Bool) (xs : List ValuePart) → length bs ≡ length xs
    → ((j : ℕ) (d : ValuePart) → j < length xs → get_or bs j true ≡ false
    → same_name name (said_name (get_or xs j d)) ≡ false)
    → taken_out name (left_of bs xs) ≡ None
found_nowhere name [] [] l before = refl
found_nowhere name [] (x ∷ xs) l before = absurd (omega arith)
found_nowhere name (b ∷ bs) [] l before = absurd (omega arith)
found_nowhere name (true ∷ bs) (x ∷ xs) l before =
    found_nowhere name bs xs (omega arith) (λ j d p f. before (suc j) d (omega arith) f)
found_nowhere name (false ∷ bs) (x ∷ xs) l before =
    let first : same_name name (said_name x) ≡ false = before 0 x (omega arith) refl in
    rw (first, found_nowhere name bs xs (omega arith) (λ j d p f. before (suc j) d (omega arith) f)) refl

-- whether some text isn't taken
pub one_free : (bs : List Bool) (xs : List ValuePart) (k : ℕ) → length bs ≡ length xs → k < length xs
    → get_or bs k true ≡ false → no_texts (left_of bs xs) ≡ false
one_free [] [] k l h free = absurd (omega arith)
one_free [] (x ∷ xs) k l h free = absurd (omega arith)
one_free (b ∷ bs) [] k l h free = absurd (omega arith)
one_free (true ∷ bs) (x ∷ xs) zero l h free = absurd (cc)
one_free (false ∷ bs) (x ∷ xs) zero l h free = refl
one_free (true ∷ bs) (x ∷ xs) (suc k) l h free = one_free bs xs k (omega arith) (omega arith) free
one_free (false ∷ bs) (x ∷ xs) (suc k) l h free = refl

pub none_free : (bs : List Bool) (xs : List ValuePart) → length bs ≡ length xs
    → ((j : ℕ) → j < length xs → get_or bs j true ≡ true) → no_texts (left_of bs xs) ≡ true
none_free [] [] l h = refl
none_free [] (x ∷ xs) l h = absurd (omega arith)
none_free (b ∷ bs) [] l h = absurd (omega arith)
none_free (true ∷ bs) (x ∷ xs) l h = none_free bs xs (omega arith) (λ j p. h (suc j) (omega arith))
none_free (false ∷ bs) (x ∷ xs) l h = absurd (let e = h 0 (omega arith) in cc)

-- no text is the component's own, or one is
pub next_absent : (filter : Reading) (part : Part) (texts : TextParts) → taken_out part.name texts ≡ None
    → next_slot filter part texts ≡ option_map (λ slot. (slot, texts)) (slot_left_out part.optional part.default)
next_absent filter part texts e = rw e refl

pub next_present : (filter : Reading) (part : Part) (texts : TextParts) (x : TextValue) (others : TextParts)
    → taken_out part.name texts ≡ Some (x, others)
    → next_slot filter part texts ≡ option_map (λ v. (Present v, others)) (denoted filter part.syntax x)
next_present filter part texts x others e = rw e refl
