-- The numbers of components, members and alternatives, one by one.
use Rattle.std.proofs.Common.{◌≡◌, ◌≤◌, ◌<◌, ◌+◌, min, ⊎_elim, ℕ, zero, suc, true, false, cond, List, [], ◌∷◌, ◌++◌}
use Rattle.std.proofs.Common.{length, drop, get_or, None, refl, sym, ap, ◌∙◌, arith}
use Rattle.std.proofs.lemmas.Bool.{cases_lt}
use Rattle.std.proofs.lemmas.List.{drop_all}
use Rattle.term_values.specs.PartsView.{parts_listed}
use Rattle.term_values.specs.SlotsView.{slots_listed}
use Rattle.term_values.specs.Syntaxes.{TypeSyntax, TypeParts, Bounds}
use Rattle.term_values.specs.Syntaxes.TypeSyntax.{Sequence, SetType, SequenceOf, SetOf}
use Rattle.term_values.specs.Typed.{TypedValue, TypedSlots, TypedValues, listed}
use Rattle.term_values.specs.Typed.TypedValue.{Parts, Many}
use Rattle.term_values.specs.Typed.TypedSlots.{NoSlots}
use Rattle.term_values.specs.declared.syntax.Part.{Part}
use Rattle.term_values.specs.declared.value.Slot.{Slot}
use Rattle.term_values.specs.declared.value.Slot.TheVariants.{Absent, Present}
use Rattle.value_match.specs.Marks.{mark_as, pick_mark}
use Rattle.value_match.specs.FirstSizes.{first_size}
use Rattle.value_match.specs.InTurn.{in_turn, mark_count}
use Rattle.value_match.specs.MemberKeys.{is_written, component_key, member_key, pick_key, slots_key, values_key}
use Rattle.value_match.specs.MemberOrder.{TellsOrder}
use Rattle.value_match.specs.SlotKeys.{BeginsWith, slot_key, value_key}
use Rattle.value_match.specs.declared.told.MemberOrder.{MemberOrder}
use Rattle.value_match.specs.declared.told.MemberOrder.TheVariants.{Before, After}
use Rattle.value_match.proofs.OrderLaws.{tells_first_before, tells_first_after, tells_next, tells_lists}

-- ---- the alternative at an index

pub mark_at : (xs : List Part) (k : ℕ) (d : Part) (value : TypedValue) → k < length xs
    → pick_mark (parts_listed xs) k value ≡ mark_as None (get_or xs k d).syntax value
mark_at [] k d value h = absurd (omega arith)
mark_at (x ∷ xs) zero d value h = refl
mark_at (x ∷ xs) (suc k) d value h = mark_at xs k d value (omega arith)

pub mark_past : (xs : List Part) (k : ℕ) (value : TypedValue) → length xs ≤ k
    → pick_mark (parts_listed xs) k value ≡ 0
mark_past [] k value h = refl
mark_past (x ∷ xs) zero value h = absurd (omega arith)
mark_past (x ∷ xs) (suc k) value h = mark_past xs k value (omega arith)

pub key_at : (xs : List Part) (k : ℕ) (d : Part) (value : TypedValue) → k < length xs
    → pick_key (parts_listed xs) k value
    ≡ mark_as None (get_or xs k d).syntax value ∷ member_key (get_or xs k d).syntax value
key_at [] k d value h = absurd (omega arith)
key_at (x ∷ xs) zero d value h = refl
key_at (x ∷ xs) (suc k) d value h = key_at xs k d value (omega arith)

-- ---- one component and the others

pub one_slot : (x : Part) (xs : List Part) (y : Slot) (ys : List Slot)
    → slots_key (parts_listed (x ∷ xs)) (slots_listed (y ∷ ys))
    ≡ slot_key x y ++ slots_key (parts_listed xs) (slots_listed ys)
one_slot x xs Absent ys = refl
one_slot x xs (Present value) ys = refl

none_given : (xs : List Part) → slots_key (parts_listed xs) NoSlots ≡ []
none_given [] = refl
none_given (x ∷ xs) = refl

-- behind the last component, or the last value of one, there are no numbers
no_parts : (xs : List Part) (ys : List Slot) (i : ℕ) → length xs ≤ i
    → slots_key (parts_listed (drop i xs)) (slots_listed (drop i ys)) ≡ []
no_parts xs ys i h = ap (λ zs. slots_key (parts_listed zs) (slots_listed (drop i ys))) (drop_all i xs h)

no_slots : (xs : List Part) (ys : List Slot) (i : ℕ) → length ys ≤ i
    → slots_key (parts_listed (drop i xs)) (slots_listed (drop i ys)) ≡ []
no_slots xs ys i h =
    ap (λ zs. slots_key (parts_listed (drop i xs)) (slots_listed zs)) (drop_all i ys h) ∙ none_given (drop i xs)

pub slots_end : (xs : List Part) (ys : List Slot) (i : ℕ) → min (length xs) (length ys) ≤ i
    → slots_key (parts_listed (drop i xs)) (slots_listed (drop i ys)) ≡ []
slots_end xs ys i h =
    ⊎_elim
    (λ (less : length xs < length ys). no_parts xs ys i (omega arith))
    (λ (more : length ys ≤ length xs). no_slots xs ys i (omega arith))
    (cases_lt (length xs) (length ys))

pub slots_front : (i : ℕ) (xs : List Part) (ys : List Slot) (x : Part) (y : Slot) → drop i xs ≡ x ∷ drop (i + 1) xs
    → drop i ys ≡ y ∷ drop (i + 1) ys
    → slots_key (parts_listed (drop i xs)) (slots_listed (drop i ys))
    ≡ slot_key x y ++ slots_key (parts_listed (drop (i + 1) xs)) (slots_listed (drop (i + 1) ys))
slots_front i xs ys x y e f =
    ap (λ zs. slots_key (parts_listed zs) (slots_listed (drop i ys))) e
    ∙ ap (λ zs. slots_key (parts_listed (x ∷ drop (i + 1) xs)) (slots_listed zs)) f
    ∙ one_slot x (drop (i + 1) xs) y (drop (i + 1) ys)

-- ---- one member and the others

pub values_front : (member : TypeSyntax) (i : ℕ) (xs : List TypedValue) (x : TypedValue)
    → drop i xs ≡ x ∷ drop (i + 1) xs → values_key (member_key member) (listed (drop i xs))
    ≡ member_key member x ++ values_key (member_key member) (listed (drop (i + 1) xs))
values_front member i xs x e = ap (λ zs. values_key (member_key member) (listed zs)) e

pub values_end : (member : TypeSyntax) (i : ℕ) (xs ys : List TypedValue) → length xs ≤ i → length ys ≤ i
    → values_key (member_key member) (listed (drop i xs)) ≡ values_key (member_key member) (listed (drop i ys))
values_end member i xs ys h k =
    ap (λ zs. values_key (member_key member) (listed zs)) (drop_all i xs h ∙ sym (drop_all i ys k))

-- ---- values that hold others

pub sequence_key : (m : TypeSyntax) (v : TypedValue) (parts : TypeParts) (slots : TypedSlots) (size : ℕ)
    → m ≡ Sequence parts → v ≡ Parts slots → size ≡ first_size m v → size ∷ slots_key parts slots ≡ member_key m v
sequence_key m v parts slots size e f s = ap (λ n. n ∷ slots_key parts slots) s ∙ rw (e, f) refl

pub unordered_key : (m : TypeSyntax) (v : TypedValue) (parts : TypeParts) (slots : TypedSlots) (size : ℕ)
    → m ≡ SetType parts → v ≡ Parts slots → size ≡ first_size m v
    → size ∷ in_turn (component_key parts slots) mark_count ≡ member_key m v
unordered_key m v parts slots size e f s =
    ap (λ n. n ∷ in_turn (component_key parts slots) mark_count) s ∙ rw (e, f) refl

pub list_key : (m member : TypeSyntax) (v : TypedValue) (sizes : Bounds) (values : TypedValues) (size : ℕ)
    → m ≡ SequenceOf member sizes → v ≡ Many values → size ≡ first_size m v
    → size ∷ values_key (member_key member) values ≡ member_key m v
list_key m member v sizes values size e f s = ap (λ n. n ∷ values_key (member_key member) values) s ∙ rw (e, f) refl

pub set_key : (m member : TypeSyntax) (v : TypedValue) (sizes : Bounds) (values : TypedValues) (size : ℕ)
    → m ≡ SetOf member sizes → v ≡ Many values → size ≡ first_size m v
    → size ∷ values_key (member_key member) values ≡ member_key m v
set_key m member v sizes values size e f s = ap (λ n. n ∷ values_key (member_key member) values) s ∙ rw (e, f) refl

pub key_of : (xs : List Part) (k : ℕ) (d : Part) (value : TypedValue) → k < length xs → get_or xs k d ≡ d
    → pick_key (parts_listed xs) k value ≡ mark_as None d.syntax value ∷ member_key d.syntax value
key_of xs k d value h e =
    key_at xs k d value h
    ∙ ap (λ (p : Part). mark_as None p.syntax value ∷ member_key p.syntax value) e

-- ---- what the first part tells of the whole

pub front_before : (xs ys us vs ns ms : List ℕ) → ns ≡ xs ++ us → ms ≡ ys ++ vs → TellsOrder Before xs ys
    → TellsOrder Before ns ms
front_before xs ys us vs ns ms e f t =
    tells_lists Before (xs ++ us) ns (ys ++ vs) ms (sym e) (sym f) (tells_first_before xs ys us vs t)

pub front_after : (xs ys us vs ns ms : List ℕ) → ns ≡ xs ++ us → ms ≡ ys ++ vs → TellsOrder After xs ys
    → TellsOrder After ns ms
front_after xs ys us vs ns ms e f t =
    tells_lists After (xs ++ us) ns (ys ++ vs) ms (sym e) (sym f) (tells_first_after xs ys us vs t)

pub front_alike : (told : MemberOrder) (xs ys us vs ns ms : List ℕ) → ns ≡ xs ++ us → ms ≡ ys ++ vs → xs ≡ ys
    → TellsOrder told us vs → TellsOrder told ns ms
front_alike told xs ys us vs ns ms e f same t =
    tells_lists told (xs ++ us) ns (ys ++ vs) ms (sym e) (sym f) (tells_next told xs ys us vs same t)

-- ---- one component

pub absent_key : (x : Part) (y : Slot) → y ≡ Absent → slot_key x y ≡ []
absent_key x y e = ap (slot_key x) e

pub value_written : (x : Part) (v : TypedValue) → is_written x.default v ≡ true
    → value_key x v ≡ mark_as None x.syntax v ∷ member_key x.syntax v
value_written x v e = ap (λ b. cond b (mark_as None x.syntax v ∷ member_key x.syntax v) []) e

pub value_unwritten : (x : Part) (v : TypedValue) → is_written x.default v ≡ false → value_key x v ≡ []
value_unwritten x v e = ap (λ b. cond b (mark_as None x.syntax v ∷ member_key x.syntax v) []) e

pub written_key : (x : Part) (y : Slot) (v : TypedValue) → y ≡ Present v → is_written x.default v ≡ true
    → slot_key x y ≡ mark_as None x.syntax v ∷ member_key x.syntax v
written_key x y v e w = ap (slot_key x) e ∙ value_written x v w

pub unwritten_key : (x : Part) (y : Slot) (v : TypedValue) → y ≡ Present v → is_written x.default v ≡ false
    → slot_key x y ≡ []
unwritten_key x y v e w = ap (slot_key x) e ∙ value_unwritten x v w

-- a component without numbers is passed over, and one that is written begins with its mark
pub passed_over : (i : ℕ) (xs : List Part) (ys : List Slot) (x : Part) (y : Slot) → drop i xs ≡ x ∷ drop (i + 1) xs
    → drop i ys ≡ y ∷ drop (i + 1) ys → slot_key x y ≡ []
    → slots_key (parts_listed (drop i xs)) (slots_listed (drop i ys))
    ≡ slots_key (parts_listed (drop (i + 1) xs)) (slots_listed (drop (i + 1) ys))
passed_over i xs ys x y e f none =
    slots_front i xs ys x y e f
    ∙ ap (λ zs. zs ++ slots_key (parts_listed (drop (i + 1) xs)) (slots_listed (drop (i + 1) ys))) none

pub begins_with_mark : (i : ℕ) (xs : List Part) (ys : List Slot) (x : Part) (y : Slot) (v : TypedValue)
    → drop i xs ≡ x ∷ drop (i + 1) xs → drop i ys ≡ y ∷ drop (i + 1) ys → y ≡ Present v
    → is_written x.default v ≡ true
    → BeginsWith (mark_as None x.syntax v) (slots_key (parts_listed (drop i xs)) (slots_listed (drop i ys)))
begins_with_mark i xs ys x y v e f present w = (
  member_key x.syntax v ++ slots_key (parts_listed (drop (i + 1) xs)) (slots_listed (drop (i + 1) ys)),
  slots_front i xs ys x y e f
      ∙ ap (λ zs. zs ++ slots_key (parts_listed (drop (i + 1) xs)) (slots_listed (drop (i + 1) ys)))
      (written_key x y v present w),
)
