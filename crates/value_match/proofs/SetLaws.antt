-- Components of a SET by the octets of their tags, and numbers in turn.
use Rattle.std.proofs.Common.{◌≡◌, ◌≤◌, ◌<◌, ◌+◌, min, ⊎_elim, ℕ, zero, suc, true, false, cond, List, [], ◌∷◌, ◌++◌}
use Rattle.std.proofs.Common.{length, drop, get_or, ◌⊎◌, inl, inr, Bool, Option, None, Some, IfSome, refl, sym, ap, ◌∙◌}
use Rattle.std.proofs.Common.{subst, arith}
use Rattle.std.proofs.lemmas.Bool.{cases_lt, false≢true}
use Rattle.std.proofs.lemmas.List.{drop_all, get_or_read}
use Rattle.term_values.specs.PartsView.{parts_listed}
use Rattle.term_values.specs.SlotsView.{slots_listed}
use Rattle.term_values.specs.Syntaxes.{TypeParts}
use Rattle.term_values.specs.Typed.{TypedSlots}
use Rattle.term_values.specs.Typed.TypedSlots.{NoSlots}
use Rattle.term_values.specs.declared.syntax.Part.{Part}
use Rattle.term_values.specs.declared.value.Slot.{Slot}
use Rattle.term_values.specs.declared.value.Slot.TheVariants.{Absent, Present}
use Rattle.value_match.specs.InTurn.{in_turn, mark_count}
use Rattle.value_match.specs.MemberKeys.{component_key, member_key}
use Rattle.value_match.specs.MemberOrder.{StandsBefore}
use Rattle.value_match.specs.SetMarks.{IsBelow, IsLeastMark, IsMarkFrom, IsMarkOfEither, IsUnmarked, key_at}
use Rattle.value_match.specs.SlotKeys.{BeginsWith, has_mark, marked_key}
use Rattle.value_match.specs.declared.told.MemberOrder.TheVariants.{Before}
use Rattle.value_match.proofs.OrderLaws.{before_first, tells_first_before, tells_next}

-- ---- numbers in turn

pub turn_same : (f g : ℕ → List ℕ) (count : ℕ) → ((m : ℕ) → m < count → f m ≡ g m)
    → in_turn f count ≡ in_turn g count
unfolding in_turn
turn_same f g zero same = refl
turn_same f g (suc count) same =
    ap (λ zs. zs ++ f count) (turn_same f g count (λ m h. same m (omega arith)))
    ∙ ap (λ zs. in_turn g count ++ zs) (same count (omega arith))

pub turn_before : (f g : ℕ → List ℕ) (mark count : ℕ) → mark < count → ((m : ℕ) → m < mark → f m ≡ g m)
    → StandsBefore (f mark) (g mark) → StandsBefore (in_turn f count) (in_turn g count)
unfolding in_turn
turn_before f g mark zero h same b = absurd (omega arith)
turn_before f g mark (suc count) h same b =
    ⊎_elim
    (λ (less : mark < count). tells_first_before (in_turn f count) (in_turn g count) (f count) (g count)
    (turn_before f g mark count less same b))
    (λ (last : count ≤ mark).
    let at : mark ≡ count = omega arith in
    tells_next Before (in_turn f count) (in_turn g count) (f count) (g count)
    (turn_same f g count (λ m k. same m (omega arith)))
    (subst (λ n. StandsBefore (f n) (g n)) at b))
    (cases_lt mark count)

pub mark_within : (m : ℕ) → m < 18446744073709551616 → m < mark_count
unfolding mark_count
mark_within m h = h

pub whole_before : (f g : ℕ → List ℕ) (mark : ℕ) → mark < 18446744073709551616
    → ((m : ℕ) → m < mark → f m ≡ g m) → StandsBefore (f mark) (g mark)
    → StandsBefore (in_turn f mark_count) (in_turn g mark_count)
whole_before f g mark small same b = turn_before f g mark mark_count (mark_within mark small) same b

pub whole_same : (f g : ℕ → List ℕ) → ((m : ℕ) → f m ≡ g m) → in_turn f mark_count ≡ in_turn g mark_count
whole_same f g same = turn_same f g mark_count (λ m h. same m)

-- ---- one component and the others

pub key_here : (x : Part) (xs : List Part) (y : Slot) (ys : List Slot) (mark : ℕ) → has_mark x y mark ≡ true
    → key_at (x ∷ xs) (y ∷ ys) mark ≡ marked_key x y
key_here x xs Absent ys mark h = absurd (false≢true h)
key_here x xs (Present v) ys mark h = ap (λ b. cond b (0 ∷ member_key x.syntax v) (key_at xs ys mark)) h

pub key_later : (x : Part) (xs : List Part) (y : Slot) (ys : List Slot) (mark : ℕ) → has_mark x y mark ≡ false
    → key_at (x ∷ xs) (y ∷ ys) mark ≡ key_at xs ys mark
key_later x xs Absent ys mark h = refl
key_later x xs (Present v) ys mark h = ap (λ b. cond b (0 ∷ member_key x.syntax v) (key_at xs ys mark)) h

marked_begins : (x : Part) (y : Slot) (mark : ℕ) → has_mark x y mark ≡ true → BeginsWith 0 (marked_key x y)
marked_begins x Absent mark h = absurd (false≢true h)
marked_begins x (Present v) mark h = (member_key x.syntax v, refl)

unmarked_parts : (xs : List Part) (mark : ℕ) → component_key (parts_listed xs) NoSlots mark ≡ 1 ∷ []
unmarked_parts [] mark = refl
unmarked_parts (x ∷ xs) mark = refl

pub unmarked_end : (xs : List Part) (ys : List Slot) (i mark : ℕ) → min (length xs) (length ys) ≤ i
    → IsUnmarked (drop i xs) (drop i ys) mark
unmarked_end xs ys i mark h =
    ⊎_elim
    (λ (less : length xs < length ys). ap (λ zs. key_at zs (drop i ys) mark) (drop_all i xs (omega arith)))
    (λ (more : length ys ≤ length xs). ap (λ zs. key_at (drop i xs) zs mark) (drop_all i ys (omega arith))
    ∙ unmarked_parts (drop i xs) mark)
    (cases_lt (length xs) (length ys))

pub later_at : (i : ℕ) (xs : List Part) (ys : List Slot) (x : Part) (y : Slot) (mark : ℕ)
    → drop i xs ≡ x ∷ drop (i + 1) xs → drop i ys ≡ y ∷ drop (i + 1) ys → has_mark x y mark ≡ false
    → key_at (drop i xs) (drop i ys) mark ≡ key_at (drop (i + 1) xs) (drop (i + 1) ys) mark
later_at i xs ys x y mark e f h =
    ap (λ zs. key_at zs (drop i ys) mark) e
    ∙ ap (λ zs. key_at (x ∷ drop (i + 1) xs) zs mark) f
    ∙ key_later x (drop (i + 1) xs) y (drop (i + 1) ys) mark h

pub here_at : (i : ℕ) (xs : List Part) (ys : List Slot) (x : Part) (y : Slot) (mark : ℕ)
    → drop i xs ≡ x ∷ drop (i + 1) xs → drop i ys ≡ y ∷ drop (i + 1) ys → has_mark x y mark ≡ true
    → key_at (drop i xs) (drop i ys) mark ≡ marked_key x y
here_at i xs ys x y mark e f h =
    ap (λ zs. key_at zs (drop i ys) mark) e
    ∙ ap (λ zs. key_at (x ∷ drop (i + 1) xs) zs mark) f
    ∙ key_here x (drop (i + 1) xs) y (drop (i + 1) ys) mark h

pub here_begins : (x : Part) (y : Slot) (mark : ℕ) (numbers : List ℕ) → has_mark x y mark ≡ true
    → numbers ≡ marked_key x y → BeginsWith 0 numbers
here_begins x y mark numbers h e = subst (λ zs. BeginsWith 0 zs) (sym e) (marked_begins x y mark h)

-- what is read at a place with itself as the default is what stands there
pub read_same : {X : Type 0} (xs : List X) (i : ℕ) (x y : X) → i < length xs → x ≡ get_or xs i x → get_or xs i y ≡ y
    → x ≡ y
read_same xs i x y within is found = get_or_read xs i x within is y ∙ found

pub key_found : (xs : List Part) (ys : List Slot) (i : ℕ) (x p : Part) (y s : Slot) → i < length xs → i < length ys
    → x ≡ get_or xs i x → y ≡ get_or ys i y → get_or xs i p ≡ p → get_or ys i s ≡ s
    → marked_key x y ≡ marked_key p s
key_found xs ys i x p y s h k is_x is_y e f =
    ap (λ z. marked_key z y) (read_same xs i x p h is_x e)
    ∙ ap (marked_key p) (read_same ys i y s k is_y f)

begins_on : (i : ℕ) (xs : List Part) (ys : List Slot) (x : Part) (y : Slot) (mark : ℕ) (b : Bool)
    → drop i xs ≡ x ∷ drop (i + 1) xs → drop i ys ≡ y ∷ drop (i + 1) ys → has_mark x y mark ≡ b
    → BeginsWith 0 (key_at (drop (i + 1) xs) (drop (i + 1) ys) mark)
    → BeginsWith 0 (key_at (drop i xs) (drop i ys) mark)
begins_on i xs ys x y mark true e f h later =
    here_begins x y mark (key_at (drop i xs) (drop i ys) mark) h (here_at i xs ys x y mark e f h)
begins_on i xs ys x y mark false e f h later =
    subst (λ zs. BeginsWith 0 zs) (sym (later_at i xs ys x y mark e f h)) later

-- what the components behind one have, those from that one on have too
pub later_there : (i : ℕ) (xs : List Part) (ys : List Slot) (x : Part) (y : Slot) (from : ℕ) (found : Option ℕ)
    → drop i xs ≡ x ∷ drop (i + 1) xs → drop i ys ≡ y ∷ drop (i + 1) ys
    → IsMarkFrom (drop (i + 1) xs) (drop (i + 1) ys) from found → IsMarkFrom (drop i xs) (drop i ys) from found
later_there i xs ys x y from None e f there = tt
later_there i xs ys x y from (Some mark) e f there =
    (there.0, begins_on i xs ys x y mark (has_mark x y mark) e f refl there.1)

-- and what that one has
pub own_there : (i : ℕ) (xs : List Part) (ys : List Slot) (x : Part) (y : Slot) (from : ℕ) (own found : Option ℕ)
    → drop i xs ≡ x ∷ drop (i + 1) xs → drop i ys ≡ y ∷ drop (i + 1) ys
    → IfSome own (λ mark. has_mark x y mark ≡ true) → IfSome found (λ mark. (from ≤ mark) × (own ≡ Some mark))
    → IsMarkFrom (drop i xs) (drop i ys) from found
own_there i xs ys x y from own None e f h same = tt
own_there i xs ys x y from own (Some mark) e f h same =
    let has : has_mark x y mark ≡ true = subst (λ o. IfSome o (λ k. has_mark x y k ≡ true)) same.1 h in
    (same.0, here_begins x y mark (key_at (drop i xs) (drop i ys) mark) has (here_at i xs ys x y mark e f has))

first_there : (xs : List Part) (ys zs : List Slot) (from : ℕ) (found : Option ℕ) → IsMarkFrom xs ys from found
    → IsMarkOfEither xs ys zs from found
first_there xs ys zs from None there = tt
first_there xs ys zs from (Some mark) there = (there.0, inl there.1)

second_there : (xs : List Part) (ys zs : List Slot) (from : ℕ) (found : Option ℕ) → IsMarkFrom xs zs from found
    → IsMarkOfEither xs ys zs from found
second_there xs ys zs from None there = tt
second_there xs ys zs from (Some mark) there = (there.0, inr there.1)

pub either_there : (xs : List Part) (ys zs : List Slot) (from : ℕ) (a b found : Option ℕ)
    → IsMarkFrom xs ys from a → IsMarkFrom xs zs from b → (found ≡ a) ⊎ (found ≡ b)
    → IsMarkOfEither xs ys zs from found
either_there xs ys zs from a b found first second (inl e) =
    subst (λ o. IsMarkOfEither xs ys zs from o) (sym e) (first_there xs ys zs from a first)
either_there xs ys zs from a b found first second (inr e) =
    subst (λ o. IsMarkOfEither xs ys zs from o) (sym e) (second_there xs ys zs from b second)

-- ---- two values of a SET

-- one has a component that the other one lacks
pub alone_before : (xs ys : List ℕ) → BeginsWith 0 xs → ys ≡ 1 ∷ [] → StandsBefore xs ys
alone_before xs ys b e =
    subst (λ zs. StandsBefore zs ys) (sym b.1) (subst (λ zs. StandsBefore (0 ∷ b.0) zs) (sym e)
    (before_first 0 1 b.0 [] (omega arith)))

-- they agree up to the least octets that one of them has
pub agree_below : (parts : TypeParts) (slots others : TypedSlots) (xs : List Part) (ys zs : List Slot) (from : ℕ)
    (found : Option ℕ) → parts ≡ parts_listed xs → slots ≡ slots_listed ys → others ≡ slots_listed zs
    → ((m : ℕ) → m < from → component_key parts slots m ≡ component_key parts others m)
    → IsLeastMark xs ys from found → IsLeastMark xs zs from found → (m : ℕ) → IsBelow found m
    → component_key parts slots m ≡ component_key parts others m
agree_below parts slots others xs ys zs from found e f g same first second m below =
    ⊎_elim
    (λ (less : m < from). same m less)
    (λ (more : from ≤ m).
    ap (λ p. component_key p slots m) e
    ∙ ap (λ s. component_key (parts_listed xs) s m) f
    ∙ first m more below
    ∙ sym (second m more below)
    ∙ sym (ap (λ s. component_key (parts_listed xs) s m) g)
    ∙ sym (ap (λ p. component_key p others m) e))
    (cases_lt m from)

pub agree_next : (f g : ℕ → List ℕ) (mark next : ℕ) → next ≡ mark + 1 → ((m : ℕ) → m < mark → f m ≡ g m)
    → f mark ≡ g mark → (m : ℕ) → m < next → f m ≡ g m
agree_next f g mark next e below at m h =
    ⊎_elim
    (λ (less : m < mark). below m less)
    (λ (more : mark ≤ m).
    let same : mark ≡ m = omega arith in
    subst (λ n. f n ≡ g n) same at)
    (cases_lt m mark)
