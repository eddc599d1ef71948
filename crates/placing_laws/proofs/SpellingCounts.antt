-- SpellingCounts: what tokens spell has no more tokens at a place than stand there between its ends.
use Rattle.std.proofs.Common.{◌≡◌, ℕ, zero, suc, ◌+◌, ◌≤◌, true, List, Option, None, Some, refl}
use Rattle.std.proofs.Common.{◌∙◌, ap, arith}
use Rattle.token_grammar.specs.declared.token.Token.{Token}
use Rattle.token_grammar.specs.Form.{Form, Marks, Keep, Then, Or, Maybe, Listed, Many, AnyOrder, Named, Slots, Slot}
use Rattle.token_grammar.specs.Form.{NoSlots, Tree, After, filled, form_at, is_open, slots_tree}
use Rattle.token_grammar.specs.Spelling as S
use Rattle.token_grammar.specs.Spelling.{Spells}
use Rattle.placing_laws.proofs.PlaceCounts.{leaves, up_to, one_more, count_rises}

-- what came so far of a form
came : ℕ → Option Tree → ℕ
came p None = 0
came p (Some a) = leaves p a

abbrev pub came_slots : ℕ → Slots → ℕ
came_slots p NoSlots = 0
came_slots p (Slot needed f None slots) = came_slots p slots
came_slots p (Slot needed f (Some a) slots) = leaves p a + came_slots p slots

abbrev pub outer : ℕ → Form → ℕ
outer p (Marks tests) = 0
outer p (Keep test) = 0
outer p (Then f g) = 0
outer p (Or f g) = 0
outer p (Maybe f) = 0
outer p (Listed separator s f) = leaves p s
outer p (Many s f) = leaves p s
outer p (AnyOrder s) = came_slots p s
outer p (Named n) = 0

-- what came so far of the forms in it
abbrev mutual
  pub inner : ℕ → Form → ℕ
  inner p (Marks tests) = 0
  inner p (Keep test) = 0
  inner p (Then f g) = (outer p f + inner p f) + (outer p g + inner p g)
  inner p (Or f g) = (outer p f + inner p f) + (outer p g + inner p g)
  inner p (Maybe f) = outer p f + inner p f
  inner p (Listed separator s f) = outer p f + inner p f
  inner p (Many s f) = outer p f + inner p f
  inner p (AnyOrder s) = inner_slots p s
  inner p (Named n) = 0

  pub inner_slots : ℕ → Slots → ℕ
  inner_slots p NoSlots = 0
  inner_slots p (Slot needed f came slots) = (outer p f + inner p f) + inner_slots p slots

-- nothing came yet of a form
abbrev pub whole : ℕ → Form → ℕ
whole p f = outer p f + inner p f

slot_begins : (p n : ℕ) (s : Slots) → inner_slots p s ≡ 0 → whole p (form_at n s) ≡ 0
slot_begins p n NoSlots none_came = refl
slot_begins p zero (Slot needed f came s) none_came = omega arith
slot_begins p (suc n) (Slot needed f came s) none_came = slot_begins p n s (omega arith)

inner_filled : (p n : ℕ) (a : Tree) (s : Slots) → inner_slots p (filled n a s) ≡ inner_slots p s
inner_filled p n a NoSlots = refl
inner_filled p zero a (Slot needed f came s) = refl
inner_filled p (suc n) a (Slot needed f came s) = ap (λ k. (outer p f + inner p f) + k) (inner_filled p n a s)

came_filled : (p n : ℕ) (a : Tree) (s : Slots) → is_open n s ≡ true → came_slots p (filled n a s) ≡ leaves p a +
    came_slots p s
came_filled p n a NoSlots opened = absurd (cc)
came_filled p zero a (Slot needed f None s) opened = refl
came_filled p zero a (Slot needed f (Some b) s) opened = absurd (cc)
came_filled p (suc n) a (Slot needed f None s) opened = came_filled p n a s opened
came_filled p (suc n) a (Slot needed f (Some b) s) opened = let more = came_filled p n a s opened in omega arith

slots_leaves : (p : ℕ) (s : Slots) → leaves p (slots_tree s) ≡ came_slots p s
slots_leaves p NoSlots = refl
slots_leaves p (Slot needed f None s) = let more = slots_leaves p s in omega arith
slots_leaves p (Slot needed f (Some b) s) = let more = slots_leaves p s in omega arith

module _ (p : ℕ) (tokens : List Token) (grammar : ℕ → Form) (clear : (n : ℕ) → whole p (grammar n) ≡ 0) where
  pub counted : {f : Form} {i k : ℕ} {a : Tree} → inner p f ≡ 0 → Spells tokens grammar f i k a →
      leaves p a + up_to p tokens i ≤ outer p f + up_to p tokens k
  counted none_came S.no_marks = omega arith
  counted {i = i} none_came (S.marks here rest) =
      let more = counted refl rest in
      let rises = count_rises p tokens i in
      omega arith
  counted {i = i} {k = k} none_came (S.keep get ok next) =
      let more = one_more p tokens i k get next in omega arith
  counted {f = Then f g} none_came (S.both one two) =
      let first = counted {f = f} (omega arith) one in
      let second = counted {f = g} (omega arith) two in
      omega arith
  counted {f = Or f g} none_came (S.first one) = let more = counted {f = f} (omega arith) one in omega arith
  counted {f = Or f g} none_came (S.second one) = let more = counted {f = g} (omega arith) one in omega arith
  counted none_came S.absent = omega arith
  counted {f = Maybe f} none_came (S.present one) = let more = counted {f = f} (omega arith) one in omega arith
  counted {f = Listed separator s f} none_came (S.last one) =
      let more = counted {f = f} (omega arith) one in omega arith
  counted {f = Listed separator s f} none_came (S.more {a = a} {j = j} one here others) =
      let item = counted {f = f} (omega arith) one in
      let rises = count_rises p tokens j in
      let rest = counted {f = Listed separator (After s a) f} none_came others in
      omega arith
  counted none_came S.no_more = omega arith
  counted {f = Many s f} none_came (S.another {a = a} one others) =
      let item = counted {f = f} (omega arith) one in
      let rest = counted {f = Many (After s a) f} none_came others in
      omega arith
  counted {f = AnyOrder s} {i = i} none_came (S.enough complete is) =
      let same : _ = ap (leaves p) is in
      let all = slots_leaves p s in
      omega arith
  counted {f = AnyOrder s} none_came (S.clause {a = a} n opened one others) =
      let begins = slot_begins p n s none_came in
      let item = counted {f = form_at n s} (omega arith) one in
      let filling = came_filled p n a s opened in
      let rest = counted {f = AnyOrder (filled n a s)} (inner_filled p n a s ∙ none_came) others in
      omega arith
  counted none_came (S.named {n = n} one) =
      let none_there = clear n in
      let more = counted {f = grammar n} (omega arith) one in
      omega arith
