-- Saying: what stands in a tree that tokens spell, one form after the other: the trees of its parts are spelt too.
use Rattle.std.proofs.Common.{◌≡◌, ℕ, zero, suc, Bool, true, List, [], ◌∷◌, None, Some, refl, sym, ap, subst}
use Rattle.std.proofs.Common.{slice_get}
use Rattle.std.specs.List.{AllByRecursion}
use Rattle.token_grammar.specs.declared.token.Token.{Token}
use Rattle.token_grammar.specs.Form.{Form, Keep, Then, Or, Maybe, Listed, Many, AnyOrder, Named, Slots, Slot}
use Rattle.token_grammar.specs.Form.{NoSlots, Tree, Leaf, Pair, First, Second, Absent, Present, Empty, After}
use Rattle.token_grammar.specs.Form.{Numbered, filled, form_at, is_open, slots_tree}
use Rattle.token_grammar.specs.Parts.{list_tree}
use Rattle.token_grammar.specs.Spelling as S
use Rattle.token_grammar.specs.Spelling.{Spells}

module _ (tokens : List Token) (grammar : ℕ → Form) where
  -- some tokens spell the form, with this tree
  pub record Spelt (f : Form) (a : Tree) : Type 0 where
    pub start : ℕ
    pub end : ℕ
    pub spelt : Spells tokens grammar f start end a

  -- a token of the text that passes a test
  pub record IsKept (test : Token → Bool) (token : Token) : Type 0 where
    pub index : ℕ
    pub there : slice_get tokens index ≡ Some token
    pub passed : test token ≡ true

  abbrev pub KeepSaid : (Token → Bool) → Tree → Type 0
  KeepSaid test (Leaf token) = IsKept test token
  KeepSaid test a = ⊥

  abbrev pub PairSaid : Form → Form → Tree → Type 0
  PairSaid f g (Pair a b) = Spelt f a × Spelt g b
  PairSaid f g a = ⊥

  abbrev pub EitherSaid : Form → Form → Tree → Type 0
  EitherSaid f g (First a) = Spelt f a
  EitherSaid f g (Second a) = Spelt g a
  EitherSaid f g a = ⊥

  abbrev pub MaybeSaid : Form → Tree → Type 0
  MaybeSaid f Absent = Unit {0}
  MaybeSaid f (Present a) = Spelt f a
  MaybeSaid f a = ⊥

  abbrev pub ListSaid : Form → Tree → Type 0
  ListSaid f Empty = Unit {0}
  ListSaid f (After s a) = ListSaid f s × Spelt f a
  ListSaid f a = ⊥

  abbrev pub NamedSaid : ℕ → Tree → Type 0
  NamedSaid n (Numbered m a) = Spelt (grammar n) a
  NamedSaid n a = ⊥

  abbrev pub AllSaid : List Form → Tree → Type 0
  AllSaid [] a = Unit {0}
  AllSaid (f ∷ fs) (Pair a b) = MaybeSaid f a × AllSaid fs b
  AllSaid (f ∷ fs) a = ⊥

  kept : {test : Token → Bool} {i k : ℕ} {a : Tree} → Spells tokens grammar (Keep test) i k a → KeepSaid test a
  kept {i = i} (S.keep get ok next) = record { index = i; there = get; passed = ok }

  pub keep_said : {test : Token → Bool} {a : Tree} → Spelt (Keep test) a → KeepSaid test a
  keep_said x = kept x.spelt

  paired : {f g : Form} {i k : ℕ} {a : Tree} → Spells tokens grammar (Then f g) i k a → PairSaid f g a
  paired (S.both one two) =
      (record { start = _; end = _; spelt = one }, record { start = _; end = _; spelt = two })

  pub pair_said : {f g : Form} {a : Tree} → Spelt (Then f g) a → PairSaid f g a
  pair_said {f} {g} x = paired {f = f} {g = g} x.spelt

  chosen : {f g : Form} {i k : ℕ} {a : Tree} → Spells tokens grammar (Or f g) i k a → EitherSaid f g a
  chosen (S.first one) = record { start = _; end = _; spelt = one }
  chosen (S.second one) = record { start = _; end = _; spelt = one }

  pub either_said : {f g : Form} {a : Tree} → Spelt (Or f g) a → EitherSaid f g a
  either_said {f} {g} x = chosen {f = f} {g = g} x.spelt

  optional : {f : Form} {i k : ℕ} {a : Tree} → Spells tokens grammar (Maybe f) i k a → MaybeSaid f a
  optional S.absent = tt
  optional (S.present one) = record { start = _; end = _; spelt = one }

  pub maybe_said : {f : Form} {a : Tree} → Spelt (Maybe f) a → MaybeSaid f a
  maybe_said {f} x = optional {f = f} x.spelt

  called : {n i k : ℕ} {a : Tree} → Spells tokens grammar (Named n) i k a → NamedSaid n a
  called (S.named one) = record { start = _; end = _; spelt = one }

  pub named_said : {n : ℕ} {a : Tree} → Spelt (Named n) a → NamedSaid n a
  named_said {n} x = called {n = n} x.spelt

  listed : {separator : Token → Bool} {f : Form} {s a : Tree} {i k : ℕ} → ListSaid f s →
      Spells tokens grammar (Listed separator s f) i k a → ListSaid f a
  listed before (S.last one) = (before, record { start = _; end = _; spelt = one })
  listed {separator} {f} {s} before (S.more {a = a} one here others) =
      listed {separator = separator} {f = f} {s = After s a} (before, record { start = _; end = _; spelt = one }) others

  pub listed_said : {separator : Token → Bool} {f : Form} {a : Tree} → Spelt (Listed separator Empty f) a → ListSaid f a
  listed_said {separator} {f} x = listed {separator = separator} {f = f} {s = Empty} tt x.spelt

  repeated : {f : Form} {s a : Tree} {i k : ℕ} → ListSaid f s → Spells tokens grammar (Many s f) i k a → ListSaid f a
  repeated before S.no_more = before
  repeated {f} {s} before (S.another {a = a} one others) =
      repeated {f = f} {s = After s a} (before, record { start = _; end = _; spelt = one }) others

  pub many_said : {f : Form} {a : Tree} → Spelt (Many Empty f) a → ListSaid f a
  many_said {f} x = repeated {f = f} {s = Empty} tt x.spelt

  -- ---- clauses in any order

  abbrev pub forms : Slots → List Form
  forms NoSlots = []
  forms (Slot needed f came slots) = f ∷ forms slots

  abbrev pub CameSaid : Slots → Type 0
  CameSaid NoSlots = Unit {0}
  CameSaid (Slot needed f None slots) = CameSaid slots
  CameSaid (Slot needed f (Some a) slots) = Spelt f a × CameSaid slots

  forms_filled : (n : ℕ) (a : Tree) (s : Slots) → forms (filled n a s) ≡ forms s
  forms_filled n a NoSlots = refl
  forms_filled zero a (Slot needed f came s) = refl
  forms_filled (suc n) a (Slot needed f came s) = ap (λ fs. f ∷ fs) (forms_filled n a s)

  came_filled : (n : ℕ) (a : Tree) (s : Slots) → is_open n s ≡ true → Spelt (form_at n s) a → CameSaid s →
      CameSaid (filled n a s)
  came_filled n a NoSlots opened one before = absurd (cc)
  came_filled zero a (Slot needed f None s) opened one before = (one, before)
  came_filled zero a (Slot needed f (Some b) s) opened one before = absurd (cc)
  came_filled (suc n) a (Slot needed f None s) opened one before = came_filled n a s opened one before
  came_filled (suc n) a (Slot needed f (Some b) s) opened one before =
      (before.0, came_filled n a s opened one before.1)

  slots_said : (s : Slots) → CameSaid s → AllSaid (forms s) (slots_tree s)
  slots_said NoSlots before = tt
  slots_said (Slot needed f None s) before = (tt, slots_said s before)
  slots_said (Slot needed f (Some a) s) before = (before.0, slots_said s before.1)

  ordered : {s : Slots} {i k : ℕ} {a : Tree} → CameSaid s → Spells tokens grammar (AnyOrder s) i k a →
      AllSaid (forms s) a
  ordered {s} before (S.enough complete is) = subst (AllSaid (forms s)) (sym is) (slots_said s before)
  ordered {s} before (S.clause {a = a} {b = b} n opened one others) =
      subst (λ fs. AllSaid fs b) (forms_filled n a s)
      (ordered {s = filled n a s} (came_filled n a s opened (record { start = _; end = _; spelt = one }) before) others)

  -- none came before
  pub clauses_said : (s : Slots) {a : Tree} → CameSaid s → Spelt (AnyOrder s) a → AllSaid (forms s) a
  clauses_said s before x = ordered {s = s} before x.spelt

  -- ---- the parts of a list

  pub each_said : {X : Type 0} (f : Form) (view : X → Tree) (Holds : X → Type 0) (before : Tree) (xs : List X) →
      ((x : X) → Spelt f (view x) → Holds x) → ListSaid f (list_tree view before xs) →
      ListSaid f before × AllByRecursion Holds xs
  each_said f view Holds before [] holds said = (said, tt)
  each_said f view Holds before (x ∷ xs) holds said =
      let rest = each_said f view Holds (After before (view x)) xs holds said in
      (rest.0.0, (holds x rest.0.1, rest.1))
