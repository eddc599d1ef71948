-- NotedTexts: texts that denote no value, by document and token, and that of those noted before and those of a set the
-- first is kept (docs/PROFILE.md, section 18).
use Rattle.std.specs.Prelude.{◌≡◌, ◌⊎◌, ◌<◌, ◌≤◌, ℕ, List, Option, Some, slice_get}
use Rattle.filled_syntaxes.specs.declared.bad_texts.TextPlace.{TextPlace}

-- one text stands no later than another
pub data IsNoLater (x y : TextPlace) : Type 0 where
  earlier_document : x.document < y.document → IsNoLater x y
  same_document : x.document ≡ y.document → x.token ≤ y.token → IsNoLater x y

abbrev pub TextSet : Type 1
TextSet = TextPlace → Type 0

-- one text
abbrev pub ThisText : ℕ → ℕ → TextSet
ThisText document token place = (document ≡ place.document) × (token ≡ place.token)

-- the texts of two sets
abbrev pub EitherText : TextSet → TextSet → TextSet
EitherText One Other place = One place ⊎ Other place

-- those of the elements of a list, each told by its place and the element
abbrev pub EachText : {X : Type 0} → (ℕ → X → TextSet) → List X → TextSet
EachText {X} Texts items place = (k : ℕ) × ((x : X) × (slice_get items k ≡ Some x) × Texts k x place)

-- this text is kept, or one before it
abbrev pub KeepsText : Option TextPlace → TextPlace → Type 0
KeepsText after place = (x : TextPlace) × (after ≡ Some x) × IsNoLater x place

-- of what was noted before and the texts of a set the first is kept
pub record NotesTexts (Texts : TextSet) (before after : Option TextPlace) : Type 0 where
  pub there : (x : TextPlace) → after ≡ Some x → (before ≡ Some x) ⊎ Texts x
  pub kept : (x : TextPlace) → before ≡ Some x → KeepsText after x
  pub least : (place : TextPlace) → Texts place → KeepsText after place
