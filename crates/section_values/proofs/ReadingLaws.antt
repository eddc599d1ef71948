-- ReadingLaws: a loop that reads the texts of each element of a list: it notes those that denote no value, and keeps
-- what is told of each element.
use Rattle.std.proofs.Common.{◌≡◌, ◌<◌, ◌≤◌, ◌∙◌, ◌+◌, ℕ, zero, suc, List, [], ◌∷◌, ◌++◌, Option, None, Some}
use Rattle.std.proofs.Common.{refl, sym, ap, arith, length, get_or, take}
use Rattle.std.specs.Prelude.{Contains, option_to_list, slice_get, slice_index_or}
use Rattle.std.proofs.Math.Path.{subst}
use Rattle.std.proofs.lemmas.List.{take_all, take_more}
use Rattle.std.proofs.lemmas.Option.{same_Some, slice_get_read}
use Rattle.filled_syntaxes.specs.NotedTexts.{EachText, NotesTexts, TextSet}
use Rattle.filled_syntaxes.specs.declared.bad_texts.TextPlace.{TextPlace}
use Rattle.filled_syntaxes.proofs.NotingTexts.{each_push, none_each}
use Rattle.linked_types.specs.PartIdentifiers.{AreEach}
use Rattle.section_values.specs.ToldSections.{HoldsOfEach, TellsSome}

-- ---- what a list contains, by its place

pub get_contained : {X : Type 0} (xs : List X) (k : ℕ) (x : X) → slice_get xs k ≡ Some x → Contains xs x
get_contained [] k x is = absurd (cc)
get_contained (y ∷ xs) zero x is = (0, omega arith, same_Some y x is)
get_contained (y ∷ xs) (suc k) x is =
    let rest = get_contained xs k x is in
    let within = rest.1 in (suc rest.0, omega (arith, within), rest.2)

pub contained_get : {X : Type 0} (xs : List X) (x : X) → Contains xs x → (k : ℕ) × (slice_get xs k ≡ Some x)
contained_get {X} xs x (k, within, is) = by xs k within is
  where
    by : (ys : List X) (j : ℕ) → j < length ys → slice_index_or ys j x ≡ x → (k : ℕ) × (slice_get ys k ≡ Some x)
    by [] j within is = absurd (omega (arith, within))
    by (y ∷ ys) zero within is = (0, ap (λ z. Some z) is)
    by (y ∷ ys) (suc j) within is = let rest = by ys j (omega (arith, within)) is in (suc rest.0, rest.1)

-- ---- lists in step

pub each_both : {A B : Type 0} (Is : A → B → Type 0) (xs : List A) (ys : List B) (zs : List A) (ws : List B) →
    AreEach Is xs ys → AreEach Is zs ws → AreEach Is (xs ++ zs) (ys ++ ws)
each_both Is [] [] zs ws h i = i
each_both Is [] (y ∷ ys) zs ws h i = absurd h
each_both Is (x ∷ xs) [] zs ws h i = absurd h
each_both Is (x ∷ xs) (y ∷ ys) zs ws h i = (h.0, each_both Is xs ys zs ws h.1 i)

one_told : {X Y : Type 0} (Is : X → Y → Type 0) (x : X) (told : Option Y) → TellsSome (Is x) told →
    AreEach Is (x ∷ []) (option_to_list told)
one_told Is x None h = absurd h
one_told Is x (Some y) h = (h, tt)

-- ---- the loop

-- the texts of the elements before a place have been read
pub record ReadBefore {X Y : Type 0} (Texts : X → TextSet) (Good : X → Type 0) (Is : X → Y → Type 0) (xs : List X)
    (i : ℕ) (ys : List Y) (before after : Option TextPlace) : Type 0 where
  pub noted : NotesTexts (EachText (λ k. Texts) (take i xs)) before after
  pub told : HoldsOfEach Good xs → AreEach Is (take i xs) ys

pub read_none : {X Y : Type 0} (Texts : X → TextSet) (Good : X → Type 0) (Is : X → Y → Type 0) (xs : List X)
    (ys : List Y) (before : Option TextPlace) → ys ≡ [] → ReadBefore Texts Good Is xs 0 ys before before
read_none Texts Good Is xs ys before is = record {
  noted = none_each (λ k. Texts) before;
  told = λ good. subst (λ zs. AreEach Is [] zs) (sym is) tt;
}

more : {X : Type 0} (xs : List X) (i : ℕ) (x : X) → i < length xs → x ≡ get_or xs i x →
    take (i + 1) xs ≡ take i xs ++ x ∷ []
more xs i x within is = take_more xs i x within ∙ ap (λ y. take i xs ++ y ∷ []) (sym is)

pub read_step : {X Y : Type 0} (Texts : X → TextSet) (Good : X → Type 0) (Is : X → Y → Type 0) (xs : List X) (i : ℕ)
    (x : X) (told : Option Y) (ys zs : List Y) {before between after : Option TextPlace} → i < length xs →
    x ≡ get_or xs i x → zs ≡ ys ++ option_to_list told → (Good x → TellsSome (Is x) told) →
    NotesTexts (Texts x) between after → ReadBefore Texts Good Is xs i ys before between →
    ReadBefore Texts Good Is xs (i + 1) zs before after
read_step Texts Good Is xs i x told ys zs {before = before} {after = after} within is pushed tells noted h = record {
  noted = subst (λ l. NotesTexts (EachText (λ k. Texts) l) before after) (sym (more xs i x within is))
      (each_push (λ k. Texts) (take i xs) x h.noted noted);
  told = λ good.
      subst (λ l. AreEach Is l zs) (sym (more xs i x within is))
      (subst (λ l. AreEach Is (take i xs ++ x ∷ []) l) (sym pushed)
      (each_both Is (take i xs) ys (x ∷ []) (option_to_list told) (h.told good)
      (one_told Is x told (tells (good i x (slice_get_read xs (length xs) i x refl within is))))));
}

pub read_all : {X Y : Type 0} (Texts : X → TextSet) (Good : X → Type 0) (Is : X → Y → Type 0) (xs : List X) (i : ℕ)
    (ys : List Y) {before after : Option TextPlace} → length xs ≤ i → ReadBefore Texts Good Is xs i ys before after →
    NotesTexts (EachText (λ k. Texts) xs) before after
read_all Texts Good Is xs i ys {before = before} {after = after} past h =
    subst (λ l. NotesTexts (EachText (λ k. Texts) l) before after) (take_all i xs past) h.noted

pub told_all : {X Y : Type 0} (Texts : X → TextSet) (Good : X → Type 0) (Is : X → Y → Type 0) (xs : List X) (i : ℕ)
    (ys : List Y) {before after : Option TextPlace} → length xs ≤ i → ReadBefore Texts Good Is xs i ys before after →
    HoldsOfEach Good xs → AreEach Is xs ys
told_all Texts Good Is xs i ys past h good = subst (λ l. AreEach Is l ys) (take_all i xs past) (h.told good)
