-- EachLaws: records that are made one behind the other, each of the part at its place.
use Rattle.std.proofs.Common.{◌≡◌, ◌<◌, ◌≤◌, ◌∙◌, ◌+◌, ◌++◌, ◌∷◌, [], ℕ, List, Option, Some, ap, length, refl, sym}
use Rattle.std.proofs.Common.{suc, zero}
use Rattle.std.proofs.Common.{arith, get_or, take}
use Rattle.std.specs.Prelude.{All, Err, IfOk, Ok, Result, option_to_list, slice_get}
use Rattle.std.proofs.Math.Path.{subst}
use Rattle.std.proofs.lemmas.List.{take_all, take_more}
use Rattle.std.proofs.lemmas.Option.{get_or_from_slice_get, slice_get-get_or, slice_get_within}
use Rattle.linked_parts.specs.declared.linked.LinkedHead.{LinkedHead}
use Rattle.linked_types.specs.KnownParts.{identifier_at}
use Rattle.linked_types.specs.PartIdentifiers.{AreEach, AreIdentified, IsIdentified}
use Rattle.schema_records.specs.AddedRecords.{Adds}
use Rattle.schema_records.specs.RegisteredParts.{IsRegisteredAt}

-- what holds of each element holds of the one at a place
pub all_at : {A : Type 0} (P : A → Type 0) (xs : List A) (k : ℕ) (x : A) → All P xs → slice_get xs k ≡ Some x → P x
all_at P xs k x all at = subst P (get_or_from_slice_get xs k x x at) (all k x (slice_get_within xs k x at))

pub there_of : {A : Type 0} (xs : List A) (k : ℕ) → k < length xs → (x : A) × (slice_get xs k ≡ Some x)
there_of [] k within = absurd (omega arith)
there_of (x ∷ xs) zero within = (x, refl)
there_of (x ∷ xs) (suc k) within = there_of xs k (omega arith)

pub take_one : {A : Type 0} (xs : List A) (i : ℕ) (x : A) → slice_get xs i ≡ Some x →
    take (i + 1) xs ≡ take i xs ++ x ∷ []
take_one xs i x at = take_more xs i x (slice_get_within xs i x at)
    ∙ ap (λ y. take i xs ++ y ∷ []) (get_or_from_slice_get xs i x x at)

pub each_last : {A B : Type 0} (Is : A → B → Type 0) (xs : List A) (x : A) (ys : List B) (y : B) → AreEach Is xs ys →
    Is x y → AreEach Is (xs ++ x ∷ []) (ys ++ y ∷ [])
each_last Is [] x [] y each is = (is, tt)
each_last Is [] x (z ∷ ys) y each is = absurd each
each_last Is (w ∷ xs) x [] y each is = absurd each
each_last Is (w ∷ xs) x (z ∷ ys) y each is = (each.0, each_last Is xs x ys y each.1 is)

pub each_pushed : {A B : Type 0} (Is : A → B → Type 0) (xs : List A) (x : A) (ys zs : List B) → AreEach Is xs ys →
    Adds Is x ys zs → AreEach Is (xs ++ x ∷ []) zs
each_pushed Is xs x ys zs each added =
    subst (AreEach Is (xs ++ x ∷ [])) (sym added.behind) (each_last Is xs x ys added.x each added.is)

pub each_none : {A B : Type 0} (Is : A → B → Type 0) (ys : List B) → ys ≡ [] → AreEach Is [] ys
each_none Is ys is = subst (AreEach Is []) (sym is) tt

pub each_added : {A B : Type 0} (Is : A → B → Type 0) (xs : List A) (i : ℕ) (x : A) (ys zs : List B) →
    slice_get xs i ≡ Some x → AreEach Is (take i xs) ys → Adds Is x ys zs → AreEach Is (take (i + 1) xs) zs
each_added Is xs i x ys zs at each added =
    subst (λ ws. AreEach Is ws zs) (sym (take_one xs i x at)) (each_pushed Is (take i xs) x ys zs each added)

pub each_whole : {A B : Type 0} (Is : A → B → Type 0) (xs : List A) (i : ℕ) (ys : List B) → length xs ≤ i →
    AreEach Is (take i xs) ys → AreEach Is xs ys
each_whole Is xs i ys past each = subst (λ ws. AreEach Is ws ys) (take_all i xs past) each

pub each_by : {A B : Type 0} (One Other : A → B → Type 0) → ((x : A) (y : B) → One x y → Other x y) → (xs : List A)
    (ys : List B) → AreEach One xs ys → AreEach Other xs ys
each_by One Other to [] [] each = tt
each_by One Other to [] (y ∷ ys) each = absurd each
each_by One Other to (x ∷ xs) [] each = absurd each
each_by One Other to (x ∷ xs) (y ∷ ys) each = (to x y each.0, each_by One Other to xs ys each.1)

-- what holds of an answer gives what else holds of it
pub ok_by : {T E : Type 0} (answer : Result T E) (One Other : T → Type 0) → ((x : T) → One x → Other x) →
    IfOk answer One → IfOk answer Other
ok_by (Ok x) One Other to one = to x one
ok_by (Err e) One Other to one = tt

-- ---- identifiers

-- the identifier of the template at one place more, which is registered
pub identified_added : {L : Type 0} (head : L → LinkedHead) (parts : List L) (places : List ℕ) (i : ℕ)
    (before after : List (List ℕ)) (found : Option (List ℕ)) → All (IsRegisteredAt head parts) places →
    i < length places → found ≡ identifier_at head parts (get_or places i 0) →
    after ≡ before ++ option_to_list found → AreIdentified head parts (take i places) before →
    AreIdentified head parts (take (i + 1) places) after
identified_added head parts places i before after found all within is pushed each =
    let there = all i 0 within in
    each_added (IsIdentified head parts) places i (get_or places i 0) before after (slice_get-get_or places i 0 within)
    each (record {
      x = there.0;
      behind = pushed ∙ ap (λ o. before ++ option_to_list o) (is ∙ there.1);
      is = there.1;
    })
