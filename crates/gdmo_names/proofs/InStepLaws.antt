-- InStepLaws: lists that go in step, and a loop that makes an element for each element of a list and notes its faults.
use Rattle.std.proofs.Common.{◌≡◌, ◌<◌, ◌≤◌, ◌∙◌, ◌+◌, ℕ, List, [], ◌∷◌, ◌++◌, Option, refl, sym, ap, get_or, length}
use Rattle.std.proofs.Common.{take, map, inl, inr, ◌⊎◌}
use Rattle.std.proofs.lemmas.List.{append-nil, append_assoc, take_all}
use Rattle.std.proofs.Math.Path.{subst}
use Rattle.gdmo_names.specs.declared.first_fault.LabelFault.{LabelFault as NotedFault}
use Rattle.gdmo_names.specs.FaultSets.{AnyOf, FaultSet, Notes}
use Rattle.gdmo_names.specs.FirstLabelFault.{LabelFault}
use Rattle.gdmo_names.specs.InStep.{AddsEach, AreAll, AreEach}
use Rattle.gdmo_names.proofs.NotingLaws.{any_more, any_none, map_more, more, noted_end, noted_step}

pub each_by : {A B : Type 0} (One Other : A → B → Type 0) → ((x : A) (y : B) → One x y → Other x y) → (xs : List A)
    (ys : List B) → AreEach One xs ys → AreEach Other xs ys
each_by One Other to [] [] h = tt
each_by One Other to [] (y ∷ ys) h = absurd h
each_by One Other to (x ∷ xs) [] h = absurd h
each_by One Other to (x ∷ xs) (y ∷ ys) h = (to x y h.0, each_by One Other to xs ys h.1)

pub each_both : {A B : Type 0} (Is : A → B → Type 0) (xs : List A) (ys : List B) (zs : List A) (ws : List B) →
    AreEach Is xs ys → AreEach Is zs ws → AreEach Is (xs ++ zs) (ys ++ ws)
each_both Is [] [] zs ws h i = i
each_both Is [] (y ∷ ys) zs ws h i = absurd h
each_both Is (x ∷ xs) [] zs ws h i = absurd h
each_both Is (x ∷ xs) (y ∷ ys) zs ws h i = (h.0, each_both Is xs ys zs ws h.1 i)

pub each_last : {A B : Type 0} (Is : A → B → Type 0) (xs : List A) (x : A) (ys : List B) →
    AreEach Is (xs ++ x ∷ []) ys →
    (before : List B) × (y : B) × (ys ≡ before ++ y ∷ []) × (AreEach Is xs before) × Is x y
each_last Is [] x [] h = absurd h
each_last Is [] x (y ∷ []) h = ([], y, refl, tt, h.0)
each_last Is [] x (y ∷ z ∷ zs) h = absurd h.1
each_last Is (w ∷ ws) x [] h = absurd h
each_last Is (w ∷ ws) x (y ∷ ys) h = let found = each_last Is ws x ys h.1 in
    (y ∷ found.0, found.1, ap (λ zs. y ∷ zs) found.2, (h.0, found.3), found.4)

-- ---- a loop over a list that goes in step with another one: for each element of that one it makes an element, and
-- notes the faults of that one

abbrev pub MadeOf : {A B C : Type 0} → (A → B → Type 0) → (B → C → Type 0) → (B → FaultSet) → List A → List C →
    Option NotedFault → Option NotedFault → Type 0
MadeOf {B = B} Is Makes Faults xs made one other = (ys : List B) → AreEach Is xs ys →
    AreEach Makes ys made × Notes (AnyOf Faults ys) one other

pub made_none : {A B C : Type 0} (Is : A → B → Type 0) (Makes : B → C → Type 0) (Faults : B → FaultSet)
    (made : List C) (one : Option NotedFault) → made ≡ [] → MadeOf Is Makes Faults [] made one one
made_none Is Makes Faults made one is [] h = (subst (AreEach Makes []) (sym is) tt, any_none Faults one)
made_none Is Makes Faults made one is (y ∷ ys) h = absurd h

pub made_step : {A B C : Type 0} (Is : A → B → Type 0) (Makes : B → C → Type 0) (Faults : B → FaultSet) (xs : List A)
    (i : ℕ) (x : A) (made after : List C) (n : C) {one other next : Option NotedFault} → i < length xs →
    x ≡ get_or xs i x → after ≡ made ++ n ∷ [] → MadeOf Is Makes Faults (take i xs) made one other →
    ((y : B) → Is x y → Makes y n × Notes (Faults y) other next) →
    MadeOf Is Makes Faults (take (i + 1) xs) after one next
made_step Is Makes Faults xs i x made after n {one = one} {next = next} within is made_is so_far last ys each =
    let parted = each_last Is (take i xs) x ys (subst (λ zs. AreEach Is zs ys) (more xs i x within is) each) in
    let front = so_far parted.0 parted.3 in
    let this = last parted.1 parted.4 in (
      subst (λ zs. AreEach Makes ys zs) (sym made_is) (subst (λ zs. AreEach Makes zs (made ++ n ∷ [])) (sym parted.2)
          (each_both Makes parted.0 made (parted.1 ∷ []) (n ∷ []) front.0 (this.0, tt))),
      any_more Faults parted.0 ys parted.1 parted.2 front.1 this.1,
    )

pub made_end : {A B C : Type 0} (Is : A → B → Type 0) (Makes : B → C → Type 0) (Faults : B → FaultSet) (xs : List A)
    (i : ℕ) (made : List C) {one next : Option NotedFault} → length xs ≤ i →
    MadeOf Is Makes Faults (take i xs) made one next → MadeOf Is Makes Faults xs made one next
made_end Is Makes Faults xs i made {one = one} {next = next} past h =
    subst (λ ys. MadeOf Is Makes Faults ys made one next) (take_all i xs past) h

-- ---- each element of a list

pub all_by : {A : Type 0} (One Other : A → Type 0) → ((x : A) → One x → Other x) → (xs : List A) → AreAll One xs →
    AreAll Other xs
all_by One Other to [] h = tt
all_by One Other to (x ∷ xs) h = (to x h.0, all_by One Other to xs h.1)

pub all_both : {A : Type 0} (Is : A → Type 0) (xs ys : List A) → AreAll Is xs → AreAll Is ys → AreAll Is (xs ++ ys)
all_both Is [] ys h i = i
all_both Is (x ∷ xs) ys h i = (h.0, all_both Is xs ys h.1 i)

-- ---- elements that are added

pub added_none : {A B : Type 0} (Is : A → B → Type 0) (begun : List B) → AddsEach Is [] begun begun
added_none Is begun = record { more = []; behind = sym (append-nil begun); each = tt }

pub added_one : {A B : Type 0} (Is : A → B → Type 0) (x : A) (n : B) (before after : List B) → Is x n →
    after ≡ before ++ n ∷ [] → AddsEach Is (x ∷ []) before after
added_one Is x n before after is behind = record { more = n ∷ []; behind = behind; each = (is, tt) }

pub added_both : {A B : Type 0} (Is : A → B → Type 0) (xs ys : List A) (before between after : List B) →
    AddsEach Is xs before between → AddsEach Is ys between after → AddsEach Is (xs ++ ys) before after
added_both Is xs ys before between after p q = record {
  more = p.more ++ q.more;
  behind = q.behind ∙ ap (λ zs. zs ++ q.more) p.behind ∙ append_assoc before p.more q.more;
  each = each_both Is xs p.more ys q.more p.each q.each;
}

pub added_all : {A B : Type 0} (Is : A → B → Type 0) (xs : List A) (before after : List B) → before ≡ [] →
    AddsEach Is xs before after → AreEach Is xs after
added_all Is xs before after empty h =
    subst (AreEach Is xs) (sym (h.behind ∙ ap (λ zs. zs ++ h.more) empty)) h.each

-- ---- a loop that adds an element for each element of a list, and notes its faults

abbrev pub AddsNoted : {A B : Type 0} → (A → B → Type 0) → (A → FaultSet) → List A → List B → List B →
    Option NotedFault → Option NotedFault → Type 0
AddsNoted Is Faults xs before after noted then_noted =
    (AddsEach Is xs before after) × Notes (AnyOf Faults xs) noted then_noted

pub noted_none : {A B : Type 0} (Is : A → B → Type 0) (Faults : A → FaultSet) (begun : List B)
    (noted : Option NotedFault) → AddsNoted Is Faults [] begun begun noted noted
noted_none Is Faults begun noted = (added_none Is begun, any_none Faults noted)

pub noted_one_more : {X A B : Type 0} (Is : A → B → Type 0) (Faults : A → FaultSet) (view : X → A) (xs : List X) (i : ℕ)
    (x : X) (begun before after : List B) (n : B) {noted between next : Option NotedFault} → i < length xs →
    x ≡ get_or xs i x → after ≡ before ++ n ∷ [] →
    AddsNoted Is Faults (map view (take i xs)) begun before noted between →
    (Is (view x) n) × Notes (Faults (view x)) between next →
    AddsNoted Is Faults (map view (take (i + 1) xs)) begun after noted next
noted_one_more Is Faults view xs i x begun before after n within is behind so_far one = (
  subst (λ ys. AddsEach Is ys begun after) (sym (map_more view xs i x within is))
      (added_both Is (map view (take i xs)) (view x ∷ []) begun before after so_far.0
      (added_one Is (view x) n before after one.0 behind)),
  noted_step Faults view xs i x within is so_far.1 one.1,
)

pub noted_all : {X A B : Type 0} (Is : A → B → Type 0) (Faults : A → FaultSet) (view : X → A) (xs : List X) (i : ℕ)
    (begun made : List B) {noted next : Option NotedFault} → length xs ≤ i →
    AddsNoted Is Faults (map view (take i xs)) begun made noted next →
    AddsNoted Is Faults (map view xs) begun made noted next
noted_all Is Faults view xs i begun made past h = (
  subst (λ ys. AddsEach Is (map view ys) begun made) (take_all i xs past) h.0,
  noted_end Faults view xs i past h.1,
)

-- the same of a new list
pub noted_whole : {X A B : Type 0} (Is : A → B → Type 0) (Faults : A → FaultSet) (view : X → A) (xs : List X) (i : ℕ)
    (begun made : List B) {noted next : Option NotedFault} → begun ≡ [] → length xs ≤ i →
    AddsNoted Is Faults (map view (take i xs)) begun made noted next →
    (AreEach Is (map view xs) made) × Notes (AnyOf Faults (map view xs)) noted next
noted_whole Is Faults view xs i begun made empty past h =
    let all = noted_all Is Faults view xs i begun made past h in
    (added_all Is (map view xs) begun made empty all.0, all.1)

pub map_same : {A : Type 0} (xs : List A) → map (λ x. x) xs ≡ xs
map_same [] = refl
map_same (x ∷ xs) = ap (λ ys. x ∷ ys) (map_same xs)

-- ---- faults of two lists, one behind the other

pub any_both : {X : Type 0} (Faults : X → FaultSet) (xs ys : List X) (kind : LabelFault) (document token : ℕ) →
    (AnyOf Faults xs kind document token) ⊎ (AnyOf Faults ys kind document token) →
    AnyOf Faults (xs ++ ys) kind document token
any_both Faults [] ys kind document token (inl here) = absurd here
any_both Faults [] ys kind document token (inr behind) = behind
any_both Faults (x ∷ xs) ys kind document token (inl (inl here)) = inl here
any_both Faults (x ∷ xs) ys kind document token (inl (inr behind)) =
    inr (any_both Faults xs ys kind document token (inl behind))
any_both Faults (x ∷ xs) ys kind document token (inr behind) =
    inr (any_both Faults xs ys kind document token (inr behind))

pub any_parted : {X : Type 0} (Faults : X → FaultSet) (xs ys : List X) (kind : LabelFault) (document token : ℕ) →
    AnyOf Faults (xs ++ ys) kind document token →
    (AnyOf Faults xs kind document token) ⊎ (AnyOf Faults ys kind document token)
any_parted Faults [] ys kind document token fault = inr fault
any_parted Faults (x ∷ xs) ys kind document token (inl here) = inl (inl here)
any_parted Faults (x ∷ xs) ys kind document token (inr behind) =
    elim (any_parted Faults xs ys kind document token behind) as
    (λ _. (AnyOf Faults (x ∷ xs) kind document token) ⊎ (AnyOf Faults ys kind document token)) [
      | inl one ↦ inl (inr one)
      | inr one ↦ inr one
    ]

-- the same of a slice of the list
pub at_slice : {X A B : Type 0} (Is : A → B → Type 0) (Faults : A → FaultSet) (view : X → A) {xs ys : List X}
    (made : List B) {noted next : Option NotedFault} → xs ≡ ys →
    (AreEach Is (map view xs) made) × Notes (AnyOf Faults (map view xs)) noted next →
    (AreEach Is (map view ys) made) × Notes (AnyOf Faults (map view ys)) noted next
at_slice Is Faults view made {noted = noted} {next = next} is h = (
  subst (λ zs. AreEach Is (map view zs) made) is h.0,
  subst (λ zs. Notes (AnyOf Faults (map view zs)) noted next) is h.1,
)
