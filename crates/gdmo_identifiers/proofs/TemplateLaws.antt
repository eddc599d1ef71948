-- TemplateLaws: what is told of the identifiers of templates, one after the other.
use Rattle.std.proofs.Common.{◌≡◌, ◌∙◌, ◌<◌, ◌≤◌, ◌+◌, ◌++◌, ◌∷◌, [], ℕ, zero, suc, List, Option, None, Some, refl, sym}
use Rattle.std.proofs.Common.{ap, arith, length, subst, take, get_or, map, true, false, append_assoc}
use Rattle.std.specs.Prelude.{Contains, flat_map, is_some, slice_get}
use Rattle.std.specs.Option.{option_and_then}
use Rattle.std.proofs.lemmas.List.{append-nil, take_all}
use Rattle.std.proofs.lemmas.Option.{none-some, same_Some}
use Rattle.key_numbers.specs.NumberedLists.{Grows, IsList, Row}
use Rattle.key_numbers.proofs.ListLaws.{list_grows}
use Rattle.gdmo_first_names.specs.ReadModules.{AreWhole}
use Rattle.gdmo_names.specs.declared.first_fault.LabelFault.{LabelFault as NotedFault}
use Rattle.gdmo_names.specs.declared.found.Found.{Found}
use Rattle.gdmo_names.specs.FaultSets.{AnyOf, Either, FaultSet, Notes}
use Rattle.gdmo_names.specs.FirstNames.{IsIdentifier}
use Rattle.gdmo_names.specs.FoundViews.{AreTemplates, found_term, found_view, found_views}
use Rattle.gdmo_names.specs.InStep.{AreEach}
use Rattle.gdmo_names.specs.PartTerms.{Placed, PartTerms, identifier_of}
use Rattle.gdmo_names.specs.TemplateTerms.{IdentifierTerm}
use Rattle.gdmo_names.proofs.InStepLaws.{any_both, any_parted, each_both, each_by}
use Rattle.gdmo_names.proofs.NotingLaws.{both_noted, map_more, more, noted_by}
use Rattle.identifier_arcs.specs.KnownArcs.{AreKnown, TellsArcs}
use Rattle.identifier_arcs.proofs.KnownLaws.{one_arcs}
use Rattle.identifier_arcs.specs.declared.known_arcs.KnownArcs.{KnownArcs}
use Rattle.gdmo_identifiers.specs.declared.registrations.Registration.{Registration}
use Rattle.gdmo_identifiers.specs.IdentifierTables.{HasWholeMaybe, IsPlaced, IsRegistered, IsRegistration, MaybeArcs}
use Rattle.gdmo_identifiers.specs.IdentifierTables.{MaybeIdentifier, TellsOids, TellsRegistered}

-- ---- a list that goes in step grows with another one

pub each_more : {A B : Type 0} (Is : A → B → Type 0) {X : Type 0} (view : X → A) (xs : List X) (i : ℕ) (x : X)
    (before after : List B) (n : B) → i < length xs → x ≡ get_or xs i x → after ≡ before ++ n ∷ [] →
    AreEach Is (map view (take i xs)) before → Is (view x) n → AreEach Is (map view (take (i + 1) xs)) after
each_more Is view xs i x before after n within is pushed so_far one =
    subst (AreEach Is (map view (take (i + 1) xs))) (sym pushed)
    (subst (λ ys. AreEach Is ys (before ++ n ∷ [])) (sym (map_more view xs i x within is))
    (each_both Is (map view (take i xs)) before (view x ∷ []) (n ∷ []) so_far (one, tt)))

pub each_end : {A B : Type 0} (Is : A → B → Type 0) {X : Type 0} (view : X → A) (xs : List X) (i : ℕ)
    (made : List B) → length xs ≤ i → AreEach Is (map view (take i xs)) made → AreEach Is (map view xs) made
each_end Is view xs i made past h = subst (λ ys. AreEach Is (map view ys) made) (take_all i xs past) h

-- what is told at a place
pub each_told : {A B : Type 0} (Is : A → Option B → Type 0) {X : Type 0} (view : X → A) (xs : List X)
    (made : List (Option B)) (i : ℕ) (x : X) → AreEach Is (map view xs) made → i < length xs → x ≡ get_or xs i x →
    Is (view x) (option_and_then (λ z. z) (slice_get made i))
each_told Is view [] made i x h within is = absurd (omega (arith, within))
each_told Is view (y ∷ ys) [] i x h within is = absurd h
each_told Is view (y ∷ ys) (z ∷ zs) zero x h within is = subst (λ w. Is (view w) z) (sym is) h.0
each_told Is view (y ∷ ys) (z ∷ zs) (suc i) x h within is =
    each_told Is view ys zs i x h.1 (omega (arith, within)) is

pub each_got : {A B : Type 0} (Is : A → B → Type 0) {X : Type 0} (view : X → A) (xs : List X) (made : List B) (i : ℕ)
    (x : X) (d : B) → AreEach Is (map view xs) made → i < length xs → x ≡ get_or xs i x →
    Is (view x) (get_or made i d)
each_got Is view [] made i x d h within is = absurd (omega (arith, within))
each_got Is view (y ∷ ys) [] i x d h within is = absurd h
each_got Is view (y ∷ ys) (z ∷ zs) zero x d h within is = subst (λ w. Is (view w) z) (sym is) h.0
each_got Is view (y ∷ ys) (z ∷ zs) (suc i) x d h within is =
    each_got Is view ys zs i x d h.1 (omega (arith, within)) is

pub each_length : {A B : Type 0} (Is : A → B → Type 0) {X : Type 0} (view : X → A) (xs : List X) (made : List B) →
    AreEach Is (map view xs) made → length made ≡ length xs
each_length Is view [] [] h = refl
each_length Is view [] (z ∷ zs) h = absurd h
each_length Is view (y ∷ ys) [] h = absurd h
each_length Is view (y ∷ ys) (z ∷ zs) h = ap suc (each_length Is view ys zs h.1)

-- ---- lists of arcs

maybe_grows : (parts : PartTerms) (before after : Row) (x : Option IdentifierTerm) (answer : Option ℕ) →
    Grows before after → MaybeArcs parts before x answer → MaybeArcs parts after x answer
maybe_grows parts before after None answer grows h = h
maybe_grows parts before after (Some x) None grows h = h
maybe_grows parts before after (Some x) (Some n) grows h = (h.0, list_grows grows h.1, h.2)

pub registered_grow : (parts : PartTerms) (before after : Row) → Grows before after → (xs : List Placed)
    (lists : List (Option ℕ)) → AreEach (TellsRegistered parts before) xs lists →
    AreEach (TellsRegistered parts after) xs lists
registered_grow parts before after grows xs lists h = each_by (TellsRegistered parts before)
    (TellsRegistered parts after)
    (λ by answer. maybe_grows parts before after (identifier_of by.template) answer grows) xs lists h

-- the arcs of a template's identifier are whole numbers
pub whole_registered : (parts : PartTerms) (xs : List Found) (i : ℕ) (x : Found) → AreWhole parts →
    AreTemplates parts xs → i < length xs → x ≡ get_or xs i x → HasWholeMaybe (identifier_of (found_term x))
whole_registered parts xs i x whole all within is = by (identifier_of (found_term x)) refl
  where
    stands : (ys : List Found) (k : ℕ) → k < length ys → x ≡ get_or ys k x → Contains (found_views ys) (found_view x)
    stands [] k less at = absurd (omega (arith, less))
    stands (y ∷ ys) zero less at = (0, omega arith, ap found_view (sym at))
    stands (y ∷ ys) (suc k) less at =
        let rest = stands ys k (omega (arith, less)) at in
        (suc rest.0, (let w = rest.1 in omega (arith, w)), rest.2)

    by : (o : Option IdentifierTerm) → identifier_of (found_term x) ≡ o → HasWholeMaybe o
    by None found_is = tt
    by (Some y) found_is = whole.of_templates (found_view x) y (record {
      stands = subst (λ zs. Contains zs (found_view x)) all (stands xs i within is);
      is = found_is;
    })

-- what was told of the templates so far, in the midst of the loop over them
pub record ArcsSoFar (before now : KnownArcs) (xs : List Found) (n : ℕ) (lists : List (Option ℕ)) : Type 0 where
  pub grows : Grows before.numbers.lists now.numbers.lists
  pub keeps : (parts : PartTerms) → AreKnown parts before → AreKnown parts now
  pub told : (parts : PartTerms) → AreKnown parts before → AreWhole parts → AreTemplates parts xs →
      AreEach (TellsRegistered parts now.numbers.lists) (map found_view (take n xs)) lists

pub arcs_begun : (known : KnownArcs) (xs : List Found) (lists : List (Option ℕ)) → lists ≡ [] →
    ArcsSoFar known known xs 0 lists
arcs_begun known xs lists empty = record {
  grows = λ k x h. h;
  keeps = λ parts h. h;
  told = λ parts are whole all. subst (AreEach (TellsRegistered parts known.numbers.lists) []) (sym empty) tt;
}

pub arcs_more : (before now after : KnownArcs) (xs : List Found) (i : ℕ) (x : Found) (lists next : List (Option ℕ))
    (n : Option ℕ) → i < length xs → x ≡ get_or xs i x → next ≡ lists ++ n ∷ [] → ArcsSoFar before now xs i lists →
    Grows now.numbers.lists after.numbers.lists → ((parts : PartTerms) → AreKnown parts now → AreKnown parts after) →
    ((parts : PartTerms) → AreKnown parts now → AreWhole parts → HasWholeMaybe (identifier_of (found_term x)) →
    TellsRegistered parts after.numbers.lists (found_view x) n) → ArcsSoFar before after xs (i + 1) next
arcs_more before now after xs i x lists next n within is pushed so_far grows keeps one = record {
  grows = λ k y h. grows k y (so_far.grows k y h);
  keeps = λ parts h. keeps parts (so_far.keeps parts h);
  told = λ parts are whole all.
      each_more (TellsRegistered parts after.numbers.lists) found_view xs i x lists next n within is pushed
      (registered_grow parts now.numbers.lists after.numbers.lists grows (map found_view (take i xs)) lists
      (so_far.told parts are whole all))
      (one parts (so_far.keeps parts are) whole (whole_registered parts xs i x whole all within is));
}

-- ---- where a template is registered

pub none_registered : (parts : PartTerms) (row : Row) (by : Placed) → TellsOids parts by None →
    IsRegistration parts row by None
none_registered parts row by told = at (identifier_of by.template) told
  where
    at : (o : Option IdentifierTerm) → MaybeIdentifier parts o None → (x : IdentifierTerm) (arcs : List ℕ) →
        o ≡ Some x → ¬ IsIdentifier parts x arcs
    at None h x arcs is good = none-some x is
    at (Some y) h x arcs is good =
        h arcs (subst (λ z. IsIdentifier parts z arcs) (sym (same_Some y x is)) good)

pub unlisted : (parts : PartTerms) (row : Row) (by : Placed) → TellsRegistered parts row by None →
    IsRegistration parts row by None
unlisted parts row by told = at (identifier_of by.template) told
  where
    at : (o : Option IdentifierTerm) → MaybeArcs parts row o None → (x : IdentifierTerm) (arcs : List ℕ) →
        o ≡ Some x → ¬ IsIdentifier parts x arcs
    at None h x arcs is good = none-some x is
    at (Some y) h x arcs is good =
        h arcs (subst (λ z. IsIdentifier parts z arcs) (sym (same_Some y x is)) good).has

pub one_registered : (parts : PartTerms) (row : Row) (by : Placed) (n : ℕ) (own : List ℕ)
    (answer : Option Registration) → TellsRegistered parts row by (Some n) → TellsOids parts by (Some own) →
    IsPlaced (identifier_of by.template) by.document n answer → IsRegistration parts row by answer
one_registered parts row by n own answer listed told placed =
    at (identifier_of by.template) refl listed told placed
  where
    registered : (x : IdentifierTerm) (r : Registration) → identifier_of by.template ≡ Some x →
        TellsArcs parts row x (Some n) → IsIdentifier parts x own → r.list ≡ n → r.document ≡ by.document →
        r.brace.now ≡ x.brace → IsRegistered parts row by r
    registered x r is arcs good list document brace = record {
      x = x;
      is = is;
      arcs = arcs.0;
      list = subst (λ m. IsList row m arcs.0) (sym list) arcs.1;
      good = subst (IsIdentifier parts x) (one_arcs good.has arcs.2) good;
      document = document;
      brace = brace;
    }

    at : (o : Option IdentifierTerm) → identifier_of by.template ≡ o → MaybeArcs parts row o (Some n) →
        MaybeIdentifier parts o (Some own) → IsPlaced o by.document n answer → IsRegistration parts row by answer
    at None is arcs good place = absurd (none-some n (sym arcs))
    at (Some x) is arcs good place =
        subst (IsRegistration parts row by) (sym place.1)
        (registered x place.0 is arcs good place.2 place.3 place.4)

pub placed_told : (parts : PartTerms) (row : Row) (by : Placed) (n : ℕ) (own : Option (List ℕ))
    (answer : Option Registration) → is_some own ≡ true → TellsRegistered parts row by (Some n) →
    TellsOids parts by own → IsPlaced (identifier_of by.template) by.document n answer →
    IsRegistration parts row by answer
placed_told parts row by n None answer is listed told placed = absurd (cc)
placed_told parts row by n (Some own) answer is listed told placed =
    one_registered parts row by n own answer listed told placed

pub unplaced_told : (parts : PartTerms) (row : Row) (by : Placed) (own : Option (List ℕ)) → is_some own ≡ false →
    TellsOids parts by own → IsRegistration parts row by None
unplaced_told parts row by None is told = none_registered parts row by told
unplaced_told parts row by (Some own) is told = absurd (cc)

-- ---- faults of lists, one behind the other

pub noted_append : {X : Type 0} (Faults : X → FaultSet) (xs ys : List X) {one other next : Option NotedFault} →
    Notes (AnyOf Faults xs) one other → Notes (AnyOf Faults ys) other next → Notes (AnyOf Faults (xs ++ ys)) one next
noted_append Faults xs ys p q = noted_by (Either (AnyOf Faults xs) (AnyOf Faults ys)) (AnyOf Faults (xs ++ ys))
    (any_both Faults xs ys) (any_parted Faults xs ys) (both_noted (AnyOf Faults xs) (AnyOf Faults ys) p q)

flat_last : {X Y : Type 0} (view : X → List Y) (xs : List X) (x : X) →
    flat_map view (xs ++ x ∷ []) ≡ flat_map view xs ++ view x
flat_last view [] x = append-nil (view x)
flat_last view (y ∷ ys) x = ap (λ zs. view y ++ zs) (flat_last view ys x) ∙
    sym (append_assoc (view y) (flat_map view ys) (view x))

pub flat_noted : {X Y : Type 0} (Faults : Y → FaultSet) (view : X → List Y) (front : List Y) (xs : List X) (i : ℕ)
    (x : X) {one other next : Option NotedFault} → i < length xs → x ≡ get_or xs i x →
    Notes (AnyOf Faults (front ++ flat_map view (take i xs))) one other → Notes (AnyOf Faults (view x)) other next →
    Notes (AnyOf Faults (front ++ flat_map view (take (i + 1) xs))) one next
flat_noted Faults view front xs i x {one = one} {next = next} within is p q =
    subst (λ ys. Notes (AnyOf Faults ys) one next)
    (append_assoc front (flat_map view (take i xs)) (view x) ∙ ap (λ ys. front ++ ys)
    (sym (ap (flat_map view) (more xs i x within is) ∙ flat_last view (take i xs) x)))
    (noted_append Faults (front ++ flat_map view (take i xs)) (view x) p q)
