-- The tests of the matching rules tell what the rules say.
use Rattle.std.proofs.Common.{◌≡◌, ◌↔◌, ◌+◌, ◌-◌, ◌<◌, ◌≤◌, ℕ, Bool, true, false, List, Option, Some}
use Rattle.std.proofs.Common.{length, refl, sym, ap, ◌∙◌, subst, arith, ⊎_elim, inl, inr, IsTrue, unwrap_or, IfOk}
use Rattle.std.proofs.Common.{Result, Ok, Err}
use Rattle.std.proofs.lemmas.Bool.{and_from, and_parts, cases_Bool, false≢true, or_cases, or_left, or_right}
use Rattle.term_values.specs.Matching.{AreHeld, Have, HaveCommon, Matches}
use Rattle.term_values.specs.MatchingKinds.{MatchingRule}
use Rattle.term_values.specs.MatchingKinds.MatchingRule.{Equality, Ordering, Substrings, Comparison, Intersection}
use Rattle.term_values.specs.MatchingPieces.{IsPlaced, StandFrom}
use Rattle.term_values.specs.Typed.{TypedValue, TypedValues}
use Rattle.term_values.specs.Typed.TypedValue.{Octets, Text, Many, Pick}
use Rattle.term_values.specs.Typed.TypedValues.{Nothing, Then}
use Rattle.term_values.specs.SameValue.{same_value}
use Rattle.value_match.proofs.SameIs.{are_equal, equal_same}
use Rattle.term_model.specs.MatchTests.{are_held, do_match, have, have_common, is_placed, octets_piece}
use Rattle.term_model.specs.MatchTests.{stand_from, text_piece}
use Rattle.cmis_filter.proofs.SearchLaws.{any_range, at_stands, is_then_placed, option_true, placed_is, range_any}
use Rattle.cmis_filter.proofs.SearchLaws.{stands_at, true_option, within_text}

have_is : (xs : TypedValues) (value : TypedValue) → have xs value ≡ true → Have xs value
have_is Nothing value e = false≢true e
have_is (Then x xs) value e =
    ⊎_elim
    (λ (here : same_value x value ≡ true). inl (are_equal x value here))
    (λ (there : have xs value ≡ true). inr (have_is xs value there))
    (or_cases _ _ e)

is_had : (xs : TypedValues) (value : TypedValue) → Have xs value → have xs value ≡ true
is_had Nothing value h = absurd h
is_had (Then x xs) value h =
    ⊎_elim
    (λ (here : x ≡ value). or_left _ _ (equal_same x value here))
    (λ (there : Have xs value). or_right _ _ (is_had xs value there))
    h

held_is : (xs held : TypedValues) → are_held xs held ≡ true → AreHeld xs held
held_is Nothing held e member h = absurd h
held_is (Then x xs) held e member h =
    let parts = and_parts _ _ e in
    ⊎_elim
    (λ (here : x ≡ member). subst (Have held) here (have_is held x parts.0))
    (λ (there : Have xs member). held_is xs held parts.1 member there)
    h

is_held : (xs held : TypedValues) → AreHeld xs held → are_held xs held ≡ true
is_held Nothing held h = refl
is_held (Then x xs) held h =
    and_from _ _ (is_had held x (h x (inl refl))) (is_held xs held (λ member m. h member (inr m)))

common_is : (xs held : TypedValues) → have_common xs held ≡ true → HaveCommon xs held
common_is Nothing held e = absurd (false≢true e)
common_is (Then x xs) held e =
    ⊎_elim
    (λ (here : have held x ≡ true). (x, inl refl, have_is held x here))
    (λ (there : have_common xs held ≡ true).
    let found = common_is xs held there in
    (found.0, inr found.1, found.2))
    (or_cases _ _ e)

is_common : (xs held : TypedValues) → HaveCommon xs held → have_common xs held ≡ true
is_common Nothing held h = absurd h.1
is_common (Then x xs) held h =
    ⊎_elim
    (λ (here : x ≡ h.0). or_left _ _ (is_had held x (subst (Have held) (sym here) h.2)))
    (λ (there : Have xs h.0). or_right _ _ (is_common xs held (h.0, there, h.2)))
    h.1

-- what is a piece, and only that, is taken for one
record IsPieces (form : List ℕ → TypedValue) (piece : TypedValue → Option (ℕ × List ℕ)) : Type 0 where
  pub sound : (value : TypedValue) (kind : ℕ) (octets : List ℕ) → piece value ≡ Some (kind, octets)
      → value ≡ Pick kind (form octets)
  pub complete : (kind : ℕ) (octets : List ℕ) → piece (Pick kind (form octets)) ≡ Some (kind, octets)

stand_is : (form : List ℕ → TypedValue) (piece : TypedValue → Option (ℕ × List ℕ)) → IsPieces form piece
    → (text : List ℕ) (from : ℕ) (values : TypedValues) → stand_from piece text from values ≡ true
    → StandFrom form text from values
stand_is form piece law text from Nothing e = tt
stand_is form piece law text from (Then value values) e =
    let found = option_true _ (piece value) e in
    let kind = found.0.0 in
    let octets = found.0.1 in
    let at = range_any _ from (length text + 1 - from) found.2 in
    let place = at.0 in
    let low : from ≤ place = at.1 in
    let high : place < from + (length text + 1 - from) = at.2 in
    let both = and_parts _ _ at.3 in
    let stands = and_parts _ _ both.0 in (
      kind,
      octets,
      place + length octets,
      law.sound value kind octets found.1,
      (
        place,
        low,
        stands_at text place octets (omega arith) stands.0,
        placed_is kind place (place + length octets) (length text) stands.1,
        refl,
      ),
      stand_is form piece law text (place + length octets) values both.1,
    )

is_standing : (form : List ℕ → TypedValue) (piece : TypedValue → Option (ℕ × List ℕ)) → IsPieces form piece
    → (text : List ℕ) (from : ℕ) (values : TypedValues) → StandFrom form text from values
    → stand_from piece text from values ≡ true
is_standing form piece law text from Nothing h = refl
is_standing form piece law text from (Then value values) h =
    let kind = h.0 in
    let octets = h.1 in
    let end = h.2 in
    let ending = h.4 in
    let place = ending.0 in
    let low : from ≤ place = ending.1 in
    let within : place ≤ length text = within_text text place octets ending.2 in
    let placed : is_placed kind place (place + length octets) (length text) ≡ true =
    is_then_placed kind place (place + length octets) (length text)
    (subst (λ (e : ℕ). IsPlaced kind place e (length text)) ending.4 ending.3) in
    let others : stand_from piece text (place + length octets) values ≡ true =
    subst (λ (e : ℕ). stand_from piece text e values ≡ true) ending.4
    (is_standing form piece law text end values h.5) in
    true_option _ (piece value) (kind, octets) (ap piece h.3 ∙ law.complete kind octets)
    (any_range _ from (length text + 1 - from) place low (omega arith)
    (and_from _ _ (and_from _ _ (at_stands text place octets ending.2) placed) others))

text_is : (value : TypedValue) (kind : ℕ) (octets : List ℕ) → text_piece value ≡ Some (kind, octets)
    → value ≡ Pick kind (Text octets)
text_is (Pick n (Text xs)) kind octets e =
    let pair = ap (λ (o : Option (ℕ × List ℕ)). unwrap_or o (kind, octets)) e in
    λ i. Pick (pair i).0 (Text (pair i).1)
text_is _ kind octets e = absurd (cc)

octets_are : (value : TypedValue) (kind : ℕ) (octets : List ℕ) → octets_piece value ≡ Some (kind, octets)
    → value ≡ Pick kind (Octets octets)
octets_are (Pick n (Octets xs)) kind octets e =
    let pair = ap (λ (o : Option (ℕ × List ℕ)). unwrap_or o (kind, octets)) e in
    λ i. Pick (pair i).0 (Octets (pair i).1)
octets_are _ kind octets e = absurd (cc)

of_text : IsPieces Text text_piece
of_text = record { sound = text_is; complete = λ kind octets. refl }

of_octets : IsPieces Octets octets_piece
of_octets = record { sound = octets_are; complete = λ kind octets. refl }

pub match_is : (rule : MatchingRule) (asserted held : TypedValue) → do_match rule asserted held ≡ true
    → Matches rule asserted held
match_is Equality asserted held e = are_equal asserted held e
match_is Ordering asserted held e = e
match_is Substrings (Many pieces) (Text text) e = stand_is Text text_piece of_text text 0 pieces e
match_is Substrings (Many pieces) (Octets octets) e = stand_is Octets octets_piece of_octets octets 0 pieces e
match_is Comparison (Many asserted) (Many held) e = held_is asserted held e
match_is Intersection (Many asserted) (Many held) e = common_is asserted held e
match_is _ asserted held e = false≢true e

pub is_match : (rule : MatchingRule) (asserted held : TypedValue) → Matches rule asserted held
    → do_match rule asserted held ≡ true
is_match Equality asserted held h = equal_same asserted held h
is_match Ordering asserted held h = h
is_match Substrings (Many pieces) (Text text) h = is_standing Text text_piece of_text text 0 pieces h
is_match Substrings (Many pieces) (Octets octets) h = is_standing Octets octets_piece of_octets octets 0 pieces h
is_match Comparison (Many asserted) (Many held) h = is_held asserted held h
is_match Intersection (Many asserted) (Many held) h = is_common asserted held h
is_match _ asserted held h = absurd h

-- a test that is true exactly where the rule holds is this one
pub told : (rule : MatchingRule) (asserted held : TypedValue) (b : Bool) → (IsTrue b ↔ Matches rule asserted held)
    → b ≡ do_match rule asserted held
told rule asserted held true h = sym (is_match rule asserted held (h.0 refl))
told rule asserted held false h =
    ⊎_elim
    (λ (holds : do_match rule asserted held ≡ true). absurd (false≢true (h.1 (match_is rule asserted held holds))))
    (λ (fails : do_match rule asserted held ≡ false). sym fails)
    (cases_Bool (do_match rule asserted held))

pub ok_told : {E : Type 0} (rule : MatchingRule) (asserted held : TypedValue) (r : Result Bool E)
    → IfOk r (λ holds. IsTrue holds ↔ Matches rule asserted held)
    → IfOk r (λ holds. holds ≡ do_match rule asserted held)
ok_told rule asserted held (Ok b) h = told rule asserted held b h
ok_told rule asserted held (Err e) h = tt
