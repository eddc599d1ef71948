-- Pieces that stand as near to the front as they can leave the most room for those behind them.
use Rattle.std.proofs.Common.{◌≡◌, ◌≤◌, ◌<◌, ◌+◌, ◌-◌, ℕ, zero, suc, true, false, List, [], ◌++◌, length, take, drop}
use Rattle.std.proofs.Common.{Option, None, Some, refl, sym, ap, ◌∙◌, subst, arith, length-append, length-drop}
use Rattle.std.proofs.lemmas.Bool.{false≢true}
use Rattle.std.proofs.lemmas.List.{take-append-drop, length-take-le, drop-drop, append-nil, take_all}
use Rattle.std.proofs.lemmas.Slice.Eq.{bytes_eq-Decides}
use Rattle.std.proofs.Math.Seq.{drop-append_seam, take-append_seam}
use Rattle.std.specs.Str.{bytes_eq}
use Rattle.memchr.specs.Find.{OccursAt, FindsNeedle}
use Rattle.memchr.proofs.lemmas.MatchLemmas.{OccursAt-split, OccursAt-from_part}
use Rattle.term_values.specs.Typed.{TypedValue, TypedValues}
use Rattle.term_values.specs.Typed.TypedValue.{Text, Octets, Pick}
use Rattle.term_values.specs.Typed.TypedValues.{Nothing, Then}
use Rattle.value_match.specs.FirstEnd.{IsFirstEnd, EndsAs, IsFirstEndOf}
use Rattle.term_values.specs.MatchingPieces.{StandAt, Ends, StandFrom}

-- ---- where octets stand

stand_within : (text octets : List ℕ) (place : ℕ) → StandAt text place octets → place + length octets ≤ length text
stand_within text octets place s =
    let before = s.0 in
    let after = s.1 in
    let whole : length text ≡ length before + length (octets ++ after) =
    ap length s.2 ∙ length-append before (octets ++ after) in
    omega (arith, whole, length-append octets after, s.3)

-- what stands at the place begins what is behind it
stand_front : (text octets : List ℕ) (place : ℕ) (s : StandAt text place octets) → drop place text ≡ octets ++ s.1
stand_front text octets place s =
    ap (λ n. drop n text) (sym s.3) ∙ ap (drop (length s.0)) s.2 ∙ drop-append_seam s.0 (octets ++ s.1)

stand_part : (text octets : List ℕ) (place : ℕ) → StandAt text place octets
    → take (length octets) (drop place text) ≡ octets
stand_part text octets place s =
    ap (take (length octets)) (stand_front text octets place s) ∙ take-append_seam octets s.1

part_stands : (text octets after : List ℕ) (place : ℕ) → place ≤ length text → drop place text ≡ octets ++ after
    → StandAt text place octets
part_stands text octets after place within e = (
  take place text,
  after,
  sym (take-append-drop place text) ∙ ap (λ xs. take place text ++ xs) e,
  length-take-le place text within,
)

-- ---- the search of the kit

occurs_stands : (text octets : List ℕ) (from at : ℕ) → from ≤ length text → OccursAt (drop from text) octets at
    → StandAt text (from + at) octets
occurs_stands text octets from at within occurs =
    let fits : at + length octets ≤ length text - from = subst (λ n. at + length octets ≤ n) (length-drop from text)
    occurs.fits in
    part_stands text octets (drop (at + length octets) (drop from text)) (from + at) (omega arith)
    (sym (drop-drop at from text) ∙ OccursAt-split (drop from text) octets at occurs)

stands_occurs : (text octets : List ℕ) (from place : ℕ) → from ≤ place → StandAt text place octets
    → OccursAt (drop from text) octets (place - from)
stands_occurs text octets from place after s =
    let within = stand_within text octets place s in
    let behind : drop (place - from) (drop from text) ≡ drop place text = drop-drop (place - from) from text
    ∙ ap (λ n. drop n text) (omega arith) in
    OccursAt-from_part (drop from text) octets (place - from) (omega (arith, within, length-drop from text))
    (ap (take (length octets)) behind ∙ stand_part text octets place s)

-- what the search answers is the first end of any piece
found_one : (text octets : List ℕ) (from at : ℕ) → from ≤ length text
    → FindsNeedle (drop from text) octets 0 (Some at) → IsFirstEnd 1 octets text from (Some (from + at + length octets))
found_one text octets from at within found =
    let stands = occurs_stands text octets from at within found.1 in
    let inside = stand_within text octets (from + at) stands in (
      (from + at, omega arith, stands, tt, refl),
      λ other ends.
          let place = ends.0 in
          let later = ends.1 in
          let s = ends.2 in
          let there = stands_occurs text octets from place later s in
          let fits = there.fits in
          let nearest : at ≤ place - from = not_before at (place - from) (λ before. found.0.before (place - from)
          (omega arith) before there) in
          omega (arith, ends.4),
      inside,
    )
  where
    not_before : (n m : ℕ) → ¬ (m < n) → n ≤ m
    not_before n m h = omega arith

pub found_any : (text octets hay : List ℕ) (kind from at : ℕ) → hay ≡ drop from text → kind ≡ 1
    → from ≤ length text → FindsNeedle hay octets 0 (Some at)
    → IsFirstEnd kind octets text from (Some (from + at + length octets))
found_any text octets hay kind from at e any within found =
    subst (λ k. IsFirstEnd k octets text from (Some (from + at + length octets))) (sym any)
    (found_one text octets from at within (subst (λ h. FindsNeedle h octets 0 (Some at)) e found))

none_one : (text octets : List ℕ) (kind from : ℕ) → FindsNeedle (drop from text) octets 0 None
    → IsFirstEnd kind octets text from None
none_one text octets kind from found end ends =
    let there = stands_occurs text octets from ends.0 ends.1 ends.2 in
    found (ends.0 - from) (omega arith) (omega (arith, there.fits)) there

pub found_none : (text octets hay : List ℕ) (kind from : ℕ) → hay ≡ drop from text
    → FindsNeedle hay octets 0 None → IsFirstEnd kind octets text from None
found_none text octets hay kind from e found =
    none_one text octets kind from (subst (λ h. FindsNeedle h octets 0 None) e found)

-- ---- the front and the end

pub begins : (text octets : List ℕ) (kind from : ℕ) → kind ≡ 0 → from ≡ 0 → length octets ≤ length text
    → bytes_eq octets (take (length octets) text) ≡ true → IsFirstEnd kind octets text from (Some (length octets))
begins text octets kind from first front within e =
    let same = (bytes_eq-Decides octets (take (length octets) text)).0 e in
    let split : text ≡ octets ++ drop (length octets) text = sym (take-append-drop (length octets) text)
    ∙ ap (λ xs. xs ++ drop (length octets) text) (sym same) in
    subst (λ k. IsFirstEnd k octets text from (Some (length octets))) (sym first) (
      (0, omega arith, ([], drop (length octets) text, split, refl), refl, omega arith),
      λ other ends. omega (arith, ends.4),
      within,
    )

-- an initial piece that stands behind the front doesn't begin the text
pub too_late : (text octets : List ℕ) (kind from : ℕ) → kind ≡ 0 → 0 < from → IsFirstEnd kind octets text from None
too_late text octets kind from first late =
    subst (λ k. IsFirstEnd k octets text from None) (sym first) (λ end ends.
    let front : ends.0 ≡ 0 = ends.3 in
    absurd (omega (arith, ends.1, front)))

pub begins_not : (text octets : List ℕ) (kind from : ℕ) → kind ≡ 0
    → bytes_eq octets (take (length octets) text) ≡ false → IsFirstEnd kind octets text from None
begins_not text octets kind from first e =
    subst (λ k. IsFirstEnd k octets text from None) (sym first) (λ end ends.
    let s : StandAt text 0 octets = subst (λ n. StandAt text n octets) ends.3 ends.2 in
    let same : octets ≡ take (length octets) text = sym (stand_part text octets 0 s) in
    false≢true (sym e ∙ (bytes_eq-Decides octets (take (length octets) text)).1 same))

-- where a text from `from` on ends in the octets
finishes_two : (text octets : List ℕ) (from : ℕ) → from ≤ length text → length octets ≤ length (drop from text)
    → bytes_eq octets (drop (length (drop from text) - length octets) (drop from text)) ≡ true
    → IsFirstEnd 2 octets text from (Some (length text))
finishes_two text octets from within fits e =
    let size = length-drop from text in
    let same = (bytes_eq-Decides octets (drop (length (drop from text) - length octets) (drop from text))).0 e in
    let place = length text - length octets in
    let at : from + (length (drop from text) - length octets) ≡ place = omega arith in
    let last : drop place text ≡ octets ++ [] = ap (λ n. drop n text) (sym at)
    ∙ sym (drop-drop (length (drop from text) - length octets) from text) ∙ sym same ∙ sym (append-nil octets) in (
      (place, omega arith, part_stands text octets [] place (omega arith) last, refl, omega arith),
      λ other ends. omega (arith, ends.3),
      omega arith,
    )

pub finishes : (text octets rest : List ℕ) (kind from : ℕ) → rest ≡ drop from text → kind ≡ 2 → from ≤ length text
    → length octets ≤ length rest → bytes_eq octets (drop (length rest - length octets) rest) ≡ true
    → IsFirstEnd kind octets text from (Some (length text))
finishes text octets rest kind from whole last within fits e =
    subst (λ k. IsFirstEnd k octets text from (Some (length text))) (sym last)
    (finishes_two text octets from within (subst (λ xs. length octets ≤ length xs) whole fits)
    (subst (λ xs. bytes_eq octets (drop (length xs - length octets) xs) ≡ true) whole e))

finishes_never : (text octets : List ℕ) (from : ℕ) → from ≤ length text
    → bytes_eq octets (drop (length (drop from text) - length octets) (drop from text)) ≡ false
    → IsFirstEnd 2 octets text from None
finishes_never text octets from within e end ends =
    let place = ends.0 in
    let later : from ≤ place = ends.1 in
    let s = ends.2 in
    let last : end ≡ length text = ends.3 in
    let size = length-drop from text in
    let sum : end ≡ place + length octets = ends.4 in
    let at : from + (length (drop from text) - length octets) ≡ place = omega arith in
    let all : drop place text ≡ octets = sym (take_all (length octets) (drop place text) (omega (
      arith,
      length-drop place text,
    ))) ∙ stand_part text octets place s in
    let same : octets ≡ drop (length (drop from text) - length octets) (drop from text) =
    sym (drop-drop (length (drop from text) - length octets) from text ∙ ap (λ n. drop n text) at ∙ all) in
    false≢true (sym e
    ∙ (bytes_eq-Decides octets (drop (length (drop from text) - length octets) (drop from text))).1 same)

pub finishes_not : (text octets rest : List ℕ) (kind from : ℕ) → rest ≡ drop from text → kind ≡ 2
    → from ≤ length text → bytes_eq octets (drop (length rest - length octets) rest) ≡ false
    → IsFirstEnd kind octets text from None
finishes_not text octets rest kind from whole last within e =
    subst (λ k. IsFirstEnd k octets text from None) (sym last) (finishes_never text octets from within
    (subst (λ xs. bytes_eq octets (drop (length xs - length octets) xs) ≡ false) whole e))

pub no_piece : (text octets : List ℕ) (from kind : ℕ) → ¬ (kind ≡ 0) → ¬ (kind ≡ 1) → ¬ (kind ≡ 2)
    → IsFirstEnd kind octets text from None
no_piece text octets from zero a b c end ends = a refl
no_piece text octets from (suc zero) a b c end ends = b refl
no_piece text octets from (suc (suc zero)) a b c end ends = c refl
no_piece text octets from (suc (suc (suc kind))) a b c end ends = ends.3

-- ---- values as pieces

picked_kind : TypedValue → ℕ
picked_kind (Pick kind value) = kind
picked_kind _ = 0

picked_octets : TypedValue → List ℕ
picked_octets (Pick kind (Text octets)) = octets
picked_octets (Pick kind (Octets octets)) = octets
picked_octets _ = []

-- a form of which octets are told
abbrev IsTold : (List ℕ → TypedValue) → Type 0
IsTold form = (kind : ℕ) (octets : List ℕ) → picked_octets (Pick kind (form octets)) ≡ octets

ends_alike : (form : List ℕ → TypedValue) → IsTold form → (kind : ℕ) (octets text : List ℕ) (from end : ℕ)
    → EndsAs form (Pick kind (form octets)) text from end → Ends kind octets text from end
unfolding picked_kind
ends_alike form told kind octets text from end ends =
    let e : Pick kind (form octets) ≡ Pick ends.0 (form ends.1) = ends.2 in
    let same_kind : ends.0 ≡ kind = sym (ap picked_kind e) in
    let same_octets : ends.1 ≡ octets = sym (told ends.0 ends.1) ∙ sym (ap picked_octets e) ∙ told kind octets in
    subst (λ k. Ends k octets text from end) same_kind (subst (λ xs. Ends ends.0 xs text from end) same_octets
    ends.3)

first_of_piece : (form : List ℕ → TypedValue) → IsTold form → (kind : ℕ) (octets text : List ℕ) (from : ℕ)
    (found : Option ℕ) → IsFirstEnd kind octets text from found
    → IsFirstEndOf form (Pick kind (form octets)) text from found
first_of_piece form told kind octets text from None first =
    λ end ends. first end (ends_alike form told kind octets text from end ends)
first_of_piece form told kind octets text from (Some end) first = (
  (kind, octets, refl, first.0),
  λ other ends. first.1 other (ends_alike form told kind octets text from other ends),
  first.2,
)

pub first_of_text : (kind : ℕ) (octets text : List ℕ) (from : ℕ) (found : Option ℕ)
    → IsFirstEnd kind octets text from found → IsFirstEndOf Text (Pick kind (Text octets)) text from found
unfolding picked_octets
first_of_text = first_of_piece Text (λ kind octets. refl)

pub first_of_octets : (kind : ℕ) (octets text : List ℕ) (from : ℕ) (found : Option ℕ)
    → IsFirstEnd kind octets text from found → IsFirstEndOf Octets (Pick kind (Octets octets)) text from found
unfolding picked_octets
first_of_octets = first_of_piece Octets (λ kind octets. refl)

-- ---- the pieces one after the other

weaker : (form : List ℕ → TypedValue) (text : List ℕ) (from to : ℕ) (values : TypedValues) → to ≤ from
    → StandFrom form text from values → StandFrom form text to values
weaker form text from to Nothing h s = tt
weaker form text from to (Then value values) h s =
    let ends = s.4 in (
      s.0,
      s.1,
      s.2,
      s.3,
      (ends.0, omega (arith, h, ends.1), ends.2, ends.3, ends.4),
      s.5,
    )

pub taken_on : (form : List ℕ → TypedValue) (text : List ℕ) (from end : ℕ) (value : TypedValue) (values : TypedValues)
    → IsFirstEndOf form value text from (Some end) → StandFrom form text from (Then value values)
    → StandFrom form text end values
taken_on form text from end value values first s =
    let other : ℕ = s.2 in
    weaker form text other end values (first.1 other (s.0, s.1, s.3, s.4)) s.5

pub taken_back : (form : List ℕ → TypedValue) (text : List ℕ) (from end : ℕ) (value : TypedValue) (values : TypedValues)
    → IsFirstEndOf form value text from (Some end) → StandFrom form text end values
    → StandFrom form text from (Then value values)
taken_back form text from end value values first s =
    let ends = first.0 in (ends.0, ends.1, end, ends.2, ends.3, s)

pub taken_never : (form : List ℕ → TypedValue) (text : List ℕ) (from : ℕ) (value : TypedValue) (values : TypedValues)
    → IsFirstEndOf form value text from None → ¬ StandFrom form text from (Then value values)
taken_never form text from value values never s = never s.2 (s.0, s.1, s.3, s.4)
