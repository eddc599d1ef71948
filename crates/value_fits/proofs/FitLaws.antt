-- A value is tested to have a syntax exactly where it has it: X.680, sections 17 to 51. One induction on the syntax for
-- each direction.
use Rattle.std.proofs.Common.{◌≡◌, ℕ, zero, suc, Bool, true, false, List, [], ◌∷◌, None, Some, Option, refl}
use Rattle.std.proofs.Common.{sym, ◌∙◌}
use Rattle.std.proofs.lemmas.Bool.{and_parts, and_from, false≢true}
use Rattle.std.specs.List.{list_all}
use Rattle.std.specs.Prelude.{IfOk, Result, Ok, Err}
use Rattle.term_values.specs.Bounded.{allowed_size, has_character}
use Rattle.term_values.specs.FilterTrees.{is_filter}
use Rattle.term_values.specs.Fits.{Fits, AllFit, PartsFit, PickFits, count}
use Rattle.term_values.specs.Oid.{is_oid, is_arc}
use Rattle.term_values.specs.Rearranged.{IsRising, may_precede}
use Rattle.term_values.specs.Syntaxes.{TypeSyntax, TypeParts}
use Rattle.term_values.specs.Syntaxes.TypeSyntax.{Boolean, Integer, Enumerated, BitString, OctetString, NullType}
use Rattle.term_values.specs.Syntaxes.TypeSyntax.{ObjectIdentifier, TextString, GeneralizedTime, Sequence, SetType}
use Rattle.term_values.specs.Syntaxes.TypeSyntax.{SequenceOf, SetOf, Choice, Tagged, Any, Filter}
use Rattle.term_values.specs.Syntaxes.TypeParts.{NoParts, Part}
use Rattle.term_values.specs.Typed.{TypedValue, TypedSlots, TypedValues}
use Rattle.term_values.specs.Typed.TypedValue.{Truth, Int, Bits, Octets, Null, Identifier, Text, Time, Parts, Many}
use Rattle.term_values.specs.Typed.TypedValue.{Pick, Raw}
use Rattle.term_values.specs.Typed.TypedSlots.{NoSlots, Filled, Empty}
use Rattle.term_values.specs.Typed.TypedValues.{Nothing, Then}
use Rattle.term_values.specs.ValueContents.{member_encodings}
use Rattle.term_values.specs.Written.{der}
use Rattle.value_fits.proofs.KeptLaws.{kept_if, kept_is}
use Rattle.value_fits.proofs.LeafLaws.{whole_if, whole_is, bits_if, bits_are}
use Rattle.term_values.specs.FitTest.{value_fits, parts_fit, pick_fits, all_fit, list_fits, set_fits, rise_from}
use Rattle.term_values.specs.FitTest.{may_be_empty}
use Rattle.term_values.specs.LeafTests.{are_bits, is_whole}

-- ---- members

all_if : (test : TypedValue → Bool) (fact : TypedValue → Type 0) → ((v : TypedValue) → test v ≡ true → fact v)
    → (values : TypedValues) → all_fit test values ≡ true → AllFit fact values
all_if test fact one Nothing e = tt
all_if test fact one (Then x xs) e =
    let p = and_parts (test x) _ e in
    (one x p.0, all_if test fact one xs p.1)

all_are : (test : TypedValue → Bool) (fact : TypedValue → Type 0) → ((v : TypedValue) → fact v → test v ≡ true)
    → (values : TypedValues) → AllFit fact values → all_fit test values ≡ true
all_are test fact one Nothing f = refl
all_are test fact one (Then x xs) f = and_from (test x) _ (one x f.0) (all_are test fact one xs f.1)

rising_behind : (before : List ℕ) (xs : List (List ℕ)) → rise_from before xs ≡ true → IsRising (before ∷ xs)
rising_behind before [] e = tt
rising_behind before (x ∷ xs) e =
    let p = and_parts (may_precede before x) _ e in
    (p.0, rising_behind x xs p.1)

rising_if : (xs : List (List ℕ)) → rise_from [] xs ≡ true → IsRising xs
rising_if [] e = tt
rising_if (x ∷ xs) e = rising_behind x xs (and_parts (may_precede [] x) _ e).1

behind_rising : (before : List ℕ) (xs : List (List ℕ)) → IsRising (before ∷ xs) → rise_from before xs ≡ true
behind_rising before [] r = refl
behind_rising before (x ∷ xs) r = and_from (may_precede before x) _ r.0 (behind_rising x xs r.1)

nothing_first : (x : List ℕ) → may_precede [] x ≡ true
nothing_first [] = refl
nothing_first (octet ∷ octets) = refl

rising_is : (xs : List (List ℕ)) → IsRising xs → rise_from [] xs ≡ true
rising_is [] r = refl
rising_is (x ∷ xs) r = and_from (may_precede [] x) _ (nothing_first x) (behind_rising x xs r)

set_parts : (encoding : TypedValue → List ℕ) (fit : Bool) (values : TypedValues)
    → set_fits encoding fit (Many values) ≡ true
    → (fit ≡ true) × (rise_from [] (member_encodings encoding values) ≡ true)
set_parts encoding true values e = (refl, e)
set_parts encoding false values e = absurd (false≢true e)

set_from : (encoding : TypedValue → List ℕ) (fit : Bool) (values : TypedValues) → fit ≡ true
    → rise_from [] (member_encodings encoding values) ≡ true → set_fits encoding fit (Many values) ≡ true
set_from encoding true values h e = e
set_from encoding false values h e = absurd (false≢true h)

-- ---- components

empty_if : (name : List ℕ) (syntax : TypeSyntax) (optional : Bool) (default : Option TypedValue) (rest : TypeParts)
    (slots : TypedSlots) → may_be_empty optional default ≡ true → PartsFit rest slots
    → PartsFit (Part name syntax optional default rest) (Empty slots)
empty_if name syntax true None rest slots e f = f
empty_if name syntax true (Some default) rest slots e f = absurd (false≢true e)
empty_if name syntax false default rest slots e f = absurd (false≢true e)

-- ---- the test is true only where the value fits

mutual
  pub fits_if : (syntax : TypeSyntax) (value : TypedValue) → value_fits syntax value ≡ true → Fits syntax value
  fits_if Boolean (Truth holds) e = tt
  fits_if (Integer names ranges) (Int n) e = let p = and_parts (is_whole n) _ e in (whole_if n p.0, p.1)
  fits_if (Enumerated names) (Int n) e = let p = and_parts (is_whole n) _ e in (whole_if n p.0, p.1)
  fits_if (BitString names sizes) (Bits octets unused) e =
      let p = and_parts (are_bits octets unused) _ e in
      (bits_if octets unused p.0, p.1)
  fits_if (OctetString sizes) (Octets octets) e = e
  fits_if NullType Null e = tt
  fits_if ObjectIdentifier (Identifier arcs) e = and_parts (is_oid arcs) (list_all is_arc arcs) e
  fits_if (TextString charset sizes) (Text octets) e = and_parts (list_all (has_character charset) octets) _ e
  fits_if GeneralizedTime (Time octets) e = e
  fits_if (Sequence parts) (Parts slots) e = parts_if parts slots e
  fits_if (SetType parts) (Parts slots) e = parts_if parts slots e
  fits_if (SequenceOf member sizes) (Many values) e =
      let p = and_parts (allowed_size sizes (count values)) _ e in
      (all_if (value_fits member) (Fits member) (fits_if member) values p.1, p.0)
  fits_if (SetOf member sizes) (Many values) e =
      let s = set_parts (der member) (list_fits sizes (value_fits member) (Many values)) values e in
      let p = and_parts (allowed_size sizes (count values)) _ s.0 in (
        all_if (value_fits member) (Fits member) (fits_if member) values p.1,
        p.0,
        rising_if (member_encodings (der member) values) s.1,
      )
  fits_if (Choice parts) (Pick index value) e = pick_if parts index value e
  fits_if (Tagged tag explicit of) value e = fits_if of value e
  fits_if Any (Raw octets) e = kept_if octets (λ tree. true) e
  fits_if Filter (Raw octets) e = kept_if octets is_filter e
  fits_if _ _ e = absurd (false≢true e)

  parts_if : (parts : TypeParts) (slots : TypedSlots) → parts_fit parts slots ≡ true → PartsFit parts slots
  parts_if NoParts NoSlots e = tt
  parts_if (Part name syntax optional default rest) (Filled value slots) e =
      let p = and_parts (value_fits syntax value) _ e in
      (fits_if syntax value p.0, parts_if rest slots p.1)
  parts_if (Part name syntax optional default rest) (Empty slots) e =
      let p = and_parts (may_be_empty optional default) _ e in
      empty_if name syntax optional default rest slots p.0 (parts_if rest slots p.1)
  parts_if _ _ e = absurd (false≢true e)

  pick_if : (parts : TypeParts) (index : ℕ) (value : TypedValue) → pick_fits parts index value ≡ true
      → PickFits parts index value
  pick_if NoParts index value e = absurd (false≢true e)
  pick_if (Part name syntax optional default rest) zero value e = fits_if syntax value e
  pick_if (Part name syntax optional default rest) (suc index) value e = pick_if rest index value e

-- ---- and wherever it fits

mutual
  pub fits_is : (syntax : TypeSyntax) (value : TypedValue) → Fits syntax value → value_fits syntax value ≡ true
  fits_is Boolean (Truth holds) f = refl
  fits_is (Integer names ranges) (Int n) f = and_from (is_whole n) _ (whole_is n f.0) f.1
  fits_is (Enumerated names) (Int n) f = and_from (is_whole n) _ (whole_is n f.0) f.1
  fits_is (BitString names sizes) (Bits octets unused) f =
      and_from (are_bits octets unused) _ (bits_are octets unused f.0) f.1
  fits_is (OctetString sizes) (Octets octets) f = f
  fits_is NullType Null f = refl
  fits_is ObjectIdentifier (Identifier arcs) f = and_from (is_oid arcs) (list_all is_arc arcs) f.0 f.1
  fits_is (TextString charset sizes) (Text octets) f = and_from (list_all (has_character charset) octets) _ f.0 f.1
  fits_is GeneralizedTime (Time octets) f = f
  fits_is (Sequence parts) (Parts slots) f = parts_are parts slots f
  fits_is (SetType parts) (Parts slots) f = parts_are parts slots f
  fits_is (SequenceOf member sizes) (Many values) f =
      and_from (allowed_size sizes (count values)) _ f.1
      (all_are (value_fits member) (Fits member) (fits_is member) values f.0)
  fits_is (SetOf member sizes) (Many values) f =
      set_from (der member) (list_fits sizes (value_fits member) (Many values)) values
      (and_from (allowed_size sizes (count values)) _ f.1
      (all_are (value_fits member) (Fits member) (fits_is member) values f.0))
      (rising_is (member_encodings (der member) values) f.2)
  fits_is (Choice parts) (Pick index value) f = pick_is parts index value f
  fits_is (Tagged tag explicit of) value f = fits_is of value f
  fits_is Any (Raw octets) f = kept_is octets (λ tree. true) f
  fits_is Filter (Raw octets) f = kept_is octets is_filter f
  fits_is _ _ f = absurd f

  parts_are : (parts : TypeParts) (slots : TypedSlots) → PartsFit parts slots → parts_fit parts slots ≡ true
  parts_are NoParts NoSlots f = refl
  parts_are (Part name syntax optional default rest) (Filled value slots) f =
      and_from (value_fits syntax value) _ (fits_is syntax value f.0) (parts_are rest slots f.1)
  parts_are (Part name syntax true None rest) (Empty slots) f = parts_are rest slots f
  parts_are _ _ f = absurd f

  pick_is : (parts : TypeParts) (index : ℕ) (value : TypedValue) → PickFits parts index value
      → pick_fits parts index value ≡ true
  pick_is NoParts index value f = absurd f
  pick_is (Part name syntax optional default rest) zero value f = fits_is syntax value f
  pick_is (Part name syntax optional default rest) (suc index) value f = pick_is rest index value f

-- ---- what the call answers

pub told_fits : {E : Type 0} (answer : Result Bool E) (syntax : TypeSyntax) (value : TypedValue)
    → IfOk answer (λ found. found ≡ value_fits syntax value)
    → IfOk answer (λ found. found ≡ true → Fits syntax value)
told_fits (Ok found) syntax value is = λ e. fits_if syntax value (sym is ∙ e)
told_fits (Err fault) syntax value is = is

pub told_misfit : {E : Type 0} (answer : Result Bool E) (syntax : TypeSyntax) (value : TypedValue)
    → IfOk answer (λ found. found ≡ value_fits syntax value)
    → IfOk answer (λ found. found ≡ false → Fits syntax value → ⊥)
told_misfit (Ok found) syntax value is = λ e f. false≢true (sym e ∙ is ∙ fits_is syntax value f)
told_misfit (Err fault) syntax value is = is
