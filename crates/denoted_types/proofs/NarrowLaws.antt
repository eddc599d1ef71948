-- NarrowLaws: constraints that a syntax has a place for leave some syntax (X.680, sections 49 to 51).
use Rattle.std.proofs.Common.{◌≡◌, ℕ, suc, ℤ, List, [], ◌∷◌, Bool, true, false, Contains, refl, sym, ◌∙◌}
use Rattle.std.proofs.Common.{true≢false, arith}
use Rattle.term_values.specs.Syntaxes.{TypeSyntax}
use Rattle.term_values.specs.Syntaxes.TypeSyntax.{Integer, BitString, OctetString, TextString, SequenceOf, SetOf}
use Rattle.term_values.specs.Syntaxes.TypeSyntax.{Tagged}
use Rattle.asn1_names.specs.ModuleTerms.{LimitTerm, TypeTerm, ModuleTerm}
use Rattle.asn1_names.specs.Constraining.{AreRanges, Constrains, Narrows, is_size_limit, limit_ranges}
use Rattle.asn1_names.specs.Constraining.Constrains.{no_more, another}
use Rattle.asn1_names.specs.Constraining.Narrows.{values, bits, octets, characters, elements, members, tagged}
use Rattle.asn1_names.specs.Narrowing.{can_narrow}
use Rattle.asn1_names.proofs.BaseLaws.{narrowed_place}
use Rattle.denoted_types.specs.DenotedTypes.{NotNone}
use Rattle.denoted_types.proofs.RestLaws.{some_rest}

-- ---- the first of a list, and one behind it

pub in_front : {X : Type 0} (x : X) (xs : List X) → Contains (x ∷ xs) x
in_front x xs = (0, omega arith, refl)

pub behind : {X : Type 0} (y x : X) (xs : List X) → Contains xs x → Contains (y ∷ xs) x
behind y x xs h = let below = h.1 in (suc h.0, omega (arith, below), h.2)

-- ---- ranges leave some syntax

some_narrowed : (ranges : List (ℤ × ℤ)) (is_size : Bool) (before : TypeSyntax) → can_narrow is_size before ≡ true →
    (after : TypeSyntax) × Narrows ranges is_size before after
some_narrowed ranges false (Integer names before) e =
    let rest = some_rest before ranges in
    (Integer names rest.0, values rest.1)
some_narrowed ranges true (BitString names before) e =
    let rest = some_rest before ranges in
    (BitString names rest.0, bits rest.1)
some_narrowed ranges true (OctetString before) e =
    let rest = some_rest before ranges in
    (OctetString rest.0, octets rest.1)
some_narrowed ranges true (TextString charset before) e =
    let rest = some_rest before ranges in
    (TextString charset rest.0, characters rest.1)
some_narrowed ranges true (SequenceOf element before) e =
    let rest = some_rest before ranges in
    (SequenceOf element rest.0, elements rest.1)
some_narrowed ranges true (SetOf element before) e =
    let rest = some_rest before ranges in
    (SetOf element rest.0, members rest.1)
some_narrowed ranges is_size (Tagged tag explicit of) e =
    let rest = some_narrowed ranges is_size of e in
    (Tagged tag explicit rest.0, tagged rest.1)
some_narrowed ranges is_size _ e = absurd (true≢false (sym e))

-- ---- constraints leave some syntax

pub some_constrained : {ms : List ModuleTerm} {m : ℕ} {of : TypeTerm} (limits : List LimitTerm) (before : TypeSyntax) →
    ((limit : LimitTerm) → Contains limits limit → can_narrow (is_size_limit limit) before ≡ true) →
    ((limit : LimitTerm) → Contains limits limit →
    NotNone (λ (pairs : List (ℤ × ℤ)). AreRanges ms m of (limit_ranges limit) pairs)) →
    NotNone (λ (after : TypeSyntax). Constrains ms m of limits before after)
some_constrained [] before place said = λ none. none before no_more
some_constrained (x ∷ xs) before place said = λ none.
    said x (in_front x xs) (λ pairs are.
    let narrowed = some_narrowed pairs (is_size_limit x) before (place x (in_front x xs)) in
    some_constrained xs narrowed.0
    (λ limit there. narrowed_place narrowed.1 (is_size_limit limit) ∙ place limit (behind x limit xs there))
    (λ limit there. said limit (behind x limit xs there))
    (λ after rest. none after (another are narrowed.1 rest)))
