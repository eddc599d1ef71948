-- BadLaws: the texts of DEFAULT that denote no value within a filled syntax are those at its components and within them,
-- and a syntax is filled component by component (X.680, section 25).
use Rattle.std.proofs.Common.{◌≡◌, ◌∙◌, ◌+◌, ℕ, zero, suc, List, [], ◌∷◌, ◌++◌, Bool, true, Option}
use Rattle.std.proofs.Common.{None, Some, refl, sym, ap, arith, inl, inr, length, append_assoc}
use Rattle.std.specs.Prelude.{slice_get, unwrap_or}
use Rattle.std.proofs.Math.Path.{subst}
use Rattle.term_values.specs.PartsView.{parts_listed}
use Rattle.term_values.specs.Syntaxes.{TypeSyntax}
use Rattle.term_values.specs.Syntaxes.TypeSyntax.{Boolean, Integer, Enumerated, BitString, OctetString, NullType}
use Rattle.term_values.specs.Syntaxes.TypeSyntax.{ObjectIdentifier, TextString, GeneralizedTime, Sequence, SetType}
use Rattle.term_values.specs.Syntaxes.TypeSyntax.{SequenceOf, SetOf, Choice, Tagged, Any, Filter}
use Rattle.term_values.specs.declared.syntax.Part.{Part as PartOfSyntax}
use Rattle.asn1_names.specs.DefaultTexts.{member_at, part_at}
use Rattle.asn1_names.specs.ModuleTerms.{ModuleTerm}
use Rattle.asn1_names.specs.NameMeaning.{Meaning}
use Rattle.asn1_names.specs.ResolvedTypes.{HasDefaultText}
use Rattle.asn1_leaf_values.specs.Arcs.{NamedArcs}
use Rattle.filled_syntaxes.specs.BadDefaults.{BadAmong, BadBehind, BadOne, BadOwn, BadWithin, IsFilledPart, OwnBad}
use Rattle.filled_syntaxes.specs.BadDefaults.{StandWhere, among_at, among_may_miss, member_may_miss, may_miss_at, one_at}
use Rattle.filled_syntaxes.specs.BadDefaults.{one_may_miss, within_may_miss}
use Rattle.filled_syntaxes.specs.FilledSyntaxes.{AreFilled, texts_beside}
use Rattle.filled_syntaxes.specs.NotedTexts.{EachText, EitherText, NotesTexts, TextSet}
use Rattle.filled_syntaxes.specs.declared.bad_texts.TextPlace.{TextPlace}
use Rattle.filled_syntaxes.proofs.NotingTexts.{both_noted, none_noted, noted_by}

append_none : {X : Type 0} (xs : List X) → xs ++ [] ≡ xs
append_none [] = refl
append_none (x ∷ xs) = ap (λ ys. x ∷ ys) (append_none xs)

-- ---- sets by the syntax at each path

behind_by : (ms : List ModuleTerm) (names : NamedArcs) (meant : Meaning) (path : List ℕ)
    (one other : List ℕ → Option TypeSyntax) → ((rest : List ℕ) → one rest ≡ other rest) → (document at : ℕ) →
    BadBehind ms names meant path one document at → BadBehind ms names meant path other document at
behind_by ms names meant path one other same document at h = record {
  rest = h.rest;
  component = h.component;
  is_part = sym (same h.rest) ∙ h.is_part;
  bad = h.bad;
}

pub noted_alike : (ms : List ModuleTerm) (names : NamedArcs) (meant : Meaning) (path : List ℕ)
    (one other : List ℕ → Option TypeSyntax) {before after : Option TextPlace} →
    ((rest : List ℕ) → one rest ≡ other rest) →
    NotesTexts (λ place. BadBehind ms names meant path one place.document place.token) before after →
    NotesTexts (λ place. BadBehind ms names meant path other place.document place.token) before after
noted_alike ms names meant path one other same h =
    noted_by (λ place. BadBehind ms names meant path one place.document place.token)
    (λ place. BadBehind ms names meant path other place.document place.token)
    (λ place b. behind_by ms names meant path one other same place.document place.token b)
    (λ place b. behind_by ms names meant path other one (λ rest. sym (same rest)) place.document place.token b) h

pub no_part : (syntax : TypeSyntax) → part_at syntax [] ≡ None
no_part (Tagged tag explicit of) = no_part of
no_part (SequenceOf member sizes) = no_part member
no_part (SetOf member sizes) = no_part member
no_part (Sequence parts) = refl
no_part (SetType parts) = refl
no_part (Choice parts) = refl
no_part Boolean = refl
no_part (Integer names ranges) = refl
no_part (Enumerated names) = refl
no_part (BitString names sizes) = refl
no_part (OctetString sizes) = refl
no_part NullType = refl
no_part ObjectIdentifier = refl
no_part (TextString charset sizes) = refl
no_part GeneralizedTime = refl
no_part Any = refl
no_part Filter = refl

-- ---- a component: its own text, and those within

own_one : (ms : List ModuleTerm) (names : NamedArcs) (meant : Meaning) (path : List ℕ) (syntax : TypeSyntax)
    (document at : ℕ) → OwnBad ms names meant path syntax document at →
    BadBehind ms names meant path (one_at syntax) document at
own_one ms names meant path syntax document at h = record {
  rest = [];
  component = syntax;
  is_part = refl;
  bad = subst (λ p. OwnBad ms names meant p syntax document at) (sym (append_none path)) h;
}

none_some : {X : Type 0} (x : X) (o : Option X) → o ≡ None → o ≡ Some x → ⊥
none_some x o none some = absurd (cc)

inner_one : (ms : List ModuleTerm) (names : NamedArcs) (meant : Meaning) (path : List ℕ) (syntax : TypeSyntax)
    (document at : ℕ) (rest : List ℕ) (component : TypeSyntax) → part_at syntax rest ≡ Some component →
    OwnBad ms names meant (path ++ rest) component document at →
    BadBehind ms names meant path (one_at syntax) document at
inner_one ms names meant path syntax document at [] component is bad =
    absurd (none_some component (part_at syntax []) (no_part syntax) is)
inner_one ms names meant path syntax document at (k ∷ rest) component is bad =
    record { rest = k ∷ rest; component = component; is_part = is; bad = bad }

one_cases : (ms : List ModuleTerm) (names : NamedArcs) (meant : Meaning) (path : List ℕ) (syntax : TypeSyntax)
    (place : TextPlace) (rest : List ℕ) (component : TypeSyntax) → one_at syntax rest ≡ Some component →
    OwnBad ms names meant (path ++ rest) component place.document place.token →
    EitherText (BadWithin ms names meant path syntax) (BadOwn ms names meant path syntax) place
one_cases ms names meant path syntax place [] component is bad =
    let same : component ≡ syntax = sym (ap (λ o. unwrap_or o syntax) is) in
    inr (subst (λ p. OwnBad ms names meant p syntax place.document place.token) (append_none path)
    (subst (λ s. OwnBad ms names meant (path ++ []) s place.document place.token) same bad))
one_cases ms names meant path syntax place (k ∷ rest) component is bad =
    inl (record { rest = k ∷ rest; component = component; is_part = is; bad = bad })

pub component_noted : (ms : List ModuleTerm) (names : NamedArcs) (meant : Meaning) (path : List ℕ)
    (syntax : TypeSyntax) {before between after : Option TextPlace} →
    NotesTexts (BadWithin ms names meant path syntax) before between →
    NotesTexts (BadOwn ms names meant path syntax) between after →
    NotesTexts (BadOne ms names meant path syntax) before after
component_noted ms names meant path syntax p q =
    noted_by (EitherText (BadWithin ms names meant path syntax) (BadOwn ms names meant path syntax))
    (BadOne ms names meant path syntax)
    (λ place text. elim text as (λ _. BadOne ms names meant path syntax place) [
      | inl h ↦ inner_one ms names meant path syntax place.document place.token h.rest h.component h.is_part h.bad
      | inr h ↦ own_one ms names meant path syntax place.document place.token h
    ])
    (λ place h. one_cases ms names meant path syntax place h.rest h.component h.is_part h.bad)
    (both_noted (BadWithin ms names meant path syntax) (BadOwn ms names meant path syntax) p q)

-- ---- components

member_is : (items : List PartOfSyntax) (k : ℕ) (part : PartOfSyntax) (rest : List ℕ) → slice_get items k ≡ Some part →
    member_at (parts_listed items) k rest ≡ one_at part.syntax rest
member_is [] k part rest is = absurd (cc)
member_is (x ∷ xs) zero part [] is = ap (λ o. Some (unwrap_or o x).syntax) is
member_is (x ∷ xs) zero part (j ∷ rest) is =
    ap (λ o. part_at (unwrap_or o x).syntax (j ∷ rest)) is
member_is (x ∷ xs) (suc k) part rest is = member_is xs k part rest is

miss_is : (items : List PartOfSyntax) (k : ℕ) (part : PartOfSyntax) (rest : List ℕ) → slice_get items k ≡ Some part →
    member_may_miss (parts_listed items) k rest ≡ one_may_miss part.optional part.syntax rest
miss_is [] k part rest is = absurd (cc)
miss_is (x ∷ xs) zero part [] is = ap (λ o. (unwrap_or o x).optional) is
miss_is (x ∷ xs) zero part (j ∷ rest) is = ap (λ o. may_miss_at (unwrap_or o x).syntax (j ∷ rest)) is
miss_is (x ∷ xs) (suc k) part rest is = miss_is xs k part rest is

record MemberGot (items : List PartOfSyntax) (k : ℕ) (rest : List ℕ) (component : TypeSyntax) : Type 0 where
  part : PartOfSyntax
  got : slice_get items k ≡ Some part
  is : one_at part.syntax rest ≡ Some component

member_got : (items : List PartOfSyntax) (k : ℕ) (rest : List ℕ) (component : TypeSyntax) →
    member_at (parts_listed items) k rest ≡ Some component → MemberGot items k rest component
member_got [] k rest component is = absurd (cc)
member_got (x ∷ xs) zero [] component is = record { part = x; got = refl; is = is }
member_got (x ∷ xs) zero (j ∷ rest) component is = record { part = x; got = refl; is = is }
member_got (x ∷ xs) (suc k) rest component is =
    let further = member_got xs k rest component is in
    record { part = further.part; got = further.got; is = further.is }

-- the texts of one component among others
abbrev pub OneAmong : List ModuleTerm → NamedArcs → Meaning → List ℕ → ℕ → PartOfSyntax → TextSet
OneAmong ms names meant path k part = BadOne ms names meant (path ++ k ∷ []) part.syntax

deeper : (path : List ℕ) (k : ℕ) (rest : List ℕ) → (path ++ k ∷ []) ++ rest ≡ path ++ k ∷ rest
deeper path k rest = append_assoc path (k ∷ []) rest

to_among : (ms : List ModuleTerm) (names : NamedArcs) (meant : Meaning) (path : List ℕ) (items : List PartOfSyntax)
    (place : TextPlace) → EachText (OneAmong ms names meant path) items place →
    BadAmong ms names meant path (parts_listed items) place
to_among ms names meant path items place (k, one) =
    let h = one.2 in record {
      rest = k ∷ h.rest;
      component = h.component;
      is_part = member_is items k one.0 h.rest one.1 ∙ h.is_part;
      bad = subst (λ p. OwnBad ms names meant p h.component place.document place.token) (deeper path k h.rest) h.bad;
    }

from_among : (ms : List ModuleTerm) (names : NamedArcs) (meant : Meaning) (path : List ℕ) (items : List PartOfSyntax)
    (place : TextPlace) (rest : List ℕ) (component : TypeSyntax) → among_at (parts_listed items) rest ≡ Some component →
    OwnBad ms names meant (path ++ rest) component place.document place.token →
    EachText (OneAmong ms names meant path) items place
from_among ms names meant path items place [] component is bad = absurd (cc)
from_among ms names meant path items place (k ∷ rest) component is bad =
    let got = member_got items k rest component is in (
      k,
      (
        got.part,
        got.got,
        record {
          rest = rest;
          component = component;
          is_part = got.is;
          bad = subst (λ p. OwnBad ms names meant p component place.document place.token) (sym (deeper path k rest)) bad;
        },
      ),
    )

pub among_noted : (ms : List ModuleTerm) (names : NamedArcs) (meant : Meaning) (path : List ℕ)
    (items : List PartOfSyntax) {before after : Option TextPlace} →
    NotesTexts (EachText (OneAmong ms names meant path) items) before after →
    NotesTexts (BadAmong ms names meant path (parts_listed items)) before after
among_noted ms names meant path items h =
    noted_by (EachText (OneAmong ms names meant path) items) (BadAmong ms names meant path (parts_listed items))
    (to_among ms names meant path items)
    (λ place h. from_among ms names meant path items place h.rest h.component h.is_part h.bad) h

-- ---- where texts stand

pub stands_at_part : (ms : List ModuleTerm) (meant : Meaning) (path : List ℕ) (items : List PartOfSyntax) (k : ℕ)
    (part : PartOfSyntax) → slice_get items k ≡ Some part →
    StandWhere ms meant path (among_may_miss (parts_listed items)) →
    StandWhere ms meant (path ++ k ∷ []) (one_may_miss part.optional part.syntax)
stands_at_part ms meant path items k part is h = λ rest v text stands.
    sym (miss_is items k part rest is) ∙
    h (k ∷ rest) v text (subst (λ p. HasDefaultText ms meant p v text) (deeper path k rest) stands)

pub stands_by : (ms : List ModuleTerm) (meant : Meaning) (path : List ℕ) (one other : List ℕ → Bool) →
    ((rest : List ℕ) → one rest ≡ true → other rest ≡ true) → StandWhere ms meant path one →
    StandWhere ms meant path other
stands_by ms meant path one other to h = λ rest v text stands. to rest (h rest v text stands)

pub one_within : (optional : Bool) (syntax : TypeSyntax) (rest : List ℕ) → one_may_miss optional syntax rest ≡ true →
    within_may_miss syntax rest ≡ true
one_within optional syntax [] is = refl
one_within optional syntax (k ∷ rest) is = is

-- ---- what is filled, component by component

-- the components so far
abbrev pub AllFilled : List ModuleTerm → NamedArcs → Meaning → List ℕ → ℕ → List PartOfSyntax → List PartOfSyntax →
    Type 0
AllFilled ms names meant path k [] [] = Unit {0}
AllFilled ms names meant path k [] (y ∷ ys) = ⊥
AllFilled ms names meant path k (x ∷ xs) [] = ⊥
AllFilled ms names meant path k (x ∷ xs) (y ∷ ys) =
    IsFilledPart ms names meant (path ++ k ∷ []) x y × AllFilled ms names meant path (k + 1) xs ys

pub all_filled : (ms : List ModuleTerm) (names : NamedArcs) (meant : Meaning) (path : List ℕ) (k : ℕ)
    (xs ys : List PartOfSyntax) → AllFilled ms names meant path k xs ys →
    AreFilled names (texts_beside ms meant) path k (parts_listed xs) (parts_listed ys)
all_filled ms names meant path k [] [] h = tt
all_filled ms names meant path k [] (y ∷ ys) h = absurd h
all_filled ms names meant path k (x ∷ xs) [] h = absurd h
all_filled ms names meant path k (x ∷ xs) (y ∷ ys) h =
    (h.0.named, h.0.inner, h.0.presence, all_filled ms names meant path (k + 1) xs ys h.1)

filled_last : (ms : List ModuleTerm) (names : NamedArcs) (meant : Meaning) (path : List ℕ) (k j : ℕ)
    (xs ys : List PartOfSyntax) (x y : PartOfSyntax) → j ≡ k + length xs → AllFilled ms names meant path k xs ys →
    IsFilledPart ms names meant (path ++ j ∷ []) x y → AllFilled ms names meant path k (xs ++ x ∷ []) (ys ++ y ∷ [])
filled_last ms names meant path k j [] [] x y is h one =
    let same : j ≡ k = omega (arith, is) in
    (subst (λ n. IsFilledPart ms names meant (path ++ n ∷ []) x y) same one, tt)
filled_last ms names meant path k j [] (b ∷ bs) x y is h one = absurd h
filled_last ms names meant path k j (a ∷ rest) [] x y is h one = absurd h
filled_last ms names meant path k j (a ∷ rest) (b ∷ bs) x y is h one =
    (h.0, filled_last ms names meant path (k + 1) j rest bs x y (omega (arith, is)) h.1 one)

pub filled_more : (ms : List ModuleTerm) (names : NamedArcs) (meant : Meaning) (path : List ℕ) (j : ℕ)
    (xs more ys : List PartOfSyntax) (x y : PartOfSyntax) → more ≡ xs ++ x ∷ [] → j ≡ length xs →
    AllFilled ms names meant path 0 xs ys → IsFilledPart ms names meant (path ++ j ∷ []) x y →
    AllFilled ms names meant path 0 more (ys ++ y ∷ [])
filled_more ms names meant path j xs more ys x y is many h one =
    subst (λ zs. AllFilled ms names meant path 0 zs (ys ++ y ∷ [])) (sym is)
    (filled_last ms names meant path 0 j xs ys x y (omega (arith, many)) h one)

-- ---- a syntax without parts

pub none_within : (ms : List ModuleTerm) (names : NamedArcs) (meant : Meaning) (path : List ℕ) (syntax : TypeSyntax)
    (before : Option TextPlace) → ((rest : List ℕ) → part_at syntax rest ≡ None) →
    NotesTexts (BadWithin ms names meant path syntax) before before
none_within ms names meant path syntax before none_there =
    none_noted (BadWithin ms names meant path syntax) before
    (λ place h. none_some h.component (part_at syntax h.rest) (none_there h.rest) h.is_part)
