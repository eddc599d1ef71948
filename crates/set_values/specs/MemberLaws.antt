-- What holds of members that are added and removed: X.711, type ModifyOperator; X.690, section 11.6.
use Rattle.std.specs.Prelude.{◌≡◌, ◌↔◌, ℕ, ◌+◌, List, [], ◌∷◌, true, if◌then◌else◌}
use Rattle.term_values.specs.Fits.{Fits, AllFit}
use Rattle.term_values.specs.Rearranged.{IsRising}
use Rattle.term_values.specs.SameValue.{same_octets}
use Rattle.term_values.specs.Syntaxes.{TypeSyntax}
use Rattle.term_values.specs.Typed.{TypedValue, TypedValues}
use Rattle.term_values.specs.ValueContents.{member_encodings}
use Rattle.term_values.specs.Written.{der}
use Rattle.typed_laws.specs.WritingLaws.{CanBeWritten}
use Rattle.term_values.specs.SetMembers.{is_among, added, removed}

-- how often an encoding stands among others
abbrev pub times : List ℕ → List (List ℕ) → ℕ
times x [] = 0
times x (y ∷ ys) = (if same_octets x y then 1 else 0) + times x ys

-- what is held as often as it was, what is given and not held once, and nothing else
abbrev pub AddedOften : Type 0
AddedOften = (encoding : TypedValue → List ℕ) (held given : TypedValues) (x : List ℕ) →
    times x (member_encodings encoding (added encoding held given))
    ≡ (if is_among x (member_encodings encoding held) then times x (member_encodings encoding held)
    else (if is_among x (member_encodings encoding given) then 1 else 0))

-- what is not given as often as it was held, and nothing else
abbrev pub RemovedOften : Type 0
RemovedOften = (encoding : TypedValue → List ℕ) (held given : TypedValues) (x : List ℕ) →
    times x (member_encodings encoding (removed encoding held given))
    ≡ (if is_among x (member_encodings encoding given) then 0 else times x (member_encodings encoding held))

-- by the rising order of encodings
abbrev pub AddedRise : Type 0
AddedRise = (encoding : TypedValue → List ℕ) (held given : TypedValues) →
    IsRising (member_encodings encoding (added encoding held given))

abbrev pub RemovedRise : Type 0
RemovedRise = (encoding : TypedValue → List ℕ) (held given : TypedValues) →
    IsRising (member_encodings encoding held) → IsRising (member_encodings encoding (removed encoding held given))

-- members that fit
abbrev pub AddedFit : Type 0
AddedFit = (member : TypeSyntax) (held given : TypedValues) → AllFit (Fits member) held →
    AllFit (Fits member) given → AllFit (Fits member) (added (der member) held given)

abbrev pub RemovedFit : Type 0
RemovedFit = (member : TypeSyntax) (held given : TypedValues) → AllFit (Fits member) held →
    AllFit (Fits member) (removed (der member) held given)

-- the test of encodings tells whether two members are equal
abbrev pub EqualEncodings : Type 0
EqualEncodings = (member : TypeSyntax) (value other : TypedValue) → CanBeWritten member value →
    CanBeWritten member other → (same_octets (der member value) (der member other) ≡ true) ↔ (value ≡ other)
