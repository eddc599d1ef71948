-- The value of a SET OF with members added (addValues) and removed (removeValues), the union and the difference of two
-- sets: X.711, type ModifyOperator. Members are equal where their encodings are (X.690, section 11), and stand by the
-- rising order of these (X.690, section 11.6). A member that is held twice stays so.
use Rattle.std.specs.List.{list_any}
use Rattle.std.specs.Prelude.{ℕ, List, ◌∷◌, Bool, if◌then◌else◌}
use Rattle.term_values.specs.Decoding.{rising_by}
use Rattle.term_values.specs.MatchingKinds.{beneath_tags}
use Rattle.term_values.specs.SameValue.{same_octets}
use Rattle.term_values.specs.Syntaxes.{TypeSyntax}
use Rattle.term_values.specs.Syntaxes.TypeSyntax.{SetOf}
use Rattle.term_values.specs.Typed.{TypedValue, TypedValues}
use Rattle.term_values.specs.Typed.TypedValue.{Many}
use Rattle.term_values.specs.Typed.TypedValues.{Nothing, Then}
use Rattle.term_values.specs.ValueContents.{member_encodings}
use Rattle.term_values.specs.Written.{der}

-- one of the encodings is this one
abbrev pub is_among : List ℕ → List (List ℕ) → Bool
is_among x xs = list_any (same_octets x) xs

-- the members whose encodings are neither among these nor those of members before them
abbrev pub new_members : (TypedValue → List ℕ) → List (List ℕ) → TypedValues → TypedValues
new_members encoding there Nothing = Nothing
new_members encoding there (Then x xs) =
    if is_among (encoding x) there then new_members encoding (encoding x ∷ there) xs
    else Then x (new_members encoding (encoding x ∷ there) xs)

-- the members whose encodings are not among these
abbrev pub other_members : (TypedValue → List ℕ) → List (List ℕ) → TypedValues → TypedValues
other_members encoding taken Nothing = Nothing
other_members encoding taken (Then x xs) =
    if is_among (encoding x) taken then other_members encoding taken xs
    else Then x (other_members encoding taken xs)

-- members, and others behind them
abbrev pub followed_by : TypedValues → TypedValues → TypedValues
followed_by Nothing others = others
followed_by (Then x xs) others = Then x (followed_by xs others)

-- the members that are held, and those given that are not among them, each once
abbrev pub added : (TypedValue → List ℕ) → TypedValues → TypedValues → TypedValues
added encoding held given =
    rising_by encoding (followed_by held (new_members encoding (member_encodings encoding held) given))

-- the members that are held, but those that are equal to one that is given
abbrev pub removed : (TypedValue → List ℕ) → TypedValues → TypedValues → TypedValues
removed encoding held given = other_members encoding (member_encodings encoding given) held

-- what is done to the members of two values; a held value that is no value of a SET OF, or that meets one, stays
abbrev pub on_members : ((TypedValue → List ℕ) → TypedValues → TypedValues → TypedValues) → TypeSyntax → TypedValue
    → TypedValue → TypedValue
on_members change (SetOf member sizes) (Many held) (Many given) = Many (change (der member) held given)
on_members change _ held given = held

-- addValues
abbrev pub with_members : TypeSyntax → TypedValue → TypedValue → TypedValue
with_members syntax held given = on_members added (beneath_tags syntax) held given

-- removeValues
abbrev pub without_members : TypeSyntax → TypedValue → TypedValue → TypedValue
without_members syntax held given = on_members removed (beneath_tags syntax) held given
