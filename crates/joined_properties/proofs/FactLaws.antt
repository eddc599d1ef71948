-- FactLaws: what is said of an attribute, as facts that add up and as what is held (X.722, section 8.4).
use Rattle.std.proofs.Common.{◌≡◌, Option, Some, None, Bool, true, false, refl, ap, ◌∙◌, inl, inr}
use Rattle.std.specs.Prelude.{◌||◌, ◌⊎◌}
use Rattle.std.proofs.lemmas.Bool.{false≢true}
use Rattle.joined_statements.specs.HeldValues.{both, hiding}
use Rattle.joined_statements.specs.JoinedStatements.{IsCopy, IsJoinedOf, IsJoinedTo, Values, first_held, join_held}
use Rattle.joined_statements.specs.declared.held.Held.{Held}
use Rattle.joined_statements.specs.declared.held.Held.TheVariants.{Nothing, NoValue, One, Unequal}
use Rattle.joined_statements.specs.declared.joined.Joined.{Joined}
use Rattle.joined_statements.specs.declared.joined.Joining.{Joining}
use Rattle.joined_statements.specs.declared.joined.Joining.TheVariants.{Beside, Inherited, Own}
use Rattle.joined_properties.specs.ClassProperties.{Property, has}
use Rattle.joined_properties.specs.ClassProperties.Property.{Get, Replace, Add, Remove, SetToDefault, Permitted}
use Rattle.joined_properties.specs.ClassProperties.Property.{Required}

-- ---- tests

pub either : (b c : Bool) → (b || c) ≡ true → (b ≡ true) ⊎ (c ≡ true)
either true c e = inl refl
either false c e = inr e

pub or_first : (b c : Bool) → b ≡ true → (b || c) ≡ true
or_first true c e = refl
or_first false c e = absurd (false≢true e)

pub or_second : (b c : Bool) → c ≡ true → (b || c) ≡ true
or_second true c e = refl
or_second false c e = e

or_none : (b : Bool) → b ≡ (b || false)
or_none true = refl
or_none false = refl

-- ---- facts

-- an attribute is stated, or has a property
pub data Fact : Type 0 where
  is_stated : Fact
  is_such : Property → Fact

abbrev pub says : Option Joined → Fact → Bool
says None fact = false
says (Some joined) is_stated = true
says (Some joined) (is_such property) = has property joined

copy_says : (how : Joining) (other after : Joined) (fact : Fact) → IsCopy how other after →
    says (Some after) fact ≡ says (Some other) fact
copy_says how other after is_stated copy = refl
copy_says how other after (is_such Get) copy = copy.get_
copy_says how other after (is_such Replace) copy = copy.replace_
copy_says how other after (is_such Add) copy = copy.add_
copy_says how other after (is_such Remove) copy = copy.remove_
copy_says how other after (is_such SetToDefault) copy = copy.set_to_default_
copy_says how other after (is_such (Permitted q)) copy = copy.permitted_ q
copy_says how other after (is_such (Required q)) copy = copy.required_ q

to_says : (values : Values) (how : Joining) (before other after : Joined) (fact : Fact) →
    IsJoinedTo values how before other after →
    says (Some after) fact ≡ (says (Some before) fact || says (Some other) fact)
to_says values how before other after is_stated joined = refl
to_says values how before other after (is_such Get) joined = joined.get_
to_says values how before other after (is_such Replace) joined = joined.replace_
to_says values how before other after (is_such Add) joined = joined.add_
to_says values how before other after (is_such Remove) joined = joined.remove_
to_says values how before other after (is_such SetToDefault) joined = joined.set_to_default_
to_says values how before other after (is_such (Permitted q)) joined = joined.permitted_ q
to_says values how before other after (is_such (Required q)) joined = joined.required_ q

-- facts add up
pub joined_says : (values : Values) (how : Joining) (before other after : Option Joined) (fact : Fact) →
    IsJoinedOf values how before other after → says after fact ≡ (says before fact || says other fact)
joined_says values how before None after fact same = ap (λ x. says x fact) same ∙ or_none (says before fact)
joined_says values how before (Some other) None fact never = absurd never
joined_says values how None (Some other) (Some after) fact joined = copy_says how other after fact joined
joined_says values how (Some before) (Some other) (Some after) fact joined =
    to_says values how before other after fact joined

-- ---- what is held

pub data Which : Type 0 where
  of_default : Which
  of_initial : Which

abbrev pub held_by : Which → Joined → Held
held_by of_default joined = joined.default
held_by of_initial joined = joined.initial

abbrev pub held_of : Which → Option Joined → Held
held_of which None = Nothing
held_of which (Some joined) = held_by which joined

beside_none : (values : Values) (held : Held) → held ≡ both values held Nothing
beside_none values Nothing = refl
beside_none values NoValue = refl
beside_none values (One number) = refl
beside_none values Unequal = refl

keeps_held : (values : Values) (how : Joining) (held : Held) → held ≡ join_held values how held Nothing
keeps_held values Beside held = beside_none values held
keeps_held values Inherited held = beside_none values held
keeps_held values Own held = refl

first_hides : (held : Held) → held ≡ hiding held Nothing
first_hides Nothing = refl
first_hides NoValue = refl
first_hides (One number) = refl
first_hides Unequal = refl

begins_held : (values : Values) (how : Joining) (held : Held) → first_held how held ≡ join_held values how Nothing held
begins_held values Beside held = refl
begins_held values Inherited held = refl
begins_held values Own held = first_hides held

copy_held : (how : Joining) (which : Which) (other after : Joined) → IsCopy how other after →
    held_by which after ≡ first_held how (held_by which other)
copy_held how of_default other after copy = copy.default_
copy_held how of_initial other after copy = copy.initial_

to_held : (values : Values) (how : Joining) (which : Which) (before other after : Joined) →
    IsJoinedTo values how before other after →
    held_by which after ≡ join_held values how (held_by which before) (held_by which other)
to_held values how of_default before other after joined = joined.default_
to_held values how of_initial before other after joined = joined.initial_

pub joined_held : (values : Values) (how : Joining) (which : Which) (before other after : Option Joined) →
    IsJoinedOf values how before other after →
    held_of which after ≡ join_held values how (held_of which before) (held_of which other)
joined_held values how which before None after same =
    ap (held_of which) same ∙ keeps_held values how (held_of which before)
joined_held values how which before (Some other) None never = absurd never
joined_held values how which None (Some other) (Some after) joined =
    copy_held how which other after joined ∙ begins_held values how (held_by which other)
joined_held values how which (Some before) (Some other) (Some after) joined =
    to_held values how which before other after joined
