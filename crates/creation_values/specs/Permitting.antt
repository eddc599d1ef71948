-- PERMITTED VALUES: X.722, section 8.4.
use Rattle.std.specs.Prelude.{Bool, true, Option}
use Rattle.std.specs.Option.{option_map_or}
use Rattle.term_values.specs.Typed.{TypedValue}
use Rattle.term_model.specs.declared.packages.Property.{Property}
use Rattle.term_model.specs.ClassAttributes.{is_permitted}

-- the properties of an attribute, where it has some, permit the value
abbrev pub permits : Option Property → TypedValue → Bool
permits property value =
    option_map_or (λ (found : Property). is_permitted found.permitted value) property true
