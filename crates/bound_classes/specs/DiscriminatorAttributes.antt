-- Which attributes of an event forwarding discriminator the mandatory packages of classes have, by label and syntax:
-- X.721, class eventForwardingDiscriminator; docs/PROFILE.md, section 15.
use Rattle.std.specs.Prelude.{ℕ, List, Bool, ◌&&◌, codes}
use Rattle.std.specs.List.{list_all}
use Rattle.term_values.specs.Syntaxes.{TypeSyntax}
use Rattle.term_values.specs.Syntaxes.TypeSyntax.{Filter}
use Rattle.term_model.specs.declared.schema.Set.{Set}
use Rattle.term_model.specs.ControlSyntaxes.{administrative_state, destination, operational_state, simple_name}
use Rattle.term_model.specs.ControlSyntaxes.{top_attributes}
use Rattle.attribute_rules.specs.MandatoryAttributes.{classes_have}

-- those of top
abbrev pub have_of_top : Set → List (List ℕ) → Bool
have_of_top schema classes =
    list_all (λ (wanted : List ℕ × TypeSyntax). classes_have schema classes wanted.0 wanted.1) top_attributes

-- the states, and those of top
unfoldable pub have_states : Set → List (List ℕ) → Bool
have_states schema classes =
    classes_have schema classes (codes "administrativeState") administrative_state
    && (classes_have schema classes (codes "operationalState") operational_state && have_of_top schema classes)

-- and the filter and the destination
unfoldable pub have_sending : Set → List (List ℕ) → Bool
have_sending schema classes =
    classes_have schema classes (codes "discriminatorConstruct") Filter
    && (classes_have schema classes (codes "destination") destination && have_states schema classes)

-- and the name: all
unfoldable pub have_all_of_discriminator : Set → List (List ℕ) → Bool
have_all_of_discriminator schema classes =
    classes_have schema classes (codes "discriminatorId") simple_name && have_sending schema classes
