-- The reference object of a creation, by what was found of it: X.711, section 7.4, m-Create, referenceObjectInstance.
use Rattle.std.specs.Prelude.{ℕ, List, [], Bool, false, ◌&&◌, not, Option, None, is_some, option_and_then}
use Rattle.std.specs.Option.{option_map_or}
use Rattle.term_model.specs.declared.creation.Creation.{Creation}
use Rattle.term_model.specs.declared.name.Rdn.{Rdn}
use Rattle.term_model.specs.declared.object.Attribute.{Attribute}
use Rattle.term_model.specs.declared.object.Object.{Object}
use Rattle.term_model.specs.declared.objects.NamedObject.{NamedObject}
use Rattle.term_model.specs.declared.request.Instance.{Instance}
use Rattle.term_model.specs.Creating.{Asking, named_object, of_class}

abbrev pub referred : List NamedObject → Option Instance → Option Object
referred objects = option_and_then (λ (reference : Instance). named_object objects reference.named)

abbrev pub is_of_class : List ℕ → Option Object → Bool
is_of_class class found = option_map_or (of_class class) found false

abbrev pub lacks_found : List ℕ → Option Instance → Option Object → Bool
lacks_found class reference found = is_some reference && not (is_of_class class found)

abbrev pub attributes_held : Option Object → List Attribute
attributes_held found = option_map_or (λ (object : Object). object.attrs) found []

abbrev pub raw_of : Option Instance → List ℕ
raw_of reference = option_map_or (λ (instance : Instance). instance.raw) reference []

-- what is created, with the reference object that was found, but for the binding
abbrev pub creation_with : Asking → List ℕ → Rdn → Option Object → Creation
creation_with asking class part found = record {
  class = class;
  binding = None;
  named = part;
  given = asking.given;
  taken = attributes_held found;
  asked = asking.class;
  instance = asking.instance;
}
