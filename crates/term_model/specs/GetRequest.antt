-- A class in globalForm [0] and an instance in localDistinguishedName [4], as they are written, and the m-Get of one
-- object alone: X.711, section 7.4.
use Rattle.std.specs.Prelude.{ℕ, ℤ, pos, List, [], ◌∷◌, ◌++◌, true, false}
use Rattle.std.specs.Prelude.{None, flat_map, map}
use Rattle.term_values.specs.declared.tag.Tag.{Tag}
use Rattle.term_values.specs.Der.{encoded, written}
use Rattle.term_values.specs.Oid.{oid_contents}
use Rattle.term_values.specs.Tag.{context, universal}
use Rattle.term_values.specs.Typed.{TypedValue, listed}
use Rattle.term_values.specs.Typed.TypedSlots.{NoSlots, Filled}
use Rattle.term_values.specs.Typed.TypedValue.{Identifier, Many, Parts, Raw}
use Rattle.term_model.specs.declared.name.Rdn.{Rdn}
use Rattle.term_model.specs.declared.request.IdRef.{IdRef}
use Rattle.term_model.specs.declared.request.IdRef.TheVariants.{Global}
use Rattle.term_model.specs.declared.request.Instance.{Instance}
use Rattle.term_model.specs.declared.request.Named.TheVariants as named
use Rattle.term_model.specs.declared.request.Request.{Request}
use Rattle.term_model.specs.declared.request.Request.TheVariants.{Get}
use Rattle.term_model.specs.declared.filter.Asked.TheVariants.{Good}
use Rattle.term_model.specs.declared.request.Head.{Head}
use Rattle.term_model.specs.declared.scope.Scope.TheVariants.{Plain}
use Rattle.term_model.specs.FilterTrees.FilterTree.{And}
use Rattle.term_model.specs.FilterTrees.FilterTrees.{Nothing as no_filters}

-- the number of the operation m-Get
abbrev pub m_get : ℤ
m_get = pos 3

abbrev pub global_form : Tag
global_form = context 0

abbrev pub local_distinguished_name : Tag
local_distinguished_name = context 4

-- the defaults of X.711: best effort, baseObject, and the empty `and`, which each object passes
abbrev pub head_alone : IdRef → Instance → Head
head_alone class base = record {
  class = class;
  base = base;
  sync = pos 0;
  scope = Plain (pos 0);
  filter = Good (And no_filters);
}

-- the m-Get of a base object alone, for all its attributes
abbrev pub get_alone : IdRef → Instance → Request
get_alone class base = Get (head_alone class base) None

-- the written encoding of names
abbrev pub assertion_octets : Rdn → List ℕ
assertion_octets rdn = encoded true (universal 16) (encoded false (universal 6) (oid_contents rdn.attribute)
    ++ rdn.value)

abbrev pub rdn_octets : Rdn → List ℕ
rdn_octets rdn = encoded true (universal 17) (assertion_octets rdn)

abbrev pub instance_octets : List Rdn → List ℕ
instance_octets name = encoded true local_distinguished_name (flat_map rdn_octets name)

abbrev pub class_octets : List ℕ → List ℕ
class_octets class = encoded false global_form (oid_contents class)

-- the value of a name, each part of which is one assertion
abbrev pub assertion_value : Rdn → TypedValue
assertion_value rdn = Parts (Filled (Identifier rdn.attribute) (Filled (Raw rdn.value) NoSlots))

abbrev pub rdn_value : Rdn → TypedValue
rdn_value rdn = Many (listed (assertion_value rdn ∷ []))

abbrev pub name_value : List Rdn → TypedValue
name_value name = Many (listed (map rdn_value name))

-- the Get of an object of this class with this name, whose instance is given back as it is written
abbrev pub get_request : List ℕ → List Rdn → Request
get_request class name =
    get_alone (Global class) (record { raw = instance_octets name; named = named.Object name })
