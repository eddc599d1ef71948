-- Examples of what a Set does to one object, computed: X.711, section 7.4; docs/PROFILE.md. The object is an element
-- with elementId 1, by which it is named, and load 7, which managers may replace by 0 to 9 or set to the default 5.
use Rattle.std.specs.Prelude.{◌≡◌, ℕ, ℤ, pos, false, true, List, [], ◌∷◌, Option, None, Some, Ok, Err, codes, map, refl}
use Rattle.term_values.specs.Der.{identifier_octets, length_octets}
use Rattle.term_values.specs.Octets.{integer_contents}
use Rattle.term_values.specs.Oid.{subidentifier}
use Rattle.term_values.specs.ResultSyntaxes.{attributes_result}
use Rattle.term_values.specs.Syntaxes.TypeSyntax.{Integer, SetOf}
use Rattle.term_values.specs.Typed.{listed, TypedValue}
use Rattle.term_values.specs.Typed.TypedValue.{Int, Many}
use Rattle.term_model.specs.declared.effect.What.TheVariants as what
use Rattle.term_model.specs.declared.object.Object.{Object}
use Rattle.term_model.specs.declared.packages.Property.{Property}
use Rattle.term_model.specs.declared.reply.Reply.TheVariants as reply
use Rattle.term_model.specs.declared.request.Change.{Change}
use Rattle.term_model.specs.declared.request.IdRef.TheVariants as ids
use Rattle.term_model.specs.declared.results.AttributeValue.{AttributeValue}
use Rattle.term_model.specs.declared.results.SetInfoStatus.TheVariants as set_info
use Rattle.term_model.specs.declared.schema.Set.{Set}
use Rattle.term_model.specs.CmisErrors.{set_list_error}
use Rattle.term_model.specs.ObjectSet.{set_effect}
use Rattle.term_model.specs.Replies.{single}
use Rattle.term_model.specs.ResultValues.{attributes_value}
use Rattle.term_model.proofs.ExampleNetwork.{element, element_class, element_oid, id_oid, id_property, id_template}
use Rattle.term_model.proofs.ExampleNetwork.{id_value, load_oid, load_property, load_template, network}

-- the time 0
abbrev time : List ℕ
time = codes "19700101000000Z"

abbrev limited_load : Property
limited_load = record load_property {
  permitted = Integer [] ((pos 0, pos 9) ∷ []) ∷ [];
  set_to_default = true;
  default = Some (Int (pos 5));
}

abbrev limited : Set
limited = record network { classes = record element_class { properties = id_property ∷ limited_load ∷ [] } ∷ [] }

-- a modification of the attribute by the operator: 0 replace, 1 addValues, 3 setToDefault
abbrev change : ℤ → List ℕ → ℕ → Change
change operator id n = record {
  operator = operator;
  id = ids.Global id;
  given = Some (record { id = ids.Global id; value = Some (Int (pos n)); raw = 2 ∷ 1 ∷ n ∷ [] });
}

abbrev to_default : Change
to_default = record { operator = pos 3; id = ids.Global load_oid; given = None }

abbrev load_is : ℕ → Object
load_is n = record element { attrs = id_value ∷ record { id = load_oid; value = Int (pos n) } ∷ [] }

abbrev load_told : ℕ → AttributeValue
load_told n = record { id = load_oid; value = 2 ∷ 1 ∷ n ∷ [] }

-- the load becomes 3: the object is left so, and the load with its values before and now is a source
replaced_load : set_effect limited [] element (change (pos 0) load_oid 3 ∷ []) true time ≡ Ok (record {
  changes = ([], Some (load_is 3)) ∷ [];
  reply = single attributes_result (attributes_value element_oid [] time (load_told 3 ∷ []));
  sources = record {
    name = [];
    class = element_oid;
    what = what.Differs (record { attribute = load_oid; old = 2 ∷ 1 ∷ 7 ∷ []; new = 2 ∷ 1 ∷ 3 ∷ [] } ∷ []);
  } ∷ [];
})
unfolding subidentifier identifier_octets length_octets integer_contents
replaced_load = refl

-- changed and changed back: it is listed, but nothing differs
changed_back : set_effect limited [] element (change (pos 0) load_oid 3 ∷ change (pos 0) load_oid 7 ∷ []) true time
    ≡ Ok (record {
      changes = [];
      reply = single attributes_result (attributes_value element_oid [] time (load_told 7 ∷ []));
      sources = [];
    })
unfolding subidentifier identifier_octets length_octets integer_contents
changed_back = refl

-- 10 isn't permitted: invalidAttributeValue 6, in a setListError of 41 octets
not_permitted : set_effect limited [] element (change (pos 0) load_oid 10 ∷ []) true time
    ≡ Err (set_list_error element_oid [] time (set_info.Error (pos 6) (pos 0) (ids.Global load_oid) ∷ []))
unfolding subidentifier identifier_octets length_octets integer_contents
not_permitted = refl

-- best effort keeps what could be done, and tells it beside the error; each with its operator
abbrev both : List Change
both = to_default ∷ change (pos 1) load_oid 2 ∷ []

best_effort : set_effect limited [] element both false time ≡ Ok (record {
  changes = ([], Some (load_is 5)) ∷ [];
  reply = reply.Error (set_list_error element_oid [] time
      (set_info.Error (pos 24) (pos 1) (ids.Global load_oid) ∷ set_info.Attribute (load_told 5) ∷ []));
  sources = record {
    name = [];
    class = element_oid;
    what = what.Differs (record { attribute = load_oid; old = 2 ∷ 1 ∷ 7 ∷ []; new = 2 ∷ 1 ∷ 5 ∷ [] } ∷ []);
  } ∷ [];
})
unfolding subidentifier identifier_octets length_octets integer_contents
best_effort = refl

-- atomic, the same gives the error alone
none_stays : set_effect limited [] element both true time
    ≡ Err (set_list_error element_oid [] time (set_info.Error (pos 24) (pos 1) (ids.Global load_oid) ∷ []))
unfolding subidentifier identifier_octets length_octets integer_contents
none_stays = refl

-- the errors in their order: an attribute that the object has not 5, an operator that there is not 25, the attribute by
-- which the root is named 24
three_errors : set_effect limited [] element
    (change (pos 4) (2 ∷ 999 ∷ 7 ∷ 3 ∷ []) 1 ∷ change (pos 4) id_oid 1 ∷ change (pos 0) id_oid 1 ∷ []) false time
    ≡ Err (set_list_error element_oid [] time
    (set_info.Error (pos 5) (pos 4) (ids.Global (2 ∷ 999 ∷ 7 ∷ 3 ∷ []))
    ∷ set_info.Error (pos 25) (pos 4) (ids.Global id_oid) ∷ set_info.Error (pos 24) (pos 0) (ids.Global id_oid) ∷ []))
unfolding subidentifier identifier_octets length_octets integer_contents
three_errors = refl

-- ---- an element whose load is a set of numbers, with ADD-REMOVE

abbrev many : List ℕ → TypedValue
many numbers = Many (listed (map (λ n. Int (pos n)) numbers))

abbrev with_set : Set
with_set = record network {
  attributes = id_template ∷ record load_template { syntax = SetOf (Integer [] []) [] } ∷ [];
  classes = record element_class {
    properties = id_property ∷ record load_property { add = true; remove = true } ∷ [];
  } ∷ [];
}

abbrev holding : List ℕ → Object
holding numbers = record element { attrs = id_value ∷ record { id = load_oid; value = many numbers } ∷ [] }

-- 1 addValues or 2 removeValues
abbrev by : ℤ → Option TypedValue → List Change
by operator value = record {
  operator = operator;
  id = ids.Global load_oid;
  given = Some (record { id = ids.Global load_oid; value = value; raw = 9 ∷ [] });
} ∷ []

abbrev one_three : List ℕ
one_three = 0x31 ∷ 0x06 ∷ 0x02 ∷ 0x01 ∷ 0x01 ∷ 0x02 ∷ 0x01 ∷ 0x03 ∷ []

abbrev one_two_three : List ℕ
one_two_three = 0x31 ∷ 0x09 ∷ 0x02 ∷ 0x01 ∷ 0x01 ∷ 0x02 ∷ 0x01 ∷ 0x02 ∷ 0x02 ∷ 0x01 ∷ 0x03 ∷ []

-- 2 is new, 3 is there, and the set stands by rising encodings
added : set_effect with_set [] (holding (1 ∷ 3 ∷ [])) (by (pos 1) (Some (many (2 ∷ 3 ∷ [])))) true time ≡ Ok (record {
  changes = ([], Some (holding (1 ∷ 2 ∷ 3 ∷ []))) ∷ [];
  reply = single attributes_result
      (attributes_value element_oid [] time (record { id = load_oid; value = one_two_three } ∷ []));
  sources = record {
    name = [];
    class = element_oid;
    what = what.Differs (record { attribute = load_oid; old = one_three; new = one_two_three } ∷ []);
  } ∷ [];
})
unfolding subidentifier identifier_octets length_octets integer_contents
added = refl

-- 2 goes, and 9 isn't there
removed : set_effect with_set [] (holding (1 ∷ 2 ∷ 3 ∷ [])) (by (pos 2) (Some (many (2 ∷ 9 ∷ [])))) true time
    ≡ Ok (record {
      changes = ([], Some (holding (1 ∷ 3 ∷ []))) ∷ [];
      reply = single attributes_result
          (attributes_value element_oid [] time (record { id = load_oid; value = one_three } ∷ []));
      sources = record {
        name = [];
        class = element_oid;
        what = what.Differs (record { attribute = load_oid; old = one_two_three; new = one_three } ∷ []);
      } ∷ [];
    })
unfolding subidentifier identifier_octets length_octets integer_contents
removed = refl

-- nothing goes: the load is told, no object is left otherwise, and there is no event
none_removed : set_effect with_set [] (holding (1 ∷ 3 ∷ [])) (by (pos 2) (Some (many (9 ∷ [])))) true time
    ≡ Ok (record {
      changes = [];
      reply = single attributes_result
          (attributes_value element_oid [] time (record { id = load_oid; value = one_three } ∷ []));
      sources = [];
    })
unfolding subidentifier identifier_octets length_octets integer_contents
none_removed = refl

-- no value of the syntax came: invalidAttributeValue 6
no_value : set_effect with_set [] (holding (1 ∷ 3 ∷ [])) (by (pos 1) None) true time
    ≡ Err (set_list_error element_oid [] time (set_info.Error (pos 6) (pos 1) (ids.Global load_oid) ∷ []))
unfolding subidentifier identifier_octets length_octets integer_contents
no_value = refl
