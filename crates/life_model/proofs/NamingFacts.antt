-- Examples of names that the agent chooses, and of creations that fail, computed: X.711, section 7.4, m-Create; X.722,
-- section 8.6, WITH-AUTOMATIC-INSTANCE-NAMING; docs/PROFILE.md, section 15.
use Rattle.std.specs.Prelude.{◌≡◌, pos, Bool, true, false, Some, None, Ok, Err, List, [], ◌∷◌, codes, refl}
use Rattle.std.specs.Prelude.{replicate}
use Rattle.std.specs.Option.{option_map}
use Rattle.term_values.specs.BerReading.{front_of, identifier_of, length_at}
use Rattle.term_values.specs.Der.{identifier_octets, length_octets}
use Rattle.term_values.specs.Octets.{integer_contents, integer_in}
use Rattle.term_values.specs.Oid.{subidentifier}
use Rattle.term_values.specs.Syntaxes.{TypeSyntax}
use Rattle.term_values.specs.Syntaxes.TypeParts.{NoParts, Part}
use Rattle.term_values.specs.Syntaxes.TypeSyntax.{Boolean, Choice, Enumerated, Integer, Tagged}
use Rattle.term_values.specs.Tag.{context}
use Rattle.term_values.specs.Typed.TypedValue.{Int, Pick}
use Rattle.term_model.specs.declared.filter_item.Given.{Given}
use Rattle.term_model.specs.declared.name.Rdn.{Rdn}
use Rattle.term_model.specs.declared.name_binding.BindRec.{BindRec}
use Rattle.term_model.specs.declared.objects.NamedObject.{NamedObject}
use Rattle.term_model.specs.declared.request.IdRef.TheVariants as ids
use Rattle.term_model.specs.declared.request.Instance.{Instance}
use Rattle.term_model.specs.declared.request.Named.TheVariants as named
use Rattle.term_model.specs.declared.request.Place.TheVariants as places
use Rattle.term_model.specs.declared.request.Request.{Request}
use Rattle.term_model.specs.declared.request.Request.TheVariants as request
use Rattle.term_model.specs.declared.results.FailureReason.TheVariants as reasons
use Rattle.term_model.specs.declared.schema.Set.{Set}
use Rattle.term_model.specs.CmisErrors.{invalid_attribute_value, invalid_instance, missing_attribute_value}
use Rattle.term_model.specs.CmisErrors.{no_such_instance, no_such_object_class, no_such_reference}
use Rattle.term_model.specs.CmisErrors.{processing_failure}
use Rattle.term_model.specs.CreateEffect.{asking_for}
use Rattle.term_model.proofs.ExampleNetwork.{element_oid, id_oid, id_template, load_oid, load_template}
use Rattle.life_model.specs.AutomaticNames.{chosen_of_syntax, number_values}
use Rattle.life_model.specs.ChosenCreation.{create_chosen}
use Rattle.life_model.specs.CreateRequest.{create_request}
use Rattle.life_model.proofs.ExampleElements.{bound_by, element_element, element_with, entry, five_alone, id_given}
use Rattle.life_model.proofs.ExampleElements.{load_is, network, part, root}

-- ---- numbers as values

abbrev pub small : TypeSyntax
small = Integer [] ((pos 3, pos 4) ∷ (pos 9, pos 12) ∷ [])

-- the third alternative is the first INTEGER, under a tag
abbrev pub mixed : TypeSyntax
mixed =
    Choice (Part (codes "named") (Enumerated ((codes "one", pos 1) ∷ [])) false None
    (Part (codes "flag") Boolean false None
    (Part (codes "number") (Tagged (context 0) false (Integer [] [])) false None
    (Part (codes "other") (Integer [] []) false None NoParts))))

number_of_integer : option_map (λ values. values 3) (number_values (Tagged (context 1) true small)) ≡ Some (Int (pos 3))
number_of_integer = refl

number_of_choice : option_map (λ values. values 3) (number_values mixed) ≡ Some (Pick 2 (Int (pos 3)))
number_of_choice = refl

-- an ENUMERATED has none
no_number : option_map (λ values. values 1) (number_values (Enumerated ((codes "one", pos 1) ∷ []))) ≡ None
no_number = refl

-- ---- the least number that is free and fits

abbrev pub nothing_taken : Rdn → Bool
nothing_taken part = false

least_in_range : chosen_of_syntax nothing_taken id_oid small ≡ Some (part 3)
unfolding identifier_octets length_octets integer_contents
least_in_range = refl

least_of_all : chosen_of_syntax nothing_taken id_oid (Integer [] []) ≡ Some (part 1)
unfolding identifier_octets length_octets integer_contents
least_of_all = refl

chosen_in_choice : chosen_of_syntax nothing_taken id_oid mixed
    ≡ Some (record { attribute = id_oid; value = 0x80 ∷ 0x01 ∷ 0x01 ∷ [] })
unfolding identifier_octets length_octets integer_contents
chosen_in_choice = refl

-- ---- creations below the root

abbrev pub asked : Instance → List Given → Request
asked superior given = request.Create (ids.Global element_oid) (places.Below superior) None given

abbrev pub superior : List Rdn → Instance
superior name = record { raw = 7 ∷ []; named = named.Object name }

-- the first step
unknown_class : create_request network five_alone (request.Create (ids.Local (pos 1)) places.Free None []) 0
    ≡ Err (no_such_object_class (ids.Local (pos 1)))
unknown_class = refl

-- the second: a superior that names nothing by its form, and one of 32 parts
no_form : create_request network five_alone (asked (record { raw = 7 ∷ []; named = named.NonSpecific }) []) 0
    ≡ Err (invalid_instance (7 ∷ []))
no_form = refl

outside : create_request network five_alone (asked (record { raw = 7 ∷ []; named = named.Nothing }) []) 0
    ≡ Err (invalid_instance (7 ∷ []))
outside = refl

too_deep : create_request network five_alone (asked (superior (replicate 32 (part 5))) []) 0
    ≡ Err (invalid_instance (7 ∷ []))
too_deep = refl

-- the third: a superior that isn't there, of 31 parts too
no_superior : create_request network five_alone (asked (superior (part 9 ∷ [])) []) 0
    ≡ Err (no_such_instance (7 ∷ []))
no_superior = refl

deepest : create_request network five_alone (asked (superior (replicate 31 (part 5))) []) 0
    ≡ Err (no_such_instance (7 ∷ []))
deepest = refl

-- the fifth: a reference object that isn't there
no_reference :
    create_request network five_alone
    (request.Create (ids.Global element_oid) places.Free (Some (record { raw = 6 ∷ []; named = named.Nothing })) []) 0
    ≡ Err (no_such_reference (6 ∷ []))
no_reference = refl

-- the sixth: without WITH-AUTOMATIC-INSTANCE-NAMING, without a CREATE clause, and by an attribute of an element whose
-- numbers have none
abbrev pub given_names : BindRec
given_names = record element_element {
  create = Some (record { with_reference_object = true; with_automatic_instance_naming = false });
}

not_automatic : create_request (bound_by (given_names ∷ [])) five_alone (asked (superior []) []) 0
    ≡ Err (invalid_instance (7 ∷ []))
not_automatic = refl

not_created : create_request (bound_by (record element_element { create = None } ∷ [])) five_alone (asked (superior []) [])
    0 ≡ Err (invalid_instance (7 ∷ []))
not_created = refl

abbrev pub with_ids : TypeSyntax → Set
with_ids syntax = record network { attributes = record id_template { syntax = syntax } ∷ load_template ∷ [] }

numberless : create_request (with_ids Boolean) five_alone (asked (superior []) []) 0 ≡ Err (invalid_instance (7 ∷ []))
unfolding identifier_octets length_octets integer_contents
numberless = refl

-- without instance and superior the error has the root's empty localDistinguishedName
not_automatic_free :
    create_request (bound_by (given_names ∷ [])) five_alone (request.Create (ids.Global element_oid) places.Free None [])
    0 ≡ Err (invalid_instance (0xA4 ∷ 0x00 ∷ []))
unfolding identifier_octets length_octets
not_automatic_free = refl

-- the seventh: with a reference object where WITH-REFERENCE-OBJECT isn't there; the instance is the superior
abbrev pub unreferred : BindRec
unreferred = record element_element {
  create = Some (record { with_reference_object = false; with_automatic_instance_naming = true });
}

not_referred :
    create_request (bound_by (unreferred ∷ [])) five_alone
    (request.Create (ids.Global element_oid) (places.Below (superior []))
    (Some (record { raw = 6 ∷ []; named = named.Object (part 5 ∷ []) })) []) 0
    ≡ Err (processing_failure (ids.Global element_oid) (7 ∷ []) reasons.NotCreatable)
unfolding identifier_octets length_octets integer_contents
not_referred = refl

-- the eighth: a member for the naming attribute is the number that is chosen, or an error
misnamed : create_request network five_alone (asked (superior []) (id_given 2 ∷ [])) 0
    ≡ Err (invalid_attribute_value (ids.Global id_oid) (2 ∷ 1 ∷ 2 ∷ []))
unfolding identifier_octets length_octets integer_contents integer_in identifier_of length_at front_of
misnamed = refl

named_again : create_chosen network five_alone
    (asking_for (ids.Global element_oid) (superior []) None (id_given 1 ∷ load_is 3 ∷ [])) (named.Object [])
    ≡ Ok (entry (part 1 ∷ []) (element_with 1 3))
unfolding identifier_octets length_octets integer_contents integer_in subidentifier identifier_of length_at front_of
named_again = refl

-- the ninth: no load
unloaded : create_request network five_alone (asked (superior []) []) 0
    ≡ Err (missing_attribute_value (load_oid ∷ []))
unfolding identifier_octets length_octets integer_contents integer_in identifier_of length_at front_of
unloaded = refl

-- the values of the reference object are taken over, but for the naming attribute
referred : create_chosen network five_alone
    (asking_for (ids.Global element_oid) (superior []) (Some (record { raw = 6 ∷ []; named = named.Object (part 5 ∷ []) }))
    []) (named.Object [])
    ≡ Ok (entry (part 1 ∷ []) (element_with 1 7))
unfolding identifier_octets length_octets integer_contents integer_in subidentifier identifier_of length_at front_of
referred = refl

-- ---- several bindings

-- elementIds from 3 to 4 and from 9 to 12, of which 3 and 4 are taken
abbrev pub three_and_four : List NamedObject
three_and_four = root ∷ entry (part 3 ∷ []) (element_with 3 7) ∷ entry (part 4 ∷ []) (element_with 4 7) ∷ []

next_range : create_chosen (with_ids small) three_and_four
    (asking_for (ids.Global element_oid) (superior []) None (load_is 3 ∷ [])) (named.Object [])
    ≡ Ok (entry (part 9 ∷ []) (element_with 9 3))
unfolding identifier_octets length_octets integer_contents integer_in subidentifier identifier_of length_at front_of
next_range = refl

-- a binding by load, which is given as 3 and would be 1, leads to the eighth step; the one by elementId leads to the end
abbrev pub by_load : BindRec
by_load = record element_element { id = 2 ∷ 999 ∷ 6 ∷ 0 ∷ []; attribute = load_oid }

furthest_taken : create_chosen (bound_by (by_load ∷ element_element ∷ [])) five_alone
    (asking_for (ids.Global element_oid) (superior []) None (load_is 3 ∷ [])) (named.Object [])
    ≡ Ok (entry (part 1 ∷ []) (element_with 1 3))
unfolding identifier_octets length_octets integer_contents integer_in subidentifier identifier_of length_at front_of
furthest_taken = refl

-- where both fail in the eighth step, the error is that of the lesser identifier
abbrev pub both_fail : List Given
both_fail = load_is 3 ∷ id_given 2 ∷ []

least_taken : create_chosen (bound_by (element_element ∷ by_load ∷ [])) five_alone
    (asking_for (ids.Global element_oid) (superior []) None both_fail) (named.Object [])
    ≡ Err (invalid_attribute_value (ids.Global load_oid) (2 ∷ 1 ∷ 3 ∷ []))
unfolding identifier_octets length_octets integer_contents integer_in identifier_of length_at front_of
least_taken = refl
