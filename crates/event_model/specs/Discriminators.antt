-- To which associations an event is reported, and by which discriminators: X.734, section 8; docs/PROFILE.md, section
-- 21. Each pair of a discriminator that passes the event and an association whose title is in its destination is one
-- report.
use Rattle.std.specs.Prelude.{ℕ, zero, suc, List, [], Bool, false, codes}
use Rattle.std.specs.Prelude.{filter, flat_map, map, if◌then◌else◌}
use Rattle.std.specs.Option.{option_map_or}
use Rattle.term_values.specs.Typed.{TypedValue}
use Rattle.term_values.specs.Typed.TypedValue.{Identifier, Many, Pick}
use Rattle.term_model.specs.declared.event.Event.{Event}
use Rattle.term_model.specs.declared.name.Rdn.{Rdn}
use Rattle.term_model.specs.declared.object.Attribute.{Attribute}
use Rattle.term_model.specs.declared.object.Object.{Object}
use Rattle.term_model.specs.declared.objects.NamedObject.{NamedObject}
use Rattle.term_model.specs.declared.schema.AttrRec.{AttrRec}
use Rattle.term_model.specs.declared.schema.Set.{Set}
use Rattle.term_model.specs.BoundClasses.{is_bound_discriminator}
use Rattle.term_model.specs.Comparing.{is_same_oid}
use Rattle.term_model.specs.MatchTests.{have}
use Rattle.event_model.specs.LabelledValues.{labelled_value}
use Rattle.event_model.specs.Passing.{is_passed}
use Rattle.event_model.specs.ReportAttributes.{report_attributes}

-- the discriminators on which the agent acts, by the order of their names
abbrev pub is_discriminator : Set → NamedObject → Bool
is_discriminator schema entry = is_bound_discriminator schema entry.object.class

abbrev pub discriminators : Set → List NamedObject → List NamedObject
discriminators schema objects = filter (is_discriminator schema) objects

-- the title is in a destination: single, or multiple
abbrev pub is_among_titles : TypedValue → List ℕ → Bool
is_among_titles (Pick zero (Identifier arcs)) title = is_same_oid arcs title
is_among_titles (Pick (suc zero) (Many titles)) title = have titles (Identifier title)
is_among_titles _ title = false

abbrev pub is_sent_to : List AttrRec → Object → List ℕ → Bool
is_sent_to records object title =
    option_map_or (λ value. is_among_titles value title) (labelled_value records (codes "destination") object.attrs)
    false

-- an association by its number, with its title
abbrev pub Titled : Type 0
Titled = ℕ × List ℕ

-- the name of a discriminator, and the number of an association
abbrev pub Target : Type 0
Target = List Rdn × ℕ

abbrev pub associations_for : List AttrRec → List Titled → Object → List ℕ
associations_for records titles object =
    map (λ (titled : Titled). titled.0) (filter (λ (titled : Titled). is_sent_to records object titled.1) titles)

abbrev pub targets_by : Set → List Attribute → List Titled → NamedObject → List Target
targets_by schema attributes titles entry =
    if is_passed schema.attributes attributes entry.object
    then map (λ number. (entry.name, number)) (associations_for schema.attributes titles entry.object)
    else []

-- the targets of a report with these attributes, by the order of names, then of numbers
abbrev pub targets : Set → List NamedObject → List Titled → List Attribute → List Target
targets schema objects titles attributes =
    flat_map (targets_by schema attributes titles) (discriminators schema objects)

-- the targets of an event on the objects as they are; the associations are those that were admitted and are neither
-- finished nor closed, by rising number
abbrev pub event_targets : Set → List NamedObject → List Titled → Event → List Target
event_targets schema objects associations event = targets schema objects associations (report_attributes schema event)
