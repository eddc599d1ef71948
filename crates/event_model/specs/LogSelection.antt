-- Which logs an event passes: X.735, section 8; docs/PROFILE.md, section 21.
use Rattle.std.specs.Prelude.{List, Bool, filter}
use Rattle.term_model.specs.declared.event.Event.{Event}
use Rattle.term_model.specs.declared.name.Rdn.{Rdn}
use Rattle.term_model.specs.declared.object.Attribute.{Attribute}
use Rattle.term_model.specs.declared.objects.NamedObject.{NamedObject}
use Rattle.term_model.specs.declared.schema.Set.{Set}
use Rattle.term_model.specs.BoundClasses.{is_bound_log}
use Rattle.term_model.specs.NamedObjects.{names}
use Rattle.event_model.specs.Passing.{is_passed}
use Rattle.event_model.specs.ReportAttributes.{report_attributes}

-- the logs on which the agent acts, by the order of their names
abbrev pub is_log : Set → NamedObject → Bool
is_log schema entry = is_bound_log schema entry.object.class

abbrev pub logs : Set → List NamedObject → List NamedObject
logs schema objects = filter (is_log schema) objects

-- the names of those that a report with these attributes passes
abbrev pub is_passed_log : Set → List Attribute → NamedObject → Bool
is_passed_log schema attributes entry = is_passed schema.attributes attributes entry.object

abbrev pub passed_logs : Set → List NamedObject → List Attribute → List (List Rdn)
passed_logs schema objects attributes = names (filter (is_passed_log schema attributes) (logs schema objects))

abbrev pub event_logs : Set → List NamedObject → Event → List (List Rdn)
event_logs schema objects event = passed_logs schema objects (report_attributes schema event)
