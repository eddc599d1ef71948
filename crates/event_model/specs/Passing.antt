-- Which discriminators and logs an event passes: X.734, section 8; X.735, section 8; docs/PROFILE.md, section 21. The
-- object is unlocked and enabled, and its construct, a filter, is valid, within the limits and true of the report.
use Rattle.std.specs.Prelude.{ℕ, pos, List, Bool, false, ◌&&◌, Option, None, codes, option_and_then}
use Rattle.std.specs.Option.{option_map_or}
use Rattle.term_values.specs.KeptTest.{tree_of}
use Rattle.term_values.specs.SameValue.{same_value}
use Rattle.term_values.specs.Typed.{TypedValue}
use Rattle.term_values.specs.Typed.TypedValue.{Int, Raw}
use Rattle.term_model.specs.declared.filter.Asked.{Asked}
use Rattle.term_model.specs.declared.filter.Asked.TheVariants as asked
use Rattle.term_model.specs.declared.object.Attribute.{Attribute}
use Rattle.term_model.specs.declared.object.Object.{Object}
use Rattle.term_model.specs.declared.schema.AttrRec.{AttrRec}
use Rattle.term_model.specs.FilterReading.{asked_in}
use Rattle.term_model.specs.FilterTests.{is_true_of}
use Rattle.event_model.specs.LabelledValues.{labelled_value}

-- the attribute with a label has this number
abbrev pub has_number : List AttrRec → List ℕ → ℕ → Object → Bool
has_number records label number object =
    option_map_or (same_value (Int (pos number))) (labelled_value records label object.attrs) false

-- administrativeState is unlocked 1, operationalState is enabled 1
abbrev pub is_working : List AttrRec → Object → Bool
is_working records object =
    has_number records (codes "administrativeState") 1 object && has_number records (codes "operationalState") 1 object

-- the filter that is written in a value
abbrev pub filter_within : List AttrRec → TypedValue → Option Asked
filter_within records (Raw octets) = option_and_then (asked_in records) (tree_of octets)
filter_within records _ = None

abbrev pub construct_of : List AttrRec → Object → Option Asked
construct_of records object =
    option_and_then (filter_within records) (labelled_value records (codes "discriminatorConstruct") object.attrs)

-- a filter that is valid and within the limits is true of the attributes of a report
abbrev pub is_true_filter : List AttrRec → List Attribute → Asked → Bool
is_true_filter records attributes (asked.Good filter) = is_true_of records attributes filter
is_true_filter records attributes (asked.Bad octets) = false
is_true_filter records attributes asked.Large = false

-- a report with these attributes passes the object
abbrev pub is_passed : List AttrRec → List Attribute → Object → Bool
is_passed records attributes object =
    is_working records object
    && option_map_or (is_true_filter records attributes) (construct_of records object) false
