-- How a value of the program is seen.
use Rattle.term_values.specs.declared.value.ValueForm.{ValueForm}
use Rattle.term_values.specs.declared.value.ValueForm.TheVariants as forms
use Rattle.term_values.specs.Typed.{TypedValue}
use Rattle.term_values.specs.Typed.TypedValue.{Truth, Int, Bits, Octets, Null, Identifier, Text, Time, Parts, Many}
use Rattle.term_values.specs.Typed.TypedValue.{Pick, Raw}

abbrev pub value_of : ValueForm → TypedValue
value_of (forms.Bool holds) = Truth holds
value_of (forms.Int n) = Int n
value_of (forms.Bits octets unused) = Bits octets unused
value_of (forms.Octets octets) = Octets octets
value_of forms.Null = Null
value_of (forms.Oid arcs) = Identifier arcs
value_of (forms.Text octets) = Text octets
value_of (forms.Time octets) = Time octets
value_of (forms.Parts slots) = Parts slots
value_of (forms.Many values) = Many values
value_of (forms.Pick n x) = Pick n x.value
value_of (forms.Raw octets) = Raw octets
