-- FormNumbers: the forms that have ranges or sizes, by the numbers with which docs/PROFILE.md tells them apart.
use Rattle.std.specs.Prelude.{ℕ}
use Rattle.permitted_bounds.specs.declared.forms.BoundedForm.{BoundedForm}
use Rattle.permitted_bounds.specs.declared.forms.BoundedForm.TheVariants.{Whole, Bits, Octets, Text, List, SetOf}

abbrev pub number_of : BoundedForm → ℕ
number_of Whole = 0
number_of Bits = 1
number_of Octets = 2
number_of Text = 3
number_of List = 4
number_of SetOf = 5
