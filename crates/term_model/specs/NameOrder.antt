-- The order of names: as lists of their parts, a name before those that it begins. A part goes by its attribute's arcs,
-- then by the length of its value, then by the value's octets; docs/PROFILE.md, section 4.
use Rattle.std.specs.Prelude.{List, length}
use Rattle.std.specs.Cmp.Lexicographic.{slice_cmp}
use Rattle.std.specs.declared.cmp.Ordering.{Ordering}
use Rattle.std.specs.Ordering.{nat_cmp, on, then_cmp}
use Rattle.term_model.specs.declared.name.Rdn.{Rdn}

abbrev pub rdn_cmp : Rdn → Rdn → Ordering
rdn_cmp =
    then_cmp (on (λ rdn. rdn.attribute) (slice_cmp nat_cmp))
    (then_cmp (on (λ rdn. length rdn.value) nat_cmp) (on (λ rdn. rdn.value) (slice_cmp nat_cmp)))

abbrev pub name_cmp : List Rdn → List Rdn → Ordering
name_cmp = slice_cmp rdn_cmp
