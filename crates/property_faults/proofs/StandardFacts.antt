-- Examples, computed: which held values are unequal, which types stand at places, and which faults are told; X.722,
-- section 8.4; docs/PROFILE.md, section 18.
use Rattle.std.proofs.Common.{◌≡◌, ◌++◌, ◌∷◌, [], List, Option, None, Some, true, false, refl, ap}
use Rattle.std.specs.Prelude.{option_to_list}
use Rattle.term_values.specs.Syntaxes.{TypeSyntax}
use Rattle.asn1_names.specs.ModuleTerms.{ModuleTerm}
use Rattle.linked_parts.specs.declared.linked.Linked.{Linked}
use Rattle.linked_parts.specs.declared.linked.LinkedHead.{LinkedHead}
use Rattle.class_faults.specs.FirstClassFault.ClassFault.{ClassCyclic, DefaultUnequal}
use Rattle.joined_statements.specs.declared.held.Held.TheVariants.{NoValue, Nothing, One, Unequal}
use Rattle.linked_types.specs.TypeTables.{syntax_of, type_at}
use Rattle.linked_types.specs.declared.type_table.NamedType.{NamedType}
use Rattle.linked_types.specs.declared.type_table.TypeTable.{TypeTable}
use Rattle.property_faults.specs.PropertyFaults.{PropertyFaults}
use Rattle.property_faults.specs.TableFaults.{TableFaults, is_unequal, types_at}

-- only two values are unequal
two_values : is_unequal Unequal ≡ true
two_values = refl

one_value : is_unequal (One 3) ≡ false
one_value = refl

no_value : is_unequal NoValue ≡ false
no_value = refl

none_stated : is_unequal Nothing ≡ false
none_stated = refl

-- no places have no types, a place past the end has none, and one with a syntax has it
no_types : (table : TypeTable) → types_at table [] ≡ []
no_types table = refl

types_of : Option NamedType → List TypeSyntax
types_of o = option_to_list (syntax_of o) ++ []

past_the_end : (table : TypeTable) → type_at table 7 ≡ None → types_at table (7 ∷ []) ≡ []
unfolding types_of
past_the_end table gone = ap types_of gone

one_type : (table : TypeTable) (named : NamedType) (syntax : TypeSyntax) → type_at table 7 ≡ Some named →
    named.syntax ≡ Some syntax → types_at table (7 ∷ []) ≡ syntax ∷ []
unfolding types_of
one_type table named syntax there is = rw there (ap (λ o. option_to_list o ++ []) is)

-- classes that derive from themselves are told elsewhere, and a class without a table has no fault
no_cycle : (ms : List ModuleTerm) (linked : Linked) → ¬ PropertyFaults ms linked ClassCyclic 0 7
no_cycle ms linked fault = fault

no_table : (ms : List ModuleTerm) (linked : Linked) (table : TypeTable) (head : LinkedHead) →
    ¬ TableFaults ms linked table None head DefaultUnequal 0 7
no_table ms linked table head fault = fault
