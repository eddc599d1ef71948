use Rattle.std.proofs.Common.{◌-◌, length}
use Rattle.token_grammar.specs.Form.{AnyOrder}
use Rattle.token_grammar.specs.Turns.{Leads}
use Rattle.gdmo_members.specs.Templates.{templates, property_slots}
use Rattle.gdmo_classes.specs.ClassForms.{is_keyword}
use Rattle.gdmo_classes.specs.UseTrees.{properties_slots}
use Rattle.gdmo_classes.proofs.properties.read_properties.Given as goal

-- the clauses that didn't come yet are left to be read
abbrev pub invariant-turns : goal.invariant-turns
invariant-turns l = Leads l.tokens templates is_keyword (AnyOrder property_slots) l.at
    (AnyOrder (properties_slots l.properties)) l.next

abbrev pub decreases-turns : goal.decreases-turns
decreases-turns l = length l.tokens - l.next
