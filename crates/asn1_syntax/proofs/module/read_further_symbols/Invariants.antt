use Rattle.asn1_syntax.specs.ModuleTrees.{symbols_tree}
use Rattle.asn1_values_syntax.specs.Asn1.{asn1, symbols}
use Rattle.asn1_values_syntax.specs.TypeEnds.{is_imports_end}
use Rattle.std.proofs.Common.{length, ◌-◌}
use Rattle.token_grammar.specs.Form.{Empty, Many}
use Rattle.token_grammar.specs.Parts.{list_tree}
use Rattle.token_grammar.specs.Turns.{Leads}
use Rattle.asn1_syntax.proofs.module.read_further_symbols.Given as goal

-- the parts from the next one on are left to be read
abbrev pub invariant-turns : goal.invariant-turns
invariant-turns l = Leads l.tokens asn1 is_imports_end (Many Empty symbols) l.at
    (Many (list_tree symbols_tree Empty l.list.items) symbols) l.next

abbrev pub decreases-turns : goal.decreases-turns
decreases-turns l = length l.tokens - l.next
