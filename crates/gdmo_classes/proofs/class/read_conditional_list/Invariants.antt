use Rattle.std.proofs.Common.{◌-◌, length}
use Rattle.token_grammar.specs.Form.{Listed, Empty}
use Rattle.token_grammar.specs.Parts.{list_tree}
use Rattle.token_grammar.specs.Turns.{Leads}
use Rattle.gdmo_members.specs.Clauses.{comma}
use Rattle.gdmo_members.specs.Templates.{templates, conditional_package}
use Rattle.gdmo_classes.specs.PackageTrees.{conditional_tree}
use Rattle.gdmo_classes.proofs.class.read_conditional_list.Given as goal

-- the parts from the next one on are left to be read
abbrev pub invariant-turns : goal.invariant-turns
invariant-turns l = Leads l.tokens templates comma (Listed comma Empty conditional_package) l.at
    (Listed comma (list_tree conditional_tree Empty l.list.items) conditional_package) l.next

abbrev pub decreases-turns : goal.decreases-turns
decreases-turns l = length l.tokens - l.next
