use Rattle.std.proofs.Common.{◌-◌, length}
use Rattle.token_grammar.specs.Form.{Listed, Empty, Leaf}
use Rattle.token_grammar.specs.Parts.{list_tree}
use Rattle.token_grammar.proofs.Turns.{Leads}
use Rattle.gdmo_members.specs.Clauses.{comma, matching_rule}
use Rattle.gdmo_members.specs.Templates.{templates}
use Rattle.gdmo_members.proofs.matching_rules.read_rule_list.Given as goal

-- the parts from the next one on are left to be read
abbrev pub invariant-turns : goal.invariant-turns
invariant-turns l = Leads l.tokens templates comma (Listed comma Empty matching_rule) l.at
    (Listed comma (list_tree Leaf Empty l.list.items) matching_rule) l.next

abbrev pub decreases-turns : goal.decreases-turns
decreases-turns l = length l.tokens - l.next
