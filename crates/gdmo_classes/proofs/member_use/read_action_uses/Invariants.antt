use Rattle.std.proofs.Common.{◌-◌, length}
use Rattle.token_grammar.specs.Form.{Listed, Empty}
use Rattle.token_grammar.specs.Parts.{list_tree}
use Rattle.token_grammar.specs.Turns.{Leads}
use Rattle.gdmo_members.specs.Clauses.{parameters, actions, comma}
use Rattle.gdmo_members.specs.Templates.{templates, member_use}
use Rattle.gdmo_classes.specs.ClassForms.{is_part_end}
use Rattle.gdmo_classes.specs.UseTrees.{action_use_tree}
use Rattle.gdmo_classes.proofs.member_use.read_action_uses.Given as goal

-- the parts from the next one on are left to be read
abbrev pub invariant-turns : goal.invariant-turns
invariant-turns l = Leads l.tokens templates is_part_end (Listed comma Empty (member_use actions parameters)) l.at
    (Listed comma (list_tree action_use_tree Empty l.list.items) (member_use actions parameters)) l.next

abbrev pub decreases-turns : goal.decreases-turns
decreases-turns l = length l.tokens - l.next
