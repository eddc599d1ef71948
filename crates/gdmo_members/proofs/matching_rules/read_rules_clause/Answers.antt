-- The keywords, the list and the semicolon.
use Rattle.std.proofs.Common.{refl, codes}
use Rattle.token_grammar.proofs.Sequences.{apart_closed, spelt_then, fails_front, fails_rest}
use Rattle.token_grammar.proofs.Endings.{clause_ends}
use Rattle.token_grammar.proofs.Exits.{exit_reads}
use Rattle.gdmo_members.proofs.Apart.{sign_apart}
use Rattle.gdmo_members.specs.Clauses.{semicolon}
use Rattle.gdmo_members.specs.Templates.{templates}
use Rattle.gdmo_members.proofs.matching_rules.read_rules_clause.Goals as goal

pub returns-in_err-next : goal.returns-in_err-next
returns-in_err-next c = exit_reads _ c.from_residual.result c.from_residual.ensures.1
    (fails_front apart_closed (c.in_err-next.ensures templates))

pub returns : goal.returns
returns c = clause_ends c.args.tokens.now _ _ c.read_rule_list.result c.end_clause.result
    (c.in_ok-next.ensures templates) (sign_apart (codes ",") semicolon refl (λ at. refl)) c.read_rule_list.ensures
    c.end_clause.ensures
