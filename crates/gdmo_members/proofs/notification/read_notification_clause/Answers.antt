-- Each clause comes with its first word, and comes once; the two that begin alike part at their second word.
use Rattle.std.proofs.Common.{◌∙◌, ◌&&◌, ◌+◌, sym, refl, arith, codes}
use Rattle.std.specs.Prelude.{slice_get}
use Rattle.token_grammar.specs.Spelling.{passes}
use Rattle.token_grammar.proofs.Heads.{stops_unless}
use Rattle.token_grammar.proofs.Clauses.{no_slots_stop, slot_stops, came_not, comes_here, exit_clause, both_first}
use Rattle.token_grammar.proofs.Clauses.{open_and}
use Rattle.token_grammar.specs.TokenTests.{is_word_of}
use Rattle.gdmo_members.proofs.FirstTokens.{labels, labels_lead}
use Rattle.gdmo_members.proofs.WithClauses.{with_not}
use Rattle.token_grammar.specs.Outcome.{closed}
use Rattle.token_grammar.proofs.ByWord.{fails_by_words, taken_by_words, word_kept, clause_kept, slot_not, pair_first}
use Rattle.token_grammar.proofs.ByWord.{pair_second}
use Rattle.gdmo_members.specs.Trees.{clause_tree}
use Rattle.gdmo_members.specs.FurtherTrees.{notification_slots, is_notification_clause, information_tree}
use Rattle.gdmo_members.proofs.notification.read_notification_clause.Goals as goal

pub returns-then-has_information : goal.returns-then-has_information
returns-then-has_information c =
    let asked = both_first (c.is_none-4.result && c.is_word_at-is_with.result)
    (c.is_none-3.result && c.is_pair_at.result) c.if-has_information.true in
    let comes = sym c.is_word_at-is_with.ensures ∙ comes_here c.is_none-4.result c.is_word_at-is_with.result asked in
    clause_kept c.args.tokens.now closed is_notification_clause 2 (notification_slots c.args.clauses.now) _
    (λ o. notification_slots (record c.args.clauses.now { information = o })) c.args.clauses.now.information
    c.keep_clause-then-has_information.new.place c.args.at c.read_information_clause.result
    c.keep_clause-then-has_information.result (λ x. refl)
    (λ j a one. taken_by_words labels labels_lead is_notification_clause (codes "WITH") 2 3
    (notification_slots c.args.clauses.now) refl refl refl (λ at. refl) (λ at. refl)
    (came_not _ _ _ _ c.is_none-4.ensures asked) comes
    (pair_first _ _ _ _ _ _ _ c.is_none-3.ensures c.is_pair_at.ensures c.if-has_information.true comes) one)
    (λ e fault. fails_by_words labels labels_lead is_notification_clause (codes "WITH") 2 3
    (notification_slots c.args.clauses.now) refl refl (λ at. refl) (λ at. refl)
    (came_not _ _ _ _ c.is_none-4.ensures asked) comes
    (pair_first _ _ _ _ _ _ _ c.is_none-3.ensures c.is_pair_at.ensures c.if-has_information.true comes) fault)
    c.read_information_clause.ensures c.keep_clause-then-has_information.ensures

pub returns-then-has_reply : goal.returns-then-has_reply
returns-then-has_reply c =
    let word = comes_here c.is_none-5.result c.is_word_at-is_with.result c.if-has_reply.true in
    clause_kept c.args.tokens.now closed is_notification_clause 3 (notification_slots c.args.clauses.now) _
    (λ o. notification_slots (record c.args.clauses.now { reply = o })) c.args.clauses.now.reply
    c.keep_clause-then-has_reply.new.place c.args.at c.read_type_clause.result c.keep_clause-then-has_reply.result
    (λ x. refl)
    (λ j a one. taken_by_words labels labels_lead is_notification_clause (codes "WITH") 3 2
    (notification_slots c.args.clauses.now) refl refl refl (λ at. refl) (λ at. refl)
    (came_not _ _ _ _ c.is_none-5.ensures c.if-has_reply.true) (sym c.is_word_at-is_with.ensures ∙ word)
    (pair_second (codes "REPLY") (codes "INFORMATION") (slice_get c.args.tokens.now (c.args.at + 1)) _ _ _ _ _
    (passes (is_word_of (codes "WITH")) (slice_get c.args.tokens.now c.args.at)) _ (λ at. refl) c.is_none-4.ensures
    c.is_pair_at.ensures c.if-has_information.false word) one)
    (λ e fault. fails_by_words labels labels_lead is_notification_clause (codes "WITH") 3 2
    (notification_slots c.args.clauses.now) refl refl (λ at. refl) (λ at. refl)
    (came_not _ _ _ _ c.is_none-5.ensures c.if-has_reply.true) (sym c.is_word_at-is_with.ensures ∙ word)
    (pair_second (codes "REPLY") (codes "INFORMATION") (slice_get c.args.tokens.now (c.args.at + 1)) _ _ _ _ _
    (passes (is_word_of (codes "WITH")) (slice_get c.args.tokens.now c.args.at)) _ (λ at. refl) c.is_none-4.ensures
    c.is_pair_at.ensures c.if-has_information.false word) fault)
    c.read_type_clause.ensures c.keep_clause-then-has_reply.ensures

pub returns-then-has_behaviour : goal.returns-then-has_behaviour
returns-then-has_behaviour c = word_kept c.args.tokens.now labels labels_lead is_notification_clause
    (codes "BEHAVIOUR") 0 (notification_slots c.args.clauses.now) _
    (λ o. notification_slots (record c.args.clauses.now { behaviour = o })) _ _ c.keep_clause.new.place c.args.at
    c.read_behaviour_clause.result c.keep_clause.result refl refl (λ at. refl) (λ at. refl) (λ x. refl)
    c.is_none.ensures c.is_word_at.ensures c.if-has_behaviour.true c.read_behaviour_clause.ensures
    c.keep_clause.ensures

pub returns-then-has_parameters : goal.returns-then-has_parameters
returns-then-has_parameters c = word_kept c.args.tokens.now labels labels_lead is_notification_clause
    (codes "PARAMETERS") 1 (notification_slots c.args.clauses.now) _
    (λ o. notification_slots (record c.args.clauses.now { parameters = o })) _ _
    c.keep_clause-then-has_parameters.new.place c.args.at c.read_parameters_clause.result
    c.keep_clause-then-has_parameters.result refl refl (λ at. refl) (λ at. refl) (λ x. refl) c.is_none-2.ensures
    c.is_word_at-2.ensures c.if-has_parameters.true c.read_parameters_clause.ensures
    c.keep_clause-then-has_parameters.ensures

pub returns : goal.returns
returns c = record {
  same = refl;
  none =
      slot_not labels labels_lead (codes "BEHAVIOUR") _ _ _ refl (λ t e. e) c.is_none.ensures c.is_word_at.ensures
      c.if-has_behaviour.false
      (slot_not labels labels_lead (codes "PARAMETERS") _ _ _ refl (λ t e. e) c.is_none-2.ensures c.is_word_at-2.ensures
      c.if-has_parameters.false
      (slot_stops (λ open_now. stops_unless labels labels_lead (is_word_of (codes "WITH")) _ c.args.at c.args.at
      (omega arith) refl (λ t e. e) (sym c.is_word_at-is_with.ensures
      ∙ with_not c.is_none-3.result c.is_none-4.result c.is_none-5.result c.is_word_at-is_with.result
      c.is_pair_at.result
      _ c.is_none-3.ensures c.is_none-5.ensures c.if-has_information.false c.if-has_reply.false
      (open_and (clause_tree information_tree) c.args.clauses.now.information c.is_none-4.result c.is_none-4.ensures
      open_now))) (slot_not labels labels_lead (codes "WITH") _ _ _ refl (λ t e. e) c.is_none-5.ensures
      c.is_word_at-is_with.ensures c.if-has_reply.false no_slots_stop)));
}
