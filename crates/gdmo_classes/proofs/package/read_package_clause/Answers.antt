-- Each clause comes with its first word, and comes once.
use Rattle.std.proofs.Common.{◌∙◌, sym, refl, true, false, arith, codes}
use Rattle.token_grammar.proofs.Heads.{stops_unless}
use Rattle.token_grammar.proofs.Known.{at_word}
use Rattle.token_grammar.proofs.Clauses.{no_slots_stop, slot_stops, opens_but, fails_clause, clause_taken, came_not}
use Rattle.token_grammar.proofs.Clauses.{comes_here, comes_not, exit_clause}
use Rattle.token_grammar.specs.TokenTests.{is_word_of}
use Rattle.gdmo_members.proofs.FirstTokens.{labels, labels_lead}
use Rattle.gdmo_members.specs.Clauses.{behaviour_clause}
use Rattle.token_grammar.specs.Parts.{vector_tree}
use Rattle.token_grammar.proofs.ByWord.{word_kept, clause_kept, slot_not}
use Rattle.gdmo_members.specs.Trees.{clause_tree, behaviour_list_tree}
use Rattle.gdmo_classes.specs.PackageTrees.{package_slots, is_package_clause}
use Rattle.gdmo_classes.specs.ClassForms.{attributes_clause, groups_clause, actions_clause, notifications_clause}
use Rattle.gdmo_classes.specs.UseTrees.{attribute_use_tree, group_use_tree, action_use_tree, notification_use_tree}
use Rattle.gdmo_classes.proofs.package.read_package_clause.Goals as goal

pub returns-then-has_behaviour : goal.returns-then-has_behaviour
returns-then-has_behaviour c = word_kept c.args.tokens.now labels labels_lead is_package_clause (codes "BEHAVIOUR") 0
    (package_slots c.args.clauses.now) _ (λ o. package_slots (record c.args.clauses.now { behaviour = o })) _ _
    c.keep_clause.new.place c.args.at c.read_behaviour_clause.result c.keep_clause.result refl refl (λ at. refl)
    (λ at. refl) (λ x. refl) c.is_none.ensures c.is_word_at.ensures c.if-has_behaviour.true
    c.read_behaviour_clause.ensures c.keep_clause.ensures

pub returns-then-has_attributes : goal.returns-then-has_attributes
returns-then-has_attributes c = word_kept c.args.tokens.now labels labels_lead is_package_clause (codes "ATTRIBUTES")
    1 (package_slots c.args.clauses.now) _ (λ o. package_slots (record c.args.clauses.now { attributes = o })) _ _
    c.keep_clause-then-has_attributes.new.place c.args.at c.read_attributes_clause.result
    c.keep_clause-then-has_attributes.result refl refl (λ at. refl) (λ at. refl) (λ x. refl) c.is_none-2.ensures
    c.is_word_at-2.ensures c.if-has_attributes.true c.read_attributes_clause.ensures
    c.keep_clause-then-has_attributes.ensures

pub returns-then-has_groups : goal.returns-then-has_groups
returns-then-has_groups c = word_kept c.args.tokens.now labels labels_lead is_package_clause (codes "ATTRIBUTE") 2
    (package_slots c.args.clauses.now) _ (λ o. package_slots (record c.args.clauses.now { groups = o })) _ _
    c.keep_clause-then-has_groups.new.place c.args.at c.read_groups_clause.result c.keep_clause-then-has_groups.result
    refl refl (λ at. refl) (λ at. refl) (λ x. refl) c.is_none-3.ensures c.is_word_at-3.ensures c.if-has_groups.true
    c.read_groups_clause.ensures c.keep_clause-then-has_groups.ensures

pub returns-then-has_actions : goal.returns-then-has_actions
returns-then-has_actions c = word_kept c.args.tokens.now labels labels_lead is_package_clause (codes "ACTIONS") 3
    (package_slots c.args.clauses.now) _ (λ o. package_slots (record c.args.clauses.now { actions = o })) _ _
    c.keep_clause-then-has_actions.new.place c.args.at c.read_actions_clause.result
    c.keep_clause-then-has_actions.result refl refl (λ at. refl) (λ at. refl) (λ x. refl) c.is_none-4.ensures
    c.is_word_at-4.ensures c.if-has_actions.true c.read_actions_clause.ensures c.keep_clause-then-has_actions.ensures

pub returns-then-has_notifications : goal.returns-then-has_notifications
returns-then-has_notifications c = word_kept c.args.tokens.now labels labels_lead is_package_clause
    (codes "NOTIFICATIONS") 4 (package_slots c.args.clauses.now) _
    (λ o. package_slots (record c.args.clauses.now { notifications = o })) _ _
    c.keep_clause-then-has_notifications.new.place c.args.at c.read_notifications_clause.result
    c.keep_clause-then-has_notifications.result refl refl (λ at. refl) (λ at. refl) (λ x. refl) c.is_none-5.ensures
    c.is_word_at-5.ensures c.if-has_notifications.true c.read_notifications_clause.ensures
    c.keep_clause-then-has_notifications.ensures

pub returns : goal.returns
returns c = record {
  same = refl;
  none =
      (slot_not labels labels_lead (codes "BEHAVIOUR") _ _ _ refl (λ t e. e) c.is_none.ensures c.is_word_at.ensures
      c.if-has_behaviour.false
      (slot_not labels labels_lead (codes "ATTRIBUTES") _ _ _ refl (λ t e. e) c.is_none-2.ensures c.is_word_at-2.ensures
      c.if-has_attributes.false
      (slot_not labels labels_lead (codes "ATTRIBUTE") _ _ _ refl (λ t e. e) c.is_none-3.ensures c.is_word_at-3.ensures
      c.if-has_groups.false (slot_not labels labels_lead (codes "ACTIONS") _ _ _ refl (λ t e. e) c.is_none-4.ensures
      c.is_word_at-4.ensures c.if-has_actions.false
      (slot_not labels labels_lead (codes "NOTIFICATIONS") _ _ _ refl (λ t e. e) c.is_none-5.ensures
      c.is_word_at-5.ensures c.if-has_notifications.false no_slots_stop)))));
}
