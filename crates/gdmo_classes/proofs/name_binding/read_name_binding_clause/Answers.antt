-- Each clause comes with its first word, and comes once.
use Rattle.std.proofs.Common.{◌∙◌, sym, refl, true, false, arith, codes}
use Rattle.token_grammar.proofs.Heads.{stops_unless}
use Rattle.token_grammar.proofs.Known.{at_word}
use Rattle.token_grammar.proofs.Clauses.{no_slots_stop, slot_stops, opens_but, fails_clause, clause_taken, came_not}
use Rattle.token_grammar.proofs.Clauses.{comes_here, comes_not, exit_clause}
use Rattle.token_grammar.specs.TokenTests.{is_word_of}
use Rattle.token_grammar.proofs.ByWord.{word_kept, clause_kept, slot_not}
use Rattle.gdmo_members.proofs.FirstTokens.{labels, labels_lead}
use Rattle.gdmo_members.specs.Clauses.{behaviour_clause}
use Rattle.gdmo_members.specs.Trees.{clause_tree, behaviour_list_tree}
use Rattle.gdmo_members.specs.MemberTrees.{attribute_reference_tree}
use Rattle.gdmo_classes.specs.BindingTrees.{class_scope_tree, creation_tree, deletion_tree, name_binding_slots}
use Rattle.gdmo_classes.specs.BindingTrees.{is_name_binding_clause}
use Rattle.gdmo_classes.specs.ClassForms.{subordinate_clause, superior_clause, naming_clause, create_clause}
use Rattle.gdmo_classes.specs.ClassForms.{delete_clause}
use Rattle.gdmo_classes.proofs.name_binding.read_name_binding_clause.Goals as goal

pub returns-then-has_subordinate : goal.returns-then-has_subordinate
returns-then-has_subordinate c = word_kept c.args.tokens.now labels labels_lead is_name_binding_clause
    (codes "SUBORDINATE") 0 (name_binding_slots c.args.draft.now) _
    (λ o. name_binding_slots (record c.args.draft.now { subordinate = o })) _ _ c.keep_clause.new.place c.args.at
    c.read_subordinate_clause.result c.keep_clause.result refl refl (λ at. refl) (λ at. refl) (λ x. refl)
    c.is_none.ensures c.is_word_at.ensures c.if-has_subordinate.true c.read_subordinate_clause.ensures
    c.keep_clause.ensures

pub returns-then-has_superior : goal.returns-then-has_superior
returns-then-has_superior c = word_kept c.args.tokens.now labels labels_lead is_name_binding_clause (codes "NAMED") 1
    (name_binding_slots c.args.draft.now) _ (λ o. name_binding_slots (record c.args.draft.now { superior = o })) _ _
    c.keep_clause-then-has_superior.new.place c.args.at c.read_superior_clause.result
    c.keep_clause-then-has_superior.result refl refl (λ at. refl) (λ at. refl) (λ x. refl) c.is_none-2.ensures
    c.is_word_at-2.ensures c.if-has_superior.true c.read_superior_clause.ensures
    c.keep_clause-then-has_superior.ensures

pub returns-then-has_attribute : goal.returns-then-has_attribute
returns-then-has_attribute c = word_kept c.args.tokens.now labels labels_lead is_name_binding_clause (codes "WITH") 2
    (name_binding_slots c.args.draft.now) _ (λ o. name_binding_slots (record c.args.draft.now { attribute = o })) _ _
    c.keep_clause-then-has_attribute.new.place c.args.at c.read_naming_clause.result
    c.keep_clause-then-has_attribute.result refl refl (λ at. refl) (λ at. refl) (λ x. refl) c.is_none-3.ensures
    c.is_word_at-3.ensures c.if-has_attribute.true c.read_naming_clause.ensures
    c.keep_clause-then-has_attribute.ensures

pub returns-then-has_behaviour : goal.returns-then-has_behaviour
returns-then-has_behaviour c = word_kept c.args.tokens.now labels labels_lead is_name_binding_clause
    (codes "BEHAVIOUR") 3 (name_binding_slots c.args.draft.now) _
    (λ o. name_binding_slots (record c.args.draft.now { behaviour = o })) _ _
    c.keep_clause-then-has_behaviour.new.place c.args.at c.read_behaviour_clause.result
    c.keep_clause-then-has_behaviour.result refl refl (λ at. refl) (λ at. refl) (λ x. refl) c.is_none-4.ensures
    c.is_word_at-4.ensures c.if-has_behaviour.true c.read_behaviour_clause.ensures
    c.keep_clause-then-has_behaviour.ensures

pub returns-then-has_create : goal.returns-then-has_create
returns-then-has_create c = word_kept c.args.tokens.now labels labels_lead is_name_binding_clause (codes "CREATE") 4
    (name_binding_slots c.args.draft.now) _ (λ o. name_binding_slots (record c.args.draft.now { create = o })) _ _
    c.keep_clause-then-has_create.new.place c.args.at c.read_create_clause.result c.keep_clause-then-has_create.result
    refl refl (λ at. refl) (λ at. refl) (λ x. refl) c.is_none-5.ensures c.is_word_at-5.ensures c.if-has_create.true
    c.read_create_clause.ensures c.keep_clause-then-has_create.ensures

pub returns-then-has_delete : goal.returns-then-has_delete
returns-then-has_delete c = word_kept c.args.tokens.now labels labels_lead is_name_binding_clause (codes "DELETE") 5
    (name_binding_slots c.args.draft.now) _ (λ o. name_binding_slots (record c.args.draft.now { delete = o })) _ _
    c.keep_clause-then-has_delete.new.place c.args.at c.read_delete_clause.result c.keep_clause-then-has_delete.result
    refl refl (λ at. refl) (λ at. refl) (λ x. refl) c.is_none-6.ensures c.is_word_at-6.ensures c.if-has_delete.true
    c.read_delete_clause.ensures c.keep_clause-then-has_delete.ensures

pub returns : goal.returns
returns c = record {
  same = refl;
  none =
      (slot_not labels labels_lead (codes "SUBORDINATE") _ _ _ refl (λ t e. e) c.is_none.ensures c.is_word_at.ensures
      c.if-has_subordinate.false
      (slot_not labels labels_lead (codes "NAMED") _ _ _ refl (λ t e. e) c.is_none-2.ensures c.is_word_at-2.ensures
      c.if-has_superior.false (slot_not labels labels_lead (codes "WITH") _ _ _ refl (λ t e. e) c.is_none-3.ensures
      c.is_word_at-3.ensures c.if-has_attribute.false
      (slot_not labels labels_lead (codes "BEHAVIOUR") _ _ _ refl (λ t e. e) c.is_none-4.ensures c.is_word_at-4.ensures
      c.if-has_behaviour.false
      (slot_not labels labels_lead (codes "CREATE") _ _ _ refl (λ t e. e) c.is_none-5.ensures c.is_word_at-5.ensures
      c.if-has_create.false (slot_not labels labels_lead (codes "DELETE") _ _ _ refl (λ t e. e) c.is_none-6.ensures
      c.is_word_at-6.ensures c.if-has_delete.false no_slots_stop))))));
}
