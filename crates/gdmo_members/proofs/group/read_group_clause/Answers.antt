-- Each clause comes with its first word, and comes once.
use Rattle.std.proofs.Common.{◌∙◌, sym, refl, true, false, arith, codes, [], ◌∷◌}
use Rattle.token_grammar.proofs.Heads.{stops_unless}
use Rattle.token_grammar.proofs.Known.{at_word}
use Rattle.token_grammar.proofs.Clauses.{no_slots_stop, slot_stops, opens_but, fails_clause, clause_taken, fails_clause}
use Rattle.token_grammar.proofs.Clauses.{came_not, comes_here, comes_not, exit_clause}
use Rattle.token_grammar.specs.Form.{Keep, Leaf}
use Rattle.token_grammar.specs.TokenTests.{is_word_of, is_string}
use Rattle.token_grammar.proofs.Parts.{one_word}
use Rattle.gdmo_members.proofs.FirstTokens.{labels, labels_lead}
use Rattle.gdmo_members.specs.Clauses.{attributes, clause, references, word_clause}
use Rattle.token_grammar.specs.Parts.{vector_tree}
use Rattle.token_grammar.proofs.ByWord.{word_kept, clause_kept, slot_not}
use Rattle.gdmo_members.specs.Trees.{clause_tree}
use Rattle.gdmo_members.specs.MemberTrees.{attribute_reference_tree}
use Rattle.gdmo_members.specs.FurtherTrees.{word_clause_tree, group_slots, is_group_clause}
use Rattle.gdmo_members.proofs.group.read_group_clause.Goals as goal

pub returns-then-has_elements : goal.returns-then-has_elements
returns-then-has_elements c = word_kept c.args.tokens.now labels labels_lead is_group_clause (codes "GROUP") 0
    (group_slots c.args.clauses.now) _ (λ o. group_slots (record c.args.clauses.now { elements = o })) _ _
    c.keep_clause.new.place c.args.at c.read_elements_clause.result c.keep_clause.result refl refl (λ at. refl)
    (λ at. refl) (λ x. refl) c.is_none.ensures c.is_word_at.ensures c.if-has_elements.true
    c.read_elements_clause.ensures c.keep_clause.ensures

pub returns-then-has_fixed : goal.returns-then-has_fixed
returns-then-has_fixed c = word_kept c.args.tokens.now labels labels_lead is_group_clause (codes "FIXED") 1
    (group_slots c.args.clauses.now) _ (λ o. group_slots (record c.args.clauses.now { fixed = o })) _ _
    c.keep_clause-then-has_fixed.new.place c.args.at c.read_fixed_clause.result c.keep_clause-then-has_fixed.result
    refl refl (λ at. refl) (λ at. refl) (λ x. refl) c.is_none-2.ensures c.is_word_at-2.ensures c.if-has_fixed.true
    c.read_fixed_clause.ensures c.keep_clause-then-has_fixed.ensures

pub returns-then-has_description : goal.returns-then-has_description
returns-then-has_description c = word_kept c.args.tokens.now labels labels_lead is_group_clause (codes "DESCRIPTION")
    2 (group_slots c.args.clauses.now) _ (λ o. group_slots (record c.args.clauses.now { description = o })) _ _
    c.keep_clause-then-has_description.new.place c.args.at c.read_description_clause.result
    c.keep_clause-then-has_description.result refl refl (λ at. refl) (λ at. refl) (λ x. refl) c.is_none-3.ensures
    c.is_word_at-3.ensures c.if-has_description.true c.read_description_clause.ensures
    c.keep_clause-then-has_description.ensures

pub returns : goal.returns
returns c = record {
  same = refl;
  none =
      (slot_not labels labels_lead (codes "GROUP") _ _ _ refl (λ t e. e) c.is_none.ensures c.is_word_at.ensures
      c.if-has_elements.false (slot_stops
      (λ open_now. stops_unless labels labels_lead (is_word_of (codes "FIXED")) (word_clause (codes "FIXED")) c.args.at
      c.args.at (omega arith) refl (λ t e. one_word (is_word_of (codes "FIXED") t) e)
      (sym c.is_word_at-2.ensures
      ∙ comes_not word_clause_tree c.args.clauses.now.fixed c.is_none-2.result c.is_word_at-2.result c.is_none-2.ensures
      c.if-has_fixed.false open_now))
      (slot_not labels labels_lead (codes "DESCRIPTION") _ _ _ refl (λ t e. e) c.is_none-3.ensures
      c.is_word_at-3.ensures
      c.if-has_description.false no_slots_stop)));
}
