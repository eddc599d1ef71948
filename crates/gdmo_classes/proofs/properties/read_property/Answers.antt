-- Each property comes with its first word, and comes once.
use Rattle.std.proofs.Common.{◌∙◌, sym, refl, true, false, arith, codes, [], ◌∷◌}
use Rattle.token_grammar.proofs.Heads.{stops_unless}
use Rattle.token_grammar.proofs.Known.{at_word, at_one_of}
use Rattle.token_grammar.proofs.Clauses.{no_slots_stop, slot_stops, opens_but, comes_not}
use Rattle.token_grammar.specs.Form.{Leaf}
use Rattle.token_grammar.specs.TokenTests.{is_word_of, is_one_of}
use Rattle.token_grammar.specs.Outcome.{closed}
use Rattle.token_grammar.proofs.ByWord.{slot_not}
use Rattle.gdmo_members.proofs.FirstTokens.{labels, labels_lead}
use Rattle.gdmo_members.specs.Templates.{templates}
use Rattle.gdmo_classes.proofs.OpenClauses.{open_clause_kept, reads_wider}
use Rattle.gdmo_classes.proofs.PartEnds.{properties_meet}
use Rattle.gdmo_classes.specs.ClassForms.{is_keyword, reset_property, default_property, initial_property}
use Rattle.gdmo_classes.specs.ClassForms.{permitted_property, required_property, access_property, members_property}
use Rattle.gdmo_classes.specs.UseTrees.{valued_tree, named_type_tree, properties_slots}
use Rattle.gdmo_classes.proofs.properties.read_property.Goals as goal

pub returns-then-has_reset : goal.returns-then-has_reset
returns-then-has_reset c = open_clause_kept c.args.tokens.now labels labels_lead (is_word_of (codes "BEHAVIOUR"))
    is_keyword 0 (properties_slots c.args.properties.now) Leaf (λ o. properties_slots (record c.args.properties.now {
      replace_with_default = o;
    })) c.args.properties.now.replace_with_default c.is_none.result c.keep_clause.new.place
    c.args.at c.read_one_of.result c.keep_clause.result refl (properties_meet c.args.properties.now) refl (at_one_of
    (codes "REPLACE-WITH-DEFAULT" ∷ []) true is_keyword ((λ at. refl), tt)) (at_one_of (codes "REPLACE-WITH-DEFAULT" ∷
    []) false (opens_but labels 0 (properties_slots c.args.properties.now)) ((λ at. refl), tt)) (λ x. refl)
    c.is_none.ensures c.is_one_of_at.ensures c.if-has_reset.true
    (reads_wider c.args.tokens.now templates (is_word_of (codes
    "BEHAVIOUR")) reset_property Leaf c.args.at c.read_one_of.result (c.read_one_of.ensures templates))
    c.keep_clause.ensures

pub returns-then-has_default : goal.returns-then-has_default
returns-then-has_default c = open_clause_kept c.args.tokens.now labels labels_lead (is_word_of (codes "BEHAVIOUR"))
    is_keyword 1 (properties_slots c.args.properties.now) valued_tree (λ o. properties_slots (record
    c.args.properties.now { default_value = o })) c.args.properties.now.default_value c.is_none-2.result
    c.keep_clause-then-has_default.new.place c.args.at c.read_default_value.result
    c.keep_clause-then-has_default.result refl (properties_meet c.args.properties.now) refl (at_word (codes "DEFAULT")
    true is_keyword (λ at. refl)) (at_word (codes "DEFAULT") false (opens_but labels 1 (properties_slots
    c.args.properties.now)) (λ at. refl)) (λ x. refl) c.is_none-2.ensures c.is_word_at.ensures c.if-has_default.true
    c.read_default_value.ensures c.keep_clause-then-has_default.ensures

pub returns-then-has_initial : goal.returns-then-has_initial
returns-then-has_initial c = open_clause_kept c.args.tokens.now labels labels_lead (is_word_of (codes "BEHAVIOUR"))
    is_keyword 2 (properties_slots c.args.properties.now) valued_tree (λ o. properties_slots (record
    c.args.properties.now { initial_value = o })) c.args.properties.now.initial_value c.is_none-3.result
    c.keep_clause-then-has_initial.new.place c.args.at c.read_initial_value.result
    c.keep_clause-then-has_initial.result refl (properties_meet c.args.properties.now) refl (at_word (codes "INITIAL")
    true is_keyword (λ at. refl)) (at_word (codes "INITIAL") false (opens_but labels 2 (properties_slots
    c.args.properties.now)) (λ at. refl)) (λ x. refl) c.is_none-3.ensures c.is_word_at-2.ensures c.if-has_initial.true
    c.read_initial_value.ensures c.keep_clause-then-has_initial.ensures

pub returns-then-has_permitted : goal.returns-then-has_permitted
returns-then-has_permitted c = open_clause_kept c.args.tokens.now labels labels_lead (is_word_of (codes "BEHAVIOUR"))
    is_keyword 3 (properties_slots c.args.properties.now) named_type_tree (λ o. properties_slots (record
    c.args.properties.now { permitted_values = o })) c.args.properties.now.permitted_values c.is_none-4.result
    c.keep_clause-then-has_permitted.new.place c.args.at c.read_permitted_values.result
    c.keep_clause-then-has_permitted.result refl (properties_meet c.args.properties.now) refl (at_word (codes
    "PERMITTED") true is_keyword (λ at. refl)) (at_word (codes "PERMITTED") false (opens_but labels 3
    (properties_slots c.args.properties.now)) (λ at. refl)) (λ x. refl) c.is_none-4.ensures c.is_word_at-3.ensures
    c.if-has_permitted.true (reads_wider c.args.tokens.now templates (is_word_of (codes "BEHAVIOUR")) permitted_property
    named_type_tree c.args.at c.read_permitted_values.result c.read_permitted_values.ensures)
    c.keep_clause-then-has_permitted.ensures

pub returns-then-has_required : goal.returns-then-has_required
returns-then-has_required c = open_clause_kept c.args.tokens.now labels labels_lead (is_word_of (codes "BEHAVIOUR"))
    is_keyword 4 (properties_slots c.args.properties.now) named_type_tree (λ o. properties_slots (record
    c.args.properties.now { required_values = o })) c.args.properties.now.required_values c.is_none-5.result
    c.keep_clause-then-has_required.new.place c.args.at c.read_required_values.result
    c.keep_clause-then-has_required.result refl (properties_meet c.args.properties.now) refl (at_word (codes
    "REQUIRED") true is_keyword (λ at. refl)) (at_word (codes "REQUIRED") false (opens_but labels 4 (properties_slots
    c.args.properties.now)) (λ at. refl)) (λ x. refl) c.is_none-5.ensures c.is_word_at-4.ensures
    c.if-has_required.true (reads_wider c.args.tokens.now templates (is_word_of (codes "BEHAVIOUR")) required_property
    named_type_tree c.args.at c.read_required_values.result c.read_required_values.ensures)
    c.keep_clause-then-has_required.ensures

pub returns-then-has_access : goal.returns-then-has_access
returns-then-has_access c = open_clause_kept c.args.tokens.now labels labels_lead (is_word_of (codes "BEHAVIOUR"))
    is_keyword 5 (properties_slots c.args.properties.now) Leaf (λ o. properties_slots (record c.args.properties.now {
      access = o;
    })) c.args.properties.now.access c.is_none-6.result c.keep_clause-then-has_access.new.place c.args.at
    c.read_one_of-then-has_access.result c.keep_clause-then-has_access.result refl (properties_meet
    c.args.properties.now) refl (at_one_of (codes "GET" ∷ codes "REPLACE" ∷ codes "GET-REPLACE" ∷ []) true is_keyword
    ((λ at. refl), ((λ at. refl), ((λ at. refl), tt)))) (at_one_of (codes "GET" ∷ codes "REPLACE" ∷ codes
    "GET-REPLACE" ∷ []) false (opens_but labels 5 (properties_slots c.args.properties.now)) (
      (λ at. refl),
      (
        (λ at.
            refl),
        ((λ at. refl), tt),
      ),
    )) (λ x. refl) c.is_none-6.ensures c.is_one_of_at-2.ensures c.if-has_access.true
    (reads_wider c.args.tokens.now templates (is_word_of (codes "BEHAVIOUR")) access_property Leaf c.args.at
    c.read_one_of-then-has_access.result (c.read_one_of-then-has_access.ensures templates))
    c.keep_clause-then-has_access.ensures

pub returns-then-has_members : goal.returns-then-has_members
returns-then-has_members c = open_clause_kept c.args.tokens.now labels labels_lead (is_word_of (codes "BEHAVIOUR"))
    is_keyword 6 (properties_slots c.args.properties.now) Leaf (λ o. properties_slots (record c.args.properties.now {
      members = o;
    })) c.args.properties.now.members c.is_none-7.result c.keep_clause-then-has_members.new.place
    c.args.at c.read_one_of-then-has_members.result c.keep_clause-then-has_members.result refl (properties_meet
    c.args.properties.now) refl (at_one_of (codes "ADD" ∷ codes "REMOVE" ∷ codes "ADD-REMOVE" ∷ []) true is_keyword
    ((λ at. refl), ((λ at. refl), ((λ at. refl), tt)))) (at_one_of (codes "ADD" ∷ codes "REMOVE" ∷ codes "ADD-REMOVE"
    ∷ []) false (opens_but labels 6 (properties_slots c.args.properties.now)) (
      (λ at. refl),
      (
        (λ at. refl),
        (
          (λ at.
              refl),
          tt,
        ),
      ),
    )) (λ x. refl) c.is_none-7.ensures c.is_one_of_at-3.ensures c.if-has_members.true
    (reads_wider c.args.tokens.now templates (is_word_of (codes "BEHAVIOUR")) members_property Leaf c.args.at
    c.read_one_of-then-has_members.result (c.read_one_of-then-has_members.ensures templates))
    c.keep_clause-then-has_members.ensures

pub returns : goal.returns
returns c = record {
  same = refl;
  none = (slot_stops (λ open_now. stops_unless labels labels_lead (is_one_of (codes
      "REPLACE-WITH-DEFAULT" ∷ [])) reset_property c.args.at c.args.at (omega arith) refl (λ t e. e) (sym
      c.is_one_of_at.ensures ∙ comes_not Leaf c.args.properties.now.replace_with_default c.is_none.result
      c.is_one_of_at.result c.is_none.ensures c.if-has_reset.false open_now)) (slot_not labels labels_lead (codes
      "DEFAULT") _ _ _ refl (λ t e. e) c.is_none-2.ensures c.is_word_at.ensures c.if-has_default.false (slot_not labels
      labels_lead (codes "INITIAL") _ _ _ refl (λ t e. e) c.is_none-3.ensures c.is_word_at-2.ensures
      c.if-has_initial.false (slot_not labels labels_lead (codes "PERMITTED") _ _ _ refl (λ t e. e) c.is_none-4.ensures
      c.is_word_at-3.ensures c.if-has_permitted.false (slot_not labels labels_lead (codes "REQUIRED") _ _ _ refl (λ t e.
      e) c.is_none-5.ensures c.is_word_at-4.ensures c.if-has_required.false (slot_stops (λ open_now. stops_unless labels
      labels_lead (is_one_of (codes "GET" ∷ codes "REPLACE" ∷ codes "GET-REPLACE" ∷ [])) access_property c.args.at
      c.args.at (omega arith) refl (λ t e. e) (sym c.is_one_of_at-2.ensures ∙ comes_not Leaf
      c.args.properties.now.access c.is_none-6.result c.is_one_of_at-2.result c.is_none-6.ensures c.if-has_access.false
      open_now)) (slot_stops (λ open_now. stops_unless labels labels_lead (is_one_of (codes "ADD" ∷ codes "REMOVE" ∷
      codes "ADD-REMOVE" ∷ [])) members_property c.args.at c.args.at (omega arith) refl (λ t e. e) (sym
      c.is_one_of_at-3.ensures ∙ comes_not Leaf c.args.properties.now.members c.is_none-7.result c.is_one_of_at-3.result
      c.is_none-7.ensures c.if-has_members.false open_now)) no_slots_stop)))))));
}
