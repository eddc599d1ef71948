-- Attribute and parameter templates, each in the other: one part after the other, one clause after the
-- other, and one parameter after the other.
use Rattle.std.proofs.Common.{◌∙◌, ◌||◌, ap, sym, refl, true, false, arith, codes, [], ◌∷◌}
use Rattle.token_grammar.proofs.Sequences.{apart_closed, spelt_then, spelt_first, spelt_second, fault_first}
use Rattle.token_grammar.proofs.Sequences.{fault_second, spelt_named, fails_by, fails_front, fails_rest, fails_named}
use Rattle.token_grammar.proofs.Sequences.{spelt_order}
use Rattle.token_grammar.proofs.Heads.{skips, starts, stops_unless, advances}
use Rattle.token_grammar.proofs.Known.{at_word, at_one_of}
use Rattle.token_grammar.proofs.Exits.{exit_reads}
use Rattle.token_grammar.proofs.Turns.{spelt_led, fault_led, list_fault}
use Rattle.token_grammar.proofs.Clauses.{no_slots_stop, slot_stops, opens_but, stops_by, fails_clause, clause_taken}
use Rattle.token_grammar.proofs.Clauses.{fails_clause, came_not, comes_here, comes_not, exit_clause, over, fails_led}
use Rattle.token_grammar.proofs.References.{spelt_label, spelt_template, fails_label, fails_template}
use Rattle.token_grammar.specs.Form.{Empty, Leaf}
use Rattle.token_grammar.specs.TokenTests.{is_word_of, is_one_of}
use Rattle.token_grammar.specs.Parts.{qualified_name, vector_tree}
use Rattle.token_grammar.proofs.Parts.{list_push, list_last, at_within, spelt_within, spelt_as, one_of_two}
use Rattle.token_grammar.specs.Outcome.{closed}
use Rattle.token_grammar.proofs.ByWord.{word_kept, clause_kept, slot_not}
use Rattle.gdmo_members.proofs.Apart.{word_apart, semicolon_apart, comma_separates, attribute_apart, parameter_apart}
use Rattle.gdmo_members.proofs.FirstTokens.{labels, labels_lead}
use Rattle.gdmo_members.specs.Clauses.{attributes, parameters, comma, semicolon, reference, behaviour_clause}
use Rattle.gdmo_members.specs.Clauses.{parameters_clause, context, clause}
use Rattle.gdmo_members.specs.Templates.{templates, attribute_syntax, parameter_syntax, rules_clause}
use Rattle.gdmo_members.specs.Trees.{clause_tree, behaviour_list_tree, context_tree}
use Rattle.gdmo_members.proofs.Members.{boxed_attribute, boxed_parameter, attribute_done, attribute_missing}
use Rattle.gdmo_members.proofs.Members.{parameter_done, parameter_missing_context, parameter_missing_syntax}
use Rattle.gdmo_members.specs.MemberTrees.{attribute_slots, parameter_slots, attribute_syntax_tree}
use Rattle.gdmo_members.specs.MemberTrees.{parameter_syntax_tree, parameter_reference_tree, is_attribute_clause}
use Rattle.gdmo_members.specs.MemberTrees.{is_parameter_clause}
use Rattle.gdmo_members.proofs.+templates.Goals as goal

pub attribute::read_attribute_in_line-returns-in_err-label : goal.attribute::read_attribute_in_line-returns-in_err-label
attribute::read_attribute_in_line-returns-in_err-label t c =
    exit_reads _ c.from_residual.result c.from_residual.ensures.1
    (fails_named attributes (fails_front apart_closed (c.in_err-label.ensures templates)))

pub attribute::read_attribute_in_line-returns-in_err-next : goal.attribute::read_attribute_in_line-returns-in_err-next
attribute::read_attribute_in_line-returns-in_err-next t c =
    exit_reads _ c.from_residual-in_err-next.result c.from_residual-in_err-next.ensures.1
    (fails_named attributes (fails_rest (c.in_ok-label.ensures templates) apart_closed
    (fails_front apart_closed (c.in_err-next.ensures templates))))

pub attribute::read_attribute_in_line-returns-in_err-clauses :
    goal.attribute::read_attribute_in_line-returns-in_err-clauses
attribute::read_attribute_in_line-returns-in_err-clauses t c =
    exit_reads _ c.from_residual-in_err-clauses.result c.from_residual-in_err-clauses.ensures.1
    (fails_named attributes (fails_rest (c.in_ok-label.ensures templates) apart_closed
    (fails_rest (c.in_ok-next.ensures templates) apart_closed (fails_front attribute_apart c.in_err-clauses.ensures))))

pub attribute::read_attribute_in_line-returns-in_err-template :
    goal.attribute::read_attribute_in_line-returns-in_err-template
attribute::read_attribute_in_line-returns-in_err-template t c =
    exit_reads _ c.from_residual-in_err-template.result c.from_residual-in_err-template.ensures.1
    (fails_named attributes (fails_rest (c.in_ok-label.ensures templates) apart_closed
    (fails_rest (c.in_ok-next.ensures templates) apart_closed
    (fails_rest c.in_ok-clauses.ensures attribute_apart c.in_err-template.ensures.reads))))

pub attribute::read_attribute_in_line-returns : goal.attribute::read_attribute_in_line-returns
attribute::read_attribute_in_line-returns t c =
    spelt_as c.in_ok-template.ensures.made
    (spelt_named attributes (spelt_then (c.in_ok-label.ensures templates) apart_closed
    (spelt_then (c.in_ok-next.ensures templates) apart_closed
    (spelt_then c.in_ok-clauses.ensures attribute_apart c.in_ok-template.ensures.reads))))

pub attribute::read_attribute_in_line-read_attribute_clauses-requires :
    goal.attribute::read_attribute_in_line-read_attribute_clauses-requires
attribute::read_attribute_in_line-read_attribute_clauses-requires t c = let one =
    advances labels labels_lead refl (c.in_ok-label.ensures templates).spelt in let within =
    spelt_within labels labels_lead refl (c.in_ok-label.ensures templates) in let o0 =
    spelt_order (c.in_ok-next.ensures templates) in (omega arith, tt)

pub attribute::read_attribute_reference-returns-in_err-template :
    goal.attribute::read_attribute_reference-returns-in_err-template
attribute::read_attribute_reference-returns-in_err-template t c =
    exit_reads _ c.from_residual.result c.from_residual.ensures.1
    (fails_template refl (sym c.is_template_at.ensures ∙ c.if-is_template_at.true) c.in_err-template.ensures)

pub attribute::read_attribute_reference-returns-then-is_template_at :
    goal.attribute::read_attribute_reference-returns-then-is_template_at
attribute::read_attribute_reference-returns-then-is_template_at t c =
    spelt_as (boxed_attribute c.in_ok-template.template c.in_ok-template.template.value refl)
    (spelt_template refl (sym c.is_template_at.ensures ∙ c.if-is_template_at.true) c.in_ok-template.ensures)

pub attribute::read_attribute_reference-returns-in_err-label :
    goal.attribute::read_attribute_reference-returns-in_err-label
attribute::read_attribute_reference-returns-in_err-label t c =
    exit_reads _ c.from_residual-in_err-label.result c.from_residual-in_err-label.ensures.1
    (fails_label refl (sym c.is_template_at.ensures ∙ c.if-is_template_at.false) (c.in_err-label.ensures templates))

pub attribute::read_attribute_reference-returns : goal.attribute::read_attribute_reference-returns
attribute::read_attribute_reference-returns t c =
    spelt_label refl (sym c.is_template_at.ensures ∙ c.if-is_template_at.false) (c.in_ok-label.ensures templates)

pub parameter::read_parameter_in_line-returns-in_err-label : goal.parameter::read_parameter_in_line-returns-in_err-label
parameter::read_parameter_in_line-returns-in_err-label t c =
    exit_reads _ c.from_residual.result c.from_residual.ensures.1
    (fails_named parameters (fails_front apart_closed (c.in_err-label.ensures templates)))

pub parameter::read_parameter_in_line-returns-in_err-next : goal.parameter::read_parameter_in_line-returns-in_err-next
parameter::read_parameter_in_line-returns-in_err-next t c =
    exit_reads _ c.from_residual-in_err-next.result c.from_residual-in_err-next.ensures.1
    (fails_named parameters (fails_rest (c.in_ok-label.ensures templates) apart_closed
    (fails_front apart_closed (c.in_err-next.ensures templates))))

pub parameter::read_parameter_in_line-returns-in_err-clauses :
    goal.parameter::read_parameter_in_line-returns-in_err-clauses
parameter::read_parameter_in_line-returns-in_err-clauses t c =
    exit_reads _ c.from_residual-in_err-clauses.result c.from_residual-in_err-clauses.ensures.1
    (fails_named parameters (fails_rest (c.in_ok-label.ensures templates) apart_closed
    (fails_rest (c.in_ok-next.ensures templates) apart_closed (fails_front parameter_apart c.in_err-clauses.ensures))))

pub parameter::read_parameter_in_line-returns-in_err-template :
    goal.parameter::read_parameter_in_line-returns-in_err-template
parameter::read_parameter_in_line-returns-in_err-template t c =
    exit_reads _ c.from_residual-in_err-template.result c.from_residual-in_err-template.ensures.1
    (fails_named parameters (fails_rest (c.in_ok-label.ensures templates) apart_closed
    (fails_rest (c.in_ok-next.ensures templates) apart_closed
    (fails_rest c.in_ok-clauses.ensures parameter_apart c.in_err-template.ensures.reads))))

pub parameter::read_parameter_in_line-returns : goal.parameter::read_parameter_in_line-returns
parameter::read_parameter_in_line-returns t c =
    spelt_as c.in_ok-template.ensures.made
    (spelt_named parameters (spelt_then (c.in_ok-label.ensures templates) apart_closed
    (spelt_then (c.in_ok-next.ensures templates) apart_closed
    (spelt_then c.in_ok-clauses.ensures parameter_apart c.in_ok-template.ensures.reads))))

pub parameter::read_parameter_in_line-read_parameter_clauses-requires :
    goal.parameter::read_parameter_in_line-read_parameter_clauses-requires
parameter::read_parameter_in_line-read_parameter_clauses-requires t c = let one =
    advances labels labels_lead refl (c.in_ok-label.ensures templates).spelt in let within =
    spelt_within labels labels_lead refl (c.in_ok-label.ensures templates) in let o0 =
    spelt_order (c.in_ok-next.ensures templates) in (omega arith, tt)

pub parameter::read_parameter_reference-returns-in_err-template :
    goal.parameter::read_parameter_reference-returns-in_err-template
parameter::read_parameter_reference-returns-in_err-template t c =
    exit_reads _ c.from_residual.result c.from_residual.ensures.1
    (fails_template refl (sym c.is_template_at.ensures ∙ c.if-is_template_at.true) c.in_err-template.ensures)

pub parameter::read_parameter_reference-returns-then-is_template_at :
    goal.parameter::read_parameter_reference-returns-then-is_template_at
parameter::read_parameter_reference-returns-then-is_template_at t c =
    spelt_as (boxed_parameter c.in_ok-template.template c.in_ok-template.template.value refl)
    (spelt_template refl (sym c.is_template_at.ensures ∙ c.if-is_template_at.true) c.in_ok-template.ensures)

pub parameter::read_parameter_reference-returns-in_err-label :
    goal.parameter::read_parameter_reference-returns-in_err-label
parameter::read_parameter_reference-returns-in_err-label t c =
    exit_reads _ c.from_residual-in_err-label.result c.from_residual-in_err-label.ensures.1
    (fails_label refl (sym c.is_template_at.ensures ∙ c.if-is_template_at.false) (c.in_err-label.ensures templates))

pub parameter::read_parameter_reference-returns : goal.parameter::read_parameter_reference-returns
parameter::read_parameter_reference-returns t c =
    spelt_label refl (sym c.is_template_at.ensures ∙ c.if-is_template_at.false) (c.in_ok-label.ensures templates)

pub attribute::read_attribute_syntax-returns-in_err-name : goal.attribute::read_attribute_syntax-returns-in_err-name
attribute::read_attribute_syntax-returns-in_err-name t c =
    exit_reads _ c.from_residual.result c.from_residual.ensures.1
    (fails_by (λ k r. fault_first r
    (stops_by labels labels_lead (clause (codes "DERIVED" ∷ codes "FROM" ∷ []) (reference attributes)) r.stops.order
    (record { passed = (sym c.is_word_at.ensures ∙ c.if-is_word_at.true) })
    (at_word (codes "WITH") false
    (λ t. starts labels (clause (codes "DERIVED" ∷ codes "FROM" ∷ []) (reference attributes)) t || skips labels
    (clause (codes "DERIVED" ∷ codes "FROM" ∷ []) (reference attributes))) (λ at. refl)))) c.in_err-name.ensures)

pub attribute::read_attribute_syntax-returns-then-is_word_at :
    goal.attribute::read_attribute_syntax-returns-then-is_word_at
attribute::read_attribute_syntax-returns-then-is_word_at t c =
    spelt_first c.in_ok-name.ensures
    (stops_by labels labels_lead (clause (codes "DERIVED" ∷ codes "FROM" ∷ []) (reference attributes))
    (spelt_order c.in_ok-name.ensures) (record { passed = (sym c.is_word_at.ensures ∙ c.if-is_word_at.true) })
    (at_word (codes "WITH") false
    (λ t. starts labels (clause (codes "DERIVED" ∷ codes "FROM" ∷ []) (reference attributes)) t || skips labels
    (clause (codes "DERIVED" ∷ codes "FROM" ∷ []) (reference attributes))) (λ at. refl)))

pub attribute::read_attribute_syntax-returns-in_err-next : goal.attribute::read_attribute_syntax-returns-in_err-next
attribute::read_attribute_syntax-returns-in_err-next t c =
    exit_reads _ c.from_residual-in_err-next.result c.from_residual-in_err-next.ensures.1
    (fails_by (λ k r. fault_second
    (stops_unless labels labels_lead (is_word_of (codes "WITH"))
    (clause (codes "WITH" ∷ codes "ATTRIBUTE" ∷ codes "SYNTAX" ∷ []) qualified_name) c.args.at k r.stops.order refl
    (λ t e. e) (sym c.is_word_at.ensures ∙ c.if-is_word_at.false)) r)
    (fails_front apart_closed (c.in_err-next.ensures templates)))

pub attribute::read_attribute_syntax-returns-in_err-base : goal.attribute::read_attribute_syntax-returns-in_err-base
attribute::read_attribute_syntax-returns-in_err-base t c =
    exit_reads _ c.from_residual-in_err-base.result c.from_residual-in_err-base.ensures.1
    (fails_by (λ k r. fault_second
    (stops_unless labels labels_lead (is_word_of (codes "WITH"))
    (clause (codes "WITH" ∷ codes "ATTRIBUTE" ∷ codes "SYNTAX" ∷ []) qualified_name) c.args.at k r.stops.order refl
    (λ t e. e) (sym c.is_word_at.ensures ∙ c.if-is_word_at.false)) r)
    (fails_rest (c.in_ok-next.ensures templates) apart_closed
    (fails_front (word_apart (codes "ATTRIBUTE") semicolon refl (λ at. refl)) c.in_err-base.ensures)))

pub attribute::read_attribute_syntax-returns-in_err-syntax : goal.attribute::read_attribute_syntax-returns-in_err-syntax
attribute::read_attribute_syntax-returns-in_err-syntax t c =
    exit_reads _ c.from_residual-in_err-syntax.result c.from_residual-in_err-syntax.ensures.1
    (fails_by (λ k r. fault_second
    (stops_unless labels labels_lead (is_word_of (codes "WITH"))
    (clause (codes "WITH" ∷ codes "ATTRIBUTE" ∷ codes "SYNTAX" ∷ []) qualified_name) c.args.at k r.stops.order refl
    (λ t e. e) (sym c.is_word_at.ensures ∙ c.if-is_word_at.false)) r)
    (fails_rest (c.in_ok-next.ensures templates) apart_closed
    (fails_rest c.in_ok-base.ensures (word_apart (codes "ATTRIBUTE") semicolon refl (λ at. refl))
    c.in_err-syntax.ensures.reads)))

pub attribute::read_attribute_syntax-returns : goal.attribute::read_attribute_syntax-returns
attribute::read_attribute_syntax-returns t c = let one =
    (spelt_then (c.in_ok-next.ensures templates) apart_closed
    (spelt_then c.in_ok-base.ensures (word_apart (codes "ATTRIBUTE") semicolon refl (λ at. refl))
    c.in_ok-syntax.ensures.reads)) in
    spelt_as (ap attribute_syntax_tree c.in_ok-syntax.ensures.made)
    (spelt_second (stops_unless labels labels_lead (is_word_of (codes "WITH"))
    (clause (codes "WITH" ∷ codes "ATTRIBUTE" ∷ codes "SYNTAX" ∷ []) qualified_name) c.args.at c.in_ok-syntax.next
    (spelt_order one) refl (λ t e. e) (sym c.is_word_at.ensures ∙ c.if-is_word_at.false)) one)

pub attribute::read_attribute_syntax-read_attribute_reference-requires :
    goal.attribute::read_attribute_syntax-read_attribute_reference-requires
attribute::read_attribute_syntax-read_attribute_reference-requires t c = let one =
    advances labels labels_lead refl (c.in_ok-next.ensures templates).spelt in let within =
    spelt_within labels labels_lead refl (c.in_ok-next.ensures templates) in (omega arith, tt)

pub parameter::read_parameter_syntax-returns-in_err-name : goal.parameter::read_parameter_syntax-returns-in_err-name
parameter::read_parameter_syntax-returns-in_err-name t c =
    exit_reads _ c.from_residual.result c.from_residual.ensures.1
    (fails_by (λ k r. fault_first r
    (stops_by labels labels_lead (clause (codes "ATTRIBUTE" ∷ []) (reference attributes)) r.stops.order
    (record { passed = (sym c.is_word_at.ensures ∙ c.if-is_word_at.true) })
    (at_word (codes "WITH") false
    (λ t. starts labels (clause (codes "ATTRIBUTE" ∷ []) (reference attributes)) t || skips labels
    (clause (codes "ATTRIBUTE" ∷ []) (reference attributes))) (λ at. refl)))) c.in_err-name.ensures)

pub parameter::read_parameter_syntax-returns-then-is_word_at :
    goal.parameter::read_parameter_syntax-returns-then-is_word_at
parameter::read_parameter_syntax-returns-then-is_word_at t c =
    spelt_first c.in_ok-name.ensures
    (stops_by labels labels_lead (clause (codes "ATTRIBUTE" ∷ []) (reference attributes))
    (spelt_order c.in_ok-name.ensures) (record { passed = (sym c.is_word_at.ensures ∙ c.if-is_word_at.true) })
    (at_word (codes "WITH") false
    (λ t. starts labels (clause (codes "ATTRIBUTE" ∷ []) (reference attributes)) t || skips labels
    (clause (codes "ATTRIBUTE" ∷ []) (reference attributes))) (λ at. refl)))

pub parameter::read_parameter_syntax-returns-in_err-next : goal.parameter::read_parameter_syntax-returns-in_err-next
parameter::read_parameter_syntax-returns-in_err-next t c =
    exit_reads _ c.from_residual-in_err-next.result c.from_residual-in_err-next.ensures.1
    (fails_by (λ k r. fault_second
    (stops_unless labels labels_lead (is_word_of (codes "WITH"))
    (clause (codes "WITH" ∷ codes "SYNTAX" ∷ []) qualified_name) c.args.at k r.stops.order refl (λ t e. e)
    (sym c.is_word_at.ensures ∙ c.if-is_word_at.false)) r) (fails_front apart_closed (c.in_err-next.ensures templates)))

pub parameter::read_parameter_syntax-returns-in_err-reference :
    goal.parameter::read_parameter_syntax-returns-in_err-reference
parameter::read_parameter_syntax-returns-in_err-reference t c =
    exit_reads _ c.from_residual-in_err-reference.result c.from_residual-in_err-reference.ensures.1
    (fails_by (λ k r. fault_second
    (stops_unless labels labels_lead (is_word_of (codes "WITH"))
    (clause (codes "WITH" ∷ codes "SYNTAX" ∷ []) qualified_name) c.args.at k r.stops.order refl (λ t e. e)
    (sym c.is_word_at.ensures ∙ c.if-is_word_at.false)) r)
    (fails_rest (c.in_ok-next.ensures templates) apart_closed
    (fails_front (word_apart (codes "ATTRIBUTE") semicolon refl (λ at. refl)) c.in_err-reference.ensures)))

pub parameter::read_parameter_syntax-returns-in_err-next-2 : goal.parameter::read_parameter_syntax-returns-in_err-next-2
parameter::read_parameter_syntax-returns-in_err-next-2 t c =
    exit_reads _ c.from_residual-in_err-next-2.result c.from_residual-in_err-next-2.ensures.1
    (fails_by (λ k r. fault_second
    (stops_unless labels labels_lead (is_word_of (codes "WITH"))
    (clause (codes "WITH" ∷ codes "SYNTAX" ∷ []) qualified_name) c.args.at k r.stops.order refl (λ t e. e)
    (sym c.is_word_at.ensures ∙ c.if-is_word_at.false)) r)
    (fails_rest (c.in_ok-next.ensures templates) apart_closed
    (fails_rest c.in_ok-reference.ensures (word_apart (codes "ATTRIBUTE") semicolon refl (λ at. refl))
    (c.in_err-next-2.ensures templates))))

pub parameter::read_parameter_syntax-returns : goal.parameter::read_parameter_syntax-returns
parameter::read_parameter_syntax-returns t c = let one =
    (spelt_then (c.in_ok-next.ensures templates) apart_closed
    (spelt_then c.in_ok-reference.ensures (word_apart (codes "ATTRIBUTE") semicolon refl (λ at. refl))
    (c.in_ok-next-2.ensures templates))) in
    spelt_second (stops_unless labels labels_lead (is_word_of (codes "WITH"))
    (clause (codes "WITH" ∷ codes "SYNTAX" ∷ []) qualified_name) c.args.at c.in_ok-next-2.next (spelt_order one) refl
    (λ t e. e) (sym c.is_word_at.ensures ∙ c.if-is_word_at.false)) one

pub parameter::read_parameter_syntax-read_attribute_reference-requires :
    goal.parameter::read_parameter_syntax-read_attribute_reference-requires
parameter::read_parameter_syntax-read_attribute_reference-requires t c = let one =
    advances labels labels_lead refl (c.in_ok-next.ensures templates).spelt in let within =
    spelt_within labels labels_lead refl (c.in_ok-next.ensures templates) in (omega arith, tt)

pub parameter::read_parameters_clause-returns-in_err-next : goal.parameter::read_parameters_clause-returns-in_err-next
parameter::read_parameters_clause-returns-in_err-next t c =
    exit_reads _ c.from_residual.result c.from_residual.ensures.1
    (fails_front apart_closed (c.in_err-next.ensures templates))

pub parameter::read_parameters_clause-returns-in_err-list : goal.parameter::read_parameters_clause-returns-in_err-list
parameter::read_parameters_clause-returns-in_err-list t c =
    exit_reads _ c.from_residual-in_err-list.result c.from_residual-in_err-list.ensures.1
    (fails_rest (c.in_ok-next.ensures templates) apart_closed
    (fails_front (semicolon_apart (codes "PARAMETER")) c.in_err-list.ensures))

pub parameter::read_parameters_clause-returns-in_err-next-2 :
    goal.parameter::read_parameters_clause-returns-in_err-next-2
parameter::read_parameters_clause-returns-in_err-next-2 t c =
    exit_reads _ c.from_residual-in_err-next-2.result c.from_residual-in_err-next-2.ensures.1
    (fails_rest (c.in_ok-next.ensures templates) apart_closed
    (fails_rest c.in_ok-list.ensures (semicolon_apart (codes "PARAMETER")) (c.in_err-next-2.ensures templates)))

pub parameter::read_parameters_clause-returns : goal.parameter::read_parameters_clause-returns
parameter::read_parameters_clause-returns t c =
    (spelt_then (c.in_ok-next.ensures templates) apart_closed
    (spelt_then c.in_ok-list.ensures (semicolon_apart (codes "PARAMETER")) (c.in_ok-next-2.ensures templates)))

pub parameter::read_parameters_clause-read_parameter_list-requires :
    goal.parameter::read_parameters_clause-read_parameter_list-requires
parameter::read_parameters_clause-read_parameter_list-requires t c = let one =
    advances labels labels_lead refl (c.in_ok-next.ensures templates).spelt in let within =
    spelt_within labels labels_lead refl (c.in_ok-next.ensures templates) in (omega arith, tt)

pub parameter::read_parameter_list-returns-in_err-reference :
    goal.parameter::read_parameter_list-returns-in_err-reference
parameter::read_parameter_list-returns-in_err-reference t c =
    exit_reads _ c.from_residual.result c.from_residual.ensures.1
    (fails_by (λ k r. fault_led c.turns.invariant (list_fault (comma_separates (codes "PARAMETER")) r))
    c.in_err-reference.ensures)

pub parameter::read_parameter_list-turns-preserved : goal.parameter::read_parameter_list-turns-preserved
parameter::read_parameter_list-turns-preserved t c =
    list_push parameter_reference_tree Empty c.turns.list.items c.push.new.self.items
    (comma_separates (codes "PARAMETER")) c.turns.invariant c.in_ok-reference.ensures c.in_ok-push.ensures.items
    (record { passed = c.in-Some.ensures.0 }) c.in-Some.ensures.1

pub parameter::read_parameter_list-turns-smaller : goal.parameter::read_parameter_list-turns-smaller
parameter::read_parameter_list-turns-smaller t c = let forward =
    advances labels labels_lead refl c.in_ok-reference.ensures.spelt in let within =
    at_within c.args.tokens.now c.in_ok-reference.behind comma c.in-Some.ensures.0 in let next =
    c.in-Some.ensures.1 in omega arith

pub parameter::read_parameter_list-returns-in_default : goal.parameter::read_parameter_list-returns-in_default
parameter::read_parameter_list-returns-in_default t c =
    spelt_led c.turns.invariant
    (list_last parameter_reference_tree Empty c.turns.list.items c.push.new.self.items
    (comma_separates (codes "PARAMETER")) c.in_ok-reference.ensures c.in_ok-push.ensures.items c.in_default.ensures)

pub attribute::read_attribute_clause-returns-then-has_syntax :
    goal.attribute::read_attribute_clause-returns-then-has_syntax
attribute::read_attribute_clause-returns-then-has_syntax t c = clause_kept c.args.tokens.now closed
    is_attribute_clause 0 (attribute_slots c.args.draft.now) attribute_syntax_tree
    (λ o. attribute_slots (record c.args.draft.now { syntax = o })) c.args.draft.now.syntax c.keep_clause.new.place
    c.args.at c.read_attribute_syntax.result c.keep_clause.result (λ x. refl)
    (λ j a one. clause_taken labels labels_lead is_attribute_clause 0 (attribute_slots c.args.draft.now) refl
    (at_one_of (codes "WITH" ∷ codes "DERIVED" ∷ []) true is_attribute_clause ((λ at. refl), ((λ at. refl), tt)))
    (at_one_of (codes "WITH" ∷ codes "DERIVED" ∷ []) false (opens_but labels 0 (attribute_slots c.args.draft.now))
    ((λ at. refl), ((λ at. refl), tt)))
    (came_not attribute_syntax_tree c.args.draft.now.syntax c.is_none.result c.is_one_of_at.result c.is_none.ensures
    c.if-has_syntax.true) (sym c.is_one_of_at.ensures
    ∙ comes_here c.is_none.result c.is_one_of_at.result c.if-has_syntax.true) one)
    (λ e fault. fails_clause labels labels_lead is_attribute_clause 0 (attribute_slots c.args.draft.now)
    (at_one_of (codes "WITH" ∷ codes "DERIVED" ∷ []) true is_attribute_clause ((λ at. refl), ((λ at. refl), tt)))
    (at_one_of (codes "WITH" ∷ codes "DERIVED" ∷ []) false (opens_but labels 0 (attribute_slots c.args.draft.now))
    ((λ at. refl), ((λ at. refl), tt)))
    (came_not attribute_syntax_tree c.args.draft.now.syntax c.is_none.result c.is_one_of_at.result c.is_none.ensures
    c.if-has_syntax.true) (sym c.is_one_of_at.ensures
    ∙ comes_here c.is_none.result c.is_one_of_at.result c.if-has_syntax.true) fault)
    c.read_attribute_syntax.ensures c.keep_clause.ensures

pub attribute::read_attribute_clause-returns-then-has_rules :
    goal.attribute::read_attribute_clause-returns-then-has_rules
attribute::read_attribute_clause-returns-then-has_rules t c = word_kept c.args.tokens.now labels labels_lead
    is_attribute_clause (codes "MATCHES") 1 (attribute_slots c.args.draft.now) _
    (λ o. attribute_slots (record c.args.draft.now { rules = o })) _ _ c.keep_clause-then-has_rules.new.place
    c.args.at c.read_rules_clause.result c.keep_clause-then-has_rules.result refl refl (λ at. refl) (λ at. refl)
    (λ x. refl) c.is_none-2.ensures c.is_word_at.ensures c.if-has_rules.true c.read_rules_clause.ensures
    c.keep_clause-then-has_rules.ensures

pub attribute::read_attribute_clause-returns-then-has_behaviour :
    goal.attribute::read_attribute_clause-returns-then-has_behaviour
attribute::read_attribute_clause-returns-then-has_behaviour t c = word_kept c.args.tokens.now labels labels_lead
    is_attribute_clause (codes "BEHAVIOUR") 2 (attribute_slots c.args.draft.now) _
    (λ o. attribute_slots (record c.args.draft.now { behaviour = o })) _ _ c.keep_clause-then-has_behaviour.new.place
    c.args.at c.read_behaviour_clause.result c.keep_clause-then-has_behaviour.result refl refl (λ at. refl)
    (λ at. refl) (λ x. refl) c.is_none-3.ensures c.is_word_at-2.ensures c.if-has_behaviour.true
    c.read_behaviour_clause.ensures c.keep_clause-then-has_behaviour.ensures

pub attribute::read_attribute_clause-returns-then-has_parameters :
    goal.attribute::read_attribute_clause-returns-then-has_parameters
attribute::read_attribute_clause-returns-then-has_parameters t c = word_kept c.args.tokens.now labels labels_lead
    is_attribute_clause (codes "PARAMETERS") 3 (attribute_slots c.args.draft.now) _
    (λ o. attribute_slots (record c.args.draft.now { parameters = o })) _ _
    c.keep_clause-then-has_parameters.new.place c.args.at c.read_parameters_clause.result
    c.keep_clause-then-has_parameters.result refl refl (λ at. refl) (λ at. refl) (λ x. refl) c.is_none-4.ensures
    c.is_word_at-3.ensures c.if-has_parameters.true c.read_parameters_clause.ensures
    c.keep_clause-then-has_parameters.ensures

pub attribute::read_attribute_clause-returns : goal.attribute::read_attribute_clause-returns
attribute::read_attribute_clause-returns t c =
    record {
      same = refl;
      none =
          (slot_stops (λ open_now. stops_unless labels labels_lead (is_one_of (codes "WITH" ∷ codes "DERIVED" ∷ []))
          attribute_syntax c.args.at c.args.at (omega arith) refl
          (λ t e. one_of_two (is_word_of (codes "WITH") t) (is_word_of (codes "DERIVED") t) e)
          (sym c.is_one_of_at.ensures
          ∙ comes_not attribute_syntax_tree c.args.draft.now.syntax c.is_none.result c.is_one_of_at.result
          c.is_none.ensures
          c.if-has_syntax.false open_now))
          (slot_not labels labels_lead (codes "MATCHES") _ _ _ refl (λ t e. e) c.is_none-2.ensures c.is_word_at.ensures
          c.if-has_rules.false (slot_not labels labels_lead (codes "BEHAVIOUR") _ _ _ refl (λ t e. e)
          c.is_none-3.ensures
          c.is_word_at-2.ensures c.if-has_behaviour.false
          (slot_not labels labels_lead (codes "PARAMETERS") _ _ _ refl (λ t e. e) c.is_none-4.ensures
          c.is_word_at-3.ensures
          c.if-has_parameters.false no_slots_stop))));
    }

pub parameter::read_parameter_clause-returns-then-has_context :
    goal.parameter::read_parameter_clause-returns-then-has_context
parameter::read_parameter_clause-returns-then-has_context t c = word_kept c.args.tokens.now labels labels_lead
    is_parameter_clause (codes "CONTEXT") 0 (parameter_slots c.args.draft.now) _
    (λ o. parameter_slots (record c.args.draft.now { context = o })) _ _ c.keep_clause.new.place c.args.at
    c.read_context_clause.result c.keep_clause.result refl refl (λ at. refl) (λ at. refl) (λ x. refl)
    c.is_none.ensures c.is_word_at.ensures c.if-has_context.true c.read_context_clause.ensures c.keep_clause.ensures

pub parameter::read_parameter_clause-returns-then-has_syntax :
    goal.parameter::read_parameter_clause-returns-then-has_syntax
parameter::read_parameter_clause-returns-then-has_syntax t c = clause_kept c.args.tokens.now closed
    is_parameter_clause 1 (parameter_slots c.args.draft.now) parameter_syntax_tree
    (λ o. parameter_slots (record c.args.draft.now { syntax = o })) c.args.draft.now.syntax
    c.keep_clause-then-has_syntax.new.place c.args.at c.read_parameter_syntax.result
    c.keep_clause-then-has_syntax.result (λ x. refl)
    (λ j a one. clause_taken labels labels_lead is_parameter_clause 1 (parameter_slots c.args.draft.now) refl
    (at_one_of (codes "WITH" ∷ codes "ATTRIBUTE" ∷ []) true is_parameter_clause ((λ at. refl), ((λ at. refl), tt)))
    (at_one_of (codes "WITH" ∷ codes "ATTRIBUTE" ∷ []) false (opens_but labels 1 (parameter_slots c.args.draft.now))
    ((λ at. refl), ((λ at. refl), tt)))
    (came_not parameter_syntax_tree c.args.draft.now.syntax c.is_none-2.result c.is_one_of_at.result
    c.is_none-2.ensures c.if-has_syntax.true)
    (sym c.is_one_of_at.ensures ∙ comes_here c.is_none-2.result c.is_one_of_at.result c.if-has_syntax.true) one)
    (λ e fault. fails_clause labels labels_lead is_parameter_clause 1 (parameter_slots c.args.draft.now)
    (at_one_of (codes "WITH" ∷ codes "ATTRIBUTE" ∷ []) true is_parameter_clause ((λ at. refl), ((λ at. refl), tt)))
    (at_one_of (codes "WITH" ∷ codes "ATTRIBUTE" ∷ []) false (opens_but labels 1 (parameter_slots c.args.draft.now))
    ((λ at. refl), ((λ at. refl), tt)))
    (came_not parameter_syntax_tree c.args.draft.now.syntax c.is_none-2.result c.is_one_of_at.result
    c.is_none-2.ensures c.if-has_syntax.true)
    (sym c.is_one_of_at.ensures ∙ comes_here c.is_none-2.result c.is_one_of_at.result c.if-has_syntax.true) fault)
    c.read_parameter_syntax.ensures c.keep_clause-then-has_syntax.ensures

pub parameter::read_parameter_clause-returns-then-has_behaviour :
    goal.parameter::read_parameter_clause-returns-then-has_behaviour
parameter::read_parameter_clause-returns-then-has_behaviour t c = word_kept c.args.tokens.now labels labels_lead
    is_parameter_clause (codes "BEHAVIOUR") 2 (parameter_slots c.args.draft.now) _
    (λ o. parameter_slots (record c.args.draft.now { behaviour = o })) _ _ c.keep_clause-then-has_behaviour.new.place
    c.args.at c.read_behaviour_clause.result c.keep_clause-then-has_behaviour.result refl refl (λ at. refl)
    (λ at. refl) (λ x. refl) c.is_none-3.ensures c.is_word_at-2.ensures c.if-has_behaviour.true
    c.read_behaviour_clause.ensures c.keep_clause-then-has_behaviour.ensures

pub parameter::read_parameter_clause-returns : goal.parameter::read_parameter_clause-returns
parameter::read_parameter_clause-returns t c =
    record {
      same = refl;
      none =
          (slot_not labels labels_lead (codes "CONTEXT") _ _ _ refl (λ t e. e) c.is_none.ensures c.is_word_at.ensures
          c.if-has_context.false (slot_stops
          (λ open_now. stops_unless labels labels_lead (is_one_of (codes "WITH" ∷ codes "ATTRIBUTE" ∷ []))
          parameter_syntax
          c.args.at c.args.at (omega arith) refl
          (λ t e. one_of_two (is_word_of (codes "WITH") t) (is_word_of (codes "ATTRIBUTE") t) e)
          (sym c.is_one_of_at.ensures
          ∙ comes_not parameter_syntax_tree c.args.draft.now.syntax c.is_none-2.result c.is_one_of_at.result
          c.is_none-2.ensures c.if-has_syntax.false open_now))
          (slot_not labels labels_lead (codes "BEHAVIOUR") _ _ _ refl (λ t e. e) c.is_none-3.ensures
          c.is_word_at-2.ensures
          c.if-has_behaviour.false no_slots_stop)));
    }

pub attribute::read_attribute_clauses-returns-in_err-behind :
    goal.attribute::read_attribute_clauses-returns-in_err-behind
attribute::read_attribute_clauses-returns-in_err-behind t c =
    exit_reads _ c.from_residual.result c.from_residual.ensures.1 (fails_led c.turns.invariant c.in_err-behind.ensures)

pub attribute::read_attribute_clauses-returns-in-Some-syntax :
    goal.attribute::read_attribute_clauses-returns-in-Some-syntax
attribute::read_attribute_clauses-returns-in-Some-syntax t c =
    attribute_done (attribute_slots c.turns.draft) c.read_attribute_clause.new.draft c.in-Some-syntax.syntax
    c.in-Some-syntax.is c.turns.invariant
    (over is_attribute_clause (attribute_slots c.turns.draft) (attribute_slots c.read_attribute_clause.new.draft)
    c.turns.next c.in_ok-behind.field-0 c.in_default.is c.in_ok-behind.ensures)

pub attribute::read_attribute_clauses-returns-in-None : goal.attribute::read_attribute_clauses-returns-in-None
attribute::read_attribute_clauses-returns-in-None t c =
    attribute_missing (attribute_slots c.turns.draft) c.read_attribute_clause.new.draft c.in-None.is c.turns.invariant
    (over is_attribute_clause (attribute_slots c.turns.draft) (attribute_slots c.read_attribute_clause.new.draft)
    c.turns.next c.in_ok-behind.field-0 c.in_default.is c.in_ok-behind.ensures)

pub parameter::read_parameter_clauses-returns-in_err-behind :
    goal.parameter::read_parameter_clauses-returns-in_err-behind
parameter::read_parameter_clauses-returns-in_err-behind t c =
    exit_reads _ c.from_residual.result c.from_residual.ensures.1 (fails_led c.turns.invariant c.in_err-behind.ensures)

pub parameter::read_parameter_clauses-returns-in_default-context :
    goal.parameter::read_parameter_clauses-returns-in_default-context
parameter::read_parameter_clauses-returns-in_default-context t c =
    parameter_missing_context (parameter_slots c.turns.draft) c.read_parameter_clause.new.draft c.in_default-context.is
    c.turns.invariant (over is_parameter_clause (parameter_slots c.turns.draft)
    (parameter_slots c.read_parameter_clause.new.draft) c.turns.next c.in_ok-behind.field-0 c.in_default.is
    c.in_ok-behind.ensures)

pub parameter::read_parameter_clauses-returns-in_default-syntax :
    goal.parameter::read_parameter_clauses-returns-in_default-syntax
parameter::read_parameter_clauses-returns-in_default-syntax t c =
    parameter_missing_syntax (parameter_slots c.turns.draft) c.read_parameter_clause.new.draft c.in-Some-context.context
    c.in-Some-context.is c.in_default-syntax.is c.turns.invariant
    (over is_parameter_clause (parameter_slots c.turns.draft) (parameter_slots c.read_parameter_clause.new.draft)
    c.turns.next c.in_ok-behind.field-0 c.in_default.is c.in_ok-behind.ensures)

pub parameter::read_parameter_clauses-returns : goal.parameter::read_parameter_clauses-returns
parameter::read_parameter_clauses-returns t c =
    parameter_done (parameter_slots c.turns.draft) c.read_parameter_clause.new.draft c.in-Some-context.context
    c.in-Some-syntax.syntax c.in-Some-context.is c.in-Some-syntax.is c.turns.invariant
    (over is_parameter_clause (parameter_slots c.turns.draft) (parameter_slots c.read_parameter_clause.new.draft)
    c.turns.next c.in_ok-behind.field-0 c.in_default.is c.in_ok-behind.ensures)
