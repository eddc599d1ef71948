-- Class templates, each in others: one part after the other, one clause after the other, and one reference
-- after the other.
use Rattle.std.proofs.Common.{◌∙◌, sym, refl, true, false, arith, codes}
use Rattle.token_grammar.proofs.Sequences.{apart_closed, spelt_then, spelt_named, fails_by, fails_front, fails_rest}
use Rattle.token_grammar.proofs.Sequences.{fails_named, spelt_order}
use Rattle.token_grammar.proofs.Heads.{stops_unless, advances}
use Rattle.token_grammar.proofs.Known.{at_word}
use Rattle.token_grammar.proofs.Exits.{exit_reads}
use Rattle.token_grammar.proofs.Turns.{spelt_led, fault_led, list_fault}
use Rattle.token_grammar.proofs.Clauses.{no_slots_stop, slot_stops, opens_but, fails_clause, clause_taken, came_not}
use Rattle.token_grammar.proofs.Clauses.{comes_here, comes_not, exit_clause, over, clauses_done, fails_led}
use Rattle.token_grammar.proofs.References.{spelt_label, spelt_template, fails_label, fails_template}
use Rattle.token_grammar.proofs.Parts.{list_push, list_last, at_within, spelt_within, spelt_as}
use Rattle.token_grammar.specs.Form.{Empty}
use Rattle.token_grammar.specs.TokenTests.{is_word_of}
use Rattle.gdmo_members.proofs.Apart.{semicolon_apart, comma_separates}
use Rattle.gdmo_members.proofs.FirstTokens.{labels, labels_lead}
use Rattle.gdmo_members.specs.Clauses.{classes, comma}
use Rattle.gdmo_members.specs.Templates.{templates}
use Rattle.token_grammar.specs.Parts.{vector_tree}
use Rattle.token_grammar.proofs.ByWord.{word_kept, clause_kept, slot_not}
use Rattle.gdmo_members.specs.Trees.{clause_tree}
use Rattle.gdmo_classes.proofs.PartEnds.{class_apart}
use Rattle.gdmo_classes.specs.ClassTrees.{class_reference_tree, class_slots, is_class_clause}
use Rattle.gdmo_classes.specs.PackageTrees.{package_reference_tree, conditional_tree}
use Rattle.gdmo_classes.specs.ClassForms.{superclasses_clause, packages_clause, conditional_clause}
use Rattle.gdmo_classes.proofs.Boxed.{boxed_class}
use Rattle.gdmo_classes.proofs.class.+classes.Goals as goal

pub read_class_in_line-returns-in_err-label : goal.read_class_in_line-returns-in_err-label
read_class_in_line-returns-in_err-label t c =
    exit_reads _ c.from_residual.result c.from_residual.ensures.1
    (fails_named classes (fails_front apart_closed (c.in_err-label.ensures templates)))

pub read_class_in_line-returns-in_err-next : goal.read_class_in_line-returns-in_err-next
read_class_in_line-returns-in_err-next t c =
    exit_reads _ c.from_residual-in_err-next.result c.from_residual-in_err-next.ensures.1
    (fails_named classes (fails_rest (c.in_ok-label.ensures templates) apart_closed
    (fails_front apart_closed (c.in_err-next.ensures templates))))

pub read_class_in_line-returns-in_err-clauses : goal.read_class_in_line-returns-in_err-clauses
read_class_in_line-returns-in_err-clauses t c =
    exit_reads _ c.from_residual-in_err-clauses.result c.from_residual-in_err-clauses.ensures.1
    (fails_named classes (fails_rest (c.in_ok-label.ensures templates) apart_closed
    (fails_rest (c.in_ok-next.ensures templates) apart_closed (fails_front class_apart c.in_err-clauses.ensures))))

pub read_class_in_line-returns-in_err-template : goal.read_class_in_line-returns-in_err-template
read_class_in_line-returns-in_err-template t c =
    exit_reads _ c.from_residual-in_err-template.result c.from_residual-in_err-template.ensures.1
    (fails_named classes (fails_rest (c.in_ok-label.ensures templates) apart_closed
    (fails_rest (c.in_ok-next.ensures templates) apart_closed
    (fails_rest c.in_ok-clauses.ensures class_apart c.in_err-template.ensures.reads))))

pub read_class_in_line-returns : goal.read_class_in_line-returns
read_class_in_line-returns t c =
    spelt_as c.in_ok-template.ensures.made
    (spelt_named classes (spelt_then (c.in_ok-label.ensures templates) apart_closed
    (spelt_then (c.in_ok-next.ensures templates) apart_closed
    (spelt_then c.in_ok-clauses.ensures class_apart c.in_ok-template.ensures.reads))))

pub read_class_in_line-read_class_clauses-requires : goal.read_class_in_line-read_class_clauses-requires
read_class_in_line-read_class_clauses-requires t c = let one =
    advances labels labels_lead refl (c.in_ok-label.ensures templates).spelt in let within =
    spelt_within labels labels_lead refl (c.in_ok-label.ensures templates) in let o0 =
    spelt_order (c.in_ok-next.ensures templates) in (omega arith, tt)

pub read_class_reference-returns-in_err-template : goal.read_class_reference-returns-in_err-template
read_class_reference-returns-in_err-template t c =
    exit_reads _ c.from_residual.result c.from_residual.ensures.1
    (fails_template refl (sym c.is_template_at.ensures ∙ c.if-is_template_at.true) c.in_err-template.ensures)

pub read_class_reference-returns-then-is_template_at : goal.read_class_reference-returns-then-is_template_at
read_class_reference-returns-then-is_template_at t c =
    spelt_as (boxed_class c.in_ok-template.template c.in_ok-template.template.value refl)
    (spelt_template refl (sym c.is_template_at.ensures ∙ c.if-is_template_at.true) c.in_ok-template.ensures)

pub read_class_reference-returns-in_err-label : goal.read_class_reference-returns-in_err-label
read_class_reference-returns-in_err-label t c =
    exit_reads _ c.from_residual-in_err-label.result c.from_residual-in_err-label.ensures.1
    (fails_label refl (sym c.is_template_at.ensures ∙ c.if-is_template_at.false) (c.in_err-label.ensures templates))

pub read_class_reference-returns : goal.read_class_reference-returns
read_class_reference-returns t c =
    spelt_label refl (sym c.is_template_at.ensures ∙ c.if-is_template_at.false) (c.in_ok-label.ensures templates)

pub read_class_list-returns-in_err-reference : goal.read_class_list-returns-in_err-reference
read_class_list-returns-in_err-reference t c =
    exit_reads _ c.from_residual.result c.from_residual.ensures.1
    (fails_by (λ k r. fault_led c.turns.invariant (list_fault (comma_separates (codes "MANAGED")) r))
    c.in_err-reference.ensures)

pub read_class_list-turns-preserved : goal.read_class_list-turns-preserved
read_class_list-turns-preserved t c =
    list_push class_reference_tree Empty c.turns.list.items c.push.new.self.items (comma_separates (codes "MANAGED"))
    c.turns.invariant c.in_ok-reference.ensures c.in_ok-push.ensures.items (record { passed = c.in-Some.ensures.0 })
    c.in-Some.ensures.1

pub read_class_list-turns-smaller : goal.read_class_list-turns-smaller
read_class_list-turns-smaller t c = let forward =
    advances labels labels_lead refl c.in_ok-reference.ensures.spelt in let within =
    at_within c.args.tokens.now c.in_ok-reference.behind comma c.in-Some.ensures.0 in let next =
    c.in-Some.ensures.1 in omega arith

pub read_class_list-returns-in_default : goal.read_class_list-returns-in_default
read_class_list-returns-in_default t c =
    spelt_led c.turns.invariant
    (list_last class_reference_tree Empty c.turns.list.items c.push.new.self.items (comma_separates (codes "MANAGED"))
    c.in_ok-reference.ensures c.in_ok-push.ensures.items c.in_default.ensures)

pub read_superclasses_clause-returns-in_err-next : goal.read_superclasses_clause-returns-in_err-next
read_superclasses_clause-returns-in_err-next t c =
    exit_reads _ c.from_residual.result c.from_residual.ensures.1
    (fails_front apart_closed (c.in_err-next.ensures templates))

pub read_superclasses_clause-returns-in_err-list : goal.read_superclasses_clause-returns-in_err-list
read_superclasses_clause-returns-in_err-list t c =
    exit_reads _ c.from_residual-in_err-list.result c.from_residual-in_err-list.ensures.1
    (fails_rest (c.in_ok-next.ensures templates) apart_closed
    (fails_front (semicolon_apart (codes "MANAGED")) c.in_err-list.ensures))

pub read_superclasses_clause-returns-in_err-next-2 : goal.read_superclasses_clause-returns-in_err-next-2
read_superclasses_clause-returns-in_err-next-2 t c =
    exit_reads _ c.from_residual-in_err-next-2.result c.from_residual-in_err-next-2.ensures.1
    (fails_rest (c.in_ok-next.ensures templates) apart_closed
    (fails_rest c.in_ok-list.ensures (semicolon_apart (codes "MANAGED")) (c.in_err-next-2.ensures templates)))

pub read_superclasses_clause-returns : goal.read_superclasses_clause-returns
read_superclasses_clause-returns t c =
    (spelt_then (c.in_ok-next.ensures templates) apart_closed
    (spelt_then c.in_ok-list.ensures (semicolon_apart (codes "MANAGED")) (c.in_ok-next-2.ensures templates)))

pub read_superclasses_clause-read_class_list-requires : goal.read_superclasses_clause-read_class_list-requires
read_superclasses_clause-read_class_list-requires t c = let one =
    advances labels labels_lead refl (c.in_ok-next.ensures templates).spelt in let within =
    spelt_within labels labels_lead refl (c.in_ok-next.ensures templates) in (omega arith, tt)

pub read_class_clause-returns-then-has_superclasses : goal.read_class_clause-returns-then-has_superclasses
read_class_clause-returns-then-has_superclasses t c = word_kept c.args.tokens.now labels labels_lead is_class_clause
    (codes "DERIVED") 0 (class_slots c.args.clauses.now) _
    (λ o. class_slots (record c.args.clauses.now { superclasses = o })) _ _ c.keep_clause.new.place c.args.at
    c.read_superclasses_clause.result c.keep_clause.result refl refl (λ at. refl) (λ at. refl) (λ x. refl)
    c.is_none.ensures c.is_word_at.ensures c.if-has_superclasses.true c.read_superclasses_clause.ensures
    c.keep_clause.ensures

pub read_class_clause-returns-then-has_packages : goal.read_class_clause-returns-then-has_packages
read_class_clause-returns-then-has_packages t c = word_kept c.args.tokens.now labels labels_lead is_class_clause
    (codes "CHARACTERIZED") 1 (class_slots c.args.clauses.now) _
    (λ o. class_slots (record c.args.clauses.now { packages = o })) _ _ c.keep_clause-then-has_packages.new.place
    c.args.at c.read_packages_clause.result c.keep_clause-then-has_packages.result refl refl (λ at. refl) (λ at. refl)
    (λ x. refl) c.is_none-2.ensures c.is_word_at-2.ensures c.if-has_packages.true c.read_packages_clause.ensures
    c.keep_clause-then-has_packages.ensures

pub read_class_clause-returns-then-has_conditional : goal.read_class_clause-returns-then-has_conditional
read_class_clause-returns-then-has_conditional t c = word_kept c.args.tokens.now labels labels_lead is_class_clause
    (codes "CONDITIONAL") 2 (class_slots c.args.clauses.now) _
    (λ o. class_slots (record c.args.clauses.now { conditional = o })) _ _
    c.keep_clause-then-has_conditional.new.place c.args.at c.read_conditional_clause.result
    c.keep_clause-then-has_conditional.result refl refl (λ at. refl) (λ at. refl) (λ x. refl) c.is_none-3.ensures
    c.is_word_at-3.ensures c.if-has_conditional.true c.read_conditional_clause.ensures
    c.keep_clause-then-has_conditional.ensures

pub read_class_clause-returns : goal.read_class_clause-returns
read_class_clause-returns t c =
    record {
      same = refl;
      none =
          (slot_not labels labels_lead (codes "DERIVED") _ _ _ refl (λ t e. e) c.is_none.ensures c.is_word_at.ensures
          c.if-has_superclasses.false
          (slot_not labels labels_lead (codes "CHARACTERIZED") _ _ _ refl (λ t e. e) c.is_none-2.ensures
          c.is_word_at-2.ensures c.if-has_packages.false
          (slot_not labels labels_lead (codes "CONDITIONAL") _ _ _ refl (λ t e. e) c.is_none-3.ensures
          c.is_word_at-3.ensures
          c.if-has_conditional.false no_slots_stop)));
    }

pub read_class_clauses-returns-in_err-behind : goal.read_class_clauses-returns-in_err-behind
read_class_clauses-returns-in_err-behind t c =
    exit_reads _ c.from_residual.result c.from_residual.ensures.1 (fails_led c.turns.invariant c.in_err-behind.ensures)

pub read_class_clauses-returns : goal.read_class_clauses-returns
read_class_clauses-returns t c =
    clauses_done (class_slots c.turns.clauses) (class_slots c.read_class_clause.new.clauses) c.turns.invariant
    (over is_class_clause (class_slots c.turns.clauses) (class_slots c.read_class_clause.new.clauses) c.turns.next
    c.in_ok-behind.field-0 c.in_default.is c.in_ok-behind.ensures) refl refl
