-- The parts of each, one after the other.
use Rattle.asn1_syntax.proofs.Rows.{choice_said, components_said}
use Rattle.asn1_syntax.proofs.TypeApart.{alternatives_apart, alternatives_separate, components_apart}
use Rattle.asn1_syntax.proofs.TypeApart.{components_separate, list_components, mode_apart, name_components}
use Rattle.asn1_syntax.proofs.TypeApart.{parenthesis_type, presence_meets, structure_quiet}
use Rattle.asn1_syntax.specs.TypeTrees.{alternative_tree, component_tree, type_tree}
use Rattle.asn1_values_syntax.proofs.FirstTokens.{firsts, firsts_lead, quiet_sign, quiet_unless, quiet_word, sign_apart}
use Rattle.asn1_values_syntax.proofs.Quiet.{fail_first, fail_second, take_first, take_second}
use Rattle.asn1_values_syntax.specs.Asn1.{asn1}
use Rattle.asn1_values_syntax.specs.TypeForms.{brace, choice_type, component, components, constraints, list_of}
use Rattle.asn1_values_syntax.specs.TypeForms.{plain_type, structured_type, tagged_type}
use Rattle.asn1_values_syntax.specs.ValueForms.{comma, types}
use Rattle.std.proofs.Common.{[], ap, arith, codes, refl, sym, ◌∙◌, ◌∷◌}
use Rattle.token_grammar.proofs.Exits.{exit_reads}
use Rattle.token_grammar.proofs.Heads.{advances}
use Rattle.token_grammar.proofs.OpenParts.{fails_front_on, fails_rest_on, spelt_then_on}
use Rattle.token_grammar.proofs.Parts.{at_within, list_last, list_push, list_start, spelt_as, spelt_within}
use Rattle.token_grammar.proofs.Sequences.{apart_closed, fails_by, fails_front, fails_named, fails_on, fails_present}
use Rattle.token_grammar.proofs.Sequences.{fails_rest, spelt_absent, spelt_named, spelt_on, spelt_order, spelt_present}
use Rattle.token_grammar.proofs.Sequences.{spelt_then}
use Rattle.token_grammar.proofs.Turns.{fault_led, list_fault, spelt_led}
use Rattle.token_grammar.specs.Form.{Empty, Listed, Marks, Named, Or, Then}
use Rattle.token_grammar.specs.Parts.{words}
use Rattle.token_grammar.specs.TokenTests.{is_name}
use Rattle.asn1_syntax.proofs.type_text.+types.Goals as goal

pub read_type-returns-then-is_sign_at : goal.read_type-returns-then-is_sign_at
read_type-returns-then-is_sign_at t c = c.read_tagged_type.ensures (sym c.is_sign_at.ensures ∙ c.if-is_sign_at.true)

pub read_type-returns-then-is_one_of_at : goal.read_type-returns-then-is_one_of_at
read_type-returns-then-is_one_of_at t c = c.read_structured_type.ensures
    (sym c.is_one_of_at.ensures ∙ c.if-is_one_of_at.true)

pub read_type-returns-then-is_word_at : goal.read_type-returns-then-is_word_at
read_type-returns-then-is_word_at t c = c.read_choice_type.ensures (sym c.is_word_at.ensures ∙ c.if-is_word_at.true)

pub read_type-returns : goal.read_type-returns
read_type-returns t c = c.read_constrained_type.ensures (sym c.is_sign_at.ensures ∙ c.if-is_sign_at.false)
    (sym c.is_one_of_at.ensures ∙ c.if-is_one_of_at.false) (sym c.is_word_at.ensures ∙ c.if-is_word_at.false)

pub read_boxed_type-returns-in_err-of : goal.read_boxed_type-returns-in_err-of
read_boxed_type-returns-in_err-of t c = exit_reads _ c.from_residual.result c.from_residual.ensures.1
    c.in_err-of.ensures

pub read_boxed_type-returns : goal.read_boxed_type-returns
read_boxed_type-returns t c = spelt_as (ap type_tree c.in_ok-boxed.ensures.ok) c.in_ok-of.ensures

pub read_tagged_type-returns-in_err-tag : goal.read_tagged_type-returns-in_err-tag
read_tagged_type-returns-in_err-tag t c = λ here. exit_reads _ c.from_residual.result c.from_residual.ensures.1
    (fails_named types (fail_first (fails_front apart_closed c.in_err-tag.ensures)
    (quiet_sign (codes "[") (Or structured_type (Or choice_type (Then plain_type constraints))) here (λ at. refl))))

pub read_tagged_type-returns-in_err-mode : goal.read_tagged_type-returns-in_err-mode
read_tagged_type-returns-in_err-mode t c = λ here. exit_reads _ c.from_residual-in_err-mode.result
    c.from_residual-in_err-mode.ensures.1 (fails_named types (fail_first
    (fails_rest c.in_ok-tag.ensures apart_closed (fails_front mode_apart c.in_err-mode.ensures))
    (quiet_sign (codes "[") (Or structured_type (Or choice_type (Then plain_type constraints))) here (λ at. refl))))

pub read_tagged_type-returns-in_err-of : goal.read_tagged_type-returns-in_err-of
read_tagged_type-returns-in_err-of t c = λ here. exit_reads _ c.from_residual-in_err-of.result
    c.from_residual-in_err-of.ensures.1 (fails_named types (fail_first
    (fails_rest c.in_ok-tag.ensures apart_closed (fails_rest c.in_ok-mode.ensures mode_apart c.in_err-of.ensures))
    (quiet_sign (codes "[") (Or structured_type (Or choice_type (Then plain_type constraints))) here (λ at. refl))))

pub read_tagged_type-returns : goal.read_tagged_type-returns
read_tagged_type-returns t c = λ here. spelt_named types (take_first
    (spelt_then c.in_ok-tag.ensures apart_closed (spelt_then c.in_ok-mode.ensures mode_apart c.in_ok-of.ensures))
    (quiet_sign (codes "[") (Or structured_type (Or choice_type (Then plain_type constraints))) here (λ at. refl)))

pub read_tagged_type-read_boxed_type-requires : goal.read_tagged_type-read_boxed_type-requires
read_tagged_type-read_boxed_type-requires t c = let one = advances firsts firsts_lead refl c.in_ok-tag.ensures.spelt
    in let within = spelt_within firsts firsts_lead refl c.in_ok-tag.ensures in let o0 = spelt_order
    c.in_ok-mode.ensures in (omega arith, tt)

pub read_structured_type-returns-in_err-word : goal.read_structured_type-returns-in_err-word
read_structured_type-returns-in_err-word t c = λ here. exit_reads _ c.from_residual.result c.from_residual.ensures.1
    (fails_named types (fail_second (structure_quiet tagged_type here (λ at. refl) (λ at. refl))
    (fail_first (fails_front apart_closed (c.in_err-word.ensures asn1))
    (structure_quiet (Or choice_type (Then plain_type constraints)) here (λ at. refl) (λ at. refl)))))

pub read_structured_type-returns-in_err-content : goal.read_structured_type-returns-in_err-content
read_structured_type-returns-in_err-content t c = λ here. exit_reads _ c.from_residual-in_err-content.result
    c.from_residual-in_err-content.ensures.1 (fails_named types (fail_second
    (structure_quiet tagged_type here (λ at. refl) (λ at. refl)) (fail_first
    (fails_rest (c.in_ok-word.ensures asn1) apart_closed c.in_err-content.ensures)
    (structure_quiet (Or choice_type (Then plain_type constraints)) here (λ at. refl) (λ at. refl)))))

pub read_structured_type-returns : goal.read_structured_type-returns
read_structured_type-returns t c = λ here. spelt_named types (take_second
    (structure_quiet tagged_type here (λ at. refl) (λ at. refl)) (take_first
    (spelt_then (c.in_ok-word.ensures asn1) apart_closed c.in_ok-content.ensures)
    (structure_quiet (Or choice_type (Then plain_type constraints)) here (λ at. refl) (λ at. refl))))

pub read_structured_type-read_structure-requires : goal.read_structured_type-read_structure-requires
read_structured_type-read_structure-requires t c = let one = advances firsts firsts_lead refl
    (c.in_ok-word.ensures asn1).spelt in let within = spelt_within firsts firsts_lead refl (c.in_ok-word.ensures asn1)
    in (omega arith, tt)

pub read_choice_type-returns-in_err-word : goal.read_choice_type-returns-in_err-word
read_choice_type-returns-in_err-word t c = λ here. exit_reads _ c.from_residual.result c.from_residual.ensures.1
    (fails_named types (fail_second (quiet_word (codes "CHOICE") tagged_type here (λ at. refl))
    (fail_second (quiet_word (codes "CHOICE") structured_type here (λ at. refl))
    (fail_first (fails_front apart_closed (c.in_err-word.ensures asn1))
    (quiet_word (codes "CHOICE") (Then plain_type constraints) here (λ at. refl))))))

pub read_choice_type-returns-in_err-next : goal.read_choice_type-returns-in_err-next
read_choice_type-returns-in_err-next t c = λ here. exit_reads _ c.from_residual-in_err-next.result
    c.from_residual-in_err-next.ensures.1 (fails_named types (fail_second
    (quiet_word (codes "CHOICE") tagged_type here (λ at. refl)) (fail_second
    (quiet_word (codes "CHOICE") structured_type here (λ at. refl))
    (fail_first (fails_rest (c.in_ok-word.ensures asn1) apart_closed
    (fails_front apart_closed (c.in_err-next.ensures asn1))) (quiet_word (codes "CHOICE")
    (Then plain_type constraints) here (λ at. refl))))))

pub read_choice_type-returns-in_err-alternatives : goal.read_choice_type-returns-in_err-alternatives
read_choice_type-returns-in_err-alternatives t c = λ here. exit_reads _ c.from_residual-in_err-alternatives.result
    c.from_residual-in_err-alternatives.ensures.1 (fails_named types
    (fail_second (quiet_word (codes "CHOICE") tagged_type here (λ at. refl))
    (fail_second (quiet_word (codes "CHOICE") structured_type here (λ at. refl))
    (fail_first (fails_rest (c.in_ok-word.ensures asn1) apart_closed
    (fails_rest (c.in_ok-next.ensures asn1) apart_closed (fails_front alternatives_apart
    c.in_err-alternatives.ensures))) (quiet_word (codes "CHOICE") (Then plain_type constraints) here (λ at. refl))))))

pub read_choice_type-returns-in_err-next-2 : goal.read_choice_type-returns-in_err-next-2
read_choice_type-returns-in_err-next-2 t c = λ here. exit_reads _ c.from_residual-in_err-next-2.result
    c.from_residual-in_err-next-2.ensures.1 (fails_named types (fail_second
    (quiet_word (codes "CHOICE") tagged_type here (λ at. refl)) (fail_second
    (quiet_word (codes "CHOICE") structured_type here (λ at. refl))
    (fail_first (fails_rest (c.in_ok-word.ensures asn1) apart_closed
    (fails_rest (c.in_ok-next.ensures asn1) apart_closed (fails_rest c.in_ok-alternatives.ensures alternatives_apart
    (fails_front apart_closed (c.in_err-next-2.ensures asn1))))) (quiet_word (codes "CHOICE")
    (Then plain_type constraints) here (λ at. refl))))))

pub read_choice_type-returns-in_err-constraints : goal.read_choice_type-returns-in_err-constraints
read_choice_type-returns-in_err-constraints t c = λ here. exit_reads _ c.from_residual-in_err-constraints.result
    c.from_residual-in_err-constraints.ensures.1 (fails_named types
    (fail_second (quiet_word (codes "CHOICE") tagged_type here (λ at. refl))
    (fail_second (quiet_word (codes "CHOICE") structured_type here (λ at. refl))
    (fail_first (fails_rest (c.in_ok-word.ensures asn1) apart_closed
    (fails_rest (c.in_ok-next.ensures asn1) apart_closed (fails_rest c.in_ok-alternatives.ensures alternatives_apart
    (fails_rest (c.in_ok-next-2.ensures asn1) apart_closed (fails_on parenthesis_type
    c.in_err-constraints.ensures))))) (quiet_word (codes "CHOICE") (Then plain_type constraints) here
    (λ at. refl))))))

pub read_choice_type-returns : goal.read_choice_type-returns
read_choice_type-returns t c = λ here. spelt_as (choice_said c.in_ok-word.word c.in_ok-alternatives.alternatives
    c.in_ok-constraints.constraints) (spelt_named types (take_second
    (quiet_word (codes "CHOICE") tagged_type here (λ at. refl)) (take_second
    (quiet_word (codes "CHOICE") structured_type here (λ at. refl))
    (take_first (spelt_then (c.in_ok-word.ensures asn1) apart_closed
    (spelt_then (c.in_ok-next.ensures asn1) apart_closed (spelt_then c.in_ok-alternatives.ensures alternatives_apart
    (spelt_then (c.in_ok-next-2.ensures asn1) apart_closed (spelt_on parenthesis_type c.in_ok-constraints.ensures)))))
    (quiet_word (codes "CHOICE") (Then plain_type constraints) here (λ at. refl))))))

pub read_choice_type-read_alternatives-requires : goal.read_choice_type-read_alternatives-requires
read_choice_type-read_alternatives-requires t c = let one = advances firsts firsts_lead refl
    (c.in_ok-word.ensures asn1).spelt in let within = spelt_within firsts firsts_lead refl (c.in_ok-word.ensures asn1)
    in let o0 = spelt_order (c.in_ok-next.ensures asn1) in (omega arith, tt)

pub read_structure-returns-then-is_sign_at : goal.read_structure-returns-then-is_sign_at
read_structure-returns-then-is_sign_at t c = c.read_components.ensures
    (sym c.is_sign_at.ensures ∙ c.if-is_sign_at.true)

pub read_structure-returns : goal.read_structure-returns
read_structure-returns t c = c.read_elements.ensures (sym c.is_sign_at.ensures ∙ c.if-is_sign_at.false)

pub read_components-returns-in_err-next : goal.read_components-returns-in_err-next
read_components-returns-in_err-next t c = λ here. exit_reads _ c.from_residual.result c.from_residual.ensures.1
    (fail_first (fails_front apart_closed (c.in_err-next.ensures asn1))
    (quiet_sign (codes "{") list_of here (λ at. refl)))

pub read_components-returns-in_err-components : goal.read_components-returns-in_err-components
read_components-returns-in_err-components t c = λ here. exit_reads _ c.from_residual-in_err-components.result
    c.from_residual-in_err-components.ensures.1 (fail_first (fails_rest (c.in_ok-next.ensures asn1) apart_closed
    (fails_front components_apart c.in_err-components.ensures)) (quiet_sign (codes "{") list_of here (λ at. refl)))

pub read_components-returns-in_err-next-2 : goal.read_components-returns-in_err-next-2
read_components-returns-in_err-next-2 t c = λ here. exit_reads _ c.from_residual-in_err-next-2.result
    c.from_residual-in_err-next-2.ensures.1 (fail_first (fails_rest (c.in_ok-next.ensures asn1) apart_closed
    (fails_rest c.in_ok-components.ensures components_apart (fails_front apart_closed
    (c.in_err-next-2.ensures asn1)))) (quiet_sign (codes "{") list_of here (λ at. refl)))

pub read_components-returns-in_err-constraints : goal.read_components-returns-in_err-constraints
read_components-returns-in_err-constraints t c = λ here. exit_reads _ c.from_residual-in_err-constraints.result
    c.from_residual-in_err-constraints.ensures.1 (fail_first (fails_rest (c.in_ok-next.ensures asn1) apart_closed
    (fails_rest c.in_ok-components.ensures components_apart (fails_rest (c.in_ok-next-2.ensures asn1) apart_closed
    (fails_on parenthesis_type c.in_err-constraints.ensures)))) (quiet_sign (codes "{") list_of here (λ at. refl)))

pub read_components-returns : goal.read_components-returns
read_components-returns t c = λ here. spelt_as (components_said c.in_ok-components.components
    c.in_ok-constraints.constraints) (take_first (spelt_then (c.in_ok-next.ensures asn1) apart_closed
    (spelt_then c.in_ok-components.ensures components_apart (spelt_then (c.in_ok-next-2.ensures asn1) apart_closed
    (spelt_on parenthesis_type c.in_ok-constraints.ensures)))) (quiet_sign (codes "{") list_of here (λ at. refl)))

pub read_components-read_optional_components-requires : goal.read_components-read_optional_components-requires
read_components-read_optional_components-requires t c = let one = advances firsts firsts_lead refl
    (c.in_ok-next.ensures asn1).spelt in let within = spelt_within firsts firsts_lead refl (c.in_ok-next.ensures asn1)
    in (omega arith, tt)

pub read_elements-returns-in_err-size : goal.read_elements-returns-in_err-size
read_elements-returns-in_err-size t c = λ other. exit_reads _ c.from_residual.result c.from_residual.ensures.1
    (fail_second (quiet_unless brace components refl (λ t e. e) other)
    (fails_front (sign_apart (codes "(") (Then (Marks (words (codes "OF" ∷ []))) (Named types)) refl (λ at. refl))
    c.in_err-size.ensures))

pub read_elements-returns-in_err-next : goal.read_elements-returns-in_err-next
read_elements-returns-in_err-next t c = λ other. exit_reads _ c.from_residual-in_err-next.result
    c.from_residual-in_err-next.ensures.1 (fail_second (quiet_unless brace components refl (λ t e. e) other)
    (fails_rest c.in_ok-size.ensures (sign_apart (codes "(") (Then (Marks (words (codes "OF" ∷ []))) (Named types))
    refl (λ at. refl)) (fails_front apart_closed (c.in_err-next.ensures asn1))))

pub read_elements-returns-in_err-of : goal.read_elements-returns-in_err-of
read_elements-returns-in_err-of t c = λ other. exit_reads _ c.from_residual-in_err-of.result
    c.from_residual-in_err-of.ensures.1 (fail_second (quiet_unless brace components refl (λ t e. e) other)
    (fails_rest c.in_ok-size.ensures (sign_apart (codes "(") (Then (Marks (words (codes "OF" ∷ []))) (Named types))
    refl (λ at. refl)) (fails_rest (c.in_ok-next.ensures asn1) apart_closed c.in_err-of.ensures)))

pub read_elements-returns : goal.read_elements-returns
read_elements-returns t c = λ other. take_second (quiet_unless brace components refl (λ t e. e) other)
    (spelt_then c.in_ok-size.ensures (sign_apart (codes "(") (Then (Marks (words (codes "OF" ∷ []))) (Named types))
    refl (λ at. refl)) (spelt_then (c.in_ok-next.ensures asn1) apart_closed c.in_ok-of.ensures))

pub read_elements-read_boxed_type-requires : goal.read_elements-read_boxed_type-requires
read_elements-read_boxed_type-requires t c = let one = advances firsts firsts_lead refl
    (c.in_ok-next.ensures asn1).spelt in let within = spelt_within firsts firsts_lead refl (c.in_ok-next.ensures asn1)
    in let o0 = spelt_order c.in_ok-size.ensures in (omega arith, tt)

pub read_optional_components-returns-in_err-list : goal.read_optional_components-returns-in_err-list
read_optional_components-returns-in_err-list t c = exit_reads _ c.from_residual.result c.from_residual.ensures.1
    (fails_present (name_components (record { passed = sym c.is_name_at.ensures ∙ c.if-not-is_name_at.false }))
    (fails_on list_components c.in_err-list.ensures))

pub read_optional_components-returns : goal.read_optional_components-returns
read_optional_components-returns t c = spelt_present (name_components
    (record { passed = sym c.is_name_at.ensures ∙ c.if-not-is_name_at.false }))
    (spelt_on list_components c.in_ok-list.ensures)

pub read_optional_components-returns-then-not-is_name_at : goal.read_optional_components-returns-then-not-is_name_at
read_optional_components-returns-then-not-is_name_at t c = spelt_absent
    ((quiet_unless is_name (Listed comma Empty component) refl (λ t e. e)
    (sym c.is_name_at.ensures ∙ c.if-not-is_name_at.true)).stops _ (omega arith))

pub read_component_list-turns-init : goal.read_component_list-turns-init
read_component_list-turns-init t c = list_start component_tree c.new-list.result.items c.new-list.ensures.items

pub read_component_list-returns-in_err-component : goal.read_component_list-returns-in_err-component
read_component_list-returns-in_err-component t c = exit_reads _ c.from_residual.result c.from_residual.ensures.1
    (fails_by (λ k r. fault_led c.turns.invariant (list_fault components_separate r)) c.in_err-component.ensures)

pub read_component_list-turns-preserved : goal.read_component_list-turns-preserved
read_component_list-turns-preserved t c = list_push component_tree Empty c.turns.list.items c.push.new.self.items
    components_separate c.turns.invariant c.in_ok-component.ensures c.in_ok-push.ensures.items
    (record { passed = c.in-Some.ensures.0 }) c.in-Some.ensures.1

pub read_component_list-turns-smaller : goal.read_component_list-turns-smaller
read_component_list-turns-smaller t c = let forward = advances firsts firsts_lead refl c.in_ok-component.ensures.spelt
    in let within = at_within c.args.tokens.now c.in_ok-component.behind comma c.in-Some.ensures.0 in let next =
    c.in-Some.ensures.1 in omega arith

pub read_component_list-returns-in_default : goal.read_component_list-returns-in_default
read_component_list-returns-in_default t c = spelt_led c.turns.invariant
    (list_last component_tree Empty c.turns.list.items c.push.new.self.items components_separate
    c.in_ok-component.ensures c.in_ok-push.ensures.items c.in_default.ensures)

pub read_component-returns-in_err-name : goal.read_component-returns-in_err-name
read_component-returns-in_err-name t c = exit_reads _ c.from_residual.result c.from_residual.ensures.1
    (fails_front apart_closed (c.in_err-name.ensures asn1))

pub read_component-returns-in_err-of : goal.read_component-returns-in_err-of
read_component-returns-in_err-of t c = exit_reads _ c.from_residual-in_err-of.result
    c.from_residual-in_err-of.ensures.1 (fails_rest (c.in_ok-name.ensures asn1) apart_closed
    (fails_front_on presence_meets c.in_err-of.ensures))

pub read_component-returns-in_err-presence : goal.read_component-returns-in_err-presence
read_component-returns-in_err-presence t c = exit_reads _ c.from_residual-in_err-presence.result
    c.from_residual-in_err-presence.ensures.1 (fails_rest (c.in_ok-name.ensures asn1) apart_closed
    (fails_rest_on c.in_ok-of.ensures presence_meets c.in_err-presence.ensures))

pub read_component-returns : goal.read_component-returns
read_component-returns t c = (spelt_then (c.in_ok-name.ensures asn1) apart_closed
    (spelt_then_on c.in_ok-of.ensures presence_meets c.in_ok-presence.ensures))

pub read_component-read_type-requires : goal.read_component-read_type-requires
read_component-read_type-requires t c = let one = advances firsts firsts_lead refl (c.in_ok-name.ensures asn1).spelt
    in let within = spelt_within firsts firsts_lead refl (c.in_ok-name.ensures asn1) in (omega arith, tt)

pub read_alternatives-turns-init : goal.read_alternatives-turns-init
read_alternatives-turns-init t c = list_start alternative_tree c.new-list.result.items c.new-list.ensures.items

pub read_alternatives-returns-in_err-alternative : goal.read_alternatives-returns-in_err-alternative
read_alternatives-returns-in_err-alternative t c = exit_reads _ c.from_residual.result c.from_residual.ensures.1
    (fails_by (λ k r. fault_led c.turns.invariant (list_fault alternatives_separate r)) c.in_err-alternative.ensures)

pub read_alternatives-turns-preserved : goal.read_alternatives-turns-preserved
read_alternatives-turns-preserved t c = list_push alternative_tree Empty c.turns.list.items c.push.new.self.items
    alternatives_separate c.turns.invariant c.in_ok-alternative.ensures c.in_ok-push.ensures.items
    (record { passed = c.in-Some.ensures.0 }) c.in-Some.ensures.1

pub read_alternatives-turns-smaller : goal.read_alternatives-turns-smaller
read_alternatives-turns-smaller t c = let forward = advances firsts firsts_lead refl c.in_ok-alternative.ensures.spelt
    in let within = at_within c.args.tokens.now c.in_ok-alternative.behind comma c.in-Some.ensures.0 in let next =
    c.in-Some.ensures.1 in omega arith

pub read_alternatives-returns-in_default : goal.read_alternatives-returns-in_default
read_alternatives-returns-in_default t c = spelt_led c.turns.invariant
    (list_last alternative_tree Empty c.turns.list.items c.push.new.self.items alternatives_separate
    c.in_ok-alternative.ensures c.in_ok-push.ensures.items c.in_default.ensures)

pub read_alternative-returns-in_err-name : goal.read_alternative-returns-in_err-name
read_alternative-returns-in_err-name t c = exit_reads _ c.from_residual.result c.from_residual.ensures.1
    (fails_front apart_closed (c.in_err-name.ensures asn1))

pub read_alternative-returns-in_err-of : goal.read_alternative-returns-in_err-of
read_alternative-returns-in_err-of t c = exit_reads _ c.from_residual-in_err-of.result
    c.from_residual-in_err-of.ensures.1 (fails_rest (c.in_ok-name.ensures asn1) apart_closed c.in_err-of.ensures)

pub read_alternative-returns : goal.read_alternative-returns
read_alternative-returns t c = (spelt_then (c.in_ok-name.ensures asn1) apart_closed c.in_ok-of.ensures)

pub read_alternative-read_type-requires : goal.read_alternative-read_type-requires
read_alternative-read_type-requires t c = let one = advances firsts firsts_lead refl (c.in_ok-name.ensures asn1).spelt
    in let within = spelt_within firsts firsts_lead refl (c.in_ok-name.ensures asn1) in (omega arith, tt)
