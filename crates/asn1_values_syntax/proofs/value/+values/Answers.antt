-- The parts of each, one after the other.
use Rattle.asn1_values_syntax.proofs.Braces.{parts_apart, parts_separate}
use Rattle.asn1_values_syntax.proofs.Contents.{content_arcs, content_arcs_fails, content_named, content_named_fails}
use Rattle.asn1_values_syntax.proofs.Contents.{content_parts, content_parts_fails}
use Rattle.asn1_values_syntax.proofs.FirstTokens.{firsts, firsts_lead, quiet_name, quiet_sign, quiet_unless}
use Rattle.asn1_values_syntax.proofs.Quiet.{fail_first, fail_second, quiet_or, take_first, take_second}
use Rattle.asn1_values_syntax.proofs.Rows.{parts_content}
use Rattle.asn1_values_syntax.proofs.Values.{never_fails, part_named, part_named_fails, part_unnamed}
use Rattle.asn1_values_syntax.proofs.Values.{part_unnamed_fails, quiet_literal, value_fails_wider, value_wider}
use Rattle.asn1_values_syntax.specs.Asn1.{asn1}
use Rattle.asn1_values_syntax.specs.Lookahead.{starts_arcs}
use Rattle.asn1_values_syntax.specs.ValueForms.{arcs_end, braces, colon, comma, is_literal, is_value_start, named_value}
use Rattle.asn1_values_syntax.specs.ValueForms.{parts_end, signed_number, values}
use Rattle.asn1_values_syntax.specs.ValueTrees.{part_tree, value_tree}
use Rattle.asn1_values_syntax.specs.declared.value.ValueText.{ValueText}
use Rattle.std.proofs.Common.{ap, arith, codes, refl, slice_get, sym, ◌+◌, ◌∙◌}
use Rattle.token_grammar.proofs.Exits.{exit_reads}
use Rattle.token_grammar.proofs.Heads.{advances}
use Rattle.token_grammar.proofs.Known.{first_so, second_so}
use Rattle.token_grammar.proofs.Parts.{at_within, list_last, list_push, list_start, spelt_as, spelt_within}
use Rattle.token_grammar.proofs.Sequences.{apart_closed, fails_by, fails_front, fails_named, fails_present, fails_rest}
use Rattle.token_grammar.proofs.Sequences.{fails_wider, spelt_absent, spelt_named, spelt_present, spelt_then}
use Rattle.token_grammar.proofs.Sequences.{spelt_wider}
use Rattle.token_grammar.proofs.Turns.{fault_led, list_fault, spelt_led}
use Rattle.token_grammar.specs.Form.{Bare, Empty, Keep, Named, Or, Pair, Then}
use Rattle.token_grammar.specs.Parts.{sign}
use Rattle.token_grammar.specs.Spelling.{passes}
use Rattle.token_grammar.specs.TokenTests.{is_name, is_sign_of}
use Rattle.asn1_values_syntax.proofs.value.+values.Goals as goal

pub read_value-returns-in_err-literal : goal.read_value-returns-in_err-literal
read_value-returns-in_err-literal t c = exit_reads _ c.from_residual.result c.from_residual.ensures.1
    (fails_named values (fail_first (fails_wider colon c.in_err-literal.ensures)
    (quiet_literal (sym c.is_literal_at.ensures ∙ c.if-is_literal_at.true))))

pub read_value-returns-then-is_literal_at : goal.read_value-returns-then-is_literal_at
read_value-returns-then-is_literal_at t c = spelt_named values (take_first (spelt_wider colon c.in_ok-literal.ensures)
    (quiet_literal (sym c.is_literal_at.ensures ∙ c.if-is_literal_at.true)))

pub read_value-returns-in_err-value : goal.read_value-returns-in_err-value
read_value-returns-in_err-value t c = exit_reads _ c.from_residual-in_err-value.result
    c.from_residual-in_err-value.ensures.1 (fails_named values (fail_second
    (quiet_unless is_literal (Keep is_literal) refl (λ t e. e) (sym c.is_literal_at.ensures ∙
    c.if-is_literal_at.false))
    (fail_second (quiet_name signed_number (sym c.is_name_at.ensures ∙ c.if-is_name_at.true) (λ at text. refl))
    (fail_first c.in_err-value.ensures (quiet_name braces (sym c.is_name_at.ensures ∙ c.if-is_name_at.true)
    (λ at text. refl))))))

pub read_value-returns-then-is_name_at : goal.read_value-returns-then-is_name_at
read_value-returns-then-is_name_at t c = spelt_named values (take_second
    (quiet_unless is_literal (Keep is_literal) refl (λ t e. e) (sym c.is_literal_at.ensures ∙
    c.if-is_literal_at.false))
    (take_second (quiet_name signed_number (sym c.is_name_at.ensures ∙ c.if-is_name_at.true) (λ at text. refl))
    (take_first c.in_ok-value.ensures (quiet_name braces (sym c.is_name_at.ensures ∙ c.if-is_name_at.true)
    (λ at text. refl)))))

pub read_value-returns-in_err-brace : goal.read_value-returns-in_err-brace
read_value-returns-in_err-brace t c = exit_reads _ c.from_residual-in_err-brace.result
    c.from_residual-in_err-brace.ensures.1 (fails_named values (fail_second
    (quiet_unless is_literal (Keep is_literal) refl (λ t e. e) (sym c.is_literal_at.ensures ∙
    c.if-is_literal_at.false))
    (fail_second (quiet_sign (codes "{") signed_number (sym c.is_sign_at.ensures ∙ c.if-is_sign_at.true) (λ at. refl))
    (fail_second (quiet_sign (codes "{") named_value (sym c.is_sign_at.ensures ∙ c.if-is_sign_at.true) (λ at. refl))
    (fails_front apart_closed (c.in_err-brace.ensures asn1))))))

pub read_value-returns-in_err-content : goal.read_value-returns-in_err-content
read_value-returns-in_err-content t c = exit_reads _ c.from_residual-in_err-content.result
    c.from_residual-in_err-content.ensures.1 (fails_named values (fail_second
    (quiet_unless is_literal (Keep is_literal) refl (λ t e. e) (sym c.is_literal_at.ensures ∙
    c.if-is_literal_at.false))
    (fail_second (quiet_sign (codes "{") signed_number (sym c.is_sign_at.ensures ∙ c.if-is_sign_at.true) (λ at. refl))
    (fail_second (quiet_sign (codes "{") named_value (sym c.is_sign_at.ensures ∙ c.if-is_sign_at.true) (λ at. refl))
    (fails_rest (c.in_ok-brace.ensures asn1) apart_closed (fails_wider colon c.in_err-content.ensures))))))

pub read_value-returns-then-is_sign_at : goal.read_value-returns-then-is_sign_at
read_value-returns-then-is_sign_at t c = spelt_named values (take_second
    (quiet_unless is_literal (Keep is_literal) refl (λ t e. e) (sym c.is_literal_at.ensures ∙
    c.if-is_literal_at.false))
    (take_second (quiet_sign (codes "{") signed_number (sym c.is_sign_at.ensures ∙ c.if-is_sign_at.true) (λ at. refl))
    (take_second (quiet_sign (codes "{") named_value (sym c.is_sign_at.ensures ∙ c.if-is_sign_at.true) (λ at. refl))
    (spelt_then (c.in_ok-brace.ensures asn1) apart_closed (spelt_wider colon c.in_ok-content.ensures)))))

pub read_value-read_content-requires : goal.read_value-read_content-requires
read_value-read_content-requires t c = let one = advances firsts firsts_lead refl (c.in_ok-brace.ensures asn1).spelt
    in
    let within = spelt_within firsts firsts_lead refl (c.in_ok-brace.ensures asn1) in (omega arith, tt)

pub read_value-returns-in_err-number : goal.read_value-returns-in_err-number
read_value-returns-in_err-number t c = exit_reads _ c.from_residual-in_err-number.result
    c.from_residual-in_err-number.ensures.1 (fails_named values (fail_second
    (quiet_unless is_literal (Keep is_literal) refl (λ t e. e) (sym c.is_literal_at.ensures ∙
    c.if-is_literal_at.false))
    (fail_first (fails_wider colon c.in_err-number.ensures) (quiet_or
    (quiet_unless is_name named_value refl (λ t e. e) (sym c.is_name_at.ensures ∙ c.if-is_name_at.false))
    (quiet_unless (is_sign_of (codes "{")) braces refl (λ t e. e) (sym c.is_sign_at.ensures ∙
    c.if-is_sign_at.false))))))

pub read_value-returns : goal.read_value-returns
read_value-returns t c = spelt_named values (take_second (quiet_unless is_literal (Keep is_literal) refl (λ t e. e)
    (sym c.is_literal_at.ensures ∙ c.if-is_literal_at.false)) (take_first (spelt_wider colon c.in_ok-number.ensures)
    (quiet_or (quiet_unless is_name named_value refl (λ t e. e) (sym c.is_name_at.ensures ∙ c.if-is_name_at.false))
    (quiet_unless (is_sign_of (codes "{")) braces refl (λ t e. e)
    (sym c.is_sign_at.ensures ∙ c.if-is_sign_at.false)))))

pub read_named_value-returns-in_err-name : goal.read_named_value-returns-in_err-name
read_named_value-returns-in_err-name t c = exit_reads _ c.from_residual.result c.from_residual.ensures.1
    (fails_front apart_closed (c.in_err-name.ensures asn1))

pub read_named_value-returns-in_err-value : goal.read_named_value-returns-in_err-value
read_named_value-returns-in_err-value t c = exit_reads _ c.from_residual-in_err-value.result
    c.from_residual-in_err-value.ensures.1 (fails_rest (c.in_ok-name.ensures asn1) apart_closed
    (fails_present (record { passed = (sym c.is_sign_at.ensures ∙ c.if-is_sign_at.true) }) c.in_err-value.ensures))

pub read_named_value-returns-then-is_sign_at : goal.read_named_value-returns-then-is_sign_at
read_named_value-returns-then-is_sign_at t c = spelt_then (c.in_ok-name.ensures asn1) apart_closed
    (spelt_present (record { passed = (sym c.is_sign_at.ensures ∙ c.if-is_sign_at.true) }) c.in_ok-value.ensures)

pub read_named_value-returns : goal.read_named_value-returns
read_named_value-returns t c = spelt_then (c.in_ok-name.ensures asn1) apart_closed
    (spelt_absent ((quiet_unless colon (Then (sign (codes ":")) (Named values)) refl (λ t e. e)
    (sym c.is_sign_at.ensures ∙ c.if-is_sign_at.false)).stops _ (omega arith)))

pub read_named_value-read_chosen_value-requires : goal.read_named_value-read_chosen_value-requires
read_named_value-read_chosen_value-requires t c = let one = advances firsts firsts_lead refl
    (c.in_ok-name.ensures asn1).spelt in let within = spelt_within firsts firsts_lead refl (c.in_ok-name.ensures asn1)
    in (omega arith, tt)

pub read_chosen_value-returns-in_err-next : goal.read_chosen_value-returns-in_err-next
read_chosen_value-returns-in_err-next t c = exit_reads _ c.from_residual.result c.from_residual.ensures.1
    (fails_front apart_closed (c.in_err-next.ensures asn1))

pub read_chosen_value-returns-in_err-value : goal.read_chosen_value-returns-in_err-value
read_chosen_value-returns-in_err-value t c = exit_reads _ c.from_residual-in_err-value.result
    c.from_residual-in_err-value.ensures.1 (fails_rest (c.in_ok-next.ensures asn1) apart_closed
    c.in_err-value.ensures)

pub read_chosen_value-returns : goal.read_chosen_value-returns
read_chosen_value-returns t c = spelt_as (ap (λ (v : ValueText). Pair Bare (value_tree v)) c.in_ok-boxed.ensures.ok)
    (spelt_then (c.in_ok-next.ensures asn1) apart_closed c.in_ok-value.ensures)

pub read_chosen_value-read_value-requires : goal.read_chosen_value-read_value-requires
read_chosen_value-read_value-requires t c = let one = advances firsts firsts_lead refl
    (c.in_ok-next.ensures asn1).spelt
    in let within = spelt_within firsts firsts_lead refl (c.in_ok-next.ensures asn1) in (omega arith, tt)

pub read_content-returns-in_err-next : goal.read_content-returns-in_err-next
read_content-returns-in_err-next t c = exit_reads _ c.from_residual.result c.from_residual.ensures.1
    (fail_first (c.in_err-next.ensures asn1) (quiet_sign (codes "}")
    (Or parts_end (Or arcs_end (Then (Keep is_name) arcs_end))) (sym c.is_sign_at.ensures ∙ c.if-is_sign_at.true)
    (λ at. refl)))

pub read_content-returns-then-is_sign_at : goal.read_content-returns-then-is_sign_at
read_content-returns-then-is_sign_at t c = take_first (c.in_ok-next.ensures asn1)
    (quiet_sign (codes "}") (Or parts_end (Or arcs_end (Then (Keep is_name) arcs_end)))
    (sym c.is_sign_at.ensures ∙ c.if-is_sign_at.true) (λ at. refl))

pub read_content-returns-in_err-arcs : goal.read_content-returns-in_err-arcs
read_content-returns-in_err-arcs t c = exit_reads _ c.from_residual-in_err-arcs.result
    c.from_residual-in_err-arcs.ensures.1 (content_arcs_fails (sym c.is_sign_at.ensures ∙ c.if-is_sign_at.false)
    (sym c.are_arcs_at.ensures ∙ c.if-are_arcs_at.true) c.in_err-arcs.ensures)

pub read_content-returns-then-are_arcs_at : goal.read_content-returns-then-are_arcs_at
read_content-returns-then-are_arcs_at t c = content_arcs (sym c.is_sign_at.ensures ∙ c.if-is_sign_at.false)
    (sym c.are_arcs_at.ensures ∙ c.if-are_arcs_at.true) c.in_ok-arcs.ensures

pub read_content-returns-in_err-first : goal.read_content-returns-in_err-first
read_content-returns-in_err-first t c = exit_reads _ c.from_residual-in_err-first.result
    c.from_residual-in_err-first.ensures.1 (content_named_fails (sym c.is_sign_at.ensures ∙ c.if-is_sign_at.false)
    (sym c.are_arcs_at.ensures ∙ c.if-are_arcs_at.false) (first_so (passes is_name
    (slice_get c.args.tokens.now c.args.at)) (starts_arcs c.args.tokens.now (c.args.at + 1))
    (sym c.are_named_arcs_at.ensures ∙ c.if-are_named_arcs_at.true))
    (second_so (passes is_name (slice_get c.args.tokens.now c.args.at))
    (starts_arcs c.args.tokens.now (c.args.at + 1))
    (sym c.are_named_arcs_at.ensures ∙ c.if-are_named_arcs_at.true))
    (fails_front apart_closed (c.in_err-first.ensures asn1)))

pub read_content-returns-in_err-others : goal.read_content-returns-in_err-others
read_content-returns-in_err-others t c = exit_reads _ c.from_residual-in_err-others.result
    c.from_residual-in_err-others.ensures.1 (content_named_fails (sym c.is_sign_at.ensures ∙ c.if-is_sign_at.false)
    (sym c.are_arcs_at.ensures ∙ c.if-are_arcs_at.false) (first_so (passes is_name
    (slice_get c.args.tokens.now c.args.at)) (starts_arcs c.args.tokens.now (c.args.at + 1))
    (sym c.are_named_arcs_at.ensures ∙ c.if-are_named_arcs_at.true))
    (second_so (passes is_name (slice_get c.args.tokens.now c.args.at))
    (starts_arcs c.args.tokens.now (c.args.at + 1))
    (sym c.are_named_arcs_at.ensures ∙ c.if-are_named_arcs_at.true))
    (fails_rest (c.in_ok-first.ensures asn1) apart_closed c.in_err-others.ensures))

pub read_content-returns-then-are_named_arcs_at : goal.read_content-returns-then-are_named_arcs_at
read_content-returns-then-are_named_arcs_at t c = content_named (sym c.is_sign_at.ensures ∙ c.if-is_sign_at.false)
    (sym c.are_arcs_at.ensures ∙ c.if-are_arcs_at.false) (first_so (passes is_name
    (slice_get c.args.tokens.now c.args.at)) (starts_arcs c.args.tokens.now (c.args.at + 1))
    (sym c.are_named_arcs_at.ensures ∙ c.if-are_named_arcs_at.true))
    (second_so (passes is_name (slice_get c.args.tokens.now c.args.at))
    (starts_arcs c.args.tokens.now (c.args.at + 1))
    (sym c.are_named_arcs_at.ensures ∙ c.if-are_named_arcs_at.true))
    (spelt_then (c.in_ok-first.ensures asn1) apart_closed c.in_ok-others.ensures)

pub read_content-returns-in_err-parts : goal.read_content-returns-in_err-parts
read_content-returns-in_err-parts t c = exit_reads _ c.from_residual-in_err-parts.result
    c.from_residual-in_err-parts.ensures.1 (content_parts_fails (sym c.is_sign_at.ensures ∙ c.if-is_sign_at.false)
    (sym c.are_arcs_at.ensures ∙ c.if-are_arcs_at.false) (sym c.are_named_arcs_at.ensures ∙
    c.if-are_named_arcs_at.false) c.in_err-parts.ensures)

pub read_content-returns : goal.read_content-returns
read_content-returns t c = spelt_as (parts_content c.in_ok-parts.parts)
    (content_parts (sym c.is_sign_at.ensures ∙ c.if-is_sign_at.false)
    (sym c.are_arcs_at.ensures ∙ c.if-are_arcs_at.false) (sym c.are_named_arcs_at.ensures ∙
    c.if-are_named_arcs_at.false) c.in_ok-parts.ensures)

pub read_parts_end-returns-in_err-parts : goal.read_parts_end-returns-in_err-parts
read_parts_end-returns-in_err-parts t c = exit_reads _ c.from_residual.result c.from_residual.ensures.1
    (fails_front parts_apart c.in_err-parts.ensures)

pub read_parts_end-returns-in_err-next : goal.read_parts_end-returns-in_err-next
read_parts_end-returns-in_err-next t c = exit_reads _ c.from_residual-in_err-next.result
    c.from_residual-in_err-next.ensures.1 (fails_rest c.in_ok-parts.ensures parts_apart (c.in_err-next.ensures asn1))

pub read_parts_end-returns : goal.read_parts_end-returns
read_parts_end-returns t c = (spelt_then c.in_ok-parts.ensures parts_apart (c.in_ok-next.ensures asn1))

pub read_parts-turns-init : goal.read_parts-turns-init
read_parts-turns-init t c = list_start part_tree c.new-list.result.items c.new-list.ensures.items

pub read_parts-returns-in_err-part : goal.read_parts-returns-in_err-part
read_parts-returns-in_err-part t c = exit_reads _ c.from_residual.result c.from_residual.ensures.1
    (fails_by (λ k r. fault_led c.turns.invariant (list_fault parts_separate r)) c.in_err-part.ensures)

pub read_parts-turns-preserved : goal.read_parts-turns-preserved
read_parts-turns-preserved t c = list_push part_tree Empty c.turns.list.items c.push.new.self.items parts_separate
    c.turns.invariant c.in_ok-part.ensures c.in_ok-push.ensures.items (record { passed = c.in-Some.ensures.0 })
    c.in-Some.ensures.1

pub read_parts-turns-smaller : goal.read_parts-turns-smaller
read_parts-turns-smaller t c = let forward = advances firsts firsts_lead refl c.in_ok-part.ensures.spelt in let
    within =
    at_within c.args.tokens.now c.in_ok-part.behind comma c.in-Some.ensures.0 in let next = c.in-Some.ensures.1 in
    omega
    arith

pub read_parts-returns-in_default : goal.read_parts-returns-in_default
read_parts-returns-in_default t c = spelt_led c.turns.invariant (list_last part_tree Empty c.turns.list.items
    c.push.new.self.items parts_separate c.in_ok-part.ensures c.in_ok-push.ensures.items c.in_default.ensures)

pub read_part-returns-in_err-name : goal.read_part-returns-in_err-name
read_part-returns-in_err-name t c = exit_reads _ c.from_residual.result c.from_residual.ensures.1
    (never_fails (first_so (passes is_name (slice_get c.args.tokens.now c.args.at))
    (passes is_value_start (slice_get c.args.tokens.now (c.args.at + 1)))
    (sym c.is_named_part_at.ensures ∙ c.if-is_named_part_at.true)) (c.in_err-name.ensures asn1))

pub read_part-returns-in_err-value : goal.read_part-returns-in_err-value
read_part-returns-in_err-value t c = exit_reads _ c.from_residual-in_err-value.result
    c.from_residual-in_err-value.ensures.1 (part_named_fails (sym c.is_named_part_at.ensures ∙
    c.if-is_named_part_at.true) (fails_rest (c.in_ok-name.ensures asn1) apart_closed
    (value_fails_wider c.in_err-value.ensures)))

pub read_part-returns-then-is_named_part_at : goal.read_part-returns-then-is_named_part_at
read_part-returns-then-is_named_part_at t c = part_named (sym c.is_named_part_at.ensures ∙ c.if-is_named_part_at.true)
    (spelt_then (c.in_ok-name.ensures asn1) apart_closed (value_wider c.in_ok-value.ensures))

pub read_part-read_value-requires : goal.read_part-read_value-requires
read_part-read_value-requires t c = let one = advances firsts firsts_lead refl (c.in_ok-name.ensures asn1).spelt in
    let
    within = spelt_within firsts firsts_lead refl (c.in_ok-name.ensures asn1) in (omega arith, tt)

pub read_part-returns-in_err-value-2 : goal.read_part-returns-in_err-value-2
read_part-returns-in_err-value-2 t c = exit_reads _ c.from_residual-in_err-value-2.result
    c.from_residual-in_err-value-2.ensures.1 (part_unnamed_fails (sym c.is_named_part_at.ensures ∙
    c.if-is_named_part_at.false) c.in_err-value-2.ensures)

pub read_part-returns : goal.read_part-returns
read_part-returns t c = part_unnamed (sym c.is_named_part_at.ensures ∙ c.if-is_named_part_at.false)
    c.in_ok-value-2.ensures
