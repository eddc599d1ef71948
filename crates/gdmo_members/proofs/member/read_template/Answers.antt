-- The words behind the label part the six templates, which begin alike.
use Rattle.std.proofs.Common.{◌∙◌, sym, refl, codes, ◌+◌}
use Rattle.token_grammar.proofs.Sequences.{stops_or, spelt_first, spelt_second, fault_first, fault_second, fails_by}
use Rattle.token_grammar.proofs.Exits.{exit_reads}
use Rattle.token_grammar.proofs.References.{other_keyword, other_stops, label_first}
use Rattle.token_grammar.specs.TokenTests.{is_word_of}
use Rattle.gdmo_members.specs.Clauses.{behaviours, attributes, parameters, groups, actions, notifications}
use Rattle.gdmo_members.proofs.Alternatives.{third_not, group_not, attribute_not, pair_template}
use Rattle.token_grammar.specs.Beginning.{no_tokens}
use Rattle.gdmo_members.proofs.member.read_template.Goals as goal

pub returns-then-is_pair_template_at : goal.returns-then-is_pair_template_at
returns-then-is_pair_template_at c = let one =
    c.in_ok-group.ensures in
    (spelt_second (other_stops behaviours refl
    (other_keyword c.args.tokens.now c.args.at (codes "ATTRIBUTE") (is_word_of (codes "BEHAVIOUR")) (λ at. refl)
    (pair_template c.args.tokens.now c.args.at (sym c.is_pair_template_at.ensures ∙ c.if-is_pair_template_at.true)))
    (one.furthest c.args.at no_tokens) (λ pass. one.furthest (c.args.at + 1) (label_first groups refl pass)))
    (spelt_second (attribute_not c.args.tokens.now c.args.at (sym c.is_pair_template_at.ensures
    ∙ c.if-is_pair_template_at.true) one.furthest)
    (spelt_second (other_stops parameters refl
    (other_keyword c.args.tokens.now c.args.at (codes "ATTRIBUTE") (is_word_of (codes "PARAMETER")) (λ at. refl)
    (pair_template c.args.tokens.now c.args.at (sym c.is_pair_template_at.ensures ∙ c.if-is_pair_template_at.true)))
    (one.furthest c.args.at no_tokens) (λ pass. one.furthest (c.args.at + 1) (label_first groups refl pass)))
    (spelt_first one (stops_or
    (other_stops actions refl
    (other_keyword c.args.tokens.now c.args.at (codes "ATTRIBUTE") (is_word_of (codes "ACTION")) (λ at. refl)
    (pair_template c.args.tokens.now c.args.at (sym c.is_pair_template_at.ensures ∙ c.if-is_pair_template_at.true)))
    (one.furthest c.args.at no_tokens) (λ pass. one.furthest (c.args.at + 1) (label_first groups refl pass)))
    (other_stops notifications refl
    (other_keyword c.args.tokens.now c.args.at (codes "ATTRIBUTE") (is_word_of (codes "NOTIFICATION")) (λ at. refl)
    (pair_template c.args.tokens.now c.args.at (sym c.is_pair_template_at.ensures ∙ c.if-is_pair_template_at.true)))
    (one.furthest c.args.at no_tokens) (λ pass. one.furthest (c.args.at + 1) (label_first groups refl pass))))))))

pub returns-in_err-group : goal.returns-in_err-group
returns-in_err-group c =
    exit_reads _ c.from_residual.result c.from_residual.ensures.1
    (fails_by (λ k one. (fault_second
    (other_stops behaviours refl
    (other_keyword c.args.tokens.now c.args.at (codes "ATTRIBUTE") (is_word_of (codes "BEHAVIOUR")) (λ at. refl)
    (pair_template c.args.tokens.now c.args.at (sym c.is_pair_template_at.ensures ∙ c.if-is_pair_template_at.true)))
    (one.stops.furthest c.args.at no_tokens)
    (λ pass. one.stops.furthest (c.args.at + 1) (label_first groups refl pass)))
    (fault_second (attribute_not c.args.tokens.now c.args.at (sym c.is_pair_template_at.ensures
    ∙ c.if-is_pair_template_at.true) one.stops.furthest)
    (fault_second (other_stops parameters refl
    (other_keyword c.args.tokens.now c.args.at (codes "ATTRIBUTE") (is_word_of (codes "PARAMETER")) (λ at. refl)
    (pair_template c.args.tokens.now c.args.at (sym c.is_pair_template_at.ensures ∙ c.if-is_pair_template_at.true)))
    (one.stops.furthest c.args.at no_tokens)
    (λ pass. one.stops.furthest (c.args.at + 1) (label_first groups refl pass)))
    (fault_first one (stops_or
    (other_stops actions refl
    (other_keyword c.args.tokens.now c.args.at (codes "ATTRIBUTE") (is_word_of (codes "ACTION")) (λ at. refl)
    (pair_template c.args.tokens.now c.args.at (sym c.is_pair_template_at.ensures ∙ c.if-is_pair_template_at.true)))
    (one.stops.furthest c.args.at no_tokens)
    (λ pass. one.stops.furthest (c.args.at + 1) (label_first groups refl pass)))
    (other_stops notifications refl
    (other_keyword c.args.tokens.now c.args.at (codes "ATTRIBUTE") (is_word_of (codes "NOTIFICATION")) (λ at. refl)
    (pair_template c.args.tokens.now c.args.at (sym c.is_pair_template_at.ensures ∙ c.if-is_pair_template_at.true)))
    (one.stops.furthest c.args.at no_tokens)
    (λ pass. one.stops.furthest (c.args.at + 1) (label_first groups refl pass))))))))) c.in_err-group.ensures)

pub returns-then-is_template_at : goal.returns-then-is_template_at
returns-then-is_template_at c = let one =
    c.in_ok-attribute.ensures in
    (spelt_second (other_stops behaviours refl
    (other_keyword c.args.tokens.now c.args.at (codes "ATTRIBUTE") (is_word_of (codes "BEHAVIOUR")) (λ at. refl)
    (sym c.is_template_at.ensures ∙ c.if-is_template_at.true)) (one.furthest c.args.at no_tokens)
    (λ pass. one.furthest (c.args.at + 1) (label_first attributes refl pass)))
    (spelt_first one (stops_or
    (other_stops parameters refl
    (other_keyword c.args.tokens.now c.args.at (codes "ATTRIBUTE") (is_word_of (codes "PARAMETER")) (λ at. refl)
    (sym c.is_template_at.ensures ∙ c.if-is_template_at.true)) (one.furthest c.args.at no_tokens)
    (λ pass. one.furthest (c.args.at + 1) (label_first attributes refl pass)))
    (stops_or (group_not c.args.tokens.now c.args.at (sym c.is_template_at.ensures ∙ c.if-is_template_at.true)
    (third_not _ _ _ (sym c.is_pair_template_at.ensures ∙ c.if-is_pair_template_at.false) (sym c.is_template_at.ensures
    ∙ c.if-is_template_at.true)) one.furthest)
    (stops_or (other_stops actions refl
    (other_keyword c.args.tokens.now c.args.at (codes "ATTRIBUTE") (is_word_of (codes "ACTION")) (λ at. refl)
    (sym c.is_template_at.ensures ∙ c.if-is_template_at.true)) (one.furthest c.args.at no_tokens)
    (λ pass. one.furthest (c.args.at + 1) (label_first attributes refl pass)))
    (other_stops notifications refl
    (other_keyword c.args.tokens.now c.args.at (codes "ATTRIBUTE") (is_word_of (codes "NOTIFICATION")) (λ at. refl)
    (sym c.is_template_at.ensures ∙ c.if-is_template_at.true)) (one.furthest c.args.at no_tokens)
    (λ pass. one.furthest (c.args.at + 1) (label_first attributes refl pass))))))))

pub returns-in_err-attribute : goal.returns-in_err-attribute
returns-in_err-attribute c =
    exit_reads _ c.from_residual-in_err-attribute.result c.from_residual-in_err-attribute.ensures.1
    (fails_by (λ k one. (fault_second
    (other_stops behaviours refl
    (other_keyword c.args.tokens.now c.args.at (codes "ATTRIBUTE") (is_word_of (codes "BEHAVIOUR")) (λ at. refl)
    (sym c.is_template_at.ensures ∙ c.if-is_template_at.true)) (one.stops.furthest c.args.at no_tokens)
    (λ pass. one.stops.furthest (c.args.at + 1) (label_first attributes refl pass)))
    (fault_first one (stops_or
    (other_stops parameters refl
    (other_keyword c.args.tokens.now c.args.at (codes "ATTRIBUTE") (is_word_of (codes "PARAMETER")) (λ at. refl)
    (sym c.is_template_at.ensures ∙ c.if-is_template_at.true)) (one.stops.furthest c.args.at no_tokens)
    (λ pass. one.stops.furthest (c.args.at + 1) (label_first attributes refl pass)))
    (stops_or (group_not c.args.tokens.now c.args.at (sym c.is_template_at.ensures ∙ c.if-is_template_at.true)
    (third_not _ _ _ (sym c.is_pair_template_at.ensures ∙ c.if-is_pair_template_at.false) (sym c.is_template_at.ensures
    ∙ c.if-is_template_at.true)) one.stops.furthest)
    (stops_or (other_stops actions refl
    (other_keyword c.args.tokens.now c.args.at (codes "ATTRIBUTE") (is_word_of (codes "ACTION")) (λ at. refl)
    (sym c.is_template_at.ensures ∙ c.if-is_template_at.true)) (one.stops.furthest c.args.at no_tokens)
    (λ pass. one.stops.furthest (c.args.at + 1) (label_first attributes refl pass)))
    (other_stops notifications refl
    (other_keyword c.args.tokens.now c.args.at (codes "ATTRIBUTE") (is_word_of (codes "NOTIFICATION")) (λ at. refl)
    (sym c.is_template_at.ensures ∙ c.if-is_template_at.true)) (one.stops.furthest c.args.at no_tokens)
    (λ pass. one.stops.furthest (c.args.at + 1) (label_first attributes refl pass))))))))) c.in_err-attribute.ensures)

pub returns-then-is_template_at-2 : goal.returns-then-is_template_at-2
returns-then-is_template_at-2 c = let one =
    c.in_ok-parameter.ensures in
    (spelt_second (other_stops behaviours refl
    (other_keyword c.args.tokens.now c.args.at (codes "PARAMETER") (is_word_of (codes "BEHAVIOUR")) (λ at. refl)
    (sym c.is_template_at-2.ensures ∙ c.if-is_template_at-2.true)) (one.furthest c.args.at no_tokens)
    (λ pass. one.furthest (c.args.at + 1) (label_first parameters refl pass)))
    (spelt_second (other_stops attributes refl
    (other_keyword c.args.tokens.now c.args.at (codes "PARAMETER") (is_word_of (codes "ATTRIBUTE")) (λ at. refl)
    (sym c.is_template_at-2.ensures ∙ c.if-is_template_at-2.true)) (one.furthest c.args.at no_tokens)
    (λ pass. one.furthest (c.args.at + 1) (label_first parameters refl pass)))
    (spelt_first one (stops_or
    (other_stops groups refl
    (other_keyword c.args.tokens.now c.args.at (codes "PARAMETER") (is_word_of (codes "ATTRIBUTE")) (λ at. refl)
    (sym c.is_template_at-2.ensures ∙ c.if-is_template_at-2.true)) (one.furthest c.args.at no_tokens)
    (λ pass. one.furthest (c.args.at + 1) (label_first parameters refl pass)))
    (stops_or (other_stops actions refl
    (other_keyword c.args.tokens.now c.args.at (codes "PARAMETER") (is_word_of (codes "ACTION")) (λ at. refl)
    (sym c.is_template_at-2.ensures ∙ c.if-is_template_at-2.true)) (one.furthest c.args.at no_tokens)
    (λ pass. one.furthest (c.args.at + 1) (label_first parameters refl pass)))
    (other_stops notifications refl
    (other_keyword c.args.tokens.now c.args.at (codes "PARAMETER") (is_word_of (codes "NOTIFICATION")) (λ at. refl)
    (sym c.is_template_at-2.ensures ∙ c.if-is_template_at-2.true)) (one.furthest c.args.at no_tokens)
    (λ pass. one.furthest (c.args.at + 1) (label_first parameters refl pass))))))))

pub returns-in_err-parameter : goal.returns-in_err-parameter
returns-in_err-parameter c =
    exit_reads _ c.from_residual-in_err-parameter.result c.from_residual-in_err-parameter.ensures.1
    (fails_by (λ k one. (fault_second
    (other_stops behaviours refl
    (other_keyword c.args.tokens.now c.args.at (codes "PARAMETER") (is_word_of (codes "BEHAVIOUR")) (λ at. refl)
    (sym c.is_template_at-2.ensures ∙ c.if-is_template_at-2.true)) (one.stops.furthest c.args.at no_tokens)
    (λ pass. one.stops.furthest (c.args.at + 1) (label_first parameters refl pass)))
    (fault_second (other_stops attributes refl
    (other_keyword c.args.tokens.now c.args.at (codes "PARAMETER") (is_word_of (codes "ATTRIBUTE")) (λ at. refl)
    (sym c.is_template_at-2.ensures ∙ c.if-is_template_at-2.true)) (one.stops.furthest c.args.at no_tokens)
    (λ pass. one.stops.furthest (c.args.at + 1) (label_first parameters refl pass)))
    (fault_first one (stops_or
    (other_stops groups refl
    (other_keyword c.args.tokens.now c.args.at (codes "PARAMETER") (is_word_of (codes "ATTRIBUTE")) (λ at. refl)
    (sym c.is_template_at-2.ensures ∙ c.if-is_template_at-2.true)) (one.stops.furthest c.args.at no_tokens)
    (λ pass. one.stops.furthest (c.args.at + 1) (label_first parameters refl pass)))
    (stops_or (other_stops actions refl
    (other_keyword c.args.tokens.now c.args.at (codes "PARAMETER") (is_word_of (codes "ACTION")) (λ at. refl)
    (sym c.is_template_at-2.ensures ∙ c.if-is_template_at-2.true)) (one.stops.furthest c.args.at no_tokens)
    (λ pass. one.stops.furthest (c.args.at + 1) (label_first parameters refl pass)))
    (other_stops notifications refl
    (other_keyword c.args.tokens.now c.args.at (codes "PARAMETER") (is_word_of (codes "NOTIFICATION")) (λ at. refl)
    (sym c.is_template_at-2.ensures ∙ c.if-is_template_at-2.true)) (one.stops.furthest c.args.at no_tokens)
    (λ pass. one.stops.furthest (c.args.at + 1) (label_first parameters refl pass))))))))) c.in_err-parameter.ensures)

pub returns-then-is_template_at-3 : goal.returns-then-is_template_at-3
returns-then-is_template_at-3 c = let one =
    c.in_ok-action.ensures in
    (spelt_second (other_stops behaviours refl
    (other_keyword c.args.tokens.now c.args.at (codes "ACTION") (is_word_of (codes "BEHAVIOUR")) (λ at. refl)
    (sym c.is_template_at-3.ensures ∙ c.if-is_template_at-3.true)) (one.furthest c.args.at no_tokens)
    (λ pass. one.furthest (c.args.at + 1) (label_first actions refl pass)))
    (spelt_second (other_stops attributes refl
    (other_keyword c.args.tokens.now c.args.at (codes "ACTION") (is_word_of (codes "ATTRIBUTE")) (λ at. refl)
    (sym c.is_template_at-3.ensures ∙ c.if-is_template_at-3.true)) (one.furthest c.args.at no_tokens)
    (λ pass. one.furthest (c.args.at + 1) (label_first actions refl pass)))
    (spelt_second (other_stops parameters refl
    (other_keyword c.args.tokens.now c.args.at (codes "ACTION") (is_word_of (codes "PARAMETER")) (λ at. refl)
    (sym c.is_template_at-3.ensures ∙ c.if-is_template_at-3.true)) (one.furthest c.args.at no_tokens)
    (λ pass. one.furthest (c.args.at + 1) (label_first actions refl pass)))
    (spelt_second (other_stops groups refl
    (other_keyword c.args.tokens.now c.args.at (codes "ACTION") (is_word_of (codes "ATTRIBUTE")) (λ at. refl)
    (sym c.is_template_at-3.ensures ∙ c.if-is_template_at-3.true)) (one.furthest c.args.at no_tokens)
    (λ pass. one.furthest (c.args.at + 1) (label_first actions refl pass)))
    (spelt_first one (other_stops notifications refl
    (other_keyword c.args.tokens.now c.args.at (codes "ACTION") (is_word_of (codes "NOTIFICATION")) (λ at. refl)
    (sym c.is_template_at-3.ensures ∙ c.if-is_template_at-3.true)) (one.furthest c.args.at no_tokens)
    (λ pass. one.furthest (c.args.at + 1) (label_first actions refl pass))))))))

pub returns-in_err-action : goal.returns-in_err-action
returns-in_err-action c =
    exit_reads _ c.from_residual-in_err-action.result c.from_residual-in_err-action.ensures.1
    (fails_by (λ k one. (fault_second
    (other_stops behaviours refl
    (other_keyword c.args.tokens.now c.args.at (codes "ACTION") (is_word_of (codes "BEHAVIOUR")) (λ at. refl)
    (sym c.is_template_at-3.ensures ∙ c.if-is_template_at-3.true)) (one.stops.furthest c.args.at no_tokens)
    (λ pass. one.stops.furthest (c.args.at + 1) (label_first actions refl pass)))
    (fault_second (other_stops attributes refl
    (other_keyword c.args.tokens.now c.args.at (codes "ACTION") (is_word_of (codes "ATTRIBUTE")) (λ at. refl)
    (sym c.is_template_at-3.ensures ∙ c.if-is_template_at-3.true)) (one.stops.furthest c.args.at no_tokens)
    (λ pass. one.stops.furthest (c.args.at + 1) (label_first actions refl pass)))
    (fault_second (other_stops parameters refl
    (other_keyword c.args.tokens.now c.args.at (codes "ACTION") (is_word_of (codes "PARAMETER")) (λ at. refl)
    (sym c.is_template_at-3.ensures ∙ c.if-is_template_at-3.true)) (one.stops.furthest c.args.at no_tokens)
    (λ pass. one.stops.furthest (c.args.at + 1) (label_first actions refl pass)))
    (fault_second (other_stops groups refl
    (other_keyword c.args.tokens.now c.args.at (codes "ACTION") (is_word_of (codes "ATTRIBUTE")) (λ at. refl)
    (sym c.is_template_at-3.ensures ∙ c.if-is_template_at-3.true)) (one.stops.furthest c.args.at no_tokens)
    (λ pass. one.stops.furthest (c.args.at + 1) (label_first actions refl pass)))
    (fault_first one (other_stops notifications refl
    (other_keyword c.args.tokens.now c.args.at (codes "ACTION") (is_word_of (codes "NOTIFICATION")) (λ at. refl)
    (sym c.is_template_at-3.ensures ∙ c.if-is_template_at-3.true)) (one.stops.furthest c.args.at no_tokens)
    (λ pass. one.stops.furthest (c.args.at + 1) (label_first actions refl pass))))))))) c.in_err-action.ensures)

pub returns-then-is_template_at-4 : goal.returns-then-is_template_at-4
returns-then-is_template_at-4 c = let one =
    c.in_ok-notification.ensures in
    (spelt_second (other_stops behaviours refl
    (other_keyword c.args.tokens.now c.args.at (codes "NOTIFICATION") (is_word_of (codes "BEHAVIOUR")) (λ at. refl)
    (sym c.is_template_at-4.ensures ∙ c.if-is_template_at-4.true)) (one.furthest c.args.at no_tokens)
    (λ pass. one.furthest (c.args.at + 1) (label_first notifications refl pass)))
    (spelt_second (other_stops attributes refl
    (other_keyword c.args.tokens.now c.args.at (codes "NOTIFICATION") (is_word_of (codes "ATTRIBUTE")) (λ at. refl)
    (sym c.is_template_at-4.ensures ∙ c.if-is_template_at-4.true)) (one.furthest c.args.at no_tokens)
    (λ pass. one.furthest (c.args.at + 1) (label_first notifications refl pass)))
    (spelt_second (other_stops parameters refl
    (other_keyword c.args.tokens.now c.args.at (codes "NOTIFICATION") (is_word_of (codes "PARAMETER")) (λ at. refl)
    (sym c.is_template_at-4.ensures ∙ c.if-is_template_at-4.true)) (one.furthest c.args.at no_tokens)
    (λ pass. one.furthest (c.args.at + 1) (label_first notifications refl pass)))
    (spelt_second (other_stops groups refl
    (other_keyword c.args.tokens.now c.args.at (codes "NOTIFICATION") (is_word_of (codes "ATTRIBUTE")) (λ at. refl)
    (sym c.is_template_at-4.ensures ∙ c.if-is_template_at-4.true)) (one.furthest c.args.at no_tokens)
    (λ pass. one.furthest (c.args.at + 1) (label_first notifications refl pass)))
    (spelt_second (other_stops actions refl
    (other_keyword c.args.tokens.now c.args.at (codes "NOTIFICATION") (is_word_of (codes "ACTION")) (λ at. refl)
    (sym c.is_template_at-4.ensures ∙ c.if-is_template_at-4.true)) (one.furthest c.args.at no_tokens)
    (λ pass. one.furthest (c.args.at + 1) (label_first notifications refl pass))) one)))))

pub returns-in_err-notification : goal.returns-in_err-notification
returns-in_err-notification c =
    exit_reads _ c.from_residual-in_err-notification.result c.from_residual-in_err-notification.ensures.1
    (fails_by (λ k one. (fault_second
    (other_stops behaviours refl
    (other_keyword c.args.tokens.now c.args.at (codes "NOTIFICATION") (is_word_of (codes "BEHAVIOUR")) (λ at. refl)
    (sym c.is_template_at-4.ensures ∙ c.if-is_template_at-4.true)) (one.stops.furthest c.args.at no_tokens)
    (λ pass. one.stops.furthest (c.args.at + 1) (label_first notifications refl pass)))
    (fault_second (other_stops attributes refl
    (other_keyword c.args.tokens.now c.args.at (codes "NOTIFICATION") (is_word_of (codes "ATTRIBUTE")) (λ at. refl)
    (sym c.is_template_at-4.ensures ∙ c.if-is_template_at-4.true)) (one.stops.furthest c.args.at no_tokens)
    (λ pass. one.stops.furthest (c.args.at + 1) (label_first notifications refl pass)))
    (fault_second (other_stops parameters refl
    (other_keyword c.args.tokens.now c.args.at (codes "NOTIFICATION") (is_word_of (codes "PARAMETER")) (λ at. refl)
    (sym c.is_template_at-4.ensures ∙ c.if-is_template_at-4.true)) (one.stops.furthest c.args.at no_tokens)
    (λ pass. one.stops.furthest (c.args.at + 1) (label_first notifications refl pass)))
    (fault_second (other_stops groups refl
    (other_keyword c.args.tokens.now c.args.at (codes "NOTIFICATION") (is_word_of (codes "ATTRIBUTE")) (λ at. refl)
    (sym c.is_template_at-4.ensures ∙ c.if-is_template_at-4.true)) (one.stops.furthest c.args.at no_tokens)
    (λ pass. one.stops.furthest (c.args.at + 1) (label_first notifications refl pass)))
    (fault_second (other_stops actions refl
    (other_keyword c.args.tokens.now c.args.at (codes "NOTIFICATION") (is_word_of (codes "ACTION")) (λ at. refl)
    (sym c.is_template_at-4.ensures ∙ c.if-is_template_at-4.true)) (one.stops.furthest c.args.at no_tokens)
    (λ pass. one.stops.furthest (c.args.at + 1) (label_first notifications refl pass))) one))))))
    c.in_err-notification.ensures)

pub returns : goal.returns
returns c = let one = c.in_ok-behaviour.ensures in
    (spelt_first one (stops_or
    (other_stops attributes refl (sym c.is_template_at.ensures ∙ c.if-is_template_at.false)
    (one.furthest c.args.at no_tokens) (λ pass. one.furthest (c.args.at + 1) (label_first behaviours refl pass)))
    (stops_or (other_stops parameters refl (sym c.is_template_at-2.ensures ∙ c.if-is_template_at-2.false)
    (one.furthest c.args.at no_tokens) (λ pass. one.furthest (c.args.at + 1) (label_first behaviours refl pass)))
    (stops_or (other_stops groups refl (sym c.is_template_at.ensures ∙ c.if-is_template_at.false)
    (one.furthest c.args.at no_tokens) (λ pass. one.furthest (c.args.at + 1) (label_first behaviours refl pass)))
    (stops_or (other_stops actions refl (sym c.is_template_at-3.ensures ∙ c.if-is_template_at-3.false)
    (one.furthest c.args.at no_tokens) (λ pass. one.furthest (c.args.at + 1) (label_first behaviours refl pass)))
    (other_stops notifications refl (sym c.is_template_at-4.ensures ∙ c.if-is_template_at-4.false)
    (one.furthest c.args.at no_tokens) (λ pass. one.furthest (c.args.at + 1) (label_first behaviours refl pass))))))))

pub returns-in_err-behaviour : goal.returns-in_err-behaviour
returns-in_err-behaviour c =
    exit_reads _ c.from_residual-in_err-behaviour.result c.from_residual-in_err-behaviour.ensures.1
    (fails_by (λ k one. (fault_first one
    (stops_or (other_stops attributes refl (sym c.is_template_at.ensures ∙ c.if-is_template_at.false)
    (one.stops.furthest c.args.at no_tokens)
    (λ pass. one.stops.furthest (c.args.at + 1) (label_first behaviours refl pass)))
    (stops_or (other_stops parameters refl (sym c.is_template_at-2.ensures ∙ c.if-is_template_at-2.false)
    (one.stops.furthest c.args.at no_tokens)
    (λ pass. one.stops.furthest (c.args.at + 1) (label_first behaviours refl pass)))
    (stops_or (other_stops groups refl (sym c.is_template_at.ensures ∙ c.if-is_template_at.false)
    (one.stops.furthest c.args.at no_tokens)
    (λ pass. one.stops.furthest (c.args.at + 1) (label_first behaviours refl pass)))
    (stops_or (other_stops actions refl (sym c.is_template_at-3.ensures ∙ c.if-is_template_at-3.false)
    (one.stops.furthest c.args.at no_tokens)
    (λ pass. one.stops.furthest (c.args.at + 1) (label_first behaviours refl pass)))
    (other_stops notifications refl (sym c.is_template_at-4.ensures ∙ c.if-is_template_at-4.false)
    (one.stops.furthest c.args.at no_tokens)
    (λ pass. one.stops.furthest (c.args.at + 1) (label_first behaviours refl pass))))))))) c.in_err-behaviour.ensures)
