-- The words behind the label part the three templates.
use Rattle.std.proofs.Common.{◌∙◌, sym, refl, codes, ◌+◌}
use Rattle.token_grammar.proofs.Sequences.{spelt_first, spelt_second, fault_first, fault_second, fails_by, stops_or}
use Rattle.token_grammar.proofs.Exits.{exit_reads}
use Rattle.token_grammar.proofs.References.{other_keyword, other_stops, label_first}
use Rattle.token_grammar.specs.Beginning.{no_tokens}
use Rattle.token_grammar.specs.TokenTests.{is_word_of}
use Rattle.gdmo_members.specs.Clauses.{packages, classes, name_bindings}
use Rattle.gdmo_classes.proofs.template.read_template.Goals as goal

pub returns-in_err-class : goal.returns-in_err-class
returns-in_err-class c =
    exit_reads _ c.from_residual.result c.from_residual.ensures.1
    (fails_by (λ k one. (fault_second
    (other_stops packages refl
    (other_keyword c.args.tokens.now c.args.at (codes "MANAGED") (is_word_of (codes "PACKAGE")) (λ at. refl)
    (sym c.is_template_at.ensures ∙ c.if-is_template_at.true)) (one.stops.furthest c.args.at no_tokens)
    (λ pass. one.stops.furthest (c.args.at + 1) (label_first classes refl pass)))
    (fault_first one (other_stops name_bindings refl
    (other_keyword c.args.tokens.now c.args.at (codes "MANAGED") (is_word_of (codes "NAME")) (λ at. refl)
    (sym c.is_template_at.ensures ∙ c.if-is_template_at.true)) (one.stops.furthest c.args.at no_tokens)
    (λ pass. one.stops.furthest (c.args.at + 1) (label_first classes refl pass)))))) c.in_err-class.ensures)

pub returns-then-is_template_at : goal.returns-then-is_template_at
returns-then-is_template_at c = let one =
    c.in_ok-class.ensures in
    (spelt_second (other_stops packages refl
    (other_keyword c.args.tokens.now c.args.at (codes "MANAGED") (is_word_of (codes "PACKAGE")) (λ at. refl)
    (sym c.is_template_at.ensures ∙ c.if-is_template_at.true)) (one.furthest c.args.at no_tokens)
    (λ pass. one.furthest (c.args.at + 1) (label_first classes refl pass)))
    (spelt_first one (other_stops name_bindings refl
    (other_keyword c.args.tokens.now c.args.at (codes "MANAGED") (is_word_of (codes "NAME")) (λ at. refl)
    (sym c.is_template_at.ensures ∙ c.if-is_template_at.true)) (one.furthest c.args.at no_tokens)
    (λ pass. one.furthest (c.args.at + 1) (label_first classes refl pass)))))

pub returns-in_err-binding : goal.returns-in_err-binding
returns-in_err-binding c =
    exit_reads _ c.from_residual-in_err-binding.result c.from_residual-in_err-binding.ensures.1
    (fails_by (λ k one. (fault_second
    (other_stops packages refl
    (other_keyword c.args.tokens.now c.args.at (codes "NAME") (is_word_of (codes "PACKAGE")) (λ at. refl)
    (sym c.is_template_at-2.ensures ∙ c.if-is_template_at-2.true)) (one.stops.furthest c.args.at no_tokens)
    (λ pass. one.stops.furthest (c.args.at + 1) (label_first name_bindings refl pass)))
    (fault_second (other_stops classes refl
    (other_keyword c.args.tokens.now c.args.at (codes "NAME") (is_word_of (codes "MANAGED")) (λ at. refl)
    (sym c.is_template_at-2.ensures ∙ c.if-is_template_at-2.true)) (one.stops.furthest c.args.at no_tokens)
    (λ pass. one.stops.furthest (c.args.at + 1) (label_first name_bindings refl pass))) one))) c.in_err-binding.ensures)

pub returns-then-is_template_at-2 : goal.returns-then-is_template_at-2
returns-then-is_template_at-2 c = let one =
    c.in_ok-binding.ensures in
    (spelt_second (other_stops packages refl
    (other_keyword c.args.tokens.now c.args.at (codes "NAME") (is_word_of (codes "PACKAGE")) (λ at. refl)
    (sym c.is_template_at-2.ensures ∙ c.if-is_template_at-2.true)) (one.furthest c.args.at no_tokens)
    (λ pass. one.furthest (c.args.at + 1) (label_first name_bindings refl pass)))
    (spelt_second (other_stops classes refl
    (other_keyword c.args.tokens.now c.args.at (codes "NAME") (is_word_of (codes "MANAGED")) (λ at. refl)
    (sym c.is_template_at-2.ensures ∙ c.if-is_template_at-2.true)) (one.furthest c.args.at no_tokens)
    (λ pass. one.furthest (c.args.at + 1) (label_first name_bindings refl pass))) one))

pub returns-in_err-package : goal.returns-in_err-package
returns-in_err-package c =
    exit_reads _ c.from_residual-in_err-package.result c.from_residual-in_err-package.ensures.1
    (fails_by (λ k one. (fault_first one
    (stops_or (other_stops classes refl (sym c.is_template_at.ensures ∙ c.if-is_template_at.false)
    (one.stops.furthest c.args.at no_tokens)
    (λ pass. one.stops.furthest (c.args.at + 1) (label_first packages refl pass)))
    (other_stops name_bindings refl (sym c.is_template_at-2.ensures ∙ c.if-is_template_at-2.false)
    (one.stops.furthest c.args.at no_tokens)
    (λ pass. one.stops.furthest (c.args.at + 1) (label_first packages refl pass)))))) c.in_err-package.ensures)

pub returns : goal.returns
returns c = let one = c.in_ok-package.ensures in
    (spelt_first one (stops_or
    (other_stops classes refl (sym c.is_template_at.ensures ∙ c.if-is_template_at.false)
    (one.furthest c.args.at no_tokens) (λ pass. one.furthest (c.args.at + 1) (label_first packages refl pass)))
    (other_stops name_bindings refl (sym c.is_template_at-2.ensures ∙ c.if-is_template_at-2.false)
    (one.furthest c.args.at no_tokens) (λ pass. one.furthest (c.args.at + 1) (label_first packages refl pass)))))
