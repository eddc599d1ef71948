-- The first word tells the two orders apart.
use Rattle.std.proofs.Common.{◌∙◌, ◌||◌, sym, refl, false, codes}
use Rattle.token_grammar.proofs.Sequences.{spelt_first, spelt_second, fault_first, fault_second, spelt_on, fails_by}
use Rattle.token_grammar.proofs.Sequences.{fails_on, spelt_order}
use Rattle.token_grammar.proofs.Heads.{skips, starts, stops_unless}
use Rattle.token_grammar.proofs.Known.{at_word}
use Rattle.token_grammar.proofs.Exits.{exit_reads}
use Rattle.token_grammar.proofs.Clauses.{stops_by}
use Rattle.token_grammar.proofs.Parts.{one_word}
use Rattle.token_grammar.specs.TokenTests.{is_word_of}
use Rattle.gdmo_members.proofs.FirstTokens.{labels, labels_lead}
use Rattle.gdmo_members.specs.Templates.{modifier_before}
use Rattle.gdmo_classes.proofs.Modifiers.{further_wider}
use Rattle.gdmo_classes.proofs.creation.read_create_modifiers.Goals as goal

pub returns-in_err-row : goal.returns-in_err-row
returns-in_err-row c = exit_reads _ c.from_residual.result c.from_residual.ensures.1
    (fails_by (λ k r. fault_first r
    (stops_by labels labels_lead
    (modifier_before (codes "WITH-AUTOMATIC-INSTANCE-NAMING") (codes "WITH-REFERENCE-OBJECT")) r.stops.order
    (record { passed = sym c.is_word_at.ensures ∙ c.if-is_word_at.true })
    (at_word (codes "WITH-REFERENCE-OBJECT") false
    (λ t. starts labels (modifier_before (codes "WITH-AUTOMATIC-INSTANCE-NAMING") (codes "WITH-REFERENCE-OBJECT")) t
    || skips labels (modifier_before (codes "WITH-AUTOMATIC-INSTANCE-NAMING") (codes "WITH-REFERENCE-OBJECT")))
    (λ at. refl)))) (fails_on (further_wider (codes "WITH-AUTOMATIC-INSTANCE-NAMING") (λ at. refl))
    c.in_err-row.ensures))

pub returns-then-is_word_at : goal.returns-then-is_word_at
returns-then-is_word_at c = let one =
    spelt_on (further_wider (codes "WITH-AUTOMATIC-INSTANCE-NAMING") (λ at. refl)) c.in_ok-row.ensures in
    spelt_first one (stops_by labels labels_lead
    (modifier_before (codes "WITH-AUTOMATIC-INSTANCE-NAMING") (codes "WITH-REFERENCE-OBJECT")) (spelt_order one)
    (record { passed = sym c.is_word_at.ensures ∙ c.if-is_word_at.true })
    (at_word (codes "WITH-REFERENCE-OBJECT") false
    (λ t. starts labels (modifier_before (codes "WITH-AUTOMATIC-INSTANCE-NAMING") (codes "WITH-REFERENCE-OBJECT")) t
    || skips labels (modifier_before (codes "WITH-AUTOMATIC-INSTANCE-NAMING") (codes "WITH-REFERENCE-OBJECT")))
    (λ at. refl)))

pub returns-in_err-row-2 : goal.returns-in_err-row-2
returns-in_err-row-2 c =
    exit_reads _ c.from_residual-in_err-row-2.result c.from_residual-in_err-row-2.ensures.1
    (fails_by (λ k r. fault_second
    (stops_unless labels labels_lead (is_word_of (codes "WITH-REFERENCE-OBJECT"))
    (modifier_before (codes "WITH-REFERENCE-OBJECT") (codes "WITH-AUTOMATIC-INSTANCE-NAMING")) c.args.at k r.stops.order
    refl (λ t e. one_word (is_word_of (codes "WITH-REFERENCE-OBJECT") t) e)
    (sym c.is_word_at.ensures ∙ c.if-is_word_at.false)) r)
    (fails_on (further_wider (codes "WITH-REFERENCE-OBJECT") (λ at. refl)) c.in_err-row-2.ensures))

pub returns : goal.returns
returns c = let one = spelt_on (further_wider (codes "WITH-REFERENCE-OBJECT") (λ at. refl)) c.in_ok-row-2.ensures in
    spelt_second (stops_unless labels labels_lead (is_word_of (codes "WITH-REFERENCE-OBJECT"))
    (modifier_before (codes "WITH-REFERENCE-OBJECT") (codes "WITH-AUTOMATIC-INSTANCE-NAMING")) c.args.at
    c.in_ok-row-2.next (spelt_order one) refl (λ t e. one_word (is_word_of (codes "WITH-REFERENCE-OBJECT") t) e)
    (sym c.is_word_at.ensures ∙ c.if-is_word_at.false)) one
