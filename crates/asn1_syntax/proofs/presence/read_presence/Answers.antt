-- The parts, one after the other.
use Rattle.asn1_syntax.proofs.TypeApart.{colon_component, presence_component, presence_starts}
use Rattle.asn1_syntax.specs.PresenceTree.{presence_tree}
use Rattle.asn1_syntax.specs.declared.presence.Presence.{Presence}
use Rattle.asn1_values_syntax.proofs.FirstTokens.{quiet_unless}
use Rattle.asn1_values_syntax.specs.TypeEnds.{is_presence_start}
use Rattle.asn1_values_syntax.specs.TypeForms.{presence}
use Rattle.std.proofs.Common.{ap, arith, refl, sym, ◌∙◌}
use Rattle.token_grammar.proofs.Exits.{exit_reads}
use Rattle.token_grammar.proofs.Parts.{spelt_as}
use Rattle.token_grammar.proofs.Sequences.{fails_on, fails_present, spelt_absent, spelt_on, spelt_present}
use Rattle.token_grammar.specs.Form.{Present}
use Rattle.asn1_syntax.proofs.presence.read_presence.Goals as goal

pub returns-in_err-presence : goal.returns-in_err-presence
returns-in_err-presence c = exit_reads _ c.from_residual.result c.from_residual.ensures.1
    (fails_present (presence_component (record { passed = sym c.is_one_of_at.ensures ∙ c.if-not-is_one_of_at.false }))
    (fails_on colon_component c.in_err-presence.ensures))

pub returns : goal.returns
returns c = spelt_as (ap (λ (p : Presence). Present (presence_tree p)) c.in_ok-boxed.ensures.ok)
    (spelt_present (presence_component (record { passed = sym c.is_one_of_at.ensures ∙ c.if-not-is_one_of_at.false }))
    (spelt_on colon_component c.in_ok-presence.ensures))

pub returns-then-not-is_one_of_at : goal.returns-then-not-is_one_of_at
returns-then-not-is_one_of_at c = spelt_absent ((quiet_unless is_presence_start presence refl presence_starts
    (sym c.is_one_of_at.ensures ∙ c.if-not-is_one_of_at.true)).stops _ (omega arith))
