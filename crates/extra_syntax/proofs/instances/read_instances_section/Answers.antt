-- The parts, one after the other.
use Rattle.std.proofs.Common.{refl}
use Rattle.extra_syntax.proofs.Apart.{instances_apart}
use Rattle.extra_syntax.proofs.Tables.{fails_in, spelt_in}
use Rattle.extra_syntax.specs.SectionForms.{instance_sections, instances_form}
use Rattle.asn1_values_syntax.specs.Asn1.{asn1}
use Rattle.token_grammar.proofs.Exits.{exit_reads}
use Rattle.token_grammar.proofs.Sequences.{apart_closed, fails_front, fails_named, fails_rest, spelt_named, spelt_then}
use Rattle.extra_syntax.proofs.instances.read_instances_section.Goals as goal

pub returns-in_err-word : goal.returns-in_err-word
returns-in_err-word c = exit_reads _ c.from_residual.result c.from_residual.ensures.1 (fails_named instance_sections
    (fails_in instances_form refl (fails_front apart_closed (c.in_err-word.ensures asn1))))

pub returns-in_err-instances : goal.returns-in_err-instances
returns-in_err-instances c = exit_reads _ c.from_residual-in_err-instances.result
    c.from_residual-in_err-instances.ensures.1 (fails_named instance_sections (fails_in instances_form refl
    (fails_rest (c.in_ok-word.ensures asn1) apart_closed (fails_front instances_apart c.in_err-instances.ensures))))

pub returns-in_err-next : goal.returns-in_err-next
returns-in_err-next c = exit_reads _ c.from_residual-in_err-next.result c.from_residual-in_err-next.ensures.1
    (fails_named instance_sections (fails_in instances_form refl (fails_rest (c.in_ok-word.ensures asn1) apart_closed
    (fails_rest c.in_ok-instances.ensures instances_apart (c.in_err-next.ensures asn1)))))

pub returns : goal.returns
returns c = spelt_named instance_sections (spelt_in instances_form refl (spelt_then
    (c.in_ok-word.ensures asn1) apart_closed (spelt_then c.in_ok-instances.ensures instances_apart
    (c.in_ok-next.ensures asn1))))
