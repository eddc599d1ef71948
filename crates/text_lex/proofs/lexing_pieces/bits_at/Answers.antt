-- Neither a hexadecimal nor a binary string stands where both tests failed.
use Rattle.std.proofs.Common.{◌+◌, slice_index, ap, ◌∙◌, ⊎_elim}
use Rattle.std.proofs.lemmas.Bool.{both_ways, and_from, eq-eqb}
use Rattle.text_lex.specs.declared.lexing_octets.Start.TheVariants.{Apostrophe}
use Rattle.text_lex.proofs.Pieces.{fault_at, spelt_bits, run_once}
use Rattle.text_lex.proofs.lexing_pieces.bits_at.Goals as goal

pub returns : goal.returns
returns c = λ announced no_comment begins.
    let text = c.args.text.now in
    fault_at text announced c.args.at Apostrophe c.requires no_comment begins (λ e. cc) (λ other k spelt. ⊎_elim
    (λ found.
    let run = found.1 in
    let same = run_once _ text _ _ _ c.run_end-end.ensures.run run.run in
    let first = c.octet_at.ensures ∙ ap (slice_index text) same ∙ run.apostrophe in
    let second = c.octet_at-2.ensures ∙ ap (λ m. slice_index text (m + 1)) same ∙ run.suffixed in
    both_ways _ c.if-octet_at.false (and_from _ _ (eq-eqb _ _ first) (eq-eqb _ _ second)))
    (λ found.
    let run = found.1 in
    let same = run_once _ text _ _ _ c.run_end-end-2.ensures.run run.run in
    let first = c.octet_at-3.ensures ∙ ap (slice_index text) same ∙ run.apostrophe in
    let second = c.octet_at-4.ensures ∙ ap (λ m. slice_index text (m + 1)) same ∙ run.suffixed in
    both_ways _ c.if-octet_at-2.false (and_from _ _ (eq-eqb _ _ first) (eq-eqb _ _ second)))
    (spelt_bits text announced other c.args.at k begins spelt))
