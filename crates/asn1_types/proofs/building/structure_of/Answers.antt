-- SET or SEQUENCE.
use Rattle.std.proofs.Common.{◌∙◌, sym}
use Rattle.asn1_names.specs.DenotedSyntax.Denotes.{sequence, set}
use Rattle.asn1_types.proofs.building.structure_of.Goals as goal

pub returns-then-is_word_of : goal.returns-then-is_word_of
returns-then-is_word_of c = λ ms m members denote. set (sym c.is_word_of.ensures ∙ c.if-is_word_of.true) denote

pub returns-else-is_word_of : goal.returns-else-is_word_of
returns-else-is_word_of c = λ ms m members denote. sequence (sym c.is_word_of.ensures ∙ c.if-is_word_of.false) denote
