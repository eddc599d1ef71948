-- By the laws of both readings.
use Rattle.asn1_values_syntax.proofs.ReadingLaws.{identifiers_kept, identifiers_spelt, parts_kept, parts_spelt}
use Rattle.asn1_values_syntax.proofs.BeginningLaws.{braces_either, identifiers_begin, parts_begin_values}
use Rattle.asn1_values_syntax.proofs.braces_law.both_readings.Goals as goal

pub returns : goal.returns
returns c = record {
  identifier_kept = identifiers_kept;
  identifier_spelt = identifiers_spelt;
  parts_kept = parts_kept;
  parts_spelt = parts_spelt;
  identifier_begun = identifiers_begin;
  parts_begun = parts_begin_values;
  either_begun = braces_either;
}
