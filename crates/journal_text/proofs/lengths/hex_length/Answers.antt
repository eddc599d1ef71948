use Rattle.std.proofs.Common.{arith}
use Rattle.hex.specs.Hex.{upper_digits}
use Rattle.hex.proofs.HexLemmas.{length-encode_with}
use Rattle.journal_text.proofs.lengths.hex_length.Goals as goal

pub returns-clause-length : goal.returns-clause-length
returns-clause-length c =
    let twice = length-encode_with upper_digits c.args.octets.now in first_of (omega (arith, twice), grind (arith, twice))
