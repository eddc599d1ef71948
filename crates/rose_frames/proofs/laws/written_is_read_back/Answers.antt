-- The tree of an APDU is what is written for it, and a written tree is read.
use Rattle.std.proofs.Common.{◌++◌, sym, ap, ◌∙◌}
use Rattle.term_values.specs.Ber.{most_depth}
use Rattle.term_values.specs.BerReading.{tree_at}
use Rattle.term_values.proofs.Statements.{written_is_read_holds}
use Rattle.rose_frames.specs.ApduLaws.{apdu_tree}
use Rattle.rose_frames.proofs.ApduTrees.{tree_written, written_is_apdu}
use Rattle.rose_frames.proofs.laws.written_is_read_back.Goals as goal

pub returns-clause-apdu : goal.returns-clause-apdu
returns-clause-apdu c = written_is_apdu

pub returns-clause-read_back : goal.returns-clause-read_back
returns-clause-read_back c = λ apdu rest fits.
    ap (λ xs. tree_at most_depth (xs ++ rest)) (sym (tree_written apdu))
    ∙ written_is_read_holds most_depth (apdu_tree apdu) rest fits
