-- Both are lemmas, which laws of what stands above take too.
use Rattle.rose_frames.proofs.ApduStatements.{apdu_is_read_holds, read_is_apdu_holds}
use Rattle.rose_frames.proofs.laws.reading_is_denoting.Goals as goal

pub returns-clause-read : goal.returns-clause-read
returns-clause-read c = read_is_apdu_holds

pub returns-clause-denoted : goal.returns-clause-denoted
returns-clause-denoted c = apdu_is_read_holds
