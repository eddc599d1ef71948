use Rattle.typed_laws.proofs.WritingStatements.{written_is_read_again_holds, written_denotes_holds}
use Rattle.typed_laws.proofs.WritingStatements.{written_is_read_back_holds, one_value_written_holds}
use Rattle.typed_laws.proofs.laws.written_is_read_back.Goals as goal

pub returns-clause-again : goal.returns-clause-again
returns-clause-again c = written_is_read_again_holds

pub returns-clause-denotes : goal.returns-clause-denotes
returns-clause-denotes c = written_denotes_holds

pub returns-clause-read_back : goal.returns-clause-read_back
returns-clause-read_back c = written_is_read_back_holds

pub returns-clause-one_value : goal.returns-clause-one_value
returns-clause-one_value c = one_value_written_holds
