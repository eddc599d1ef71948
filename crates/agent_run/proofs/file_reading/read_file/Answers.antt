use Rattle.std.proofs.Common.{rules, refl}
use Rattle.agent_run.specs.Files.Reaches.{here}
use Rattle.agent_run.proofs.file_reading.read_file.Goals as goal

pub returns-in-Err-Failed-clause-cause : goal.returns-in-Err-Failed-clause-cause
returns-in-Err-Failed-clause-cause g c = (here refl, search rules)

pub returns-in-Err-TooLarge-clause-cause : goal.returns-in-Err-TooLarge-clause-cause
returns-in-Err-TooLarge-clause-cause g c = here (refl, search rules)
