-- Parts of which there is not one.
use Rattle.std.proofs.Common.{sym}
use Rattle.gdmo_begun_names.proofs.PartLaws.{not_one}
use Rattle.gdmo_begun_names.proofs.begun_names.only_name.Goals as goal

pub returns-else-parts-eq1 : goal.returns-else-parts-eq1
returns-else-parts-eq1 c = sym (not_one c.args.parts.now c.if-parts-eq1.false)
