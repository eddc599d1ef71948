use Rattle.opening_laws.proofs.Whole.{whole_records}
use Rattle.opening_laws.proofs.laws.whole_schemas_have_records_once.Goals as goal

pub returns : goal.returns
returns c = whole_records
