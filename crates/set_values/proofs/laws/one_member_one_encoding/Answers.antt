use Rattle.set_values.proofs.SetLaws.{equal_encodings_hold}
use Rattle.set_values.proofs.laws.one_member_one_encoding.Goals as goal

pub returns : goal.returns
returns c = equal_encodings_hold
