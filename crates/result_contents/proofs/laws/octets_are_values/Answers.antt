use Rattle.result_contents.proofs.ResultForms.{get_written, instance_written, listed_written}
use Rattle.result_contents.proofs.laws.octets_are_values.Goals as goal

pub returns-clause-instance : goal.returns-clause-instance
returns-clause-instance c = instance_written

pub returns-clause-attributes : goal.returns-clause-attributes
returns-clause-attributes c = listed_written

pub returns-clause-get : goal.returns-clause-get
returns-clause-get c = get_written
