use Rattle.placing_laws.proofs.DocumentLabels.{labels_apart}
use Rattle.placing_laws.proofs.laws.labels_stand_apart.Goals as goal

pub returns : goal.returns
returns c = labels_apart
