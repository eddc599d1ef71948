-- The law is two lemmas.
use Rattle.bind_apdus.proofs.TitleDenoted.{title_given, title_told}
use Rattle.bind_apdus.proofs.laws.reading_is_denoting.Goals as goal

pub returns : goal.returns
returns c = record { title = λ tree title. (title_told tree title, title_given tree title) }
