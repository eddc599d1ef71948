-- What holds of the titles that trees bring: docs/PROFILE.md, section 4. The relation stands beside the function that
-- reads, in Bind.
use Rattle.std.specs.Prelude.{◌≡◌, ◌↔◌, ℕ, List, Some}
use Rattle.term_values.specs.Tree.{TreeValue}
use Rattle.agent_model.specs.Bind.{IsBind, title_of}

-- a title is read exactly where the tree is the BIND of it
abbrev pub TitleIsDenoted : Type 0
TitleIsDenoted = (tree : TreeValue) (title : List ℕ) → (title_of tree ≡ Some title) ↔ IsBind tree title
