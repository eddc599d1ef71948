-- How many nodes of the map of objects one call visits; the numbers are this project's own.
use Rattle.std.specs.Prelude.{ℕ, ◌+◌, ◌<◌, ◌≤◌, List, length}
use Rattle.term_model.specs.declared.objects.NamedObject.{NamedObject}

-- the visits before and after one call on these objects: one at least where there is an object, and up to 100,000
-- objects at most 128
pub record IsOneCall (objects : List NamedObject) (before after : ℕ) : Type 0 where
  pub rises : before ≤ after
  pub some : 0 < length objects → before < after
  pub few : length objects ≤ 100000 → after ≤ before + 128
