-- What the groups so far added.
use Rattle.std.proofs.Common.{◌≡◌, ◌||◌, ℕ, List, take}
use Rattle.op_object.specs.GroupSets.{has_template_member}
use Rattle.op_object.specs.IdSets.{has_id}
use Rattle.op_object.proofs.group_uses.add_templates.Given as goal

abbrev pub invariant-loop-of_group : goal.invariant-loop-of_group
invariant-loop-of_group l = record {
  added : (q : List ℕ) → has_id l.into.members q
      ≡ (has_id l.fn.into.members q || has_template_member l.asked l.fn.into.used (take l.of_group-index l.groups) q);
  kept : l.into.used ≡ l.fn.into.used;
}
