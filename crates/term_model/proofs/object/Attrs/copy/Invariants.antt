use Rattle.std.proofs.Common.{◌≡◌, take}
use Rattle.term_model.proofs.object.Attrs.copy.Given as goal

-- what was copied so far is the front of what there is
abbrev pub invariant-loop-attribute : goal.invariant-loop-attribute
invariant-loop-attribute l = (l.attribute-items ≡ l.self) × (l.items.items ≡ take l.attribute-index l.attribute-items)
