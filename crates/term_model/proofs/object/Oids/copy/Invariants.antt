use Rattle.std.proofs.Common.{◌≡◌, take}
use Rattle.term_model.proofs.object.Oids.copy.Given as goal

-- what was copied so far is the front of what there is
abbrev pub invariant-loop-oid : goal.invariant-loop-oid
invariant-loop-oid l = (l.oid-items ≡ l.self) × (l.items.items ≡ take l.oid-index l.oid-items)
