use Rattle.std.proofs.Common.{◌≡◌, take}
use Rattle.term_model.proofs.name.copied.Given as goal

-- what was copied so far is the front of what there is
abbrev pub invariant-loop-rdn : goal.invariant-loop-rdn
invariant-loop-rdn l = l.copies.items ≡ take l.rdn-index l.parts
