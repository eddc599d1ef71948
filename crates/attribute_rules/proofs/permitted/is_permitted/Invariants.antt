-- The value is one of each of the types so far.
use Rattle.std.proofs.Common.{◌≡◌, true, take}
use Rattle.term_model.specs.ClassAttributes.{is_permitted}
use Rattle.attribute_rules.proofs.permitted.is_permitted.Given as goal

abbrev pub invariant-loop-syntax : goal.invariant-loop-syntax
invariant-loop-syntax l = is_permitted (take l.syntax-index l.syntax-items) l.value ≡ true
