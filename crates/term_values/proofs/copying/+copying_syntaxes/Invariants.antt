use Rattle.std.proofs.Common.{◌≡◌, take}
use Rattle.term_values.proofs.copying.+copying_syntaxes.Given as goal

abbrev pub invariant-copy_parts-loop-part : goal.invariant-copy_parts-loop-part
invariant-copy_parts-loop-part l = l.items.items ≡ take l.part-index l.part-items
