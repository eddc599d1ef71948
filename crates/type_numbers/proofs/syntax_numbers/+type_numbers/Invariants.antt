-- The parts behind have their number.
use Rattle.std.proofs.Common.{◌-◌, length}
use Rattle.asn1_names.specs.TermViews.{module_terms}
use Rattle.key_numbers.specs.NumberedLists.{Grows}
use Rattle.type_numbers.specs.PlacedTerms.{placed_terms}
use Rattle.type_numbers.proofs.PartLaws.{AreNumbered}
use Rattle.type_numbers.proofs.syntax_numbers.+type_numbers.Given as goal

abbrev pub invariant-parts_number-loop-i : goal.invariant-parts_number-loop-i
invariant-parts_number-loop-i l = Grows l.fn.lists l.lists ×
    AreNumbered (module_terms l.texts) (placed_terms l.text) l.items l.lists (length l.items - l.i) l.rest
