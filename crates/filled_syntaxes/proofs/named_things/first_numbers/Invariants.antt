-- The assignments of the modules so far are counted.
use Rattle.asn1_names.specs.TermViews.{module_terms}
use Rattle.filled_syntaxes.proofs.CountLaws.{IsCounted}
use Rattle.filled_syntaxes.proofs.named_things.first_numbers.Given as goal

abbrev pub invariant-loop-module : goal.invariant-loop-module
invariant-loop-module l = IsCounted (module_terms l.modules) l.module-index l.numbers.items l.next
