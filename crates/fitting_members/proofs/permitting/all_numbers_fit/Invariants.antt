-- The types so far admit so many.
use Rattle.std.proofs.Common.{◌≡◌, take, true}
use Rattle.fitting_members.specs.MemberTests.{all_numbers_fit}
use Rattle.fitting_members.proofs.permitting.all_numbers_fit.Given as goal

abbrev pub invariant-loop-syntax : goal.invariant-loop-syntax
invariant-loop-syntax l = all_numbers_fit (take l.syntax-index l.permitted) l.count ≡ true
