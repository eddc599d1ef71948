use Rattle.std.proofs.Common.{◌≡◌, ℕ, List, map, take}
use Rattle.asn1_names.specs.NumbersFound.{numbers_in}
use Rattle.asn1_names.specs.TermViews.{integer_term}
use Rattle.asn1_names.specs.TypeBase.{number_called}
use Rattle.asn1_names.proofs.named_numbers.first_numbers.Given as goal

abbrev pub invariant-loop-named : goal.invariant-loop-named
invariant-loop-named l = (name : List ℕ) → numbers_in l.table name ≡
    number_called name (map integer_term (take l.named-index l.numbers))
