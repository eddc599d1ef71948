-- AreNumbers: when the code's lists are what is known of the numbers of modules: for each assignment the one that has
-- its base, the named numbers that its type states beneath its tags, and the number that its value is.
use Rattle.std.specs.Prelude.{ℕ, ℤ, List, Option}
use Rattle.std.specs.Borrow.{Bor}
use Rattle.indexmap.specs.IndexMap.{IndexMap}
use Rattle.asn1_values_syntax.specs.declared.numbers.Bound.{Bound}
use Rattle.asn1_names.specs.ModuleTerms.{ModuleTerm}
use Rattle.asn1_numbers.specs.NumberedBases.{AreBases, AreMaps}
use Rattle.asn1_numbers.specs.NumberedValues.{AreValues}

pub record AreNumbers {S : Type 0} (ms : List ModuleTerm) (bases : List (Option ℕ))
    (maps : List (IndexMap (Bor (List ℕ)) (Bor Bound) S)) (values : List (Option ℤ)) : Type 0 where
  pub ends : AreBases ms bases
  pub stated : AreMaps ms maps
  pub numbers : AreValues ms values
