-- CountedTypes: each type of modules has a number of nodes (docs/PROFILE.md, section 11).
use Rattle.std.specs.Prelude.{ℕ, List}
use Rattle.asn1_names.specs.CodeMeanings.{IsTypeOf}
use Rattle.asn1_names.specs.FirstModuleFault.{AreFaultless}
use Rattle.asn1_names.specs.ModuleTerms.{TypeTerm, ModuleTerm}
use Rattle.asn1_names.specs.NodeCount.{HasNodes}

-- the type of each assignment has a number of nodes
abbrev pub AreCounted : List ModuleTerm → Type 0
AreCounted ms = (number m : ℕ) (of : TypeTerm) → IsTypeOf ms number m of → (n : ℕ) × HasNodes ms m of n

-- nothing is wrong in modules, and each type has a number of nodes
pub record AreSound (ms : List ModuleTerm) : Type 0 where
  pub faultless : AreFaultless ms
  pub counted : AreCounted ms
