-- OneMeaning: when two types that are meant are one: their syntaxes are equal, and DEFAULT stands at the same
-- components of both (docs/PROFILE.md, section 12). They have one number exactly then.
use Rattle.std.specs.Prelude.{◌≡◌, ◌↔◌, ℕ, List}
use Rattle.term_values.specs.Syntaxes.{TypeSyntax}
use Rattle.asn1_names.specs.ModuleTerms.{ModuleTerm}
use Rattle.asn1_names.specs.NameMeaning.{Meaning}
use Rattle.asn1_names.specs.ResolvedTypes.{HasSyntax}
use Rattle.key_numbers.specs.NumberedLists.{AreOnce, Row}
use Rattle.type_numbers.specs.AskedTypes.{HasNumber}
use Rattle.type_numbers.specs.MeaningKeys.{StandsDefault}

pub record AreOneMeant (ms : List ModuleTerm) (one other : Meaning) : Type 0 where
  pub syntax : TypeSyntax
  pub has : HasSyntax ms one syntax
  pub has_too : HasSyntax ms other syntax
  pub defaults : (path : List ℕ) → StandsDefault ms one path ↔ StandsDefault ms other path

-- the numbers of two types are one exactly where the types are
abbrev pub NumbersTellTypes : Type 0
NumbersTellTypes = (ms : List ModuleTerm) (row : Row) (one other : Meaning) (n k : ℕ) → AreOnce row →
    HasNumber ms row one n → HasNumber ms row other k → (n ≡ k) ↔ AreOneMeant ms one other
