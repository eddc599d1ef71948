-- DenotedTypes: a type denotes a syntax: it isn't so that it denotes none (X.680, sections 17 to 51; docs/PROFILE.md,
-- section 11).
use Rattle.std.specs.Prelude.{ℕ, List}
use Rattle.term_values.specs.Syntaxes.{TypeSyntax}
use Rattle.asn1_names.specs.DenotedSyntax.{Denotes}
use Rattle.asn1_names.specs.FirstModuleFault.{AreFaultless}
use Rattle.asn1_names.specs.ModuleTerms.{ModuleTerm, TypeTerm}
use Rattle.asn1_names.specs.Occurrences.{Assigns}

-- it isn't so that nothing is as is asked
abbrev pub NotNone : {X : Type 0} → (X → Type 0) → Type 0
NotNone {X} Is = ¬ ((x : X) → ¬ Is x)

-- in modules without a fault each type that is assigned, or of which a value is, denotes a syntax
abbrev pub EachTypeDenotes : Type 0
EachTypeDenotes = (ms : List ModuleTerm) → AreFaultless ms → (document m : ℕ) (of : TypeTerm) →
    Assigns ms document m of → NotNone (λ (syntax : TypeSyntax). Denotes ms m of syntax)
