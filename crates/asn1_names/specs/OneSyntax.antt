-- OneSyntax: a type denotes one syntax (X.680, sections 17 to 51; docs/PROFILE.md, section 11).
use Rattle.std.specs.Prelude.{◌≡◌, ℕ, List}
use Rattle.term_values.specs.Syntaxes.{TypeSyntax}
use Rattle.asn1_names.specs.ModuleTerms.{TypeTerm, ModuleTerm}
use Rattle.asn1_names.specs.DenotedSyntax.{Denotes}

-- no type denotes two syntaxes
abbrev pub OneSyntaxIsDenoted : Type 0
OneSyntaxIsDenoted = (ms : List ModuleTerm) (m : ℕ) (of : TypeTerm) (one other : TypeSyntax) → Denotes ms m of one →
    Denotes ms m of other → one ≡ other
