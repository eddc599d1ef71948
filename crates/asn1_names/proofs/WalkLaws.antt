-- WalkLaws: the name that a type is.
use Rattle.std.specs.Prelude.{◌≡◌, List, Option, None, Some, refl}
use Rattle.token_grammar.specs.declared.token.Token.{Token}
use Rattle.asn1_syntax.specs.declared.plain_type.PlainType.TheVariants as plain
use Rattle.asn1_syntax.specs.declared.plain_type.TypeName.{TypeName}
use Rattle.asn1_names.specs.CodeMeanings.{named_module, named_type}
use Rattle.asn1_names.specs.ModuleTerms.{LimitTerm, TypeTerm}
use Rattle.asn1_names.specs.ModuleTerms.TypeTerm.{Reference}
use Rattle.asn1_names.specs.TermViews.{plain_term}

pub named_is : (x : TypeName) (limits : List LimitTerm) →
    plain_term (plain.Named x) limits ≡ Reference (named_module x) (named_type x) limits
named_is x limits = by x.member
  where
    by : (m : Option Token) → (elim m as (λ _. TypeTerm) [
      | None ↦ Reference None x.name limits
      | Some member ↦ Reference (Some x.name) member limits
    ]) ≡ Reference (elim m as (λ _. Option Token) [ None ↦ None | Some y ↦ Some x.name ])
        (elim m as (λ _. Token) [ None ↦ x.name | Some y ↦ y ]) limits
    by None = refl
    by (Some member) = refl
