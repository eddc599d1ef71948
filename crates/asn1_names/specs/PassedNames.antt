-- PassedNames: the names through which a type leads to one that is none, and what the constraints at them leave of its
-- syntax (X.680, sections 16 and 49 to 51).
use Rattle.std.specs.Prelude.{◌≡◌, ℕ, List, [], ◌∷◌, Option}
use Rattle.token_grammar.specs.declared.token.Token.{Token}
use Rattle.term_values.specs.Syntaxes.{TypeSyntax}
use Rattle.asn1_names.specs.ModuleTerms.{LimitTerm, TypeTerm, ModuleTerm}
use Rattle.asn1_names.specs.ModuleTerms.TypeTerm.{Reference}
use Rattle.asn1_names.specs.Constraining.{Constrains}
use Rattle.asn1_names.specs.NameMeaning.{reference_meaning}
use Rattle.asn1_names.specs.NameMeaning.Meaning.{TypeAt}

-- a name that was passed: its module's place, the names and the constraints
pub record Passed : Type 0 where
  pub home : ℕ
  pub module_name : Option Token
  pub name : Token
  pub limits : List LimitTerm

abbrev pub passed_type : Passed → TypeTerm
passed_type x = Reference x.module_name x.name x.limits

-- a type of the module at the place m leads through names to one of the module at the place v
pub data Passes (ms : List ModuleTerm) : ℕ → TypeTerm → List Passed → ℕ → TypeTerm → Type 0 where
  arrived : {m : ℕ} {of : TypeTerm} → Passes ms m of [] m of
  further : {x : Passed} {path : List Passed} {v i w : ℕ} {of end : TypeTerm} →
      reference_meaning ms x.home x.module_name x.name ≡ TypeAt v i of → Passes ms v of path w end →
      Passes ms x.home (passed_type x) (x ∷ path) w end

-- what the constraints at names leave of a syntax, from the last name on
pub data Returns (ms : List ModuleTerm) : List Passed → TypeSyntax → TypeSyntax → Type 0 where
  no_more : {syntax : TypeSyntax} → Returns ms [] syntax syntax
  another : {x : Passed} {path : List Passed} {before between after : TypeSyntax} →
      Returns ms path before between → Constrains ms x.home (passed_type x) x.limits between after →
      Returns ms (x ∷ path) before after
