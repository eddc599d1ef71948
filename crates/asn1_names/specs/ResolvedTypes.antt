-- ResolvedTypes: what resolved modules tell of a name of a module: the syntax of its type, or of its value's type, the
-- text of its value, and the texts of DEFAULT beside the syntax (docs/PROFILE.md, section 11).
use Rattle.std.specs.Prelude.{ℕ, List, Option}
use Rattle.token_grammar.specs.Form.{Tree}
use Rattle.term_values.specs.Syntaxes.{TypeSyntax}
use Rattle.asn1_names.specs.ModuleTerms.{NumberTerm, TypeTerm, ModuleTerm}
use Rattle.asn1_names.specs.DefaultTexts.{HasDefault}
use Rattle.asn1_names.specs.DenotedSyntax.{Denotes}
use Rattle.asn1_names.specs.NameMeaning.{Meaning, module_meaning, meaning_within}
use Rattle.asn1_names.specs.NameMeaning.Meaning.{TypeAt, ValueAt, StandardType}

-- what a module, by its name, has of a name
unfoldable pub meaning_of : List ModuleTerm → List ℕ → List ℕ → Meaning
meaning_of ms module_name name = meaning_within ms (module_meaning ms module_name) name

-- the syntax that a meaning has: that of the type, or of the value's type
pub data HasSyntax (ms : List ModuleTerm) : Meaning → TypeSyntax → Type 0 where
  of_type : {m i : ℕ} {of : TypeTerm} {syntax : TypeSyntax} → Denotes ms m of syntax →
      HasSyntax ms (TypeAt m i of) syntax
  of_value : {m i : ℕ} {of : TypeTerm} {number : Option NumberTerm} {text : Tree} {syntax : TypeSyntax} →
      Denotes ms m of syntax → HasSyntax ms (ValueAt m i of number text) syntax
  of_standard : {syntax : TypeSyntax} → HasSyntax ms (StandardType syntax) syntax

-- the text of a value
pub data HasText : Meaning → Tree → Type 0 where
  of_value : {m i : ℕ} {of : TypeTerm} {number : Option NumberTerm} {text : Tree} →
      HasText (ValueAt m i of number text) text

-- a text of DEFAULT beside the syntax, at a path of component numbers; it is written in the module at the place v
pub data HasDefaultText (ms : List ModuleTerm) : Meaning → List ℕ → ℕ → Tree → Type 0 where
  of_type : {m i v : ℕ} {of : TypeTerm} {path : List ℕ} {text : Tree} → HasDefault ms m of path v text →
      HasDefaultText ms (TypeAt m i of) path v text
  of_value : {m i v : ℕ} {of : TypeTerm} {number : Option NumberTerm} {value text : Tree} {path : List ℕ} →
      HasDefault ms m of path v text → HasDefaultText ms (ValueAt m i of number value) path v text
