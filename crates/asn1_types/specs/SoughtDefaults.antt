-- SoughtDefaults: which text of DEFAULT stands at a path, and where it is looked for, a step at a time (X.680, section
-- 25.1; docs/PROFILE.md, section 11).
use Rattle.std.specs.Prelude.{◌≡◌, ◌+◌, ℕ, List, Option, None, Some}
use Rattle.std.specs.Borrow.{Bor}
use Rattle.token_grammar.specs.Form.{Tree}
use Rattle.asn1_values_syntax.specs.ValueTrees.{value_tree}
use Rattle.asn1_values_syntax.specs.declared.value.ValueText.{ValueText}
use Rattle.asn1_names.specs.DefaultTexts.{HasDefault}
use Rattle.asn1_names.specs.ModuleTerms.{ModuleTerm, PresenceTerm, TypeTerm}
use Rattle.asn1_names.specs.ModuleTerms.PresenceTerm.{DefaultTerm}
use Rattle.asn1_names.specs.TermViews.{type_term}
use Rattle.asn1_types.specs.MeasuredTypes.{IsMeasured}
use Rattle.asn1_types.specs.declared.defaults.Sought.{Sought}
use Rattle.asn1_types.specs.declared.defaults.Sought.TheVariants as sought

-- the text of a component's DEFAULT, or that it has none
abbrev pub IsDefaultOf : PresenceTerm → Option (Bor ValueText) → Type 0
IsDefaultOf presence None = (text : Tree) → ¬ (presence ≡ DefaultTerm text)
IsDefaultOf presence (Some text) = presence ≡ DefaultTerm (value_tree text.now)

-- what stands at one path of a type stands at another path of a further type, and the other way round
pub record StandsWithin (ms : List ModuleTerm) (m : ℕ) (of : TypeTerm) (path : List ℕ) (v : ℕ) (inner : TypeTerm)
    (rest : List ℕ) : Type 0 where
  pub down : (w : ℕ) (text : Tree) → HasDefault ms m of path w text → HasDefault ms v inner rest w text
  pub up : (w : ℕ) (text : Tree) → HasDefault ms v inner rest w text → HasDefault ms m of path w text

-- a type has fewer nodes than another one
abbrev pub HasFewer : List ModuleTerm → ℕ → TypeTerm → ℕ → TypeTerm → Type 0
HasFewer ms m of v inner = (most : ℕ) → IsMeasured ms m of most →
    (less : ℕ) × (most ≡ less + 1) × IsMeasured ms v inner less

-- where the text at a path of a type is: here, written in the module at the place v; at a path of a smaller type of
-- this module; or nowhere
abbrev pub TellsSought : List ModuleTerm → ℕ → TypeTerm → List ℕ → ℕ → Sought → Type 0
TellsSought ms m of path v (sought.Text text) = HasDefault ms m of path v (value_tree text.now)
TellsSought ms m of path v (sought.Within inner rest) =
    StandsWithin ms m of path v (type_term inner.now) rest.now × HasFewer ms m of v (type_term inner.now)
TellsSought ms m of path v sought.Nothing = (w : ℕ) (text : Tree) → ¬ HasDefault ms m of path w text

-- the text at a path of a type, with the place of the module in which it is written, or that none stands there
abbrev pub TellsDefault : List ModuleTerm → ℕ → TypeTerm → List ℕ → Option (ℕ × Bor ValueText) → Type 0
TellsDefault ms m of path None = (v : ℕ) (text : Tree) → ¬ HasDefault ms m of path v text
TellsDefault ms m of path (Some x) = HasDefault ms m of path x.0 (value_tree x.1.now)
