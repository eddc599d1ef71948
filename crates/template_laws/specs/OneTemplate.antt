-- TemplatesHaveOneTree: the tokens from a place are a template in one way (X.722, section 8; docs/PROFILE.md, section
-- 2).
use Rattle.std.specs.Prelude.{◌≡◌, ℕ, List}
use Rattle.token_grammar.specs.declared.token.Token.{Token}
use Rattle.token_grammar.specs.Form.{Named, Tree}
use Rattle.token_grammar.specs.Spelling.{Spells}
use Rattle.gdmo_members.specs.Templates.{templates}

-- From one place tokens spell a template of a kind, by its number in the table, up to one place and with one tree.
abbrev pub TemplatesHaveOneTree : Type 0
TemplatesHaveOneTree = (tokens : List Token) (kind i j k : ℕ) (a b : Tree) → Spells tokens templates (Named kind) i j a
    → Spells tokens templates (Named kind) i k b → (j ≡ k) × (a ≡ b)
