-- Beneath the tags so far the same names stand.
use Rattle.std.specs.Prelude.{◌↔◌}
use Rattle.token_grammar.specs.declared.token.Token.{Token}
use Rattle.token_grammar.specs.Form.{Tree}
use Rattle.gdmo_names.specs.ValueNames.{BeginsIn}
use Rattle.gdmo_begun_names.proofs.value_names.walk_of.Given as goal

abbrev pub invariant-tags : goal.invariant-tags
invariant-tags l = (text : Tree) (first : Token) → BeginsIn first l.left text ↔ BeginsIn first l.fn.syntax text
