use Rattle.std.proofs.Common.{rules, ◌∷◌, map}
use Rattle.std.specs.Prelude.{codes, string_bytes}
use Rattle.command_line.specs.WordForms.{HasServeWords}
use Rattle.command_line.proofs.UnbuiltLaws.{in_no_form, serve_only, serve_unbuilt}
use Rattle.command_line.proofs.forms.read_serve.Goals as goal

pub returns-then-are_serve_words : goal.returns-then-are_serve_words
returns-then-are_serve_words c = serve_unbuilt (map string_bytes c.args.words.now) (search rules)

pub returns-else-are_serve_words : goal.returns-else-are_serve_words
returns-else-are_serve_words c =
    let rest = map string_bytes c.args.words.now in
    in_no_form (codes "serve" ∷ rest) (HasServeWords rest) c.are_serve_words.result c.are_serve_words.ensures (search rules) (serve_only rest)
