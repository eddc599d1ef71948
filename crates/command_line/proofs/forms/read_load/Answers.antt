use Rattle.std.proofs.Common.{rules, ◌∷◌, map}
use Rattle.std.specs.Prelude.{codes, string_bytes}
use Rattle.command_line.specs.WordForms.{HasLoadWords}
use Rattle.command_line.proofs.UnbuiltLaws.{in_no_form, load_only, load_unbuilt}
use Rattle.command_line.proofs.forms.read_load.Goals as goal

pub returns-then-are_load_words : goal.returns-then-are_load_words
returns-then-are_load_words c = load_unbuilt (map string_bytes c.args.words.now) (search rules)

pub returns-else-are_load_words : goal.returns-else-are_load_words
returns-else-are_load_words c =
    let rest = map string_bytes c.args.words.now in
    in_no_form (codes "load" ∷ rest) (HasLoadWords rest) c.are_load_words.result c.are_load_words.ensures (search rules) (load_only rest)
