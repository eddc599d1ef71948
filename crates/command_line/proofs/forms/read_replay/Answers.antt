use Rattle.std.proofs.Common.{rules, ◌∷◌, map}
use Rattle.std.specs.Prelude.{codes, string_bytes}
use Rattle.command_line.specs.WordForms.{HasPlaceAndNames}
use Rattle.command_line.proofs.UnbuiltLaws.{in_no_form, replay_only, replay_unbuilt}
use Rattle.command_line.proofs.forms.read_replay.Goals as goal

pub returns-then-are_place_and_names : goal.returns-then-are_place_and_names
returns-then-are_place_and_names c = replay_unbuilt (map string_bytes c.args.words.now) (search rules)

pub returns-else-are_place_and_names : goal.returns-else-are_place_and_names
returns-else-are_place_and_names c =
    let rest = map string_bytes c.args.words.now in
    in_no_form (codes "replay" ∷ rest) (HasPlaceAndNames rest) c.are_place_and_names.result c.are_place_and_names.ensures (search rules) (replay_only rest)
