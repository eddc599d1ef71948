use Rattle.std.proofs.Common.{rules}
use Rattle.std.specs.Prelude.{string_bytes}
use Rattle.command_line.proofs.FormLaws.{all_places, one_outside}
use Rattle.command_line.proofs.forms.are_names.Goals as goal

pub returns-then-not-is_place : goal.returns-then-not-is_place
returns-then-not-is_place c = (
  λ yes. absurd (cc),
  λ names. absurd (one_outside string_bytes c.args.words.now
      c.loop-word.word-index c.word-item.result (search rules) c.word-item.is (search rules) names),
)

pub returns : goal.returns
returns c = (
  λ yes. all_places string_bytes c.args.words.now c.loop-word.word-index (search rules) (search rules)
      (search rules) c.loop-word.invariant,
  λ names. search rules,
)
