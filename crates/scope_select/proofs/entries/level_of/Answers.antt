-- The levels of a name that the base begins are its parts behind the base's.
use Rattle.std.proofs.Common.{◌≡◌, ◌-◌, Some, ap, length, rules, ◌∙◌}
use Rattle.scope_select.proofs.SubtreeLaws.{level_counted}
use Rattle.scope_select.proofs.entries.level_of.Goals as goal

pub returns : goal.returns
returns c = λ begun.
    let counted : length c.args.name.now - length c.args.base.now ≡ c.saturating_sub.result = search rules in
    level_counted c.args.base.now c.args.name.now begun ∙ ap Some counted
