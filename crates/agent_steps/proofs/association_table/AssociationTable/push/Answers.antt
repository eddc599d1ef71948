use Rattle.std.proofs.Common.{◌≡◌, false, true, rules}
use Rattle.agent_steps.specs.Admitting.{is_admitted}
use Rattle.agent_steps.proofs.AdmittingLaws.{counted_admitted, counted_turned}
use Rattle.agent_steps.proofs.association_table.AssociationTable.push.Goals as goal

pub invariant_of-self-then-admitted : goal.invariant_of-self-then-admitted
invariant_of-self-then-admitted c =
    let admits : is_admitted c.args.association ≡ true = search rules in
    rw (
      c.in_ok-number.ensures.added,
      c.write_down.ensures,
      c.in_ok-number.ensures.number,
      c.in_ok-reserve.ensures.items,
      c.places_of_live-live.ensures,
    )
    (counted_admitted c.self.inside.associations c.self.inside.unclosed c.self.inside.live c.self.inside.admitted.items
    c.args.association c.requires admits c.self.invariant)

pub invariant_of-self-else-admitted : goal.invariant_of-self-else-admitted
invariant_of-self-else-admitted c =
    let turned : is_admitted c.args.association ≡ false = search rules in
    rw (c.in_ok-number.ensures.added, c.in_ok-reserve.ensures.items, c.places_of_live-live.ensures)
    (counted_turned c.self.inside.associations c.self.inside.unclosed c.self.inside.live c.self.inside.admitted.items
    c.args.association c.requires turned c.self.invariant)
