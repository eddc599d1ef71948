-- One more, and all of them.
use Rattle.std.proofs.Common.{List, Option, arith, subst}
use Rattle.std.specs.BTreeMap.{get}
use Rattle.std.specs.Ordering.{nat_cmp}
use Rattle.gdmo_names.specs.FaultSets.{AnyOf, Notes}
use Rattle.gdmo_names.proofs.InStepLaws.{map_same}
use Rattle.gdmo_names.proofs.NotingLaws.{noted_end, noted_step}
use Rattle.gdmo_identifiers.specs.declared.registrations.Registration.{Registration}
use Rattle.gdmo_identifiers.specs.Registrations.{BehindBy}
use Rattle.gdmo_identifiers.proofs.RegistrationLaws.{later_noted}
use Rattle.gdmo_identifiers.proofs.registrations.note_doubles.Goals as goal

pub loop-own-preserved : goal.loop-own-preserved
loop-own-preserved c =
    noted_step (BehindBy (get nat_cmp c.in_ok-table.table)) (λ x. x) c.args.registered.now c.loop-own.own-index
    c.own-item.result c.loop-own-test.true c.own-item.is c.loop-own.invariant c.note_later.ensures

pub returns : goal.returns
returns c =
    let told = get nat_cmp c.in_ok-table.table in
    later_noted c.args.registered.now told c.in_ok-table.ensures
    (subst (λ (xs : List (Option Registration)). Notes (AnyOf (BehindBy told) xs) c.args.faults.now.first
    c.loop-own.faults.first) (map_same c.args.registered.now)
    (noted_end (BehindBy told) (λ x. x) c.args.registered.now c.loop-own.own-index
    (omega (arith, c.loop-own-test.false)) c.loop-own.invariant))
