-- One more place, and all of them.
use Rattle.std.proofs.Common.{List, Option, arith, subst, sym}
use Rattle.std.proofs.lemmas.List.{take_all}
use Rattle.std.specs.BTreeMap.{get}
use Rattle.std.specs.Ordering.{nat_cmp}
use Rattle.gdmo_names.proofs.NotingLaws.{more}
use Rattle.gdmo_identifiers.specs.declared.registrations.Registration.{Registration}
use Rattle.gdmo_identifiers.specs.Registrations.{TellsFirst}
use Rattle.gdmo_identifiers.proofs.registrations.first_places.Goals as goal

pub loop-own-preserved : goal.loop-own-preserved
loop-own-preserved c =
    subst (λ (xs : List (Option Registration)). TellsFirst xs (get nat_cmp c.keep_maybe.new.table))
    (sym (more c.args.registered.now c.loop-own.own-index c.own-item.result c.loop-own-test.true c.own-item.is))
    (c.in_ok-keep_maybe.ensures _ c.loop-own.invariant)

pub returns : goal.returns
returns c =
    subst (λ (xs : List (Option Registration)). TellsFirst xs (get nat_cmp c.loop-own.table))
    (take_all c.loop-own.own-index c.args.registered.now (omega (arith, c.loop-own-test.false))) c.loop-own.invariant
