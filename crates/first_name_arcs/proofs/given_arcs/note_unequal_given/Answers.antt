-- One more, and all of them.
use Rattle.std.proofs.Common.{List, Option, arith, length, refl, rules, subst, sym}
use Rattle.std.specs.BTreeMap.{get}
use Rattle.std.specs.Ordering.{nat_cmp}
use Rattle.std.proofs.lemmas.Option.{slice_get_read}
use Rattle.gdmo_names.proofs.NotingLaws.{more}
use Rattle.gdmo_types.proofs.PlaceFaultLaws.{before_all, before_none, before_step}
use Rattle.first_name_arcs.specs.GivenArcs.{Given, TellSeen, UnequalBefore}
use Rattle.first_name_arcs.proofs.GivenLaws.{none_seen}
use Rattle.first_name_arcs.proofs.given_arcs.note_unequal_given.Goals as goal

pub loop-own-init : goal.loop-own-init
loop-own-init c = (
  none_seen (get nat_cmp c.new-table.result) (λ n. search (rules, c.new-table.ensures.empty)),
  before_none (UnequalBefore c.args.given.now) c.args.given.now c.args.faults.now.first,
)

pub loop-own-preserved : goal.loop-own-preserved
loop-own-preserved c =
    let xs = c.args.given.now in
    let i = c.loop-own.own-index in
    let own = c.own-item.result in
    let told = c.in_ok-note_given.ensures _ c.loop-own.invariant.0 in (
      subst (λ (ys : List (Option Given)). TellSeen ys (get nat_cmp c.note_given.new.table))
          (sym (more xs i own c.loop-own-test.true c.own-item.is)) told.0,
      before_step (UnequalBefore xs) xs i own (slice_get_read xs (length xs) i own refl c.loop-own-test.true c.own-item.is)
          c.loop-own.invariant.1 told.1,
    )

pub returns : goal.returns
returns c = before_all (UnequalBefore c.args.given.now) c.args.given.now c.loop-own.own-index
    (omega (arith, c.loop-own-test.false)) c.loop-own.invariant.1
