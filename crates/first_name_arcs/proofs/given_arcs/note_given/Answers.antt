-- One more is given, or nothing.
use Rattle.std.proofs.Common.{◌++◌, ◌∷◌, [], Option, subst, sym}
use Rattle.std.specs.BTreeMap.{get}
use Rattle.std.specs.Ordering.{nat_cmp}
use Rattle.asn1_numbers.proofs.TargetLaws.{ok_by}
use Rattle.gdmo_names.specs.FaultSets.{Notes}
use Rattle.first_name_arcs.specs.GivenArcs.{Given, GivenFaults, TellSeen}
use Rattle.first_name_arcs.proofs.GivenLaws.{given_noted, nothing_noted, seen_more, seen_past}
use Rattle.first_name_arcs.proofs.given_arcs.note_given.Goals as goal

pub returns-in-Some : goal.returns-in-Some
returns-in-Some c = ok_by c.note_one.result (λ updated xs t.
    let before = get nat_cmp c.args.table.now in
    subst (λ (own : Option Given). TellSeen (xs ++ own ∷ []) (get nat_cmp c.note_one.new.table)
    × Notes (GivenFaults xs own) c.args.faults.now.first c.note_one.new.faults.first) (sym c.in-Some.is) (
      seen_more xs c.in-Some.own before (get nat_cmp c.note_one.new.table) t updated,
      given_noted xs c.in-Some.own (before c.in-Some.own.first) (t c.in-Some.own.first) c.note_one.ensures.noted,
    ))
    c.note_one.ensures.kept

pub returns-in-None : goal.returns-in-None
returns-in-None c = λ xs t.
    subst (λ (own : Option Given). TellSeen (xs ++ own ∷ []) (get nat_cmp c.args.table.now)
    × Notes (GivenFaults xs own) c.args.faults.now.first c.args.faults.now.first) (sym c.in-None.is)
    (seen_past xs (get nat_cmp c.args.table.now) t, nothing_noted xs c.args.faults.now.first)
