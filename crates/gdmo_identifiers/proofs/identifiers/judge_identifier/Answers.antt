-- The first arc is known, or it isn't.
use Rattle.std.proofs.Common.{◌∙◌, sym}
use Rattle.std.proofs.lemmas.Bool.{false≢true}
use Rattle.asn1_numbers.proofs.LeadingLaws.{if_ok_by}
use Rattle.gdmo_names.specs.FaultSets.{OneFault}
use Rattle.gdmo_names.specs.FirstLabelFault.LabelFault.{KindWrong}
use Rattle.gdmo_names.specs.MemberViews.{identifier_term}
use Rattle.gdmo_names.proofs.NotingLaws.{both_noted, left_noted}
use Rattle.gdmo_identifiers.specs.IdentifierFaults.{FirstFaults, HasNoArcs, IsKnownTerm}
use Rattle.gdmo_identifiers.proofs.FirstNameLaws.{known_first}
use Rattle.gdmo_identifiers.proofs.identifiers.judge_identifier.Goals as goal

pub returns-then-judge_first_arc : goal.returns-then-judge_first_arc
returns-then-judge_first_arc c =
    let x = identifier_term c.args.identifier.now in
    if_ok_by c.judge_known.result (λ told tells parts are arcs.
    let r = tells parts ((c.judge_first_arc.ensures.known parts are).0 c.if-judge_first_arc.true) arcs in (
      r.0,
      both_noted (FirstFaults parts c.args.document x.first)
          (OneFault (HasNoArcs parts x) KindWrong c.args.document x.brace.at)
          (c.judge_first_arc.ensures.faults parts are) r.1,
    )) c.judge_known.ensures

pub returns-else-judge_first_arc : goal.returns-else-judge_first_arc
returns-else-judge_first_arc c = λ parts are arcs.
    let x = identifier_term c.args.identifier.now in
    let unknown : ¬ IsKnownTerm parts x.first = (λ h. false≢true (sym c.if-judge_first_arc.false ∙
    (c.judge_first_arc.ensures.known parts are).1 h)) in (
      (λ own is. unknown (known_first is.has)),
      left_noted (FirstFaults parts c.args.document x.first)
          (OneFault (HasNoArcs parts x) KindWrong c.args.document x.brace.at)
          (λ k d t fault. unknown fault.0.known) (c.judge_first_arc.ensures.faults parts are),
    )
