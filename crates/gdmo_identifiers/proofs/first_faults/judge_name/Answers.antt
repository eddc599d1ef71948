-- The name is known, or it isn't.
use Rattle.std.proofs.Common.{◌∙◌, sym, subst}
use Rattle.std.proofs.lemmas.Bool.{false≢true}
use Rattle.gdmo_identifiers.specs.IdentifierFaults.{IsKnownName}
use Rattle.gdmo_identifiers.proofs.FirstNameLaws.{known_noted, unknown_noted}
use Rattle.gdmo_identifiers.proofs.first_faults.judge_name.Goals as goal

pub returns-then-is_known-clause-faults : goal.returns-then-is_known-clause-faults
returns-then-is_known-clause-faults c = λ parts are.
    known_noted parts c.args.document c.args.name.now c.args.faults.now.first
    (subst (IsKnownName parts) c.as_slice.ensures ((c.is_known.ensures parts are).0 c.if-is_known.true))

pub returns-clause-faults : goal.returns-clause-faults
returns-clause-faults c = λ parts are.
    unknown_noted parts c.args.document c.args.name.now (λ h. false≢true (sym c.if-is_known.false ∙
    (c.is_known.ensures parts are).1 (subst (IsKnownName parts) (sym c.as_slice.ensures) h)))
    (c.note_name.ensures parts are)
