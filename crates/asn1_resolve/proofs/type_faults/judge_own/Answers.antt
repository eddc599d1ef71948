-- The faults of tags, of constraints and of the head together.
use Rattle.std.proofs.Common.{List}
use Rattle.std.proofs.Math.Path.{subst}
use Rattle.std.specs.Prelude.{IsTrue}
use Rattle.asn1_syntax.specs.declared.module.Module.{Module}
use Rattle.asn1_names.specs.TermViews.{module_terms, type_term}
use Rattle.asn1_resolve.specs.FaultSets.{Either, In, IsFirstOf}
use Rattle.asn1_resolve.specs.TypeFaults.{ConstraintFaults, HeadFaults, TagsFaults}
use Rattle.asn1_resolve.proofs.FirstFaults.{either_both}
use Rattle.asn1_resolve.proofs.type_faults.judge_own.Goals as goal

pub returns : goal.returns
returns c = λ few.
    let ms = module_terms c.args.facts.now in
    let m = c.args.home.module in
    let of = type_term c.args.of.now in
    let constraints = subst (λ (modules : List Module). IsFirstOf (In c.args.home.document (ConstraintFaults
    (module_terms modules) m of)) c.in_ok-constraints.constraints) c.numbers.ensures c.in_ok-constraints.ensures in
    let head = subst (λ (modules : List Module). IsFirstOf (In c.args.home.document (HeadFaults
    (module_terms modules) m of)) c.judge_head-head.result) c.numbers-2.ensures c.judge_head-head.ensures in
    either_both (Either (TagsFaults (IsTrue c.args.told) ms m of) (ConstraintFaults ms m of)) (HeadFaults ms m of)
    c.earlier-2.ensures
    (either_both (TagsFaults (IsTrue c.args.told) ms m of) (ConstraintFaults ms m of) c.earlier.ensures
    (c.in_ok-tags.ensures few) constraints) head
