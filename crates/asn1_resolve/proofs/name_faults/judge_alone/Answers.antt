-- A type's name, another type's word, and a name of nothing.
use Rattle.std.proofs.Common.{sym, Some}
use Rattle.std.proofs.Math.Path.{subst}
use Rattle.asn1_names.specs.TermViews.{module_terms}
use Rattle.asn1_names.specs.NameMeaning.{name_meaning}
use Rattle.asn1_names.specs.NodeCount.{IsNoType}
use Rattle.asn1_resolve.specs.FaultSets.{In, IsFirstOf}
use Rattle.asn1_resolve.specs.TypeFaults.{NameFaults}
use Rattle.std.specs.Prelude.{None}
use Rattle.asn1_resolve.proofs.NameLaws.{alone_known, alone_other, alone_unknown}
use Rattle.asn1_resolve.proofs.name_faults.judge_alone.Goals as goal

pub returns-then-is_type : goal.returns-then-is_type
returns-then-is_type c = alone_known (module_terms c.args.tables.now) c.args.home.document c.args.home.module
    c.args.name.now (subst (λ t. ¬ IsNoType (name_meaning (module_terms c.args.tables.now) c.args.home.module t))
    c.as_slice.ensures (c.is_type.ensures.one c.if-is_type.true (module_terms c.args.tables.now)
    (name_meaning (module_terms c.args.tables.now) c.args.home.module c.as_slice.result.now) c.name_meaning.ensures))

pub returns-then-is_other_type : goal.returns-then-is_other_type
returns-then-is_other_type c =
    subst (λ x. IsFirstOf (In c.args.home.document (NameFaults (module_terms c.args.tables.now) c.args.home.module None
    c.args.name.now)) (Some x)) (sym c.fault_at.ensures)
    (alone_other (module_terms c.args.tables.now) c.args.home.document c.args.home.module c.args.name.now
    (c.is_other_type.ensures.one c.if-is_other_type.true))

pub returns : goal.returns
returns c =
    subst (λ x. IsFirstOf (In c.args.home.document (NameFaults (module_terms c.args.tables.now) c.args.home.module None
    c.args.name.now)) (Some x)) (sym c.fault_at-2.ensures)
    (alone_unknown (module_terms c.args.tables.now) c.args.home.document c.args.home.module c.args.name.now
    (subst (λ t. IsNoType (name_meaning (module_terms c.args.tables.now) c.args.home.module t)) c.as_slice.ensures
    (c.is_type.ensures.no_type c.if-is_type.false (module_terms c.args.tables.now)
    (name_meaning (module_terms c.args.tables.now) c.args.home.module c.as_slice.result.now) c.name_meaning.ensures))
    (c.is_other_type.ensures.no_other c.if-is_other_type.false))
