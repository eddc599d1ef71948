-- A name of a type, and one of none.
use Rattle.std.proofs.Common.{sym, Some}
use Rattle.std.proofs.Math.Path.{subst}
use Rattle.asn1_names.specs.CodeMeanings.{module_meant}
use Rattle.asn1_names.specs.TermViews.{module_terms}
use Rattle.asn1_names.specs.NameMeaning.{meaning_within}
use Rattle.asn1_names.specs.NodeCount.{IsNoType}
use Rattle.asn1_resolve.specs.FaultSets.{In, IsFirstOf}
use Rattle.asn1_resolve.specs.TypeFaults.{NameFaults}
use Rattle.asn1_resolve.proofs.NameLaws.{member_known, member_unknown}
use Rattle.asn1_resolve.proofs.name_faults.judge_within.Goals as goal

pub returns-then-is_type : goal.returns-then-is_type
returns-then-is_type c = λ is there. member_known (module_terms c.args.tables.now) c.args.home.document
    c.args.home.module c.args.module_name.now c.args.name.now (module_meant c.args.within) is there
    (subst (λ t. ¬ IsNoType (meaning_within (module_terms c.args.tables.now) (module_meant c.args.within) t))
    c.as_slice.ensures (c.is_type.ensures.one c.if-is_type.true (module_terms c.args.tables.now)
    (meaning_within (module_terms c.args.tables.now) (module_meant c.args.within) c.as_slice.result.now)
    c.meaning_within.ensures))

pub returns : goal.returns
returns c = λ is there.
    subst (λ x. IsFirstOf (In c.args.home.document (NameFaults (module_terms c.args.tables.now) c.args.home.module
    (Some c.args.module_name.now) c.args.name.now)) (Some x)) (sym c.fault_at.ensures)
    (member_unknown (module_terms c.args.tables.now) c.args.home.document
    c.args.home.module c.args.module_name.now c.args.name.now (module_meant c.args.within) is there
    (subst (λ t. IsNoType (meaning_within (module_terms c.args.tables.now) (module_meant c.args.within) t))
    c.as_slice.ensures (c.is_type.ensures.no_type c.if-is_type.false (module_terms c.args.tables.now)
    (meaning_within (module_terms c.args.tables.now) (module_meant c.args.within) c.as_slice.result.now)
    c.meaning_within.ensures)))
