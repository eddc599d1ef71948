-- A name behind its module, or alone.
use Rattle.asn1_names.specs.TermViews.{module_terms}
use Rattle.asn1_resolve.proofs.NameLaws.{with_member, without_member}
use Rattle.asn1_resolve.proofs.name_faults.judge_name.Goals as goal

pub returns-in-Some : goal.returns-in-Some
returns-in-Some c = with_member (module_terms c.args.tables.now) c.args.home.document c.args.home.module
    c.args.name.now c.judge_member.result c.in-Some.member c.in-Some.is c.judge_member.ensures

pub returns-in-None : goal.returns-in-None
returns-in-None c = without_member (module_terms c.args.tables.now) c.args.home.document c.args.home.module
    c.args.name.now c.judge_alone.result c.in-None.is c.judge_alone.ensures
