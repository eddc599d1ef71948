-- One more of them, and all.
use Rattle.std.proofs.Common.{[], arith, refl, subst, sym}
use Rattle.gdmo_names.specs.PartViews.{pair_term}
use Rattle.gdmo_names.specs.Roles.{role_term}
use Rattle.gdmo_names.specs.SectionFaults.{FaultsOfPair}
use Rattle.gdmo_targets.specs.SectionTables.{TellsPair}
use Rattle.gdmo_names.proofs.InStepLaws.{AddsNoted, noted_none, noted_one_more, noted_whole}
use Rattle.gdmo_targets.proofs.section_references.Labelled.pair_targets.Goals as goal

pub loop-pair-init : goal.loop-pair-init
loop-pair-init c = λ parts is. subst (λ made. AddsNoted (TellsPair parts c.args.self.now.templates.now c.args.document (role_term c.args.role)) (FaultsOfPair parts c.args.document (role_term c.args.role))
    [] [] made c.args.faults.now.first c.args.faults.now.first) (sym c.new-targets.ensures.items)
    (noted_none (TellsPair parts c.args.self.now.templates.now c.args.document (role_term c.args.role)) (FaultsOfPair parts c.args.document (role_term c.args.role))
    [] c.args.faults.now.first)

pub loop-pair-preserved : goal.loop-pair-preserved
loop-pair-preserved c = λ parts is.
    noted_one_more (TellsPair parts c.args.self.now.templates.now c.args.document (role_term c.args.role)) (FaultsOfPair parts c.args.document (role_term c.args.role))
    pair_term c.args.pairs.now c.loop-pair.pair-index c.pair-item.result []
    c.loop-pair.targets.items c.push.new.self.items c.named.result c.loop-pair-test.true c.pair-item.is
    c.in_ok-push.ensures.items (c.loop-pair.invariant parts is) (c.named.ensures parts is)

pub returns : goal.returns
returns c = λ parts is. noted_whole (TellsPair parts c.args.self.now.templates.now c.args.document (role_term c.args.role)) (FaultsOfPair parts c.args.document (role_term c.args.role))
    pair_term c.args.pairs.now c.loop-pair.pair-index [] c.loop-pair.targets.items refl
    (omega (arith, c.loop-pair-test.false)) (c.loop-pair.invariant parts is)
