-- The assignments of one more module have been looked at, and in the end all.
use Rattle.std.proofs.Common.{◌≡◌, ◌+◌, Some, arith, drop, length, refl, sym}
use Rattle.std.specs.Prelude.{slice_get}
use Rattle.std.proofs.Math.Path.{subst}
use Rattle.std.proofs.lemmas.Option.{slice_get_read}
use Rattle.asn1_names.specs.AssignmentNumbers.{all_numbered}
use Rattle.asn1_names.specs.TermViews.{module_term}
use Rattle.filled_syntaxes.specs.JudgedAssignments.{AreJudged}
use Rattle.filled_syntaxes.proofs.AssignedLaws.{judged_none, judged_noted, judged_values}
use Rattle.filled_syntaxes.proofs.JudgedLaws.{drop_at, judged_past}
use Rattle.filled_syntaxes.proofs.ThingsLaws.{module_is}
use Rattle.filled_syntaxes.proofs.named_things.NamedThings.assigned_values.Goals as goal

pub loop-module-init : goal.loop-module-init
loop-module-init c = λ ms linked known.
    subst (λ ys. AreJudged ms linked (all_numbered 0 ms) ys c.args.bad.now.first c.args.bad.now.first)
    (sym c.new-values.ensures.items) (judged_none ms linked c.args.bad.now.first)

pub loop-module-preserved : goal.loop-module-preserved
loop-module-preserved c = λ ms linked known.
    let modules = c.args.self.now.modules.now in
    let i = c.loop-module.module-index in
    let item = c.module-item.result in
    let at : slice_get modules i ≡ Some item =
    slice_get_read modules (length modules) i item refl c.loop-module-test.true c.module-item.is in
    let home = module_is ms modules i item known.modules at in
    c.in_ok-add_values.ensures ms linked i (all_numbered (i + 1) (drop (i + 1) ms)) c.args.bad.now.first known home
    (subst (λ ys. AreJudged ms linked (all_numbered i ys) c.loop-module.values.items c.args.bad.now.first
    c.loop-module.bad.first) (drop_at ms i (module_term item) home) (c.loop-module.invariant ms linked known))

pub returns-clause-values : goal.returns-clause-values
returns-clause-values c = λ ms linked known.
    judged_values ms linked c.loop-module.values.items
    (judged_past ms linked c.args.self.now.modules.now c.loop-module.module-index c.loop-module.values.items
    known.modules (omega (arith, c.loop-module-test.false)) (c.loop-module.invariant ms linked known))

pub returns-clause-noted : goal.returns-clause-noted
returns-clause-noted c = λ ms linked known.
    judged_noted ms linked c.loop-module.values.items
    (judged_past ms linked c.args.self.now.modules.now c.loop-module.module-index c.loop-module.values.items
    known.modules (omega (arith, c.loop-module-test.false)) (c.loop-module.invariant ms linked known))
