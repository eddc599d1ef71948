-- A superclass, a package or an attribute.
use Rattle.std.proofs.Common.{refl}
use Rattle.class_graphs.specs.ClassGraphs.LackSome.{in_class, superclass}
use Rattle.class_graphs.proofs.EmptyLaws.{lack_last}
use Rattle.class_graphs.proofs.class_members.ClassGraph.lack.Goals as goal

pub returns-then-branch : goal.returns-then-branch
returns-then-branch c =
    (λ e. (let t = c.in_ok-lead_anywhere.ensures.0 c.if-branch.true in superclass t.1), λ h. refl)

pub returns-then-branch-2 : goal.returns-then-branch-2
returns-then-branch-2 c =
    (λ e. (let t = c.in_ok-lead_anywhere-2.ensures.0 c.if-branch-2.true in in_class t.1), λ h. refl)

pub returns : goal.returns
returns c = lack_last c.args.self.now c.args.classes.now c.args.packages.now c.in_ok-lead_anywhere.field-0
    c.in_ok-lead_anywhere-2.field-0 c.in_ok-lack.lack c.if-branch.false c.if-branch-2.false
    c.in_ok-lead_anywhere.ensures c.in_ok-lead_anywhere-2.ensures c.in_ok-lack.ensures
