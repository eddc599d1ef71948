-- One assignment more.
use Rattle.std.proofs.Common.{◌∙◌, ℕ, List, Vec, Global, ap, arith, map}
use Rattle.std.proofs.lemmas.List.{map_push}
use Rattle.asn1_names.specs.TermViews.{module_terms}
use Rattle.asn1_numbers.specs.NamedTargets.{AreTargets}
use Rattle.asn1_numbers.proofs.EachLaws.{each_none, each_push}
use Rattle.asn1_numbers.proofs.LeadingLaws.{graph_is}
use Rattle.asn1_numbers.proofs.containment.graph_of.Goals as goal

abbrev items : Vec ℕ Global → List ℕ
items v = v.items

pub loop-number-init : goal.loop-number-init
loop-number-init c = each_none (AreTargets (module_terms c.args.tables.now)) (map items c.new-targets.result.items)
    (ap (map items) c.new-targets.ensures.items)

pub loop-number-preserved : goal.loop-number-preserved
loop-number-preserved c = each_push (AreTargets (module_terms c.args.tables.now)) c.loop-number.number
    (map items c.loop-number.targets.items) (map items c.push.new.self.items) c.in_ok-targets_at.field-0.items
    c.loop-number.invariant c.in_ok-targets_at.ensures
    (ap (map items) c.in_ok-push.ensures.items ∙ map_push items c.loop-number.targets.items c.in_ok-targets_at.field-0)

pub returns : goal.returns
returns c =
    graph_is (module_terms c.args.tables.now) (map items c.loop-number.targets.items) c.loop-number.number
    (let t = c.loop-number-test.false in let u = c.loop-number.auto.number-end in
    let n = c.count-number-end.ensures in omega (arith, t, u, n)) c.loop-number.invariant
