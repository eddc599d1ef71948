-- One assignment more.
use Rattle.std.proofs.Common.{arith}
use Rattle.asn1_names.specs.TermViews.{module_terms}
use Rattle.asn1_numbers.specs.NumberedBases.{IsMapOf}
use Rattle.asn1_numbers.proofs.BaseLinkLaws.{maps_told}
use Rattle.asn1_numbers.proofs.EachLaws.{each_none, each_push}
use Rattle.asn1_numbers.proofs.bases.maps_of.Goals as goal

pub loop-number-init : goal.loop-number-init
loop-number-init c =
    each_none (IsMapOf (module_terms c.args.tables.now)) c.new-maps.result.items c.new-maps.ensures.items

pub loop-number-preserved : goal.loop-number-preserved
loop-number-preserved c = each_push (IsMapOf (module_terms c.args.tables.now)) c.loop-number.number
    c.loop-number.maps.items c.push.new.self.items c.in_ok-map_of.field-0 c.loop-number.invariant
    c.in_ok-map_of.ensures c.in_ok-push.ensures.items

pub returns : goal.returns
returns c =
    maps_told (module_terms c.args.tables.now) c.loop-number.number c.loop-number.maps.items
    (let t = c.loop-number-test.false in let u = c.loop-number.auto.number-end in
    let n = c.count-number-end.ensures in omega (arith, t, u, n)) c.loop-number.invariant
