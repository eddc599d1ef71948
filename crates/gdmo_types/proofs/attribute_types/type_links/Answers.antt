-- A template more.
use Rattle.asn1_numbers.proofs.EachLaws.{each_push}
use Rattle.gdmo_types.specs.TypeChains.{IsTypeLink}
use Rattle.gdmo_types.proofs.attribute_types.type_links.Goals as goal

pub loop-number-preserved : goal.loop-number-preserved
loop-number-preserved c = λ parts are tell.
    each_push (IsTypeLink parts c.args.templates.now) c.loop-number.number c.loop-number.links.items
    c.push.new.self.items c.type_link.result (c.loop-number.invariant parts are tell)
    (c.type_link.ensures parts are tell) c.in_ok-push.ensures.items
