-- A type more.
use Rattle.asn1_names.specs.TermViews.{module_terms}
use Rattle.asn1_numbers.proofs.EachLaws.{each_push}
use Rattle.type_numbers.specs.TextLeads.{IsTextLink}
use Rattle.type_numbers.proofs.type_texts.links_of.Goals as goal

pub loop-number-preserved : goal.loop-number-preserved
loop-number-preserved c =
    each_push (IsTextLink (module_terms c.args.tables.now)) c.loop-number.number c.loop-number.links.items
    c.push.new.self.items c.link_of.result c.loop-number.invariant c.link_of.ensures c.in_ok-push.ensures.items
