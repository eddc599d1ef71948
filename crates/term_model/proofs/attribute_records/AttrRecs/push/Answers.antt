-- The place of the record that was added.
use Rattle.std.proofs.Common.{rules, ◌≡◌, length}
use Rattle.term_model.specs.declared.schema.AttrRec.{AttrRec}
use Rattle.term_model.proofs.PlaceLaws.{record_placed}
use Rattle.term_model.proofs.attribute_records.AttrRecs.push.Goals as goal

pub invariant_of-self-in-Ok : goal.invariant_of-self-in-Ok
invariant_of-self-in-Ok c =
    let behind : c.len-place.result ≡ length c.self.inside.items.items = search rules in
    record_placed (λ (of_attribute : AttrRec). of_attribute.id) c.self.inside.places c.add_place.new.places
    c.self.inside.items.items c.push.new.self.items c.args.added c.in_ok-id.id c.len-place.result
    c.in_ok-push.ensures.items c.in_ok-id.ensures behind c.self.invariant c.in-Ok.ensures.added
