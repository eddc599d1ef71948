-- What is left of the rising order once each stands there once.
use Rattle.std.proofs.Common.{◌≡◌, ap, ◌∙◌}
use Rattle.std.specs.List.{dedup}
use Rattle.std.proofs.lemmas.List.Filters.{dedup_is}
use Rattle.term_values.specs.Rearranged.{rising}
use Rattle.term_values.proofs.RisingLaws.{rising_is_sorted}
use Rattle.term_model.specs.Comparing.{is_same_oid}
use Rattle.set_report.proofs.orders.ids_in_order.Goals as goal

pub returns : goal.returns
returns c =
    let order : c.sort.new.self.items ≡ rising c.args.ids.items =
    rising_is_sorted _ _ c.in_ok-sort.ensures.permutation c.in_ok-sort.ensures.sorted in
    dedup_is is_same_oid c.sort.new.self.items c.dedup.new.self.items c.dedup.ensures.filtered
    ∙ ap (dedup is_same_oid) order
