-- The type stands at the end of the table, and its place is kept.
use Rattle.std.proofs.Common.{◌≡◌, ◌∙◌, ◌++◌, ◌∷◌, [], ap, length}
use Rattle.linked_types.specs.TypeTables.{IsTypeAt}
use Rattle.linked_types.proofs.TableLaws.{grows_pushed, stands_pushed, table_added}
use Rattle.linked_types.proofs.type_table.TypeTable.add.Goals as goal

pub returns-clause-told : goal.returns-clause-told
returns-clause-told c = λ ms linked known means.
    let pushed : c.keep.new.self.items.items ≡ c.args.self.now.items.items ++ c.in_ok-item.item ∷ [] =
    c.keep.ensures.items ∙ c.in_ok-push.ensures.items in
    let place = length c.as_slice-place.result.now in
    let at : place ≡ length c.args.self.now.items.items = ap length c.as_slice-place.ensures.value in record {
      item = c.in_ok-item.item;
      stands = stands_pushed c.args.self.now c.keep.new.self c.in_ok-item.item place pushed at;
      told = c.in_ok-item.ensures.told ms linked known means;
    }

pub returns-clause-names : goal.returns-clause-names
returns-clause-names c = λ ms linked known means table.
    let item = c.in_ok-item.item in
    let pushed : c.keep.new.self.items.items ≡ c.args.self.now.items.items ++ item ∷ [] =
    c.keep.ensures.items ∙ c.in_ok-push.ensures.items in
    let place = length c.as_slice-place.result.now in
    let at : place ≡ length c.args.self.now.items.items = ap length c.as_slice-place.ensures.value in
    let here : IsTypeAt ms linked c.args.named.now c.keep.new.self place = record {
      item = item;
      stands = stands_pushed c.args.self.now c.keep.new.self item place pushed at;
      told = c.in_ok-item.ensures.told ms linked known means;
    } in
    let grows = grows_pushed c.args.self.now c.keep.new.self item pushed in record {
      table = table_added table grows c.args.named.now c.args.meaning place here means
          c.in_ok-keep.ensures.kept;
      grows = grows;
      noted = c.in_ok-item.ensures.noted ms linked known means;
    }
