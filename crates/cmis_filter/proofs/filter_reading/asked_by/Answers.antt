use Rattle.std.proofs.Common.{rules, ◌≡◌, true, false, Some}
use Rattle.term_values.specs.Der.{written}
use Rattle.term_values.specs.FilterTrees.{is_filter}
use Rattle.term_model.specs.FilterReading.{filter_in, valid_of}
use Rattle.cmis_filter.specs.TreeLimits.{is_large}
use Rattle.cmis_filter.proofs.AskedLaws.{large_asked, none_asked, small_asked}
use Rattle.cmis_filter.proofs.filter_reading.asked_by.Goals as goal

pub returns-then-branch : goal.returns-then-branch
returns-then-branch c =
    let large : is_large c.args.tree.now ≡ true = search rules in
    let form : is_filter c.args.tree.now ≡ true = search rules in
    large_asked c.args.set.now.attributes c.args.tree.now large form

pub returns-else-branch : goal.returns-else-branch
returns-else-branch c =
    let form : is_filter c.args.tree.now ≡ false = search rules in
    none_asked c.args.set.now.attributes c.args.tree.now form

pub returns-in_ok-asked-in-Some : goal.returns-in_ok-asked-in-Some
returns-in_ok-asked-in-Some c =
    let records = c.args.set.now.attributes in
    let tree = c.args.tree.now in
    let asked = c.in_ok-asked-in-Some.field-0 in
    let filter = c.in-Some.filter in
    let small : is_large tree ≡ false = search rules in
    let found : filter_in records tree ≡ Some filter = search rules in
    let is : asked ≡ valid_of records (written tree) filter = search rules in
    small_asked records tree filter asked small found is
