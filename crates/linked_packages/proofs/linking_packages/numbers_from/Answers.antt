-- One number more.
use Rattle.std.proofs.Common.{◌<◌, ◌^◌, arith, drop, length, rules}
use Rattle.std.proofs.lemmas.List.{length-drop}
use Rattle.linked_packages.proofs.AddedLaws.{exact, one_number}
use Rattle.linked_packages.proofs.linking_packages.numbers_from.Goals as goal

pub loop-k-preserved : goal.loop-k-preserved
loop-k-preserved c = λ fits.
    let numbers = c.args.numbers.now in
    let size = length-drop c.args.from numbers in
    let within : c.loop-k.k < length (drop c.args.from numbers) = omega (arith, c.loop-k-test.true, fits) in
    let small : length numbers < 2 ^ 64 = search rules in
    let here = exact c.args.from c.loop-k.k c.saturating_add.result c.saturating_add.ensures
    (omega (arith, within, size, small)) in
    one_number numbers c.args.from c.loop-k.k c.number_at.result c.saturating_add.result c.loop-k.copies.items
    c.push.new.self.items within (c.loop-k.invariant fits) here c.number_at.ensures c.in_ok-push.ensures.items
