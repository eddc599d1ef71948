-- One more module is counted.
use Rattle.std.proofs.Common.{◌≡◌, ◌+◌, arith, ap, length, sym, Some, refl, subst}
use Rattle.std.specs.Prelude.{slice_get}
use Rattle.std.proofs.lemmas.List.{length-map}
use Rattle.std.proofs.lemmas.Option.{slice_get_read}
use Rattle.asn1_names.specs.TermViews.{assignment_term, module_term, module_terms}
use Rattle.asn1_numbers.proofs.HeldLaws.{get_map}
use Rattle.filled_syntaxes.proofs.CountLaws.{IsCounted, counted_end, counted_none, counted_step}
use Rattle.filled_syntaxes.proofs.named_things.first_numbers.Goals as goal

pub loop-module-init : goal.loop-module-init
loop-module-init c =
    let ms = module_terms c.args.modules.now in
    subst (λ xs. IsCounted ms 0 xs 0) (sym c.new-numbers.ensures.items) (counted_none ms)

pub loop-module-preserved : goal.loop-module-preserved
loop-module-preserved c =
    let modules = c.args.modules.now in
    let ms = module_terms modules in
    let i = c.loop-module.module-index in
    let item = c.module-item.result in
    let at : slice_get modules i ≡ Some item =
    slice_get_read modules (length modules) i item refl c.loop-module-test.true c.module-item.is in
    let size = length-map item.assignments.items assignment_term in
    let told = ap length c.as_slice.ensures.value in
    let counts : c.in-Some.further ≡ c.loop-module.next + length (module_term item).assignments =
    omega (arith, size, told, c.in-Some.ensures.1) in
    subst (λ xs. IsCounted ms (i + 1) xs c.in-Some.further) (sym c.in_ok-push.ensures.items)
    (counted_step ms i c.loop-module.numbers.items c.loop-module.next c.in-Some.further (module_term item)
    c.loop-module.invariant (get_map module_term modules i item at) counts
    (omega (arith, c.in-Some.ensures.0, c.in-Some.ensures.1)))

pub returns : goal.returns
returns c =
    let modules = c.args.modules.now in
    let size = length-map modules module_term in
    counted_end (module_terms modules) c.loop-module.module-index c.loop-module.numbers.items c.loop-module.next
    (omega (arith, size, c.loop-module-test.false)) c.loop-module.invariant
