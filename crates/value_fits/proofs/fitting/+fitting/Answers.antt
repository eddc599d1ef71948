use Rattle.std.proofs.Common.{rules, ◌≡◌, ◌≢◌, ◌&&◌, length, true, false, IfOk, sym, ap, ◌∙◌, subst, arith}
use Rattle.term_values.specs.Bounded.{allowed_size}
use Rattle.term_values.specs.PartsView.{parts_listed}
use Rattle.term_values.specs.SlotsView.{slots_listed}
use Rattle.term_values.specs.Typed.{listed}
use Rattle.term_values.specs.Typed.TypedValue.{Many}
use Rattle.value_fits.proofs.LoopLaws.{unequal_fit, pick_at, pick_past, list_listed}
use Rattle.term_values.specs.FitTest.{value_fits, pick_fits, all_fit, list_fits}
use Rattle.value_fits.proofs.fitting.+fitting.Goals as goal

pub list_fits-returns-then-allow_size : goal.list_fits-returns-then-allow_size
list_fits-returns-then-allow_size t c =
    let xs = c.as_slice.result.now in
    let fits = value_fits c.args.member.now in
    let whole : c.args.value.now ≡ Many (listed xs) = search rules in
    let values : c.in-Many.values ≡ listed xs = search rules in
    let sized : allowed_size c.args.sizes.now (length xs) ≡ true = search rules in
    let same : list_fits c.args.sizes.now fits c.args.value.now ≡ all_fit fits c.in-Many.values =
    ap (list_fits c.args.sizes.now fits) whole ∙ list_listed c.args.sizes.now fits xs
    ∙ ap (λ b. b && all_fit fits (listed xs)) sized ∙ ap (all_fit fits) (sym values) in
    subst (λ b. IfOk c.all_fit.result (λ found. found ≡ b)) (sym same) c.all_fit.ensures

pub list_fits-returns-else-allow_size : goal.list_fits-returns-else-allow_size
list_fits-returns-else-allow_size t c =
    let xs = c.as_slice.result.now in
    let fits = value_fits c.args.member.now in
    let whole : c.args.value.now ≡ Many (listed xs) = search rules in
    let sized : allowed_size c.args.sizes.now (length xs) ≡ false = search rules in
    sym (ap (list_fits c.args.sizes.now fits) whole ∙ list_listed c.args.sizes.now fits xs
    ∙ ap (λ b. b && all_fit fits (listed xs)) sized)

pub parts_fit-returns-then-items-held : goal.parts_fit-returns-then-items-held
parts_fit-returns-then-items-held t c =
    let parts : c.args.parts.now ≡ parts_listed c.as_slice-items.result.now = search rules in
    let slots : c.args.slots.now ≡ slots_listed c.as_slice-held.result.now = search rules in
    let unequal : length c.as_slice-items.result.now ≢ length c.as_slice-held.result.now = search rules in
    rw (parts, slots) (sym (unequal_fit c.as_slice-items.result.now c.as_slice-held.result.now unequal))

pub pick_fits-returns-then-place-items : goal.pick_fits-returns-then-place-items
pick_fits-returns-then-place-items t c =
    let items = c.as_slice-items.result.now in
    let parts : c.args.parts.now ≡ parts_listed items = search rules in
    let same : pick_fits c.args.parts.now c.args.index c.args.value.now
    ≡ value_fits c.index-items-place.result.syntax c.args.value.now =
    ap (λ p. pick_fits p c.args.index c.args.value.now) parts
    ∙ pick_at items c.args.index c.index-items-place.result c.args.value.now (omega arith) (search rules) in
    subst (λ b. IfOk c.value_fits.result (λ found. found ≡ b)) (sym same) c.value_fits.ensures

pub pick_fits-returns : goal.pick_fits-returns
pick_fits-returns t c =
    let items = c.as_slice-items.result.now in
    let parts : c.args.parts.now ≡ parts_listed items = search rules in
    rw parts (sym (pick_past items c.args.index c.args.value.now (omega arith)))
