-- What has a number.
use Rattle.std.proofs.Common.{◌≡◌, ◌-◌, ◌∙◌, Some, arith, refl, sym}
use Rattle.std.proofs.Math.Path.{subst}
use Rattle.std.proofs.lemmas.Bool.{ltb-false, ltb-true}
use Rattle.std.proofs.lemmas.Option.{slice_get_past, slice_get_read}
use Rattle.std.specs.List.{slice_get}
use Rattle.key_numbers.proofs.ListLaws.{number_formed, past_number}
use Rattle.key_numbers.proofs.number_lists.NumberLists.formed.Goals as goal

pub returns-in-Some : goal.returns-in-Some
returns-in-Some c =
    let at = c.in-Some.ensures.lookup in
    let x = c.in-Some.formed.now in
    number_formed c.self.inside.row.items c.args.self.now c.self.inside.places c.args.number (c.args.number - 1) x
    c.self.invariant c.self.view_is (let not_zero = c.if-number-eq0.false in omega (arith, not_zero))
    (subst (λ r. slice_get r (c.args.number - 1) ≡ Some x) c.deref.ensures.value
    (slice_get_read c.deref.result.now _ _ x refl (ltb-true _ _ (sym at.0)) at.1))

pub returns-in-None : goal.returns-in-None
returns-in-None c = past_number c.deref.result.now c.args.self.now c.args.number (c.args.number - 1)
    (c.deref.ensures.value ∙ c.self.view_is) (let not_zero = c.if-number-eq0.false in omega (arith, not_zero))
    (slice_get_past c.deref.result.now _ (ltb-false _ _ (sym c.in-None.ensures.lookup.0)))
