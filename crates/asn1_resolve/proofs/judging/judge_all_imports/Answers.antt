-- One more module.
use Rattle.std.proofs.Common.{◌≡◌, ◌∙◌, List, Some, ap, arith, length, slice_get, sym}
use Rattle.std.proofs.Math.Path.{subst}
use Rattle.std.proofs.lemmas.List.{length-map}
use Rattle.asn1_syntax.specs.declared.module.Module.{Module}
use Rattle.asn1_names.specs.TermViews.{module_term, module_terms}
use Rattle.asn1_resolve.specs.AllFaults.{Below, ImportFaultsAt}
use Rattle.asn1_resolve.specs.FaultSets.{IsFirstOf}
use Rattle.asn1_resolve.proofs.AssignmentLaws.{at_place, below_more, below_none, module_read}
use Rattle.asn1_resolve.proofs.judging.judge_all_imports.Goals as goal

pub loop-place-init : goal.loop-place-init
loop-place-init c = below_none (ImportFaultsAt (module_terms c.args.tables.now))

pub loop-place-preserved : goal.loop-place-preserved
loop-place-preserved c =
    let ms = module_terms c.args.tables.now in
    let modules = c.modules-text-items.ensures in
    let read = module_read c.modules-text-items.result.now c.loop-place.place c.text-item.result
    c.loop-place-test.true c.text-item.is in
    below_more (ImportFaultsAt ms) c.loop-place.place c.earlier-first.ensures c.loop-place.invariant
    (at_place ms c.home_of.result.document c.loop-place.place (module_term c.text-item.result)
    (subst (λ (xs : List Module). slice_get (module_terms xs) c.loop-place.place ≡ Some (module_term
    c.text-item.result))
    modules read) (sym c.home_of.ensures.document) c.judge_imports-own.ensures)

pub returns : goal.returns
returns c =
    let modules = c.modules-text-items.ensures in
    let past = c.loop-place-test.false in
    let most = c.loop-place.auto.place-end in
    let many : c.loop-place.place ≡ length c.modules-text-items.result.now = omega (arith, past, most) in
    let all : c.loop-place.place ≡ length (module_terms c.args.tables.now) =
    many ∙ ap (λ (xs : List Module). length xs) modules ∙ sym (length-map c.args.tables.now module_term) in
    subst (λ n. IsFirstOf (Below (ImportFaultsAt (module_terms c.args.tables.now)) n) c.loop-place.first) all
    c.loop-place.invariant
