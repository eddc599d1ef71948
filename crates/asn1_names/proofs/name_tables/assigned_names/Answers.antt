-- One more assignment: its number, and its name where it is the first that has it.
use Rattle.std.proofs.Common.{◌≡◌, ◌∙◌, ◌<◌, ◌+◌, ℕ, List, Some, None, ap, arith, length, length-append, map, sym}
use Rattle.std.proofs.lemmas.List.{map-append}
use Rattle.asn1_names.specs.FirstNames.{found}
use Rattle.asn1_names.specs.ModuleTables.{numbered_view}
use Rattle.asn1_names.specs.NameMeaning.{is_called}
use Rattle.asn1_names.specs.TermViews.{assignment_term}
use Rattle.asn1_names.proofs.NumberLaws.{add-zero, append_nil, empty_found, first_nothing, numbered_step, table_step}
use Rattle.asn1_names.proofs.name_tables.assigned_names.Goals as goal

pub loop-place-init : goal.loop-place-init
loop-place-init c = (
  λ name. empty_found c.new-assigned.result name c.new-assigned.ensures.empty ∙
      sym (first_nothing (λ x. is_called name x.name) (length c.args.assignments.now.items)),
  sym (append_nil (map numbered_view c.args.assignments.now.items)),
  sym (add-zero (length c.args.assignments.now.items)),
)

pub loop-place-preserved : goal.loop-place-preserved
loop-place-preserved c =
    let within : c.loop-place.place < length c.args.own.now = omega (arith, c.loop-place-test.true) in
    let longer : length c.push.new.self.items ≡ length c.loop-place.assignments.items + 1 =
    ap length c.in_ok-push.ensures.items ∙ length-append c.loop-place.assignments.items _ in (
      table_step (λ y. y.name) assignment_term (found c.loop-place.assigned) (found c.keep_first.new.table)
          (length c.args.assignments.now.items) c.args.own.now c.loop-place.place c.index-own-place.result
          c.as_slice.result.now (length c.as_slice-in-loop-place.result.now) within c.index-own-place.is
          c.as_slice.ensures
          (ap length c.as_slice-in-loop-place.ensures.value ∙ c.loop-place.invariant.2) c.loop-place.invariant.0
          c.in_ok-keep_first.ensures,
      ap (map numbered_view) c.in_ok-push.ensures.items ∙
          map-append numbered_view c.loop-place.assignments.items _ ∙
          numbered_step (map numbered_view c.args.assignments.now.items)
          (map numbered_view c.loop-place.assignments.items)
          c.args.home assignment_term c.args.own.now c.loop-place.place c.index-own-place.result within
          c.index-own-place.is c.loop-place.invariant.1,
      omega (arith, longer, c.loop-place.invariant.2),
    )
