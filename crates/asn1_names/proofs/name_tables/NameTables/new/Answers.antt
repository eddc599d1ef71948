-- One more module.
use Rattle.std.proofs.Common.{◌≡◌, ◌∙◌, ◌++◌, ◌+◌, ◌<◌, List, [], ◌∷◌, ap, arith, length, map, sym, take, zero-add}
use Rattle.std.proofs.Math.Path.{subst}
use Rattle.std.proofs.lemmas.List.{length-map, take_all}
use Rattle.asn1_names.specs.AssignmentNumbers.{all_numbered, first_place, numbered_from}
use Rattle.asn1_names.specs.FirstNames.{found}
use Rattle.asn1_names.specs.ModuleTables.{TellAllNames, TellsNames, numbered_view}
use Rattle.asn1_names.specs.NameMeaning.{is_called}
use Rattle.asn1_names.specs.TermViews.{module_term, module_terms}
use Rattle.asn1_names.proofs.NumberLaws.{all_names_push, all_step, empty_found, first_nothing, map_more}
use Rattle.asn1_names.proofs.NumberLaws.{table_step, taken_length}
use Rattle.asn1_names.proofs.name_tables.NameTables.new.Goals as goal

pub loop-home-init : goal.loop-home-init
loop-home-init c = (
  λ name. empty_found c.new-by_name.result name c.new-by_name.ensures.empty ∙
      sym (first_nothing (λ x. is_called name x.name) 0),
  subst (λ ys. TellAllNames 0 ys []) (sym c.new-names.ensures.items) tt,
  ap (map numbered_view) c.new-assignments.ensures.items,
)

pub loop-home-preserved : goal.loop-home-preserved
loop-home-preserved c =
    let modules = c.args.modules.now in
    let home = c.loop-home.home in
    let x = c.index-modules-home.result in
    let own = c.in_ok-names_of.field-0 in
    let before = map module_term (take home modules) in
    let within : home < length modules = omega (arith, c.loop-home-test.true) in
    let more = map_more module_term modules home x within c.index-modules-home.is in
    let count : length c.loop-home.assignments.items ≡ 0 + length (all_numbered 0 before) =
    sym (length-map c.loop-home.assignments.items numbered_view) ∙ ap length c.loop-home.invariant.2 ∙
    sym (zero-add (length (all_numbered 0 before))) in (
      table_step (λ y. y.name) module_term (found c.loop-home.by_name) (found c.keep_first.new.table) 0 modules home x
          c.as_slice.result.now home within c.index-modules-home.is c.as_slice.ensures (sym (zero-add home))
          c.loop-home.invariant.0 c.in_ok-keep_first.ensures,
      subst (λ ys. TellAllNames 0 ys (map module_term (take (home + 1) modules))) (sym c.in_ok-push.ensures.items)
          (subst (λ xs. TellAllNames 0 (c.loop-home.names.items ++ own ∷ []) xs) (sym more)
          (all_names_push 0 0 c.loop-home.names.items before own (module_term x) c.loop-home.invariant.1
          (subst (λ n. TellsNames n own (module_term x)) count c.in_ok-names_of.ensures.names))),
      c.in_ok-names_of.ensures.numbered ∙
          ap (λ z. z ++ numbered_from home 0 (module_term x).assignments) c.loop-home.invariant.2 ∙
          all_step before home (module_term x) (taken_length module_term modules home within) ∙
          ap (all_numbered 0) (sym more),
    )

pub invariant_of-result : goal.invariant_of-result
invariant_of-result c =
    let all : map module_term (take c.loop-home.home c.args.modules.now) ≡ module_terms c.args.modules.now =
    ap (map module_term) (take_all c.loop-home.home c.args.modules.now c.loop-home-test.false) in
    record {
      places = λ name. c.loop-home.invariant.0 name ∙ ap (first_place name 0) all;
      own = subst (λ xs. TellAllNames 0 c.loop-home.names.items xs) all c.loop-home.invariant.1;
      numbers = c.loop-home.invariant.2 ∙ ap (all_numbered 0) all;
    }
