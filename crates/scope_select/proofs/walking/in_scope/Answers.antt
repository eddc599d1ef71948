use Rattle.std.proofs.Common.{◌≡◌, ◌++◌, ◌≤◌, [], true, false, is_some, length, Err, refl, sym, ap, ◌∙◌, inl, inr}
use Rattle.std.proofs.Common.{arith, rules}
use Rattle.std.proofs.lemmas.Grind.{common_steps}
use Rattle.term_model.specs.NamedObjects.{names, object_at}
use Rattle.scope_select.specs.declared.refusal.ScopeRefusal.TheVariants.{TooMany}
use Rattle.scope_select.specs.Ranges.{EndsAtBase, IsNext, names_behind}
use Rattle.scope_select.proofs.BaseLaws.{base_missing}
use Rattle.scope_select.proofs.BelowLaws.{all_at_base}
use Rattle.scope_select.proofs.EntryLaws.{entry_there}
use Rattle.scope_select.proofs.WalkLaws.{all_reached, base_first, base_many, next_from, one_reached, step_fewer}
use Rattle.scope_select.proofs.WalkLaws.{step_many, step_reached, step_shorter, within}
use Rattle.scope_select.proofs.walking.in_scope.Goals as goal
use Rattle.scope_select.proofs.walking.in_scope.Goals.{then-is_some+in_ok-add_reached, else-is_some}

pub returns-in_err-add_reached-clause-many : goal.returns-in_err-add_reached-clause-many
returns-in_err-add_reached-clause-many g c = λ e.
    let entries = g.M.Ranged.objects c.args.mib.now in
    let refused : c.add_reached.result ≡ Err TooMany = first_of (search rules, grind arith) in
    let many = c.add_reached.ensures.many refused in
    let some : is_some (object_at entries c.args.base.now) ≡ true =
    first_of (search rules, grind (arith, common_steps)) in
    let there = sym (entry_there c.args.base.now entries) ∙ some in
    let more = base_many c.args.base.now c.args.scope.now (names entries) c.at.ensures.rising there many.0 in
    omega (arith, many.1)

pub loop-next-init : goal.loop-next-init
loop-next-init g c =
    let base = c.args.base.now in
    let scope = c.args.scope.now in
    let entries = g.M.Ranged.objects c.args.mib.now in
    elim c.if-is_some.branch [
      | then-is_some+in_ok-add_reached w ↦
          (let some : is_some (object_at entries base) ≡ true = first_of (search rules, grind (arith, common_steps)) in
          let there = sym (entry_there base entries) ∙ some in
          let added : c.if-is_some.reached ≡ one_reached scope 0 base =
          first_of (search rules, grind (arith, common_steps, w.in_ok-add_reached.ensures.added, c.new.ensures.items))
          in
          let few : length c.if-is_some.reached ≤ c.args.limit =
          first_of (search rules, grind (arith, common_steps, w.in_ok-add_reached.ensures.few)) in (
            base_first base scope (names entries) c.at.ensures.rising there
                ∙ ap (λ ns. ns ++ within base scope (names_behind base (names entries))) (sym added),
            inl refl,
            few,
            λ small. (let visited = c.at.ensures.visits.few small in omega arith),
          ))
      | else-is_some w ↦
          (let none : is_some (object_at entries base) ≡ false = first_of (search rules, grind (arith, common_steps)) in
          let missing = sym (entry_there base entries) ∙ none in
          let empty : c.if-is_some.reached ≡ [] =
          first_of (search rules, grind (arith, common_steps, c.new.ensures.items)) in (
            base_missing base scope (names entries) c.at.ensures.rising missing
                ∙ ap (λ ns. ns ++ within base scope (names_behind base (names entries))) (sym empty),
            inl refl,
            omega (arith, ap length empty),
            λ small. (let visited = c.at.ensures.visits.few small in omega arith),
          ))
    ]

pub returns-in_err-add_reached-2-clause-many : goal.returns-in_err-add_reached-2-clause-many
returns-in_err-add_reached-2-clause-many g c = λ e.
    let entries = g.M.Ranged.objects c.args.mib.now in
    let refused : c.add_reached-in-Some.result ≡ Err TooMany = first_of (search rules, grind arith) in
    let many = c.add_reached-in-Some.ensures.many refused in
    let next : IsNext c.args.base.now c.loop-next.here.now (names entries) c.in-Some.next.now c.in-Some.level =
    c.in-Some.ensures.found in
    let more =
    step_many c.args.base.now c.loop-next.here.now c.in-Some.next.now c.args.scope.now (names entries)
    c.loop-next.reached c.in-Some.level c.at.ensures.rising next c.loop-next.invariant.0 many.0 in
    omega (arith, many.1)

pub loop-next-smaller : goal.loop-next-smaller
loop-next-smaller g c =
    step_shorter c.args.base.now c.loop-next.here.now c.in-Some.next.now (names (g.M.Ranged.objects c.args.mib.now))
    c.in-Some.level c.at.ensures.rising c.in-Some.ensures.found

pub loop-next-preserved : goal.loop-next-preserved
loop-next-preserved g c =
    let entries = g.M.Ranged.objects c.args.mib.now in
    let added : c.add_reached-in-Some.new.names ≡ c.loop-next.reached
    ++ one_reached c.args.scope.now c.in-Some.level c.in-Some.next.now =
    first_of (search rules, grind (arith, common_steps, c.in_ok-add_reached-2.ensures.added)) in
    let few : length c.add_reached-in-Some.new.names ≤ c.args.limit =
    first_of (search rules, grind (arith, common_steps, c.in_ok-add_reached-2.ensures.few)) in (
      step_reached c.args.base.now c.loop-next.here.now c.in-Some.next.now c.args.scope.now (names entries)
          c.loop-next.reached c.add_reached-in-Some.new.names c.in-Some.level c.at.ensures.rising
          c.in-Some.ensures.found
          c.loop-next.invariant.0 added,
      inr (next_from c.args.base.now c.loop-next.here.now c.in-Some.next.now (names entries) c.in-Some.level
          c.loop-next.invariant.1 c.in-Some.ensures.found),
      few,
      λ small.
          (let before = c.loop-next.invariant.3 small in
          let visited = c.in-Some.ensures.visits.few small in
          let fewer =
          step_fewer c.args.base.now c.loop-next.here.now c.in-Some.next.now (names entries) c.in-Some.level
          c.at.ensures.rising c.in-Some.ensures.found in
          omega arith),
    )

pub returns-clause-names : goal.returns-clause-names
returns-clause-names g c =
    all_reached c.args.base.now c.loop-next.here.now c.args.scope.now (names (g.M.Ranged.objects c.args.mib.now))
    c.loop-next.reached c.at.ensures.rising c.loop-next.invariant.1 c.in_default.ensures.found c.loop-next.invariant.0

pub returns-clause-few : goal.returns-clause-few
returns-clause-few g c =
    let all =
    all_reached c.args.base.now c.loop-next.here.now c.args.scope.now (names (g.M.Ranged.objects c.args.mib.now))
    c.loop-next.reached c.at.ensures.rising c.loop-next.invariant.1 c.in_default.ensures.found
    c.loop-next.invariant.0 in
    omega (arith, ap length all, c.loop-next.invariant.2)

pub returns-in_err-add_reached-clause-visits : goal.returns-in_err-add_reached-clause-visits
returns-in_err-add_reached-clause-visits g c = λ small.
    let visited = c.at.ensures.visits.few small in
    omega arith

pub returns-in_err-add_reached-2-clause-visits : goal.returns-in_err-add_reached-2-clause-visits
returns-in_err-add_reached-2-clause-visits g c = λ small.
    let before = c.loop-next.invariant.3 small in
    let visited = c.in-Some.ensures.visits.few small in
    omega arith

pub returns-clause-visits : goal.returns-clause-visits
returns-clause-visits g c = λ small.
    let before = c.loop-next.invariant.3 small in
    let visited = c.in_default.ensures.visits.few small in
    omega arith

pub returns-then-ends_at_base-clause-names : goal.returns-then-ends_at_base-clause-names
returns-then-ends_at_base-clause-names g c =
    let base = c.args.base.now in
    let scope = c.args.scope.now in
    let entries = g.M.Ranged.objects c.args.mib.now in
    let ends : EndsAtBase scope = first_of (search rules, grind arith) in
    elim c.if-is_some.branch [
      | then-is_some+in_ok-add_reached w ↦
          (let some : is_some (object_at entries base) ≡ true = first_of (search rules, grind (arith, common_steps)) in
          let there = sym (entry_there base entries) ∙ some in
          let added : c.if-is_some.reached ≡ one_reached scope 0 base =
          first_of (search rules, grind (arith, common_steps, w.in_ok-add_reached.ensures.added, c.new.ensures.items))
          in
          let all =
          all_at_base base scope (names entries) c.if-is_some.reached ends
          (base_first base scope (names entries) c.at.ensures.rising there
          ∙ ap (λ ns. ns ++ within base scope (names_behind base (names entries))) (sym added)) in
          all)
      | else-is_some w ↦
          (let none : is_some (object_at entries base) ≡ false = first_of (search rules, grind (arith, common_steps)) in
          let missing = sym (entry_there base entries) ∙ none in
          let empty : c.if-is_some.reached ≡ [] =
          first_of (search rules, grind (arith, common_steps, c.new.ensures.items)) in
          let all =
          all_at_base base scope (names entries) c.if-is_some.reached ends
          (base_missing base scope (names entries) c.at.ensures.rising missing
          ∙ ap (λ ns. ns ++ within base scope (names_behind base (names entries))) (sym empty)) in
          all)
    ]

pub returns-then-ends_at_base-clause-few : goal.returns-then-ends_at_base-clause-few
returns-then-ends_at_base-clause-few g c =
    let base = c.args.base.now in
    let scope = c.args.scope.now in
    let entries = g.M.Ranged.objects c.args.mib.now in
    let ends : EndsAtBase scope = first_of (search rules, grind arith) in
    elim c.if-is_some.branch [
      | then-is_some+in_ok-add_reached w ↦
          (let some : is_some (object_at entries base) ≡ true = first_of (search rules, grind (arith, common_steps)) in
          let there = sym (entry_there base entries) ∙ some in
          let added : c.if-is_some.reached ≡ one_reached scope 0 base =
          first_of (search rules, grind (arith, common_steps, w.in_ok-add_reached.ensures.added, c.new.ensures.items))
          in
          let all =
          all_at_base base scope (names entries) c.if-is_some.reached ends
          (base_first base scope (names entries) c.at.ensures.rising there
          ∙ ap (λ ns. ns ++ within base scope (names_behind base (names entries))) (sym added)) in
          let few : length c.if-is_some.reached ≤ c.args.limit =
          first_of (search rules, grind (arith, common_steps, w.in_ok-add_reached.ensures.few)) in
          omega (arith, ap length all, few))
      | else-is_some w ↦
          (let none : is_some (object_at entries base) ≡ false = first_of (search rules, grind (arith, common_steps)) in
          let missing = sym (entry_there base entries) ∙ none in
          let empty : c.if-is_some.reached ≡ [] =
          first_of (search rules, grind (arith, common_steps, c.new.ensures.items)) in
          let all =
          all_at_base base scope (names entries) c.if-is_some.reached ends
          (base_missing base scope (names entries) c.at.ensures.rising missing
          ∙ ap (λ ns. ns ++ within base scope (names_behind base (names entries))) (sym empty)) in
          omega (arith, ap length all, ap length empty))
    ]

pub returns-in_err-add_reached-clause-alone : goal.returns-in_err-add_reached-clause-alone
returns-in_err-add_reached-clause-alone g c = λ ends small.
    let visited = c.at.ensures.visits.few small in
    omega arith

pub returns-then-ends_at_base-clause-alone : goal.returns-then-ends_at_base-clause-alone
returns-then-ends_at_base-clause-alone g c = λ ends small.
    let visited = c.at.ensures.visits.few small in
    omega arith
