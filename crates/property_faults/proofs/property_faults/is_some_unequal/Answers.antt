-- An entry more, the first one that is unequal, and all of them.
use Rattle.std.proofs.Common.{◌≡◌, ◌∙◌, ◌∷◌, [], ℕ, map, sym, subst, true, true≢false}
use Rattle.std.proofs.lemmas.List.{map-append}
use Rattle.std.proofs.lemmas.Map.Iter.{btree_map_turn, iter_end}
use Rattle.std.specs.Cmp.{nat_cmp_total}
use Rattle.std.specs.Map.Iter.{deref_pair}
use Rattle.joined_statements.specs.declared.joined.Joined.{Joined}
use Rattle.property_faults.specs.TableFaults.{is_any_unequal}
use Rattle.property_faults.proofs.EntryLaws.{NoneSuch, none_found, none_more, none_yet}
use Rattle.property_faults.proofs.property_faults.is_some_unequal.Goals as goal

pub loop-joined-init : goal.loop-joined-init
loop-joined-init c = none_yet (λ q joined. is_any_unequal joined ≡ true)

pub loop-joined-preserved : goal.loop-joined-preserved
loop-joined-preserved c =
    let Such = λ (q : ℕ) (joined : Joined). is_any_unequal joined ≡ true in
    let split = map-append deref_pair c.loop-joined.yielded ((c.in-Some.field-0-0, c.in-Some.joined) ∷ []) in
    subst (NoneSuch Such) (sym split)
    (none_more Such (map deref_pair c.loop-joined.yielded) (c.in-Some.field-0-0.now, c.in-Some.joined.now)
    c.loop-joined.invariant
    (λ e. true≢false (sym e ∙ sym c.is_any_unequal-unequal.ensures ∙ c.if-unequal.false)))

pub returns-then-unequal : goal.returns-then-unequal
returns-then-unequal c =
    let turn = btree_map_turn deref_pair c.loop-joined.yielded c.into_iter-joined-iterator.result
    c.loop-joined.joined-iterator c.next.new.self c.next.result (c.in-Some.field-0-0, c.in-Some.joined)
    c.loop-joined.yielded_by c.in-Some.is c.next.ensures.steps nat_cmp_total c.args.properties.now
    (c.into_iter-joined-iterator.ensures.into_iter_gives ∙ c.iter-joined-items.ensures.rest)
    c.iter-joined-items.ensures.ordered in record {
      attribute = c.in-Some.field-0-0.now;
      joined = c.in-Some.joined.now;
      stands = turn.1;
      unequal = sym c.is_any_unequal-unequal.ensures ∙ c.if-unequal.true;
    }

pub returns : goal.returns
returns c = λ some.
    let all = iter_end deref_pair c.args.properties.now.entries c.loop-joined.yielded
    c.into_iter-joined-iterator.result c.loop-joined.joined-iterator c.next.new.self c.next.result
    (c.into_iter-joined-iterator.ensures.into_iter_gives ∙ c.iter-joined-items.ensures.rest)
    c.loop-joined.yielded_by c.in-None.is c.next.ensures.steps in
    none_found (λ q joined. is_any_unequal joined ≡ true) c.args.properties.now (map deref_pair c.loop-joined.yielded)
    all.0 c.loop-joined.invariant some.attribute some.joined some.stands some.unequal
