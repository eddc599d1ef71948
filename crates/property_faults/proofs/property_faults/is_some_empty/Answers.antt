-- An entry more, the first one of which nothing is left, and all of them.
use Rattle.std.proofs.Common.{◌∙◌, ◌∷◌, [], ℕ, map, sym, subst}
use Rattle.std.proofs.lemmas.Bool.{MatchBool-at_false, MatchBool-at_true}
use Rattle.std.proofs.lemmas.List.{map-append}
use Rattle.std.proofs.lemmas.Map.Iter.{btree_map_turn, iter_end}
use Rattle.std.specs.Cmp.{nat_cmp_total}
use Rattle.std.specs.Map.Iter.{deref_pair}
use Rattle.joined_statements.specs.declared.joined.Joined.{Joined}
use Rattle.property_faults.specs.TableFaults.{NothingLeft}
use Rattle.property_faults.proofs.EntryLaws.{NoneSuch, none_found, none_more, none_yet}
use Rattle.property_faults.proofs.property_faults.is_some_empty.Goals as goal

pub loop-attribute-init : goal.loop-attribute-init
loop-attribute-init c = λ ms known.
    none_yet (λ q joined. NothingLeft ms c.args.parts.now.linked.now c.args.parts.now.table.now q joined.permitted)

pub loop-attribute-preserved : goal.loop-attribute-preserved
loop-attribute-preserved c = λ ms known.
    let parts = c.args.parts.now in
    let Such = λ (q : ℕ) (joined : Joined). NothingLeft ms parts.linked.now parts.table.now q joined.permitted in
    let a = c.in-Some.attribute.now in
    let joined = c.in-Some.joined.now in
    let split = map-append deref_pair c.loop-attribute.yielded ((c.in-Some.attribute, c.in-Some.joined) ∷ []) in
    subst (NoneSuch Such) (sym split)
    (none_more Such (map deref_pair c.loop-attribute.yielded) (a, joined) (c.loop-attribute.invariant ms known)
    (MatchBool-at_false (Such a joined) (¬ Such a joined) c.if-empty.false (c.in_ok-empty.ensures ms known)))

pub returns-then-empty : goal.returns-then-empty
returns-then-empty c = λ ms known.
    let parts = c.args.parts.now in
    let Such = λ (q : ℕ) (joined : Joined). NothingLeft ms parts.linked.now parts.table.now q joined.permitted in
    let a = c.in-Some.attribute.now in
    let joined = c.in-Some.joined.now in
    let turn = btree_map_turn deref_pair c.loop-attribute.yielded c.into_iter-attribute-iterator.result
    c.loop-attribute.attribute-iterator c.next.new.self c.next.result (c.in-Some.attribute, c.in-Some.joined)
    c.loop-attribute.yielded_by c.in-Some.is c.next.ensures.steps nat_cmp_total c.args.properties.now
    (c.into_iter-attribute-iterator.ensures.into_iter_gives ∙ c.iter-attribute-items.ensures.rest)
    c.iter-attribute-items.ensures.ordered in record {
      attribute = a;
      joined = joined;
      stands = turn.1;
      empty = MatchBool-at_true (Such a joined) (¬ Such a joined) c.if-empty.true (c.in_ok-empty.ensures ms known);
    }

pub returns : goal.returns
returns c = λ ms known some.
    let all = iter_end deref_pair c.args.properties.now.entries c.loop-attribute.yielded
    c.into_iter-attribute-iterator.result c.loop-attribute.attribute-iterator c.next.new.self c.next.result
    (c.into_iter-attribute-iterator.ensures.into_iter_gives ∙ c.iter-attribute-items.ensures.rest)
    c.loop-attribute.yielded_by c.in-None.is c.next.ensures.steps in
    none_found
    (λ q joined. NothingLeft ms c.args.parts.now.linked.now c.args.parts.now.table.now q joined.permitted)
    c.args.properties.now (map deref_pair c.loop-attribute.yielded) all.0 (c.loop-attribute.invariant ms known)
    some.attribute some.joined some.stands some.empty
