use Rattle.std.proofs.Common.{rules, ◌≡◌, ◌<◌, ◌+◌, ◌≤◌, true, false, IfOk, subst, take, drop, replicate, length, List}
use Rattle.std.proofs.Common.{[], ◌∷◌, ◌++◌, Some, None, ap, sym, refl, arith, ◌∙◌, option_map}
use Rattle.std.proofs.lemmas.List.{drop_more}
use Rattle.ber_values.proofs.DecodingLaws.{member_read, values_all, slots_all, nothing_left, part_there, part_absent}
use Rattle.ber_values.proofs.DecodingLaws.{too_many}
use Rattle.ber_values.proofs.CountLaws.{no_one_value}
use Rattle.ber_values.proofs.UnorderedLaws.{component_read, none_left, all_left, nothing_before, put_back, is_true}
use Rattle.ber_values.specs.Left.{values_before, slots_before, slot_left_out, next_begins, left_of, next_slot}
use Rattle.term_values.specs.Decoding.{members_in, parts_in, unordered_in, denoted}
use Rattle.term_values.specs.LeafReading.{no_trees}
use Rattle.term_values.specs.PartsView.{parts_listed}
use Rattle.term_values.specs.Syntaxes.TypeSyntax.{SequenceOf, SetOf}
use Rattle.term_values.specs.Tree.{listed}
use Rattle.term_values.specs.declared.value.Slot.TheVariants.{Present}
use Rattle.ber_values.proofs.decoding.+decoding.Goals.{decode_parts-then-comes+in_ok-decode_as+in-Some+in_ok-push-in-Some}
use Rattle.ber_values.proofs.decoding.+decoding.Goals.{decode_parts-else-comes+in_ok-left_out+in-Some-2+in_ok-push-in-Some-2}
use Rattle.ber_values.proofs.decoding.+decoding.Goals as goal

pub decode_members-loop-tree-preserved : goal.decode_members-loop-tree-preserved
decode_members-loop-tree-preserved t c =
    let left = drop c.loop-tree.tree-index c.as_slice-tree-items.result.now in
    let rest = drop (c.loop-tree.tree-index + 1) c.as_slice-tree-items.result.now in
    let more : left ≡ c.tree-item.result ∷ rest = drop_more c.as_slice-tree-items.result.now c.loop-tree.tree-index
    c.tree-item.result (search rules) ∙ ap (λ x. x ∷ rest) (search rules) in
    let is : denoted false c.args.member.now c.tree-item.result ≡ Some c.in-Some.value = search rules in
    let pushed : c.push.new.self.items ≡ c.loop-tree.items.items ++ c.in-Some.value ∷ [] = search rules in
    c.loop-tree.invariant ∙ member_read (denoted false c.args.member.now) c.loop-tree.items.items c.tree-item.result
    left rest c.in-Some.value more is
    ∙ ap (λ xs. option_map (values_before xs) (members_in (denoted false c.args.member.now) (listed rest))) (sym pushed)

pub decode_members-returns : goal.decode_members-returns
decode_members-returns t c =
    let none : drop c.loop-tree.tree-index c.as_slice-tree-items.result.now ≡ [] =
    nothing_left c.as_slice-tree-items.result.now c.loop-tree.tree-index (omega arith) in
    let whole : c.args.trees.now ≡ listed c.as_slice-tree-items.result.now = search rules in
    ap (members_in (denoted false c.args.member.now)) whole ∙ c.loop-tree.invariant
    ∙ ap (λ xs. option_map (values_before c.loop-tree.items.items) (members_in (denoted false c.args.member.now)
    (listed xs))) none
    ∙ ap Some (values_all c.loop-tree.items.items)

pub decode_parts-loop-part-preserved : goal.decode_parts-loop-part-preserved
decode_parts-loop-part-preserved t c =
    let parts = c.as_slice-part-items.result.now in
    let trees = c.as_slice-rest.result.now in
    let rest = drop (c.loop-part.part-index + 1) parts in
    let more : drop c.loop-part.part-index parts ≡ c.part-item.result ∷ rest =
    drop_more parts c.loop-part.part-index c.part-item.result (search rules) ∙ ap (λ x. x ∷ rest) (search rules) in
    elim c.if-comes.branch [
      | decode_parts-then-comes+in_ok-decode_as+in-Some+in_ok-push-in-Some w ↦
          let within : c.loop-part.at < length trees = search (rules, c.comes.ensures.within) in
          let x = w.index-rest-at.result in
          let next : drop c.loop-part.at trees ≡ x ∷ drop (c.loop-part.at + 1) trees =
          drop_more trees c.loop-part.at x within ∙ ap (λ y. y ∷ drop (c.loop-part.at + 1) trees) (search rules) in
          let at : c.if-comes.at ≡ c.loop-part.at + 1 = search rules in
          let pushed : c.if-comes.items.items ≡ c.loop-part.items.items ++ Present w.in-Some.value ∷ [] =
          search rules in
          let begun : next_begins c.part-item.result.syntax (listed (drop c.loop-part.at trees)) ≡ true =
          search rules in
          let is : denoted false c.part-item.result.syntax x ≡ Some w.in-Some.value = search rules in (
            omega arith,
            c.loop-part.invariant.1 ∙ part_there c.loop-part.items.items c.part-item.result _ rest _ x (drop
                (c.loop-part.at + 1) trees) w.in-Some.value more next begun is
                ∙ rw (at, pushed) refl,
          )
      | decode_parts-else-comes+in_ok-left_out+in-Some-2+in_ok-push-in-Some-2 w ↦
          let at : c.if-comes.at ≡ c.loop-part.at = search rules in
          let begun : next_begins c.part-item.result.syntax (listed (drop c.loop-part.at trees)) ≡ false =
          search rules in
          let slot : slot_left_out c.part-item.result.optional c.part-item.result.default ≡ Some w.in-Some-2.slot =
          search rules in
          let pushed : c.if-comes.items.items ≡ c.loop-part.items.items ++ w.in-Some-2.slot ∷ [] = search rules in (
            omega arith,
            c.loop-part.invariant.1 ∙ part_absent c.loop-part.items.items c.part-item.result _ rest
                (drop c.loop-part.at trees) w.in-Some-2.slot more begun slot
                ∙ rw (at, pushed) refl,
          )
    ]

pub decode_parts-returns-then-at-rest : goal.decode_parts-returns-then-at-rest
decode_parts-returns-then-at-rest t c =
    let whole : c.args.trees.now ≡ listed c.as_slice-rest.result.now = search rules in
    let parts : c.args.parts.now ≡ parts_listed c.as_slice-part-items.result.now = search rules in
    let none : drop c.loop-part.part-index c.as_slice-part-items.result.now ≡ [] =
    nothing_left c.as_slice-part-items.result.now c.loop-part.part-index (omega arith) in
    rw (whole, parts) (c.loop-part.invariant.1 ∙ rw none (ap (option_map (slots_before c.loop-part.items.items))
    (too_many c.as_slice-rest.result.now c.loop-part.at (search rules))))

pub decode_parts-returns : goal.decode_parts-returns
decode_parts-returns t c =
    let whole : c.args.trees.now ≡ listed c.as_slice-rest.result.now = search rules in
    let parts : c.args.parts.now ≡ parts_listed c.as_slice-part-items.result.now = search rules in
    let none : drop c.loop-part.part-index c.as_slice-part-items.result.now ≡ [] =
    nothing_left c.as_slice-part-items.result.now c.loop-part.part-index (omega arith) in
    let all : drop c.loop-part.at c.as_slice-rest.result.now ≡ [] =
    nothing_left c.as_slice-rest.result.now c.loop-part.at (omega arith) in
    rw (whole, parts) (c.loop-part.invariant.1 ∙ rw (none, all) (ap Some (slots_all c.loop-part.items.items)))

pub decode_as-returns-in-ListOf : goal.decode_as-returns-in-ListOf
decode_as-returns-in-ListOf t c =
    let same : c.deref.result.now ≡ c.in-ListOf.member.value = search rules in
    let syntax : c.args.syntax.now ≡ SequenceOf c.in-ListOf.member.value c.in-ListOf.sizes = search rules in
    subst (λ s. IfOk c.decode_list.result (λ found. denoted c.args.replaced s c.args.tree.now ≡ found)) (sym syntax)
    (subst (λ m. IfOk c.decode_list.result (λ found. denoted c.args.replaced
    (SequenceOf m c.in-ListOf.sizes) c.args.tree.now ≡ found)) same
    c.decode_list.ensures)

pub decode_as-returns-in-SetOf : goal.decode_as-returns-in-SetOf
decode_as-returns-in-SetOf t c =
    let same : c.deref-in-SetOf.result.now ≡ c.in-SetOf.member.value = search rules in
    let syntax : c.args.syntax.now ≡ SetOf c.in-SetOf.member.value c.in-SetOf.sizes = search rules in
    subst (λ s. IfOk c.decode_set_of.result (λ found. denoted c.args.replaced s c.args.tree.now ≡ found)) (sym syntax)
    (subst (λ m. IfOk c.decode_set_of.result (λ found. denoted c.args.replaced
    (SetOf m c.in-SetOf.sizes) c.args.tree.now ≡ found)) same
    c.decode_set_of.ensures)

pub decode_one-returns-in-len2-up : goal.decode_one-returns-in-len2-up
decode_one-returns-in-len2-up t c =
    let whole : c.args.inside.now ≡ listed c.as_slice.result.now = search rules in
    rw whole (no_one_value (denoted false c.args.inner.now) c.as_slice.result.now (omega arith))

pub decode_unordered-loop-part-init : goal.decode_unordered-loop-part-init
decode_unordered-loop-part-init t c =
    let rest = c.as_slice-rest.result.now in
    let none : c.new-items.result.items ≡ [] = search rules in
    let same : c.in_ok-taken.taken.items ≡ replicate (length rest) false = search rules in
    let all : left_of c.in_ok-taken.taken.items rest ≡ listed rest =
    ap (λ bs. left_of bs rest) same ∙ all_left rest in (
      search rules,
      rw (none, all) (sym (nothing_before (unordered_in (parts_listed c.as_slice-part-items.result.now)
          (listed rest)))),
    )

pub decode_unordered-loop-part-preserved : goal.decode_unordered-loop-part-preserved
decode_unordered-loop-part-preserved t c =
    let parts = c.as_slice-part-items.result.now in
    let rest = c.as_slice-rest.result.now in
    let left = drop c.loop-part.part-index parts in
    let behind = drop (c.loop-part.part-index + 1) parts in
    let more : left ≡ c.part-item.result ∷ behind = drop_more parts c.loop-part.part-index c.part-item.result
    (search rules) ∙ ap (λ x. x ∷ behind) (search rules) in
    let lent : c.deref_mut.result.now ≡ c.loop-part.taken.items = search rules in
    let long : length c.decode_component.new.taken ≡ length c.loop-part.taken.items =
    c.in_ok-decode_component.ensures.len ∙ ap length lent in
    let back : take c.loop-part.taken.len (c.decode_component.new.taken
    ++ drop (length c.decode_component.new.taken) c.loop-part.taken.items) ≡ c.decode_component.new.taken =
    put_back c.loop-part.taken.items c.decode_component.new.taken c.loop-part.taken.len long (search rules) in
    let is : next_slot c.part-item.result (left_of c.loop-part.taken.items rest)
    ≡ Some (c.in-Some.slot, left_of c.decode_component.new.taken rest) = search rules in
    let pushed : c.push.new.self.items ≡ c.loop-part.items.items ++ c.in-Some.slot ∷ [] = search rules in (
      ap length back ∙ long ∙ c.loop-part.invariant.0,
      c.loop-part.invariant.1
          ∙ component_read c.loop-part.items.items c.part-item.result left behind
          (left_of c.loop-part.taken.items rest) (left_of c.decode_component.new.taken rest) c.in-Some.slot more is
          ∙ rw (pushed, back) refl,
    )

pub decode_unordered-returns : goal.decode_unordered-returns
decode_unordered-returns t c =
    let whole : c.args.trees.now ≡ listed c.as_slice-rest.result.now = search rules in
    let parts : c.args.parts.now ≡ parts_listed c.as_slice-part-items.result.now = search rules in
    let none : drop c.loop-part.part-index c.as_slice-part-items.result.now ≡ [] =
    nothing_left c.as_slice-part-items.result.now c.loop-part.part-index (omega arith) in
    let free : no_trees (left_of c.loop-part.taken.items c.as_slice-rest.result.now) ≡ true =
    is_true _ (search rules) in
    rw (whole, parts) (c.loop-part.invariant.1
    ∙ rw none (ap (option_map (slots_before c.loop-part.items.items)) (none_left
    (left_of c.loop-part.taken.items c.as_slice-rest.result.now) free)
    ∙ ap Some (slots_all c.loop-part.items.items)))
