use Rattle.std.proofs.Common.{rules, ◌≡◌, ◌<◌, ◌+◌, ◌≤◌, true, false, IfOk, subst, take, drop, replicate, length}
use Rattle.std.proofs.Common.{get_or, List, ℕ, [], ◌∷◌, ◌++◌, Some, None, ap, sym, refl, arith, ◌∙◌, option_map}
use Rattle.std.proofs.lemmas.List.{drop_more}
use Rattle.ber_values.proofs.DecodingLaws.{values_all, slots_all, nothing_left}
use Rattle.ber_values.proofs.UnorderedLaws.{nothing_before, put_back, is_true}
use Rattle.ber_values.specs.Left.{values_before, slots_before, slot_left_out}
use Rattle.term_values.specs.PartsView.{parts_listed}
use Rattle.term_values.specs.Syntaxes.TypeSyntax.{SequenceOf, SetOf}
use Rattle.term_values.specs.declared.value.Slot.TheVariants.{Present}
use Rattle.asn1_values.proofs.ComponentLaws.{member_read, part_there, part_absent, part_missing, too_many}
use Rattle.asn1_values.proofs.ComponentLaws.{drop_next, empty_is}
use Rattle.asn1_values.proofs.UnorderedLaws.{component_read, component_missing, none_left, all_left}
use Rattle.asn1_values.specs.Denoted.{denoted, members_said, components_said, reading_of, unordered_said}
use Rattle.asn1_leaf_values.specs.FirstNames.{arcs_named}
use Rattle.asn1_values.specs.Steps.{next_comes, left_of, no_texts, next_slot}
use Rattle.asn1_leaf_values.specs.TextValues.{said, said_name, said_value, parts_said}
use Rattle.asn1_values.proofs.denoting.+denoting.Goals.{denote_components-then-comes+in_ok-denote+in-Some+in_ok-push-in-Some}
use Rattle.asn1_values.proofs.denoting.+denoting.Goals.{denote_components-else-comes+in_ok-left_out+in-Some-2+in_ok-push-in-Some-2}
use Rattle.asn1_values.proofs.denoting.+denoting.Goals as goal

pub denote-returns-in-ListOf : goal.denote-returns-in-ListOf
denote-returns-in-ListOf g t c =
    let reading = (reading_of g.F.FilterReading.reading (arcs_named c.args.names.now)) in
    let same : c.deref.result.now ≡ c.in-ListOf.member.value = search rules in
    let syntax : c.args.syntax.now ≡ SequenceOf c.in-ListOf.member.value c.in-ListOf.sizes = search rules in
    subst (λ s. IfOk c.denote_list.result (λ found. denoted reading s (said c.args.text.now) ≡ found)) (sym syntax)
    (subst (λ m. IfOk c.denote_list.result (λ found. denoted reading
    (SequenceOf m c.in-ListOf.sizes) (said c.args.text.now) ≡ found)) same
    c.denote_list.ensures)

pub denote-returns-in-SetOf : goal.denote-returns-in-SetOf
denote-returns-in-SetOf g t c =
    let reading = (reading_of g.F.FilterReading.reading (arcs_named c.args.names.now)) in
    let same : c.deref-in-SetOf.result.now ≡ c.in-SetOf.member.value = search rules in
    let syntax : c.args.syntax.now ≡ SetOf c.in-SetOf.member.value c.in-SetOf.sizes = search rules in
    subst (λ s. IfOk c.denote_set_of.result (λ found. denoted reading s (said c.args.text.now) ≡ found)) (sym syntax)
    (subst (λ m. IfOk c.denote_set_of.result (λ found. denoted reading
    (SetOf m c.in-SetOf.sizes) (said c.args.text.now) ≡ found)) same
    c.denote_set_of.ensures)

pub denote_components-returns-in-None-2 : goal.denote_components-returns-in-None-2
denote_components-returns-in-None-2 g t c =
    let reading = (reading_of g.F.FilterReading.reading (arcs_named c.args.names.now)) in
    let items = c.as_slice-items.result.now in
    let i = c.loop-part.part-index in
    let part = c.part-item.result in
    let texts = parts_said (drop c.loop-part.next c.args.texts.now) in
    let parts : c.args.parts.now ≡ parts_listed items = search rules in
    let left : drop i items ≡ part ∷ drop (i + 1) items = drop_next items i part (search rules) (search rules) in
    let comes : next_comes part.name texts ≡ false = search rules in
    let none : slot_left_out part.optional part.default ≡ None = search rules in
    rw parts (c.loop-part.invariant.same ∙ part_missing reading c.loop-part.slots.items part (drop i items)
    (drop (i + 1) items) texts left comes none)

pub denote_components-loop-part-preserved : goal.denote_components-loop-part-preserved
denote_components-loop-part-preserved g t c =
    let reading = (reading_of g.F.FilterReading.reading (arcs_named c.args.names.now)) in
    let items = c.as_slice-items.result.now in
    let i = c.loop-part.part-index in
    let part = c.part-item.result in
    let texts = drop c.loop-part.next c.args.texts.now in
    let left : drop i items ≡ part ∷ drop (i + 1) items = drop_next items i part (search rules) (search rules) in
    elim c.if-comes.branch [
      | denote_components-then-comes+in_ok-denote+in-Some+in_ok-push-in-Some w ↦
          let within : c.loop-part.next < length c.args.texts.now = search (rules, c.comes.ensures.within) in
          let x = w.index-texts-next.result in
          let rest = drop (c.loop-part.next + 1) c.args.texts.now in
          let next : texts ≡ x ∷ rest = drop_next c.args.texts.now c.loop-part.next x within (search rules) in
          let at : c.if-comes.next ≡ c.loop-part.next + 1 = search rules in
          let pushed : c.if-comes.slots.items ≡ c.loop-part.slots.items ++ Present w.in-Some.value ∷ [] = search rules in
          let comes : next_comes part.name (parts_said texts) ≡ true = search rules in
          let is : denoted reading part.syntax (said_value x) ≡ Some w.in-Some.value = search rules in
          record {
            within = omega arith;
            same = c.loop-part.invariant.same ∙ part_there reading c.loop-part.slots.items part (drop i items)
                (drop (i + 1) items) texts x rest w.in-Some.value left next comes is
                ∙ rw (at, pushed) refl;
          }
      | denote_components-else-comes+in_ok-left_out+in-Some-2+in_ok-push-in-Some-2 w ↦
          let at : c.if-comes.next ≡ c.loop-part.next = search rules in
          let comes : next_comes part.name (parts_said texts) ≡ false = search rules in
          let slot : slot_left_out part.optional part.default ≡ Some w.in-Some-2.slot = search rules in
          let pushed : c.if-comes.slots.items ≡ c.loop-part.slots.items ++ w.in-Some-2.slot ∷ [] = search rules in
          record {
            within = omega arith;
            same = c.loop-part.invariant.same ∙ part_absent reading c.loop-part.slots.items part (drop i items)
                (drop (i + 1) items) (parts_said texts) w.in-Some-2.slot left comes slot
                ∙ rw (at, pushed) refl;
          }
    ]

pub denote_components-returns-then-next-texts : goal.denote_components-returns-then-next-texts
denote_components-returns-then-next-texts g t c =
    let reading = (reading_of g.F.FilterReading.reading (arcs_named c.args.names.now)) in
    let items = c.as_slice-items.result.now in
    let parts : c.args.parts.now ≡ parts_listed items = search rules in
    let none : drop c.loop-part.part-index items ≡ [] = nothing_left items c.loop-part.part-index (omega arith) in
    rw parts (c.loop-part.invariant.same ∙ ap (option_map (slots_before c.loop-part.slots.items))
    (too_many reading (drop c.loop-part.part-index items) c.args.texts.now c.loop-part.next none
    (search rules)))

pub denote_components-returns : goal.denote_components-returns
denote_components-returns g t c =
    let items = c.as_slice-items.result.now in
    let parts : c.args.parts.now ≡ parts_listed items = search rules in
    let none : drop c.loop-part.part-index items ≡ [] = nothing_left items c.loop-part.part-index (omega arith) in
    let all : drop c.loop-part.next c.args.texts.now ≡ [] = nothing_left c.args.texts.now c.loop-part.next (omega arith) in
    rw parts (c.loop-part.invariant.same ∙ rw (none, all) (ap Some (slots_all c.loop-part.slots.items)))

pub denote_members-loop-part-preserved : goal.denote_members-loop-part-preserved
denote_members-loop-part-preserved g t c =
    let member = denoted (reading_of g.F.FilterReading.reading (arcs_named c.args.names.now)) c.args.member.now in
    let texts = c.args.texts.now in
    let i = c.loop-part.part-index in
    let x = c.part-item.result in
    let left : drop i texts ≡ x ∷ drop (i + 1) texts = drop_next texts i x (search rules) (search rules) in
    let short : length (said_name x) ≡ 0 = search rules in
    let is : member (said_value x) ≡ Some c.in-Some.value = search rules in
    let pushed : c.push.new.self.items ≡ c.loop-part.items.items ++ c.in-Some.value ∷ [] = search rules in
    c.loop-part.invariant ∙ member_read member c.loop-part.items.items x (drop i texts) (drop (i + 1) texts)
    c.in-Some.value left (empty_is (said_name x) short) is
    ∙ ap (λ xs. option_map (values_before xs) (members_said member (parts_said (drop (i + 1) texts)))) (sym pushed)

pub denote_members-returns : goal.denote_members-returns
denote_members-returns g t c =
    let member = denoted (reading_of g.F.FilterReading.reading (arcs_named c.args.names.now)) c.args.member.now in
    let none : drop c.loop-part.part-index c.args.texts.now ≡ [] =
    nothing_left c.args.texts.now c.loop-part.part-index (omega arith) in
    c.loop-part.invariant
    ∙ ap (λ xs. option_map (values_before c.loop-part.items.items) (members_said member (parts_said xs))) none
    ∙ ap Some (values_all c.loop-part.items.items)

pub denote_unordered-loop-part-init : goal.denote_unordered-loop-part-init
denote_unordered-loop-part-init g t c =
    let texts = c.args.texts.now in
    let none : c.new-slots.result.items ≡ [] = search rules in
    let same : c.in_ok-taken.taken.items ≡ replicate (length texts) false = search rules in
    let all : left_of c.in_ok-taken.taken.items texts ≡ parts_said texts =
    ap (λ bs. left_of bs texts) same ∙ all_left texts in
    record {
      long = search rules;
      same = rw (none, all) (sym (nothing_before (unordered_said
          (reading_of g.F.FilterReading.reading (arcs_named c.args.names.now)) (parts_listed c.as_slice-items.result.now) (parts_said texts))));
    }

pub denote_unordered-returns-in-None : goal.denote_unordered-returns-in-None
denote_unordered-returns-in-None g t c =
    let reading = (reading_of g.F.FilterReading.reading (arcs_named c.args.names.now)) in
    let items = c.as_slice-items.result.now in
    let i = c.loop-part.part-index in
    let part = c.part-item.result in
    let texts = left_of c.loop-part.taken.items c.args.texts.now in
    let parts : c.args.parts.now ≡ parts_listed items = search rules in
    let left : drop i items ≡ part ∷ drop (i + 1) items = drop_next items i part (search rules) (search rules) in
    let lent : c.deref_mut.result.now ≡ c.loop-part.taken.items = search rules in
    let none : next_slot reading part texts ≡ None = search rules in
    rw parts (c.loop-part.invariant.same ∙ component_missing reading c.loop-part.slots.items part (drop i items)
    (drop (i + 1) items) texts left none)

pub denote_unordered-loop-part-preserved : goal.denote_unordered-loop-part-preserved
denote_unordered-loop-part-preserved g t c =
    let reading = (reading_of g.F.FilterReading.reading (arcs_named c.args.names.now)) in
    let items = c.as_slice-items.result.now in
    let i = c.loop-part.part-index in
    let part = c.part-item.result in
    let texts = c.args.texts.now in
    let left : drop i items ≡ part ∷ drop (i + 1) items = drop_next items i part (search rules) (search rules) in
    let lent : c.deref_mut.result.now ≡ c.loop-part.taken.items = search rules in
    let long : length c.denote_component.new.taken ≡ length c.loop-part.taken.items =
    c.in_ok-denote_component.ensures.len ∙ ap length lent in
    let back : take c.loop-part.taken.len (c.denote_component.new.taken
    ++ drop (length c.denote_component.new.taken) c.loop-part.taken.items) ≡ c.denote_component.new.taken =
    put_back c.loop-part.taken.items c.denote_component.new.taken c.loop-part.taken.len long (search rules) in
    let is : next_slot reading part (left_of c.loop-part.taken.items texts)
    ≡ Some (c.in-Some.slot, left_of c.denote_component.new.taken texts) = search rules in
    let pushed : c.push.new.self.items ≡ c.loop-part.slots.items ++ c.in-Some.slot ∷ [] = search rules in
    record {
      long = ap length back ∙ long ∙ c.loop-part.invariant.long;
      same = c.loop-part.invariant.same
          ∙ component_read reading c.loop-part.slots.items part (drop i items) (drop (i + 1) items)
          (left_of c.loop-part.taken.items texts) (left_of c.denote_component.new.taken texts) c.in-Some.slot left is
          ∙ rw (pushed, back) refl;
    }

pub denote_unordered-returns : goal.denote_unordered-returns
denote_unordered-returns g t c =
    let reading = (reading_of g.F.FilterReading.reading (arcs_named c.args.names.now)) in
    let items = c.as_slice-items.result.now in
    let parts : c.args.parts.now ≡ parts_listed items = search rules in
    let none : drop c.loop-part.part-index items ≡ [] = nothing_left items c.loop-part.part-index (omega arith) in
    let free : no_texts (left_of c.loop-part.taken.items c.args.texts.now) ≡ true = is_true _ (search rules) in
    rw parts (c.loop-part.invariant.same
    ∙ rw none (ap (option_map (slots_before c.loop-part.slots.items)) (none_left reading
    (left_of c.loop-part.taken.items c.args.texts.now) free)
    ∙ ap Some (slots_all c.loop-part.slots.items)))
