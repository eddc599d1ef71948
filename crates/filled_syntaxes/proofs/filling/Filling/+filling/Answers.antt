-- What a syntax holds is filled, and its texts are noted: those of components with their own.
use Rattle.std.proofs.Common.{◌≡◌, ◌∙◌, ◌+◌, ◌<◌, ◌≤◌, ◌++◌, ◌∷◌, [], Some, ap, arith, length, refl, rules, sym, take}
use Rattle.std.specs.Prelude.{slice_get}
use Rattle.std.proofs.Math.Path.{subst}
use Rattle.std.proofs.lemmas.List.{length-take, length_push, take_all, take_more}
use Rattle.std.proofs.lemmas.Option.{slice_get_read}
use Rattle.term_values.specs.PartsView.{parts_listed}
use Rattle.term_values.specs.Syntaxes.{TypeSyntax}
use Rattle.term_values.specs.Syntaxes.TypeSyntax.{Choice, Sequence, SequenceOf, SetOf, SetType, Tagged}
use Rattle.filled_syntaxes.specs.BadDefaults.{BadWithin, IsFilledPart, StandWhere, among_may_miss, one_may_miss}
use Rattle.filled_syntaxes.specs.FilledSyntaxes.{AreFilled, texts_beside}
use Rattle.filled_syntaxes.specs.LinkedMeanings.{linked_arcs}
use Rattle.filled_syntaxes.specs.NotedTexts.{EachText, NotesTexts}
use Rattle.filled_syntaxes.proofs.BadLaws.{AllFilled, OneAmong, all_filled, among_noted, filled_more, stands_at_part}
use Rattle.filled_syntaxes.proofs.NotingTexts.{each_push}
use Rattle.filled_syntaxes.proofs.WalkLaws.{in_choice, in_list, in_sequence, in_set, in_set_of, in_tag, one_noted}
use Rattle.filled_syntaxes.proofs.WalkLaws.{one_stands, part_filled, part_noted, parts_noted, parts_stand}
use Rattle.filled_syntaxes.proofs.filling.Filling.+filling.Goals as goal

pub fill-returns-in_ok-inner-in-Seq-clause-noted : goal.fill-returns-in_ok-inner-in-Seq-clause-noted
fill-returns-in_ok-inner-in-Seq-clause-noted t c = λ ms linked meant f stands.
    let is : c.args.syntax.now ≡ Sequence c.in-Seq.parts = search rules in
    parts_noted in_sequence ms (linked_arcs linked) meant c.args.path.now.items c.in_ok-inner-in-Seq.inner
    (c.in_ok-inner-in-Seq.ensures.noted ms linked meant f
    (parts_stand in_sequence ms meant c.args.path.now.items c.args.syntax.now c.in-Seq.parts is stands))

pub fill-returns-in_ok-inner-in-Unordered-clause-noted : goal.fill-returns-in_ok-inner-in-Unordered-clause-noted
fill-returns-in_ok-inner-in-Unordered-clause-noted t c = λ ms linked meant f stands.
    let is : c.args.syntax.now ≡ SetType c.in-Unordered.parts = search rules in
    parts_noted in_set ms (linked_arcs linked) meant c.args.path.now.items c.in_ok-inner-in-Unordered.inner
    (c.in_ok-inner-in-Unordered.ensures.noted ms linked meant f
    (parts_stand in_set ms meant c.args.path.now.items c.args.syntax.now c.in-Unordered.parts is stands))

pub fill-returns-in_ok-inner-in-Choice-clause-noted : goal.fill-returns-in_ok-inner-in-Choice-clause-noted
fill-returns-in_ok-inner-in-Choice-clause-noted t c = λ ms linked meant f stands.
    let is : c.args.syntax.now ≡ Choice c.in-Choice.parts = search rules in
    parts_noted in_choice ms (linked_arcs linked) meant c.args.path.now.items c.in_ok-inner-in-Choice.inner
    (c.in_ok-inner-in-Choice.ensures.noted ms linked meant f
    (parts_stand in_choice ms meant c.args.path.now.items c.args.syntax.now c.in-Choice.parts is stands))

pub fill-returns-in_ok-copy-in-ListOf-clause-noted : goal.fill-returns-in_ok-copy-in-ListOf-clause-noted
fill-returns-in_ok-copy-in-ListOf-clause-noted t c = λ ms linked meant f stands.
    let is : c.args.syntax.now ≡ SequenceOf c.deref.result.now c.in-ListOf.sizes = search rules in
    let path = c.args.path.now.items in
    subst (λ (x : TypeSyntax). NotesTexts (BadWithin ms (linked_arcs linked) meant path
    (SequenceOf x c.in_ok-copy-in-ListOf.field-0)) c.args.bad.now.first c.fill.new.bad.first)
    (sym c.in_ok-new-in-ListOf.ensures.ok)
    (one_noted (in_list c.in_ok-copy-in-ListOf.field-0) ms (linked_arcs linked) meant path c.in_ok-inner-in-ListOf.inner
    (c.in_ok-inner-in-ListOf.ensures.noted ms linked meant f
    (one_stands (in_list c.in-ListOf.sizes) ms meant path c.args.syntax.now c.deref.result.now is stands)))

pub fill-returns-in_ok-copy-in-SetOf-clause-noted : goal.fill-returns-in_ok-copy-in-SetOf-clause-noted
fill-returns-in_ok-copy-in-SetOf-clause-noted t c = λ ms linked meant f stands.
    let is : c.args.syntax.now ≡ SetOf c.deref-in-SetOf.result.now c.in-SetOf.sizes = search rules in
    let path = c.args.path.now.items in
    subst (λ (x : TypeSyntax). NotesTexts (BadWithin ms (linked_arcs linked) meant path
    (SetOf x c.in_ok-copy-in-SetOf.field-0)) c.args.bad.now.first c.fill-in-SetOf.new.bad.first)
    (sym c.in_ok-new-in-SetOf.ensures.ok)
    (one_noted (in_set_of c.in_ok-copy-in-SetOf.field-0) ms (linked_arcs linked) meant path c.in_ok-inner-in-SetOf.inner
    (c.in_ok-inner-in-SetOf.ensures.noted ms linked meant f
    (one_stands (in_set_of c.in-SetOf.sizes) ms meant path c.args.syntax.now c.deref-in-SetOf.result.now is stands)))

pub fill-returns-in_ok-new-in-Tagged-clause-noted : goal.fill-returns-in_ok-new-in-Tagged-clause-noted
fill-returns-in_ok-new-in-Tagged-clause-noted t c = λ ms linked meant f stands.
    let arm = c.in-Tagged in
    let is : c.args.syntax.now ≡ Tagged arm.tag arm.explicit c.deref-in-Tagged.result.now = search rules in
    let path = c.args.path.now.items in
    subst (λ (x : TypeSyntax). NotesTexts (BadWithin ms (linked_arcs linked) meant path
    (Tagged arm.tag arm.explicit x)) c.args.bad.now.first c.fill-in-Tagged.new.bad.first)
    (sym c.in_ok-new-in-Tagged.ensures.ok)
    (one_noted (in_tag arm.tag arm.explicit) ms (linked_arcs linked) meant path c.in_ok-inner-in-Tagged.inner
    (c.in_ok-inner-in-Tagged.ensures.noted ms linked meant f
    (one_stands (in_tag arm.tag arm.explicit) ms meant path c.args.syntax.now c.deref-in-Tagged.result.now is stands)))

pub fill_part-returns-clause-filled : goal.fill_part-returns-clause-filled
fill_part-returns-clause-filled t c = λ ms linked meant f stands.
    let at = c.args.path.now.items ++ c.args.place ∷ [] in
    let pushed : c.push.new.self.items ≡ at = c.in_ok-push.ensures.items in
    let shown : c.as_slice.result.now ≡ at = c.as_slice.ensures.value ∙ c.in_ok-syntax.ensures.kept ∙ pushed in
    part_filled ms (linked_arcs linked) meant at c.push.new.self.items c.as_slice.result.now c.args.part.now
    c.in_ok-filled.filled c.in_ok-syntax.syntax pushed shown (c.in_ok-syntax.ensures.filled ms linked meant f)
    (c.in_ok-filled.ensures.told ms linked meant f) stands

pub fill_part-returns-clause-noted : goal.fill_part-returns-clause-noted
fill_part-returns-clause-noted t c = λ ms linked meant f stands.
    let at = c.args.path.now.items ++ c.args.place ∷ [] in
    let pushed : c.push.new.self.items ≡ at = c.in_ok-push.ensures.items in
    let shown : c.as_slice.result.now ≡ at = c.as_slice.ensures.value ∙ c.in_ok-syntax.ensures.kept ∙ pushed in
    part_noted ms (linked_arcs linked) meant at c.push.new.self.items c.as_slice.result.now c.args.part.now
    c.in_ok-filled.filled c.in_ok-syntax.syntax pushed shown c.in_ok-filled.ensures.kept
    (c.in_ok-syntax.ensures.noted ms linked meant f) (c.in_ok-filled.ensures.noted ms linked meant f) stands

pub fill_parts-loop-place-preserved : goal.fill_parts-loop-place-preserved
fill_parts-loop-place-preserved t c =
    let xs = c.as_slice-own.result.now in
    let i = c.loop-place.place in
    let x = c.index-own-place.result in
    let y = c.in_ok-fill_part.field-0 in
    let items = c.loop-place.items.items in
    let path = c.args.path.now.items in
    let inv = c.loop-place.invariant in
    let within : i < length xs = omega arith in
    let at : slice_get xs i ≡ Some x = slice_get_read xs (length xs) i x refl within c.index-own-place.is in
    let pushes : c.push.new.self.items ≡ items ++ y ∷ [] = c.in_ok-push.ensures.items in
    let more : take (i + 1) xs ≡ take i xs ++ x ∷ [] =
    take_more xs i x within ∙ ap (λ z. take i xs ++ z ∷ []) (sym c.index-own-place.is) in
    let size = length-take i xs in
    let many : i ≡ length (take i xs) = omega (arith, size, within) in
    record {
      many = ap length pushes ∙ length_push items y ∙ ap (λ n. n + 1) inv.many;
      kept = c.in_ok-fill_part.ensures.kept ∙ inv.kept;
      filled = λ ms linked meant f stands.
          subst (AllFilled ms (linked_arcs linked) meant path 0 (take (i + 1) xs)) (sym pushes)
          (filled_more ms (linked_arcs linked) meant path i (take i xs) (take (i + 1) xs) items x y more many
          (inv.filled ms linked meant f stands)
          (subst (λ p. IsFilledPart ms (linked_arcs linked) meant (p ++ i ∷ []) x y) inv.kept
          (c.in_ok-fill_part.ensures.filled ms linked meant f
          (subst (λ p. StandWhere ms meant (p ++ i ∷ []) (one_may_miss x.optional x.syntax)) (sym inv.kept)
          (stands_at_part ms meant path xs i x at stands)))));
      noted = λ ms linked meant f stands.
          subst (λ zs. NotesTexts (EachText (OneAmong ms (linked_arcs linked) meant path) zs) c.args.bad.now.first
          c.fill_part.new.bad.first) (sym pushes)
          (each_push (OneAmong ms (linked_arcs linked) meant path) items y (inv.noted ms linked meant f stands)
          (subst (λ k. NotesTexts (OneAmong ms (linked_arcs linked) meant path k y) c.loop-place.bad.first
          c.fill_part.new.bad.first) (sym inv.many)
          (subst (λ p. NotesTexts (OneAmong ms (linked_arcs linked) meant p i y) c.loop-place.bad.first
          c.fill_part.new.bad.first) inv.kept
          (c.in_ok-fill_part.ensures.noted ms linked meant f
          (subst (λ p. StandWhere ms meant (p ++ i ∷ []) (one_may_miss x.optional x.syntax)) (sym inv.kept)
          (stands_at_part ms meant path xs i x at stands))))));
    }

pub fill_parts-returns-clause-filled : goal.fill_parts-returns-clause-filled
fill_parts-returns-clause-filled t c = λ ms linked meant f stands.
    let xs = c.as_slice-own.result.now in
    let items = c.loop-place.items.items in
    let path = c.args.path.now.items in
    let view : c.args.parts.now ≡ parts_listed xs = search rules in
    let past : length xs ≤ c.loop-place.place = omega arith in
    subst (λ p. AreFilled (linked_arcs linked) (texts_beside ms meant) path 0 p (parts_listed items)) (sym view)
    (all_filled ms (linked_arcs linked) meant path 0 xs items
    (subst (λ ys. AllFilled ms (linked_arcs linked) meant path 0 ys items) (take_all c.loop-place.place xs past)
    (c.loop-place.invariant.filled ms linked meant f
    (subst (λ p. StandWhere ms meant path (among_may_miss p)) view stands))))

pub fill_parts-returns-clause-noted : goal.fill_parts-returns-clause-noted
fill_parts-returns-clause-noted t c = λ ms linked meant f stands.
    let xs = c.as_slice-own.result.now in
    let path = c.args.path.now.items in
    let view : c.args.parts.now ≡ parts_listed xs = search rules in
    among_noted ms (linked_arcs linked) meant path c.loop-place.items.items
    (c.loop-place.invariant.noted ms linked meant f
    (subst (λ p. StandWhere ms meant path (among_may_miss p)) view stands))
