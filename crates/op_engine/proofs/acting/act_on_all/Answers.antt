-- One object after the other.
use Rattle.std.proofs.Common.{◌≡◌, ◌≤◌, ◌+◌, ◌∷◌, ◌∙◌, ap, arith, drop, sym}
use Rattle.std.proofs.lemmas.List.{drop_more}
use Rattle.std.proofs.lemmas.List.Elements.{recursion_from_All}
use Rattle.term_model.specs.declared.objects.NamedObject.{NamedObject}
use Rattle.term_model.specs.BoundClasses.{object_size}
use Rattle.term_model.specs.NamedObjects.{names}
use Rattle.scope_select.specs.Subtrees.{referred}
use Rattle.op_engine.specs.Acting.{act_of, noted_of}
use Rattle.op_engine.specs.Selecting.{IsThere}
use Rattle.op_engine.proofs.SelectLaws.{held_of}
use Rattle.op_engine.proofs.acting.act_on_all.Goals as goal

pub act_on-requires : goal.act_on-requires
act_on-requires c =
    let schema = c.args.schema.now in
    let entries = c.args.entries.now in
    let x = c.entry-item.result in
    record {
      small = held_of (λ (one : NamedObject). object_size schema one.object ≤ 16384) entries c.loop-entry.entry-index
          x x (omega arith) c.entry-item.is
          (recursion_from_All (λ (one : NamedObject). object_size schema one.object ≤ 16384) (referred entries)
          c.requires.small);
    }

pub loop-entry-preserved : goal.loop-entry-preserved
loop-entry-preserved c = λ objects there.
    let act = act_of c.args.schema.now c.args.request.now c.args.time in
    let entries = c.args.entries.now in
    let i = c.loop-entry.entry-index in
    let x = c.entry-item.result in
    let next : drop i entries ≡ x ∷ drop (i + 1) entries =
    drop_more entries i x (omega arith) ∙ ap (λ z. z ∷ drop (i + 1) entries) (sym c.entry-item.is) in
    let one =
    c.in_ok-act_on.ensures objects (held_of (IsThere objects) entries i x x (omega arith) c.entry-item.is there) in
    ap (λ so_far. noted_of c.args.atomic act objects so_far (names (referred (drop (i + 1) entries)))) one
    ∙ ap (λ es. noted_of c.args.atomic act objects c.loop-entry.so_far (names (referred es))) (sym next)
    ∙ c.loop-entry.invariant objects there
