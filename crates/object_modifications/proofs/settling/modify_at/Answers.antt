-- The attribute at the place is changed, or is as it was.
use Rattle.std.proofs.Common.{rules, ◌≡◌, ◌<◌, ap, get_or, length, subst, sym, ◌∙◌}
use Rattle.attribute_rules.proofs.PlaceLaws.{stands_at}
use Rattle.object_modifications.specs.declared.knowing.Knowledge.{Knowledge}
use Rattle.object_modifications.specs.declared.knowing.Knowledge.TheVariants.{Untried}
use Rattle.object_modifications.specs.declared.settling.Modified.{Modified as Kept}
use Rattle.object_modifications.specs.Knowing.{Knows}
use Rattle.object_modifications.proofs.SettlingLaws.{known_there, made_at, on_ok, refused_at}
use Rattle.object_modifications.proofs.settling.modify_at.Goals as goal

pub change_at-requires-clause-within : goal.change_at-requires-clause-within
change_at-requires-clause-within c =
    subst (λ (k : Kept). c.args.place < length k.object.attrs) (sym c.made.view_is)
    (stands_at c.args.made.now.object.attrs c.args.id.now c.args.place c.requires.place).within

pub change_at-requires-clause-known : goal.change_at-requires-clause-known
change_at-requires-clause-known c = λ d.
    let before = c.args.made.now in
    let syntax = c.args.syntax.now in
    let permitted = c.args.property.now.permitted in
    let slice : c.as_slice.result.now ≡ before.knowledge.items = search rules in
    let told : c.known_at-told.result ≡ get_or before.knowledge.items c.args.place Untried =
    c.known_at-told.ensures ∙ ap (λ ks. get_or ks c.args.place Untried) slice in
    subst
    (λ (k : Kept). Knows syntax permitted (get_or k.object.attrs c.args.place d).value c.known_at-told.result)
    (sym c.made.view_is)
    (subst (λ (t : Knowledge). Knows syntax permitted (get_or before.object.attrs c.args.place d).value t) (sym told)
    (known_there c.args.schema.now c.args.seen.now before.object before.size before.knowledge.items c.args.id.now
    c.args.place syntax c.args.property.now c.requires.made c.requires.place c.requires.property c.requires.syntax d))

pub returns-in-Some : goal.returns-in-Some
returns-in-Some c =
    on_ok c.settle.result c.settle.ensures
    (λ settles.
    made_at c.args.schema.now c.args.seen.now c.args.change.now c.args.id.now c.args.place c.args.syntax.now
    c.args.property.now c.change_at.new.attributes.items c.in_ok-came.came c.in-Some.size c.note.new.knowledge.items
    _ c.args.made.now c.settle.new.made c.made.view_is c.in_ok-came.ensures c.in-Some.is c.note.ensures settles
    c.requires.made c.requires.place c.requires.property c.requires.syntax)

pub returns-in-None : goal.returns-in-None
returns-in-None c =
    on_ok c.fail.result c.fail.ensures.noted
    (λ noted.
    refused_at c.args.schema.now c.args.seen.now c.args.change.now c.args.id.now c.args.place c.args.syntax.now
    c.args.property.now c.change_at.new.attributes.items c.in_ok-came.came c.note.new.knowledge.items
    _ c.args.made.now c.fail.new.made c.made.view_is c.in_ok-came.ensures c.in-None.is c.note.ensures
    c.fail.ensures.kept noted c.requires.made c.requires.place c.requires.property c.requires.syntax)
