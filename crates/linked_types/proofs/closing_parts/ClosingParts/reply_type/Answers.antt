-- The place that is told, where there is one.
use Rattle.std.proofs.Common.{◌≡◌, ◌∙◌, None, Some, ap, sym}
use Rattle.std.specs.Prelude.{slice_get}
use Rattle.std.specs.Option.{option_copied}
use Rattle.asn1_names.proofs.TableAnswers.{item_is}
use Rattle.linked_types.proofs.NamingLaws.{no_gap}
use Rattle.linked_types.proofs.closing_parts.ClosingParts.reply_type.Goals as goal

pub returns-in-Some : goal.returns-in-Some
returns-in-Some c = λ ms x known at.
    let parts = c.args.self.now in
    let there : slice_get parts.types.now.actions.items c.args.action ≡ Some c.in-Some.types.now =
    sym (ap (λ xs. slice_get xs c.args.action) c.deref.ensures.value) ∙ sym
    (item_is c.deref.result.now c.args.action c.get.result
    c.get.ensures.lookup.0 c.get.ensures.lookup.1) ∙ ap option_copied c.in-Some.is in
    (known.types_are.of_actions.told c.args.action x c.in-Some.types.now at there).of_reply

pub returns-in-None : goal.returns-in-None
returns-in-None c = λ ms x known at.
    let parts = c.args.self.now in
    let there : slice_get parts.types.now.actions.items c.args.action ≡ None =
    sym (ap (λ xs. slice_get xs c.args.action) c.deref.ensures.value) ∙ sym
    (item_is c.deref.result.now c.args.action c.get.result
    c.get.ensures.lookup.0 c.get.ensures.lookup.1) ∙ ap option_copied c.in-None.is in
    absurd (no_gap c.args.action x known.types_are.of_actions at there)
