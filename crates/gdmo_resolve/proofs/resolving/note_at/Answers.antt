-- The targets of the template are there.
use Rattle.std.proofs.Common.{◌∙◌, ap, subst, sym}
use Rattle.std.specs.Borrow.{Bor}
use Rattle.std.specs.Prelude.{Option, ℕ, option_map}
use Rattle.std.specs.Global.{Vec}
use Rattle.std.proofs.lemmas.Option.{none-some, same_Some}
use Rattle.gdmo_names.specs.FoundViews.{found_term}
use Rattle.gdmo_names.specs.InStep.{AreEach}
use Rattle.gdmo_names.specs.Mentions.{template_mentions}
use Rattle.gdmo_names.specs.TargetTables.{TellsMention, TellsTargets}
use Rattle.gdmo_types.proofs.StepLaws.{beside}
use Rattle.gdmo_resolve.proofs.resolving.note_at.Goals as goal

pub returns-in-Some : goal.returns-in-Some
returns-in-Some c = λ ps names modules has tells at.
    let xs = c.args.templates.now in
    let own = c.args.found.now in
    let each = beside (TellsTargets ps xs) xs c.args.targets.now c.args.place own tells at in
    let is = same_Some each.0 c.in-Some.own.now (sym each.1 ∙ sym c.targets_at.ensures
    ∙ ap (option_map (λ (x : Bor (Vec (Option ℕ))). x.now)) c.in-Some.is) in
    c.note_named.ensures ps names modules has
    (subst (AreEach (TellsMention ps xs own.document) (template_mentions (found_term own)))
    (sym c.as_slice.ensures.value) (subst (TellsTargets ps xs own) is each.2))

pub returns-in-None : goal.returns-in-None
returns-in-None c = λ ps names modules has tells at.
    let xs = c.args.templates.now in
    let each = beside (TellsTargets ps xs) xs c.args.targets.now c.args.place c.args.found.now tells at in
    absurd (none-some each.0 (sym (sym each.1 ∙ sym c.targets_at.ensures
    ∙ ap (option_map (λ (x : Bor (Vec (Option ℕ))). x.now)) c.in-None.is)))
