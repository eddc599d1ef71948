use Rattle.std.proofs.Common.{refl, ◌++◌, [], ◌∷◌, rules}
use Rattle.std.proofs.Common.{sym, ap, ◌∙◌, subst}
use Rattle.agent_model.specs.declared.entry.Entry.TheVariants.{Closed}
use Rattle.agent_model.specs.Played.{Play}
use Rattle.agent_model.specs.Step.{is_legal}
use Rattle.agent_model.specs.Stepping.{step}
use Rattle.script_playing.specs.Ready.{IsKept}
use Rattle.script_playing.proofs.KeptLaws.{kept_more}
use Rattle.agent_model.specs.declared.entry.Why.TheVariants.{End}
use Rattle.script_playing.specs.Watching.{IsWatched}
use Rattle.script_playing.proofs.WatchingLaws.{watched_at}
use Rattle.script_playing.proofs.entering.Run.close_at_end.Goals as goal

pub returns-clause-kept : goal.returns-clause-kept
returns-clause-kept g c =
    let next = Closed c.args.number End in
    let kept = subst (λ (p : Play). IsKept p.agent p.journal) (sym c.self.view_is) c.requires.kept in
    kept_more c.self.inside.agent c.close_at_end.new.self c.self.inside.journal.items c.write_down.new.journal.items
    next kept (ap (λ (p : Play). is_legal p.agent next) c.self.view_is ∙ c.requires.legal) (search rules, tt) tt tt
    c.close_at_end.ensures
    (c.write_down.ensures ∙ ap (λ xs. xs ++ next ∷ []) c.in_ok-make_room.ensures.kept)

pub returns-clause-watched : goal.returns-clause-watched
returns-clause-watched g c first w =
    let agent = c.self.inside.agent in
    let journal = c.self.inside.journal.items in
    let next = Closed c.args.number End in
    let kept = subst (λ (p : Play). IsKept p.agent p.journal) (sym c.self.view_is) c.requires.kept in
    let known =
    subst (λ (p : Play). IsWatched first p.agent p.journal c.args.watch.now) (sym c.self.view_is) w in
    watched_at first (step agent next) c.close_at_end.new.self (journal ++ next ∷ []) c.write_down.new.journal.items
    c.count.new.self (c.in_ok-count.ensures.watched first agent journal kept.counted refl known) c.close_at_end.ensures
    (c.write_down.ensures ∙ ap (λ xs. xs ++ next ∷ []) c.in_ok-make_room.ensures.kept)
