use Rattle.std.proofs.Common.{refl, ◌≡◌, ◌++◌, [], ◌∷◌, Some, rules}
use Rattle.std.proofs.Common.{sym, ap, ◌∙◌, subst}
use Rattle.agent_model.specs.declared.entry.Entry.TheVariants.{Committed}
use Rattle.agent_model.specs.Played.{Play}
use Rattle.agent_model.specs.Stepping.{step}
use Rattle.script_playing.specs.Ready.{IsKept}
use Rattle.script_playing.proofs.KeptLaws.{kept_committed}
use Rattle.agent_steps.specs.States.{moment_of_grant}
use Rattle.script_playing.proofs.AnsweringLaws.{commits_where_granted}
use Rattle.script_playing.specs.Watching.{IsWatched}
use Rattle.script_playing.proofs.WatchingLaws.{watched_at}
use Rattle.script_playing.proofs.entering.Run.commit.Goals as goal

pub returns-clause-kept : goal.returns-clause-kept
returns-clause-kept g c =
    let number = c.args.number in
    let next = Committed number in
    let kept = subst (λ (p : Play). IsKept p.agent p.journal) (sym c.self.view_is) c.requires.kept in
    let granted =
    subst (λ (p : Play). moment_of_grant p.agent number ≡ Some p.moment) (sym c.self.view_is) c.requires.granted in
    kept_committed c.self.inside.agent c.commit.new.self c.self.inside.journal.items c.write_down.new.journal.items
    number kept (commits_where_granted c.self.inside.agent number c.self.inside.moment granted) (search rules)
    c.in_ok-commit.ensures.small c.in_ok-commit.ensures.stepped
    (c.write_down.ensures ∙ ap (λ xs. xs ++ next ∷ []) c.in_ok-make_room.ensures.kept)

pub returns-clause-watched : goal.returns-clause-watched
returns-clause-watched g c first w =
    let agent = c.self.inside.agent in
    let journal = c.self.inside.journal.items in
    let next = Committed c.args.number in
    let kept = subst (λ (p : Play). IsKept p.agent p.journal) (sym c.self.view_is) c.requires.kept in
    let known =
    subst (λ (p : Play). IsWatched first p.agent p.journal c.args.watch.now) (sym c.self.view_is) w in
    watched_at first (step agent next) c.commit.new.self (journal ++ next ∷ []) c.write_down.new.journal.items
    c.count.new.self (c.in_ok-count.ensures.watched first agent journal kept.counted refl known)
    c.in_ok-commit.ensures.stepped
    (c.write_down.ensures ∙ ap (λ xs. xs ++ next ∷ []) c.in_ok-make_room.ensures.kept)
