use Rattle.std.proofs.Common.{◌≡◌, ◌++◌, [], ◌∷◌, rules}
use Rattle.std.proofs.Common.{sym, ap, ◌∙◌, subst}
use Rattle.agent_model.specs.declared.entry.Entry.TheVariants.{Taken}
use Rattle.agent_model.specs.Played.{Play}
use Rattle.agent_model.specs.Stepping.{step}
use Rattle.script_playing.specs.Ready.{IsKept}
use Rattle.script_playing.proofs.KeptLaws.{kept_more}
use Rattle.std.proofs.lemmas.Bool.{ne_eqb}
use Rattle.agent_model.specs.AgentState.{association_of}
use Rattle.agent_model.proofs.StandingLaws.{left_stands}
use Rattle.agent_model.proofs.StepLaws.{takes_what_is_left}
use Rattle.script_playing.specs.Watching.{IsWatched}
use Rattle.script_playing.proofs.WatchingLaws.{watched_at}
use Rattle.script_playing.proofs.entering.Run.take.Goals as goal

pub returns-clause-kept : goal.returns-clause-kept
returns-clause-kept g c =
    let agent = c.self.inside.agent in
    let number = c.args.number in
    let count = c.take_all-count.result in
    let next = Taken number count in
    let some : count ≡ 0 → ⊥ = search rules in
    let kept = subst (λ (p : Play). IsKept p.agent p.journal) (sym c.self.view_is) c.requires.kept in
    let left = left_stands (association_of agent number) count c.take_all-count.ensures.count some in
    let stepped : c.take_all-count.new.self ≡ step agent next =
    rw (ne_eqb count 0 some) at c.take_all-count.ensures.taken in
    kept_more agent c.take_all-count.new.self c.self.inside.journal.items c.write_down.new.journal.items next kept
    (takes_what_is_left agent number count left.0 left.1 left.2 some) (search rules, search rules) tt tt stepped
    (c.write_down.ensures ∙ ap (λ xs. xs ++ next ∷ []) c.in_ok-make_room.ensures.kept)

pub returns-clause-watched : goal.returns-clause-watched
returns-clause-watched g c first w =
    let agent = c.self.inside.agent in
    let journal = c.self.inside.journal.items in
    let next = Taken c.args.number c.take_all-count.result in
    let kept = subst (λ (p : Play). IsKept p.agent p.journal) (sym c.self.view_is) c.requires.kept in
    let known =
    subst (λ (p : Play). IsWatched first p.agent p.journal c.args.watch.now) (sym c.self.view_is) w in
    let some : c.take_all-count.result ≡ 0 → ⊥ = search rules in
    let stepped : c.take_all-count.new.self ≡ step agent next =
    rw (ne_eqb c.take_all-count.result 0 some) at c.take_all-count.ensures.taken in
    watched_at first (step agent next) c.take_all-count.new.self (journal ++ next ∷ []) c.write_down.new.journal.items
    c.ask.new.self (c.in_ok-ask.ensures first agent journal kept.counted c.before-places.ensures.places known) stepped
    (c.write_down.ensures ∙ ap (λ xs. xs ++ next ∷ []) c.in_ok-make_room.ensures.kept)
