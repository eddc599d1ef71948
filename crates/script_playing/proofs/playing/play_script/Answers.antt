use Rattle.std.proofs.Common.{◌≡◌, ℕ, true, sym, ap, ◌∙◌, subst}
use Rattle.std.specs.List.{All}
use Rattle.agent_model.specs.declared.limits.Limits.{Limits}
use Rattle.term_model.specs.declared.schema.Set.{Set}
use Rattle.agent_model.specs.History.{came}
use Rattle.agent_model.specs.Played.{Play}
use Rattle.agent_model.specs.Settled.{IsSettled}
use Rattle.agent_model.specs.TextLaws.{IsEntry}
use Rattle.agent_model.specs.Journals.{is_legal_journal, replayed}
use Rattle.agent_model.specs.Playing.{ended, frames_of}
use Rattle.agent_model.proofs.FrameLaws.{script_frames}
use Rattle.script_playing.specs.Ready.{IsKept}
use Rattle.script_playing.specs.Watching.{IsWatched}
use Rattle.script_playing.proofs.LineLaws.{all_played, script_comes, script_ground, script_journaled, script_settled}
use Rattle.script_playing.proofs.TellingLaws.{ended_told, if_ended, if_told}
use Rattle.script_playing.proofs.WatchingLaws.{watched_begun}
use Rattle.script_playing.proofs.playing.play_script.Goals as goal

pub invariant_of-play : goal.invariant_of-play
invariant_of-play g c =
    let agent = c.args.agent in
    let lines = c.args.lines in
    let last = c.play_lines.new.self in
    let play : Play = record {
      agent = c.run-2.inside.agent;
      journal = c.run-2.inside.journal.items;
      moment = c.run-2.inside.moment;
    } in
    let played = all_played agent lines c.lines.inside.items.items c.new.result.items c.in_ok-number.field-0 last
    c.lines.view_is c.new.ensures.items c.in_default.not-Some c.in_ok-number.ensures.played in
    let is : play ≡ ended last = c.run-2.view_is ∙ c.in_ok-end.ensures.ended in
    script_journaled agent lines last play c.requires.fresh played is
    (subst (λ (p : Play). IsKept p.agent p.journal) (sym c.run-2.view_is) c.in_ok-end.ensures.kept)

pub returns-clause-played : goal.returns-clause-played
returns-clause-played g c =
    let agent = c.args.agent in
    let lines = c.args.lines in
    let last = c.play_lines.new.self in
    ended_told agent lines _ c.told.result c.told.ensures.play (
      last,
      all_played agent lines c.lines.inside.items.items c.new.result.items c.in_ok-number.field-0 last
          c.lines.view_is c.new.ensures.items c.in_default.not-Some c.in_ok-number.ensures.played,
      c.run-2.view_is ∙ c.in_ok-end.ensures.ended,
    )

pub returns-clause-room : goal.returns-clause-room
returns-clause-room g c =
    let agent = c.args.agent in
    let begun = watched_begun agent c.new.result.items c.new-watch.result c.new.ensures.items c.new-watch.ensures in
    let known = c.in_ok-end.ensures.watched agent (c.in_ok-number.ensures.watched agent begun) in
    c.told.ensures.room agent
    (subst (λ (p : Play). IsWatched agent p.agent p.journal c.end.new.watch) (sym c.run-2.view_is) known).told

pub returns-clause-legal : goal.returns-clause-legal
returns-clause-legal g c =
    let agent = c.args.agent in
    let lines = c.args.lines in
    if_ended (λ play. is_legal_journal agent play.journal ≡ true) agent lines c.told.result (returns-clause-played g c)
    (λ last e. (script_comes agent lines last c.requires.fresh e).legal)

pub returns-clause-replayed : goal.returns-clause-replayed
returns-clause-replayed g c =
    let agent = c.args.agent in
    let lines = c.args.lines in
    if_ended (λ play. replayed agent play.journal ≡ play.agent) agent lines c.told.result (returns-clause-played g c)
    (λ last e. (script_comes agent lines last c.requires.fresh e).comes)

pub returns-clause-held : goal.returns-clause-held
returns-clause-held g c =
    if_told (λ play. All IsEntry play.journal) _ c.told.result c.told.ensures.play
    (subst (λ (p : Play). IsKept p.agent p.journal) (sym c.run-2.view_is) c.in_ok-end.ensures.kept).held

pub returns-clause-frames : goal.returns-clause-frames
returns-clause-frames g c =
    let agent = c.args.agent in
    let lines = c.args.lines in
    if_ended (λ play. (number : ℕ) → came number play.journal ≡ frames_of number 0 lines) agent lines c.told.result
    (returns-clause-played g c) (λ last e number. script_frames agent lines last c.requires.fresh.unopened e number)

pub returns-clause-settled : goal.returns-clause-settled
returns-clause-settled g c =
    let agent = c.args.agent in
    let lines = c.args.lines in
    if_ended (λ play. IsSettled play.agent) agent lines c.told.result (returns-clause-played g c)
    (λ last e. script_settled agent lines last c.requires.fresh e)

pub returns-clause-schema : goal.returns-clause-schema
returns-clause-schema g c =
    let agent = c.args.agent in
    let lines = c.args.lines in
    if_ended (λ play. play.agent.schema ≡ agent.schema) agent lines c.told.result (returns-clause-played g c)
    (λ last e. ap (λ (h : Set × Limits). h.0) (script_ground agent lines last e))

pub returns-clause-limits : goal.returns-clause-limits
returns-clause-limits g c =
    let agent = c.args.agent in
    let lines = c.args.lines in
    if_ended (λ play. play.agent.limits ≡ agent.limits) agent lines c.told.result (returns-clause-played g c)
    (λ last e. ap (λ (h : Set × Limits). h.1) (script_ground agent lines last e))
