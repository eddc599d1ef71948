use Rattle.std.proofs.Common.{◌≡◌, ◌<◌, ◌++◌, [], ◌∷◌, ℕ, List, Fits, w8, get_or, slice_index, rules, arith}
use Rattle.std.proofs.Common.{sym, ap, ◌∙◌, subst}
use Rattle.agent_model.specs.declared.entry.Entry.TheVariants.{Arrived}
use Rattle.agent_model.specs.Played.{Play}
use Rattle.agent_model.specs.Step.{is_legal}
use Rattle.agent_model.specs.Stepping.{step}
use Rattle.script_playing.specs.Ready.{IsKept}
use Rattle.script_playing.proofs.KeptLaws.{kept_more}
use Rattle.script_playing.specs.Watching.{IsWatched}
use Rattle.script_playing.proofs.WatchingLaws.{watched_at}
use Rattle.script_playing.proofs.entering.Run.arrive.Goals as goal

pub returns-clause-kept : goal.returns-clause-kept
returns-clause-kept g c =
    let agent = c.self.inside.agent in
    let number = c.args.number in
    let next = Arrived number c.args.apdu in
    let kept = subst (λ (p : Play). IsKept p.agent p.journal) (sym c.self.view_is) c.requires.kept in
    let fits : (k : ℕ) → Fits w8 (get_or c.as_slice-octets.result.now k 0) = search rules in
    let octets : (k : ℕ) → slice_index c.args.apdu k < 256 =
    subst (λ (bs : List ℕ). (k : ℕ) → slice_index bs k < 256) c.as_slice-octets.ensures
    (λ k. let small = fits k in omega arith) in
    let stepped : c.arrive.new.self ≡ step agent next =
    c.in_ok-arrive.ensures.stepped ∙ ap (λ bs. step agent (Arrived number bs)) c.as_slice-octets.ensures in
    kept_more agent c.arrive.new.self c.self.inside.journal.items c.write_down.new.journal.items next kept
    (ap (λ (p : Play). is_legal p.agent next) c.self.view_is ∙ c.requires.legal) (search rules, octets) tt tt stepped
    (c.write_down.ensures ∙ ap (λ xs. xs ++ next ∷ []) c.in_ok-make_room.ensures.kept)

pub returns-clause-watched : goal.returns-clause-watched
returns-clause-watched g c first w =
    let agent = c.self.inside.agent in
    let journal = c.self.inside.journal.items in
    let next = Arrived c.args.number c.args.apdu in
    let kept = subst (λ (p : Play). IsKept p.agent p.journal) (sym c.self.view_is) c.requires.kept in
    let known =
    subst (λ (p : Play). IsWatched first p.agent p.journal c.args.watch.now) (sym c.self.view_is) w in
    let stepped : c.arrive.new.self ≡ step agent next =
    c.in_ok-arrive.ensures.stepped ∙ ap (λ bs. step agent (Arrived c.args.number bs)) c.as_slice-octets.ensures in
    watched_at first (step agent next) c.arrive.new.self (journal ++ next ∷ []) c.write_down.new.journal.items
    c.ask.new.self (c.in_ok-ask.ensures first agent journal kept.counted c.before-places.ensures.places known) stepped
    (c.write_down.ensures ∙ ap (λ xs. xs ++ next ∷ []) c.in_ok-make_room.ensures.kept)
