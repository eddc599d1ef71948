use Rattle.std.proofs.Common.{◌≡◌, ℕ, ◌<◌, true, length, sym, ap, ◌∙◌, subst}
use Rattle.std.proofs.lemmas.Result.{on_ok_weaker}
use Rattle.agent_model.specs.declared.entry.Entry.{Entry}
use Rattle.agent_model.specs.declared.entry.Entry.TheVariants.{Arrived, Granted}
use Rattle.agent_model.specs.Played.{Play}
use Rattle.agent_model.specs.Step.{is_legal}
use Rattle.agent_model.specs.Playing.{answered, taken_all, with_entry}
use Rattle.script_playing.specs.Ready.{HaveEnded}
use Rattle.script_playing.proofs.LineLaws.{send_grants, send_legal, send_line, send_midway}
use Rattle.script_playing.proofs.entering.Run.play_send.Goals as goal

pub arrive-requires-clause-legal : goal.arrive-requires-clause-legal
arrive-requires-clause-legal g c =
    send_legal c.args.self.now c.args.number c.args.apdu c.requires.ready c.requires.live

pub answer-requires-clause-legal : goal.answer-requires-clause-legal
answer-requires-clause-legal g c =
    let old = c.args.self.now in
    let number = c.args.number in
    let before = c.count_operations-before.result in
    let next = with_entry old (Arrived number c.args.apdu) in
    let same : before ≡ length old.agent.operations = c.count_operations-before.ensures in
    subst (λ (p : Play). before < length p.agent.operations
    → is_legal p.agent (Granted (length p.agent.operations) p.moment) ≡ true) (sym c.in_ok-arrive.ensures.entered)
    (λ h. send_grants old number c.args.apdu c.requires.ready c.requires.live
    (subst (λ n. n < length next.agent.operations) same h))

answered_is : (old arrived done : Play) (before : ℕ) (next : Entry) → before ≡ length old.agent.operations
    → arrived ≡ with_entry old next → done ≡ answered before arrived
    → done ≡ answered (length old.agent.operations) (with_entry old next)
answered_is old arrived done before next count entered is =
    is ∙ (ap (λ p. answered before p) entered ∙ ap (λ n. answered n (with_entry old next)) count)

pub take-requires-clause-ended : goal.take-requires-clause-ended
take-requires-clause-ended g c =
    let old = c.args.self.now in
    let next = Arrived c.args.number c.args.apdu in
    subst (λ (p : Play). HaveEnded p.agent.operations)
    (sym (answered_is old c.arrive.new.self c.answer.new.self c.count_operations-before.result next
    c.count_operations-before.ensures c.in_ok-arrive.ensures.entered c.in_ok-answer.ensures.answered))
    (send_midway old c.args.number c.args.apdu c.requires.ready c.requires.live).ended

pub returns-clause-watched : goal.returns-clause-watched
returns-clause-watched g c =
    on_ok_weaker c.take.result
    (λ h first w. h first (c.in_ok-answer.ensures.watched first (c.in_ok-arrive.ensures.watched first w)))
    c.take.ensures.watched

pub returns-clause-played : goal.returns-clause-played
returns-clause-played g c =
    let old = c.args.self.now in
    let number = c.args.number in
    let done = answered_is old c.arrive.new.self c.answer.new.self c.count_operations-before.result
    (Arrived number c.args.apdu) c.count_operations-before.ensures c.in_ok-arrive.ensures.entered
    c.in_ok-answer.ensures.answered in
    on_ok_weaker c.take.result
    (λ e. e ∙ (ap (λ p. taken_all number p) done
    ∙ sym (send_line old number c.args.apdu c.requires.ready c.requires.live)))
    c.take.ensures.taken
