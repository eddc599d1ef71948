use Rattle.std.proofs.Common.{◌≡◌, ◌∙◌, length, ap, sym}
use Rattle.std.proofs.Math.Path.{subst}
use Rattle.std.proofs.lemmas.Result.{IfOk-weaker}
use Rattle.std.specs.Prelude.{false}
use Rattle.agent_model.specs.declared.limits.Limits.{Limits}
use Rattle.agent_model.specs.Starting.{started}
use Rattle.agent_steps.specs.Asking.{has_unbuilt}
use Rattle.script_lines.specs.declared.script_text.ScriptText.{ScriptText}
use Rattle.script_playing.specs.Scripts.{HasRoomTold, IfEnded, IsTold}
use Rattle.run_command.specs.RunCauses.{HasEndedCause, HasPlayCause}
use Rattle.run_command.proofs.PlayLaws.{AreRead, Comes, ends, in_err, is_played, of_ended, of_ending, of_full}
use Rattle.run_command.proofs.PlayLaws.{whole_lines}
use Rattle.run_command.proofs.running.play_on.Goals as goal

pub returns-in-Ended-clause-text : goal.returns-in-Ended-clause-text
returns-in-Ended-clause-text g c =
    let schema = c.args.schema in
    let objects = c.args.objects in
    let lines = c.in_ok-read.read.lines in
    let said = c.in_ok-read.ensures.lines in
    let first = c.new-agent.result in
    let play = c.in-Ended.play in
    let of = c.in_ok-play.ensures in
    let same = c.new-agent.ensures ∙ ap (λ (l : Limits). started schema l objects) c.shipped.ensures in
    let told = subst (λ e. IsTold first lines e) c.in-Ended.is of.played in
    let comes = subst (λ e. IfEnded (λ p. has_unbuilt p.agent ≡ false → Comes first lines p) e) c.in-Ended.is
    (of_ending first lines _ of.frames of.legal of.replayed of.held of.settled) in
    let whole_is = ap (λ (r : ScriptText). r.is_whole) c.read.view_is in
    IfOk-weaker c.ended_text-text.result _ _
    (λ text facts. record {
      lines = lines;
      spelt =
          whole_lines c.args.script.now lines c.in_ok-read.read.is_whole
          (record { rest = said.0; spelt = said.1; whole = said.2 }) (sym whole_is ∙ facts.0);
      is_played =
          is_played schema objects first lines play text.items same
          (ends schema objects first lines play same told (comes facts.1) c.requires.good c.objects_stay_good.ensures)
          (subst (λ e. HasRoomTold first e) c.in-Ended.is of.room) facts.2;
    })
    c.ended_text-text.ensures.text

pub returns-in-Ended-clause-cause : goal.returns-in-Ended-clause-cause
returns-in-Ended-clause-cause g c =
    let schema = c.args.schema in
    let objects = c.args.objects in
    let script = c.args.script.now in
    let lines = c.in_ok-read.read.lines in
    let said = c.in_ok-read.ensures.lines in
    let first = c.new-agent.result in
    let play = c.in-Ended.play in
    let same = c.new-agent.ensures ∙ ap (λ (l : Limits). started schema l objects) c.shipped.ensures in
    let told = subst (λ e. IsTold first lines e) c.in-Ended.is c.in_ok-play.ensures.played in
    let whole_is = ap (λ (r : ScriptText). r.is_whole) c.read.view_is in
    let lines_are = ap (λ (r : ScriptText). r.lines) c.read.view_is in
    in_err (HasEndedCause play.agent _ (length c.as_slice.result.now)) (HasPlayCause schema objects script)
    c.ended_text-text.result
    (λ e cause. of_ended schema objects first script lines play _ (length c.as_slice.result.now) e same told
    (subst (λ b. AreRead script lines b) (sym whole_is) (record { rest = said.0; spelt = said.1; whole = said.2 }))
    (ap (λ xs. length xs) (c.as_slice.ensures.value ∙ lines_are)) cause)
    c.ended_text-text.ensures.bad

pub refusal_of_full-refusal-requires-clause-within : goal.refusal_of_full-refusal-requires-clause-within
refusal_of_full-refusal-requires-clause-within g c =
    (subst (λ e. HasRoomTold c.new-agent.result e) c.in-Full.is c.in_ok-play.ensures.room).0

pub returns-in-Full-clause-cause : goal.returns-in-Full-clause-cause
returns-in-Full-clause-cause g c =
    let schema = c.args.schema in
    let objects = c.args.objects in
    let script = c.args.script.now in
    let lines = c.in_ok-read.read.lines in
    let said = c.in_ok-read.ensures.lines in
    let first = c.new-agent.result in
    let play = c.in-Full.play in
    let of = c.in_ok-play.ensures in
    let same = c.new-agent.ensures ∙ ap (λ (l : Limits). started schema l objects) c.shipped.ensures in
    let told = subst (λ e. IsTold first lines e) c.in-Full.is of.played in
    let comes = subst (λ e. IfEnded (λ p. has_unbuilt p.agent ≡ false → Comes first lines p) e) c.in-Full.is
    (of_ending first lines _ of.frames of.legal of.replayed of.held of.settled) in
    let whole_is = ap (λ (r : ScriptText). r.is_whole) c.read.view_is in
    let lines_are = ap (λ (r : ScriptText). r.lines) c.read.view_is in
    of_full schema objects first script lines play c.in-Full.place _ (length c.as_slice.result.now)
    c.refusal_of_full-refusal.result same told
    (subst (λ b. AreRead script lines b) (sym whole_is) (record { rest = said.0; spelt = said.1; whole = said.2 }))
    (ap (λ xs. length xs) (c.as_slice.ensures.value ∙ lines_are))
    (λ built. ends schema objects first lines play same told (comes built) c.requires.good c.objects_stay_good.ensures)
    (subst (λ e. HasRoomTold first e) c.in-Full.is of.room).1 c.refusal_of_full-refusal.ensures
