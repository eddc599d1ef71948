-- What the program holds of a play, once an entry more is written down.
use Rattle.std.proofs.Common.{◌≡◌, ℕ, ◌+◌, ◌≤◌, true, List, [], ◌∷◌, ◌++◌, length, sym, ap, ◌∙◌, arith, subst}
use Rattle.std.proofs.lemmas.List.{length_push}
use Rattle.std.proofs.lemmas.List.Elements.{All-push}
use Rattle.agent_model.specs.declared.agent_state.AgentState.{AgentState}
use Rattle.agent_model.specs.declared.entry.Entry.{Entry}
use Rattle.agent_model.specs.declared.entry.Entry.TheVariants as entry
use Rattle.agent_model.specs.declared.limits.Limits.{Limits}
use Rattle.term_model.specs.declared.schema.Set.{Set}
use Rattle.agent_model.specs.Step.{is_legal}
use Rattle.agent_model.specs.TextLaws.{IsEntry}
use Rattle.operation_model.specs.OperationConditions.{AreSmall}
use Rattle.agent_model.specs.Stepping.{step}
use Rattle.agent_model.proofs.FrameLaws.{opened_count, step_count}
use Rattle.agent_model.proofs.KeepingLaws.{CommitsNone, OpensNone}
use Rattle.agent_model.proofs.StepLaws.{legal_counts, next_opens, step_ground, step_objects}
use Rattle.script_playing.specs.Ready.{IsKept}

-- but for a commitment, objects and records are as they were
small_more : (agent : AgentState) (next : Entry) → CommitsNone next → AreSmall agent.schema agent.objects
    → AreSmall (step agent next).schema (step agent next).objects
small_more agent next none small =
    subst (λ (g : Set × Limits). AreSmall g.0 (step agent next).objects) (sym (step_ground agent next))
    (subst (AreSmall agent.schema) (sym (step_objects agent next none)) small)

kept_where : (agent : AgentState) (journal : List Entry) (next : Entry) → IsKept agent journal
    → is_legal agent next ≡ true → IsEntry next
    → length (step agent next).associations ≤ length journal + 1
    → AreSmall (step agent next).schema (step agent next).objects → IsKept (step agent next) (journal ++ next ∷ [])
kept_where agent journal next k legal held few small =
    let one = length_push journal next in
    record {
      counted = legal_counts agent next legal ∙ (ap (λ n. n + 1) k.counted ∙ sym one);
      few = omega (arith, one, few);
      held = All-push IsEntry journal next k.held held;
      small = small;
    }

-- of an agent and a journal that are these
kept_at : (agent after : AgentState) (journal longer : List Entry) (next : Entry)
    → IsKept (step agent next) (journal ++ next ∷ []) → after ≡ step agent next → longer ≡ journal ++ next ∷ []
    → IsKept after longer
kept_at agent after journal longer next k stepped written =
    subst (λ s. IsKept s longer) (sym stepped) (subst (λ xs. IsKept (step agent next) xs) (sym written) k)

pub kept_more : (agent after : AgentState) (journal longer : List Entry) (next : Entry) → IsKept agent journal
    → is_legal agent next ≡ true → IsEntry next → OpensNone next → CommitsNone next → after ≡ step agent next
    → longer ≡ journal ++ next ∷ [] → IsKept after longer
kept_more agent after journal longer next k legal held opens commits =
    kept_at agent after journal longer next
    (kept_where agent journal next k legal held (omega (arith, step_count agent next opens, k.few))
    (small_more agent next commits k.small))

pub kept_opened : (agent after : AgentState) (journal longer : List Entry) (number : ℕ) (bind : List ℕ)
    → IsKept agent journal → number ≡ length agent.associations + 1 → IsEntry (entry.Opened number bind)
    → after ≡ step agent (entry.Opened (length agent.associations + 1) bind)
    → longer ≡ journal ++ entry.Opened number bind ∷ [] → IsKept after longer
kept_opened agent after journal longer number bind k next held stepped written =
    let last = entry.Opened (length agent.associations + 1) bind in
    kept_at agent after journal longer last
    (kept_where agent journal last k (next_opens agent bind) (subst (λ n. IsEntry (entry.Opened n bind)) next held)
    (omega (arith, opened_count agent bind, k.few)) (small_more agent last tt k.small)) stepped
    (written ∙ ap (λ n. journal ++ entry.Opened n bind ∷ []) next)

pub kept_committed : (agent after : AgentState) (journal longer : List Entry) (number : ℕ) → IsKept agent journal
    → is_legal agent (entry.Committed number) ≡ true → IsEntry (entry.Committed number)
    → AreSmall after.schema after.objects → after ≡ step agent (entry.Committed number)
    → longer ≡ journal ++ entry.Committed number ∷ [] → IsKept after longer
kept_committed agent after journal longer number k legal held small stepped =
    kept_at agent after journal longer (entry.Committed number)
    (kept_where agent journal (entry.Committed number) k legal held
    (omega (arith, step_count agent (entry.Committed number) tt, k.few))
    (subst (λ (s : AgentState). AreSmall s.schema s.objects) stepped small)) stepped
