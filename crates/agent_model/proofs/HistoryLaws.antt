-- Replaying a journal that follows another, and what stays of an association's bytes.
use Rattle.std.proofs.Common.{◌≡◌, ℕ, Bool, true, false, List, [], ◌∷◌, ◌++◌, refl, sym, ap, ◌∙◌, subst}
use Rattle.std.specs.Prelude.{◌&&◌, if◌then◌else◌}
use Rattle.std.proofs.lemmas.Bool.{and_from}
use Rattle.agent_model.specs.declared.agent_state.AgentState.{AgentState}
use Rattle.agent_model.specs.declared.entry.Entry.{Entry}
use Rattle.agent_model.specs.declared.entry.Entry.TheVariants as entry
use Rattle.agent_model.specs.Bind.{title_in}
use Rattle.agent_model.specs.Step.{is_legal}
use Rattle.agent_model.specs.Binding.{answer_to, associated}
use Rattle.agent_model.specs.Journals.{is_legal_journal, out, replayed}
use Rattle.agent_model.specs.Placing.{Sent, placed}
use Rattle.agent_model.specs.Stepping.{after_effect, effect, step}
use Rattle.agent_model.proofs.BeginningLaws.{Begins, begins_itself, begins_through, change_begins, more_begins}
use Rattle.agent_model.proofs.BeginningLaws.{placed_in}
use Rattle.agent_model.proofs.KeepingLaws.{effect_keeps, placed_keeps}

-- a journal that follows another goes on where that one ended
pub replay_append : (agent : AgentState) (xs ys : List Entry)
    → replayed agent (xs ++ ys) ≡ replayed (replayed agent xs) ys
replay_append agent [] ys = refl
replay_append agent (x ∷ xs) ys = replay_append (step agent x) xs ys

and_assoc : (a b c : Bool) → (a && (b && c)) ≡ ((a && b) && c)
and_assoc true b c = refl
and_assoc false b c = refl

pub legal_append : (agent : AgentState) (xs ys : List Entry)
    → is_legal_journal agent (xs ++ ys) ≡ (is_legal_journal agent xs && is_legal_journal (replayed agent xs) ys)
legal_append agent [] ys = refl
legal_append agent (x ∷ xs) ys =
    ap (λ b. is_legal agent x && b) (legal_append (step agent x) xs ys)
    ∙ and_assoc (is_legal agent x) (is_legal_journal (step agent x) xs)
    (is_legal_journal (replayed (step agent x) xs) ys)

-- one entry more
pub replay_more : (agent : AgentState) (journal : List Entry) (next : Entry)
    → replayed agent (journal ++ next ∷ []) ≡ step (replayed agent journal) next
replay_more agent journal next = replay_append agent journal (next ∷ [])

pub legal_more : (agent : AgentState) (journal : List Entry) (next : Entry) → is_legal_journal agent journal ≡ true
    → is_legal (replayed agent journal) next ≡ true → is_legal_journal agent (journal ++ next ∷ []) ≡ true
legal_more agent journal next h k =
    let after = replayed agent journal in
    legal_append agent journal (next ∷ [])
    ∙ and_from (is_legal_journal agent journal) (is_legal after next && true) h
    (and_from (is_legal after next) true k refl)

-- what was placed for the association under a number begins what is placed for it behind an entry
module _ (k : ℕ) where
  abbrev Grown : AgentState → AgentState → Type 0
  Grown before after = Begins (placed_in before k) (placed_in after k)

  grown_through : (a b c : AgentState) → Grown a b → Grown b c → Grown a c
  grown_through a b c p q = begins_through (placed_in a k) (placed_in b k) (placed_in c k) p q

  effect_begins : (agent : AgentState) (next : Entry) → Grown agent (effect agent next).agent
  effect_begins agent (entry.Opened number bind) =
      more_begins agent.associations (associated (answer_to agent (title_in bind)) (title_in bind)) k
  effect_begins agent next =
      effect_keeps Grown (λ s. begins_itself (placed_in s k)) grown_through
      (λ s number change grows. change_begins change grows s.associations number k)
      (λ s xs. begins_itself (placed_in s k)) (λ s xs. begins_itself (placed_in s k)) agent next tt

  placed_begins : (agent : AgentState) (sent : Sent) → Grown agent (placed agent sent)
  placed_begins =
      placed_keeps Grown (λ s. begins_itself (placed_in s k)) grown_through
      (λ s number change grows. change_begins change grows s.associations number k)
      (λ s xs. begins_itself (placed_in s k))

  either_begins : (b : Bool) (agent one : AgentState) → Grown agent one → Grown agent (if b then one else agent)
  either_begins true agent one h = h
  either_begins false agent one h = begins_itself (placed_in agent k)

  step_begins : (agent : AgentState) (next : Entry) → Grown agent (step agent next)
  unfolding step
  step_begins agent next =
      let done = effect agent next in
      either_begins (is_legal agent next) agent (after_effect done)
      (grown_through agent done.agent (placed done.agent done.sent) (effect_begins agent next)
      (placed_begins done.agent done.sent))

  replay_begins : (agent : AgentState) (journal : List Entry) → Grown agent (replayed agent journal)
  replay_begins agent [] = begins_itself (placed_in agent k)
  replay_begins agent (next ∷ journal) =
      grown_through agent (step agent next) (replayed (step agent next) journal) (step_begins agent next)
      (replay_begins (step agent next) journal)

-- what was placed after a journal begins what is placed after a longer one
pub out_begins : (agent : AgentState) (number : ℕ) (xs ys : List Entry)
    → Begins (out agent number xs) (out agent number (xs ++ ys))
out_begins agent number xs ys =
    subst (λ s. Begins (out agent number xs) (placed_in s number)) (sym (replay_append agent xs ys))
    (replay_begins number (replayed agent xs) ys)
