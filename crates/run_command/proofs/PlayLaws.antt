-- PlayLaws: what a play comes to is what is printed of it, and why nothing is printed.
use Rattle.std.proofs.Common.{◌≡◌, ◌≢◌, ℕ, ◌+◌, ◌++◌, Bool, true, false, List, [], ◌∷◌, Result, Ok, Err, length, take}
use Rattle.std.proofs.Common.{inr, sym, subst, ◌∙◌}
use Rattle.std.proofs.lemmas.Bool.{false≢true}
use Rattle.std.proofs.lemmas.List.Elements.{All-cons, All-head, All-nil, All-tail}
use Rattle.std.specs.Prelude.{◌↔◌, IfErr, IsTrue}
use Rattle.std.specs.List.{All}
use Rattle.std.specs.Result.{IsErrAnd}
use Rattle.agent_model.specs.declared.agent_state.AgentState.{AgentState}
use Rattle.agent_model.specs.declared.entry.Entry.{Entry}
use Rattle.term_model.specs.declared.objects.NamedObject.{NamedObject}
use Rattle.term_model.specs.declared.schema.Set.{Set}
use Rattle.agent_model.specs.AgentLimits.{shipped}
use Rattle.agent_model.specs.History.{came}
use Rattle.term_model.specs.Opening.{opened}
use Rattle.agent_model.specs.Played.{Play}
use Rattle.agent_model.specs.Settled.{IsSettled}
use Rattle.agent_model.specs.TextLaws.{IsEntry}
use Rattle.agent_model.specs.Texts.{journal_text, outs, separator}
use Rattle.term_model.specs.WellFormedObjects.{AreGood}
use Rattle.term_model.specs.WholeSet.{IsWhole}
use Rattle.agent_model.proofs.TextLaws.{print_tells_journal, texts_differ}
use Rattle.agent_model.specs.declared.script_line.ScriptLine.{ScriptLine}
use Rattle.agent_model.specs.JournalRoom.{HasRoom, IsFilled}
use Rattle.agent_model.specs.Journals.{is_legal_journal, replayed}
use Rattle.agent_model.specs.Playing.{ended, frames_of}
use Rattle.agent_model.specs.Starting.{started}
use Rattle.agent_steps.specs.Asking.{has_unbuilt}
use Rattle.bound_classes.specs.Behaviour.{has_behaviour}
use Rattle.opening_laws.specs.Encodable.{IsEncodable}
use Rattle.script_lines.specs.ScriptText.{AreFirstLines}
use Rattle.script_playing.specs.GoodObjects.{ObjectsStayGood}
use Rattle.script_playing.specs.declared.playing.Ending.{Ending}
use Rattle.script_playing.specs.declared.playing.Ending.TheVariants.{Ended, Full, Bad}
use Rattle.script_playing.specs.Scripts.{IfEnded, IsEnded}
use Rattle.run_command.specs.declared.refusal.RunRefusal.{RunRefusal}
use Rattle.run_command.specs.declared.refusal.RunRefusal.TheVariants.{BadDocument, BadInstance, UnplayedDocument}
use Rattle.run_command.specs.declared.refusal.RunRefusal.TheVariants.{BadScript, UnplayedScript, JournalFull, Memory}
use Rattle.run_command.specs.RunCauses.{HasBehaviourCause, HasEndedCause, HasFullCause, HasPlayCause, HasSchemaCause}
use Rattle.run_command.specs.ScriptRuns.{IsPlay, IsPlayed, IsPlayedInPart}

-- what a call answers at the exit of a `?`: the refusal that it was given
pub exit_with : {X : Type 0} (P : RunRefusal → Type 0) (r : Result X RunRefusal) (e : RunRefusal) →
    IsErrAnd r (λ d. d ≡ e) → P e → IfErr r P
exit_with P (Ok x) e is p = tt
exit_with P (Err d) e is p = subst P (sym is) p

pub in_err : {X : Type 0} (P Q : RunRefusal → Type 0) (r : Result X RunRefusal) → ((e : RunRefusal) → P e → Q e) →
    IfErr r P → IfErr r Q
in_err P Q (Ok x) weaker p = tt
in_err P Q (Err e) weaker p = weaker e p

-- what is told of a play to the end, on the agent before it
pub record Comes (first : AgentState) (lines : List ScriptLine) (play : Play) : Type 0 where
  pub frames : (number : ℕ) → came number play.journal ≡ frames_of number 0 lines
  pub legal : IsTrue (is_legal_journal first play.journal)
  pub replays : replayed first play.journal ≡ play.agent
  pub held : All IsEntry play.journal
  pub settled : IsSettled play.agent
  pub built : has_unbuilt play.agent ≡ false

-- what is told of it, whether its journal has room for each entry or not
pub of_ending : {L : Type 0} (first : AgentState) (lines : List ScriptLine) (e : Ending L) →
    IfEnded (λ play. (number : ℕ) → came number play.journal ≡ frames_of number 0 lines) e →
    IfEnded (λ play. IsTrue (is_legal_journal first play.journal)) e →
    IfEnded (λ play. replayed first play.journal ≡ play.agent) e → IfEnded (λ play. All IsEntry play.journal) e →
    IfEnded (λ play. IsSettled play.agent) e →
    IfEnded (λ play. has_unbuilt play.agent ≡ false → Comes first lines play) e
of_ending first lines (Ended play) frames legal replays held settled =
    λ built. record {
      frames = frames;
      legal = legal;
      replays = replays;
      held = held;
      settled = settled;
      built = built;
    }
of_ending first lines (Full play place) frames legal replays held settled =
    λ built. record {
      frames = frames;
      legal = legal;
      replays = replays;
      held = held;
      settled = settled;
      built = built;
    }
of_ending first lines (Bad number) frames legal replays held settled = tt

-- it is the end of a play of the lines on the objects of a schema
pub record Ends (schema : Set) (objects : List NamedObject) (lines : List ScriptLine) (play : Play) : Type 0 where
  pub last : Play
  pub is : play ≡ ended last
  pub is_play : IsPlay schema objects lines last

pub ends : (schema : Set) (objects : List NamedObject) (first : AgentState) (lines : List ScriptLine) (play : Play) →
    first ≡ started schema shipped objects → IsEnded first lines play → Comes first lines play →
    (IsWhole schema → IsEncodable schema → AreGood schema objects) → ObjectsStayGood → Ends schema objects lines play
ends schema objects first lines play same told comes good stays =
    let begun = started schema shipped objects in
    let end = subst (λ a. IsEnded a lines play) same told in
    let of = subst (λ p. Comes begun lines p) end.2 (subst (λ a. Comes a lines play) same comes) in
    record {
      last = end.0;
      is = end.2;
      is_play = record {
        played_to = end.1;
        frames = of.frames;
        legal = of.legal;
        replayed_to = of.replays;
        obeys = λ whole encodable before after is. stays begun before (good whole encodable);
        settled = of.settled;
        built = of.built;
        held = of.held;
      };
    }

-- what is printed of it, where its journal has room for each entry
pub is_played : (schema : Set) (objects : List NamedObject) (first : AgentState) (lines : List ScriptLine) (play : Play)
    (text : List ℕ) → first ≡ started schema shipped objects → Ends schema objects lines play →
    HasRoom first play.journal → text ≡ journal_text play.journal ++ (separator ++ outs play.agent) →
    IsPlayed schema objects lines text
is_played schema objects first lines play text same end room printed =
    let is = subst (λ (p : Play). text ≡ journal_text p.journal ++ (separator ++ outs p.agent)) end.is printed in
    record {
      play = end.last;
      is_play = end.is_play;
      room = subst (λ (p : Play). HasRoom (started schema shipped objects) p.journal) end.is
          (subst (λ a. HasRoom a play.journal) same room);
      printed = is;
      determined = λ other rest held same_text.
          (print_tells_journal other (ended end.last).journal rest (outs (ended end.last).agent) held end.is_play.held
          (sym same_text ∙ is)).0;
    }

held_part : (part rest : List Entry) → All IsEntry (part ++ rest) → All IsEntry part
held_part [] rest held = All-nil IsEntry
held_part (x ∷ xs) rest held =
    All-cons IsEntry x xs (All-head IsEntry x (xs ++ rest) held)
    (held_part xs rest (All-tail IsEntry x (xs ++ rest) held))

-- what is printed of it, where its journal is full
pub is_played_in_part : (schema : Set) (objects : List NamedObject) (first : AgentState) (lines : List ScriptLine)
    (play : Play) (part : List Entry) (text : List ℕ) → first ≡ started schema shipped objects →
    Ends schema objects lines play → IsFilled first play.journal part → text ≡ journal_text part →
    IsPlayedInPart schema objects lines text
is_played_in_part schema objects first lines play part text same end filled printed =
    let is = subst (λ (p : Play). IsFilled (started schema shipped objects) p.journal part) end.is
    (subst (λ a. IsFilled a play.journal part) same filled) in
    let held = held_part part (is.next ∷ is.others) (subst (λ xs. All IsEntry xs) is.begins end.is_play.held) in
    record {
      play = end.last;
      is_play = end.is_play;
      part = part;
      filled = is;
      printed = printed;
      determined = λ other others_held same_text.
          texts_differ other part others_held held (sym same_text ∙ printed);
    }

-- lines of a text, and whether they are the whole
pub record AreRead (script : List ℕ) (lines : List ScriptLine) (is_whole : Bool) : Type 0 where
  pub rest : List ℕ
  pub spelt : AreFirstLines script lines rest
  pub whole : IsTrue is_whole ↔ (rest ≡ [])

pub whole_lines : (script : List ℕ) (lines : List ScriptLine) (is_whole : Bool) → AreRead script lines is_whole →
    is_whole ≡ true → AreFirstLines script lines []
whole_lines script lines is_whole read whole =
    subst (λ rest. AreFirstLines script lines rest) (read.whole.0 whole) read.spelt

some_left : (rest : List ℕ) (is_whole : Bool) → (IsTrue is_whole ↔ (rest ≡ [])) → is_whole ≡ false → rest ≢ []
some_left rest is_whole whole part = λ none. false≢true (sym part ∙ whole.1 none)

-- the causes of the end of a play are causes of the play
pub of_ended : (schema : Set) (objects : List NamedObject) (first : AgentState) (script : List ℕ)
    (lines : List ScriptLine) (play : Play) (is_whole : Bool) (count : ℕ) (e : RunRefusal) →
    first ≡ started schema shipped objects → IsEnded first lines play → AreRead script lines is_whole →
    count ≡ length lines → HasEndedCause play.agent is_whole count e → HasPlayCause schema objects script e
of_ended schema objects first script lines play is_whole count (BadScript number) same told read counted cause =
    let end = subst (λ a. IsEnded a lines play) same told in
    record {
      lines = lines;
      rest = read.rest;
      spelt = read.spelt;
      bad = inr (
        end.0,
        end.1,
        some_left read.rest is_whole read.whole cause.0,
        subst (λ n. number ≡ n + 1) counted cause.1,
      );
    }
of_ended schema objects first script lines play is_whole count UnplayedScript same told read counted cause =
    let end = subst (λ a. IsEnded a lines play) same told in
    record {
      lines = lines;
      spelt = whole_lines script lines is_whole read cause.0;
      play = end.0;
      played_to = end.1;
      unbuilt = subst (λ (p : Play). has_unbuilt p.agent ≡ true) end.2 cause.1;
    }
of_ended schema objects first script lines play is_whole count Memory same told read counted cause = tt
of_ended schema objects first script lines play is_whole count (BadDocument document line kind) same told read counted
    cause = absurd cause
of_ended schema objects first script lines play is_whole count (BadInstance index error) same told read counted cause =
    absurd cause
of_ended schema objects first script lines play is_whole count UnplayedDocument same told read counted cause =
    absurd cause
of_ended schema objects first script lines play is_whole count (JournalFull text) same told read counted cause =
    absurd cause

-- and so are those where the journal is full
pub of_full : (schema : Set) (objects : List NamedObject) (first : AgentState) (script : List ℕ)
    (lines : List ScriptLine) (play : Play) (place : ℕ) (is_whole : Bool) (count : ℕ) (e : RunRefusal) →
    first ≡ started schema shipped objects → IsEnded first lines play → AreRead script lines is_whole →
    count ≡ length lines →
    ((has_unbuilt play.agent ≡ false) → Ends schema objects lines play) →
    IsFilled first play.journal (take place play.journal) → HasFullCause play place is_whole count e →
    HasPlayCause schema objects script e
of_full schema objects first script lines play place is_whole count (JournalFull text) same told read counted end filled
    cause = record {
      lines = lines;
      spelt = whole_lines script lines is_whole read cause.0;
      is_played = is_played_in_part schema objects first lines play (take place play.journal) text.items same
          (end cause.1) filled cause.2;
    }
of_full schema objects first script lines play place is_whole count (BadScript number) same told read counted end filled
    cause =
    of_ended schema objects first script lines play is_whole count (BadScript number) same told read counted cause
of_full schema objects first script lines play place is_whole count UnplayedScript same told read counted end filled
    cause =
    of_ended schema objects first script lines play is_whole count UnplayedScript same told read counted cause
of_full schema objects first script lines play place is_whole count Memory same told read counted end filled cause = tt
of_full schema objects first script lines play place is_whole count (BadDocument document line kind) same told read
    counted end filled cause = absurd cause
of_full schema objects first script lines play place is_whole count (BadInstance index error) same told read counted end
    filled cause = absurd cause
of_full schema objects first script lines play place is_whole count UnplayedDocument same told read counted end filled
    cause = absurd cause

-- the causes of a schema's behaviour, and of a play on its objects, are causes of a run on the schema
pub of_behaviour : (schema : Set) (objects : List NamedObject) (script : List ℕ) (e : RunRefusal) →
    opened schema ≡ Ok objects → HasBehaviourCause schema e → HasSchemaCause schema script e
of_behaviour schema objects script UnplayedDocument is cause = (objects, is, cause)
of_behaviour schema objects script Memory is cause = tt
of_behaviour schema objects script (BadDocument document line kind) is cause = absurd cause
of_behaviour schema objects script (BadInstance index error) is cause = absurd cause
of_behaviour schema objects script (BadScript line) is cause = absurd cause
of_behaviour schema objects script UnplayedScript is cause = absurd cause
of_behaviour schema objects script (JournalFull text) is cause = absurd cause

pub of_play : (schema : Set) (objects : List NamedObject) (script : List ℕ) (e : RunRefusal) →
    opened schema ≡ Ok objects → has_behaviour schema ≡ false → HasPlayCause schema objects script e →
    HasSchemaCause schema script e
of_play schema objects script (BadScript line) is calm cause = (objects, is, calm, cause)
of_play schema objects script UnplayedScript is calm cause = (objects, is, calm, cause)
of_play schema objects script (JournalFull text) is calm cause = (objects, is, calm, cause)
of_play schema objects script Memory is calm cause = tt
of_play schema objects script (BadDocument document line kind) is calm cause = absurd cause
of_play schema objects script (BadInstance index error) is calm cause = absurd cause
of_play schema objects script UnplayedDocument is calm cause = absurd cause
