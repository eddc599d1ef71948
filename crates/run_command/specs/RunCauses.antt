-- RunCauses: why `run` prints no text of a script that is played to its end, and the text where the journal is full:
-- docs/OPERATING.md, Commands; docs/PROFILE.md, sections 5 to 7.
use Rattle.std.specs.Prelude.{◌≡◌, ℕ, ◌+◌, List, Bool, true, false, Ok, take}
use Rattle.document_parts.specs.declared.documents.Doc.{Doc}
use Rattle.mib_opening.specs.declared.refusal.OpeningRefusal.TheVariants as O
use Rattle.mib_opening.specs.Refusals.{HasRefusal}
use Rattle.template_compile.specs.DocumentFaults.{IsTold}
use Rattle.agent_model.specs.declared.agent_state.AgentState.{AgentState}
use Rattle.term_model.specs.declared.objects.NamedObject.{NamedObject}
use Rattle.term_model.specs.declared.schema.Set.{Set}
use Rattle.term_model.specs.Opening.{opened}
use Rattle.agent_model.specs.Played.{Play}
use Rattle.agent_model.specs.Texts.{journal_text}
use Rattle.bound_classes.specs.Behaviour.{has_behaviour}
use Rattle.agent_steps.specs.Asking.{has_unbuilt}
use Rattle.run_command.specs.declared.refusal.RunRefusal.{RunRefusal}
use Rattle.run_command.specs.declared.refusal.RunRefusal.TheVariants.{BadDocument, BadInstance, UnplayedDocument}
use Rattle.run_command.specs.declared.refusal.RunRefusal.TheVariants.{BadScript, UnplayedScript, JournalFull, Memory}
use Rattle.run_command.specs.ScriptRuns.{HasUnbuilt, IsBadInstance, IsBadLine, IsBadScript, IsFilledOn, IsJournalFull}
use Rattle.run_command.specs.ScriptRuns.{IsUnplayedDocument, IsUnplayedScript}

-- the cause of a refusal; want of memory has none
abbrev pub HasCause : List ℕ → List Doc → RunRefusal → Type 0
HasCause script docs (BadDocument document line kind) = IsTold docs document line kind
HasCause script docs (BadInstance index error) = IsBadInstance docs index error
HasCause script docs UnplayedDocument = IsUnplayedDocument docs
HasCause script docs (BadScript number) = IsBadScript script docs number
HasCause script docs UnplayedScript = IsUnplayedScript script docs
HasCause script docs (JournalFull text) = IsJournalFull script docs text.items
HasCause script docs Memory = Unit {0}

-- the causes that documents alone may give
abbrev pub HasCompilingCause : List Doc → RunRefusal → Type 0
HasCompilingCause docs (BadDocument document line kind) = IsTold docs document line kind
HasCompilingCause docs Memory = Unit {0}
HasCompilingCause docs _ = ⊥

-- the causes that a schema may give
abbrev pub HasOpeningCause : Set → RunRefusal → Type 0
HasOpeningCause schema (BadInstance index error) = HasRefusal (opened schema) (O.BadInstance index error)
HasOpeningCause schema Memory = Unit {0}
HasOpeningCause schema _ = ⊥

abbrev pub HasBehaviourCause : Set → RunRefusal → Type 0
HasBehaviourCause schema UnplayedDocument = has_behaviour schema ≡ true
HasBehaviourCause schema Memory = Unit {0}
HasBehaviourCause schema _ = ⊥

-- the causes that a script may give on the objects of a schema
abbrev pub HasPlayCause : Set → List NamedObject → List ℕ → RunRefusal → Type 0
HasPlayCause schema objects script (BadScript number) = IsBadLine schema objects script number
HasPlayCause schema objects script UnplayedScript = HasUnbuilt schema objects script
HasPlayCause schema objects script (JournalFull text) = IsFilledOn schema objects script text.items
HasPlayCause schema objects script Memory = Unit {0}
HasPlayCause schema objects script _ = ⊥

-- the causes that the end of a play may give; so many lines stand before the first one that breaks the form, where one
-- does
abbrev pub HasEndedCause : AgentState → Bool → ℕ → RunRefusal → Type 0
HasEndedCause agent is_whole count (BadScript number) = (is_whole ≡ false) × (number ≡ count + 1)
HasEndedCause agent is_whole count UnplayedScript = (is_whole ≡ true) × (has_unbuilt agent ≡ true)
HasEndedCause agent is_whole count Memory = Unit {0}
HasEndedCause agent is_whole count _ = ⊥

-- the same where the journal has room for so many of its entries and not for the one behind them
abbrev pub HasFullCause : Play → ℕ → Bool → ℕ → RunRefusal → Type 0
HasFullCause play place is_whole count (JournalFull text) =
    (is_whole ≡ true) × (has_unbuilt play.agent ≡ false) × (text.items ≡ journal_text (take place play.journal))
HasFullCause play place is_whole count refusal = HasEndedCause play.agent is_whole count refusal

-- the causes that a schema and a script may give
abbrev pub HasSchemaCause : Set → List ℕ → RunRefusal → Type 0
HasSchemaCause schema script (BadInstance index error) = HasRefusal (opened schema) (O.BadInstance index error)
HasSchemaCause schema script UnplayedDocument =
    (objects : List NamedObject) × (opened schema ≡ Ok objects) × (has_behaviour schema ≡ true)
HasSchemaCause schema script (BadScript number) =
    (objects : List NamedObject) × (opened schema ≡ Ok objects) × (has_behaviour schema ≡ false)
    × IsBadLine schema objects script number
HasSchemaCause schema script UnplayedScript =
    (objects : List NamedObject) × (opened schema ≡ Ok objects) × (has_behaviour schema ≡ false)
    × HasUnbuilt schema objects script
HasSchemaCause schema script (JournalFull text) =
    (objects : List NamedObject) × (opened schema ≡ Ok objects) × (has_behaviour schema ≡ false)
    × IsFilledOn schema objects script text.items
HasSchemaCause schema script Memory = Unit {0}
HasSchemaCause schema script _ = ⊥
