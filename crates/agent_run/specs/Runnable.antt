-- Runnable: the commands that come to their end: their files are there within their limits, the documents are accepted,
-- the instances open, and the script is played to its end: README.md, Answers; docs/OPERATING.md, Commands.
use Rattle.std.specs.Prelude.{◌≡◌, ℕ, List, [], true, false, Ok}
use Rattle.command_line.specs.WordForms.{Command}
use Rattle.command_line.specs.WordForms.Command.{Check, Report, Run, Replay, Serve, Load}
use Rattle.document_parts.specs.declared.documents.Doc.{Doc}
use Rattle.template_compile.specs.declared.counts.Counts.{Counts}
use Rattle.template_compile.specs.Acceptance.{AreAccepted}
use Rattle.template_compile.specs.Counting.{IsCompiled}
use Rattle.term_model.specs.declared.objects.NamedObject.{NamedObject}
use Rattle.term_model.specs.declared.schema.Set.{Set}
use Rattle.agent_model.specs.AgentLimits.{shipped}
use Rattle.term_model.specs.Opening.{opened}
use Rattle.agent_model.specs.Played.{Play}
use Rattle.agent_model.specs.declared.script_line.ScriptLine.{ScriptLine}
use Rattle.agent_model.specs.JournalRoom.{HasRoom}
use Rattle.agent_model.specs.Playing.{ended, played}
use Rattle.agent_model.specs.Starting.{started}
use Rattle.agent_steps.specs.Asking.{has_unbuilt}
use Rattle.bound_classes.specs.Behaviour.{has_behaviour}
use Rattle.script_lines.specs.ScriptText.{AreFirstLines}
use Rattle.agent_run.specs.Files.{AreDocuments, Told}
use Rattle.agent_run.specs.Refusing.{AreRunFiles}

-- each instance of a schema can be opened
abbrev pub CanBeOpened : Set → Type 0
CanBeOpened schema = (objects : List NamedObject) × (opened schema ≡ Ok objects)

-- Each instance of a schema can be opened, and no class has behaviour. On the objects the script comes to its end: each
-- line has its form, and its condition holds; each request is carried out; and the journal has room for each entry.
pub record ComesToItsEnd (schema : Set) (script : List ℕ) : Type 0 where
  pub objects : List NamedObject
  pub opened_to : opened schema ≡ Ok objects
  pub calm : has_behaviour schema ≡ false
  pub lines : List ScriptLine
  pub spelt : AreFirstLines script lines []
  pub play : Play
  pub played_to : played (started schema shipped objects) lines ≡ Ok play
  pub built : has_unbuilt (ended play).agent ≡ false
  pub room : HasRoom (started schema shipped objects) (ended play).journal

-- The documents are accepted, and each of their instances can be opened where a section INSTANCES stands. This is asked
-- of each schema as which they are accepted: two of them say the same, in another order of joined properties at most.
pub record AreOpenable (docs : List Doc) : Type 0 where
  pub accepted_as : Set
  pub accepted : AreAccepted docs accepted_as
  pub each : (schema : Set) (counts : Counts) → IsCompiled docs schema counts true → CanBeOpened schema

-- the documents are accepted, and on each schema as which they are the script comes to its end
pub record IsPlayable (script : List ℕ) (docs : List Doc) : Type 0 where
  pub accepted_as : Set
  pub accepted : AreAccepted docs accepted_as
  pub each : (schema : Set) → AreAccepted docs schema → ComesToItsEnd schema script

-- the command comes to its end with the files that it reads
abbrev pub CanBeDoneBy : Told → Command → Type 0
CanBeDoneBy files (Check names) = (docs : List Doc) × AreDocuments files names docs × AreOpenable docs
CanBeDoneBy files (Report names) = (docs : List Doc) × AreDocuments files names docs × AreOpenable docs
CanBeDoneBy files (Run script_name names) = (script : List ℕ) × (docs : List Doc)
    × AreRunFiles files script_name names script docs × IsPlayable script docs
CanBeDoneBy files (Replay journal names) = ⊥
CanBeDoneBy files (Serve address sessions workers names) = ⊥
CanBeDoneBy files (Load seed count) = ⊥
