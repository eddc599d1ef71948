-- ScriptRuns: what `run` prints of a script that is played on the objects of compiled documents, also where its journal
-- is full, and which documents and scripts it doesn't play: docs/OPERATING.md, Commands; docs/PROFILE.md, sections 5 to
-- 7.
use Rattle.std.specs.Prelude.{◌≡◌, ◌≢◌, ◌⊎◌, ℕ, ◌+◌, List, [], ◌++◌, Bool, true, false, Ok, Err, IsTrue, length}
use Rattle.std.specs.List.{All}
use Rattle.document_parts.specs.declared.documents.Doc.{Doc}
use Rattle.mib_opening.specs.declared.refusal.OpeningRefusal.TheVariants as O
use Rattle.mib_opening.specs.Refusals.{HasRefusal}
use Rattle.opening_laws.specs.Encodable.{IsEncodable}
use Rattle.template_compile.specs.declared.counts.Counts.{Counts}
use Rattle.template_compile.specs.Counting.{IsCompiled}
use Rattle.agent_model.specs.declared.entry.Entry.{Entry}
use Rattle.term_model.specs.declared.objects.NamedObject.{NamedObject}
use Rattle.term_model.specs.declared.schema.Set.{Set}
use Rattle.agent_model.specs.AgentLimits.{shipped}
use Rattle.agent_model.specs.History.{came}
use Rattle.term_model.specs.Opening.{opened}
use Rattle.agent_model.specs.Played.{Play}
use Rattle.agent_model.specs.Settled.{IsSettled}
use Rattle.agent_model.specs.TextLaws.{IsEntry}
use Rattle.agent_model.specs.Texts.{journal_text, outs, separator}
use Rattle.term_model.specs.WellFormedObjects.{AreGood}
use Rattle.term_model.specs.WholeSet.{IsWhole}
use Rattle.agent_model.specs.declared.script_line.ScriptLine.{ScriptLine}
use Rattle.agent_model.specs.JournalRoom.{HasRoom, IsFilled}
use Rattle.agent_model.specs.Journals.{is_legal_journal, replayed}
use Rattle.agent_model.specs.Playing.{ended, frames_of, played}
use Rattle.agent_model.specs.Starting.{started}
use Rattle.bound_classes.specs.Behaviour.{has_behaviour}
use Rattle.script_lines.specs.ScriptText.{AreFirstLines}
use Rattle.agent_steps.specs.Asking.{has_unbuilt}

-- the documents are compiled to this schema
pub record AreCompiled (docs : List Doc) (schema : Set) : Type 0 where
  pub counts : Counts
  pub instances : Bool
  pub compiled : IsCompiled docs schema counts instances

-- they are compiled to it, and these are its objects at the opening
pub record AreOpened (docs : List Doc) (schema : Set) (objects : List NamedObject) : Type 0 where
  pub compiled : AreCompiled docs schema
  pub opened_to : opened schema ≡ Ok objects

-- each object obeys its templates after each part of a journal, from none of it to all
abbrev pub Obeys : Set → List NamedObject → List Entry → Type 0
Obeys schema objects journal =
    (before after : List Entry) → journal ≡ before ++ after
    → AreGood schema (replayed (started schema shipped objects) before).objects

-- The play of a script to its end. Each association's frames stand in its journal in their order, and no others; each
-- entry may stand where it stands; and where the schema is whole and everything in it has an encoding, every object
-- obeys its templates all along. At the end each association is closed, all that was placed for it was taken, and none
-- of its operations is outstanding; each request was carried out. Each entry is one that the program can hold.
pub record IsPlay (schema : Set) (objects : List NamedObject) (lines : List ScriptLine) (play : Play) : Type 0 where
  pub played_to : played (started schema shipped objects) lines ≡ Ok play
  pub frames : (number : ℕ) → came number (ended play).journal ≡ frames_of number 0 lines
  pub legal : IsTrue (is_legal_journal (started schema shipped objects) (ended play).journal)
  pub replayed_to : replayed (started schema shipped objects) (ended play).journal ≡ (ended play).agent
  pub obeys : IsWhole schema → IsEncodable schema → Obeys schema objects (ended play).journal
  pub settled : IsSettled (ended play).agent
  pub built : has_unbuilt (ended play).agent ≡ false
  pub held : All IsEntry (ended play).journal

-- The text is the journal of the script, a line of two dashes, and what the one-manager agent places on that journal,
-- and it is that of no other journal of entries that the program can hold. The journal has room for each entry.
pub record IsPlayed (schema : Set) (objects : List NamedObject) (lines : List ScriptLine) (text : List ℕ) : Type 0 where
  pub play : Play
  pub is_play : IsPlay schema objects lines play
  pub room : HasRoom (started schema shipped objects) (ended play).journal
  pub printed : text ≡ journal_text (ended play).journal ++ (separator ++ outs (ended play).agent)
  pub determined : (other : List Entry) (rest : List ℕ) → All IsEntry other
      → text ≡ journal_text other ++ (separator ++ rest) → other ≡ (ended play).journal

-- The journal of the script has no room for some entry. The text is the part of it before the first such one, and that
-- of no other journal.
pub record IsPlayedInPart (schema : Set) (objects : List NamedObject) (lines : List ScriptLine) (text : List ℕ)
    : Type 0 where
  pub play : Play
  pub is_play : IsPlay schema objects lines play
  pub part : List Entry
  pub filled : IsFilled (started schema shipped objects) (ended play).journal part
  pub printed : text ≡ journal_text part
  pub determined : (other : List Entry) → All IsEntry other → text ≡ journal_text other → other ≡ part

-- the same of the text of a script
pub record IsPlayedOn (schema : Set) (objects : List NamedObject) (script text : List ℕ) : Type 0 where
  pub lines : List ScriptLine
  pub spelt : AreFirstLines script lines []
  pub is_played : IsPlayed schema objects lines text

-- the journal of the text of a script has no room for some entry, and this is the text of the part before it
pub record IsFilledOn (schema : Set) (objects : List NamedObject) (script text : List ℕ) : Type 0 where
  pub lines : List ScriptLine
  pub spelt : AreFirstLines script lines []
  pub is_played : IsPlayedInPart schema objects lines text

-- the line with this number is the first that breaks the form, or whose condition does not hold
pub record IsBadLine (schema : Set) (objects : List NamedObject) (script : List ℕ) (number : ℕ) : Type 0 where
  pub lines : List ScriptLine
  pub rest : List ℕ
  pub spelt : AreFirstLines script lines rest
  pub bad : (played (started schema shipped objects) lines ≡ Err number)
      ⊎ ((play : Play) × (played (started schema shipped objects) lines ≡ Ok play) × (rest ≢ [])
      × (number ≡ length lines + 1))

-- some request of the script is of a kind that isn't carried out yet
pub record HasUnbuilt (schema : Set) (objects : List NamedObject) (script : List ℕ) : Type 0 where
  pub lines : List ScriptLine
  pub spelt : AreFirstLines script lines []
  pub play : Play
  pub played_to : played (started schema shipped objects) lines ≡ Ok play
  pub unbuilt : has_unbuilt (ended play).agent ≡ true

-- something holds of the objects of the schema to which documents are compiled, which has no behaviour
pub record OnOpened (docs : List Doc) (Holds : Set → List NamedObject → Type 0) : Type 0 where
  pub schema : Set
  pub objects : List NamedObject
  pub are_opened : AreOpened docs schema objects
  pub calm : has_behaviour schema ≡ false
  pub holds : Holds schema objects

-- what `run` prints of a script and documents
abbrev pub IsRun : List ℕ → List Doc → List ℕ → Type 0
IsRun script docs text = OnOpened docs (λ schema objects. IsPlayedOn schema objects script text)

-- an instance of documents that are compiled can't be opened
pub record IsBadInstance (docs : List Doc) (index error : ℕ) : Type 0 where
  pub schema : Set
  pub compiled : AreCompiled docs schema
  pub refused : HasRefusal (opened schema) (O.BadInstance index error)

-- some class of the schema has an action or a notification, or is one on which the agent acts
pub record IsUnplayedDocument (docs : List Doc) : Type 0 where
  pub schema : Set
  pub objects : List NamedObject
  pub are_opened : AreOpened docs schema objects
  pub acts : has_behaviour schema ≡ true

abbrev pub IsBadScript : List ℕ → List Doc → ℕ → Type 0
IsBadScript script docs number = OnOpened docs (λ schema objects. IsBadLine schema objects script number)

abbrev pub IsUnplayedScript : List ℕ → List Doc → Type 0
IsUnplayedScript script docs = OnOpened docs (λ schema objects. HasUnbuilt schema objects script)

-- the text is what `run` prints of the journal of a script that is full
abbrev pub IsJournalFull : List ℕ → List Doc → List ℕ → Type 0
IsJournalFull script docs text = OnOpened docs (λ schema objects. IsFilledOn schema objects script text)

-- what is printed of a schema and a script
abbrev pub IsRunOf : Set → List ℕ → List ℕ → Type 0
IsRunOf schema script text =
    (objects : List NamedObject) × (opened schema ≡ Ok objects) × (has_behaviour schema ≡ false)
    × IsPlayedOn schema objects script text
