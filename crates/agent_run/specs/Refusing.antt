-- Refusing: why a command is not done: the cause of each status, and the line that is written then: README.md, Answers;
-- docs/OPERATING.md, Commands.
use Rattle.std.specs.Prelude.{◌≡◌, ℕ, List, [], ◌++◌, codes, decimal}
use Rattle.agent_bytes.specs.Faults.{Rose}
use Rattle.agent_run.specs.declared.refusal.Refusal.{Refusal}
use Rattle.agent_run.specs.declared.refusal.Refusal.TheVariants.{Usage, FileFault, FileTooLarge, BadDocument}
use Rattle.agent_run.specs.declared.refusal.Refusal.TheVariants.{BadInstance, BadScript, JournalFull, NotBuilt}
use Rattle.agent_run.specs.declared.refusal.Refusal.TheVariants.{OutOfMemory}
use Rattle.agent_run.specs.declared.refusal.Unbuilt.{Unbuilt}
use Rattle.agent_run.specs.declared.refusal.Unbuilt.TheVariants.{Command as ACommand, Document, Script}
use Rattle.command_line.specs.WordForms.{AreInNoForm, AreUnbuilt, AreWordsOf, Command}
use Rattle.command_line.specs.WordForms.Command.{Check, Report, Run, Replay, Serve, Load}
use Rattle.document_parts.specs.declared.documents.Doc.{Doc}
use Rattle.template_compile.specs.declared.refusal.Kind.{Kind}
use Rattle.template_compile.specs.declared.refusal.Kind.TheVariants as K
use Rattle.run_command.specs.ScriptRuns.{IsBadInstance as IsUnopened, IsBadScript, IsJournalFull, IsRun}
use Rattle.run_command.specs.ScriptRuns.{IsUnplayedDocument, IsUnplayedScript}
use Rattle.set_commands.specs.CommandTexts.{IsBadInstance, IsChecked, IsReported}
use Rattle.template_compile.specs.DocumentFaults.{IsTold}
use Rattle.term_model.specs.LineTexts.{line_feed}
use Rattle.agent_run.specs.Files.{AreDocuments, FileToRead, IsWithin, Names, NamesLonger, Told}
use Rattle.agent_run.specs.Files.{files_of, most_script}
use Rattle.agent_run.specs.Statuses.{bad_document, bad_script, file_fault, file_too_large, journal_full, not_built}
use Rattle.agent_run.specs.Statuses.{out_of_memory, usage}

-- the script of a run and its documents
pub record AreRunFiles (files : Told) (script_name : List ℕ) (names : List (List ℕ)) (script : List ℕ)
    (docs : List Doc) : Type 0 where
  pub within : IsWithin files script_name most_script
  pub script_is : within.bytes ≡ script
  pub documents : AreDocuments files names docs

-- what a command prints where it is done
abbrev pub IsTextBy : Told → Command → List ℕ → Type 0
IsTextBy files (Check names) text = (docs : List Doc) × AreDocuments files names docs × IsChecked docs text
IsTextBy files (Report names) text = (docs : List Doc) × AreDocuments files names docs × IsReported docs text
IsTextBy files (Run script_name names) text = (script : List ℕ) × (docs : List Doc)
    × AreRunFiles files script_name names script docs × IsRun script docs text
IsTextBy files (Replay journal names) text = ⊥
IsTextBy files (Serve address sessions workers names) text = ⊥
IsTextBy files (Load seed count) text = ⊥

-- the documents that a command compiles
abbrev pub AreCompiledBy : Told → Command → List Doc → Type 0
AreCompiledBy files (Check names) docs = AreDocuments files names docs
AreCompiledBy files (Report names) docs = AreDocuments files names docs
AreCompiledBy files (Run script_name names) docs =
    (script : List ℕ) × AreRunFiles files script_name names script docs
AreCompiledBy files (Replay journal names) docs = ⊥
AreCompiledBy files (Serve address sessions workers names) docs = ⊥
AreCompiledBy files (Load seed count) docs = ⊥

-- an instance of documents that a command compiles can't be opened; `run` opens them also where no section INSTANCES
-- stands
abbrev pub IsBadInstanceBy : Command → List Doc → ℕ → ℕ → Type 0
IsBadInstanceBy (Check names) docs index error = IsBadInstance docs index error
IsBadInstanceBy (Report names) docs index error = IsBadInstance docs index error
IsBadInstanceBy (Run script_name names) docs index error = IsUnopened docs index error
IsBadInstanceBy (Replay journal names) docs index error = ⊥
IsBadInstanceBy (Serve address sessions workers names) docs index error = ⊥
IsBadInstanceBy (Load seed count) docs index error = ⊥

-- a script and documents of a run have this fault
abbrev pub HasRunFault : Told → Command → (List ℕ → List Doc → Type 0) → Type 0
HasRunFault files (Run script_name names) Fault = (script : List ℕ) × (docs : List Doc)
    × AreRunFiles files script_name names script docs × Fault script docs
HasRunFault files (Check names) Fault = ⊥
HasRunFault files (Report names) Fault = ⊥
HasRunFault files (Replay journal names) Fault = ⊥
HasRunFault files (Serve address sessions workers names) Fault = ⊥
HasRunFault files (Load seed count) Fault = ⊥

-- some class of the documents has what isn't played yet
abbrev pub IsUnplayed : Told → Command → Type 0
IsUnplayed files command = HasRunFault files command (λ script docs. IsUnplayedDocument docs)

-- some request of the script isn't carried out yet
abbrev pub HasNoScript : Told → Command → Type 0
HasNoScript files command = HasRunFault files command IsUnplayedScript

abbrev pub HasBadScript : Told → Command → ℕ → Type 0
HasBadScript files command line = HasRunFault files command (λ script docs. IsBadScript script docs line)

-- the journal of the script is full, and this is the text of the part before the first entry for which it has no room
abbrev pub HasFullJournal : Told → Command → List ℕ → Type 0
HasFullJournal files command text = HasRunFault files command (λ script docs. IsJournalFull script docs text)

abbrev pub IsOutsideBy : Told → Command → Unbuilt → Type 0
IsOutsideBy files command ACommand = ⊥
IsOutsideBy files command Document = IsUnplayed files command
IsOutsideBy files command Script = HasNoScript files command

-- the cause of each refusal of a command that is built; the counts are those of the files' faults before and after the
-- call
abbrev pub HasCauseBy : Told → Command → ℕ → ℕ → Refusal → Type 0
HasCauseBy files command before after Usage = ⊥
HasCauseBy files command before after (FileFault name) =
    Names files (files_of command) name.now × Rose before after
HasCauseBy files command before after (FileTooLarge name) = NamesLonger files (files_of command) name.now
HasCauseBy files command before after (BadDocument document line kind) =
    (docs : List Doc) × AreCompiledBy files command docs × IsTold docs document line kind
HasCauseBy files command before after (BadInstance index error) =
    (docs : List Doc) × AreCompiledBy files command docs × IsBadInstanceBy command docs index error
HasCauseBy files command before after (BadScript line) = HasBadScript files command line
HasCauseBy files command before after (NotBuilt what) = IsOutsideBy files command what
HasCauseBy files command before after (JournalFull text) = HasFullJournal files command text.items
HasCauseBy files command before after OutOfMemory = Unit {0}

-- something holds of the command whose words these are
abbrev pub OfCommand : List (List ℕ) → (Command → Type 0) → Type 0
OfCommand words Holds = (command : Command) × AreWordsOf words command × Holds command

-- the words, the documents or the script are outside their forms
abbrev pub IsOutside : Told → List (List ℕ) → Unbuilt → Type 0
IsOutside files words ACommand = AreUnbuilt words
IsOutside files words Document = OfCommand words (IsUnplayed files)
IsOutside files words Script = OfCommand words (HasNoScript files)

-- the cause of each refusal
abbrev pub HasCause : Told → List (List ℕ) → ℕ → ℕ → Refusal → Type 0
HasCause files words before after Usage = AreInNoForm words
HasCause files words before after (FileFault name) =
    OfCommand words (λ command. Names files (files_of command) name.now) × Rose before after
HasCause files words before after (FileTooLarge name) =
    OfCommand words (λ command. NamesLonger files (files_of command) name.now)
HasCause files words before after (BadDocument document line kind) = OfCommand words (λ command.
    (docs : List Doc) × AreCompiledBy files command docs × IsTold docs document line kind)
HasCause files words before after (BadInstance index error) = OfCommand words (λ command.
    (docs : List Doc) × AreCompiledBy files command docs × IsBadInstanceBy command docs index error)
HasCause files words before after (BadScript line) = OfCommand words (λ command. HasBadScript files command line)
HasCause files words before after (NotBuilt what) = IsOutside files words what
HasCause files words before after (JournalFull text) =
    OfCommand words (λ command. HasFullJournal files command text.items)
HasCause files words before after OutOfMemory = Unit {0}

-- a refusal that no failed call of the files caused leaves their count as it was
abbrev pub KeepsCount : ℕ → ℕ → Refusal → Type 0
KeepsCount before after (FileFault name) = Unit {0}
KeepsCount before after _ = after ≡ before

-- the causes that files alone may give, read in this order
abbrev pub HasFileCause : Told → List FileToRead → ℕ → ℕ → Refusal → Type 0
HasFileCause files reading before after (FileFault name) = Names files reading name.now × Rose before after
HasFileCause files reading before after (FileTooLarge name) = NamesLonger files reading name.now
HasFileCause files reading before after OutOfMemory = Unit {0}
HasFileCause files reading before after _ = ⊥

-- the causes that documents alone may give where they are compiled
abbrev pub HasSetCause : List Doc → Refusal → Type 0
HasSetCause docs (BadDocument document line kind) = IsTold docs document line kind
HasSetCause docs (BadInstance index error) = IsBadInstance docs index error
HasSetCause docs OutOfMemory = Unit {0}
HasSetCause docs _ = ⊥

-- the causes that a script and documents may give together
abbrev pub HasRunCause : List ℕ → List Doc → Refusal → Type 0
HasRunCause script docs (BadDocument document line kind) = IsTold docs document line kind
HasRunCause script docs (BadInstance index error) = IsUnopened docs index error
HasRunCause script docs (BadScript line) = IsBadScript script docs line
HasRunCause script docs (NotBuilt Document) = IsUnplayedDocument docs
HasRunCause script docs (NotBuilt Script) = IsUnplayedScript script docs
HasRunCause script docs (JournalFull text) = IsJournalFull script docs text.items
HasRunCause script docs OutOfMemory = Unit {0}
HasRunCause script docs _ = ⊥

-- the status with which the program ends
abbrev pub status_of : Refusal → ℕ
status_of Usage = usage
status_of (FileFault name) = file_fault
status_of (FileTooLarge name) = file_too_large
status_of (BadDocument document line kind) = bad_document
status_of (BadInstance index error) = bad_document
status_of (BadScript line) = bad_script
status_of (NotBuilt what) = not_built
status_of (JournalFull text) = journal_full
status_of OutOfMemory = out_of_memory

abbrev pub kind_name : Kind → List ℕ
kind_name K.BadByte = codes "BadByte"
kind_name K.OpenString = codes "OpenString"
kind_name K.BadNumber = codes "BadNumber"
kind_name K.BadBits = codes "BadBits"
kind_name K.Syntax = codes "Syntax"
kind_name K.UnknownType = codes "UnknownType"
kind_name K.UnknownModule = codes "UnknownModule"
kind_name K.CyclicType = codes "CyclicType"
kind_name K.Unsupported = codes "Unsupported"
kind_name K.AmbiguousTags = codes "AmbiguousTags"
kind_name K.UnknownLabel = codes "UnknownLabel"
kind_name K.WrongKind = codes "WrongKind"
kind_name K.DoubleLabel = codes "DoubleLabel"
kind_name K.DoubleIdentifier = codes "DoubleIdentifier"
kind_name K.CyclicClass = codes "CyclicClass"
kind_name K.UnequalDefault = codes "UnequalDefault"
kind_name K.EmptyPermitted = codes "EmptyPermitted"
kind_name K.NotSetValued = codes "NotSetValued"
kind_name K.BadValue = codes "BadValue"

abbrev pub unbuilt_name : Unbuilt → List ℕ
unbuilt_name ACommand = codes "command"
unbuilt_name Document = codes "document"
unbuilt_name Script = codes "script"

-- the lines, each with its line feed
abbrev pub usage_line : List ℕ
usage_line = codes "usage" ++ line_feed

abbrev pub file_line : List ℕ → List ℕ
file_line name = codes "file " ++ (name ++ line_feed)

abbrev pub too_large_line : List ℕ → List ℕ
too_large_line name = codes "too large " ++ (name ++ line_feed)

-- words with a number behind them
abbrev pub numbered : List ℕ → ℕ → List ℕ
numbered words number = words ++ decimal number

-- and another one behind a blank
unfoldable pub two_numbers : List ℕ → ℕ → ℕ → List ℕ
two_numbers words one other = numbered words one ++ numbered (codes " ") other

abbrev pub bad_document_line : ℕ → ℕ → Kind → List ℕ
bad_document_line document line kind =
    two_numbers (codes "bad document ") document line ++ (codes " " ++ (kind_name kind ++ line_feed))

abbrev pub bad_instance_line : ℕ → ℕ → List ℕ
bad_instance_line index error = two_numbers (codes "bad instance ") index error ++ line_feed

abbrev pub bad_script_line : ℕ → List ℕ
bad_script_line line = numbered (codes "bad script ") line ++ line_feed

abbrev pub not_built_line : Unbuilt → List ℕ
not_built_line what = codes "not built " ++ (unbuilt_name what ++ line_feed)

abbrev pub journal_full_line : List ℕ
journal_full_line = codes "journal full" ++ line_feed

abbrev pub memory_line : List ℕ
memory_line = codes "memory" ++ line_feed

abbrev pub line_of : Refusal → List ℕ
line_of Usage = usage_line
line_of (FileFault name) = file_line name.now
line_of (FileTooLarge name) = too_large_line name.now
line_of (BadDocument document line kind) = bad_document_line document line kind
line_of (BadInstance index error) = bad_instance_line index error
line_of (BadScript line) = bad_script_line line
line_of (NotBuilt what) = not_built_line what
line_of (JournalFull text) = journal_full_line
line_of OutOfMemory = memory_line

-- what stands before the line: the journal, where it is full
abbrev pub text_before : Refusal → List ℕ
text_before (JournalFull text) = text.items
text_before Usage = []
text_before (FileFault name) = []
text_before (FileTooLarge name) = []
text_before (BadDocument document line kind) = []
text_before (BadInstance index error) = []
text_before (BadScript line) = []
text_before (NotBuilt what) = []
text_before OutOfMemory = []

-- what is written of a command that is not done
abbrev pub text_of : Refusal → List ℕ
text_of refusal = text_before refusal ++ line_of refusal
