-- Causes: from what a part of a command says of its refusal to what the whole says.
use Rattle.std.proofs.Common.{◌≡◌, ℕ, ◌≤◌, List, [], ◌∷◌, ◌++◌, Result, Ok, Err}
use Rattle.std.proofs.Common.{sym, ⊎_elim, inl, inr, arith}
use Rattle.std.proofs.Math.Path.{subst}
use Rattle.std.proofs.lemmas.Bool.{cases_lt}
use Rattle.std.specs.Prelude.{IfErr, IfOk}
use Rattle.std.specs.Result.{IsErrAnd}
use Rattle.agent_bytes.specs.Faults.{Rose}
use Rattle.agent_run.specs.declared.refusal.Refusal.{Refusal}
use Rattle.agent_run.specs.declared.refusal.Refusal.TheVariants.{Usage, FileFault, FileTooLarge, BadDocument}
use Rattle.agent_run.specs.declared.refusal.Refusal.TheVariants.{BadInstance, BadScript, JournalFull, NotBuilt}
use Rattle.agent_run.specs.declared.refusal.Refusal.TheVariants.{OutOfMemory}
use Rattle.agent_run.specs.declared.refusal.Unbuilt.TheVariants.{Command as ACommand, Document, Script}
use Rattle.command_line.specs.WordForms.{AreWordsOf, Command}
use Rattle.command_line.specs.WordForms.Command.{Check, Report, Run}
use Rattle.document_parts.specs.declared.documents.Doc.{Doc}
use Rattle.agent_run.specs.Files.{AreDocuments, FileToRead, IsDocumentIn, IsWithin, Reaches, Told, document_files}
use Rattle.agent_run.specs.Files.{files_of}
use Rattle.agent_run.specs.Files.AreDocuments.{no_document, document}
use Rattle.agent_run.specs.Files.Reaches.{here, behind}
use Rattle.agent_run.specs.Refusing.{AreRunFiles, HasCause, HasCauseBy, HasFileCause, HasRunCause, HasSetCause}

-- what a call answers at the exit of a `?`: the refusal that it was given
pub exit_with : {X : Type 0} (P : Refusal → Type 0) (r : Result X Refusal) (e : Refusal) → IsErrAnd r (λ d. d ≡ e)
    → P e → IfErr r P
exit_with P (Ok x) e is p = tt
exit_with P (Err d) e is p = subst P (sym is) p

pub rose_later : (a b c : ℕ) → a ≤ b → b ≤ c → Rose b c → Rose a c
rose_later a b c earlier later (inl more) = inl (omega (arith, earlier, more))
rose_later a b c earlier later (inr last) =
    ⊎_elim (λ below. inl (omega (arith, below, later))) (λ past. inr (omega (arith, past, earlier, last)))
    (cases_lt a b)

-- the causes of files that are read are causes of files of which these are the first
reaches_first : {files : Told} {Holds : FileToRead → Type 0} {x : FileToRead} (others : List FileToRead) →
    Reaches files Holds (x ∷ []) → Reaches files Holds (x ∷ others)
reaches_first others (here holds) = here holds
reaches_first others (behind within rest) = elim rest [ ]

pub of_first : (files : Told) (x : FileToRead) (others : List FileToRead) (before after : ℕ) (r : Refusal) →
    HasFileCause files (x ∷ []) before after r → HasFileCause files (x ∷ others) before after r
of_first files x others before after (FileFault name) cause = (reaches_first others cause.0, cause.1)
of_first files x others before after (FileTooLarge name) cause = reaches_first others cause
of_first files x others before after OutOfMemory cause = tt
of_first files x others before after Usage cause = cause
of_first files x others before after (BadDocument number line kind) cause = cause
of_first files x others before after (BadInstance index error) cause = cause
of_first files x others before after (BadScript line) cause = cause
of_first files x others before after (NotBuilt what) cause = cause
of_first files x others before after (JournalFull text) cause = cause

-- and of files behind one that is there within its limit
pub of_others : (files : Told) (x : FileToRead) (others : List FileToRead) (before between after : ℕ) (r : Refusal) →
    IsWithin files x.name x.limit → before ≤ between → between ≤ after →
    HasFileCause files others between after r → HasFileCause files (x ∷ others) before after r
of_others files x others before between after (FileFault name) within earlier later cause =
    (behind within cause.0, rose_later before between after earlier later cause.1)
of_others files x others before between after (FileTooLarge name) within earlier later cause = behind within cause
of_others files x others before between after OutOfMemory within earlier later cause = tt
of_others files x others before between after Usage within earlier later cause = cause
of_others files x others before between after (BadDocument number line kind) within earlier later cause = cause
of_others files x others before between after (BadInstance index error) within earlier later cause = cause
of_others files x others before between after (BadScript line) within earlier later cause = cause
of_others files x others before between after (NotBuilt what) within earlier later cause = cause
of_others files x others before between after (JournalFull text) within earlier later cause = cause

-- and of a command that reads these files
pub of_files : (files : Told) (command : Command) (before after : ℕ) (r : Refusal) →
    HasFileCause files (files_of command) before after r → HasCauseBy files command before after r
of_files files command before after (FileFault name) cause = cause
of_files files command before after (FileTooLarge name) cause = cause
of_files files command before after OutOfMemory cause = tt
of_files files command before after Usage cause = cause
of_files files command before after (BadDocument number line kind) cause = absurd cause
of_files files command before after (BadInstance index error) cause = absurd cause
of_files files command before after (BadScript line) cause = absurd cause
of_files files command before after (NotBuilt what) cause = absurd cause
of_files files command before after (JournalFull text) cause = absurd cause

-- the causes of the documents of `check`, and of those of `report`
pub of_checked : (files : Told) (names : List (List ℕ)) (docs : List Doc) (before after : ℕ) (r : Refusal) →
    AreDocuments files names docs → HasSetCause docs r → HasCauseBy files (Check names) before after r
of_checked files names docs before after (BadDocument number line kind) are cause = (docs, are, cause)
of_checked files names docs before after (BadInstance index error) are cause = (docs, are, cause)
of_checked files names docs before after OutOfMemory are cause = tt
of_checked files names docs before after Usage are cause = cause
of_checked files names docs before after (FileFault name) are cause = absurd cause
of_checked files names docs before after (FileTooLarge name) are cause = absurd cause
of_checked files names docs before after (BadScript line) are cause = absurd cause
of_checked files names docs before after (NotBuilt what) are cause = absurd cause
of_checked files names docs before after (JournalFull text) are cause = absurd cause

pub of_reported : (files : Told) (names : List (List ℕ)) (docs : List Doc) (before after : ℕ) (r : Refusal) →
    AreDocuments files names docs → HasSetCause docs r → HasCauseBy files (Report names) before after r
of_reported files names docs before after (BadDocument number line kind) are cause = (docs, are, cause)
of_reported files names docs before after (BadInstance index error) are cause = (docs, are, cause)
of_reported files names docs before after OutOfMemory are cause = tt
of_reported files names docs before after Usage are cause = cause
of_reported files names docs before after (FileFault name) are cause = absurd cause
of_reported files names docs before after (FileTooLarge name) are cause = absurd cause
of_reported files names docs before after (BadScript line) are cause = absurd cause
of_reported files names docs before after (NotBuilt what) are cause = absurd cause
of_reported files names docs before after (JournalFull text) are cause = absurd cause

-- the causes of a script and documents that are run
pub of_run : (files : Told) (script_name : List ℕ) (names : List (List ℕ)) (script : List ℕ) (docs : List Doc)
    (before after : ℕ) (r : Refusal) → AreRunFiles files script_name names script docs →
    HasRunCause script docs r → HasCauseBy files (Run script_name names) before after r
of_run files script_name names script docs before after (BadDocument number line kind) run cause =
    (docs, (script, run), cause)
of_run files script_name names script docs before after (BadInstance index error) run cause =
    (docs, (script, run), cause)
of_run files script_name names script docs before after (BadScript line) run cause = (script, docs, run, cause)
of_run files script_name names script docs before after (NotBuilt Document) run cause = (script, docs, run, cause)
of_run files script_name names script docs before after (NotBuilt Script) run cause = (script, docs, run, cause)
of_run files script_name names script docs before after (NotBuilt ACommand) run cause = absurd cause
of_run files script_name names script docs before after (JournalFull text) run cause = (script, docs, run, cause)
of_run files script_name names script docs before after OutOfMemory run cause = tt
of_run files script_name names script docs before after Usage run cause = cause
of_run files script_name names script docs before after (FileFault name) run cause = absurd cause
of_run files script_name names script docs before after (FileTooLarge name) run cause = absurd cause

-- the causes of a command are those of its words
pub of_command : (files : Told) (words : List (List ℕ)) (command : Command) (before after : ℕ) (r : Refusal) →
    AreWordsOf words command → HasCauseBy files command before after r → HasCause files words before after r
of_command files words command before after (FileFault name) are cause = ((command, are, cause.0), cause.1)
of_command files words command before after (FileTooLarge name) are cause = (command, are, cause)
of_command files words command before after (BadDocument number line kind) are cause = (command, are, cause)
of_command files words command before after (BadInstance index error) are cause = (command, are, cause)
of_command files words command before after (BadScript line) are cause = (command, are, cause)
of_command files words command before after (NotBuilt ACommand) are cause = absurd cause
of_command files words command before after (NotBuilt Document) are cause = (command, are, cause)
of_command files words command before after (NotBuilt Script) are cause = (command, are, cause)
of_command files words command before after (JournalFull text) are cause = (command, are, cause)
of_command files words command before after OutOfMemory are cause = tt
of_command files words command before after Usage are cause = absurd cause

-- a row of documents, one more of them, and what is said of the files behind them
pub one_more : {files : Told} {names : List (List ℕ)} {docs : List Doc} (name : List ℕ) (doc : Doc) →
    AreDocuments files names docs → IsDocumentIn files name doc →
    AreDocuments files (names ++ name ∷ []) (docs ++ doc ∷ [])
one_more name doc no_document one = document one no_document
one_more name doc (document first others) one = document first (one_more name doc others one)

pub reaches_behind : {files : Told} {Holds : FileToRead → Type 0} {names : List (List ℕ)} {docs : List Doc}
    (others : List (List ℕ)) → AreDocuments files names docs → Reaches files Holds (document_files others) →
    Reaches files Holds (document_files (names ++ others))
reaches_behind others no_document reaches = reaches
reaches_behind others (document {doc = doc} first rest) reaches =
    behind (record { bytes = doc.bytes.items; told = first.told; small = first.small })
    (reaches_behind others rest reaches)

pub behind_documents : (files : Told) (names others : List (List ℕ)) (docs : List Doc) (before after : ℕ)
    (r : Refusal) → AreDocuments files names docs → HasFileCause files (document_files others) before after r →
    HasFileCause files (document_files (names ++ others)) before after r
behind_documents files names others docs before after (FileFault name) are cause =
    (reaches_behind others are cause.0, cause.1)
behind_documents files names others docs before after (FileTooLarge name) are cause =
    reaches_behind others are cause
behind_documents files names others docs before after OutOfMemory are cause = tt
behind_documents files names others docs before after Usage are cause = cause
behind_documents files names others docs before after (BadDocument number line kind) are cause = cause
behind_documents files names others docs before after (BadInstance index error) are cause = cause
behind_documents files names others docs before after (BadScript line) are cause = cause
behind_documents files names others docs before after (NotBuilt what) are cause = cause
behind_documents files names others docs before after (JournalFull text) are cause = cause

-- the same of the first of these files alone
pub at_document : (files : Told) (name : List ℕ) (names others : List (List ℕ)) (docs : List Doc) (before after : ℕ)
    (r : Refusal) → AreDocuments files names docs → HasFileCause files (document_files (name ∷ [])) before after r →
    HasFileCause files (document_files (names ++ name ∷ others)) before after r
at_document files name names others docs before after r are cause =
    behind_documents files names (name ∷ others) docs before after r are
    (of_first files _ (document_files others) before after r cause)

-- the same of any answer that is a refusal
pub in_err : {X : Type 0} (P Q : Refusal → Type 0) (r : Result X Refusal) → ((e : Refusal) → P e → Q e) → IfErr r P →
    IfErr r Q
in_err P Q (Ok x) weaker p = tt
in_err P Q (Err e) weaker p = weaker e p

pub in_ok : {X E : Type 0} (P Q : X → Type 0) (r : Result X E) → ((x : X) → P x → Q x) → IfOk r P → IfOk r Q
in_ok P Q (Ok x) weaker p = weaker x p
in_ok P Q (Err e) weaker p = tt
