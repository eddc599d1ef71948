-- DoneLaws: where a command can be done and no call of the files failed, nothing but want of memory keeps it from being
-- done.
use Rattle.std.proofs.Common.{◌≡◌, ℕ, List, ◌<◌, ◌≤◌, ◌⊎◌, None, Some, length, ◌∙◌, inl, inr, refl, arith}
use Rattle.std.proofs.Math.Path.{subst}
use Rattle.std.proofs.lemmas.Bool.{false≢true}
use Rattle.std.specs.Prelude.{IsSome, IsSomeAnd}
use Rattle.agent_bytes.specs.Faults.{Rose}
use Rattle.agent_bytes.specs.Told.{IsFile, IsLonger}
use Rattle.agent_run.specs.declared.refusal.Refusal.{Refusal}
use Rattle.agent_run.specs.declared.refusal.Refusal.TheVariants.{Usage, FileFault, FileTooLarge, BadDocument}
use Rattle.agent_run.specs.declared.refusal.Refusal.TheVariants.{BadInstance, BadScript, JournalFull, NotBuilt}
use Rattle.agent_run.specs.declared.refusal.Refusal.TheVariants.{OutOfMemory}
use Rattle.agent_run.specs.declared.refusal.Unbuilt.TheVariants.{Command as ACommand, Document, Script}
use Rattle.command_line.specs.WordForms.{AreWordsOf, Command, IsUnbuilt}
use Rattle.command_line.specs.WordForms.Command.{Check, Report, Run, Replay, Serve, Load}
use Rattle.command_line.proofs.CommandLaws.{one_check, one_report, one_run}
use Rattle.document_parts.specs.declared.documents.Doc.{Doc}
use Rattle.template_compile.specs.declared.refusal.Kind.{Kind}
use Rattle.template_compile.specs.DocumentFaults.{IsTold}
use Rattle.agent_run.specs.Answers.{CanBeDone}
use Rattle.agent_run.specs.Files.{AreDocuments, NamesLonger, Told, document_files, files_of}
use Rattle.agent_run.specs.Files.AreDocuments.{no_document, document}
use Rattle.agent_run.specs.Files.Reaches.{here, behind}
use Rattle.agent_run.specs.Refusing.{AreCompiledBy, HasCause, HasRunFault, IsBadInstanceBy, OfCommand, status_of}
use Rattle.agent_run.specs.Runnable.{CanBeDoneBy, IsPlayable}
use Rattle.agent_run.proofs.Endings.{Answered}
use Rattle.agent_run.proofs.PlayableLaws.{openable_has_no_bad_instance, openable_has_no_fault}
use Rattle.agent_run.proofs.PlayableLaws.{playable_has_no_bad_instance, playable_has_no_bad_line}
use Rattle.agent_run.proofs.PlayableLaws.{playable_has_no_behaviour, playable_has_no_fault, playable_has_no_unbuilt}
use Rattle.agent_run.proofs.PlayableLaws.{playable_has_room}
use Rattle.agent_run.proofs.SameFiles.{also_openable, also_playable}

-- a file that is told isn't longer than it is
not_longer : (files : Told) → IsSome files → (name bytes : List ℕ) (limit : ℕ) → IsFile files name bytes →
    length bytes ≤ limit → IsLonger files name limit → ⊥
not_longer None told name bytes limit file small longer = false≢true told
not_longer (Some bytes_of) told name bytes limit file small longer =
    let more : limit < length bytes = subst (λ o. IsSomeAnd o (λ b. limit < length b)) file longer in
    omega (arith, more, small)

module _ (files : Told) (told : IsSome files) where
  -- ---- the words

  -- words of a command that can be done are those of no other
  one_command : (words : List (List ℕ)) (command other : Command) → CanBeDoneBy files command →
      AreWordsOf words command → AreWordsOf words other → other ≡ command
  one_command words (Check names) other can are others = one_check words names other are others
  one_command words (Report names) other can are others = one_report words names other are others
  one_command words (Run script names) other can are others = one_run words script names other are others
  one_command words (Replay journal names) other can are others = absurd can
  one_command words (Serve address sessions workers names) other can are others = absurd can
  one_command words (Load seed count) other can are others = absurd can

  is_built : (command : Command) → CanBeDoneBy files command → IsUnbuilt command → ⊥
  is_built (Check names) can unbuilt = elim unbuilt [ ]
  is_built (Report names) can unbuilt = elim unbuilt [ ]
  is_built (Run script names) can unbuilt = elim unbuilt [ ]
  is_built (Replay journal names) can unbuilt = can
  is_built (Serve address sessions workers names) can unbuilt = can
  is_built (Load seed count) can unbuilt = can

  -- ---- the files

  documents_within : {names : List (List ℕ)} {docs : List Doc} {name : List ℕ} → AreDocuments files names docs →
      NamesLonger files (document_files names) name → ⊥
  documents_within no_document longer = elim longer [ ]
  documents_within (document {name = name} {doc = doc} one others) (here longer) =
      not_longer files told name doc.bytes.items _ one.told one.small longer.1
  documents_within (document one others) (behind within longer) = documents_within others longer

  files_within : (command : Command) (name : List ℕ) → CanBeDoneBy files command →
      NamesLonger files (files_of command) name → ⊥
  files_within (Check names) name (docs, are, openable) longer = documents_within are longer
  files_within (Report names) name (docs, are, openable) longer = documents_within are longer
  files_within (Run script_name names) name (script, docs, are, playable) (here longer) =
      not_longer files told script_name are.within.bytes _ are.within.told are.within.small longer.1
  files_within (Run script_name names) name (script, docs, are, playable) (behind within longer) =
      documents_within are.documents longer
  files_within (Replay journal names) name can longer = can
  files_within (Serve address sessions workers names) name can longer = can
  files_within (Load seed count) name can longer = can

  -- ---- the documents and the script

  no_fault : (command : Command) (docs : List Doc) {number line : ℕ} {kind : Kind} → CanBeDoneBy files command →
      AreCompiledBy files command docs → IsTold docs number line kind → ⊥
  no_fault (Check names) docs (accepted, are, openable) others fault =
      openable_has_no_fault (also_openable told are others openable) fault
  no_fault (Report names) docs (accepted, are, openable) others fault =
      openable_has_no_fault (also_openable told are others openable) fault
  no_fault (Run script_name names) docs (script, accepted, are, playable) others fault =
      playable_has_no_fault others.0 docs (also_playable told are others.1 playable) fault
  no_fault (Replay journal names) docs can others fault = can
  no_fault (Serve address sessions workers names) docs can others fault = can
  no_fault (Load seed count) docs can others fault = can

  no_bad_instance : (command : Command) (docs : List Doc) (index error : ℕ) → CanBeDoneBy files command →
      AreCompiledBy files command docs → IsBadInstanceBy command docs index error → ⊥
  no_bad_instance (Check names) docs index error (accepted, are, openable) others bad =
      openable_has_no_bad_instance (also_openable told are others openable) bad
  no_bad_instance (Report names) docs index error (accepted, are, openable) others bad =
      openable_has_no_bad_instance (also_openable told are others openable) bad
  no_bad_instance (Run script_name names) docs index error (script, accepted, are, playable) others bad =
      playable_has_no_bad_instance others.0 docs (also_playable told are others.1 playable) bad
  no_bad_instance (Replay journal names) docs index error can others bad = can
  no_bad_instance (Serve address sessions workers names) docs index error can others bad = can
  no_bad_instance (Load seed count) docs index error can others bad = can

  no_run_fault : (Fault : List ℕ → List Doc → Type 0) →
      ((script : List ℕ) (docs : List Doc) → IsPlayable script docs → Fault script docs → ⊥) →
      (command : Command) → CanBeDoneBy files command → HasRunFault files command Fault → ⊥
  no_run_fault Fault never (Check names) can fault = fault
  no_run_fault Fault never (Report names) can fault = fault
  no_run_fault Fault never (Run script_name names) (script, docs, are, playable) fault =
      never fault.0 fault.1 (also_playable told are fault.2 playable) fault.3
  no_run_fault Fault never (Replay journal names) can fault = fault
  no_run_fault Fault never (Serve address sessions workers names) can fault = fault
  no_run_fault Fault never (Load seed count) can fault = fault

-- ---- the refusals

module _ (files : Told) (words : List (List ℕ)) (can : CanBeDone files words) where
  abbrev command : Command
  command = can.done.0

  of_this_command : (Holds : Command → Type 0) → OfCommand words Holds → Holds command
  of_this_command Holds of =
      subst Holds (one_command files can.told words command of.0 can.done.2 can.done.1 of.1) of.2

  no_fault_of_run : (Fault : List ℕ → List Doc → Type 0) →
      ((script : List ℕ) (docs : List Doc) → IsPlayable script docs → Fault script docs → ⊥) →
      OfCommand words (λ c. HasRunFault files c Fault) → ⊥
  no_fault_of_run Fault never of = no_run_fault files can.told Fault never command can.done.2
      (of_this_command (λ c. HasRunFault files c Fault) of)

  -- no refusal but that for want of memory has its cause
  only_memory : (before after : ℕ) (r : Refusal) → (Rose before after → ⊥) → HasCause files words before after r →
      status_of r ≡ 8
  only_memory before after Usage quiet cause = absurd (cause command can.done.1)
  only_memory before after (FileFault name) quiet cause = absurd (quiet cause.1)
  only_memory before after (FileTooLarge name) quiet cause =
      absurd (files_within files can.told command name.now can.done.2 (of_this_command _ cause))
  only_memory before after (BadDocument number line kind) quiet cause =
      let found = of_this_command _ cause in
      absurd (no_fault files can.told command found.0 can.done.2 found.1 found.2)
  only_memory before after (BadInstance index error) quiet cause =
      let found = of_this_command _ cause in
      absurd (no_bad_instance files can.told command found.0 index error can.done.2 found.1 found.2)
  only_memory before after (BadScript line) quiet cause =
      absurd (no_fault_of_run _ (λ script docs playable. playable_has_no_bad_line script docs playable line) cause)
  only_memory before after (NotBuilt ACommand) quiet cause =
      absurd (is_built files can.told command can.done.2
      (of_this_command IsUnbuilt (cause.command, cause.are, cause.unbuilt)))
  only_memory before after (NotBuilt Document) quiet cause =
      absurd (no_fault_of_run _ playable_has_no_behaviour cause)
  only_memory before after (NotBuilt Script) quiet cause = absurd (no_fault_of_run _ playable_has_no_unbuilt cause)
  only_memory before after (JournalFull text) quiet cause =
      absurd (no_fault_of_run _ (λ script docs playable. playable_has_room script docs playable text.items) cause)
  only_memory before after OutOfMemory quiet cause = refl

pub complete_of : (files : Told) (words : List (List ℕ)) (faults later status : ℕ) (r : Refusal)
    → Answered status r → HasCause files words faults later r → CanBeDone files words → (Rose faults later → ⊥)
    → (status ≡ 0) ⊎ (status ≡ 8)
complete_of files words faults later status r (inl s) cause can quiet =
    inr (s ∙ only_memory files words can faults later r quiet cause)
complete_of files words faults later status r (inr s) cause can quiet = inr s
