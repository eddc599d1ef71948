-- Answers: what each status of the top call says of the words and the files, and what was written then: README.md,
-- Answers.
use Rattle.std.specs.Prelude.{◌≡◌, ◌⊎◌, ℕ, List, ◌++◌, IsSome, Option}
use Rattle.agent_bytes.specs.Faults.{Rose}
use Rattle.agent_bytes.specs.Told.{GainsPart, gained}
use Rattle.agent_run.specs.declared.refusal.Unbuilt.{Unbuilt}
use Rattle.command_line.specs.WordForms.{AreInNoForm}
use Rattle.document_parts.specs.declared.documents.Doc.{Doc}
use Rattle.template_compile.specs.declared.refusal.Kind.{Kind}
use Rattle.template_compile.specs.DocumentFaults.{IsTold}
use Rattle.agent_run.specs.Files.{IsNamed, IsTooLarge, Told}
use Rattle.agent_run.specs.Refusing.{AreCompiledBy, HasBadScript, HasFullJournal, IsBadInstanceBy, IsOutside, IsTextBy}
use Rattle.agent_run.specs.Refusing.{OfCommand, bad_document_line, bad_instance_line, bad_script_line, file_line}
use Rattle.agent_run.specs.Refusing.{journal_full_line, not_built_line, too_large_line, usage_line}
use Rattle.agent_run.specs.Runnable.{CanBeDoneBy}

-- These bytes were written; or, where a call of the output failed, a part of them. The counts are those of the output's
-- faults.
abbrev pub IsPut : ℕ → ℕ → Option (List ℕ) → Option (List ℕ) → List ℕ → Type 0
IsPut out_before out_after before after line =
    (after ≡ gained before line) ⊎ (Rose out_before out_after × GainsPart before after line)

-- the text is what the command prints whose words these are
abbrev pub IsTextOf : Told → List (List ℕ) → List ℕ → Type 0
IsTextOf files words text = OfCommand words (λ command. IsTextBy files command text)

-- what was written in a call is such a text, where it is told
pub record Prints (files : Told) (words : List (List ℕ)) (before after : Option (List ℕ)) : Type 0 where
  pub text : List ℕ
  pub text_is : IsTextOf files words text
  pub written : after ≡ gained before text

-- the words are in no form
pub record EndsByUsage (words : List (List ℕ)) (out_before out_after : ℕ) (before after : Option (List ℕ)) :
    Type 0 where
  pub outside : AreInNoForm words
  pub line : IsPut out_before out_after before after usage_line

-- a call of the files failed, and the line has the name of one that is read; each before it is there within its limit
pub record EndsByFileFault (files : Told) (words : List (List ℕ)) (faults_before faults_after out_before out_after : ℕ)
    (before after : Option (List ℕ)) : Type 0 where
  pub rose : Rose faults_before faults_after
  pub name : List ℕ
  pub named : IsNamed files words name
  pub line : IsPut out_before out_after before after (file_line name)

-- the file that the line names is longer than its limit, and none before it is
pub record EndsByFileTooLarge (files : Told) (words : List (List ℕ)) (out_before out_after : ℕ)
    (before after : Option (List ℕ)) : Type 0 where
  pub name : List ℕ
  pub longer : IsTooLarge files words name
  pub line : IsPut out_before out_after before after (too_large_line name)

-- the documents have the fault that is printed
pub record EndsByFault (files : Told) (words : List (List ℕ)) (out_before out_after : ℕ)
    (before after : Option (List ℕ)) : Type 0 where
  pub document : ℕ
  pub number : ℕ
  pub kind : Kind
  pub fault : OfCommand words (λ command.
      (docs : List Doc) × AreCompiledBy files command docs × IsTold docs document number kind)
  pub line : IsPut out_before out_after before after (bad_document_line document number kind)

-- the instance that is printed can't be opened
pub record EndsByInstance (files : Told) (words : List (List ℕ)) (out_before out_after : ℕ)
    (before after : Option (List ℕ)) : Type 0 where
  pub index : ℕ
  pub error : ℕ
  pub fault : OfCommand words (λ command.
      (docs : List Doc) × AreCompiledBy files command docs × IsBadInstanceBy command docs index error)
  pub line : IsPut out_before out_after before after (bad_instance_line index error)

abbrev pub EndsByBadDocument : Told → List (List ℕ) → ℕ → ℕ → Option (List ℕ) → Option (List ℕ) → Type 0
EndsByBadDocument files words out_before out_after before after =
    EndsByFault files words out_before out_after before after
    ⊎ EndsByInstance files words out_before out_after before after

-- the line of the script that is printed breaks its form or a condition
pub record EndsByBadScript (files : Told) (words : List (List ℕ)) (out_before out_after : ℕ)
    (before after : Option (List ℕ)) : Type 0 where
  pub number : ℕ
  pub fault : OfCommand words (λ command. HasBadScript files command number)
  pub line : IsPut out_before out_after before after (bad_script_line number)

-- the words, the documents or the script are outside their forms, as the line says
pub record EndsByNotBuilt (files : Told) (words : List (List ℕ)) (out_before out_after : ℕ)
    (before after : Option (List ℕ)) : Type 0 where
  pub what : Unbuilt
  pub outside : IsOutside files words what
  pub line : IsPut out_before out_after before after (not_built_line what)

-- the journal of the script has no room for some entry; the part of it before the first such one was written, and the
-- line behind it
pub record EndsByJournalFull (files : Told) (words : List (List ℕ)) (out_before out_after : ℕ)
    (before after : Option (List ℕ)) : Type 0 where
  pub text : List ℕ
  pub full : OfCommand words (λ command. HasFullJournal files command text)
  pub line : IsPut out_before out_after before after (text ++ journal_full_line)

-- a write failed, and a part of the command's text is there
pub record EndsByWriteFault (files : Told) (words : List (List ℕ)) (out_before out_after : ℕ)
    (before after : Option (List ℕ)) : Type 0 where
  pub rose : Rose out_before out_after
  pub text : List ℕ
  pub part : GainsPart before after text
  pub text_is : IsTextOf files words text

-- the words are those of a command that comes to its end with the files that it reads, which are told
pub record CanBeDone (files : Told) (words : List (List ℕ)) : Type 0 where
  pub told : IsSome files
  pub done : OfCommand words (λ command. CanBeDoneBy files command)
