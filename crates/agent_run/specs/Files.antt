-- Files: the files that the words of a command name, in the order in which they are read, and what they hold:
-- docs/OPERATING.md, Commands and Limits.
use Rattle.std.specs.Prelude.{◌≡◌, ◌≤◌, ℕ, List, [], ◌∷◌, Option, length, map, string_bytes}
use Rattle.agent_bytes.specs.Told.{IsFile, IsLonger}
use Rattle.command_line.specs.WordForms.{AreWordsOf, Command}
use Rattle.command_line.specs.WordForms.Command.{Check, Report, Run, Replay, Serve, Load}
use Rattle.document_parts.specs.declared.documents.Doc.{Doc}

-- what the files tell of the bytes under each name; none where they tell nothing
abbrev pub Told : Type 0
Told = Option (List ℕ → Option (List ℕ))

-- the most octets of a script and of a document, 16 MiB and 4 MiB: docs/OPERATING.md, Limits
abbrev pub most_script : ℕ
most_script = 16777216

abbrev pub most_document : ℕ
most_document = 4194304

-- the named file is there with at most so many bytes, where it is told
pub record IsWithin (files : Told) (name : List ℕ) (limit : ℕ) : Type 0 where
  pub bytes : List ℕ
  pub told : IsFile files name bytes
  pub small : length bytes ≤ limit

-- a file that a command reads, and the most octets that it may have
pub record FileToRead : Type 0 where
  pub name : List ℕ
  pub limit : ℕ

abbrev pub document_files : List (List ℕ) → List FileToRead
document_files names = map (λ name. record { name = name; limit = most_document }) names

abbrev pub run_files : List ℕ → List (List ℕ) → List FileToRead
run_files script names = record { name = script; limit = most_script } ∷ document_files names

-- the files of a command, in the order in which they are read
abbrev pub files_of : Command → List FileToRead
files_of (Check names) = document_files names
files_of (Report names) = document_files names
files_of (Run script names) = run_files script names
files_of (Replay journal names) = []
files_of (Serve address sessions workers names) = []
files_of (Load seed count) = []

-- something holds of one of these files, and each before it is there within its limit
pub data Reaches (files : Told) (Holds : FileToRead → Type 0) : List FileToRead → Type 0 where
  here : {x : FileToRead} {xs : List FileToRead} → Holds x → Reaches files Holds (x ∷ xs)
  behind : {x : FileToRead} {xs : List FileToRead} → IsWithin files x.name x.limit → Reaches files Holds xs →
      Reaches files Holds (x ∷ xs)

-- a file with this name is read
abbrev pub Names : Told → List FileToRead → List ℕ → Type 0
Names files reading name = Reaches files (λ x. x.name ≡ name) reading

-- a file with this name is read, and is longer than its limit
abbrev pub NamesLonger : Told → List FileToRead → List ℕ → Type 0
NamesLonger files reading name = Reaches files (λ x. (x.name ≡ name) × IsLonger files x.name x.limit) reading

-- the same of the files of words
abbrev pub IsNamed : Told → List (List ℕ) → List ℕ → Type 0
IsNamed files words name = (command : Command) × AreWordsOf words command × Names files (files_of command) name

abbrev pub IsTooLarge : Told → List (List ℕ) → List ℕ → Type 0
IsTooLarge files words name = (command : Command) × AreWordsOf words command × NamesLonger files (files_of command) name

-- the document is the one in the file with this name, within the limit, where the files are told
pub record IsDocumentIn (files : Told) (name : List ℕ) (doc : Doc) : Type 0 where
  pub called : string_bytes doc.name ≡ name
  pub told : IsFile files name doc.bytes.items
  pub small : length doc.bytes.items ≤ most_document

-- the documents are those in the files with these names
pub data AreDocuments (files : Told) : List (List ℕ) → List Doc → Type 0 where
  no_document : AreDocuments files [] []
  document : {name : List ℕ} {names : List (List ℕ)} {doc : Doc} {docs : List Doc} → IsDocumentIn files name doc →
      AreDocuments files names docs → AreDocuments files (name ∷ names) (doc ∷ docs)
