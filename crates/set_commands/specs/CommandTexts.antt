-- CommandTexts: what `check` and `report` print of documents, and why they don't: X.722; docs/PROFILE.md, sections 2,
-- 16 and 19.
use Rattle.std.specs.Prelude.{◌≡◌, ℕ, List, Bool, true, false, Ok, length}
use Rattle.term_model.specs.declared.objects.NamedObject.{NamedObject}
use Rattle.term_model.specs.declared.schema.Set.{Set}
use Rattle.term_model.specs.Opening.{opened}
use Rattle.mib_opening.specs.declared.refusal.OpeningRefusal.{OpeningRefusal}
use Rattle.mib_opening.specs.declared.refusal.OpeningRefusal.TheVariants as O
use Rattle.mib_opening.specs.Refusals.{HasRefusal}
use Rattle.document_parts.specs.declared.documents.Doc.{Doc}
use Rattle.set_report.specs.ReportText.{report_text}
use Rattle.template_compile.specs.declared.counts.Counts.{Counts}
use Rattle.template_compile.specs.declared.refusal.CompileRefusal.{CompileRefusal}
use Rattle.template_compile.specs.declared.refusal.CompileRefusal.TheVariants as C
use Rattle.template_compile.specs.Counting.{IsCompiled}
use Rattle.template_compile.specs.DocumentFaults.{IsTold}
use Rattle.set_commands.specs.declared.refusal.SetRefusal.{SetRefusal}
use Rattle.set_commands.specs.declared.refusal.SetRefusal.TheVariants.{BadDocument, BadInstance, Memory}
use Rattle.set_commands.specs.CountLines.{count_lines}

-- so many objects are there at the opening of a schema: none where no section INSTANCES stands
pub data HasObjects (schema : Set) : Bool → ℕ → Type 0 where
  opened_at : {objects : List NamedObject} → opened schema ≡ Ok objects → HasObjects schema true (length objects)
  without_instances : HasObjects schema false 0

-- the documents are compiled, with these counts, to this schema, and its objects are opened
pub record AreOpened (docs : List Doc) (schema : Set) (counts : Counts) (objects : ℕ) : Type 0 where
  pub instances : Bool
  pub compiled : IsCompiled docs schema counts instances
  pub has : HasObjects schema instances objects

-- they are accepted, and their objects are opened
pub record AreAccepted (docs : List Doc) : Type 0 where
  pub schema : Set
  pub counts : Counts
  pub objects : ℕ
  pub opened_to : AreOpened docs schema counts objects

-- the text of `check`
pub record IsChecked (docs : List Doc) (text : List ℕ) : Type 0 where
  pub schema : Set
  pub counts : Counts
  pub objects : ℕ
  pub opened_to : AreOpened docs schema counts objects
  pub text_is : text ≡ count_lines counts objects

-- the text of `report`
pub record IsReported (docs : List Doc) (text : List ℕ) : Type 0 where
  pub schema : Set
  pub counts : Counts
  pub objects : ℕ
  pub opened_to : AreOpened docs schema counts objects
  pub text_is : text ≡ report_text schema

-- an instance of documents that are compiled can't be opened
pub record IsBadInstance (docs : List Doc) (index error : ℕ) : Type 0 where
  pub schema : Set
  pub counts : Counts
  pub compiled : IsCompiled docs schema counts true
  pub refused : HasRefusal (opened schema) (O.BadInstance index error)

-- the cause of a refusal; want of memory has none
abbrev pub HasCause : List Doc → SetRefusal → Type 0
HasCause docs (BadDocument document line kind) = IsTold docs document line kind
HasCause docs (BadInstance index error) = IsBadInstance docs index error
HasCause docs Memory = Unit {0}

-- the cause of a refusal of a schema's objects
abbrev pub HasOpeningCause : Set → SetRefusal → Type 0
HasOpeningCause schema (BadDocument document line kind) = ⊥
HasOpeningCause schema (BadInstance index error) = HasRefusal (opened schema) (O.BadInstance index error)
HasOpeningCause schema Memory = Unit {0}

abbrev pub compiling_refusal : CompileRefusal → SetRefusal
compiling_refusal (C.BadDocument document line kind) = BadDocument document line kind
compiling_refusal C.Memory = Memory

abbrev pub opening_refusal : OpeningRefusal → SetRefusal
opening_refusal (O.BadInstance index error) = BadInstance index error
opening_refusal O.Memory = Memory
