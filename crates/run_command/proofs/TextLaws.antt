-- TextLaws: what is printed of a script on a schema is what is printed of it on the documents that are compiled to this
-- schema.
use Rattle.std.proofs.Common.{List, ℕ}
use Rattle.std.specs.Global.{Vec}
use Rattle.std.specs.Prelude.{Err, IfOk, Ok, Result}
use Rattle.document_parts.specs.declared.documents.Doc.{Doc}
use Rattle.term_model.specs.declared.schema.Set.{Set}
use Rattle.run_command.specs.declared.refusal.RunRefusal.{RunRefusal}
use Rattle.run_command.specs.ScriptRuns.{AreCompiled, IsRun, IsRunOf}

schema_text : (script : List ℕ) (docs : List Doc) (schema : Set) → AreCompiled docs schema → (text : List ℕ) →
    IsRunOf schema script text → IsRun script docs text
schema_text script docs schema compiled text (objects, opened, calm, played) = record {
  schema = schema;
  objects = objects;
  are_opened = record { compiled = compiled; opened_to = opened };
  calm = calm;
  holds = played;
}

pub text_told : (script : List ℕ) (docs : List Doc) (schema : Set) → AreCompiled docs schema →
    (r : Result (Vec ℕ) RunRefusal) → IfOk r (λ text. IsRunOf schema script text.items) →
    IfOk r (λ text. IsRun script docs text.items)
text_told script docs schema compiled (Ok text) is = schema_text script docs schema compiled text.items is
text_told script docs schema compiled (Err refusal) is = is
