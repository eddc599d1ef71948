-- CauseLaws: why no text of a schema is printed is why none of the documents is that are compiled to it.
use Rattle.std.proofs.Common.{List, ℕ}
use Rattle.std.specs.Prelude.{Err, IfErr, Ok, Result}
use Rattle.document_parts.specs.declared.documents.Doc.{Doc}
use Rattle.term_model.specs.declared.schema.Set.{Set}
use Rattle.run_command.specs.declared.refusal.RunRefusal.{RunRefusal}
use Rattle.run_command.specs.declared.refusal.RunRefusal.TheVariants.{BadDocument, BadInstance, UnplayedDocument}
use Rattle.run_command.specs.declared.refusal.RunRefusal.TheVariants.{BadScript, UnplayedScript, JournalFull, Memory}
use Rattle.run_command.specs.RunCauses.{HasCause, HasSchemaCause}
use Rattle.run_command.specs.ScriptRuns.{AreCompiled}

schema_cause : (script : List ℕ) (docs : List Doc) (schema : Set) → AreCompiled docs schema → (refusal : RunRefusal) →
    HasSchemaCause schema script refusal → HasCause script docs refusal
schema_cause script docs schema compiled (BadDocument document line kind) cause = absurd cause
schema_cause script docs schema compiled (BadInstance index error) cause = record {
  schema = schema;
  compiled = compiled;
  refused = cause;
}
schema_cause script docs schema compiled UnplayedDocument (objects, opened, acts) = record {
  schema = schema;
  objects = objects;
  are_opened = record { compiled = compiled; opened_to = opened };
  acts = acts;
}
schema_cause script docs schema compiled (BadScript number) (objects, opened, calm, bad) = record {
  schema = schema;
  objects = objects;
  are_opened = record { compiled = compiled; opened_to = opened };
  calm = calm;
  holds = bad;
}
schema_cause script docs schema compiled UnplayedScript (objects, opened, calm, unbuilt) = record {
  schema = schema;
  objects = objects;
  are_opened = record { compiled = compiled; opened_to = opened };
  calm = calm;
  holds = unbuilt;
}
schema_cause script docs schema compiled (JournalFull text) (objects, opened, calm, filled) = record {
  schema = schema;
  objects = objects;
  are_opened = record { compiled = compiled; opened_to = opened };
  calm = calm;
  holds = filled;
}
schema_cause script docs schema compiled Memory cause = cause

pub cause_told : {A : Type 0} (script : List ℕ) (docs : List Doc) (schema : Set) → AreCompiled docs schema →
    (r : Result A RunRefusal) → IfErr r (HasSchemaCause schema script) → IfErr r (HasCause script docs)
cause_told script docs schema compiled (Ok text) cause = cause
cause_told script docs schema compiled (Err refusal) cause = schema_cause script docs schema compiled refusal cause
