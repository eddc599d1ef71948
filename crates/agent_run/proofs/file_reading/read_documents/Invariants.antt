use Rattle.std.proofs.Common.{◌≡◌, map, take}
use Rattle.std.specs.Prelude.{string_bytes}
use Rattle.agent_run.specs.Files.{AreDocuments}
use Rattle.agent_run.proofs.file_reading.read_documents.Given as goal

abbrev pub invariant-loop-name : goal.invariant-loop-name
invariant-loop-name g l = record {
  told : AreDocuments (g.F.Files.files l.fn.files) (map string_bytes (take l.name-index l.names)) l.documents.items;
  same : g.F.Files.files l.files ≡ g.F.Files.files l.fn.files;
  quiet : g.F.Files.faults l.files ≡ g.F.Files.faults l.fn.files;
}
