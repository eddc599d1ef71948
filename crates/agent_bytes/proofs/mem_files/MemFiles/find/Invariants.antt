-- `find`: no file so far has the name, so that the first one stands in the rest.
use Rattle.std.proofs.Common.{◌≡◌, drop}
use Rattle.agent_bytes.specs.Memory.{bytes_named}
use Rattle.agent_bytes.proofs.mem_files.MemFiles.find.Given as goal

abbrev pub invariant-loop-file : goal.invariant-loop-file
invariant-loop-file l =
    bytes_named l.self.files l.name ≡ bytes_named (drop l.file-index l.self.files) l.name
