-- The documents of the front have been read.
use Rattle.document_parts.proofs.DocumentLaws.{AreReadUpTo}
use Rattle.document_parts.proofs.documents.read_documents.Given as goal

abbrev pub invariant-loop-tokens : goal.invariant-loop-tokens
invariant-loop-tokens l = AreReadUpTo l.documents l.tokens-index l.number l.parts
