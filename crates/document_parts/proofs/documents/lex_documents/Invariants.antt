-- The documents of the front have been lexed.
use Rattle.document_parts.proofs.DocumentLaws.{AreLexedUpTo}
use Rattle.document_parts.proofs.documents.lex_documents.Given as goal

abbrev pub invariant-loop-document : goal.invariant-loop-document
invariant-loop-document l = AreLexedUpTo l.documents l.document-index l.number l.lists.items
