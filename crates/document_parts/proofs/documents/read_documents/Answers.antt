-- One more document.
use Rattle.document_parts.proofs.DocumentLaws.{all_documents, read_step, rest_gone, rest_here, syntax_refused}
use Rattle.document_parts.proofs.DocumentLaws.{units_same}
use Rattle.document_parts.proofs.documents.read_documents.Goals as goal

pub returns-in-Err : goal.returns-in-Err
returns-in-Err c = syntax_refused c.as_slice.result.now c.in-Err.refusal c.syntax_refusal.result c.loop-tokens.invariant
    (rest_here c.args.documents.now c.loop-tokens.tokens-index c.tokens-item.result c.loop-tokens-test.true
    c.tokens-item.is)
    c.as_slice.ensures.value c.in-Err.ensures c.syntax_refusal.ensures

pub loop-tokens-preserved : goal.loop-tokens-preserved
loop-tokens-preserved c = read_step c.loop-tokens.invariant
    (rest_here c.args.documents.now c.loop-tokens.tokens-index c.tokens-item.result c.loop-tokens-test.true
    c.tokens-item.is)
    (units_same c.as_slice.result.now c.tokens-item.result.items c.as_slice.ensures.value c.in-Ok.ensures)

pub returns : goal.returns
returns c = all_documents c.loop-tokens.invariant
    (rest_gone c.args.documents.now c.loop-tokens.tokens-index c.loop-tokens-test.false)
