-- One more document.
use Rattle.std.proofs.Common.{rules, ◌≡◌, ◌++◌, ◌∷◌, [], ◌+◌, subst, sym}
use Rattle.text_lex.specs.Lexed.{AreTokensOf}
use Rattle.document_parts.proofs.DocumentLaws.{AreLexedUpTo, all_lexed, lexed_step, lexing_refused, rest_gone}
use Rattle.document_parts.proofs.DocumentLaws.{rest_here}
use Rattle.document_parts.proofs.documents.lex_documents.Goals as goal

pub returns-in-Err : goal.returns-in-Err
returns-in-Err c = lexing_refused c.as_slice.result.now c.in-Err.refusal c.lexing_refusal.result
    c.loop-document.invariant
    (rest_here c.args.documents.now c.loop-document.document-index c.document-item.result c.loop-document-test.true
    c.document-item.is)
    c.as_slice.ensures.value c.in-Err.ensures.refused c.lexing_refusal.ensures

pub loop-document-preserved : goal.loop-document-preserved
loop-document-preserved c =
    let items : c.push.new.self.items ≡ c.loop-document.lists.items ++ c.in-Ok.tokens ∷ [] = search rules in
    subst (λ lists. AreLexedUpTo c.args.documents.now (c.loop-document.document-index + 1)
    (c.loop-document.number + 1) lists) (sym items)
    (lexed_step c.in-Ok.tokens c.loop-document.invariant
    (rest_here c.args.documents.now c.loop-document.document-index c.document-item.result c.loop-document-test.true
    c.document-item.is)
    (subst (λ octets. AreTokensOf octets c.in-Ok.tokens.items) c.as_slice.ensures.value c.in-Ok.ensures.tokens))

pub returns : goal.returns
returns c = all_lexed c.loop-document.invariant
    (rest_gone c.args.documents.now c.loop-document.document-index c.loop-document-test.false)
