-- ListLaws: there are as many lists of tokens as documents.
use Rattle.std.proofs.Common.{◌≡◌, List, ap, length, refl, suc}
use Rattle.std.specs.Global.{Vec}
use Rattle.token_grammar.specs.declared.token.Token.{Token}
use Rattle.document_parts.specs.declared.documents.Doc.{Doc}
use Rattle.document_parts.specs.ReadDocuments.{AreLexed}
use Rattle.document_parts.specs.ReadDocuments.AreLexed.{document, no_document}

pub as_many : {documents : List Doc} {lists : List (Vec Token)} → AreLexed documents lists →
    length lists ≡ length documents
as_many no_document = refl
as_many (document tokens others) = ap (λ n. suc n) (as_many others)
