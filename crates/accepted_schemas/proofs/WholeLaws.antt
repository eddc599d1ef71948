-- WholeLaws: the schema as which documents are accepted is whole, where each value that they give is short (X.722,
-- section 8; docs/PROFILE.md, sections 2, 3 and 9).
use Rattle.std.specs.Prelude.{List}
use Rattle.term_model.specs.WholeSet.{IsWhole}
use Rattle.term_model.specs.declared.schema.Set.{Set}
use Rattle.asn1_names.specs.TermViews.{module_terms}
use Rattle.document_parts.specs.declared.documents.Doc.{Doc}
use Rattle.gdmo_names.specs.declared.parsed.Parsed.{Parsed}
use Rattle.whole_laws.specs.ShortValues.{AreShortValues}
use Rattle.whole_laws.proofs.WholeLaws.{are_whole}
use Rattle.template_compile.specs.Acceptance.{AreAcceptedAs}

pub accepted_whole : (docs : List Doc) (parts : Parsed) (schema : Set) (accepted : AreAcceptedAs docs parts schema) →
    AreShortValues (module_terms parts.modules.items) accepted.closed.linked → IsWhole schema
accepted_whole docs parts schema accepted short =
    let closed = accepted.closed in
    let referenced = closed.are_linked.referenced in
    let said = referenced.resolved.said in
    are_whole docs said.tokens said.units parts closed.linked schema said.lexed said.read said.gathered
    referenced.resolved.faultless referenced.have_targets closed.are_linked.are_linked closed.sound
    accepted.is_schema.records accepted.is_schema.instances short
