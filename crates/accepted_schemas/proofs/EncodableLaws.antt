-- EncodableLaws: everything in the schema as which documents are accepted has an encoding, where no tag in the syntax
-- of an attribute stands for the end of contents, and each value that the documents state is short (X.660, clause 7;
-- X.690, sections 8.1.2, 8.1.3 and 8.19; docs/PROFILE.md, sections 2 and 3).
use Rattle.std.specs.Prelude.{◌≡◌, List, true, All}
use Rattle.term_model.specs.declared.schema.AttrRec.{AttrRec}
use Rattle.term_model.specs.declared.schema.Set.{Set}
use Rattle.typed_laws.specs.SyntaxTags.{has_tags}
use Rattle.asn1_names.specs.TermViews.{module_terms}
use Rattle.gdmo_names.specs.PartViews.{part_terms}
use Rattle.gdmo_names.specs.declared.parsed.Parsed.{Parsed}
use Rattle.document_parts.specs.declared.documents.Doc.{Doc}
use Rattle.registered_laws.proofs.DocumentLaws.{have_own_identifiers}
use Rattle.instance_laws.specs.ShortInstances.{AreShortInstances}
use Rattle.opening_laws.specs.Encodable.{IsEncodable}
use Rattle.template_compile.specs.Acceptance.{AreAcceptedAs}
use Rattle.accepted_schemas.specs.ShortStated.{AreShortStated}
use Rattle.accepted_schemas.proofs.IdentifierLaws.{all_identifiers, package_identifiers}
use Rattle.accepted_schemas.proofs.NameLaws.{parts_short}
use Rattle.accepted_schemas.proofs.ValueLaws.{values_short}

pub accepted_encodable : (docs : List Doc) (parts : Parsed) (schema : Set)
    (accepted : AreAcceptedAs docs parts schema) →
    All (λ (template : AttrRec). has_tags template.syntax ≡ true) schema.attributes →
    AreShortInstances (module_terms parts.modules.items) accepted.closed.linked →
    AreShortStated (module_terms parts.modules.items) accepted.closed.linked → IsEncodable schema
accepted_encodable docs parts schema accepted tags short stated =
    let linked = accepted.closed.linked in
    let referenced = accepted.closed.are_linked.referenced in
    let are_linked = accepted.closed.are_linked.are_linked in
    let said = referenced.resolved.said in
    let ms = module_terms parts.modules.items in
    let records = accepted.is_schema.records in
    let instances = accepted.is_schema.instances in
    record {
      identifiers = all_identifiers (part_terms parts) ms linked schema are_linked records;
      packages = package_identifiers (part_terms parts) ms linked schema are_linked records instances;
      tags = tags;
      parts = parts_short ms linked schema instances short;
      values = values_short ms linked schema records
          (have_own_identifiers docs said.tokens said.units parts linked said.lexed said.read said.gathered are_linked
          referenced.have_targets) stated;
    }
