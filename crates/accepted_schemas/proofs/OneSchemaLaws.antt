-- OneSchemaLaws: documents have one schema at most: two schemas as which the same documents are accepted say the same
-- (X.722, section 8; docs/PROFILE.md, sections 2 and 18).
use Rattle.std.specs.Prelude.{List}
use Rattle.std.proofs.Common.{sym}
use Rattle.std.proofs.Math.Path.{subst}
use Rattle.asn1_names.specs.ModuleTerms.{ModuleTerm}
use Rattle.asn1_names.specs.TermViews.{module_terms}
use Rattle.gdmo_names.specs.declared.parsed.Parsed.{Parsed}
use Rattle.linked_parts.specs.declared.linked.Linked.{Linked}
use Rattle.document_parts.specs.declared.documents.Doc.{Doc}
use Rattle.term_model.specs.declared.schema.Set.{Set}
use Rattle.template_compile.specs.Acceptance.{AreAccepted, AreAcceptedAs, IsSchemaOf}
use Rattle.one_schema.specs.SameSchemas.{AreSameSchemas}
use Rattle.one_schema.proofs.OneSchema.{one_schema}
use Rattle.accepted_laws.specs.AlikeParts.{AreAlike}
use Rattle.accepted_laws.proofs.AcceptedLaws.{linked_determined, modules_determined}
use Rattle.accepted_schemas.proofs.AlikeRecords.{instances_alike, records_alike}

-- the schemas of linked parts that are alike are the same
pub one_schema_of_alike : (ms : List ModuleTerm) (linked other : Linked) → AreAlike linked other →
    (one two : Set) → IsSchemaOf ms linked one → IsSchemaOf ms other two → AreSameSchemas one two
one_schema_of_alike ms linked other alike one two is too =
    one_schema ms linked one two is.records is.instances (records_alike ms linked other alike two too.records)
    (instances_alike ms linked other alike two.instances two.system too.instances)

one_schema_of_parts : (docs : List Doc) (parts same : Parsed) (one other : Set) → AreAcceptedAs docs parts one →
    AreAcceptedAs docs same other → AreSameSchemas one other
one_schema_of_parts docs parts same one other accepted too =
    let alike = linked_determined accepted.closed.are_linked too.closed.are_linked in
    let modules = modules_determined accepted.closed.are_linked.referenced.resolved.said
    too.closed.are_linked.referenced.resolved.said in
    one_schema_of_alike (module_terms parts.modules.items) accepted.closed.linked too.closed.linked alike.0 one other
    accepted.is_schema (subst (λ ms. IsSchemaOf ms too.closed.linked other) (sym modules) too.is_schema)

pub one_schema_of_documents : (docs : List Doc) (one other : Set) → AreAccepted docs one → AreAccepted docs other →
    AreSameSchemas one other
one_schema_of_documents docs one other accepted too =
    one_schema_of_parts docs accepted.0 too.0 one other accepted.1 too.1
