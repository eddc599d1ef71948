-- IntegerPlays: where documents whose attributes are all of INTEGER are accepted, everything in the schema has an
-- encoding, and where a script is played on its objects, each obeys its templates; nothing is asked of lengths or tags
-- (X.722, section 8; X.660, clause 7; X.690, section 8; docs/PROFILE.md, sections 2, 3 and 5).
use Rattle.std.specs.Prelude.{List}
use Rattle.agent_model.specs.Played.{Play}
use Rattle.term_model.specs.declared.objects.NamedObject.{NamedObject}
use Rattle.term_model.specs.declared.schema.Set.{Set}
use Rattle.asn1_names.specs.TermViews.{module_terms}
use Rattle.gdmo_names.specs.declared.parsed.Parsed.{Parsed}
use Rattle.document_parts.specs.declared.documents.Doc.{Doc}
use Rattle.opening_laws.specs.Encodable.{IsEncodable}
use Rattle.template_compile.specs.Acceptance.{AreAcceptedAs}
use Rattle.agent_model.specs.Playing.{ended}
use Rattle.agent_model.specs.declared.script_line.ScriptLine.{ScriptLine}
use Rattle.run_command.specs.ScriptRuns.{IsPlay, Obeys}
use Rattle.accepted_schemas.specs.IntegerDocuments.{AreIntegerDocuments}
use Rattle.accepted_schemas.proofs.EncodableLaws.{accepted_encodable}
use Rattle.accepted_schemas.proofs.IntegerLaws.{integers_short, integers_stated, integers_tags}
use Rattle.accepted_schemas.proofs.PlayLaws.{accepted_obeys}

pub integers_encodable : (docs : List Doc) (parts : Parsed) (schema : Set)
    (accepted : AreAcceptedAs docs parts schema) →
    AreIntegerDocuments (module_terms parts.modules.items) accepted.closed.linked → IsEncodable schema
integers_encodable docs parts schema accepted integers =
    let ms = module_terms parts.modules.items in
    let linked = accepted.closed.linked in
    accepted_encodable docs parts schema accepted
    (integers_tags ms linked integers schema accepted.is_schema.records) (integers_short ms linked integers).instances
    (integers_stated ms linked integers)

pub integers_obey : (docs : List Doc) (parts : Parsed) (schema : Set) (accepted : AreAcceptedAs docs parts schema) →
    AreIntegerDocuments (module_terms parts.modules.items) accepted.closed.linked →
    (objects : List NamedObject) (lines : List ScriptLine) (play : Play) → IsPlay schema objects lines play →
    Obeys schema objects (ended play).journal
integers_obey docs parts schema accepted integers =
    let ms = module_terms parts.modules.items in
    let linked = accepted.closed.linked in
    accepted_obeys docs parts schema accepted
    (integers_tags ms linked integers schema accepted.is_schema.records) (integers_short ms linked integers)
    (integers_stated ms linked integers)
