-- PlayLaws: where a script is played on the objects of accepted documents, each object obeys its templates after each
-- part of the journal (X.722, section 8; docs/PROFILE.md, sections 2, 3 and 5).
use Rattle.std.specs.Prelude.{◌≡◌, List, true, All}
use Rattle.agent_model.specs.Played.{Play}
use Rattle.term_model.specs.declared.objects.NamedObject.{NamedObject}
use Rattle.term_model.specs.declared.schema.AttrRec.{AttrRec}
use Rattle.term_model.specs.declared.schema.Set.{Set}
use Rattle.typed_laws.specs.SyntaxTags.{has_tags}
use Rattle.asn1_names.specs.TermViews.{module_terms}
use Rattle.gdmo_names.specs.declared.parsed.Parsed.{Parsed}
use Rattle.document_parts.specs.declared.documents.Doc.{Doc}
use Rattle.whole_laws.specs.ShortValues.{AreShortValues}
use Rattle.template_compile.specs.Acceptance.{AreAcceptedAs}
use Rattle.agent_model.specs.Playing.{ended}
use Rattle.agent_model.specs.declared.script_line.ScriptLine.{ScriptLine}
use Rattle.run_command.specs.ScriptRuns.{IsPlay, Obeys}
use Rattle.accepted_schemas.specs.ShortStated.{AreShortStated}
use Rattle.accepted_schemas.proofs.EncodableLaws.{accepted_encodable}
use Rattle.accepted_schemas.proofs.WholeLaws.{accepted_whole}

pub accepted_obeys : (docs : List Doc) (parts : Parsed) (schema : Set) (accepted : AreAcceptedAs docs parts schema) →
    All (λ (template : AttrRec). has_tags template.syntax ≡ true) schema.attributes →
    AreShortValues (module_terms parts.modules.items) accepted.closed.linked →
    AreShortStated (module_terms parts.modules.items) accepted.closed.linked →
    (objects : List NamedObject) (lines : List ScriptLine) (play : Play) → IsPlay schema objects lines play →
    Obeys schema objects (ended play).journal
accepted_obeys docs parts schema accepted tags short stated objects lines play is_play =
    is_play.obeys (accepted_whole docs parts schema accepted short)
    (accepted_encodable docs parts schema accepted tags short.instances stated)
