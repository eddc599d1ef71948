-- SameFiles: what is read from the same files has the same bytes, so what is said of it is said of all that is read.
use Rattle.std.proofs.Common.{◌≡◌, ℕ, List, None, Some, true, refl, sym, ◌∙◌}
use Rattle.std.proofs.Math.Path.{subst}
use Rattle.std.proofs.lemmas.Bool.{false≢true}
use Rattle.std.proofs.lemmas.Option.{same_Some}
use Rattle.std.specs.Prelude.{IsSome}
use Rattle.text_lex.specs.Lexed.{AreTokensOf}
use Rattle.document_parts.specs.declared.documents.Doc.{Doc}
use Rattle.document_parts.specs.ReadDocuments.{AreLexed}
use Rattle.document_parts.specs.ReadDocuments.AreLexed.{no_document as lexed_end, document as lexed_document}
use Rattle.template_compile.specs.declared.counts.Counts.{Counts}
use Rattle.template_compile.specs.Acceptance.{AreAccepted, AreAcceptedAs}
use Rattle.template_compile.specs.Counting.{IsCompiled, counted}
use Rattle.term_model.specs.declared.schema.Set.{Set}
use Rattle.agent_bytes.specs.Told.{IsFile}
use Rattle.agent_run.specs.Files.{AreDocuments, Told}
use Rattle.agent_run.specs.Files.AreDocuments.{no_document, document}
use Rattle.agent_run.specs.Refusing.{AreRunFiles}
use Rattle.agent_run.specs.Runnable.{AreOpenable, IsPlayable}

-- a file that is told has one content
pub one_content : (files : Told) → IsSome files → (name bytes others : List ℕ) → IsFile files name bytes →
    IsFile files name others → bytes ≡ others
one_content None told name bytes others one other = absurd (false≢true told)
one_content (Some bytes_of) told name bytes others one other = same_Some bytes others (sym one ∙ other)

-- documents that have the same tokens are accepted as the same schemas, and compiled to them
abbrev AlsoLexed : List Doc → List Doc → Type 0
AlsoLexed docs others = (tokens : _) → AreLexed docs tokens → AreLexed others tokens

also_accepted_as : {docs others : List Doc} {parts : _} {schema : Set} → AlsoLexed docs others →
    AreAcceptedAs docs parts schema → AreAcceptedAs others parts schema
also_accepted_as lexed accepted =
    let closed = accepted.closed in
    let linked = closed.are_linked in
    let referenced = linked.referenced in
    let resolved = referenced.resolved in
    let said = resolved.said in
    record {
      closed = record {
        linked = closed.linked;
        are_linked = record {
          referenced = record {
            resolved = record {
              said = record {
                tokens = said.tokens;
                lexed = lexed said.tokens said.lexed;
                units = said.units;
                read = said.read;
                gathered = said.gathered;
              };
              faultless = resolved.faultless;
            };
            have_targets = referenced.have_targets;
          };
          are_linked = linked.are_linked;
        };
        sound = closed.sound;
      };
      is_schema = accepted.is_schema;
    }

also_accepted : {docs others : List Doc} {schema : Set} → AlsoLexed docs others → AreAccepted docs schema →
    AreAccepted others schema
also_accepted lexed accepted = (accepted.0, also_accepted_as lexed accepted.1)

also_compiled : {docs others : List Doc} {schema : Set} {counts : Counts} → AlsoLexed docs others →
    (compiled : IsCompiled docs schema counts true) → IsCompiled others schema (counted others compiled.parts) true
also_compiled lexed compiled = record {
  parts = compiled.parts;
  accepted = also_accepted_as lexed compiled.accepted;
  counts_are = refl;
  instances_are = compiled.instances_are;
}

-- documents of the same files have the same tokens
also_lexed : {files : Told} {names : List (List ℕ)} {docs others : List Doc} → IsSome files →
    AreDocuments files names docs → AreDocuments files names others → AlsoLexed docs others
also_lexed told no_document no_document tokens lexed_end = lexed_end
also_lexed {files} told (document {name = name} {doc = doc} one docs) (document {doc = same} other others)
    tokens (lexed_document {tokens = its} {lists = lists} first rest) = lexed_document
    (subst (λ bytes. AreTokensOf bytes its.items)
    (one_content files told name doc.bytes.items same.bytes.items one.told other.told) first)
    (also_lexed told docs others lists rest)

pub also_openable : {files : Told} {names : List (List ℕ)} {docs others : List Doc} → IsSome files →
    AreDocuments files names docs → AreDocuments files names others → AreOpenable docs → AreOpenable others
also_openable told docs others openable = record {
  accepted_as = openable.accepted_as;
  accepted = also_accepted (also_lexed told docs others) openable.accepted;
  each = λ schema counts compiled.
      openable.each schema _ (also_compiled (also_lexed told others docs) compiled);
}

also_playable_documents : {files : Told} {names : List (List ℕ)} {script : List ℕ} {docs others : List Doc} →
    IsSome files → AreDocuments files names docs → AreDocuments files names others → IsPlayable script docs →
    IsPlayable script others
also_playable_documents told docs others playable = record {
  accepted_as = playable.accepted_as;
  accepted = also_accepted (also_lexed told docs others) playable.accepted;
  each = λ schema accepted. playable.each schema (also_accepted (also_lexed told others docs) accepted);
}

-- the script and the documents of the same files
pub also_playable : {files : Told} {script_name : List ℕ} {names : List (List ℕ)} {script same : List ℕ}
    {docs others : List Doc} → IsSome files → AreRunFiles files script_name names script docs →
    AreRunFiles files script_name names same others → IsPlayable script docs → IsPlayable same others
also_playable {files} {script_name} {script = script} {same = same} {others = others} told run other playable =
    subst (λ text. IsPlayable text others) one_script
    (also_playable_documents told run.documents other.documents playable)
  where
    one_script : script ≡ same
    one_script = sym run.script_is ∙ (one_content files told script_name run.within.bytes other.within.bytes
        run.within.told other.within.told ∙ other.script_is)
