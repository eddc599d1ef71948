-- ArcLaws: lists of arcs that are object identifiers, and what is told of the identifiers of templates.
use Rattle.std.proofs.Common.{◌∙◌, ℕ, List}
use Rattle.std.proofs.Common.{Option, None, Some, sym, ap, subst}
use Rattle.std.proofs.lemmas.Bool.{false≢true}
use Rattle.key_numbers.specs.NumberedLists.{IsList, Row}
use Rattle.gdmo_names.specs.FirstNames.{HasArcs, are_identifier}
use Rattle.gdmo_names.specs.PartTerms.{PartTerms}
use Rattle.gdmo_names.specs.TemplateTerms.{IdentifierTerm}
use Rattle.identifier_arcs.specs.KnownArcs.{TellsArcs}
use Rattle.identifier_arcs.proofs.KnownLaws.{one_arcs}
use Rattle.gdmo_identifiers.specs.IdentifierTables.{TellsIdentifier, TellsOid}

-- ---- the object identifier that an identifier is

pub identifier_told : (parts : PartTerms) (row : Row) (x : IdentifierTerm) (n : ℕ) (told : Option (List ℕ)) →
    TellsArcs parts row x (Some n) → ((arcs : List ℕ) → IsList row n arcs → TellsOid arcs told) →
    TellsIdentifier parts x told
identifier_told parts row x n told t tells = by told (tells t.0 t.1)
  where
    by : (told : Option (List ℕ)) → TellsOid t.0 told → TellsIdentifier parts x told
    by None bad = λ arcs is. false≢true (sym bad ∙ ap are_identifier (one_arcs t.2 is.has) ∙ is.good)
    by (Some own) good = record {
      has = subst (HasArcs parts x) (sym good.0) t.2;
      good = ap are_identifier good.0 ∙ good.1;
    }

pub no_arcs_told : (parts : PartTerms) (x : IdentifierTerm) → ((arcs : List ℕ) → ¬ HasArcs parts x arcs) →
    TellsIdentifier parts x None
no_arcs_told parts x never = λ arcs is. never arcs is.has
