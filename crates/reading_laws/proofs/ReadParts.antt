-- ReadParts: what holds of every set of documents that was read holds of their parts.
use Rattle.std.specs.Prelude.{List}
use Rattle.std.specs.Global.{Vec}
use Rattle.std.proofs.lemmas.List.Elements.{All-contains}
use Rattle.token_grammar.specs.declared.token.Token.{Token}
use Rattle.document_units.specs.declared.unit.DocumentUnit.{DocumentUnit}
use Rattle.document_parts.specs.declared.documents.Doc.{Doc}
use Rattle.document_parts.specs.DocumentParts.{AreParts}
use Rattle.document_parts.specs.ReadDocuments.{AreLexed, AreRead}
use Rattle.gdmo_names.specs.declared.parsed.Parsed.{Parsed}
use Rattle.gdmo_names.specs.PartTerms.StepTerm.{AddTo, ReplyWith}
use Rattle.gdmo_names.specs.PartTerms.TakenTerm.{OneWord}
use Rattle.gdmo_names.specs.PartViews.{part_terms}
use Rattle.placing_laws.proofs.DocumentLabels.{labels_apart}
use Rattle.arc_laws.proofs.DocumentIdentifiers.{all_arcs_whole}
use Rattle.label_laws.specs.ReadTexts.{AreReadParts}
use Rattle.reading_laws.proofs.SectionSteps.{IsReadRule, IsReadStep, rules_read}

pub are_read : (docs : List Doc) (lists : List (Vec Token)) (documents : List (List DocumentUnit)) (parts : Parsed) →
    AreLexed docs lists → AreRead lists documents → AreParts documents parts → AreReadParts (part_terms parts)
are_read docs lists documents parts lexed read gathered =
    let rules = rules_read docs lists documents parts lexed read gathered in record {
      whole = all_arcs_whole docs lists documents parts lexed read gathered;
      numbers = λ rule number label has. All-contains IsReadStep rule.steps (AddTo number label)
          (All-contains IsReadRule (part_terms parts).rules rule rules has.stands).steps has.has;
      words = λ rule word has. All-contains IsReadStep rule.steps (ReplyWith (OneWord word))
          (All-contains IsReadRule (part_terms parts).rules rule rules has.stands).steps has.has;
      apart = labels_apart docs lists documents parts lexed read gathered;
    }
