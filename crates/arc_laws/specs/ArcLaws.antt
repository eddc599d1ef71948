-- ArcLaws: what holds of the identifiers of all documents that were read (X.680, sections 12 and 32; docs/PROFILE.md,
-- sections 1 and 12).
use Rattle.std.specs.Prelude.{List}
use Rattle.std.specs.Global.{Vec}
use Rattle.token_grammar.specs.declared.token.Token.{Token}
use Rattle.document_units.specs.declared.unit.DocumentUnit.{DocumentUnit}
use Rattle.document_parts.specs.declared.documents.Doc.{Doc}
use Rattle.document_parts.specs.DocumentParts.{AreParts}
use Rattle.document_parts.specs.ReadDocuments.{AreLexed, AreRead}
use Rattle.gdmo_first_names.specs.ReadModules.{AreWhole}
use Rattle.gdmo_names.specs.declared.parsed.Parsed.{Parsed}
use Rattle.gdmo_names.specs.PartViews.{part_terms}

-- the arcs that are stated in digits are numbers of 64 bits
abbrev pub ArcsAreWhole : Type 0
ArcsAreWhole = (docs : List Doc) (lists : List (Vec Token)) (units : List (List DocumentUnit)) (parts : Parsed) →
    AreLexed docs lists → AreRead lists units → AreParts units parts → AreWhole (part_terms parts)
