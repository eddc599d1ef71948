-- PlacingLaws: what holds of the parts of all documents that were read (X.722, section 8.2; docs/PROFILE.md, sections 1
-- and 2).
use Rattle.std.specs.Prelude.{List}
use Rattle.std.specs.Global.{Vec}
use Rattle.token_grammar.specs.declared.token.Token.{Token}
use Rattle.document_units.specs.declared.unit.DocumentUnit.{DocumentUnit}
use Rattle.document_parts.specs.declared.documents.Doc.{Doc}
use Rattle.document_parts.specs.DocumentParts.{AreParts}
use Rattle.document_parts.specs.ReadDocuments.{AreLexed, AreRead}
use Rattle.asn1_names.specs.TermViews.{module_terms}
use Rattle.asn1_resolve.specs.ModuleOrder.{AreInOrder}
use Rattle.gdmo_names.specs.declared.parsed.Parsed.{Parsed}
use Rattle.gdmo_names.specs.PartViews.{part_terms}
use Rattle.gdmo_names.specs.TargetTables.{ArePlacedApart}

-- no two templates have one document and one place of their labels
abbrev pub LabelsStandApart : Type 0
LabelsStandApart = (docs : List Doc) (lists : List (Vec Token)) (units : List (List DocumentUnit)) (parts : Parsed) →
    AreLexed docs lists → AreRead lists units → AreParts units parts → ArePlacedApart (part_terms parts)

-- the first word of each assigned type stands no later than those of the types in it
abbrev pub TypesBeginInOrder : Type 0
TypesBeginInOrder = (docs : List Doc) (lists : List (Vec Token)) (units : List (List DocumentUnit)) (parts : Parsed) →
    AreLexed docs lists → AreRead lists units → AreParts units parts → AreInOrder (module_terms parts.modules.items)
