-- RegisteredApart: two templates of a document are registered at two places, as in every text that is read (X.722,
-- section 8.2; docs/PROFILE.md, section 12).
use Rattle.std.specs.Prelude.{◌≡◌, ◌≢◌, Some, AllPairs}
use Rattle.gdmo_names.specs.DocumentTemplates.{templates}
use Rattle.gdmo_names.specs.PartTerms.{Placed, PartTerms, identifier_of}
use Rattle.gdmo_names.specs.TemplateTerms.{IdentifierTerm}

abbrev pub AreTwoRegistered : Placed → Placed → Type 0
AreTwoRegistered x y = (one other : IdentifierTerm) → identifier_of x.template ≡ Some one →
    identifier_of y.template ≡ Some other → x.document ≡ y.document → one.brace.at ≢ other.brace.at

abbrev pub AreRegisteredApart : PartTerms → Type 0
AreRegisteredApart parts = AllPairs AreTwoRegistered (templates parts)
