-- UseFaults: what is wrong with what a package states, attribute by attribute, as it is noted (X.722, section 8.4;
-- docs/PROFILE.md, section 18). Of all packages these are the faults of StatedFaults.
use Rattle.std.specs.Prelude.{◌≡◌, ℕ, List, Option, Some}
use Rattle.token_grammar.specs.declared.token.Token.{Token}
use Rattle.term_values.specs.Fits.{Fits}
use Rattle.term_values.specs.Syntaxes.{TypeSyntax}
use Rattle.term_values.specs.Typed.{TypedValue}
use Rattle.term_model.specs.WholeRecords.{IsSetValued}
use Rattle.asn1_names.specs.ModuleTerms.{ModuleTerm}
use Rattle.linked_parts.specs.declared.linked.Linked.{Linked}
use Rattle.linked_parts.specs.declared.linked.LinkedName.{LinkedName}
use Rattle.linked_parts.specs.declared.linked.LinkedPackage.{LinkedPackage}
use Rattle.linked_parts.specs.declared.linked.LinkedUse.{LinkedUse}
use Rattle.class_faults.specs.AttributeSyntaxes.{AttributeHas}
use Rattle.class_faults.specs.FaultSets.{Either, FaultSet, OneFault}
use Rattle.class_faults.specs.FirstClassFault.ClassFault.{SetMissing, ValueBad}
use Rattle.class_faults.specs.PlaceFaults.{AtPlaces}
use Rattle.class_faults.specs.StatedProperties.{HasValue}

-- a word that stands where the syntax is no set
abbrev pub WordFaults : TypeSyntax → ℕ → Option Token → FaultSet
WordFaults syntax its_document word kind document token = (said : Token) × (word ≡ Some said)
    × OneFault (¬ IsSetValued syntax) SetMissing its_document said.at kind document token

-- a name whose value doesn't fit
abbrev pub MisfitFaults : List ModuleTerm → Linked → TypeSyntax → ℕ → LinkedName → FaultSet
MisfitFaults ms linked syntax its_document name kind document token =
    (value : TypedValue) × HasValue ms linked name value
    × OneFault (¬ Fits syntax value) ValueBad its_document name.name.at kind document token

-- the same of a name that may be missing
abbrev pub ValueFaults : List ModuleTerm → Linked → TypeSyntax → ℕ → Option LinkedName → FaultSet
ValueFaults ms linked syntax its_document named kind document token = (name : LinkedName) × (named ≡ Some name)
    × MisfitFaults ms linked syntax its_document name kind document token

-- what is wrong with what is stated of an attribute that has the syntax
abbrev pub SaidFaults : List ModuleTerm → Linked → TypeSyntax → ℕ → LinkedUse → FaultSet
SaidFaults ms linked syntax document stated =
    Either (WordFaults syntax document stated.add) (Either (WordFaults syntax document stated.remove)
    (Either (ValueFaults ms linked syntax document stated.default_value)
    (ValueFaults ms linked syntax document stated.initial_value)))

abbrev pub UseFaults : List ModuleTerm → Linked → ℕ → LinkedUse → FaultSet
UseFaults ms linked its_document stated kind document token =
    (syntax : TypeSyntax) × AttributeHas ms linked stated.attribute syntax
    × SaidFaults ms linked syntax its_document stated kind document token

-- those of a package, and of all
abbrev pub FaultsOfPackage : List ModuleTerm → Linked → LinkedPackage → FaultSet
FaultsOfPackage ms linked part = AtPlaces (λ place. UseFaults ms linked part.head.document) part.attributes.items

abbrev pub FaultsOfPackages : List ModuleTerm → Linked → FaultSet
FaultsOfPackages ms linked = AtPlaces (λ place. FaultsOfPackage ms linked) linked.packages.items
