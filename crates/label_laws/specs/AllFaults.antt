-- AllFaults: what is noted of the references of a set of documents, step after step (X.722, section 8; docs/PROFILE.md,
-- section 12).
use Rattle.gdmo_names.specs.DocumentTemplates.{templates}
use Rattle.gdmo_names.specs.FaultSets.{AnyOf, Either, FaultSet, FaultsOfTemplates, LabelledTwice}
use Rattle.gdmo_names.specs.GroupFaults.{FaultsOfGroups}
use Rattle.gdmo_names.specs.PartTerms.{Placed, PartTerms, module_terms_of}
use Rattle.gdmo_names.specs.SectionFaults.{FaultsOfSections, StatedTwice}
use Rattle.gdmo_types.specs.FieldFaults.{FieldFaults}
use Rattle.gdmo_types.specs.ModuleNames.{DoubleModuleNames}
use Rattle.gdmo_types.specs.QualifiedFaults.{QualifiedFaults}
use Rattle.gdmo_rules.specs.FaultsOfSteps.{FaultsOfSteps}
use Rattle.gdmo_identifiers.specs.IdentifierFaults.{FaultsOfIdentifiers, FaultsOfModules}
use Rattle.first_name_arcs.specs.UnequalNames.{UnequalNames}

-- labels and the references of templates
abbrev pub OfTemplates : PartTerms → FaultSet
OfTemplates parts = Either (LabelledTwice parts) (FaultsOfTemplates parts)

-- the names of types and values, and FIXED groups that are added to, of one template
abbrev pub OfNames : PartTerms → Placed → FaultSet
OfNames parts x = Either (QualifiedFaults parts x) (FaultsOfGroups parts x)

-- those of all templates, and with the names of modules
abbrev pub OfAllNames : PartTerms → FaultSet
OfAllNames parts = AnyOf (OfNames parts) (templates parts)

abbrev pub WithNames : PartTerms → FaultSet
WithNames parts = Either (OfTemplates parts) (Either (DoubleModuleNames (module_terms_of parts)) (OfAllNames parts))

-- with the references of rules and instances
abbrev pub WithSections : PartTerms → FaultSet
WithSections parts = Either (WithNames parts) (FaultsOfSections parts)

-- with what depends on types: fields, rules that are stated twice, and the steps of rules
abbrev pub OfTypes : PartTerms → FaultSet
OfTypes parts = Either (FieldFaults parts) (Either (StatedTwice parts) (FaultsOfSteps parts))

abbrev pub WithTypes : PartTerms → FaultSet
WithTypes parts = Either (WithSections parts) (OfTypes parts)

-- with the identifiers of modules and of templates, and with first names
abbrev pub WithModules : PartTerms → FaultSet
WithModules parts = Either (WithTypes parts) (FaultsOfModules parts)

abbrev pub WithIdentifiers : PartTerms → FaultSet
WithIdentifiers parts = Either (WithModules parts) (FaultsOfIdentifiers parts)

abbrev pub AllFaults : PartTerms → FaultSet
AllFaults parts = Either (WithIdentifiers parts) (UnequalNames parts)
