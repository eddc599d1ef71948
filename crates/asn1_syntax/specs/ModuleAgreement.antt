-- ModuleAgreement: two modules are equal in all but the place and the capacity of the memory of their lists and
-- boxes, which no text says (X.680, sections 13 to 16).
use Rattle.std.specs.Prelude.{◌≡◌}
use Rattle.token_grammar.specs.PartLaws.{IdentifiersAgree, OptionsAgree}
use Rattle.asn1_values_syntax.specs.Agreement.{ValuesAgree}
use Rattle.asn1_syntax.specs.declared.module.Module.{Module}
use Rattle.asn1_syntax.specs.declared.module.Exports.{Exports}
use Rattle.asn1_syntax.specs.declared.module.ImportedSymbols.{ImportedSymbols}
use Rattle.asn1_syntax.specs.declared.module.Imports.{Imports}
use Rattle.asn1_syntax.specs.declared.module.Assigned.{Assigned}
use Rattle.asn1_syntax.specs.declared.module.Assigned.TheVariants.{OfType, OfValue}
use Rattle.asn1_syntax.specs.declared.module.Assignment.{Assignment}
use Rattle.asn1_syntax.specs.TypeAgreement.{TypesAgree, VectorsAgree, VectorsEqual}

abbrev pub ExportsAgree : Exports → Exports → Type 0
ExportsAgree x y = OptionsAgree VectorsEqual x.symbols y.symbols

abbrev pub SymbolsAgree : ImportedSymbols → ImportedSymbols → Type 0
SymbolsAgree x y = VectorsEqual x.symbols y.symbols × (x.module_name ≡ y.module_name) × OptionsAgree IdentifiersAgree
    x.identifier y.identifier

abbrev pub ImportsAgree : Imports → Imports → Type 0
ImportsAgree x y = SymbolsAgree x.first y.first × VectorsAgree SymbolsAgree x.others y.others

abbrev pub AssignedAgree : Assigned → Assigned → Type 0
AssignedAgree (OfType of) (OfType of') = TypesAgree of of'
AssignedAgree (OfType _) (OfValue _ _) = ⊥
AssignedAgree (OfValue _ _) (OfType _) = ⊥
AssignedAgree (OfValue of value) (OfValue of' value') = TypesAgree of of' × ValuesAgree value value'

abbrev pub AssignmentsAgree : Assignment → Assignment → Type 0
AssignmentsAgree x y = (x.name ≡ y.name) × AssignedAgree x.assigned y.assigned

abbrev pub ModulesAgree : Module → Module → Type 0
ModulesAgree x y =
    (x.document ≡ y.document)
    × (x.name ≡ y.name)
    × OptionsAgree IdentifiersAgree x.identifier y.identifier
    × (x.tag_default ≡ y.tag_default)
    × OptionsAgree ExportsAgree x.exports y.exports
    × OptionsAgree ImportsAgree x.imports y.imports
    × VectorsAgree AssignmentsAgree x.assignments y.assignments
