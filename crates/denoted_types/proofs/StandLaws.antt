-- StandLaws: what stands within a type stands in modules, and in modules without a fault each name of a type means one
-- (X.680, sections 13.1 and 16).
use Rattle.std.proofs.Common.{◌≡◌, ℕ, List, Option, None, Some, refl, sym, ◌∙◌}
use Rattle.token_grammar.specs.declared.token.Token.{Token}
use Rattle.asn1_names.specs.declared.refusal.UnsupportedKind.TheVariants as unsupported
use Rattle.asn1_names.specs.ModuleTerms.{LimitTerm, TypeTerm, ModuleTerm}
use Rattle.asn1_names.specs.ModuleTerms.TypeTerm.{Reference}
use Rattle.asn1_names.specs.Containment.{Within}
use Rattle.asn1_names.specs.Containment.Within.{itself, tagged, element, component, alternative}
use Rattle.asn1_names.specs.FirstModuleFault.{AreFaultless}
use Rattle.asn1_names.specs.FirstModuleFault.FaultKind.{TypeUnknown, ModuleUnknown, NotSupported}
use Rattle.asn1_names.specs.ModuleFaults.UnknownTypeAt.{alone, of_module}
use Rattle.asn1_names.specs.ModuleFaults.UnknownModuleAt.{of_module as of_no_module}
use Rattle.asn1_names.specs.ModuleFaults.UnsupportedAt.{type_word}
use Rattle.asn1_names.specs.NameMeaning.{ModuleMeaning, module_meaning, reference_meaning}
use Rattle.asn1_names.specs.NameMeaning.ModuleMeaning.{Standard, ModuleAt, NoModule}
use Rattle.asn1_names.specs.NodeCount.{IsNoType}
use Rattle.asn1_names.specs.Occurrences.{Stands}

pub within_both : {inner of outer : TypeTerm} → Within inner of → Within of outer → Within inner outer
within_both h itself = h
within_both h (tagged w) = tagged (within_both h w)
within_both h (element w) = element (within_both h w)
within_both h (component is w) = component is (within_both h w)
within_both h (alternative is w) = alternative is (within_both h w)

-- ---- a name of a type means one

standard_none : Standard ≡ NoModule → ⊥
standard_none h = absurd (cc)

placed_none : (m : ℕ) → ModuleAt m ≡ NoModule → ⊥
placed_none m h = absurd (cc)

not_in_module : {ms : List ModuleTerm} {document m : ℕ} {module_name name : Token} {limits : List LimitTerm}
    (meaning : ModuleMeaning) → AreFaultless ms → Stands ms document m (Reference (Some module_name) name limits) →
    IsNoType (reference_meaning ms m (Some module_name) name) → module_meaning ms module_name.text ≡ meaning → ⊥
not_in_module {document = document} {name = name} Standard sound stands unmeant is =
    sound TypeUnknown document name.at (of_module stands (λ same. standard_none (sym is ∙ same)) unmeant refl)
not_in_module {document = document} {name = name} (ModuleAt v) sound stands unmeant is =
    sound TypeUnknown document name.at (of_module stands (λ same. placed_none v (sym is ∙ same)) unmeant refl)
not_in_module {document = document} {module_name = module_name} NoModule sound stands unmeant is =
    sound ModuleUnknown document module_name.at (of_no_module stands is refl)

pub means_type : {ms : List ModuleTerm} {document m : ℕ} (module_name : Option Token) {name : Token}
    {limits : List LimitTerm} → AreFaultless ms → Stands ms document m (Reference module_name name limits) →
    IsNoType (reference_meaning ms m module_name name) → ⊥
means_type {document = document} None {name = name} sound stands unmeant =
    sound TypeUnknown document name.at (alone stands unmeant
    (λ other. sound (NotSupported unsupported.TypeWord) document name.at (type_word stands other refl)) refl)
means_type {ms = ms} (Some module_name) sound stands unmeant =
    not_in_module (module_meaning ms module_name.text) sound stands unmeant refl
