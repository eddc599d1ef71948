-- ImportLaws: which fault an import has (docs/PROFILE.md, section 11).
use Rattle.std.proofs.Common.{◌≡◌, ℕ, List, [], ◌∷◌, Option, Some, inl, inr}
use Rattle.std.specs.Prelude.{◌≢◌}
use Rattle.asn1_names.specs.declared.first_fault.FaultKind.TheVariants as noted
use Rattle.asn1_names.specs.declared.first_fault.ModuleFault.{ModuleFault}
use Rattle.asn1_names.specs.FirstModuleFault.{FaultKind}
use Rattle.asn1_names.specs.FirstModuleFault.FaultKind.{ModuleUnknown}
use Rattle.asn1_names.specs.ModuleTerms.{ImportTerm, ModuleTerm}
use Rattle.asn1_names.specs.NameMeaning.{module_meaning}
use Rattle.asn1_names.specs.NameMeaning.ModuleMeaning.{NoModule}
use Rattle.asn1_resolve.specs.AllFaults.{ImportFaults, SymbolFaults}
use Rattle.asn1_resolve.specs.FaultSets.{AnyOf, In, IsFirstOf, OneFault, noted_at}
use Rattle.asn1_resolve.proofs.FirstFaults.{either_left, either_right, one_there}

-- where no element has a fault
pub any_not : {X : Type 0} (Faults : X → ℕ → FaultKind → Type 0) →
    ((x : X) (token : ℕ) (kind : FaultKind) → ¬ Faults x token kind) → (xs : List X) (token : ℕ) (kind : FaultKind) →
    ¬ AnyOf Faults xs token kind
any_not Faults each [] token kind fault = fault
any_not Faults each (x ∷ xs) token kind (inl here) = each x token kind here
any_not Faults each (x ∷ xs) token kind (inr behind) = any_not Faults each xs token kind behind

pub import_no_module : (ms : List ModuleTerm) (document : ℕ) (text : ImportTerm) →
    module_meaning ms text.module_name.text ≡ NoModule →
    IsFirstOf (In document (ImportFaults ms text)) (Some (noted_at document text.module_name.at noted.UnknownModule))
import_no_module ms document text absent =
    either_left (OneFault (module_meaning ms text.module_name.text ≡ NoModule) text.module_name.at ModuleUnknown)
    (AnyOf (SymbolFaults ms text.module_name) text.symbols)
    (any_not (SymbolFaults ms text.module_name) (λ x token kind fault. fault.0.0 absent) text.symbols)
    (one_there document text.module_name.at noted.UnknownModule absent)

pub import_symbols : (ms : List ModuleTerm) (document : ℕ) (text : ImportTerm) (first : Option ModuleFault) →
    module_meaning ms text.module_name.text ≢ NoModule →
    IsFirstOf (In document (AnyOf (SymbolFaults ms text.module_name) text.symbols)) first →
    IsFirstOf (In document (ImportFaults ms text)) first
import_symbols ms document text first there h =
    either_right (OneFault (module_meaning ms text.module_name.text ≡ NoModule) text.module_name.at ModuleUnknown)
    (AnyOf (SymbolFaults ms text.module_name) text.symbols) (λ token kind fault. there fault.0) h
