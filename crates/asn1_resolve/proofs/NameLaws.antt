-- NameLaws: which fault the name of a type has (docs/PROFILE.md, section 11).
use Rattle.std.proofs.Common.{◌≡◌, ◌∙◌, ℕ, List, Option, None, Some, refl, ap, sym, option_map}
use Rattle.std.specs.Prelude.{◌≢◌}
use Rattle.std.proofs.Math.Path.{subst}
use Rattle.token_grammar.specs.declared.token.Token.{Token}
use Rattle.asn1_syntax.specs.declared.plain_type.TypeName.{TypeName}
use Rattle.asn1_names.specs.declared.first_fault.FaultKind.TheVariants as noted
use Rattle.asn1_names.specs.declared.first_fault.ModuleFault.{ModuleFault}
use Rattle.asn1_names.specs.declared.refusal.UnsupportedKind.TheVariants.{TypeWord}
use Rattle.asn1_names.specs.CodeMeanings.{named_module, named_type}
use Rattle.asn1_names.specs.FirstModuleFault.FaultKind.{TypeUnknown, ModuleUnknown, NotSupported}
use Rattle.asn1_names.specs.ModuleFaults.{IsOtherType}
use Rattle.asn1_names.specs.ModuleTerms.{ModuleTerm}
use Rattle.asn1_names.specs.NameMeaning.{ModuleMeaning, meaning_within, module_meaning, name_meaning}
use Rattle.asn1_names.specs.NameMeaning.{reference_meaning}
use Rattle.asn1_names.specs.NameMeaning.ModuleMeaning.{NoModule}
use Rattle.asn1_names.specs.NodeCount.{IsNoType}
use Rattle.asn1_names.proofs.TableLaws.{name_unknown}
use Rattle.asn1_resolve.specs.FaultSets.{In, IsFirstOf, noted_at}
use Rattle.asn1_resolve.specs.TypeFaults.{NameFaults}
use Rattle.asn1_resolve.proofs.FirstFaults.{none_of_both, one_of_both, other_of_both}

pub alone_means : (ms : List ModuleTerm) (m : ℕ) (name : Token) →
    reference_meaning ms m None name ≡ name_meaning ms m name.text
unfolding reference_meaning
alone_means ms m name = refl

pub member_means : (ms : List ModuleTerm) (m : ℕ) (of name : Token) →
    reference_meaning ms m (Some of) name ≡ meaning_within ms (module_meaning ms of.text) name.text
unfolding reference_meaning
member_means ms m of name = refl

-- what is another type's word names no type
pub other_no_type : {ms : List ModuleTerm} {m : ℕ} {name : Token} → IsOtherType ms m name →
    IsNoType (name_meaning ms m name.text)
other_no_type {ms = ms} {m = m} {name = name} h =
    subst IsNoType (sym (name_unknown ms m name.text h.unassigned (ap (option_map (λ token. token.text))
    h.not_imported))) tt

pub alone_known : (ms : List ModuleTerm) (document m : ℕ) (name : Token) → ¬ IsNoType (name_meaning ms m name.text) →
    IsFirstOf (In document (NameFaults ms m None name)) None
alone_known ms document m name known =
    none_of_both {Here = IsNoType (reference_meaning ms m None name) × (¬ IsOtherType ms m name)}
    {There = IsOtherType ms m name} document name.at name.at TypeUnknown (NotSupported TypeWord)
    (λ h. known (subst IsNoType (alone_means ms m name) h.0)) (λ h. known (other_no_type h))

pub alone_other : (ms : List ModuleTerm) (document m : ℕ) (name : Token) → IsOtherType ms m name →
    IsFirstOf (In document (NameFaults ms m None name)) (Some (noted_at document name.at noted.TypeWord))
alone_other ms document m name other =
    other_of_both {Here = IsNoType (reference_meaning ms m None name) × (¬ IsOtherType ms m name)}
    {There = IsOtherType ms m name} document name.at name.at TypeUnknown noted.TypeWord (λ h. h.1 other) other

pub alone_unknown : (ms : List ModuleTerm) (document m : ℕ) (name : Token) → IsNoType (name_meaning ms m name.text) →
    ¬ IsOtherType ms m name →
    IsFirstOf (In document (NameFaults ms m None name)) (Some (noted_at document name.at noted.UnknownType))
alone_unknown ms document m name unknown no_other =
    one_of_both {Here = IsNoType (reference_meaning ms m None name) × (¬ IsOtherType ms m name)}
    {There = IsOtherType ms m name} document name.at name.at noted.UnknownType (NotSupported TypeWord)
    (subst IsNoType (sym (alone_means ms m name)) unknown, no_other) no_other

pub member_known : (ms : List ModuleTerm) (document m : ℕ) (of name : Token) (within : ModuleMeaning) →
    within ≡ module_meaning ms of.text → within ≢ NoModule → ¬ IsNoType (meaning_within ms within name.text) →
    IsFirstOf (In document (NameFaults ms m (Some of) name)) None
member_known ms document m of name within is there known =
    none_of_both {Here = module_meaning ms of.text ≡ NoModule}
    {There = (module_meaning ms of.text ≢ NoModule) × IsNoType (reference_meaning ms m (Some of) name)}
    document of.at name.at ModuleUnknown TypeUnknown (λ h. there (is ∙ h))
    (λ h. known (subst (λ w. IsNoType (meaning_within ms w name.text)) (sym is)
    (subst IsNoType (member_means ms m of name) h.1)))

pub member_unknown : (ms : List ModuleTerm) (document m : ℕ) (of name : Token) (within : ModuleMeaning) →
    within ≡ module_meaning ms of.text → within ≢ NoModule → IsNoType (meaning_within ms within name.text) →
    IsFirstOf (In document (NameFaults ms m (Some of) name)) (Some (noted_at document name.at noted.UnknownType))
member_unknown ms document m of name within is there unknown =
    other_of_both {Here = module_meaning ms of.text ≡ NoModule}
    {There = (module_meaning ms of.text ≢ NoModule) × IsNoType (reference_meaning ms m (Some of) name)}
    document of.at name.at ModuleUnknown noted.UnknownType (λ h. there (is ∙ h)) (
      λ h. there (is ∙ h),
      subst IsNoType (sym (member_means ms m of name))
          (subst (λ w. IsNoType (meaning_within ms w name.text)) is unknown),
    )

pub member_no_module : (ms : List ModuleTerm) (document m : ℕ) (of name : Token) → module_meaning ms of.text ≡ NoModule
    →
    IsFirstOf (In document (NameFaults ms m (Some of) name)) (Some (noted_at document of.at noted.UnknownModule))
member_no_module ms document m of name absent =
    one_of_both {Here = module_meaning ms of.text ≡ NoModule}
    {There = (module_meaning ms of.text ≢ NoModule) × IsNoType (reference_meaning ms m (Some of) name)}
    document of.at name.at noted.UnknownModule TypeUnknown absent (λ h. h.0 absent)

pub with_member : (ms : List ModuleTerm) (document m : ℕ) (x : TypeName) (first : Option ModuleFault) (member : Token) →
    x.member ≡ Some member → IsFirstOf (In document (NameFaults ms m (Some x.name) member)) first →
    IsFirstOf (In document (NameFaults ms m (named_module x) (named_type x))) first
with_member ms document m x first member is h =
    subst (λ y. IsFirstOf (In document (NameFaults ms m (elim y as (λ _. Option Token) [
      | None ↦ None
      | Some z ↦ Some
          x.name
    ])
    (elim y as (λ _. Token) [ None ↦ x.name | Some z ↦ z ]))) first) (sym is) h

pub without_member : (ms : List ModuleTerm) (document m : ℕ) (x : TypeName) (first : Option ModuleFault) →
    x.member ≡ None → IsFirstOf (In document (NameFaults ms m None x.name)) first →
    IsFirstOf (In document (NameFaults ms m (named_module x) (named_type x))) first
without_member ms document m x first is h =
    subst (λ y. IsFirstOf (In document (NameFaults ms m (elim y as (λ _. Option Token) [
      | None ↦ None
      | Some z ↦ Some
          x.name
    ])
    (elim y as (λ _. Token) [ None ↦ x.name | Some z ↦ z ]))) first) (sym is) h
