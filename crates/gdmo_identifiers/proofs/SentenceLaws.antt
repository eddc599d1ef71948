-- SentenceLaws: the sets of faults of identifiers are what the sentences of UnknownLabels, WrongKinds and DoubleNames
-- say of identifiers, both ways.
use Rattle.std.proofs.Common.{◌≡◌, ◌∙◌, ◌<◌, ℕ, zero, suc, List, ◌∷◌, [], Option, None, Some, refl, sym, ap, arith}
use Rattle.std.proofs.Common.{inl, inr, length, subst, get_or}
use Rattle.std.specs.Prelude.{Contains}
use Rattle.token_grammar.specs.declared.token.Token.{Token}
use Rattle.gdmo_names.specs.DocumentTemplates.{templates}
use Rattle.gdmo_names.specs.DoubleNames.{DoubleIdentifierAt}
use Rattle.gdmo_names.specs.FaultSets.{AnyOf, Either, FaultSet}
use Rattle.gdmo_names.specs.FirstLabelFault.{HasFault, LabelFault}
use Rattle.gdmo_names.specs.FirstLabelFault.LabelFault.{IdentifierDouble, KindWrong, LabelUnknown}
use Rattle.gdmo_names.specs.FirstNames.{IsAssigned, IsKnownFirst, Registers, StandsIdentifier, root_arc}
use Rattle.gdmo_names.specs.FirstNames.IsKnownFirst.{number, root, defined}
use Rattle.gdmo_names.specs.FirstNames.StandsIdentifier.{of_template, of_module}
use Rattle.gdmo_names.specs.PartTerms.{Placed, PartTerms, identifier_of}
use Rattle.gdmo_names.specs.TemplateTerms.{FirstTerm, IdentifierTerm}
use Rattle.gdmo_names.specs.TemplateTerms.FirstTerm.{ArcNumber, ArcName}
use Rattle.gdmo_names.specs.UnknownLabels.{UnknownLabelAt}
use Rattle.gdmo_names.specs.UnknownLabels.UnknownLabelAt.{first_name}
use Rattle.gdmo_names.specs.WrongKinds.{IsNoFirstName, IsNoIdentifier, WrongKindAt}
use Rattle.gdmo_names.specs.WrongKinds.WrongKindAt.{no_first_name, no_identifier}
use Rattle.gdmo_identifiers.specs.IdentifierFaults.{FaultsOfIdentifier, FaultsOfIdentifiers, FaultsOfModule}
use Rattle.gdmo_identifiers.specs.IdentifierFaults.{FaultsOfModules, FaultsOfRegistered, FirstFaults, IsKnownTerm}
use Rattle.gdmo_identifiers.specs.IdentifierFaults.{MaybeFaults, StatedFaults}

-- ---- elements of lists

any_of : {X : Type 0} (Faults : X → FaultSet) (xs : List X) (kind : LabelFault) (document token : ℕ) →
    AnyOf Faults xs kind document token → (x : X) × (Contains xs x) × Faults x kind document token
any_of Faults [] kind document token fault = absurd fault
any_of Faults (y ∷ ys) kind document token (inl here) = (y, (0, omega arith, refl), here)
any_of Faults (y ∷ ys) kind document token (inr behind) =
    let found = any_of Faults ys kind document token behind in
    (found.0, (suc found.1.0, (let w = found.1.1 in omega (arith, w)), found.1.2), found.2)

any_at : {X : Type 0} (Faults : X → FaultSet) (xs : List X) (x : X) (n : ℕ) → n < length xs → get_or xs n x ≡ x →
    (kind : LabelFault) (document token : ℕ) → Faults x kind document token → AnyOf Faults xs kind document token
any_at Faults [] x n below is kind document token fault = absurd (omega (arith, below))
any_at Faults (y ∷ ys) x zero below is kind document token fault =
    inl (subst (λ z. Faults z kind document token) (sym is) fault)
any_at Faults (y ∷ ys) x (suc n) below is kind document token fault =
    inr (any_at Faults ys x n (omega (arith, below)) is kind document token fault)

-- ---- from sets to sentences

first_sentence : (parts : PartTerms) (its : ℕ) (x : IdentifierTerm) (kind : LabelFault) (document token : ℕ) →
    StandsIdentifier parts its x → (term : FirstTerm) → x.first ≡ term →
    FirstFaults parts its term kind document token → HasFault parts kind document token
first_sentence parts its x kind document token stands (ArcNumber t) is fault = absurd fault
first_sentence parts its x kind document token stands (ArcName name) is (inl fault) =
    subst (λ k. HasFault parts k document token) fault.1 (subst (λ n. UnknownLabelAt parts n token) fault.2
    (first_name stands is fault.0.no_root fault.0.unassigned fault.3))
first_sentence parts its x kind document token stands (ArcName name) is (inr fault) =
    subst (λ k. HasFault parts k document token) fault.1 (subst (λ n. WrongKindAt parts n token) fault.2
    (no_first_name (record {
      identifier = x;
      stands = stands;
      is_first = is;
      no_root = fault.0.no_root;
      assigned = fault.0.assigned;
      undefined = fault.0.undefined;
    }) fault.3))

known_by : (parts : PartTerms) (x : IdentifierTerm) (term : FirstTerm) → x.first ≡ term → IsKnownTerm parts term →
    IsKnownFirst parts x
known_by parts x (ArcNumber t) is known = number is
known_by parts x (ArcName name) is (inl some) = root is some
known_by parts x (ArcName name) is (inr d) = defined is d.2

pub module_sentence : (parts : PartTerms) (kind : LabelFault) (document token : ℕ) →
    FaultsOfModules parts kind document token → HasFault parts kind document token
module_sentence parts kind document token fault =
    let part = any_of (FaultsOfModule parts) parts.modules kind document token fault in
    let x = any_of (StatedFaults parts part.0.text.document) part.0.identifiers kind document token part.2 in
    first_sentence parts part.0.text.document x.0 kind document token (of_module part.1 refl x.1) x.0.first refl x.2

registered_sentence : (parts : PartTerms) (by : Placed) (kind : LabelFault) (document token : ℕ) →
    Contains (templates parts) by → (o : Option IdentifierTerm) → identifier_of by.template ≡ o →
    MaybeFaults parts by.document o kind document token → HasFault parts kind document token
registered_sentence parts by kind document token stands None is fault = absurd fault
registered_sentence parts by kind document token stands (Some x) is (inl fault) =
    first_sentence parts by.document x kind document token (of_template (record { stands = stands; is = is }) refl)
    x.first refl fault
registered_sentence parts by kind document token stands (Some x) is (inr fault) =
    subst (λ k. HasFault parts k document token) fault.1 (subst (λ n. WrongKindAt parts n token) fault.2
    (no_identifier (record {
      by = by;
      identifier = x;
      registers = record { stands = stands; is = is };
      is_in = refl;
      is_brace = refl;
      known = known_by parts x x.first refl fault.0.known;
      bad = fault.0.bad;
    }) fault.3))

pub identifier_sentence : (parts : PartTerms) (kind : LabelFault) (document token : ℕ) →
    FaultsOfIdentifiers parts kind document token → HasFault parts kind document token
identifier_sentence parts kind document token (inl fault) =
    let by = any_of (FaultsOfRegistered parts) (templates parts) kind document token fault in
    registered_sentence parts by.0 kind document token by.1 (identifier_of by.0.template) refl by.2
identifier_sentence parts kind document token (inr fault) =
    subst (λ k. HasFault parts k document token) fault.is_double fault.double

-- ---- from sentences to sets

abbrev pub FaultsOfAll : PartTerms → FaultSet
FaultsOfAll parts = Either (FaultsOfModules parts) (FaultsOfIdentifiers parts)

of_registered : (parts : PartTerms) (by : Placed) (x : IdentifierTerm) (kind : LabelFault) (document token : ℕ) →
    Registers parts by x → FaultsOfIdentifier parts by.document x kind document token →
    FaultsOfAll parts kind document token
of_registered parts by x kind document token r fault = inr (inl (any_at (FaultsOfRegistered parts) (templates parts) by
    r.stands.0 r.stands.1 r.stands.2 kind document token
    (subst (λ o. MaybeFaults parts by.document o kind document token) (sym r.is) fault)))

of_first : (parts : PartTerms) (its : ℕ) (x : IdentifierTerm) (kind : LabelFault) (document token : ℕ) →
    StandsIdentifier parts its x → FirstFaults parts its x.first kind document token →
    FaultsOfAll parts kind document token
of_first parts its x kind document token (of_template {by = by} r is_in) fault =
    of_registered parts by x kind document token r
    (inl (subst (λ n. FirstFaults parts n x.first kind document token) (sym is_in) fault))
of_first parts its x kind document token (of_module {part = part} stands is_in has) fault =
    inl (any_at (FaultsOfModule parts) parts.modules part stands.0 stands.1 stands.2 kind document token
    (any_at (StatedFaults parts part.text.document) part.identifiers x has.0 has.1 has.2 kind document token
    (subst (λ n. FirstFaults parts n x.first kind document token) (sym is_in) fault)))

-- an unknown first name
pub unknown_set : (parts : PartTerms) (document at : ℕ) (x : IdentifierTerm) (name : Token) →
    StandsIdentifier parts document x → x.first ≡ ArcName name → root_arc name.text ≡ None →
    ¬ IsAssigned parts name.text → name.at ≡ at → FaultsOfAll parts LabelUnknown document at
unknown_set parts document at x name stands is no_root unassigned is_at =
    of_first parts document x LabelUnknown document at stands
    (subst (λ term. FirstFaults parts document term LabelUnknown document at) (sym is)
    (inl (record { no_root = no_root; unassigned = unassigned }, refl, refl, is_at)))

-- a first name that is assigned, but no OBJECT IDENTIFIER value
pub other_set : (parts : PartTerms) (document at : ℕ) (name : Token) → IsNoFirstName parts document name →
    name.at ≡ at → FaultsOfAll parts KindWrong document at
other_set parts document at name h is_at =
    of_first parts document h.identifier KindWrong document at h.stands
    (subst (λ term. FirstFaults parts document term KindWrong document at) (sym h.is_first)
    (inr (record { no_root = h.no_root; assigned = h.assigned; undefined = h.undefined }, refl, refl, is_at)))

known_term : (parts : PartTerms) (x : IdentifierTerm) → IsKnownFirst parts x → IsKnownTerm parts x.first
known_term parts x (number is) = subst (IsKnownTerm parts) (sym is) tt
known_term parts x (root is some) = subst (IsKnownTerm parts) (sym is) (inl some)
known_term parts x (defined {m = m} {i = i} is d) = subst (IsKnownTerm parts) (sym is) (inr (m, i, d))

-- an identifier of a template that is no object identifier
pub no_identifier_set : (parts : PartTerms) (document at : ℕ) (brace : Token) → IsNoIdentifier parts document brace →
    brace.at ≡ at → FaultsOfAll parts KindWrong document at
no_identifier_set parts document at brace h is_at =
    of_registered parts h.by h.identifier KindWrong document at h.registers (inr (
      record { known = known_term parts h.identifier h.known; bad = h.bad },
      refl,
      h.is_in,
      ap (λ (t : Token). t.at) h.is_brace ∙ is_at,
    ))

-- an identifier under which an earlier template is registered
pub double_set : (parts : PartTerms) (document at : ℕ) → DoubleIdentifierAt parts document at →
    FaultsOfAll parts IdentifierDouble document at
double_set parts document at h = inr (inr (record { double = h; is_double = refl }))
