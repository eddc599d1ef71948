-- TypesLaws: what modules without faults tell of a meaning (X.680, sections 13 to 51).
use Rattle.std.proofs.Common.{◌≡◌, ◌≤◌, ◌<◌, ℕ, List, MatchOption, Option, None, Some, arith, refl, sym, ap, ◌∙◌}
use Rattle.std.proofs.Math.Path.{subst}
use Rattle.std.specs.Borrow.{Bor}
use Rattle.std.specs.Prelude.{option_map, unwrap_or}
use Rattle.term_values.specs.Syntaxes.{TypeSyntax}
use Rattle.token_grammar.specs.Form.{Tree}
use Rattle.asn1_values_syntax.specs.ValueTrees.{value_tree}
use Rattle.asn1_values_syntax.specs.declared.value.ValueText.{ValueText}
use Rattle.asn1_syntax.specs.declared.module.Assignment.{Assignment}
use Rattle.asn1_syntax.specs.declared.module.Module.{Module}
use Rattle.asn1_names.specs.declared.name_tables.Meaning.{Meaning as CodeMeaning}
use Rattle.asn1_names.specs.declared.name_tables.ModuleMeaning.{ModuleMeaning as CodeModuleMeaning}
use Rattle.asn1_names.specs.declared.refusal.UnsupportedKind.TheVariants as unsupported
use Rattle.asn1_names.specs.declared.standard_module.StandardType.{StandardType}
use Rattle.asn1_names.specs.AssignmentNumbers.{Numbered, numbered_at}
use Rattle.asn1_names.specs.CodeMeanings.{IsAssignment, IsTypeNumber, IsTypeOf, IsValueNumber, Means, module_meant}
use Rattle.asn1_names.specs.DenotedSyntax.{Denotes}
use Rattle.asn1_names.specs.FirstModuleFault.{AreFaultless}
use Rattle.asn1_names.specs.FirstModuleFault.FaultKind.{NotSupported}
use Rattle.asn1_names.specs.ModuleFaults.UnsupportedAt.{too_many_nodes}
use Rattle.asn1_names.specs.ModuleTerms.{ModuleTerm, TypeTerm}
use Rattle.asn1_names.specs.NameMeaning.{Meaning, meaning_within, module_meaning}
use Rattle.asn1_names.specs.NameMeaning.Meaning.{Nothing, StandardType as MeansStandard}
use Rattle.asn1_names.specs.NodeCount.{HasNodes}
use Rattle.asn1_names.specs.Occurrences.{Assigns, first_word, type_assigned}
use Rattle.asn1_names.specs.ResolvedTypes.{HasSyntax, HasText, meaning_of}
use Rattle.asn1_names.specs.ResolvedTypes.HasSyntax.{of_standard, of_type, of_value}
use Rattle.asn1_names.specs.ResolvedTypes.HasText.{of_value as text_of_value}
use Rattle.asn1_names.specs.TermViews.{assigned_term, assignment_term, module_terms}
use Rattle.asn1_names.specs.WordViews.{standard_syntax_of}
use Rattle.asn1_names.specs.Containment.Within.{itself}
use Rattle.asn1_names.proofs.TableAnswers.{some_is}
use Rattle.asn1_types.specs.CountedTypes.{AreSound}
use Rattle.asn1_types.specs.MeasuredTypes.{IsMeasured}
use Rattle.asn1_types.specs.ToldMeanings.{TellsSyntax, TellsSyntaxAt, text_assigned}
use Rattle.asn1_types.proofs.NumberedLaws.{type_is_assigned}

-- ---- what a name means

pub means_of : (tables inside self : List Module) (module_name name : List ℕ) (within : CodeModuleMeaning)
    (told : CodeMeaning) → tables ≡ inside → inside ≡ self →
    module_meant within ≡ module_meaning (module_terms tables) module_name →
    Means (module_terms tables) told (meaning_within (module_terms tables) (module_meant within) name) →
    Means (module_terms self) told (meaning_of (module_terms self) module_name name)
unfolding meaning_of
means_of tables inside self module_name name within told same also is means =
    subst (λ ms. Means (module_terms ms) told
    (meaning_within (module_terms ms) (module_meaning (module_terms ms) module_name) name)) (same ∙ also)
    (subst (λ m. Means (module_terms tables) told (meaning_within (module_terms tables) m name)) is means)

-- ---- the type of an assignment

none_some : (x : Numbered) → None ≡ Some x → ⊥
none_some x h = absurd (cc)

few_nodes : {ms : List ModuleTerm} {document m n : ℕ} {of : TypeTerm} → AreFaultless ms → Assigns ms document m of →
    HasNodes ms m of n → n ≤ 10000
few_nodes {document = document} {n = n} {of = of} sound assigns has =
    let many : ¬ (10000 < n) = λ past. sound (NotSupported unsupported.TooManyNodes) document (first_word of).at
    (too_many_nodes assigns has past refl) in
    omega (arith, many)

pub type_measured : (ms : List ModuleTerm) (number m : ℕ) (of : TypeTerm) → AreSound ms → IsTypeOf ms number m of →
    IsMeasured ms m of 10000
type_measured ms number m of sound is =
    let found = type_is_assigned ms number is.numbered of is.at is.is in
    let assigns = subst (λ h. Assigns ms found.0 h of) is.module_is found.1 in
    let counted = sound.counted number m of is in
    let few = few_nodes sound.faultless assigns counted.1 in record {
      faultless = sound.faultless;
      document = found.0;
      stands = record { of = of; assigned = assigns; within = itself };
      nodes = counted.0;
      has = counted.1;
      within = few;
      few = few;
    }

-- a number has one type
pub one_type : (ms : List ModuleTerm) (P : ℕ → TypeTerm → Type 0) (number m v : ℕ) (of other : TypeTerm) →
    IsTypeOf ms number m of → IsTypeOf ms number v other → P m of → P v other
one_type ms P number m v of other one also fact =
    let same = some_is one.numbered also.numbered (sym one.at ∙ also.at) in
    subst (λ t. P v t) (sym one.is ∙ ap (λ y. type_assigned y.assignment.assigned) same ∙ also.is)
    (subst (λ h. P h of) (sym one.module_is ∙ ap (λ y. y.in_module) same ∙ also.module_is) fact)

-- what is told of a number's type, where it has few nodes, is told of the number
pub told_of_type : (P : List ModuleTerm → ℕ → TypeTerm → Type 0) (tables inside self : List Module) (number m : ℕ)
    (of : TypeTerm) → tables ≡ inside → inside ≡ self → AreSound (module_terms inside) →
    IsTypeOf (module_terms tables) number m of →
    (IsMeasured (module_terms inside) m of 10000 → P (module_terms inside) m of) → (v : ℕ) (other : TypeTerm) →
    IsTypeOf (module_terms self) number v other → P (module_terms self) v other
told_of_type P tables inside self number m of same also sound is told v other its =
    let here = subst (λ ms. IsTypeOf (module_terms ms) number m of) same is in
    one_type (module_terms self) (P (module_terms self)) number m v of other
    (subst (λ ms. IsTypeOf (module_terms ms) number m of) also here) its
    (subst (λ ms. P (module_terms ms) m of) also (told (type_measured (module_terms inside) number m of sound here)))

-- a number that no assignment has is that of no type
pub no_type : (tables inside self : List Module) (number m : ℕ) (of : TypeTerm) → tables ≡ inside → inside ≡ self →
    numbered_at (module_terms tables) number ≡ None → IsTypeOf (module_terms self) number m of → ⊥
no_type tables inside self number m of same also none its =
    none_some its.numbered
    (sym (subst (λ ms. numbered_at (module_terms ms) number ≡ None) (same ∙ also) none) ∙ its.at)

pub syntax_told : (tables inside self : List Module) (number m : ℕ) (of : TypeTerm) (syntax : TypeSyntax) →
    tables ≡ inside → inside ≡ self → AreSound (module_terms inside) → IsTypeOf (module_terms tables) number m of →
    (IsMeasured (module_terms inside) m of 10000 → Denotes (module_terms inside) m of syntax) → (v : ℕ)
    (other : TypeTerm) → IsTypeOf (module_terms self) number v other → Denotes (module_terms self) v other syntax
syntax_told tables inside self number m of syntax = told_of_type (λ ms h t. Denotes ms h t syntax) tables inside self
    number m of

-- ---- the syntax of a meaning

nothing_has_none : {ms : List ModuleTerm} {syntax : TypeSyntax} → HasSyntax ms Nothing syntax → ⊥
nothing_has_none has = elim has [ ]

-- where nothing is meant there is no syntax
pub no_syntax : (ms : List ModuleTerm) (meant : Meaning) → TellsSyntax ms meant None → (syntax : TypeSyntax) →
    HasSyntax ms meant syntax → ⊥
no_syntax ms meant none syntax has = nothing_has_none (subst (λ m. HasSyntax ms m syntax) none has)

pub type_syntax : (ms : List ModuleTerm) (number : ℕ) (meant : Meaning) (told : Option TypeSyntax) →
    IsTypeNumber ms number meant → TellsSyntaxAt ms number told → TellsSyntax ms meant told
type_syntax ms number meant None means at = absurd (none_some means.numbered (sym at ∙ means.at))
type_syntax ms number meant (Some syntax) means at =
    subst (λ m. HasSyntax ms m syntax) (sym means.is) (of_type (at means.numbered.in_module means.of (record {
      numbered = means.numbered;
      at = means.at;
      module_is = refl;
      is = ap type_assigned means.assigns;
    })))

pub value_syntax : (ms : List ModuleTerm) (number : ℕ) (meant : Meaning) (told : Option TypeSyntax) →
    IsValueNumber ms number meant → TellsSyntaxAt ms number told → TellsSyntax ms meant told
value_syntax ms number meant None means at = absurd (none_some means.numbered (sym at ∙ means.at))
value_syntax ms number meant (Some syntax) means at =
    subst (λ m. HasSyntax ms m syntax) (sym means.is) (of_value (at means.numbered.in_module means.of (record {
      numbered = means.numbered;
      at = means.at;
      module_is = refl;
      is = ap type_assigned means.assigns;
    })))

pub standard_told : (ms : List ModuleTerm) (standard : StandardType) (meant : Meaning) (syntax : TypeSyntax) →
    meant ≡ MeansStandard (standard_syntax_of standard) → syntax ≡ standard_syntax_of standard →
    HasSyntax ms meant syntax
standard_told ms standard meant syntax means is =
    subst (λ m. HasSyntax ms m syntax) (sym (means ∙ ap MeansStandard (sym is))) of_standard

-- ---- the text of a value

text_is : (x : Option (Bor ValueText)) (meant : Meaning) (text : Tree) → option_map (λ t. value_tree t.now) x ≡ Some
    text →
    HasText meant text →
    MatchOption x ((t : Tree) → ¬ HasText meant t) (λ t. HasText meant (value_tree t.now))
text_is None meant text is has = absurd (cc)
text_is (Some x) meant text is has =
    subst (λ t. HasText meant t) (sym (ap (λ o. unwrap_or o text) is)) has

pub text_told : (tables inside self : List Module) (number m : ℕ) (assignment : Assignment) (meant : Meaning)
    (x : Option (Bor ValueText)) → tables ≡ inside → inside ≡ self →
    IsAssignment (module_terms tables) number m (assignment_term assignment) →
    option_map (λ t. value_tree t.now) x ≡ text_assigned (assigned_term assignment.assigned) →
    IsValueNumber (module_terms self) number meant →
    MatchOption x ((t : Tree) → ¬ HasText meant t) (λ t. HasText meant (value_tree t.now))
text_told tables inside self number m assignment meant x same also found told means =
    let here = subst (λ ms. IsAssignment (module_terms ms) number m (assignment_term assignment)) (same ∙ also) found in
    let one = some_is here.numbered means.numbered (sym here.at ∙ means.at) in
    let is = told ∙ ap (λ a. text_assigned a.assigned) (sym here.is) ∙
    ap (λ y. text_assigned y.assignment.assigned) one ∙ ap text_assigned means.assigns in
    text_is x meant means.text is (subst (λ n. HasText n means.text) (sym means.is) text_of_value)
