-- StatedLaws: what is told of the type of an attribute, of a notification's information and of an action's reply.
use Rattle.std.proofs.Common.{◌≡◌, ◌∙◌, ℕ, zero, suc, List, [], ◌∷◌, Option, None, Some, refl, sym, slice_get, subst}
use Rattle.std.proofs.lemmas.Option.{none-some, same_Some}
use Rattle.token_grammar.specs.declared.qualified_name.QualifiedName.{QualifiedName}
use Rattle.token_grammar.specs.declared.token.Token.{Token}
use Rattle.term_values.specs.Syntaxes.{TypeSyntax}
use Rattle.asn1_names.specs.ModuleTerms.{ModuleTerm}
use Rattle.asn1_names.specs.NodeCount.{IsNoType}
use Rattle.asn1_names.specs.ResolvedTypes.{HasSyntax}
use Rattle.asn1_names.specs.declared.name_tables.Meaning.{Meaning as CodeMeaning}
use Rattle.gdmo_names.specs.AttributeSyntaxes.{AttributeHasSyntax}
use Rattle.gdmo_names.specs.BegunNames.{told_of}
use Rattle.gdmo_names.specs.FoundViews.{found_views, numbered}
use Rattle.gdmo_names.specs.InStep.{AreEach}
use Rattle.gdmo_names.specs.Mentions.{Role, wanted_kind}
use Rattle.gdmo_names.specs.Mentions.Role.{RuleAction, StepNotification}
use Rattle.gdmo_names.specs.PartTerms.{PartTerms, Placed, RuleTerm, body_of, kind_of, module_terms_of}
use Rattle.gdmo_names.specs.RuleWords.{reply_of}
use Rattle.gdmo_names.specs.TemplateTerms.TemplateKind.{AttributeKind}
use Rattle.gdmo_names.specs.TypeMeaning.{TypeHasSyntax, qualified_meaning}
use Rattle.gdmo_names.specs.TypeMeaning.TypeHasSyntax.{assigned, standard}
use Rattle.gdmo_names.specs.declared.found.Found.{Found}
use Rattle.gdmo_targets.specs.SectionTables.{TellsLabel}
use Rattle.gdmo_types.specs.AttributeTypes.{AreAttributeTypes, IsOfMeaning, TellsType}
use Rattle.gdmo_types.specs.TypeChains.{TellsNamedType}
use Rattle.gdmo_types.specs.declared.attribute_types.AttributeType.{AttributeType}
use Rattle.gdmo_types.specs.declared.attribute_types.AttributeType.TheVariants.{Of, Endless, Missing}
use Rattle.gdmo_types.proofs.ComparedLaws.{is_known, missing_attribute, named_syntax, one_name, syntax_named}
use Rattle.begun_values.specs.MeantSyntaxes.{MayMean, MeansSyntaxes}
use Rattle.begun_values.specs.SectionValues.{LabelledSyntax, ReplySyntax, StatedSyntax, ToldSyntax}

-- ---- lists in step

beside_back : {A B : Type 0} (Is : A → B → Type 0) (xs : List A) (ys : List B) (k : ℕ) (y : B) → AreEach Is xs ys →
    slice_get ys k ≡ Some y → (x : A) × (slice_get xs k ≡ Some x) × Is x y
beside_back Is [] [] k y each at = absurd (cc)
beside_back Is [] (z ∷ ys) k y each at = absurd each
beside_back Is (x ∷ xs) [] k y each at = absurd each
beside_back Is (x ∷ xs) (z ∷ ys) zero y each at = (x, refl, subst (Is x) (same_Some z y at) each.0)
beside_back Is (x ∷ xs) (z ∷ ys) (suc k) y each at = beside_back Is xs ys k y each.1 at

past_back : {A B : Type 0} (Is : A → B → Type 0) (xs : List A) (ys : List B) (k : ℕ) → AreEach Is xs ys →
    slice_get ys k ≡ None → slice_get xs k ≡ None
past_back Is [] ys zero each at = refl
past_back Is [] ys (suc k) each at = refl
past_back Is (x ∷ xs) [] k each at = absurd each
past_back Is (x ∷ xs) (z ∷ ys) zero each at = absurd (cc)
past_back Is (x ∷ xs) (z ∷ ys) (suc k) each at = past_back Is xs ys k each.1 at

-- ---- sets of syntaxes

pub may_by : (ms : List ModuleTerm) (One Other : TypeSyntax → Type 0) (code : Option CodeMeaning) →
    ((syntax : TypeSyntax) → One syntax → Other syntax) → ((syntax : TypeSyntax) → Other syntax → One syntax) →
    MayMean ms One code → MayMean ms Other code
may_by ms One Other None to from may = λ s h. may s (from s h)
may_by ms One Other (Some code) to from may = record {
  meant = may.meant;
  means = may.means;
  has = λ s. (λ h. (may.has s).0 (from s h), λ h. to s ((may.has s).1 h));
}

-- a name of a type that has a syntax
is_type : {ms : List ModuleTerm} {name : QualifiedName} {syntax : TypeSyntax} → TypeHasSyntax ms name syntax →
    IsNoType (qualified_meaning ms name) → ⊥
is_type (assigned e d) none = subst IsNoType e none
is_type (standard e) none = subst IsNoType e none

-- ---- a type that is stated

pub unstated_may : (ms : List ModuleTerm) (stated : Option QualifiedName) → stated ≡ None → (syntax : TypeSyntax) →
    ¬ StatedSyntax ms stated syntax
unstated_may ms stated gone s x = none-some x.name (sym gone ∙ x.is)

pub named_may : (ms : List ModuleTerm) (name : QualifiedName) (told : Option CodeMeaning) →
    TellsNamedType ms name told → MayMean ms (StatedSyntax ms (Some name)) told
named_may ms name None tells = λ s x.
    is_type x.has (subst (λ n. IsNoType (qualified_meaning ms n)) (same_Some name x.name x.is) tells)
named_may ms name (Some code) tells = record {
  meant = qualified_meaning ms name;
  means = tells.1;
  has = λ s. (
    λ x. subst (λ n. HasSyntax ms (qualified_meaning ms n) s) (sym (same_Some name x.name x.is)) (named_syntax x.has),
    λ h. record { name = name; is = refl; has = syntax_named ms name (qualified_meaning ms name) s refl tells.0 h },
  );
}

-- ---- the template that a label means

pub told_may : (parts : PartTerms) (xs : List Found) (document : ℕ) (label : Token) (n : Option ℕ) (x : Placed)
    (code : Option CodeMeaning) → TellsLabel parts xs document StepNotification label n →
    numbered (found_views xs) n ≡ Some x →
    MayMean (module_terms_of parts) (StatedSyntax (module_terms_of parts) (told_of (body_of x.template))) code →
    MayMean (module_terms_of parts) (ToldSyntax parts document label) code
told_may parts xs document label n x code tells at may =
    may_by (module_terms_of parts) (StatedSyntax (module_terms_of parts) (told_of (body_of x.template)))
    (ToldSyntax parts document label) code
    (λ s h. record { notification = x; means = (tells x).0 at; has = h })
    (λ s h. subst (λ (z : Placed). StatedSyntax (module_terms_of parts) (told_of (body_of z.template)) s)
    (same_Some h.notification x (sym ((tells h.notification).1 h.means) ∙ at)) h.has) may

pub untold_may : (parts : PartTerms) (xs : List Found) (document : ℕ) (label : Token) (n : Option ℕ) →
    TellsLabel parts xs document StepNotification label n → numbered (found_views xs) n ≡ None →
    (syntax : TypeSyntax) → ¬ ToldSyntax parts document label syntax
untold_may parts xs document label n tells gone s h =
    none-some h.notification (sym gone ∙ (tells h.notification).1 h.means)

pub reply_may : (parts : PartTerms) (xs : List Found) (rule : RuleTerm) (n : Option ℕ) (x : Placed)
    (code : Option CodeMeaning) → TellsLabel parts xs rule.document RuleAction rule.action n →
    numbered (found_views xs) n ≡ Some x →
    MayMean (module_terms_of parts) (StatedSyntax (module_terms_of parts) (reply_of (body_of x.template))) code →
    MayMean (module_terms_of parts) (ReplySyntax parts rule) code
reply_may parts xs rule n x code tells at may =
    may_by (module_terms_of parts) (StatedSyntax (module_terms_of parts) (reply_of (body_of x.template)))
    (ReplySyntax parts rule) code
    (λ s h. record { action = x; means = (tells x).0 at; has = h })
    (λ s h. subst (λ (z : Placed). StatedSyntax (module_terms_of parts) (reply_of (body_of z.template)) s)
    (same_Some h.action x (sym ((tells h.action).1 h.means) ∙ at)) h.has) may

pub unreplied_may : (parts : PartTerms) (xs : List Found) (rule : RuleTerm) (n : Option ℕ) →
    TellsLabel parts xs rule.document RuleAction rule.action n → numbered (found_views xs) n ≡ None →
    (syntax : TypeSyntax) → ¬ ReplySyntax parts rule syntax
unreplied_may parts xs rule n tells gone s h = none-some h.action (sym gone ∙ (tells h.action).1 h.means)

-- ---- attributes

pub no_attribute : (parts : PartTerms) (xs : List Found) (document : ℕ) (role : Role) (label : Token) (n : Option ℕ) →
    TellsLabel parts xs document role label n → numbered (found_views xs) n ≡ None → (syntax : TypeSyntax) →
    ¬ LabelledSyntax parts document role label syntax
no_attribute parts xs document role label n tells gone s h =
    none-some h.attribute (sym gone ∙ (tells h.attribute).1 h.means)

pub past_attribute : (parts : PartTerms) (xs : List Found) (types : List AttributeType) (document : ℕ) (role : Role)
    (label : Token) (k : ℕ) → AreAttributeTypes parts xs types → slice_get types k ≡ None →
    TellsLabel parts xs document role label (Some k) → (syntax : TypeSyntax) →
    ¬ LabelledSyntax parts document role label syntax
past_attribute parts xs types document role label k are gone tells =
    no_attribute parts xs document role label (Some k) tells
    (past_back (TellsType parts) (found_views xs) types k are gone)

attribute_means : (parts : PartTerms) (xs : List Found) (document : ℕ) (role : Role) (label : Token) (k : ℕ) (x : Placed)
    (code : CodeMeaning) → slice_get (found_views xs) k ≡ Some x → IsOfMeaning parts x code →
    TellsLabel parts xs document role label (Some k) →
    MeansSyntaxes (module_terms_of parts) (LabelledSyntax parts document role label) code
attribute_means parts xs document role label k x code at of tells = record {
  meant = qualified_meaning (module_terms_of parts) of.name;
  means = of.meant;
  has = λ s. (
    λ h. by s h (same_Some h.attribute x (sym ((tells h.attribute).1 h.means) ∙ at)),
    λ h. record {
      attribute = x;
      means = (tells x).0 at;
      has = record {
        name = of.name;
        of_type = of.of_type;
        has = syntax_named (module_terms_of parts) of.name _ s refl of.is_type h;
      };
    },
  );
}
  where
    by : (s : TypeSyntax) (h : LabelledSyntax parts document role label s) → h.attribute ≡ x →
        HasSyntax (module_terms_of parts) (qualified_meaning (module_terms_of parts) of.name) s
    by s h same =
        let own = subst (λ z. AttributeHasSyntax parts z s) same h.has in
        subst (λ n. HasSyntax (module_terms_of parts) (qualified_meaning (module_terms_of parts) n) s)
        (one_name own.of_type of.of_type) (named_syntax own.has)

pub attribute_may : (parts : PartTerms) (xs : List Found) (types : List AttributeType) (document : ℕ) (role : Role)
    (label : Token) (k : ℕ) (code : CodeMeaning) → AreAttributeTypes parts xs types →
    slice_get types k ≡ Some (Of code) → TellsLabel parts xs document role label (Some k) →
    MeansSyntaxes (module_terms_of parts) (LabelledSyntax parts document role label) code
attribute_may parts xs types document role label k code are at tells =
    let found = beside_back (TellsType parts) (found_views xs) types k (Of code) are at in
    attribute_means parts xs document role label k found.0 code found.1 found.2 tells

-- one of no type
abbrev pub IsUntyped : AttributeType → Type 0
IsUntyped (Of code) = ⊥
IsUntyped Endless = Unit {0}
IsUntyped Missing = Unit {0}

untyped : (parts : PartTerms) (x : Placed) (type : AttributeType) (s : TypeSyntax) → TellsType parts x type →
    IsUntyped type → kind_of x.template ≡ AttributeKind → AttributeHasSyntax parts x s → ⊥
untyped parts x (Of code) s told is kind h = is
untyped parts x Endless s told is kind h = told.no_type h.name h.of_type
untyped parts x Missing s told is kind h = missing_attribute parts x kind told (λ u. is_known h.of_type (is_type h.has) u)

pub untyped_attribute : (parts : PartTerms) (xs : List Found) (types : List AttributeType) (document : ℕ)
    (role : Role) (label : Token) (k : ℕ) (type : AttributeType) → AreAttributeTypes parts xs types →
    slice_get types k ≡ Some type → IsUntyped type → wanted_kind role ≡ AttributeKind →
    TellsLabel parts xs document role label (Some k) → (s : TypeSyntax) →
    ¬ LabelledSyntax parts document role label s
untyped_attribute parts xs types document role label k type are at is wanted tells s h =
    let found = beside_back (TellsType parts) (found_views xs) types k type are at in
    let same : h.attribute ≡ found.0 =
    same_Some h.attribute found.0 (sym ((tells h.attribute).1 h.means) ∙ found.1) in
    untyped parts h.attribute type s (subst (λ z. TellsType parts z type) (sym same) found.2) is
    (h.means.of_kind ∙ wanted) h.has

-- the same modules, and the same type that is stated
pub stated_as : (its ms : List ModuleTerm) (one other : Option QualifiedName) (code : Option CodeMeaning) → its ≡ ms →
    one ≡ other → MayMean its (StatedSyntax its one) code → MayMean ms (StatedSyntax ms other) code
stated_as its ms one other code types same may =
    subst (λ z. MayMean z (StatedSyntax z other) code) types
    (subst (λ z. MayMean its (StatedSyntax its z) code) same may)
