-- TypeChainLaws: of which type each attribute is, as its chain of DERIVED FROM tells.
use Rattle.std.specs.Prelude.{◌≡◌, ℕ, List, Option, None, Some, Contains, refl, length, slice_get}
use Rattle.std.proofs.Common.{ap, arith, inl, inr, sym, subst, ◌∙◌}
use Rattle.std.proofs.lemmas.List.{length-map}
use Rattle.std.proofs.lemmas.Option.{same_Some, slice_get_within}
use Rattle.token_grammar.specs.declared.qualified_name.QualifiedName.{QualifiedName}
use Rattle.link_graphs.specs.ChainEnds.{AreEnds, EndsAt}
use Rattle.link_graphs.specs.ChainEnds.EndsAt.{itself as ends_itself, onward}
use Rattle.link_graphs.specs.declared.chains.Link.{Link}
use Rattle.link_graphs.specs.declared.chains.Link.TheVariants.{End, Next, Stop}
use Rattle.asn1_names.specs.CodeMeanings.{Means as IsCode}
use Rattle.asn1_names.specs.ModuleTerms.{ModuleTerm}
use Rattle.asn1_names.specs.NodeCount.{IsNoType}
use Rattle.asn1_names.specs.declared.name_tables.Meaning.{Meaning as CodeMeaning}
use Rattle.asn1_numbers.proofs.EachLaws.{EachIs, each_at}
use Rattle.asn1_numbers.proofs.HeldLaws.{get_mapped}
use Rattle.gdmo_names.specs.AttributeSyntaxes.{AttributeHasType, HasUnknownSyntax, syntax_of}
use Rattle.gdmo_names.specs.AttributeSyntaxes.AttributeHasType.{stated as type_stated, derived as type_derived}
use Rattle.gdmo_names.specs.AttributeSyntaxes.HasUnknownSyntax.{stated as unknown_stated, missing}
use Rattle.gdmo_names.specs.AttributeSyntaxes.HasUnknownSyntax.{derived as unknown_derived}
use Rattle.gdmo_names.specs.FoundViews.{body_term, found_term, found_view, found_views}
use Rattle.gdmo_names.specs.InStep.{AreEach}
use Rattle.gdmo_names.specs.LabelMeaning.{Leads, LeadsNowhere, Means}
use Rattle.gdmo_names.specs.Mentions.{mention, template_mentions}
use Rattle.gdmo_names.specs.Mentions.Role.{BaseAttribute}
use Rattle.gdmo_names.specs.PartTerms.{Placed, PartTerms, body_of, kind_of, kind_of_body, module_terms_of}
use Rattle.gdmo_names.specs.TemplateTerms.{BodyTerm, ReferenceTerm, SyntaxTerm}
use Rattle.gdmo_names.specs.TemplateTerms.BodyTerm.{ClassBody, PackageBody, ParameterBody, BindingBody}
use Rattle.gdmo_names.specs.TemplateTerms.BodyTerm.{AttributeBody, GroupBody, BehaviourBody, ActionBody}
use Rattle.gdmo_names.specs.TemplateTerms.BodyTerm.{NotificationBody}
use Rattle.gdmo_names.specs.TemplateTerms.SyntaxTerm.{OfType, OfAttribute}
use Rattle.gdmo_names.specs.TemplateTerms.TemplateKind.{AttributeKind}
use Rattle.gdmo_names.specs.TypeMeaning.{qualified_meaning}
use Rattle.gdmo_names.specs.declared.found.Body.{Body}
use Rattle.gdmo_names.specs.declared.found.Body.TheVariants as bodies
use Rattle.gdmo_names.specs.declared.found.Found.{Found}
use Rattle.gdmo_types.specs.AttributeTypes.{AreAttributeTypes, IsEndless, TellsType}
use Rattle.gdmo_types.specs.RoleTargets.{IsFirstTarget}
use Rattle.gdmo_types.specs.TypeChains.{AreTypeLinks, IsEndType, IsTypeLink, LeadsOn, LinksTemplate, TellsChain}
use Rattle.gdmo_types.specs.TypeChains.{TellsEnd, TellsNamedType, TellsStated}
use Rattle.gdmo_types.specs.declared.attribute_types.AttributeType.{AttributeType}
use Rattle.gdmo_types.specs.declared.attribute_types.AttributeType.TheVariants.{Of, Endless, Missing}
use Rattle.gdmo_types.proofs.MentionLaws.{base_named, base_of}
use Rattle.gdmo_types.proofs.RoleLaws.{first_is, first_mention}
use Rattle.gdmo_types.proofs.StepLaws.{contained_get, each_by, pair_at, same_number, there}

-- ---- what leads on from an attribute

none_some : {X : Type 0} (x : X) → None ≡ Some x → ⊥
none_some x h = absurd (cc)

pub leading_syntax : (parts : PartTerms) (x to : Placed) (leads : Leads parts x BaseAttribute to) →
    syntax_of (body_of x.template) ≡ Some (OfAttribute leads.reference)
leading_syntax parts x to leads = base_of (body_of x.template) leads.reference leads.names

abbrev reference_in : ReferenceTerm → SyntaxTerm → ReferenceTerm
reference_in other (OfType name) = other
reference_in other (OfAttribute reference) = reference

same_reference : (syntax : Option SyntaxTerm) (a b : ReferenceTerm) → syntax ≡ Some (OfAttribute a) →
    syntax ≡ Some (OfAttribute b) → a ≡ b
same_reference syntax a b is also =
    ap (reference_in a) (same_Some (OfAttribute a) (OfAttribute b) (sym is ∙ also))

pub not_both : (syntax : Option SyntaxTerm) (name : QualifiedName) (a : ReferenceTerm) → syntax ≡ Some (OfType name) →
    syntax ≡ Some (OfAttribute a) → ⊥
not_both syntax name a is also = let e = same_Some (OfType name) (OfAttribute a) (sym is ∙ also) in absurd (cc)

-- an attribute derives from one other at most
pub leads_alone : (parts : PartTerms) (x a b : Placed) → Leads parts x BaseAttribute a →
    Leads parts x BaseAttribute b → a ≡ b
leads_alone parts x a b one other =
    let same = same_reference (syntax_of (body_of x.template)) one.reference other.reference
    (leading_syntax parts x a one) (leading_syntax parts x b other) in
    same_Some a b (sym (subst (λ r. Means parts x.document BaseAttribute r a) same one.means).is_target
    ∙ other.means.is_target)

pub lost_alone : (parts : PartTerms) (x to : Placed) → Leads parts x BaseAttribute to →
    LeadsNowhere parts x BaseAttribute → ⊥
lost_alone parts x to leads nowhere =
    let same = same_reference (syntax_of (body_of x.template)) leads.reference nowhere.reference
    (leading_syntax parts x to leads) (base_of (body_of x.template) nowhere.reference nowhere.names) in
    nowhere.lost to (subst (λ r. Means parts x.document BaseAttribute r to) same leads.means)

kind_by_syntax : (body : BodyTerm) (syntax : SyntaxTerm) → syntax_of body ≡ Some syntax →
    kind_of_body body ≡ AttributeKind
kind_by_syntax (AttributeBody own rules behaviours parameters) syntax is = refl
kind_by_syntax (ClassBody superclasses mandatory conditional) syntax is = absurd (none_some syntax is)
kind_by_syntax (PackageBody behaviours attributes groups actions notifications) syntax is =
    absurd (none_some syntax is)
kind_by_syntax (ParameterBody own behaviours) syntax is = absurd (none_some syntax is)
kind_by_syntax (BindingBody below below_all above above_all attribute behaviours create delete) syntax is =
    absurd (none_some syntax is)
kind_by_syntax (GroupBody elements fixed) syntax is = absurd (none_some syntax is)
kind_by_syntax BehaviourBody syntax is = absurd (none_some syntax is)
kind_by_syntax (ActionBody behaviours confirmed parameters information reply) syntax is =
    absurd (none_some syntax is)
kind_by_syntax (NotificationBody behaviours parameters information its_rows reply) syntax is =
    absurd (none_some syntax is)

-- ---- from the end of a chain to the type

derived_end : (parts : PartTerms) (x base : Placed) (type : AttributeType) → Leads parts x BaseAttribute base →
    TellsEnd parts base type → TellsEnd parts x type
derived_end parts x base (Of meaning) leads told = record {
  name = told.name;
  of_type = type_derived leads told.of_type;
  is_type = told.is_type;
  meant = told.meant;
}
derived_end parts x base Endless leads told = absurd told
derived_end parts x base Missing leads (inl unknown) = inl (unknown_derived leads unknown)
derived_end parts x base Missing leads (inr other) = absurd (other leads.means.of_kind)

pub end_told : {parts : PartTerms} {xs : List Found} {links : List Link} {n k end : ℕ} (type : AttributeType) →
    EachIs (IsTypeLink parts xs) n links → IsEndType parts xs end type → EndsAt links k end → (x : Placed) →
    slice_get (found_views xs) k ≡ Some x → TellsEnd parts x type
end_told {k = k} type each told (ends_itself at) x is = told x is (each.each k End at x is)
end_told {parts = parts} {xs = xs} {k = k} type each told (onward {next = next} at rest) x is =
    let on = each.each k (Next next) at x is in
    derived_end parts x on.base type on.leads (end_told type each told rest on.base on.at)

-- ---- from the type to the end of a chain

abbrev Ended : List Link → ℕ → Type 0
Ended links k = (end : ℕ) × EndsAt links k end

-- by the link, and by what is known of the attribute from which one derives
ended_by : (parts : PartTerms) (xs : List Found) (links : List Link) (k : ℕ) (x : Placed) (link : Link) →
    slice_get links k ≡ Some link → LinksTemplate parts xs x link →
    ((next : ℕ) → LeadsOn parts xs x next → Ended links next) → Ended links k
ended_by parts xs links k x End at leads rest = (k, ends_itself at)
ended_by parts xs links k x (Next next) at leads rest =
    let further = rest next leads in (further.0, onward at further.1)
ended_by parts xs links k x Stop at leads rest = absurd leads

chain_of : (parts : PartTerms) (xs : List Found) (links : List Link) (k : ℕ) (x : Placed) →
    EachIs (IsTypeLink parts xs) (length (found_views xs)) links → slice_get (found_views xs) k ≡ Some x →
    ((next : ℕ) → LeadsOn parts xs x next → Ended links next) → Ended links k
chain_of parts xs links k x each is rest =
    let found = each_at (IsTypeLink parts xs) (length (found_views xs)) links k each
    (slice_get_within (found_views xs) k x is) in
    ended_by parts xs links k x found.0 found.1 (found.2 x is) rest

-- what is so of the one attribute from which one derives
on_base : (parts : PartTerms) (xs : List Found) (links : List Link) (x base : Placed) →
    Leads parts x BaseAttribute base →
    ((k : ℕ) → slice_get (found_views xs) k ≡ Some base → Ended links k) →
    (next : ℕ) → LeadsOn parts xs x next → Ended links next
on_base parts xs links x base leads has next on = has next (on.at ∙ ap Some (sym (on.alone base leads)))

pub typed_end : {parts : PartTerms} {xs : List Found} {links : List Link} {x : Placed} {name : QualifiedName} →
    EachIs (IsTypeLink parts xs) (length (found_views xs)) links → AttributeHasType parts x name → (k : ℕ) →
    slice_get (found_views xs) k ≡ Some x → Ended links k
typed_end {parts = parts} {xs = xs} {links = links} {x = x} {name = name} each (type_stated is) k at =
    chain_of parts xs links k x each at
    (λ next on. absurd (not_both (syntax_of (body_of x.template)) name on.leads.reference is
    (leading_syntax parts x on.base on.leads)))
typed_end {parts = parts} {xs = xs} {links = links} {x = x} each (type_derived {base = base} leads has) k at =
    chain_of parts xs links k x each at
    (on_base parts xs links x base leads (λ j there. typed_end each has j there))

pub unknown_end : {parts : PartTerms} {xs : List Found} {links : List Link} {x : Placed} →
    EachIs (IsTypeLink parts xs) (length (found_views xs)) links → HasUnknownSyntax parts x → (k : ℕ) →
    slice_get (found_views xs) k ≡ Some x → Ended links k
unknown_end {parts = parts} {xs = xs} {links = links} {x = x} each (unknown_stated {name = name} is no_type) k at =
    chain_of parts xs links k x each at
    (λ next on. absurd (not_both (syntax_of (body_of x.template)) name on.leads.reference is
    (leading_syntax parts x on.base on.leads)))
unknown_end {parts = parts} {xs = xs} {links = links} {x = x} each (missing nowhere) k at =
    chain_of parts xs links k x each at (λ next on. absurd (lost_alone parts x on.base on.leads nowhere))
unknown_end {parts = parts} {xs = xs} {links = links} {x = x} each (unknown_derived {base = base} leads unknown) k at =
    chain_of parts xs links k x each at
    (on_base parts xs links x base leads (λ j there. unknown_end each unknown j there))

-- an attribute whose chain has no end derives from itself
endless_told : (parts : PartTerms) (xs : List Found) (links : List Link) (k : ℕ) (x : Placed) →
    EachIs (IsTypeLink parts xs) (length (found_views xs)) links → slice_get (found_views xs) k ≡ Some x →
    ¬ Ended links k → IsEndless parts x
endless_told parts xs links k x each is endless = record {
  is_attribute = (let found = each_at (IsTypeLink parts xs) (length (found_views xs)) links k each
      (slice_get_within (found_views xs) k x is) in kind found.0 found.1 (found.2 x is));
  no_type = λ name has. endless (typed_end each has k is);
  known = λ unknown. endless (unknown_end each unknown k is);
}
  where
    kind : (link : Link) → slice_get links k ≡ Some link → LinksTemplate parts xs x link →
        kind_of x.template ≡ AttributeKind
    kind End at leads = absurd (endless (k, ends_itself at))
    kind (Next next) at leads = kind_by_syntax (body_of x.template) (OfAttribute leads.leads.reference)
        (leading_syntax parts x leads.base leads.leads)
    kind Stop at leads = absurd leads

as_type : (parts : PartTerms) (x : Placed) (type : AttributeType) → TellsEnd parts x type → TellsType parts x type
as_type parts x (Of meaning) told = told
as_type parts x Endless told = absurd told
as_type parts x Missing told = told

-- the type of a template, by the end of its chain
pub type_told : (parts : PartTerms) (xs : List Found) (links : List Link) (ends : List (Option ℕ)) (k : ℕ) (x : Placed)
    (end : Option ℕ) (type : AttributeType) → EachIs (IsTypeLink parts xs) (length (found_views xs)) links →
    AreEnds links ends → slice_get (found_views xs) k ≡ Some x → slice_get ends k ≡ Some end →
    TellsChain parts xs end type → TellsType parts x type
type_told parts xs links ends k x None type each are is at told =
    subst (TellsType parts x) (sym told) (endless_told parts xs links k x each is
    (λ ended. none_some ended.0 (same_Some None (Some ended.0) (sym at ∙ are.told k ended.0 ended.1))))
type_told parts xs links ends k x (Some end) type each are is at told =
    as_type parts x type (end_told type each told (are.leads k end at) x is)

-- ---- the link of a template

pub link_end : (parts : PartTerms) (xs : List Found) (x : Found) → IsFirstTarget parts xs x BaseAttribute None →
    LinksTemplate parts xs (found_view x) End
link_end parts xs x first = λ base leads.
    let place = contained_get (template_mentions (found_term x)) (mention BaseAttribute leads.reference) leads.names in
    let found = first_mention first place.0 (mention BaseAttribute leads.reference) place.1 refl in
    let other = base_of (body_of (found_term x)) found.0.reference
    (subst (λ r. Contains (template_mentions (found_term x)) (mention r found.0.reference)) found.2 found.1) in
    let same = same_reference (syntax_of (body_of (found_term x))) leads.reference found.0.reference
    (leading_syntax parts (found_view x) base leads) other in
    found.3 base (subst (λ r. Means parts x.document r found.0.reference base) (sym found.2)
    (subst (λ r. Means parts x.document BaseAttribute r base) same leads.means))

pub link_next : (parts : PartTerms) (xs : List Found) (x : Found) (n : ℕ) →
    IsFirstTarget parts xs x BaseAttribute (Some n) → LinksTemplate parts xs (found_view x) (Next n)
link_next parts xs x n first = elim (first_is first) as (λ _. LeadsOn parts xs (found_view x) n) [
  | inl gone ↦ absurd (none_some n (sym gone))
  | inr found ↦ (let leads : Leads parts (found_view x) BaseAttribute found.3.0 = record {
    reference = found.0.reference;
    names = subst (λ r. Contains (template_mentions (found_term x)) (mention r found.0.reference)) found.2 found.1;
    means = subst (λ r. Means parts x.document r found.0.reference found.3.0) found.2 found.3.2;
  } in record {
    base = found.3.0;
    at = found.3.1;
    leads = leads;
    alone = λ to other. leads_alone parts (found_view x) to found.3.0 other leads;
  })
]

-- what is known of the template that was found is known of its view
pub viewed : (P : Placed → Type 0) (xs : List Found) (k : ℕ) (x : Placed) → slice_get (found_views xs) k ≡ Some x →
    ((found : Found) → slice_get xs k ≡ Some found → P (found_view found)) → P x
viewed P xs k x at has =
    let found = get_mapped found_view xs k x at in subst P found.2 (has found.0 found.1)

-- ---- what an attribute states

pub typed_told : (parts : PartTerms) (x : Placed) (ms : List ModuleTerm) (name : QualifiedName)
    (meaning : CodeMeaning) → ms ≡ module_terms_of parts → syntax_of (body_of x.template) ≡ Some (OfType name) →
    TellsNamedType ms name (Some meaning) → TellsEnd parts x (Of meaning)
typed_told parts x ms name meaning same is told = record {
  name = name;
  of_type = type_stated is;
  is_type = subst (λ ns. ¬ IsNoType (qualified_meaning ns name)) same told.0;
  meant = subst (λ ns. IsCode ns meaning (qualified_meaning ns name)) same told.1;
}

pub untyped_told : (parts : PartTerms) (x : Placed) (ms : List ModuleTerm) (name : QualifiedName) →
    ms ≡ module_terms_of parts → syntax_of (body_of x.template) ≡ Some (OfType name) →
    TellsNamedType ms name None → TellsEnd parts x Missing
untyped_told parts x ms name same is told =
    inl (unknown_stated is (subst (λ ns. IsNoType (qualified_meaning ns name)) same told))

pub derived_told : (parts : PartTerms) (x : Placed) (reference : ReferenceTerm) →
    syntax_of (body_of x.template) ≡ Some (OfAttribute reference) → TellsStated parts x Missing
derived_told parts x reference is = λ no_base. inl (missing (record {
  reference = reference;
  names = base_named (body_of x.template) reference is;
  lost = λ to means. no_base to (record {
    reference = reference;
    names = base_named (body_of x.template) reference is;
    means = means;
  });
}))

-- a text that is no attribute's
pub other_kind : (body : Body) → ((x : _) → body ≡ bodies.Attribute x → ⊥) →
    kind_of_body (body_term body) ≡ AttributeKind → ⊥
other_kind (bodies.Attribute x) other is = other x refl
other_kind (bodies.Class x) other is = absurd (cc)
other_kind (bodies.Package x) other is = absurd (cc)
other_kind (bodies.Parameter x) other is = absurd (cc)
other_kind (bodies.Binding x) other is = absurd (cc)
other_kind (bodies.Group x) other is = absurd (cc)
other_kind (bodies.Behaviour x) other is = absurd (cc)
other_kind (bodies.Action x) other is = absurd (cc)
other_kind (bodies.Notification x) other is = absurd (cc)

-- by what is found of the template at the end
pub chain_stated : (parts : PartTerms) (xs : List Found) (end : ℕ) (found : Found) (type : AttributeType) →
    slice_get xs end ≡ Some found → TellsStated parts (found_view found) type → TellsChain parts xs (Some end) type
chain_stated parts xs end found type at told = λ x is. viewed (λ y. TellsStated parts y type) xs end x is
    (λ other also. subst (λ (f : Found). TellsStated parts (found_view f) type)
    (same_Some found other (sym at ∙ also)) told)

pub chain_absent : (parts : PartTerms) (xs : List Found) (end : ℕ) (type : AttributeType) →
    slice_get xs end ≡ None → TellsChain parts xs (Some end) type
chain_absent parts xs end type gone = λ x is. viewed (λ y. TellsStated parts y type) xs end x is
    (λ other also. absurd (none_some other (sym gone ∙ also)))

-- ---- all templates

pub types_told : (parts : PartTerms) (xs : List Found) (links : List Link) (ends : List (Option ℕ))
    (types : List AttributeType) → AreTypeLinks parts xs links → AreEnds links ends →
    AreEach (TellsChain parts xs) ends types → AreAttributeTypes parts xs types
types_told parts xs links ends types linked are told =
    let views = length-map xs found_view in
    let one = linked.size in
    let two = are.size in
    let three = same_number (TellsChain parts xs) ends types told in
    let each : EachIs (IsTypeLink parts xs) (length (found_views xs)) links =
    record { size = omega (arith, one, views); each = linked.each } in
    each_by (TellsType parts) (found_views xs) types (omega (arith, views, one, two, three))
    (λ k x type is at.
    let within = slice_get_within types k type at in
    let end = there ends k (omega (arith, within, three)) in
    type_told parts xs links ends k x end.0 type each are is end.1
    (pair_at (TellsChain parts xs) ends types k end.0 type told end.1 at))
