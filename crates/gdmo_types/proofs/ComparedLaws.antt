-- ComparedLaws: types with one number are one, and what is told of two types tells whether they are other ones.
use Rattle.std.proofs.Common.{◌≡◌, ◌↔◌, ◌∙◌, ℕ, List, Option, None, Some, inl, inr, refl, slice_get, sym}
use Rattle.std.proofs.Math.Path.{subst}
use Rattle.std.proofs.lemmas.Option.{same_Some}
use Rattle.token_grammar.specs.declared.qualified_name.QualifiedName.{QualifiedName}
use Rattle.term_values.specs.Syntaxes.{TypeSyntax}
use Rattle.asn1_names.specs.CodeMeanings.{Means}
use Rattle.asn1_names.specs.ModuleTerms.{ModuleTerm}
use Rattle.asn1_names.specs.NameMeaning.{Meaning}
use Rattle.asn1_names.specs.NodeCount.{IsNoType}
use Rattle.asn1_names.specs.ResolvedTypes.{HasSyntax}
use Rattle.asn1_names.specs.ResolvedTypes.HasSyntax.{of_type, of_value, of_standard}
use Rattle.asn1_names.specs.declared.name_tables.Meaning.{Meaning as CodeMeaning}
use Rattle.key_numbers.specs.NumberedLists.{AreOnce, Row}
use Rattle.type_numbers.specs.OneMeaning.{AreOneMeant}
use Rattle.type_numbers.proofs.OneMeaningLaws.{told_types}
use Rattle.gdmo_names.specs.AttributeSyntaxes.{AttributeHasType, HasUnknownSyntax, syntax_of}
use Rattle.gdmo_names.specs.AttributeSyntaxes.AttributeHasType.{stated as has_stated, derived as has_derived}
use Rattle.gdmo_names.specs.AttributeSyntaxes.HasUnknownSyntax.{stated as unknown_stated, missing}
use Rattle.gdmo_names.specs.AttributeSyntaxes.HasUnknownSyntax.{derived as unknown_derived}
use Rattle.gdmo_names.specs.FoundViews.{found_views}
use Rattle.gdmo_names.specs.OneType.{AreOneType}
use Rattle.gdmo_names.specs.PartTerms.{Placed, PartTerms, body_of, kind_of, module_terms_of}
use Rattle.gdmo_names.specs.RuleFaults.{AreOneStatedType, IsOfStatedType}
use Rattle.gdmo_names.specs.RuleWords.{IsKnownType}
use Rattle.gdmo_names.specs.declared.found.Found.{Found}
use Rattle.gdmo_names.specs.TemplateTerms.{SyntaxTerm}
use Rattle.gdmo_names.specs.TemplateTerms.SyntaxTerm.{OfType}
use Rattle.gdmo_names.specs.TemplateTerms.TemplateKind.{AttributeKind}
use Rattle.gdmo_names.specs.TypeMeaning.{TypeHasSyntax, qualified_meaning}
use Rattle.gdmo_names.specs.TypeMeaning.TypeHasSyntax.{assigned, standard}
use Rattle.gdmo_types.specs.AttributeTypes.{AreAttributeTypes, IsOfMeaning, TellsMissing, TellsType}
use Rattle.gdmo_types.specs.ComparedTypes.{IsStatedMissing, NumbersName, NumbersStated}
use Rattle.gdmo_types.specs.ComparedTypes.{TellsAttribute, TellsMeant, TellsOtherStated, TellsOtherTypes}
use Rattle.gdmo_types.specs.ComparedTypes.{TellsStatedType}
use Rattle.gdmo_types.specs.declared.attribute_types.AttributeType.{AttributeType}
use Rattle.gdmo_types.specs.declared.compared_types.ComparedType.{ComparedType}
use Rattle.gdmo_types.specs.declared.compared_types.ComparedType.TheVariants.{Missing, Nothing, Number}
use Rattle.gdmo_types.proofs.MentionLaws.{base_of}
use Rattle.gdmo_types.proofs.StepLaws.{beside, pair_at}
use Rattle.gdmo_types.proofs.TypeChainLaws.{leading_syntax, leads_alone, lost_alone, not_both}

-- ---- the syntax of a name

pub syntax_named : (ms : List ModuleTerm) (name : QualifiedName) (meant : Meaning) (syntax : TypeSyntax) →
    qualified_meaning ms name ≡ meant → ¬ IsNoType meant → HasSyntax ms meant syntax → TypeHasSyntax ms name syntax
syntax_named ms name meant syntax e is_type (of_type d) = assigned e d
syntax_named ms name meant syntax e is_type (of_value d) = absurd (is_type tt)
syntax_named ms name meant syntax e is_type of_standard = standard e

pub named_syntax : {ms : List ModuleTerm} {name : QualifiedName} {syntax : TypeSyntax} → TypeHasSyntax ms name syntax →
    HasSyntax ms (qualified_meaning ms name) syntax
named_syntax {ms = ms} {syntax = syntax} (assigned e d) = subst (λ m. HasSyntax ms m syntax) (sym e) (of_type d)
named_syntax {ms = ms} {syntax = syntax} (standard e) = subst (λ m. HasSyntax ms m syntax) (sym e) of_standard

-- ---- one number, one type

one_type : (ms : List ModuleTerm) (one other : QualifiedName) → ¬ IsNoType (qualified_meaning ms one) →
    ¬ IsNoType (qualified_meaning ms other) →
    AreOneMeant ms (qualified_meaning ms one) (qualified_meaning ms other) → AreOneType ms one other
one_type ms one other is_type its_is_type are = record {
  syntax = are.syntax;
  has = syntax_named ms one (qualified_meaning ms one) are.syntax refl is_type are.has;
  has_too = syntax_named ms other (qualified_meaning ms other) are.syntax refl its_is_type are.has_too;
  defaults = λ path. (
    λ d. let to = (are.defaults path).0 record {
      written_in = d.written_in;
      text = d.text;
      stands = d.stands;
    } in record { written_in = to.written_in; text = to.text; stands = to.stands },
    λ d. let to = (are.defaults path).1 record {
      written_in = d.written_in;
      text = d.text;
      stands = d.stands;
    } in record { written_in = to.written_in; text = to.text; stands = to.stands },
  );
}

one_meant : (ms : List ModuleTerm) (one other : QualifiedName) → AreOneType ms one other →
    AreOneMeant ms (qualified_meaning ms one) (qualified_meaning ms other)
one_meant ms one other are = record {
  syntax = are.syntax;
  has = named_syntax are.has;
  has_too = named_syntax are.has_too;
  defaults = λ path. (
    λ d. let to = (are.defaults path).0 record {
      written_in = d.written_in;
      text = d.text;
      stands = d.stands;
    } in record { written_in = to.written_in; text = to.text; stands = to.stands },
    λ d. let to = (are.defaults path).1 record {
      written_in = d.written_in;
      text = d.text;
      stands = d.stands;
    } in record { written_in = to.written_in; text = to.text; stands = to.stands },
  );
}

pub names_tell : (parts : PartTerms) (row : Row) (one other : QualifiedName) (n k : ℕ) → AreOnce row →
    NumbersName parts row one n → NumbersName parts row other k →
    (n ≡ k) ↔ AreOneType (module_terms_of parts) one other
names_tell parts row one other n k once h g =
    let ms = module_terms_of parts in
    let law = told_types ms row (qualified_meaning ms one) (qualified_meaning ms other) n k once h g in (
      λ e. one_type ms one other h.is_key.is_type g.is_key.is_type (law.0 e),
      λ are. law.1 (one_meant ms one other are),
    )

-- ---- the type of an attribute

same_named : (syntax : Option SyntaxTerm) (a b : QualifiedName) → syntax ≡ Some (OfType a) → syntax ≡ Some (OfType b) →
    a ≡ b
same_named syntax a b is also = let e = same_Some (OfType a) (OfType b) (sym is ∙ also) in cc

-- an attribute has one
pub one_name : {parts : PartTerms} {x : Placed} {a b : QualifiedName} → AttributeHasType parts x a →
    AttributeHasType parts x b → a ≡ b
one_name {x = x} {a = a} {b = b} (has_stated e) (has_stated f) = same_named (syntax_of (body_of x.template)) a b e f
one_name {parts = parts} {x = x} {a = a} (has_stated e) (has_derived {base = base} leads h) =
    absurd (not_both (syntax_of (body_of x.template)) a leads.reference e (leading_syntax parts x base leads))
one_name {parts = parts} {x = x} {b = b} (has_derived {base = base} leads h) (has_stated f) =
    absurd (not_both (syntax_of (body_of x.template)) b leads.reference f (leading_syntax parts x base leads))
one_name {parts = parts} {x = x} {b = b} (has_derived {base = base} leads h) (has_derived {base = other} also g) =
    one_name h (subst (λ y. AttributeHasType parts y b) (sym (leads_alone parts x base other leads also)) g)

-- one that is of a type is known
pub is_known : {parts : PartTerms} {x : Placed} {name : QualifiedName} → AttributeHasType parts x name →
    ¬ IsNoType (qualified_meaning (module_terms_of parts) name) → HasUnknownSyntax parts x → ⊥
is_known {parts = parts} {x = x} {name = name} (has_stated e) is_type (unknown_stated {name = its} f none) =
    is_type (subst (λ n. IsNoType (qualified_meaning (module_terms_of parts) n))
    (same_named (syntax_of (body_of x.template)) its name f e) none)
is_known {x = x} {name = name} (has_stated e) is_type (missing nowhere) =
    not_both (syntax_of (body_of x.template)) name nowhere.reference e
    (base_of (body_of x.template) nowhere.reference nowhere.names)
is_known {parts = parts} {x = x} {name = name} (has_stated e) is_type (unknown_derived {base = base} leads u) =
    not_both (syntax_of (body_of x.template)) name leads.reference e (leading_syntax parts x base leads)
is_known {parts = parts} {x = x} (has_derived {base = base} leads h) is_type (unknown_stated {name = its} f none) =
    not_both (syntax_of (body_of x.template)) its leads.reference f (leading_syntax parts x base leads)
is_known {parts = parts} {x = x} (has_derived {base = base} leads h) is_type (missing nowhere) =
    lost_alone parts x base leads nowhere
is_known {parts = parts} {x = x} (has_derived {base = base} leads h) is_type (unknown_derived {base = other} also u) =
    is_known h is_type (subst (HasUnknownSyntax parts) (sym (leads_alone parts x base other leads also)) u)

-- ---- what a code tells

pub attribute_meant : (parts : PartTerms) (row : Row) (x : Placed) (code : CodeMeaning) (type : ComparedType) →
    IsOfMeaning parts x code → ((meant : Meaning) → Means (module_terms_of parts) code meant →
    TellsMeant (module_terms_of parts) row meant type) → TellsAttribute parts row x type
attribute_meant parts row x code Missing of told = absurd (of.is_type (told _ of.meant))
attribute_meant parts row x code Nothing of told = absurd (told _ of.meant)
attribute_meant parts row x code (Number n) of told = record {
  name = of.name;
  of_type = of.of_type;
  numbered = told _ of.meant;
}

pub name_meant : (parts : PartTerms) (row : Row) (name : QualifiedName) (code : CodeMeaning) (type : ComparedType) →
    Means (module_terms_of parts) code (qualified_meaning (module_terms_of parts) name) →
    ((meant : Meaning) → Means (module_terms_of parts) code meant →
    TellsMeant (module_terms_of parts) row meant type) → TellsStatedType parts row (Some name) type
name_meant parts row name code Missing means told = record { name = name; is = refl; no_type = told _ means }
name_meant parts row name code Nothing means told = absurd (told _ means)
name_meant parts row name code (Number n) means told = record { name = name; is = refl; numbered = told _ means }

-- ---- other types

known_stated : (parts : PartTerms) (row : Row) (stated : Option QualifiedName) (n : ℕ) →
    NumbersStated parts row stated n → IsKnownType parts stated
known_stated parts row stated n told = subst (IsKnownType parts) (sym told.is) told.numbered.is_key.is_type

none_known : (parts : PartTerms) (stated : Option QualifiedName) → stated ≡ None → IsKnownType parts stated
none_known parts stated e = subst (IsKnownType parts) (sym e) tt

missing_stated : (parts : PartTerms) (stated : Option QualifiedName) → IsStatedMissing parts stated →
    IsKnownType parts stated → ⊥
missing_stated parts stated lost known = (subst (IsKnownType parts) lost.is known) lost.no_type

pub missing_attribute : (parts : PartTerms) (x : Placed) → kind_of x.template ≡ AttributeKind → TellsMissing parts x →
    ¬ HasUnknownSyntax parts x → ⊥
missing_attribute parts x is (inl unknown) known = known unknown
missing_attribute parts x is (inr other) known = other is

of_none : (parts : PartTerms) (x : Placed) (stated : Option QualifiedName) → stated ≡ None →
    IsOfStatedType parts x stated → ⊥
of_none parts x stated e of = subst (IsOfStatedType parts x) e of

pub other_stated : TellsOtherStated
other_stated parts row x stated Missing other once is one told = (
  λ none. absurd none,
  λ h. absurd (missing_attribute parts x is one h.0),
)
other_stated parts row x stated Nothing Missing once is one told = (
  λ none. absurd none,
  λ h. absurd (missing_stated parts stated told h.1),
)
other_stated parts row x stated Nothing Nothing once is one told = (
  λ h. (one.known, none_known parts stated told, of_none parts x stated told),
  λ h. tt,
)
other_stated parts row x stated Nothing (Number k) once is one told = (
  λ h. (
    one.known,
    known_stated parts row stated k told,
    λ of. let named = subst (IsOfStatedType parts x) told.is of in one.no_type named.own named.of_type,
  ),
  λ h. tt,
)
other_stated parts row x stated (Number n) Missing once is one told = (
  λ none. absurd none,
  λ h. absurd (missing_stated parts stated told h.1),
)
other_stated parts row x stated (Number n) Nothing once is one told = (
  λ h. (
    is_known one.of_type one.numbered.is_key.is_type,
    none_known parts stated told,
    of_none parts x stated told,
  ),
  λ h. tt,
)
other_stated parts row x stated (Number n) (Number k) once is one told =
    let ms = module_terms_of parts in
    let law = names_tell parts row one.name told.name n k once one.numbered told.numbered in (
      λ apart. (
        is_known one.of_type one.numbered.is_key.is_type,
        known_stated parts row stated k told,
        λ of. let named = subst (IsOfStatedType parts x) told.is of in
            apart (law.1 (subst (λ own. AreOneType ms own told.name) (one_name named.of_type one.of_type) named.same)),
      ),
      λ h e. h.2 (subst (IsOfStatedType parts x) (sym told.is) record {
        own = one.name;
        of_type = one.of_type;
        same = law.0 e;
      }),
    )

stated_none : (parts : PartTerms) (one other : Option QualifiedName) → one ≡ None → AreOneStatedType parts one other → ⊥
stated_none parts one other e are = absurd (subst (λ x. AreOneStatedType parts x other) e are)

none_stated : (parts : PartTerms) (one other : Option QualifiedName) → other ≡ None →
    AreOneStatedType parts one other → ⊥
none_stated parts None other e are = absurd are
none_stated parts (Some name) other e are = absurd (subst (λ x. AreOneStatedType parts (Some name) x) e are)

pub other_types : TellsOtherTypes
other_types parts row stated its Missing other once one told = (
  λ none. absurd none,
  λ h. absurd (missing_stated parts stated one h.0),
)
other_types parts row stated its Nothing Missing once one told = (
  λ none. absurd none,
  λ h. absurd (missing_stated parts its told h.1),
)
other_types parts row stated its Nothing Nothing once one told = (
  λ h. (none_known parts stated one, none_known parts its told, stated_none parts stated its one),
  λ h. tt,
)
other_types parts row stated its Nothing (Number k) once one told = (
  λ h. (none_known parts stated one, known_stated parts row its k told, stated_none parts stated its one),
  λ h. tt,
)
other_types parts row stated its (Number n) Missing once one told = (
  λ none. absurd none,
  λ h. absurd (missing_stated parts its told h.1),
)
other_types parts row stated its (Number n) Nothing once one told = (
  λ h. (known_stated parts row stated n one, none_known parts its told, none_stated parts stated its told),
  λ h. tt,
)
other_types parts row stated its (Number n) (Number k) once one told =
    let law = names_tell parts row one.name told.name n k once one.numbered told.numbered in (
      λ apart. (
        known_stated parts row stated n one,
        known_stated parts row its k told,
        λ are. apart (law.1 (subst (λ y. AreOneStatedType parts (Some one.name) y) told.is
            (subst (λ y. AreOneStatedType parts y its) one.is are))),
      ),
      λ h e. h.2 (subst (λ y. AreOneStatedType parts y its) (sym one.is)
          (subst (λ y. AreOneStatedType parts (Some one.name) y) (sym told.is) (law.0 e))),
    )

-- ---- the type of the attribute that has a number

pub type_there : (parts : PartTerms) (xs : List Found) (types : List AttributeType) (k : ℕ) (x : Placed)
    (type : AttributeType) → AreAttributeTypes parts xs types → slice_get (found_views xs) k ≡ Some x →
    slice_get types k ≡ Some type → TellsType parts x type
type_there parts xs types k x type are at there = pair_at (TellsType parts) (found_views xs) types k x type are at there

pub type_past : {P : Type 0} (parts : PartTerms) (xs : List Found) (types : List AttributeType) (k : ℕ) (x : Placed) →
    AreAttributeTypes parts xs types → slice_get (found_views xs) k ≡ Some x → slice_get types k ≡ None → P
type_past parts xs types k x are at gone =
    let found = beside (TellsType parts) (found_views xs) types k x are at in absurd (apart found.0 (sym gone ∙ found.1))
  where
    apart : (type : AttributeType) → None ≡ Some type → ⊥
    apart type h = absurd (cc)
