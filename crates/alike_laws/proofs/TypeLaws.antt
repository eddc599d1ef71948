-- TypeLaws: two types that are one have syntaxes that are alike once their DEFAULTs have values, where nothing is wrong
-- with the classes (X.680, section 25; docs/PROFILE.md, section 12).
use Rattle.std.specs.Prelude.{◌≡◌, ◌++◌, ◌∷◌, [], ℕ, List, map, refl}
use Rattle.std.proofs.Common.{ap, sym}
use Rattle.std.proofs.Math.Path.{subst}
use Rattle.token_grammar.specs.declared.qualified_name.QualifiedName.{QualifiedName}
use Rattle.term_values.specs.Syntaxes.{TypeSyntax}
use Rattle.term_model.specs.AlikeSyntaxes.{AreAlike}
use Rattle.asn1_syntax.specs.declared.module.Module.{Module}
use Rattle.asn1_names.specs.ModuleTerms.{ModuleTerm}
use Rattle.asn1_names.specs.NameMeaning.{Meaning}
use Rattle.asn1_names.specs.ResolvedTypes.{HasSyntax}
use Rattle.asn1_names.specs.ResolvedTypes.HasSyntax.{of_standard, of_type, of_value}
use Rattle.asn1_names.specs.TermViews.{module_term, module_terms}
use Rattle.asn1_names.proofs.DenotedOnce.{one_syntax}
use Rattle.asn1_leaf_values.specs.Arcs.{NamedArcs}
use Rattle.gdmo_names.specs.OneType.{AreOneType, HasDefaultAt, HaveDefaultsAlike}
use Rattle.gdmo_names.specs.PartTerms.{ModulePart, PartTerms, module_terms_of}
use Rattle.gdmo_names.specs.PartViews.{module_part, part_terms}
use Rattle.gdmo_names.specs.TypeMeaning.{TypeHasSyntax, qualified_meaning}
use Rattle.gdmo_names.specs.TypeMeaning.TypeHasSyntax.{assigned, standard}
use Rattle.gdmo_names.specs.declared.parsed.Parsed.{Parsed}
use Rattle.gdmo_linking.specs.LinkedNames.{IsLinkedName}
use Rattle.linked_parts.specs.declared.linked.Linked.{Linked}
use Rattle.linked_parts.specs.declared.linked.LinkedName.{LinkedName}
use Rattle.filled_syntaxes.specs.FilledSyntaxes.{IsFilled, texts_beside}
use Rattle.filled_syntaxes.specs.LinkedMeanings.{linked_arcs}
use Rattle.class_faults.specs.FirstClassFault.{AreFaultless}
use Rattle.class_faults.specs.StatedProperties.{TypeHas}
use Rattle.wanted_laws.proofs.MeaningLaws.{same_meaning}
use Rattle.alike_laws.proofs.DecidingLaws.{alike_unless}
use Rattle.alike_laws.proofs.DefaultLaws.{HasSaid, linked_said}
use Rattle.alike_laws.proofs.FilledAlike.{filled_alike}
use Rattle.alike_laws.proofs.TextPaths.{LeadTo, StandAlike}

-- ---- the syntax of a name

one_plain : {ms : List ModuleTerm} {meant : Meaning} {one other : TypeSyntax} → HasSyntax ms meant one →
    HasSyntax ms meant other → one ≡ other
one_plain (of_type d) (of_type e) = one_syntax d e
one_plain (of_value d) (of_value e) = one_syntax d e
one_plain of_standard of_standard = refl

pub named_plain : {ms : List ModuleTerm} {name : QualifiedName} {syntax : TypeSyntax} → TypeHasSyntax ms name syntax →
    HasSyntax ms (qualified_meaning ms name) syntax
named_plain {ms = ms} {syntax = syntax} (assigned is denotes) =
    subst (λ meant. HasSyntax ms meant syntax) (sym is) (of_type denotes)
named_plain {ms = ms} {syntax = syntax} (standard is) =
    subst (λ meant. HasSyntax ms meant syntax) (sym is) of_standard

-- what is filled is the syntax that the type has
pub filled_of : {ms : List ModuleTerm} {names : NamedArcs} {name : QualifiedName} {plain syntax : TypeSyntax} →
    TypeHasSyntax ms name plain → HasSaid ms names (qualified_meaning ms name) syntax →
    IsFilled names (texts_beside ms (qualified_meaning ms name)) [] plain syntax
filled_of {ms = ms} {names = names} {name = name} {syntax = syntax} has of =
    subst (λ s. IsFilled names (texts_beside ms (qualified_meaning ms name)) [] s syntax)
    (one_plain of.filled.has (named_plain has)) of.filled.filled

-- the syntax of a linked name is that of what was linked
pub name_said : (parts : PartTerms) (linked : Linked) → AreFaultless (module_terms_of parts) linked →
    (name : QualifiedName) (x : LinkedName) → IsLinkedName parts name x → (syntax : TypeSyntax) →
    TypeHas (module_terms_of parts) linked x syntax →
    HasSaid (module_terms_of parts) (linked_arcs linked) (qualified_meaning (module_terms_of parts) name) syntax
name_said parts linked faultless name x is syntax has =
    let ms = module_terms_of parts in
    subst (λ meant. HasSaid ms (linked_arcs linked) meant syntax) (same_meaning ms name x.meaning is.meant)
    (linked_said ms linked faultless x.meaning syntax has)

-- ---- where DEFAULT stands

pub lead_by : {ms : List ModuleTerm} {one other : QualifiedName} (path its_path : List ℕ) →
    ((k : ℕ) (rest : List ℕ) → HasDefaultAt ms one (path ++ k ∷ rest) → HasDefaultAt ms other (its_path ++ k ∷ rest)) →
    LeadTo (texts_beside ms (qualified_meaning ms one)) (texts_beside ms (qualified_meaning ms other)) path its_path
lead_by path its_path to = λ k rest tree there.
    let found = to k rest (record { written_in = there.0; text = tree; stands = there.1 }) in
    (found.text, (found.written_in, found.stands))

stand_alike : {ms : List ModuleTerm} {one other : QualifiedName} → HaveDefaultsAlike ms one other →
    StandAlike (texts_beside ms (qualified_meaning ms one)) (texts_beside ms (qualified_meaning ms other)) [] []
stand_alike defaults = record {
  to = lead_by [] [] (λ k rest. (defaults (k ∷ rest)).0);
  from = lead_by [] [] (λ k rest. (defaults (k ∷ rest)).1);
}

-- ---- types that are one

one_alike : {ms : List ModuleTerm} {names : NamedArcs} {one other : QualifiedName} {syntax its : TypeSyntax} →
    AreOneType ms one other → HasSaid ms names (qualified_meaning ms one) syntax →
    HasSaid ms names (qualified_meaning ms other) its → AreAlike syntax its
one_alike {ms = ms} {names = names} {one = one} {other = other} {syntax = syntax} {its = its} same of also =
    filled_alike names (texts_beside ms (qualified_meaning ms one)) (texts_beside ms (qualified_meaning ms other)) [] []
    (stand_alike same.defaults) same.syntax syntax its (filled_of same.has of) (filled_of same.has_too also) of.said
    also.said

-- ---- linked names of such types

-- the modules of parts say what the modules that were read say
same_modules : (xs : List Module) → map (λ (x : ModulePart). x.text) (map module_part xs) ≡ module_terms xs
same_modules [] = refl
same_modules (x ∷ xs) = ap (λ (ys : List ModuleTerm). module_term x ∷ ys) (same_modules xs)

pub modules_same : (parts : Parsed) → module_terms_of (part_terms parts) ≡ module_terms parts.modules.items
modules_same parts = same_modules parts.modules.items

module _ (parts : PartTerms) (ms : List ModuleTerm) (modules : module_terms_of parts ≡ ms) (linked : Linked)
    (faultless : AreFaultless ms linked) where
  pub types_alike : (one other : QualifiedName) (x y : LinkedName) → IsLinkedName parts one x →
      IsLinkedName parts other y → AreOneType (module_terms_of parts) one other → (syntax its : TypeSyntax) →
      TypeHas ms linked x syntax → TypeHas ms linked y its → AreAlike syntax its
  types_alike one other x y is_one is_other same syntax its has has_too =
      let here = subst (λ zs. AreFaultless zs linked) (sym modules) faultless in
      one_alike same
      (name_said parts linked here one x is_one syntax (subst (λ zs. TypeHas zs linked x syntax) (sym modules) has))
      (name_said parts linked here other y is_other its (subst (λ zs. TypeHas zs linked y its) (sym modules) has_too))

  -- so they are where it isn't so that the types aren't one
  pub types_alike_unless : (one other : QualifiedName) (x y : LinkedName) → IsLinkedName parts one x →
      IsLinkedName parts other y → ¬ (¬ AreOneType (module_terms_of parts) one other) → (syntax its : TypeSyntax) →
      TypeHas ms linked x syntax → TypeHas ms linked y its → AreAlike syntax its
  types_alike_unless one other x y is_one is_other same syntax its has has_too = alike_unless syntax its
      (λ unlike. same (λ one_type. unlike
      (types_alike one other x y is_one is_other one_type syntax its has has_too)))
