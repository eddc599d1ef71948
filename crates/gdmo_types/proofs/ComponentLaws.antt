-- ComponentLaws: the component of a type by its key is the component of its syntax, with the same DEFAULTs.
use Rattle.std.proofs.Common.{◌≡◌, ◌↔◌, ◌==◌, ◌+◌, ◌∷◌, [], ◌∙◌, ℕ, suc, List, Bool, true, false, Option, None, Some, ap, arith, if◌then◌else◌, refl, sym}
use Rattle.std.proofs.Math.Path.{subst}
use Rattle.std.proofs.lemmas.Option.{same_Some}
use Rattle.std.specs.Cmp.Lexicographic.{pointwise}
use Rattle.key_numbers.specs.ComponentKeys.{component_key, part_key}
use Rattle.key_numbers.specs.TypeKeys.{PartKeys, TypeKey, has_mark, has_mark_at, key_parts, key_syntax}
use Rattle.key_numbers.specs.TypeKeys.PartKeys.{NoKeys, PartKey}
use Rattle.key_numbers.specs.TypeKeys.TypeKey.{SequenceKey, SetKey}
use Rattle.key_numbers.specs.TypeKeys.TypeKey.{TaggedKey}
use Rattle.term_values.specs.Syntaxes.{TypeSyntax}
use Rattle.token_grammar.specs.declared.qualified_name.QualifiedName.{QualifiedName}
use Rattle.asn1_names.specs.ModuleTerms.{ModuleTerm}
use Rattle.asn1_names.specs.ResolvedTypes.{HasSyntax}
use Rattle.type_numbers.specs.MeaningKeys.{IsKeyOf, StandsDefault}
use Rattle.type_numbers.proofs.BesideLaws.{nowhere_whole}
use Rattle.type_numbers.proofs.MeaningLaws.{key_once, one_meant_syntax}
use Rattle.gdmo_names.specs.AttributeSyntaxes.{AttributeHasType, IsComponentOf, component_called, part_called}
use Rattle.gdmo_names.specs.OneType.{HasDefaultAt, HasDefaultsOf}
use Rattle.gdmo_names.specs.PartTerms.{Placed, PartTerms, module_terms_of}
use Rattle.gdmo_names.specs.TypeMeaning.{TypeHasSyntax, qualified_meaning}
use Rattle.gdmo_types.proofs.ComparedLaws.{named_syntax, one_name, syntax_named}

-- the part stands at this place among all, so many of which stand before these, and is marked within as its key is
pub record IsPartOf (name : List ℕ) (keys : PartKeys) (before : ℕ) (inner : TypeKey) : Type 0 where
  pub place : ℕ
  pub called : part_called name before (key_parts keys) ≡ Some (before + place, key_syntax inner)
  pub marks : (j : ℕ) (path : List ℕ) → has_mark_at keys place (j ∷ path) ≡ has_mark inner (j ∷ path)

no_key : (key : TypeKey) → None ≡ Some key → ⊥
no_key key h = absurd (cc)

nothing_more : (n : ℕ) → n ≡ n + 0
nothing_more n = omega arith

part_of : (name : List ℕ) (keys : PartKeys) (before : ℕ) (inner : TypeKey) → part_key name keys ≡ Some inner →
    IsPartOf name keys before inner
part_of name NoKeys before inner e = absurd (no_key inner e)
part_of name (PartKey its of optional default rest) before inner e =
    by (pointwise ◌==◌ its name) refl e (λ h. part_of name rest (before + 1) inner h)
  where
    by : (b : Bool) → b ≡ pointwise ◌==◌ its name → (if b then Some of else part_key name rest) ≡ Some inner →
        (part_key name rest ≡ Some inner → IsPartOf name rest (before + 1) inner) →
        IsPartOf name (PartKey its of optional default rest) before inner
    by true t h more =
        let same = same_Some of inner h in record {
          place = 0;
          called = ap (λ b. if b then Some (before, key_syntax of) else part_called name (before + 1) (key_parts rest))
              (sym t) ∙ (λ i. Some (nothing_more before i, key_syntax (same i)));
          marks = λ j path. ap (λ k. has_mark k (j ∷ path)) same;
        }
    by false t h more =
        let found = more h in
        let place : before + 1 + found.place ≡ before + suc found.place = omega arith in record {
          place = suc found.place;
          called = ap (λ b. if b then Some (before, key_syntax of) else part_called name (before + 1) (key_parts rest))
              (sym t) ∙ (found.called ∙ ap (λ n. Some (n, key_syntax inner)) place);
          marks = found.marks;
        }

-- a component of a type, by its key, is one of its syntax
pub record IsWithin (name : List ℕ) (key inner : TypeKey) : Type 0 where
  pub place : ℕ
  pub called : component_called name (key_syntax key) ≡ Some (place, key_syntax inner)
  pub marks : (j : ℕ) (path : List ℕ) → has_mark key (place ∷ (j ∷ path)) ≡ has_mark inner (j ∷ path)

from_start : (n : ℕ) → 0 + n ≡ n
from_start n = omega arith

pub component_is : (name : List ℕ) (key inner : TypeKey) → component_key name key ≡ Some inner →
    IsWithin name key inner
component_is name (SequenceKey keys) inner e =
    let part = part_of name keys 0 inner e in record {
      place = part.place;
      called = part.called ∙ ap (λ n. Some (n, key_syntax inner)) (from_start part.place);
      marks = part.marks;
    }
component_is name (SetKey keys) inner e =
    let part = part_of name keys 0 inner e in record {
      place = part.place;
      called = part.called ∙ ap (λ n. Some (n, key_syntax inner)) (from_start part.place);
      marks = part.marks;
    }
component_is name (TaggedKey tag explicit of) inner e =
    let within = component_is name of inner e in
    record { place = within.place; called = within.called; marks = within.marks }
component_is name _ inner e = absurd (no_key inner e)

-- and where the key has none, the syntax has none
no_part : (name : List ℕ) (keys : PartKeys) (before : ℕ) → part_key name keys ≡ None →
    part_called name before (key_parts keys) ≡ None
no_part name NoKeys before e = refl
no_part name (PartKey its of optional default rest) before e =
    by (pointwise ◌==◌ its name) e (λ h. no_part name rest (before + 1) h)
  where
    by : (b : Bool) → (if b then Some of else part_key name rest) ≡ None →
        (part_key name rest ≡ None → part_called name (before + 1) (key_parts rest) ≡ None) →
        (if b then Some (before, key_syntax of) else part_called name (before + 1) (key_parts rest)) ≡ None
    by true h more = absurd (no_key of (sym h))
    by false h more = more h

pub no_component : (name : List ℕ) (key : TypeKey) → component_key name key ≡ None →
    component_called name (key_syntax key) ≡ None
no_component name (SequenceKey keys) e = no_part name keys 0 e
no_component name (SetKey keys) e = no_part name keys 0 e
no_component name (TaggedKey tag explicit of) e = no_component name of e
no_component name _ e = refl

-- ---- a component of the attribute's type

stands_at : {ms : List ModuleTerm} {name : QualifiedName} {path : List ℕ} → HasDefaultAt ms name path →
    StandsDefault ms (qualified_meaning ms name) path
stands_at d = record { written_in = d.written_in; text = d.text; stands = d.stands }

default_at : {ms : List ModuleTerm} {name : QualifiedName} {path : List ℕ} →
    StandsDefault ms (qualified_meaning ms name) path → HasDefaultAt ms name path
default_at d = record { written_in = d.written_in; text = d.text; stands = d.stands }

same_test : (a b : Bool) → (a ≡ true → b ≡ true) → (b ≡ true → a ≡ true) → a ≡ b
same_test true b h g = sym (h refl)
same_test false true h g = g refl
same_test false false h g = refl

same_marks : (ms : List ModuleTerm) (information own_name : QualifiedName) (whole inner own : TypeKey) (place : ℕ) →
    ((j : ℕ) (path : List ℕ) → has_mark whole (place ∷ (j ∷ path)) ≡ has_mark inner (j ∷ path)) →
    IsKeyOf ms (qualified_meaning ms information) whole → IsKeyOf ms (qualified_meaning ms own_name) own →
    HasDefaultsOf ms information place own_name → (path : List ℕ) → has_mark inner path ≡ has_mark own path
same_marks ms information own_name whole inner own place marks h g defaults [] =
    nowhere_whole inner ∙ sym (nowhere_whole own)
same_marks ms information own_name whole inner own place marks h g defaults (k ∷ path) =
    same_test (has_mark inner (k ∷ path)) (has_mark own (k ∷ path))
    (λ m. (g.marks (k ∷ path)).0 (stands_at ((defaults k path).0
    (default_at ((h.marks (place ∷ (k ∷ path))).1 (marks k path ∙ m))))))
    (λ m. sym (marks k path) ∙ (h.marks (place ∷ (k ∷ path))).0 (stands_at ((defaults k path).1
    (default_at ((g.marks (k ∷ path)).1 m)))))

abbrev place_in : ℕ → Option (ℕ × TypeSyntax) → ℕ
place_in default None = default
place_in default (Some x) = x.0

abbrev syntax_in : TypeSyntax → Option (ℕ × TypeSyntax) → TypeSyntax
syntax_in default None = default
syntax_in default (Some x) = x.1

key_of_component : (parts : PartTerms) (information own_name : QualifiedName) (attribute : Placed) (name : List ℕ)
    (whole inner own : TypeKey) (of : IsComponentOf parts information name attribute)
    (within : IsWithin name whole inner) →
    IsKeyOf (module_terms_of parts) (qualified_meaning (module_terms_of parts) information) whole →
    IsKeyOf (module_terms_of parts) (qualified_meaning (module_terms_of parts) own_name) own →
    of.own ≡ own_name → inner ≡ own
key_of_component parts information own_name attribute name whole inner own of within h g name_is =
    let ms = module_terms_of parts in
    let same = sym within.called ∙ (ap (component_called name) (one_meant_syntax h.syntax (named_syntax of.is)) ∙
    of.component) in
    let place : within.place ≡ of.place = ap (place_in of.place) same in
    let has : TypeHasSyntax ms own_name of.syntax = subst (λ n. TypeHasSyntax ms n of.syntax) name_is of.has in
    let syntaxes : key_syntax inner ≡ of.syntax = ap (syntax_in of.syntax) same in
    key_once inner own (syntaxes ∙ sym (one_meant_syntax g.syntax (named_syntax has)))
    (same_marks ms information own_name whole inner own within.place within.marks h g
    (subst (λ n. HasDefaultsOf ms information n own_name) (sym place)
    (subst (λ m. HasDefaultsOf ms information of.place m) name_is of.defaults)))

-- the component's key is the attribute's exactly where the component is of the attribute's type
pub component_compared : (parts : PartTerms) (information own_name : QualifiedName) (attribute : Placed)
    (name : List ℕ) (whole inner own : TypeKey) →
    IsKeyOf (module_terms_of parts) (qualified_meaning (module_terms_of parts) information) whole →
    component_key name whole ≡ Some inner → AttributeHasType parts attribute own_name →
    IsKeyOf (module_terms_of parts) (qualified_meaning (module_terms_of parts) own_name) own →
    (inner ≡ own) ↔ IsComponentOf parts information name attribute
component_compared parts information own_name attribute name whole inner own h is of_type g =
    let ms = module_terms_of parts in
    let within = component_is name whole inner is in (
      λ e. record {
        whole = key_syntax whole;
        is = syntax_named ms information (qualified_meaning ms information) (key_syntax whole) refl h.is_type h.syntax;
        place = within.place;
        syntax = key_syntax inner;
        component = within.called;
        own = own_name;
        of_type = of_type;
        has = syntax_named ms own_name (qualified_meaning ms own_name) (key_syntax inner) refl g.is_type
            (subst (HasSyntax ms (qualified_meaning ms own_name)) (sym (ap key_syntax e)) g.syntax);
        defaults = λ k path. (
          λ d. default_at ((g.marks (k ∷ path)).1 (subst (λ x. has_mark x (k ∷ path) ≡ true) e
              (sym (within.marks k path) ∙ (h.marks (within.place ∷ (k ∷ path))).0 (stands_at d)))),
          λ d. default_at ((h.marks (within.place ∷ (k ∷ path))).1 (within.marks k path ∙
              subst (λ x. has_mark x (k ∷ path) ≡ true) (sym e) ((g.marks (k ∷ path)).0 (stands_at d)))),
        );
      },
      λ of. key_of_component parts information own_name attribute name whole inner own of within h g
          (one_name of.of_type of_type),
    )
