-- MeantKeys: the type that is meant has a key, which goes with its text.
use Rattle.std.proofs.Common.{◌≡◌, ◌∙◌, ℕ, List, Bool, true, Option, None, Some, ap, refl, sym, true≢false}
use Rattle.std.proofs.Math.Path.{subst}
use Rattle.term_values.specs.Syntaxes.{TypeSyntax}
use Rattle.asn1_names.specs.CodeMeanings.{Means}
use Rattle.asn1_names.specs.ModuleTerms.{ModuleTerm, TypeTerm}
use Rattle.asn1_names.specs.NameMeaning.{Meaning}
use Rattle.asn1_names.specs.NameMeaning.Meaning.{TypeAt, StandardType}
use Rattle.asn1_names.specs.ResolvedTypes.{HasDefaultText, HasSyntax}
use Rattle.asn1_names.specs.ResolvedTypes.HasSyntax.{of_type, of_standard}
use Rattle.asn1_names.specs.ResolvedTypes.HasDefaultText.{of_type as text_of_type}
use Rattle.asn1_names.specs.WordViews.{standard_syntax_of}
use Rattle.asn1_names.specs.declared.name_tables.Meaning.{Meaning as CodeMeaning}
use Rattle.asn1_names.specs.declared.name_tables.Meaning.TheVariants as meanings
use Rattle.asn1_names.specs.declared.standard_module.StandardType.{StandardType as CodeStandard}
use Rattle.asn1_names.specs.declared.standard_module.StandardType.TheVariants as code
use Rattle.key_numbers.specs.KeyNumbers.{IsKeyNumber}
use Rattle.key_numbers.specs.NumberedLists.{Row}
use Rattle.key_numbers.specs.TypeKeys.{TypeKey, has_mark, key_syntax}
use Rattle.type_numbers.specs.AskedTypes.{HasNumber}
use Rattle.type_numbers.specs.KeysBeside.{IsBeside, IsBesideAt}
use Rattle.type_numbers.specs.MarkedKeys.{marked}
use Rattle.type_numbers.specs.MeaningKeys.{IsKeyOf, StandsDefault}
use Rattle.type_numbers.specs.TextLeads.{IsTextOf}
use Rattle.type_numbers.proofs.BesideLaws.{default_marked, marked_default}
use Rattle.type_numbers.proofs.FoundKeys.{denoted_key}
use Rattle.type_numbers.proofs.WholeSyntaxes.{IsWhole, nowhere, nowhere_marked}
use Rattle.type_numbers.proofs.MeaningLaws.{marked_again}

-- a key of this syntax is that of the type that is meant, and goes with the text
pub record IsFoundKey (ms : List ModuleTerm) (meant : Meaning) (text : Option (ℕ × TypeTerm)) (syntax : TypeSyntax)
    : Type 0 where
  pub key : TypeKey
  pub is : key_syntax key ≡ syntax
  pub beside : IsBesideAt ms text key
  pub is_key : IsKeyOf ms meant key

at_type_marked : {ms : List ModuleTerm} {m i : ℕ} {of : TypeTerm} {key : TypeKey} {path : List ℕ} →
    IsBeside ms m of key → StandsDefault ms (TypeAt m i of) path → has_mark key path ≡ true
at_type_marked {ms = ms} {m = m} {i = i} {of = of} {key = key} {path = path} b d = found d.stands
  where
    found : {v : ℕ} {t : _} → HasDefaultText ms (TypeAt m i of) path v t → has_mark key path ≡ true
    found (text_of_type h) = default_marked b h

found_assigned : (ms : List ModuleTerm) (m i : ℕ) (of : TypeTerm) (syntax : TypeSyntax) →
    HasSyntax ms (TypeAt m i of) syntax → IsFoundKey ms (TypeAt m i of) (Some (m, of)) syntax
found_assigned ms m i of syntax (of_type d) =
    let has = denoted_key d in record {
      key = has.key;
      is = has.is;
      beside = has.beside;
      is_key = record {
        is_type = λ none. none;
        syntax = subst (HasSyntax ms (TypeAt m i of)) (sym has.is) (of_type d);
        marks = λ path. (
          λ d. at_type_marked has.beside d,
          λ mark. let one = marked_default has.beside path mark in record {
            written_in = one.written_in;
            text = one.text;
            stands = text_of_type one.stands;
          },
        );
      };
    }

no_default : {ms : List ModuleTerm} {syntax : TypeSyntax} {path : List ℕ} {v : ℕ} {t : _} →
    HasDefaultText ms (StandardType syntax) path v t → ⊥
no_default h = elim h [ ]

standard_whole : (x : CodeStandard) → IsWhole (standard_syntax_of x)
standard_whole code.ObjectClass = refl
standard_whole code.AttributeId = refl
standard_whole code.ActionTypeId = refl
standard_whole code.EventTypeId = refl
standard_whole code.ObjectInstance = refl
standard_whole code.RdnSequence = refl
standard_whole code.Attribute = refl
standard_whole code.Filter = refl

found_standard : (ms : List ModuleTerm) (x : CodeStandard) (syntax : TypeSyntax) →
    HasSyntax ms (StandardType (standard_syntax_of x)) syntax →
    IsFoundKey ms (StandardType (standard_syntax_of x)) None syntax
found_standard ms x syntax of_standard =
    let whole = standard_whole x in record {
      key = marked (standard_syntax_of x) nowhere;
      is = whole;
      beside = nowhere_marked (standard_syntax_of x);
      is_key = record {
        is_type = λ none. none;
        syntax = subst (HasSyntax ms (StandardType (standard_syntax_of x))) (sym whole) of_standard;
        marks = λ path. (
          λ d. absurd (no_default d.stands),
          λ mark. absurd (true≢false (sym mark ∙ nowhere_marked (standard_syntax_of x) path)),
        );
      };
    }

pub found_key : (ms : List ModuleTerm) (meaning : CodeMeaning) (meant : Meaning) (at : Option (ℕ × TypeTerm))
    (syntax : TypeSyntax) → Means ms meaning meant → IsTextOf meant at → HasSyntax ms meant syntax →
    IsFoundKey ms meant at syntax
found_key ms (meanings.TypeAt number) meant at syntax means is has =
    let x = means.numbered in
    let e = means.is in
    subst (λ y. IsFoundKey ms y at syntax) (sym e) (subst (λ t. IsFoundKey ms (TypeAt x.in_module x.place means.of) t
    syntax) (sym (subst (λ y. IsTextOf y at) e is)) (found_assigned ms x.in_module x.place means.of syntax
    (subst (λ y. HasSyntax ms y syntax) e has)))
found_key ms (meanings.ValueAt number) meant at syntax means is has = absurd (subst (λ y. IsTextOf y at) means.is is)
found_key ms (meanings.Standard x) meant at syntax means is has =
    subst (λ y. IsFoundKey ms y at syntax) (sym means) (subst (λ t. IsFoundKey ms (StandardType (standard_syntax_of x)) t
    syntax) (sym (subst (λ y. IsTextOf y at) means is)) (found_standard ms x syntax
    (subst (λ y. HasSyntax ms y syntax) means has)))
found_key ms meanings.Nothing meant at syntax means is has = absurd (subst (λ y. IsTextOf y at) means is)

-- ---- the number that is given

marked_number : (row : Row) (key : TypeKey) (syntax : TypeSyntax) (n : ℕ) → key_syntax key ≡ syntax →
    IsKeyNumber row (marked syntax (has_mark key)) n → IsKeyNumber row key n
marked_number row key syntax n is numbered =
    subst (λ k. IsKeyNumber row k n) (ap (λ s. marked s (has_mark key)) (sym is) ∙
    marked_again key (has_mark key) (λ k path. refl)) numbered

beside_marked : (ms : List ModuleTerm) (at : Option (ℕ × TypeTerm)) (key : TypeKey) (syntax : TypeSyntax) →
    key_syntax key ≡ syntax → IsBesideAt ms at key → IsBesideAt ms at (marked syntax (has_mark key))
beside_marked ms at key syntax is b =
    subst (λ k. IsBesideAt ms at k) (sym (ap (λ s. marked s (has_mark key)) (sym is) ∙
    marked_again key (has_mark key) (λ k path. refl))) b

-- the number of a syntax beside a text is told of what is meant
pub found_number : (ms : List ModuleTerm) (meant : Meaning) (at : Option (ℕ × TypeTerm)) (syntax : TypeSyntax)
    (row : Row) (n : ℕ) → IsFoundKey ms meant at syntax →
    ((f : List ℕ → Bool) → IsBesideAt ms at (marked syntax f) → IsKeyNumber row (marked syntax f) n) →
    HasNumber ms row meant n
found_number ms meant at syntax row n found told = record {
  key = found.key;
  is_key = found.is_key;
  numbered = marked_number row found.key syntax n found.is
      (told (has_mark found.key) (beside_marked ms at found.key syntax found.is found.beside));
}
