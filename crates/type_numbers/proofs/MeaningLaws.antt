-- MeaningLaws: a type has one key: its syntax and the places of DEFAULT tell it.
use Rattle.std.proofs.Common.{◌≡◌, ◌∷◌, [], ◌∙◌, ℕ, suc, List, Bool, true, false, ap, refl, sym}
use Rattle.term_values.specs.Syntaxes.{TypeSyntax}
use Rattle.key_numbers.specs.TypeKeys.{TypeKey, PartKeys, has_mark, has_mark_at, key_parts, key_syntax}
use Rattle.key_numbers.specs.TypeKeys.TypeKey.{BooleanKey, IntegerKey, EnumeratedKey, BitStringKey, OctetStringKey}
use Rattle.key_numbers.specs.TypeKeys.TypeKey.{NullKey, IdentifierKey, TextKey, TimeKey, SequenceKey, SetKey}
use Rattle.key_numbers.specs.TypeKeys.TypeKey.{SequenceOfKey, SetOfKey, ChoiceKey, TaggedKey, AnyKey, FilterKey}
use Rattle.key_numbers.specs.TypeKeys.PartKeys.{NoKeys, PartKey}
use Rattle.asn1_names.specs.ModuleTerms.{ModuleTerm}
use Rattle.asn1_names.specs.NameMeaning.{Meaning}
use Rattle.asn1_names.specs.ResolvedTypes.{HasSyntax}
use Rattle.asn1_names.specs.ResolvedTypes.HasSyntax.{of_type, of_value, of_standard}
use Rattle.asn1_names.proofs.DenotedOnce.{one_syntax}
use Rattle.type_numbers.specs.MarkedKeys.{marked, marked_parts}
use Rattle.type_numbers.specs.MeaningKeys.{IsKeyOf, StandsDefault}

-- ---- a key from its syntax and its marks

mutual
  pub marked_again : (key : TypeKey) (f : List ℕ → Bool) →
      ((k : ℕ) (path : List ℕ) → f (k ∷ path) ≡ has_mark key (k ∷ path)) → marked (key_syntax key) f ≡ key
  marked_again BooleanKey f h = refl
  marked_again (IntegerKey names bounds) f h = refl
  marked_again (EnumeratedKey names) f h = refl
  marked_again (BitStringKey names bounds) f h = refl
  marked_again (OctetStringKey bounds) f h = refl
  marked_again NullKey f h = refl
  marked_again IdentifierKey f h = refl
  marked_again (TextKey charset bounds) f h = refl
  marked_again TimeKey f h = refl
  marked_again (SequenceKey keys) f h = ap SequenceKey (parts_again keys (λ k path. f (k ∷ path)) h)
  marked_again (SetKey keys) f h = ap SetKey (parts_again keys (λ k path. f (k ∷ path)) h)
  marked_again (SequenceOfKey of bounds) f h = ap (λ x. SequenceOfKey x bounds) (marked_again of f h)
  marked_again (SetOfKey of bounds) f h = ap (λ x. SetOfKey x bounds) (marked_again of f h)
  marked_again (ChoiceKey keys) f h = ap ChoiceKey (parts_again keys (λ k path. f (k ∷ path)) h)
  marked_again (TaggedKey tag explicit of) f h = ap (λ x. TaggedKey tag explicit x) (marked_again of f h)
  marked_again AnyKey f h = refl
  marked_again FilterKey f h = refl

  parts_again : (keys : PartKeys) (f : ℕ → List ℕ → Bool) →
      ((k : ℕ) (path : List ℕ) → f k path ≡ has_mark_at keys k path) → marked_parts (key_parts keys) f ≡ keys
  parts_again NoKeys f h = refl
  parts_again (PartKey name of optional default rest) f h =
      λ i. PartKey name (marked_again of (λ path. f 0 path) (λ k path. h 0 (k ∷ path)) i) optional (h 0 [] i)
      (parts_again rest (λ k path. f (suc k) path) (λ k path. h (suc k) path) i)

pub key_once : (a b : TypeKey) → key_syntax a ≡ key_syntax b → ((path : List ℕ) → has_mark a path ≡ has_mark b path) →
    a ≡ b
key_once a b same marks =
    sym (marked_again a (has_mark b) (λ k path. sym (marks (k ∷ path)))) ∙
    (ap (λ s. marked s (has_mark b)) same ∙ marked_again b (has_mark b) (λ k path. refl))

-- ---- a type has one

same_test : (a b : Bool) → (a ≡ true → b ≡ true) → (b ≡ true → a ≡ true) → a ≡ b
same_test true b h g = sym (h refl)
same_test false true h g = g refl
same_test false false h g = refl

pub one_meant_syntax : {ms : List ModuleTerm} {meant : Meaning} {one other : TypeSyntax} → HasSyntax ms meant one →
    HasSyntax ms meant other → one ≡ other
one_meant_syntax (of_type d) (of_type e) = one_syntax d e
one_meant_syntax (of_value d) (of_value e) = one_syntax d e
one_meant_syntax of_standard of_standard = refl

pub one_key : (ms : List ModuleTerm) (meant its_meant : Meaning) (a b : TypeKey) → IsKeyOf ms meant a →
    IsKeyOf ms its_meant b → key_syntax a ≡ key_syntax b →
    ((path : List ℕ) → StandsDefault ms meant path → StandsDefault ms its_meant path) →
    ((path : List ℕ) → StandsDefault ms its_meant path → StandsDefault ms meant path) → a ≡ b
one_key ms meant its_meant a b h g same there back = key_once a b same (λ path.
    same_test (has_mark a path) (has_mark b path)
    (λ is. (g.marks path).0 (there path ((h.marks path).1 is)))
    (λ is. (h.marks path).0 (back path ((g.marks path).1 is))))

pub meant_key_once : (ms : List ModuleTerm) (meant : Meaning) (a b : TypeKey) → IsKeyOf ms meant a → IsKeyOf ms meant b →
    a ≡ b
meant_key_once ms meant a b h g =
    one_key ms meant meant a b h g (one_meant_syntax h.syntax g.syntax) (λ path s. s) (λ path s. s)
