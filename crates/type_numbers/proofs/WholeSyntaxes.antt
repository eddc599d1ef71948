-- WholeSyntaxes: the types of CMIP-1, and those of one word, have no values of DEFAULT; a test that holds nowhere marks
-- no component.
use Rattle.std.proofs.Common.{◌≡◌, ◌∷◌, [], ◌+◌, ℕ, suc, zero, List, Bool, true, false, Option, None, Some, codes, if◌then◌else◌, refl, slice_get, sym, true≢false}
use Rattle.std.proofs.Math.Path.{subst}
use Rattle.token_grammar.specs.declared.token.Token.{Token}
use Rattle.term_values.specs.CmipTypes.{object_class, attribute_id, action_type_id, event_type_id, object_instance}
use Rattle.term_values.specs.CmipTypes.{rdn_sequence, attribute}
use Rattle.term_values.specs.declared.charset.Charset.TheVariants as charsets
use Rattle.term_values.specs.Syntaxes.{TypeSyntax, TypeParts}
use Rattle.term_values.specs.Syntaxes.TypeSyntax.{Boolean, Integer, Enumerated, BitString, OctetString, NullType}
use Rattle.term_values.specs.Syntaxes.TypeSyntax.{ObjectIdentifier, TextString, GeneralizedTime, Sequence, SetType}
use Rattle.term_values.specs.Syntaxes.TypeSyntax.{SequenceOf, SetOf, Choice, Tagged, Any, Filter}
use Rattle.term_values.specs.Syntaxes.TypeParts.{NoParts, Part}
use Rattle.asn1_names.specs.ModuleTerms.{ModuleTerm, AssignmentTerm}
use Rattle.asn1_names.specs.ModuleTerms.AssignedTerm.{AssignsType, AssignsValue}
use Rattle.asn1_names.specs.NameMeaning.{Meaning, ModuleMeaning, assigned_in, assigned_meaning, first_assignment}
use Rattle.asn1_names.specs.NameMeaning.{import_of, imported_meaning, meaning_within, module_meaning, name_meaning}
use Rattle.asn1_names.specs.NameMeaning.{own_or_imported, reference_meaning, standard_meaning, is_called}
use Rattle.asn1_names.specs.NameMeaning.Meaning.{TypeAt, ValueAt, StandardType, Nothing}
use Rattle.asn1_names.specs.NameMeaning.ModuleMeaning.{Standard, ModuleAt, NoModule}
use Rattle.asn1_names.specs.StandardModule.{is_same_name, standard_type}
use Rattle.asn1_names.specs.TypeWords.{one_word_type}
use Rattle.key_numbers.specs.TypeKeys.{has_mark, has_mark_at, key_syntax}
use Rattle.type_numbers.specs.KeysBeside.{IsUnmarked}
use Rattle.type_numbers.specs.MarkedKeys.{marked, marked_parts}

-- ---- a test that holds nowhere marks nothing

abbrev pub nowhere : List ℕ → Bool
nowhere path = false

mutual
  tested : (s : TypeSyntax) (f : List ℕ → Bool) (path : List ℕ) → has_mark (marked s f) path ≡ true → f path ≡ true
  tested Boolean f path h = absurd (true≢false (sym h))
  tested (Integer names bounds) f path h = absurd (true≢false (sym h))
  tested (Enumerated names) f path h = absurd (true≢false (sym h))
  tested (BitString names bounds) f path h = absurd (true≢false (sym h))
  tested (OctetString bounds) f path h = absurd (true≢false (sym h))
  tested NullType f path h = absurd (true≢false (sym h))
  tested ObjectIdentifier f path h = absurd (true≢false (sym h))
  tested (TextString charset bounds) f path h = absurd (true≢false (sym h))
  tested GeneralizedTime f path h = absurd (true≢false (sym h))
  tested (Sequence parts) f [] h = absurd (true≢false (sym h))
  tested (Sequence parts) f (k ∷ path) h = tested_parts parts (λ j p. f (j ∷ p)) k path h
  tested (SetType parts) f [] h = absurd (true≢false (sym h))
  tested (SetType parts) f (k ∷ path) h = tested_parts parts (λ j p. f (j ∷ p)) k path h
  tested (SequenceOf of bounds) f path h = tested of f path h
  tested (SetOf of bounds) f path h = tested of f path h
  tested (Choice parts) f [] h = absurd (true≢false (sym h))
  tested (Choice parts) f (k ∷ path) h = tested_parts parts (λ j p. f (j ∷ p)) k path h
  tested (Tagged tag explicit of) f path h = tested of f path h
  tested Any f path h = absurd (true≢false (sym h))
  tested Filter f path h = absurd (true≢false (sym h))

  tested_parts : (parts : TypeParts) (f : ℕ → List ℕ → Bool) (k : ℕ) (path : List ℕ) →
      has_mark_at (marked_parts parts f) k path ≡ true → f k path ≡ true
  tested_parts NoParts f k path h = absurd (true≢false (sym h))
  tested_parts (Part name of optional default rest) f zero [] h = h
  tested_parts (Part name of optional default rest) f zero (j ∷ path) h = tested of (λ p. f 0 p) (j ∷ path) h
  tested_parts (Part name of optional default rest) f (suc k) path h = tested_parts rest (λ j p. f (suc j) p) k path h

not_true : (b : Bool) → (b ≡ true → ⊥) → b ≡ false
not_true true h = absurd (h refl)
not_true false h = refl

pub nowhere_marked : (s : TypeSyntax) → IsUnmarked (marked s nowhere)
nowhere_marked s path = not_true (has_mark (marked s nowhere) path) (λ h. true≢false (sym (tested s nowhere path h)))

-- ---- the types of CMIP-1 have no values of DEFAULT

-- its key has the whole syntax
abbrev pub IsWhole : TypeSyntax → Type 0
IsWhole s = key_syntax (marked s nowhere) ≡ s

abbrev IsWholeMeaning : Meaning → Type 0
IsWholeMeaning (StandardType s) = IsWhole s
IsWholeMeaning (TypeAt m i of) = Unit {0}
IsWholeMeaning (ValueAt m i of number text) = Unit {0}
IsWholeMeaning Nothing = Unit {0}

-- the same of one that there may be
data IsWholeOption : Option TypeSyntax → Type 0 where
  none_whole : IsWholeOption None
  some_whole : {s : TypeSyntax} → IsWhole s → IsWholeOption (Some s)

if_whole : (b : Bool) (s : TypeSyntax) (rest : Option TypeSyntax) → IsWhole s → IsWholeOption rest →
    IsWholeOption (if b then Some s else rest)
if_whole true s rest h g = some_whole h
if_whole false s rest h g = g

whole_standard : (name : List ℕ) → IsWholeOption (standard_type name)
whole_standard name =
    if_whole (is_same_name name (codes "ObjectClass")) object_class _ refl
    (if_whole (is_same_name name (codes "AttributeId")) attribute_id _ refl
    (if_whole (is_same_name name (codes "ActionTypeId")) action_type_id _ refl
    (if_whole (is_same_name name (codes "EventTypeId")) event_type_id _ refl
    (if_whole (is_same_name name (codes "ObjectInstance")) object_instance _ refl
    (if_whole (is_same_name name (codes "RDNSequence")) rdn_sequence _ refl
    (if_whole (is_same_name name (codes "Attribute")) attribute _ refl
    (if_whole (is_same_name name (codes "CMISFilter")) Filter _ refl none_whole)))))))

standard_option : (x : Option TypeSyntax) → IsWholeOption x → IsWholeMeaning (standard_meaning x)
standard_option None none_whole = tt
standard_option (Some s) (some_whole h) = h

if_meaning : (b : Bool) (x y : Meaning) → IsWholeMeaning x → IsWholeMeaning y → IsWholeMeaning (if b then x else y)
if_meaning true x y h g = h
if_meaning false x y h g = g

whole_first : (name : List ℕ) (m i : ℕ) (xs : List AssignmentTerm) → IsWholeMeaning (first_assignment name m i xs)
unfolding first_assignment
whole_first name m i [] = tt
whole_first name m i (x ∷ xs) =
    if_meaning (is_called name x.name) _ _ (assigned x.assigned) (whole_first name m (i + 1) xs)
  where
    assigned : (a : _) → IsWholeMeaning (assigned_meaning m i a)
    assigned (AssignsType of) = tt
    assigned (AssignsValue of number text) = tt

whole_assigned : (ms : List ModuleTerm) (m : ℕ) (name : List ℕ) → IsWholeMeaning (assigned_in ms m name)
unfolding assigned_in
whole_assigned ms m name = found (slice_get ms m)
  where
    found : (x : Option ModuleTerm) → IsWholeMeaning (elim x as (λ _. Meaning) [
      | None ↦ Nothing
      | Some y ↦ first_assignment name m 0 y.assignments
    ])
    found None = tt
    found (Some y) = whole_first name m 0 y.assignments

whole_within : (ms : List ModuleTerm) (at : ModuleMeaning) (name : List ℕ) → IsWholeMeaning (meaning_within ms at name)
unfolding meaning_within
whole_within ms Standard name = standard_option (standard_type name) (whole_standard name)
whole_within ms (ModuleAt m) name = whole_assigned ms m name
whole_within ms NoModule name = tt

whole_imported : (ms : List ModuleTerm) (name : List ℕ) (x : Option Token) →
    IsWholeMeaning (imported_meaning ms name x)
unfolding imported_meaning
whole_imported ms name None = tt
whole_imported ms name (Some module_name) = whole_within ms (module_meaning ms module_name.text) name

whole_own : (own imported : Meaning) → IsWholeMeaning own → IsWholeMeaning imported →
    IsWholeMeaning (own_or_imported own imported)
whole_own (TypeAt m i of) imported h g = tt
whole_own (ValueAt m i of number text) imported h g = tt
whole_own (StandardType s) imported h g = h
whole_own Nothing imported h g = g

whole_name : (ms : List ModuleTerm) (m : ℕ) (name : List ℕ) → IsWholeMeaning (name_meaning ms m name)
unfolding name_meaning
whole_name ms m name = whole_own (assigned_in ms m name) (imported_meaning ms name (import_of ms m name))
    (whole_assigned ms m name) (whole_imported ms name (import_of ms m name))

whole_reference : (ms : List ModuleTerm) (m : ℕ) (module_name : Option Token) (name : Token) →
    IsWholeMeaning (reference_meaning ms m module_name name)
unfolding reference_meaning
whole_reference ms m None name = whole_name ms m name.text
whole_reference ms m (Some module_name) name = whole_within ms (module_meaning ms module_name.text) name.text

pub whole_meant : (ms : List ModuleTerm) (m : ℕ) (module_name : Option Token) (name : Token) (s : TypeSyntax) →
    reference_meaning ms m module_name name ≡ StandardType s → IsWhole s
whole_meant ms m module_name name s e = subst IsWholeMeaning e (whole_reference ms m module_name name)

-- ---- nor have those of one word

whole_word : (word : List ℕ) → IsWholeOption (one_word_type word)
whole_word word =
    if_whole (is_same_name word (codes "BOOLEAN")) Boolean _ refl
    (if_whole (is_same_name word (codes "NULL")) NullType _ refl
    (if_whole (is_same_name word (codes "NumericString")) (TextString charsets.Numeric []) _ refl
    (if_whole (is_same_name word (codes "PrintableString")) (TextString charsets.Printable []) _ refl
    (if_whole (is_same_name word (codes "IA5String")) (TextString charsets.Ia5 []) _ refl
    (if_whole (is_same_name word (codes "VisibleString")) (TextString charsets.Visible []) _ refl
    (if_whole (is_same_name word (codes "GraphicString")) (TextString charsets.Graphic []) _ refl
    (if_whole (is_same_name word (codes "GeneralizedTime")) GeneralizedTime _ refl none_whole)))))))

whole_some : (s : TypeSyntax) → IsWholeOption (Some s) → IsWhole s
whole_some s (some_whole h) = h

pub word_whole : (word : List ℕ) (s : TypeSyntax) → one_word_type word ≡ Some s → IsWhole s
word_whole word s e = whole_some s (subst IsWholeOption e (whole_word word))
