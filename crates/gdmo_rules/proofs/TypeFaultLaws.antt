-- TypeFaultLaws: which attributes aren't INTEGER, by the numbers of their types, and what is told of the types of
-- actions as further types get numbers.
use Rattle.std.proofs.Common.{◌≡◌, ◌↔◌, ◌∙◌, ℕ, Bool, true, false, not, List, Option, None, Some, ap, refl, sym}
use Rattle.std.proofs.Math.Path.{subst}
use Rattle.std.proofs.lemmas.Bool.{true≢false}
use Rattle.std.proofs.lemmas.Option.{same_Some}
use Rattle.token_grammar.specs.declared.token.Token.{Token}
use Rattle.token_grammar.specs.declared.qualified_name.QualifiedName.{QualifiedName}
use Rattle.key_numbers.specs.ComponentKeys.{has_number_key, is_integer_key}
use Rattle.key_numbers.specs.KeyNumbers.{IsKeyNumber}
use Rattle.key_numbers.specs.NumberedLists.{Grows, Row}
use Rattle.key_numbers.specs.TypeKeys.{TypeKey, key_syntax}
use Rattle.key_numbers.specs.TypeKeys.TypeKey.{BooleanKey, IntegerKey, EnumeratedKey, BitStringKey, OctetStringKey}
use Rattle.key_numbers.specs.TypeKeys.TypeKey.{NullKey, IdentifierKey, TextKey, TimeKey, SequenceKey, SetKey}
use Rattle.key_numbers.specs.TypeKeys.TypeKey.{SequenceOfKey, SetOfKey, ChoiceKey, TaggedKey, AnyKey, FilterKey}
use Rattle.type_numbers.proofs.AskedLaws.{number_stays}
use Rattle.type_numbers.proofs.MeaningLaws.{one_meant_syntax}
use Rattle.gdmo_names.specs.AttributeSyntaxes.{IsWholeNumber, has_number_called, is_whole_number}
use Rattle.gdmo_names.specs.FaultSets.{Notes, OneFault}
use Rattle.gdmo_names.specs.FirstLabelFault.LabelFault.{KindWrong}
use Rattle.gdmo_names.specs.PartTerms.{Placed, PartTerms, body_of, kind_of, module_terms_of}
use Rattle.gdmo_names.specs.RuleWords.{IsKnownType, RepliesNumber, reply_of}
use Rattle.gdmo_names.specs.TemplateTerms.TemplateKind.{AttributeKind}
use Rattle.gdmo_names.specs.TypeMeaning.{TypeHasSyntax, qualified_meaning}
use Rattle.gdmo_names.specs.declared.first_fault.LabelFault.{LabelFault as NotedFault}
use Rattle.gdmo_names.proofs.NotingLaws.{noted_by}
use Rattle.gdmo_types.specs.AttributeTypes.{IsEndless, TellsMissing}
use Rattle.gdmo_types.specs.ComparedTypes.{IsStatedMissing, NumbersAttribute, NumbersStated, TellsStatedType}
use Rattle.gdmo_types.specs.declared.compared_types.ComparedType.{ComparedType}
use Rattle.gdmo_types.specs.declared.compared_types.ComparedType.TheVariants.{Missing, Nothing, Number}
use Rattle.gdmo_types.proofs.ComparedLaws.{is_known, missing_attribute, named_syntax, one_name, syntax_named}
use Rattle.gdmo_rules.specs.TypeFaults.{IsNoInteger, RepliesNoNumber}

-- ---- a fault is told by a test

pub noted_where : {Holds : Type 0} (b : Bool) (document at : ℕ) {before after : Option NotedFault} →
    (b ≡ true) ↔ Holds → Notes (OneFault (b ≡ true) KindWrong document at) before after →
    Notes (OneFault Holds KindWrong document at) before after
noted_where {Holds} b document at law noted =
    noted_by (OneFault (b ≡ true) KindWrong document at) (OneFault Holds KindWrong document at)
    (λ k d t fault. (law.0 fault.0, fault.1, fault.2, fault.3))
    (λ k d t fault. (law.1 fault.0, fault.1, fault.2, fault.3)) noted

pub by_way : {A B C : Type 0} → A ↔ B → B ↔ C → A ↔ C
by_way f g = (λ a. g.0 (f.0 a), λ c. f.1 (g.1 c))

-- ---- INTEGER

integer_syntax : (key : TypeKey) → is_integer_key key ≡ is_whole_number (key_syntax key)
integer_syntax (IntegerKey names bounds) = refl
integer_syntax (TaggedKey tag explicit of) = integer_syntax of
integer_syntax BooleanKey = refl
integer_syntax (EnumeratedKey names) = refl
integer_syntax (BitStringKey names bounds) = refl
integer_syntax (OctetStringKey bounds) = refl
integer_syntax NullKey = refl
integer_syntax IdentifierKey = refl
integer_syntax (TextKey charset bounds) = refl
integer_syntax TimeKey = refl
integer_syntax (SequenceKey keys) = refl
integer_syntax (SetKey keys) = refl
integer_syntax (SequenceOfKey of bounds) = refl
integer_syntax (SetOfKey of bounds) = refl
integer_syntax (ChoiceKey keys) = refl
integer_syntax AnyKey = refl
integer_syntax FilterKey = refl

pub missing_integer : (parts : PartTerms) (x : Placed) → kind_of x.template ≡ AttributeKind → TellsMissing parts x →
    (false ≡ true) ↔ IsNoInteger parts x
missing_integer parts x is told = (
  λ e. absurd (true≢false (sym e)),
  λ h. absurd (missing_attribute parts x is told h.0),
)

pub endless_integer : (parts : PartTerms) (x : Placed) → IsEndless parts x → (true ≡ true) ↔ IsNoInteger parts x
endless_integer parts x told = (
  λ e. (told.known, λ whole. told.no_type whole.has.name whole.has.of_type),
  λ h. refl,
)

-- an attribute whose type has a number is INTEGER exactly where the key is
whole_key : (parts : PartTerms) (row : Row) (x : Placed) (n : ℕ) (told : NumbersAttribute parts row x n) →
    IsWholeNumber parts x → is_integer_key told.numbered.key ≡ true
whole_key parts row x n told whole =
    let ms = module_terms_of parts in
    let key = told.numbered.key in
    let has = subst (λ name. TypeHasSyntax ms name whole.syntax) (one_name whole.has.of_type told.of_type)
    whole.has.has in
    integer_syntax key ∙ (ap is_whole_number (one_meant_syntax told.numbered.is_key.syntax (named_syntax has)) ∙
    whole.whole)

key_whole : (parts : PartTerms) (row : Row) (x : Placed) (n : ℕ) (told : NumbersAttribute parts row x n) →
    is_integer_key told.numbered.key ≡ true → IsWholeNumber parts x
key_whole parts row x n told is =
    let ms = module_terms_of parts in
    let key = told.numbered.key in record {
      syntax = key_syntax key;
      has = record {
        name = told.name;
        of_type = told.of_type;
        has = syntax_named ms told.name (qualified_meaning ms told.name) (key_syntax key) refl
            told.numbered.is_key.is_type told.numbered.is_key.syntax;
      };
      whole = sym (integer_syntax key) ∙ is;
    }

not_so : (b : Bool) → not b ≡ true → b ≡ true → ⊥
not_so true e f = true≢false (sym e)
not_so false e f = true≢false (sym f)

so_not : (b : Bool) → (b ≡ true → ⊥) → not b ≡ true
so_not true h = absurd (h refl)
so_not false h = refl

pub number_integer : (parts : PartTerms) (row : Row) (x : Placed) (n : ℕ) (b : Bool) →
    NumbersAttribute parts row x n → ((key : TypeKey) → IsKeyNumber row key n → b ≡ is_integer_key key) →
    (not b ≡ true) ↔ IsNoInteger parts x
number_integer parts row x n b told tells =
    let same = tells told.numbered.key told.numbered.numbered in (
      λ e. (
        is_known told.of_type told.numbered.is_key.is_type,
        λ whole. not_so b e (same ∙ whole_key parts row x n told whole),
      ),
      λ h. so_not b (λ is. h.1 (key_whole parts row x n told (sym same ∙ is))),
    )

-- ---- types that are stated stay

pub stated_stays : (parts : PartTerms) (before after : Row) (stated : Option QualifiedName) (type : ComparedType) →
    Grows before after → TellsStatedType parts before stated type → TellsStatedType parts after stated type
stated_stays parts before after stated Missing grows told = told
stated_stays parts before after stated Nothing grows told = told
stated_stays parts before after stated (Number n) grows told = record {
  name = told.name;
  is = told.is;
  numbered = number_stays (module_terms_of parts) before after
      (qualified_meaning (module_terms_of parts) told.name) n grows told.numbered;
}

-- ---- numbers of replies

number_names : (name : List ℕ) (key : TypeKey) → has_number_key name key ≡ has_number_called name (key_syntax key)
number_names name (IntegerKey names bounds) = refl
number_names name (TaggedKey tag explicit of) = number_names name of
number_names name BooleanKey = refl
number_names name (EnumeratedKey names) = refl
number_names name (BitStringKey names bounds) = refl
number_names name (OctetStringKey bounds) = refl
number_names name NullKey = refl
number_names name IdentifierKey = refl
number_names name (TextKey charset bounds) = refl
number_names name TimeKey = refl
number_names name (SequenceKey keys) = refl
number_names name (SetKey keys) = refl
number_names name (SequenceOfKey of bounds) = refl
number_names name (SetOfKey of bounds) = refl
number_names name (ChoiceKey keys) = refl
number_names name AnyKey = refl
number_names name FilterKey = refl

no_name : (name : QualifiedName) → None ≡ Some name → ⊥
no_name name h = absurd (cc)

pub missing_reply : (parts : PartTerms) (action : Placed) (word : Token) →
    IsStatedMissing parts (reply_of (body_of action.template)) → (false ≡ true) ↔ RepliesNoNumber parts action word
missing_reply parts action word lost = (
  λ e. absurd (true≢false (sym e)),
  λ h. absurd ((subst (IsKnownType parts) lost.is h.0) lost.no_type),
)

pub none_replied : (parts : PartTerms) (action : Placed) (word : Token) → reply_of (body_of action.template) ≡ None →
    (true ≡ true) ↔ RepliesNoNumber parts action word
none_replied parts action word none = (
  λ e. (subst (IsKnownType parts) (sym none) tt, λ replies. no_name replies.name (sym none ∙ replies.is_reply)),
  λ h. refl,
)

replied_key : (parts : PartTerms) (row : Row) (action : Placed) (word : Token) (n : ℕ)
    (told : NumbersStated parts row (reply_of (body_of action.template)) n) → RepliesNumber parts action word →
    has_number_key word.text told.numbered.key ≡ true
replied_key parts row action word n told replies =
    let ms = module_terms_of parts in
    let key = told.numbered.key in
    let has = subst (λ name. TypeHasSyntax ms name replies.syntax)
    (same_Some replies.name told.name (sym replies.is_reply ∙ told.is)) replies.has in
    number_names word.text key ∙ (ap (has_number_called word.text)
    (one_meant_syntax told.numbered.is_key.syntax (named_syntax has)) ∙ replies.names)

key_replied : (parts : PartTerms) (row : Row) (action : Placed) (word : Token) (n : ℕ)
    (told : NumbersStated parts row (reply_of (body_of action.template)) n) →
    has_number_key word.text told.numbered.key ≡ true → RepliesNumber parts action word
key_replied parts row action word n told is =
    let ms = module_terms_of parts in
    let key = told.numbered.key in record {
      name = told.name;
      is_reply = told.is;
      syntax = key_syntax key;
      has = syntax_named ms told.name (qualified_meaning ms told.name) (key_syntax key) refl
          told.numbered.is_key.is_type told.numbered.is_key.syntax;
      names = sym (number_names word.text key) ∙ is;
    }

pub number_replied : (parts : PartTerms) (row : Row) (action : Placed) (word : Token) (name : List ℕ) (n : ℕ)
    (b : Bool) → name ≡ word.text → NumbersStated parts row (reply_of (body_of action.template)) n →
    ((key : TypeKey) → IsKeyNumber row key n → b ≡ has_number_key name key) →
    (not b ≡ true) ↔ RepliesNoNumber parts action word
number_replied parts row action word name n b is_text told tells =
    let key = told.numbered.key in
    let same = tells key told.numbered.numbered ∙ ap (λ t. has_number_key t key) is_text in (
      λ e. (
        subst (IsKnownType parts) (sym told.is) told.numbered.is_key.is_type,
        λ replies. not_so b e (same ∙ replied_key parts row action word n told replies),
      ),
      λ h. so_not b (λ is. h.1 (key_replied parts row action word n told (sym same ∙ is))),
    )
