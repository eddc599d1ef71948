-- IntegerTypes: where each type of modules is written INTEGER, and these assign the types of attributes, the documents
-- are those whose attributes are all of INTEGER (X.680, sections 19 and 49; X.722, section 8.7).
use Rattle.std.specs.Prelude.{◌≡◌, ◌≢◌, ℕ, ℤ, List, [], Option, None, Some, Bool, refl, slice_get}
use Rattle.std.proofs.Common.{sym}
use Rattle.std.proofs.Math.Path.{subst}
use Rattle.token_grammar.specs.Form.{Tree}
use Rattle.token_grammar.specs.declared.token.Token.{Token}
use Rattle.term_values.specs.Syntaxes.{TypeSyntax}
use Rattle.asn1_names.specs.Constraining.{Constrains, Narrows}
use Rattle.asn1_names.specs.Constraining.Constrains.{another, no_more}
use Rattle.asn1_names.specs.Constraining.Narrows.{values}
use Rattle.asn1_names.specs.DefaultTexts.{HasDefault}
use Rattle.asn1_names.specs.DefaultTexts.HasDefault.{alternative, component, element, here, named, tagged}
use Rattle.asn1_names.specs.DenotedSyntax.{Denotes}
use Rattle.asn1_names.specs.DenotedSyntax.Denotes.{plain}
use Rattle.asn1_names.specs.DenotedSyntax.PlainDenotes.{integer as denotes_integer}
use Rattle.asn1_names.specs.ModuleTerms.{AssignedTerm, AssignmentTerm, LimitTerm, ModuleTerm, TypeTerm}
use Rattle.asn1_names.specs.ModuleTerms.AssignedTerm.{AssignsType, AssignsValue}
use Rattle.asn1_names.specs.ModuleTerms.TypeTerm.{Alternatives, Plain, Reference, Repeated, Structure, Under}
use Rattle.asn1_names.specs.NameMeaning.{Meaning, assigned_meaning}
use Rattle.asn1_names.specs.NameMeaning.Meaning.{Nothing, StandardType, TypeAt, ValueAt}
use Rattle.asn1_names.specs.Occurrences.{type_assigned}
use Rattle.asn1_names.specs.ResolvedTypes.{HasDefaultText, HasSyntax}
use Rattle.asn1_names.specs.ResolvedTypes.HasDefaultText.{of_type as text_of_type, of_value as text_of_value}
use Rattle.asn1_names.specs.ResolvedTypes.HasSyntax.{of_standard, of_type, of_value}
use Rattle.asn1_leaf_values.specs.Arcs.{NamedArcs}
use Rattle.linked_parts.specs.declared.linked.Linked.{Linked}
use Rattle.linked_parts.specs.declared.linked.NamedMeaning.{NamedMeaning}
use Rattle.linked_parts.specs.declared.linked.NamedMeaning.TheVariants.{Assigned, Standard}
use Rattle.filled_syntaxes.specs.FilledSyntaxes.{IsFilled, TextsAt}
use Rattle.filled_syntaxes.specs.LinkedMeanings.{linked_meaning, meaning_in, meaning_of_assignment}
use Rattle.class_faults.specs.AttributeSyntaxes.{AttributeHas}
use Rattle.class_faults.specs.AttributeSyntaxes.AttributeHas.{of_base, of_type as attribute_of_type}
use Rattle.schema_records.proofs.ClassLaws.{at_contains}
use Rattle.accepted_schemas.specs.IntegerDocuments.{AreIntegerDocuments, IsInteger}
use Rattle.accepted_schemas.specs.IntegerDocuments.IsInteger.{integer}
use Rattle.accepted_schemas.specs.IntegerModules.{AreIntegerModules, AreWrittenIntegers, IsWrittenInteger}
use Rattle.accepted_schemas.specs.IntegerModules.IsWrittenInteger.{integer as written_integer}

-- ---- what is written INTEGER

narrowed : {ranges : List (ℤ × ℤ)} {is_size : Bool} {before after : TypeSyntax} → IsInteger before →
    Narrows ranges is_size before after → IsInteger after
narrowed integer (values leaves) = integer

constrained : {ms : List ModuleTerm} {m : ℕ} {of : TypeTerm} {limits : List LimitTerm} {before after : TypeSyntax} →
    IsInteger before → Constrains ms m of limits before after → IsInteger after
constrained is no_more = is
constrained is (another ranges narrows rest) = constrained (narrowed is narrows) rest

syntax_written : {ms : List ModuleTerm} {m : ℕ} {of : TypeTerm} {syntax : TypeSyntax} → IsWrittenInteger of →
    Denotes ms m of syntax → IsInteger syntax
syntax_written written_integer (plain (denotes_integer names) limits) = constrained integer limits

-- with the values of DEFAULTs it is the same
filled : (names : NamedArcs) (T : TextsAt) (path : List ℕ) (syntax after : TypeSyntax) → IsInteger syntax →
    IsFilled names T path syntax after → IsInteger after
filled names T path _ after integer is = subst IsInteger (sym is) integer

-- a type that holds others, or names one
abbrev HasParts : TypeTerm → Type 0
HasParts (Plain _ _ _) = ⊥
HasParts (Under _ _ _) = Unit {0}
HasParts (Structure _ _ _) = Unit {0}
HasParts (Repeated _ _ _) = Unit {0}
HasParts (Alternatives _ _ _) = Unit {0}
HasParts (Reference _ _ _) = Unit {0}

has_parts : {ms : List ModuleTerm} {m v : ℕ} {of : TypeTerm} {path : List ℕ} {text : Tree} →
    HasDefault ms m of path v text → HasParts of
has_parts (here is) = tt
has_parts (component is further) = tt
has_parts (alternative is further) = tt
has_parts (tagged further) = tt
has_parts (element further) = tt
has_parts (named means further) = tt

no_parts : {of : TypeTerm} → IsWrittenInteger of → HasParts of → ⊥
no_parts written_integer parts = parts

-- ---- what assignments give

-- of which type a meaning has a syntax, and that this type may have a DEFAULT in it
abbrev SyntaxOf : List ModuleTerm → TypeSyntax → Meaning → Type 0
SyntaxOf ms syntax (TypeAt m i of) = Denotes ms m of syntax
SyntaxOf ms syntax (ValueAt m i of number text) = Denotes ms m of syntax
SyntaxOf ms syntax (StandardType own) = Unit {0}
SyntaxOf ms syntax Nothing = ⊥

syntax_of : {ms : List ModuleTerm} {syntax : TypeSyntax} {meant : Meaning} → HasSyntax ms meant syntax →
    SyntaxOf ms syntax meant
syntax_of (of_type denotes) = denotes
syntax_of (of_value denotes) = denotes
syntax_of of_standard = tt

abbrev HasPartsOf : Meaning → Type 0
HasPartsOf (TypeAt m i of) = HasParts of
HasPartsOf (ValueAt m i of number text) = HasParts of
HasPartsOf (StandardType own) = Unit {0}
HasPartsOf Nothing = ⊥

parts_of : {ms : List ModuleTerm} {meant : Meaning} {path : List ℕ} {v : ℕ} {text : Tree} →
    HasDefaultText ms meant path v text → HasPartsOf meant
parts_of (text_of_type has) = has_parts has
parts_of (text_of_value has) = has_parts has

-- what follows for each type that is written INTEGER follows for each assignment
module _ (ms : List ModuleTerm) (types : AreWrittenIntegers ms) (Known : Meaning → Type 0) (Follows : Type 0)
    (nothing : Known Nothing → Follows)
    (each : (m i : ℕ) (assigned : AssignedTerm) → IsWrittenInteger (type_assigned assigned) →
    Known (assigned_meaning m i assigned) → Follows) where
  in_module : (m i : ℕ) (x : ModuleTerm) (found : Option AssignmentTerm) → slice_get ms m ≡ Some x →
      slice_get x.assignments i ≡ found → Known (meaning_of_assignment m i found) → Follows
  in_module m i x None at is known = nothing known
  in_module m i x (Some a) at is known = each m i a.assigned
      (types x.document m (type_assigned a.assigned) (record {
        in_module = x;
        is_in = record { module_at = at; numbered = refl };
        assignment = a;
        stands = at_contains x.assignments i a is;
        is_of = refl;
      }))
      known

  of_assignment : (m i : ℕ) (found : Option ModuleTerm) → slice_get ms m ≡ found → Known (meaning_in m i found) →
      Follows
  of_assignment m i None at known = nothing known
  of_assignment m i (Some x) at known = in_module m i x (slice_get x.assignments i) at refl known

syntax_assigned : (ms : List ModuleTerm) (syntax : TypeSyntax) (m i : ℕ) (assigned : AssignedTerm) →
    IsWrittenInteger (type_assigned assigned) → SyntaxOf ms syntax (assigned_meaning m i assigned) →
    IsInteger syntax
syntax_assigned ms syntax m i (AssignsType of) is denotes = syntax_written is denotes
syntax_assigned ms syntax m i (AssignsValue of number text) is denotes = syntax_written is denotes

parts_assigned : (m i : ℕ) (assigned : AssignedTerm) → IsWrittenInteger (type_assigned assigned) →
    HasPartsOf (assigned_meaning m i assigned) → ⊥
parts_assigned m i (AssignsType of) is parts = no_parts is parts
parts_assigned m i (AssignsValue of number text) is parts = no_parts is parts

-- ---- documents

module _ (ms : List ModuleTerm) (linked : Linked) (integers : AreIntegerModules ms linked) where
  syntax_meant : (syntax : TypeSyntax) (meaning : NamedMeaning) → ((word : Token) → meaning ≢ Standard word) →
      HasSyntax ms (linked_meaning ms meaning) syntax → IsInteger syntax
  syntax_meant syntax (Assigned m i) own has =
      of_assignment ms integers.types (SyntaxOf ms syntax) (IsInteger syntax) (λ none. absurd none)
      (syntax_assigned ms syntax) m i (slice_get ms m) refl (syntax_of has)
  syntax_meant syntax (Standard word) own has = absurd (own word refl)

  attribute_integer : {k : ℕ} {syntax : TypeSyntax} → AttributeHas ms linked k syntax → IsInteger syntax
  attribute_integer {syntax = syntax} (attribute_of_type {k = k} {x = x} {name = name} at is has) =
      filled _ _ [] has.plain syntax
      (syntax_meant has.plain name.meaning
      (λ word. integers.own_types x name word (at_contains linked.attributes.items k x at) is) has.has)
      has.filled
  attribute_integer (of_base at is has) = attribute_integer has

  pub integer_documents : AreIntegerDocuments ms linked
  integer_documents = record {
    attributes = λ k syntax has. attribute_integer has;
    no_defaults = λ m i v path text has. of_assignment ms integers.types HasPartsOf ⊥ (λ none. none)
        parts_assigned m i (slice_get ms m) refl (parts_of has);
    no_rules = integers.no_rules;
  }
