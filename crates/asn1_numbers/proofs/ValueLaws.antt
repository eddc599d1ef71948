-- ValueLaws: what a name that stands for a number means, and which named numbers a type has by its base.
use Rattle.std.specs.Prelude.{◌≡◌, ℕ, ℤ, List, Bool, Option, None, Some, MatchOption, refl}
use Rattle.std.specs.Str.Parse.{IsNumeral}
use Rattle.std.proofs.Common.{ap, sym, subst, ◌∙◌}
use Rattle.token_grammar.specs.declared.token.Token.{Token}
use Rattle.token_grammar.specs.Form.{Tree}
use Rattle.term_values.specs.Syntaxes.{TypeSyntax}
use Rattle.asn1_names.specs.AssignmentNumbers.{Numbered}
use Rattle.asn1_names.specs.CodeMeanings.{IsTypeOf, IsValueNumber}
use Rattle.asn1_names.specs.ModuleFaults.{IsNoValue}
use Rattle.asn1_names.specs.ModuleTerms.{ModuleTerm, NumberTerm, TypeTerm}
use Rattle.asn1_names.specs.ModuleTerms.AssignedTerm.{AssignsValue}
use Rattle.asn1_names.specs.ModuleTerms.NumberTerm.{Digits, Called}
use Rattle.asn1_names.specs.NameMeaning.{Meaning, name_meaning}
use Rattle.asn1_names.specs.NameMeaning.Meaning.{ValueAt}
use Rattle.asn1_names.specs.NumbersFound.{beneath_tags}
use Rattle.asn1_names.specs.Occurrences.{type_assigned}
use Rattle.asn1_names.specs.TypeBase.{Base, HasBase, HasNamedNumber, named_numbers, number_called}
use Rattle.asn1_names.specs.TypeBase.Base.{Written, Standing}
use Rattle.asn1_names.specs.WholeNumbers.{FitsSixtyFour, IsNumber, signed_number}
use Rattle.asn1_names.specs.WholeNumbers.IsNumber.{digits, value, named_value}
use Rattle.asn1_names.proofs.NamedLaws.{called_none}
use Rattle.asn1_names.proofs.OneNumber.{one_base, one_named, one_number}
use Rattle.asn1_numbers.specs.NumberedBases.{HasBaseAt, IsEnd}
use Rattle.asn1_numbers.specs.NumberedBases.IsEnd.{written, standard}
use Rattle.asn1_numbers.specs.NumberedValues.{AssignsStated, HasValue, IsValueOf, TellsSaid, number_meaning}
use Rattle.asn1_numbers.specs.NumberedValues.IsValueOf.{digits as value_digits, named_number}
use Rattle.asn1_numbers.proofs.BaseLinkLaws.{at_same}
use Rattle.asn1_numbers.proofs.HeldLaws.{none_some}
use Rattle.asn1_numbers.proofs.LeadingLaws.{same_numbered, same_type}

-- a fact of a number in one module is one of the same number in the same module
pub at_number : (P : ℕ → NumberTerm → Type 0) (v w : ℕ) (x y : NumberTerm) → (v ≡ w) × (x ≡ y) → P w y → P v x
at_number P v w x y same fact = subst (λ n. P n x) (sym same.0) (subst (λ n. P w n) (sym same.1) fact)

-- ---- digits

pub digits_told : (ms : List ModuleTerm) (m : ℕ) (minus : Bool) (token : Token) (told : Option ℤ) →
    MatchOption told (IsNumeral 10 token.text → ¬ FitsSixtyFour (signed_number minus token))
    (λ n. IsNumeral 10 token.text × (n ≡ signed_number minus token) × FitsSixtyFour n) →
    TellsSaid ms m (Digits minus token) told
digits_told ms m minus token None unless = λ n said. wide n said
  where
    wide : (n : ℤ) → IsNumber ms m (Digits minus token) n → ⊥
    wide n (digits spelt is fits) = unless spelt (subst FitsSixtyFour is fits)
digits_told ms m minus token (Some n) is = digits is.0 is.1 is.2

-- ---- names of no value

pub no_value : {ms : List ModuleTerm} {m : ℕ} {name : Token} {n : ℤ} → IsNoValue (name_meaning ms m name.text) →
    IsNumber ms m (Called name) n → ⊥
no_value unless (value means h) = subst IsNoValue means unless
no_value unless (named_value means has h) = subst IsNoValue means unless

pub value_is_value : (ms : List ModuleTerm) (k : ℕ) (meaning : Meaning) → IsValueNumber ms k meaning →
    IsNoValue meaning → ⊥
value_is_value ms k meaning is none_is = subst IsNoValue is.is none_is

-- ---- named numbers

named_by : {ms : List ModuleTerm} {v : ℕ} {top : TypeTerm} {base : Base} → IsEnd ms v top base → (m : ℕ)
    (of : TypeTerm) (name : Token) (said : NumberTerm) →
    number_called name.text (named_numbers top) ≡ Some said → HasBase ms m of base → HasNamedNumber ms m of name v said
named_by (written {of = top} is) m of name said called has = record { base = top; has = has; called = called }
named_by (standard means) m of name said called has =
    none_some said (sym (called_none name.text) ∙ called)

written_type : (v w : ℕ) (of other : TypeTerm) → Written v of ≡ Written w other → of ≡ other
written_type v w of other h = cc

not_standing : (w : ℕ) (of : TypeTerm) (syntax : TypeSyntax) → Standing syntax ≡ Written w of → ⊥
not_standing w of syntax h = absurd (cc)

unnamed_by : {ms : List ModuleTerm} {v : ℕ} {top : TypeTerm} {base : Base} → IsEnd ms v top base → (m : ℕ)
    (of : TypeTerm) (name : Token) (w : ℕ) (said : NumberTerm) → number_called name.text (named_numbers top) ≡ None →
    HasBase ms m of base → HasNamedNumber ms m of name w said → ⊥
unnamed_by (written {of = top} is) m of name w said called has named =
    let same = written_type _ w top named.base (one_base has named.has) in
    none_some said (sym called ∙ ap (λ x. number_called name.text (named_numbers x)) same ∙ named.called)
unnamed_by (standard {syntax = syntax} means) m of name w said called has named =
    not_standing w named.base syntax (one_base has named.has)

-- the base of the assignment that has it beneath its tags
pub end_at : (ms : List ModuleTerm) (k b v : ℕ) (whole : TypeTerm) (at : HasBaseAt ms k b) → IsTypeOf ms b v whole →
    IsEnd ms v (beneath_tags whole) at.base
end_at ms k b v whole at is =
    at_same (λ n x. IsEnd ms n (beneath_tags x) at.base) at.home v at.whole whole
    (same_type ms b at.home v at.whole whole at.is is) at.ends

-- what the type of an assignment has under a name, by the assignment that has its base beneath its tags
pub named_there : (ms : List ModuleTerm) (k b v m : ℕ) (whole of : TypeTerm) (name : Token) (said : NumberTerm) →
    HasBaseAt ms k b → IsTypeOf ms b v whole → IsTypeOf ms k m of →
    number_called name.text (named_numbers (beneath_tags whole)) ≡ Some said → HasNamedNumber ms m of name v said
named_there ms k b v m whole of name said at its is called =
    named_by (end_at ms k b v whole at its) m of name said called (at.has m of is)

pub unnamed_there : (ms : List ModuleTerm) (k b v m w : ℕ) (whole of : TypeTerm) (name : Token) (said : NumberTerm) →
    HasBaseAt ms k b → IsTypeOf ms b v whole → IsTypeOf ms k m of →
    number_called name.text (named_numbers (beneath_tags whole)) ≡ None → HasNamedNumber ms m of name w said → ⊥
unnamed_there ms k b v m w whole of name said at its is called named =
    unnamed_by (end_at ms k b v whole at its) m of name w said called (at.has m of is) named

-- ---- the value of an assignment

same_stated : (of its : TypeTerm) (stated its_stated : Option NumberTerm) (text its_text : Tree) →
    AssignsValue of stated text ≡ AssignsValue its its_stated its_text → (of ≡ its) × (stated ≡ its_stated)
same_stated of its stated its_stated text its_text h = (cc, cc)

-- what is assigned is one
pub one_stated : (ms : List ModuleTerm) (k m v : ℕ) (of its : TypeTerm) (stated its_stated : Option NumberTerm) →
    AssignsStated ms k m of stated → AssignsStated ms k v its its_stated →
    (m ≡ v) × (of ≡ its) × (stated ≡ its_stated)
one_stated ms k m v of its stated its_stated h g =
    let same = same_numbered ms k h.numbered g.numbered h.at g.at in
    let assigned = same_stated of its stated its_stated h.text g.text
    (sym h.assigns ∙ ap (λ (x : Numbered). x.assignment.assigned) same ∙ g.assigns) in (
      sym h.module_is ∙ ap (λ (x : Numbered). x.in_module) same ∙ g.module_is,
      assigned.0,
      assigned.1,
    )

pub stated_type : (ms : List ModuleTerm) (k m : ℕ) (of : TypeTerm) (stated : Option NumberTerm) →
    AssignsStated ms k m of stated → IsTypeOf ms k m of
stated_type ms k m of stated h = record {
  numbered = h.numbered;
  at = h.at;
  module_is = h.module_is;
  is = ap type_assigned h.assigns;
}

some_number : (x y : NumberTerm) → Some x ≡ Some y → x ≡ y
some_number x y h = cc

-- what the value of an assignment is, by what is assigned
pub value_of_stated : (ms : List ModuleTerm) (k m : ℕ) (of : TypeTerm) (stated : NumberTerm) (n : ℤ) →
    AssignsStated ms k m of (Some stated) → HasValue ms k n → IsValueOf ms m of stated n
value_of_stated ms k m of stated n h has =
    let same = one_stated ms k has.m m has.of of (Some has.stated) (Some stated) has.assigns h in
    let number = some_number has.stated stated same.2 in
    subst (λ v. IsValueOf ms v of stated n) same.0 (subst (λ x. IsValueOf ms has.m x stated n) same.1
    (subst (λ x. IsValueOf ms has.m has.of x n) number has.is))

one_value_of : {ms : List ModuleTerm} {m : ℕ} {of : TypeTerm} {stated : NumberTerm} {n k : ℤ} →
    IsValueOf ms m of stated n → IsValueOf ms m of stated k → n ≡ k
one_value_of (value_digits h) (value_digits g) = one_number h g
one_value_of {ms = ms} {k = k} (named_number {w = v} {number = one} one_is h)
    (named_number {w = w} {number = other} other_is g) =
    one_number h (at_number (λ a b. IsNumber ms a b k) v w one other (one_named one_is other_is) g)

pub one_value : (ms : List ModuleTerm) (k : ℕ) (n p : ℤ) → HasValue ms k n → HasValue ms k p → n ≡ p
one_value ms k n p h g = one_value_of h.is (value_of_stated ms k h.m h.of h.stated p h.assigns g)

-- ---- a name of a value is its number

meant_stated : (ms : List ModuleTerm) (k : ℕ) (meaning : Meaning) (is : IsValueNumber ms k meaning) →
    AssignsStated ms k is.numbered.in_module is.of is.stated
meant_stated ms k meaning is = record {
  numbered = is.numbered;
  at = is.at;
  module_is = refl;
  text = is.text;
  assigns = is.assigns;
}

number_by : {ms : List ModuleTerm} {v : ℕ} {of : TypeTerm} {stated : NumberTerm} {n : ℤ} →
    IsValueOf ms v of stated n → (m i : ℕ) (name : Token) (text : Tree) →
    name_meaning ms m name.text ≡ ValueAt v i of (Some stated) text → IsNumber ms m (Called name) n
number_by (value_digits h) m i name text means = value means h
number_by (named_number has h) m i name text means = named_value means has h

pub value_number : (ms : List ModuleTerm) (k m : ℕ) (number : NumberTerm) (n : ℤ) →
    IsValueNumber ms k (number_meaning ms m number) → HasValue ms k n → IsNumber ms m number n
value_number ms k m (Digits minus token) n is has = absurd (let means = is.is in cc)
value_number ms k m (Called name) n is has =
    let home = is.numbered.in_module in
    let same = one_stated ms k has.m home has.of is.of (Some has.stated) is.stated has.assigns
    (meant_stated ms k (name_meaning ms m name.text) is) in
    let own : IsValueOf ms home is.of has.stated n =
    at_same (λ v x. IsValueOf ms v x has.stated n) has.m home has.of is.of (same.0, same.1) has.is in
    number_by own m is.numbered.place name is.text
    (is.is ∙ ap (λ s. ValueAt home is.numbered.place is.of s is.text) (sym same.2))

same_meant : (v w i j : ℕ) (of its : TypeTerm) (one other : Option NumberTerm) (s t : Tree) →
    ValueAt v i of one s ≡ ValueAt w j its other t → (v ≡ w) × (of ≡ its) × (one ≡ other)
same_meant v w i j of its one other s t h = (cc, cc, cc)

-- the assignment with the number of the value that is meant has what is meant
pub meant_value : (ms : List ModuleTerm) (k v i : ℕ) (of : TypeTerm) (stated : Option NumberTerm) (text : Tree)
    (meaning : Meaning) → meaning ≡ ValueAt v i of stated text → IsValueNumber ms k meaning →
    AssignsStated ms k v of stated
meant_value ms k v i of stated text meaning means is =
    let same = same_meant is.numbered.in_module v is.numbered.place i is.of of is.stated stated is.text text
    (sym is.is ∙ means) in
    subst (λ s. AssignsStated ms k v of s) same.2
    (at_same (λ n x. AssignsStated ms k n x is.stated) is.numbered.in_module v is.of of (same.0, same.1)
    (meant_stated ms k meaning is))

-- a number for which a name stands is the value of the assignment that is meant
pub number_value : {ms : List ModuleTerm} {m : ℕ} {name : Token} {n : ℤ} → IsNumber ms m (Called name) n → (k : ℕ) →
    IsValueNumber ms k (name_meaning ms m name.text) → HasValue ms k n
number_value {ms = ms} (value {v = v} {i = i} {digits = token} {of = of} {minus = minus} {text = text} means h) k is =
    record {
      m = v;
      of = of;
      stated = Digits minus token;
      assigns = meant_value ms k v i of (Some (Digits minus token)) text _ means is;
      is = value_digits h;
    }
number_value {ms = ms} (named_value {v = v} {i = i} {called = called} {of = of} {text = text} means has h) k is =
    record {
      m = v;
      of = of;
      stated = Called called;
      assigns = meant_value ms k v i of (Some (Called called)) text _ means is;
      is = named_number has h;
    }
