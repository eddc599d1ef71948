-- OneNumber: numbers, bounds and tags are each said once: what is found of them is one (X.680, sections 19 to 22, 31.2
-- and 51).
use Rattle.std.proofs.Common.{◌≡◌, ℕ, ℤ, pos, List, ◌∷◌, Bool, Some, refl, sym, ap, ◌∙◌}
use Rattle.std.proofs.Common.{subst, true≢false}
use Rattle.token_grammar.specs.declared.token.Token.{Token}
use Rattle.token_grammar.specs.Form.{Tree}
use Rattle.term_values.specs.Syntaxes.{Named}
use Rattle.term_values.specs.declared.tag.Tag.{Tag}
use Rattle.asn1_names.specs.ModuleTerms.{NumberTerm, NamedNumberTerm, RangeTerm, TagTerm, TypeTerm, ModuleTerm}
use Rattle.asn1_names.specs.ModuleTerms.NumberTerm.{Digits, Called}
use Rattle.asn1_names.specs.Constraining.{AreRanges}
use Rattle.asn1_names.specs.Constraining.AreRanges.{no_more as no_ranges, another as another_range}
use Rattle.asn1_names.specs.DenotedSyntax.{AreNamed}
use Rattle.asn1_names.specs.DenotedSyntax.AreNamed.{no_more as no_names, another as another_name}
use Rattle.asn1_names.specs.NameMeaning.{Meaning}
use Rattle.asn1_names.specs.NameMeaning.Meaning.{TypeAt, ValueAt, StandardType}
use Rattle.asn1_names.specs.TypeBase.{Base, HasBase, HasNamedNumber, named_numbers, number_called}
use Rattle.asn1_names.specs.TypeBase.Base.{Written, Standing}
use Rattle.asn1_names.specs.TypeBase.HasBase.{itself, tagged, named, standard}
use Rattle.asn1_names.specs.WholeNumbers.{IsNumber, IsBound, IsTag}
use Rattle.asn1_names.specs.WholeNumbers.IsNumber.{digits, value, named_value}
use Rattle.asn1_names.specs.WholeNumbers.IsBound.{digits as bound_digits, named_number, value as bound_value}

-- ---- a name means one type

pub same_types : (meaning : Meaning) (v i w j : ℕ) (of other : TypeTerm) → meaning ≡ TypeAt v i of →
    meaning ≡ TypeAt w j other → (v ≡ w) × (of ≡ other)
same_types meaning v i w j of other h k = (cc, cc)

pub same_standard : (meaning : Meaning) (of other : _) → meaning ≡ StandardType of → meaning ≡ StandardType other →
    of ≡ other
same_standard meaning of other h k = cc

pub not_both : (meaning : Meaning) (v i : ℕ) (of : TypeTerm) (other : _) → meaning ≡ TypeAt v i of →
    meaning ≡ StandardType other → ⊥
not_both meaning v i of other h k = absurd (cc)

-- a fact of a type that is meant is one of the type that is meant
pub at_type : (P : ℕ → TypeTerm → Type 0) (v w : ℕ) (of other : TypeTerm) → (v ≡ w) × (of ≡ other) → P w other → P v of
at_type P v w of other same fact =
    subst (λ x. P x of) (sym same.0) (subst (λ x. P w x) (sym same.1) fact)

-- ---- a type has one base

pub one_base : {ms : List ModuleTerm} {m : ℕ} {of : TypeTerm} {one other : Base} → HasBase ms m of one →
    HasBase ms m of other → one ≡ other
one_base (itself h) (itself k) = refl
one_base (itself h) (tagged k) = absurd (true≢false (sym h))
one_base (itself h) (named e k) = absurd (true≢false (sym h))
one_base (itself h) (standard e) = absurd (true≢false (sym h))
one_base (tagged h) (itself k) = absurd (true≢false (sym k))
one_base (tagged h) (tagged k) = one_base h k
one_base (named e h) (itself k) = absurd (true≢false (sym k))
one_base {ms = ms} {other = other} (named {v = v} {i = i} {of = of} e h) (named {v = w} {i = j} {of = its} f k) =
    one_base h (at_type (λ x y. HasBase ms x y other) v w of its (same_types _ v i w j of its e f) k)
one_base (named {v = v} {i = i} {of = of} e h) (standard {syntax = syntax} f) = absurd (not_both _ v i of syntax e f)
one_base (standard e) (itself k) = absurd (true≢false (sym k))
one_base (standard {syntax = syntax} e) (named {v = v} {i = i} {of = of} f k) = absurd (not_both _ v i of syntax f e)
one_base (standard {syntax = one} e) (standard {syntax = two} f) = ap Standing (same_standard _ one two e f)

written_module : (v w : ℕ) (of other : TypeTerm) → Written v of ≡ Written w other → (v ≡ w) × (of ≡ other)
written_module v w of other h = (cc, cc)

some_number : (x y : NumberTerm) → Some x ≡ Some y → x ≡ y
some_number x y h = cc

pub one_named : {ms : List ModuleTerm} {m v w : ℕ} {of : TypeTerm} {name : Token} {one other : NumberTerm} →
    HasNamedNumber ms m of name v one → HasNamedNumber ms m of name w other → (v ≡ w) × (one ≡ other)
one_named {v = v} {w = w} {name = name} {one = one} {other = other} h k =
    let same = written_module v w h.base k.base (one_base h.has k.has) in (
      same.0,
      some_number one other (sym h.called
          ∙ ap (λ base. number_called name.text (named_numbers base)) same.1 ∙ k.called),
    )

-- ---- a number is one

same_digits : (meaning : Meaning) (v i w j : ℕ) (of other : TypeTerm) (x y : NumberTerm) (s t : Tree) →
    meaning ≡ ValueAt v i of (Some x) s → meaning ≡ ValueAt w j other (Some y) t → (v ≡ w) × (x ≡ y)
same_digits meaning v i w j of other x y s t h k = (cc, cc)

same_value : (meaning : Meaning) (v i w j : ℕ) (of other : TypeTerm) (x y : NumberTerm) (s t : Tree) →
    meaning ≡ ValueAt v i of (Some x) s → meaning ≡ ValueAt w j other (Some y) t → (v ≡ w) × (of ≡ other)
same_value meaning v i w j of other x y s t h k = (cc, cc)

same_called : (x y : Token) → Called x ≡ Called y → x ≡ y
same_called x y h = cc

digits_not_called : (minus : Bool) (x y : Token) → Digits minus x ≡ Called y → ⊥
digits_not_called minus x y h = absurd (cc)

at_number : (P : ℕ → NumberTerm → Type 0) (v w : ℕ) (x y : NumberTerm) → (v ≡ w) × (x ≡ y) → P w y → P v x
at_number P v w x y same fact = subst (λ n. P n x) (sym same.0) (subst (λ n. P w n) (sym same.1) fact)

pub one_number : {ms : List ModuleTerm} {m : ℕ} {number : NumberTerm} {n k : ℤ} → IsNumber ms m number n →
    IsNumber ms m number k → n ≡ k
one_number (digits a is b) (digits c also d) = is ∙ sym also
one_number {ms = ms} {k = k}
    (value {v = v} {i = i} {digits = x} {of = of} {minus = minus} {text = s} e h)
    (value {v = w} {i = j} {digits = y} {of = its} {minus = sign} {text = t} f g) =
    one_number h (at_number (λ a b. IsNumber ms a b k) v w (Digits minus x) (Digits sign y)
    (same_digits _ v i w j of its (Digits minus x) (Digits sign y) s t e f) g)
one_number
    (value {v = v} {i = i} {digits = x} {of = of} {minus = minus} {text = s} e h)
    (named_value {v = w} {i = j} {called = y} {of = its} {text = t} f named_is g) =
    absurd (digits_not_called minus x y
    (same_digits _ v i w j of its (Digits minus x) (Called y) s t e f).1)
one_number
    (named_value {v = w} {i = j} {called = y} {of = its} {text = t} f named_is g)
    (value {v = v} {i = i} {digits = x} {of = of} {minus = minus} {text = s} e h) =
    absurd (digits_not_called minus x y
    (same_digits _ v i w j of its (Digits minus x) (Called y) s t e f).1)
one_number {ms = ms} {k = k}
    (named_value {v = v} {i = i} {w = home} {called = x} {of = of} {text = s} {number = one} e one_is h)
    (named_value {v = w} {i = j} {w = its_home} {called = y} {of = its} {text = t} {number = other} f other_is g) =
    let same = same_value _ v i w j of its (Called x) (Called y) s t e f in
    let name = same_called x y (same_digits _ v i w j of its (Called x) (Called y) s t e f).1 in
    let also : HasNamedNumber ms v of x its_home other =
    at_type (λ a b. HasNamedNumber ms a b x its_home other) v w of its same
    (subst (λ z. HasNamedNumber ms w its z its_home other) (sym name) other_is) in
    one_number h (at_number (λ a b. IsNumber ms a b k) home its_home one other (one_named one_is also) g)

-- ---- a bound, a range and a tag are one

pub one_bound : {ms : List ModuleTerm} {m : ℕ} {of : TypeTerm} {bound : NumberTerm} {n k : ℤ} →
    IsBound ms m of bound n → IsBound ms m of bound k → n ≡ k
one_bound (bound_digits h) (bound_digits g) = one_number h g
one_bound {ms = ms} {k = k} (named_number {w = v} {number = one} one_is h)
    (named_number {w = w} {number = other} other_is g) =
    one_number h (at_number (λ a b. IsNumber ms a b k) v w one other (one_named one_is other_is) g)
one_bound (named_number {w = v} {number = one} one_is h) (bound_value unless g) =
    absurd (unless (record { written_in = v; number = one; has = one_is }))
one_bound (bound_value unless h) (named_number {w = v} {number = one} one_is g) =
    absurd (unless (record { written_in = v; number = one; has = one_is }))
one_bound (bound_value unless h) (bound_value other g) = one_number h g

pub one_ranges : {ms : List ModuleTerm} {m : ℕ} {of : TypeTerm} {ranges : List RangeTerm} {xs ys : List (ℤ × ℤ)} →
    AreRanges ms m of ranges xs → AreRanges ms m of ranges ys → xs ≡ ys
one_ranges no_ranges no_ranges = refl
one_ranges (another_range h rest) (another_range k others) =
    λ i. (one_bound h.least k.least i, one_bound h.greatest k.greatest i) ∷ one_ranges rest others i

same_pos : (x y : ℕ) → pos x ≡ pos y → x ≡ y
same_pos x y h = cc

pub one_tag : {ms : List ModuleTerm} {m : ℕ} {text : TagTerm} {x y : Tag} → IsTag ms m text x →
    IsTag ms m text y → x ≡ y
one_tag {x = x} {y = y} h k =
    let class = h.class ∙ sym k.class in
    let number = same_pos x.number y.number (one_number h.number k.number) in
    λ i. record { class = class i; number = number i }

pub one_names : {ms : List ModuleTerm} {m : ℕ} {numbers : List NamedNumberTerm} {xs ys : Named} →
    AreNamed ms m numbers xs → AreNamed ms m numbers ys → xs ≡ ys
one_names no_names no_names = refl
one_names (another_name {x = x} h rest) (another_name k others) =
    λ i. (x.name.text, one_number h k i) ∷ one_names rest others i
