-- DenotedOnce: a type denotes one syntax (X.680, sections 17 to 51).
use Rattle.std.proofs.Common.{◌≡◌, ℕ, ℤ, List, [], Bool, true, false, Option, None, Some, refl, sym, ap, ◌∙◌, subst, true≢false}
use Rattle.token_grammar.specs.declared.token.Token.{Token}
use Rattle.term_values.specs.Syntaxes.{TypeSyntax, TypeParts}
use Rattle.term_values.specs.Syntaxes.TypeSyntax.{Integer, Enumerated, BitString, OctetString, TextString, Sequence}
use Rattle.term_values.specs.Syntaxes.TypeSyntax.{SetType, SequenceOf, SetOf, Choice, Tagged}
use Rattle.term_values.specs.Syntaxes.TypeParts.{Part}
use Rattle.term_values.specs.declared.tag.Tag.{Tag}
use Rattle.range_sets.proofs.OneForm.{one_rest}
use Rattle.asn1_names.specs.ModuleTerms.TypeTerm.{Repeated, Plain, Reference}
use Rattle.asn1_names.specs.ModuleTerms.{PlainTerm, TypeTerm, MemberTerms, LimitTerm, ModuleTerm}
use Rattle.asn1_names.specs.Constraining.{Narrows, Constrains, is_size_limit}
use Rattle.asn1_names.specs.Constraining.Narrows.{values, bits, octets, characters, elements, members}
use Rattle.asn1_names.specs.Constraining.Narrows.{tagged as narrows_tagged}
use Rattle.asn1_names.specs.Constraining.Constrains.{no_more, another}
use Rattle.asn1_names.specs.DenotedSyntax.{Denotes, MembersDenote, PlainDenotes, size_limits, is_explicit}
use Rattle.asn1_names.specs.DenotedSyntax.{has_implicit_default}
use Rattle.asn1_names.specs.DenotedSyntax.PlainDenotes.{one_word, integer, enumerated, bit_string, octet_string}
use Rattle.asn1_names.specs.DenotedSyntax.PlainDenotes.{object_identifier, any}
use Rattle.asn1_names.specs.DenotedSyntax.Denotes.{tagged, sequence, set, choice, sequence_of, set_of, plain, named}
use Rattle.asn1_names.specs.DenotedSyntax.Denotes.{standard}
use Rattle.asn1_names.specs.DenotedSyntax.MembersDenote.{no_members, member}
use Rattle.asn1_names.specs.TagClashes.{may_be_absent}
use Rattle.asn1_names.proofs.OneNumber.{at_type, not_both, one_names, one_ranges, one_tag, same_standard, same_types}

-- ---- ranges and constraints leave one syntax

pub one_narrowed : {ranges : List (ℤ × ℤ)} {is_size : Bool} {before one other : TypeSyntax} →
    Narrows ranges is_size before one → Narrows ranges is_size before other → one ≡ other
one_narrowed (values {names = names} h) (values k) = ap (Integer names) (one_rest _ _ _ _ h k)
one_narrowed (bits {names = names} h) (bits k) = ap (BitString names) (one_rest _ _ _ _ h k)
one_narrowed (octets h) (octets k) = ap OctetString (one_rest _ _ _ _ h k)
one_narrowed (characters {charset = charset} h) (characters k) = ap (TextString charset) (one_rest _ _ _ _ h k)
one_narrowed (elements {member = inner} h) (elements k) = ap (SequenceOf inner) (one_rest _ _ _ _ h k)
one_narrowed (members {member = inner} h) (members k) = ap (SetOf inner) (one_rest _ _ _ _ h k)
one_narrowed (narrows_tagged {explicit = explicit} {tag = tag} h) (narrows_tagged k) =
    ap (Tagged tag explicit) (one_narrowed h k)

pub one_constrained : {ms : List ModuleTerm} {m : ℕ} {of : TypeTerm} {limits : List LimitTerm}
    {before one other : TypeSyntax} → Constrains ms m of limits before one → Constrains ms m of limits before other →
    one ≡ other
one_constrained no_more no_more = refl
one_constrained {ms = ms} {m = m} {of = of} {before = before} {other = other}
    (another {limit = limit} {limits = limits} {pairs = xs} {between = mid} h n rest)
    (another {pairs = ys} {between = its_mid} k o others) =
    let size = is_size_limit limit in
    let also : Narrows xs size before its_mid = subst (λ zs. Narrows zs size before its_mid) (one_ranges k h) o in
    one_constrained rest (subst (λ s. Constrains ms m of limits s other) (sym (one_narrowed n also)) others)

-- ---- a type that holds no other denotes one

same_some : (x y : TypeSyntax) → Some x ≡ Some y → x ≡ y
same_some x y h = cc

pub one_plain : {ms : List ModuleTerm} {m : ℕ} {word : Token} {of : PlainTerm} {one other : TypeSyntax} →
    PlainDenotes ms m word of one → PlainDenotes ms m word of other → one ≡ other
one_plain {one = one} {other = other} (one_word h) (one_word k) = same_some one other (sym h ∙ k)
one_plain (integer h) (integer k) = ap (λ names. Integer names []) (one_names h k)
one_plain (enumerated h) (enumerated k) = ap Enumerated (one_names h k)
one_plain (bit_string h) (bit_string k) = ap (λ names. BitString names []) (one_names h k)
one_plain octet_string octet_string = refl
one_plain object_identifier object_identifier = refl
one_plain any any = refl

-- ---- each type denotes one

true_and_false : (b : Bool) → b ≡ true → b ≡ false → ⊥
true_and_false b h k = true≢false (sym h ∙ k)

explicit_tagged : (ms : List ModuleTerm) (m : ℕ) (mode : Option Token) {x y : Tag} {one other : TypeSyntax} → x ≡ y →
    one ≡ other → Tagged x (is_explicit (has_implicit_default ms m) mode one) one ≡
    Tagged y (is_explicit (has_implicit_default ms m) mode other) other
explicit_tagged ms m mode h k =
    λ i. Tagged (h i) (is_explicit (has_implicit_default ms m) mode (k i)) (k i)

mutual
  pub one_syntax : {ms : List ModuleTerm} {m : ℕ} {of : TypeTerm} {one other : TypeSyntax} → Denotes ms m of one →
      Denotes ms m of other → one ≡ other
  one_syntax {ms = ms} {m = m} (tagged {mode = mode} h d) (tagged k e) =
      explicit_tagged ms m mode (one_tag h k) (one_syntax d e)
  one_syntax (sequence h d) (sequence k e) = ap Sequence (one_parts d e)
  one_syntax (sequence h d) (set k e) = absurd (true_and_false _ k h)
  one_syntax (set h d) (sequence k e) = absurd (true_and_false _ h k)
  one_syntax (set h d) (set k e) = ap SetType (one_parts d e)
  one_syntax (choice d) (choice e) = ap Choice (one_parts d e)
  one_syntax {ms = ms} {m = m} {other = other} (sequence_of {word = word} {size = size} {of = of} h d c)
      (sequence_of k e f) =
      one_constrained c (subst (λ s. Constrains ms m (Repeated word size of) (size_limits size) (SequenceOf s []) other)
      (sym (one_syntax d e)) f)
  one_syntax (sequence_of h d c) (set_of k e f) = absurd (true_and_false _ k h)
  one_syntax (set_of h d c) (sequence_of k e f) = absurd (true_and_false _ h k)
  one_syntax {ms = ms} {m = m} {other = other} (set_of {word = word} {size = size} {of = of} h d c) (set_of k e f) =
      one_constrained c (subst (λ s. Constrains ms m (Repeated word size of) (size_limits size) (SetOf s []) other)
      (sym (one_syntax d e)) f)
  one_syntax {ms = ms} {m = m} {other = other} (plain {word = word} {of = of} {limits = limits} h c) (plain k f) =
      one_constrained c (subst (λ s. Constrains ms m (Plain word of limits) limits s other) (sym (one_plain h k)) f)
  one_syntax {ms = ms} {m = m} {other = other}
      (named {v = v} {i = i} {module_name = module_name} {name = name} {limits = limits} {of = of} e d c)
      (named {v = w} {i = j} {of = its} {unlimited = unlimited} f g h) =
      let same = same_types _ v i w j of its e f in
      let also = one_syntax d (at_type (λ x y. Denotes ms x y unlimited) v w of its same g) in
      one_constrained c (subst (λ s. Constrains ms m (Reference module_name name limits) limits s other)
      (sym also) h)
  one_syntax (named {v = v} {i = i} {of = of} e d c) (standard {unlimited = its} f h) =
      absurd (not_both _ v i of its e f)
  one_syntax (standard {unlimited = its} f h) (named {v = v} {i = i} {of = of} e d c) =
      absurd (not_both _ v i of its e f)
  one_syntax {ms = ms} {m = m} {other = other}
      (standard {module_name = module_name} {name = name} {limits = limits} {unlimited = one} e c)
      (standard {unlimited = its} f h) =
      one_constrained c (subst (λ s. Constrains ms m (Reference module_name name limits) limits s other)
      (sym (same_standard _ one its e f)) h)

  pub one_parts : {ms : List ModuleTerm} {m : ℕ} {members : MemberTerms} {one other : TypeParts} →
      MembersDenote ms m members one → MembersDenote ms m members other → one ≡ other
  one_parts no_members no_members = refl
  one_parts (member {name = name} {presence = presence} d rest) (member e others) =
      λ i. Part name.text (one_syntax d e i) (may_be_absent presence) None (one_parts rest others i)
