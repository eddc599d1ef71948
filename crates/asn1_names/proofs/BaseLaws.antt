-- BaseLaws: a type that denotes a syntax has a base, and the syntax has a place for the constraints that the base has a
-- place for (X.680, sections 49 to 51).
use Rattle.std.proofs.Common.{◌≡◌, ◌+◌, ℕ, ℤ, List, Bool, true, false, Some, refl, sym, ap, ◌∙◌, true≢false}
use Rattle.term_values.specs.Syntaxes.{TypeSyntax}
use Rattle.term_values.specs.Syntaxes.TypeSyntax.{Boolean, Integer, Enumerated, BitString, OctetString, NullType}
use Rattle.term_values.specs.Syntaxes.TypeSyntax.{ObjectIdentifier, TextString, GeneralizedTime, Sequence, SetType}
use Rattle.term_values.specs.Syntaxes.TypeSyntax.{SequenceOf, SetOf, Choice, Tagged, Any, Filter}
use Rattle.token_grammar.specs.declared.token.Token.{Token}
use Rattle.asn1_names.specs.ModuleTerms.{LimitTerm, PlainTerm, TypeTerm, ModuleTerm}
use Rattle.asn1_names.specs.ModuleTerms.LimitTerm.{SizeLimit, ValueLimit}
use Rattle.asn1_names.specs.ModuleTerms.TypeTerm.{Plain}
use Rattle.asn1_names.specs.Constraining.{Narrows, Constrains, is_size_limit}
use Rattle.asn1_names.specs.Constraining.Narrows.{values, bits, octets, characters, elements, members}
use Rattle.asn1_names.specs.Constraining.Narrows.{tagged as narrows_tagged}
use Rattle.asn1_names.specs.Constraining.Constrains.{no_more, another}
use Rattle.asn1_names.specs.DenotedSyntax.{Denotes, PlainDenotes}
use Rattle.asn1_names.specs.DenotedSyntax.PlainDenotes.{one_word, integer, enumerated, bit_string, octet_string}
use Rattle.asn1_names.specs.DenotedSyntax.PlainDenotes.{object_identifier, any}
use Rattle.asn1_names.specs.DenotedSyntax.Denotes.{tagged, sequence, set, choice, sequence_of, set_of, plain, named}
use Rattle.asn1_names.specs.DenotedSyntax.Denotes.{standard}
use Rattle.asn1_names.specs.Narrowing.{can_narrow}
use Rattle.asn1_names.specs.NodeCount.{syntax_count}
use Rattle.asn1_names.specs.TypeBase.{Base, HasBase, has_place, has_sizes, is_text, plain_has_sizes}
use Rattle.asn1_names.specs.TypeBase.{plain_has_ranges}
use Rattle.asn1_names.specs.TypeBase.Base.{Written, Standing}
use Rattle.asn1_names.specs.TypeBase.HasBase.{itself, tagged as based_tagged, named as based_named}
use Rattle.asn1_names.specs.TypeBase.HasBase.{standard as based_standard}
use Rattle.asn1_names.proofs.OneNumber.{at_type, not_both, same_standard, same_types}

-- ---- what narrows a syntax leaves its form, and its nodes

pub narrowed_place : {ranges : List (ℤ × ℤ)} {is_size : Bool} {before after : TypeSyntax} →
    Narrows ranges is_size before after → (b : Bool) → can_narrow b after ≡ can_narrow b before
narrowed_place (values h) b = refl
narrowed_place (bits h) b = refl
narrowed_place (octets h) b = refl
narrowed_place (characters h) b = refl
narrowed_place (elements h) b = refl
narrowed_place (members h) b = refl
narrowed_place (narrows_tagged h) b = narrowed_place h b

pub constrained_place : {ms : List ModuleTerm} {m : ℕ} {of : TypeTerm} {limits : List LimitTerm}
    {before after : TypeSyntax} → Constrains ms m of limits before after → (b : Bool) →
    can_narrow b after ≡ can_narrow b before
constrained_place no_more b = refl
constrained_place (another h n rest) b = constrained_place rest b ∙ narrowed_place n b

pub narrowed_nodes : {ranges : List (ℤ × ℤ)} {is_size : Bool} {before after : TypeSyntax} →
    Narrows ranges is_size before after → syntax_count after ≡ syntax_count before
narrowed_nodes (values h) = refl
narrowed_nodes (bits h) = refl
narrowed_nodes (octets h) = refl
narrowed_nodes (characters h) = refl
narrowed_nodes (elements h) = refl
narrowed_nodes (members h) = refl
narrowed_nodes (narrows_tagged h) = ap (λ n. 1 + n) (narrowed_nodes h)

pub constrained_nodes : {ms : List ModuleTerm} {m : ℕ} {of : TypeTerm} {limits : List LimitTerm}
    {before after : TypeSyntax} → Constrains ms m of limits before after → syntax_count after ≡ syntax_count before
constrained_nodes no_more = refl
constrained_nodes (another h n rest) = constrained_nodes rest ∙ narrowed_nodes n

-- ---- a type that denotes a syntax has a base

pub denoted_base : {ms : List ModuleTerm} {m : ℕ} {of : TypeTerm} {syntax : TypeSyntax} → Denotes ms m of syntax →
    (base : Base) × HasBase ms m of base
denoted_base (tagged h d) = let below = denoted_base d in (below.0, based_tagged below.1)
denoted_base (sequence h d) = (_, itself refl)
denoted_base (set h d) = (_, itself refl)
denoted_base (choice d) = (_, itself refl)
denoted_base (sequence_of h d c) = (_, itself refl)
denoted_base (set_of h d c) = (_, itself refl)
denoted_base (plain p c) = (_, itself refl)
denoted_base (named e d c) = let below = denoted_base d in (below.0, based_named e below.1)
denoted_base (standard e c) = (_, based_standard e)

-- ---- and the syntax has a place for what the base has a place for

false_true : {P : Type 0} → false ≡ true → P
false_true h = absurd (true≢false (sym h))

text_place : (syntax : TypeSyntax) → is_text (Some syntax) ≡ true → can_narrow true syntax ≡ true
text_place (TextString charset sizes) h = refl
text_place Boolean h = false_true h
text_place (Integer names ranges) h = false_true h
text_place (Enumerated names) h = false_true h
text_place (BitString names sizes) h = false_true h
text_place (OctetString sizes) h = false_true h
text_place NullType h = false_true h
text_place ObjectIdentifier h = false_true h
text_place GeneralizedTime h = false_true h
text_place (Sequence parts) h = false_true h
text_place (SetType parts) h = false_true h
text_place (SequenceOf element sizes) h = false_true h
text_place (SetOf element sizes) h = false_true h
text_place (Choice parts) h = false_true h
text_place (Tagged tag explicit of) h = false_true h
text_place Any h = false_true h
text_place Filter h = false_true h

standing_place : (syntax : TypeSyntax) → has_sizes (Standing syntax) ≡ true → can_narrow true syntax ≡ true
standing_place (SequenceOf element sizes) h = refl
standing_place Boolean h = false_true h
standing_place (Integer names ranges) h = false_true h
standing_place (Enumerated names) h = false_true h
standing_place (BitString names sizes) h = false_true h
standing_place (OctetString sizes) h = false_true h
standing_place NullType h = false_true h
standing_place ObjectIdentifier h = false_true h
standing_place (TextString charset sizes) h = false_true h
standing_place GeneralizedTime h = false_true h
standing_place (Sequence parts) h = false_true h
standing_place (SetType parts) h = false_true h
standing_place (SetOf element sizes) h = false_true h
standing_place (Choice parts) h = false_true h
standing_place (Tagged tag explicit of) h = false_true h
standing_place Any h = false_true h
standing_place Filter h = false_true h

plain_sizes : {ms : List ModuleTerm} {m : ℕ} {word : Token} {of : PlainTerm} {syntax : TypeSyntax} →
    PlainDenotes ms m word of syntax → plain_has_sizes word of ≡ true → can_narrow true syntax ≡ true
plain_sizes {syntax = syntax} (one_word e) h = text_place syntax (sym (ap is_text e) ∙ h)
plain_sizes (integer names) h = false_true h
plain_sizes (enumerated names) h = false_true h
plain_sizes (bit_string names) h = refl
plain_sizes octet_string h = refl
plain_sizes object_identifier h = false_true h
plain_sizes any h = false_true h

plain_ranges : {ms : List ModuleTerm} {m : ℕ} {word : Token} {of : PlainTerm} {syntax : TypeSyntax} →
    PlainDenotes ms m word of syntax → plain_has_ranges of ≡ true → can_narrow false syntax ≡ true
plain_ranges (one_word e) h = false_true h
plain_ranges (integer names) h = refl
plain_ranges (enumerated names) h = false_true h
plain_ranges (bit_string names) h = false_true h
plain_ranges octet_string h = false_true h
plain_ranges object_identifier h = false_true h
plain_ranges any h = false_true h

plain_place : {ms : List ModuleTerm} {m : ℕ} {word : Token} {of : PlainTerm} (limits : List LimitTerm)
    {syntax : TypeSyntax} → PlainDenotes ms m word of syntax → (limit : LimitTerm) →
    has_place (Written m (Plain word of limits)) limit ≡ true → can_narrow (is_size_limit limit) syntax ≡ true
plain_place limits p (SizeLimit ranges) h = plain_sizes p h
plain_place limits p (ValueLimit ranges) h = plain_ranges p h

pub denoted_place : {ms : List ModuleTerm} {m : ℕ} {of : TypeTerm} {syntax : TypeSyntax} {base : Base} →
    Denotes ms m of syntax → HasBase ms m of base → (limit : LimitTerm) → has_place base limit ≡ true →
    can_narrow (is_size_limit limit) syntax ≡ true
denoted_place (tagged h d) (itself k) limit place = false_true k
denoted_place (tagged h d) (based_tagged b) limit place = denoted_place d b limit place
denoted_place (sequence h d) (itself k) (SizeLimit ranges) place = false_true place
denoted_place (sequence h d) (itself k) (ValueLimit ranges) place = false_true place
denoted_place (set h d) (itself k) (SizeLimit ranges) place = false_true place
denoted_place (set h d) (itself k) (ValueLimit ranges) place = false_true place
denoted_place (choice d) (itself k) (SizeLimit ranges) place = false_true place
denoted_place (choice d) (itself k) (ValueLimit ranges) place = false_true place
denoted_place (sequence_of h d c) (itself k) (SizeLimit ranges) place = constrained_place c true
denoted_place (sequence_of h d c) (itself k) (ValueLimit ranges) place = false_true place
denoted_place (set_of h d c) (itself k) (SizeLimit ranges) place = constrained_place c true
denoted_place (set_of h d c) (itself k) (ValueLimit ranges) place = false_true place
denoted_place (plain {limits = limits} p c) (itself k) limit place =
    constrained_place c (is_size_limit limit) ∙ plain_place limits p limit place
denoted_place (named e d c) (itself k) limit place = false_true k
denoted_place {ms = ms} {base = base} (named {v = v} {i = i} {of = of} e d c)
    (based_named {v = w} {i = j} {of = its} f b) limit place =
    let here : HasBase ms v of base =
    at_type (λ x y. HasBase ms x y base) v w of its (same_types _ v i w j of its e f) b in
    constrained_place c (is_size_limit limit) ∙ denoted_place d here limit place
denoted_place (named {v = v} {i = i} {of = of} e d c) (based_standard {syntax = its} f) limit place =
    absurd (not_both _ v i of its e f)
denoted_place (standard e c) (itself k) limit place = false_true k
denoted_place (standard {unlimited = its} e c) (based_named {v = v} {i = i} {of = of} f b) limit place =
    absurd (not_both _ v i of its f e)
denoted_place (standard {unlimited = one} e c) (based_standard {syntax = two} f) (SizeLimit ranges) place =
    constrained_place c true ∙ standing_place one
    (ap (λ (s : TypeSyntax). has_sizes (Standing s)) (same_standard _ one two e f) ∙ place)
denoted_place (standard e c) (based_standard f) (ValueLimit ranges) place = false_true place
