-- CountLaws: nodes are counted member by member (docs/PROFILE.md, section 11).
use Rattle.std.proofs.Common.{◌≡◌, ◌+◌, ◌^◌, ◌-◌, ℕ, List, [], ◌∷◌, ◌++◌, Bool, true, false, Option, Some, refl, sym}
use Rattle.std.proofs.Common.{◌∙◌, subst, arith, ◌<◌, ◌≤◌}
use Rattle.std.proofs.lemmas.List.{take_all}
use Rattle.std.proofs.Common.{get_or, length, map, take}
use Rattle.asn1_names.proofs.NumberLaws.{map_more}
use Rattle.std.specs.Prelude.{min, slice_get, unwrap_or}
use Rattle.token_grammar.specs.declared.token.Token.{Token}
use Rattle.asn1_syntax.specs.declared.plain_type.PlainType.{PlainType}
use Rattle.asn1_syntax.specs.declared.plain_type.PlainType.TheVariants as text
use Rattle.asn1_names.specs.CodeMeanings.{IsTypeNumber, IsValueNumber}
use Rattle.asn1_names.specs.ModuleTerms.{LimitTerm, RangeTerm, TagTerm, TypeTerm, ModuleTerm}
use Rattle.asn1_names.specs.ModuleTerms.TypeTerm.{Under, Structure, Repeated, Alternatives, Reference}
use Rattle.asn1_names.specs.NameMeaning.{Meaning, reference_meaning}
use Rattle.asn1_names.specs.NameMeaning.Meaning.{Nothing}
use Rattle.asn1_names.specs.NodeCount.{HasNodes, HaveNodes, IsNoType}
use Rattle.asn1_names.specs.NodeCount.HasNodes.{plain, tagged, repeated, structure, alternatives, named, cyclic}
use Rattle.asn1_names.specs.NodeCount.HaveNodes.{no_members, member}
use Rattle.asn1_names.specs.TermViews.{plain_term}
use Rattle.asn1_names.specs.TypeWalks.{IsNoName}
use Rattle.asn1_names.proofs.WalkLaws.{named_is}
use Rattle.asn1_tags.specs.KnownFacts.{AreKnown, HasCount, KnowsNodes, is_marked}
use Rattle.asn1_tags.specs.MemberRows.{MemberRow, members}
use Rattle.asn1_tags.proofs.NamedTypes.{cyclic_at, marked, number_at, type_is, type_named, unmarked}

-- ---- names

pub told_at : (found : Option ℕ) (told result : ℕ) → result ≡ unwrap_or found 0 → found ≡ Some told → result ≡ told
told_at found told result e f = cc

pub cyclic_count : {ms : List ModuleTerm} {marks : List Bool} {m : ℕ} (nodes : List ℕ) (number : ℕ)
    (module_name : Option Token) (name : Token) (limits : List LimitTerm) →
    AreKnown (KnowsNodes ms nodes) ms marks m (Reference module_name name limits) →
    IsTypeNumber ms number (reference_meaning ms m module_name name) → is_marked marks number ≡ true →
    HasCount ms m (Reference module_name name limits) 0
cyclic_count nodes number module_name name limits known is e =
    (0, cyclic is.is (cyclic_at is.numbered is.at (marked number known.marked e)), refl)

pub named_count : {ms : List ModuleTerm} {marks : List Bool} {m : ℕ} (nodes : List ℕ) (number result : ℕ)
    (module_name : Option Token) (name : Token) (limits : List LimitTerm) →
    AreKnown (KnowsNodes ms nodes) ms marks m (Reference module_name name limits) →
    IsTypeNumber ms number (reference_meaning ms m module_name name) → is_marked marks number ≡ false →
    result ≡ unwrap_or (slice_get nodes number) 0 → HasCount ms m (Reference module_name name limits) result
named_count nodes number result module_name name limits known is e told =
    let known_one = known.each number (type_named module_name name limits is) (unmarked number known.marked e) in
    let count = known_one.2 is.numbered.in_module is.of (type_is is) in (
      count.0,
      named is.is (λ c. unmarked number known.marked e (number_at is.numbered is.at c)) count.1,
      told_at (slice_get nodes number) known_one.0 result told known_one.1 ∙ count.2,
    )

pub fits_count : (n : ℕ) → n < 18446744073709551616 → n ≡ min n 18446744073709551615
fits_count n within = omega (arith, within)

pub no_type_value : {ms : List ModuleTerm} {number : ℕ} {meaning : Meaning} → IsValueNumber ms number meaning →
    IsNoType meaning
no_type_value is = subst IsNoType (sym is.is) tt

pub no_type_nothing : {meaning : Meaning} → meaning ≡ Nothing → IsNoType meaning
no_type_nothing is = subst IsNoType (sym is) tt

-- ---- a type that holds no other

pub plain_count : {ms : List ModuleTerm} {m : ℕ} (of : PlainType) (limits : List LimitTerm) →
    IsNoName (plain_term of limits) → HasCount ms m (plain_term of limits) 1
plain_count (text.Simple word) limits no_name = (1, plain, refl)
plain_count (text.Integer x) limits no_name = (1, plain, refl)
plain_count (text.Enumerated x) limits no_name = (1, plain, refl)
plain_count (text.BitString x) limits no_name = (1, plain, refl)
plain_count (text.OctetString word) limits no_name = (1, plain, refl)
plain_count (text.ObjectIdentifier word) limits no_name = (1, plain, refl)
plain_count (text.Any x) limits no_name = (1, plain, refl)
plain_count (text.Named x) limits no_name = absurd (subst IsNoName (named_is x limits) no_name)

-- ---- a type with another beneath it

more_count : (n k result : ℕ) → k ≡ min n 18446744073709551615 → result ≡ min (k + 1) (2 ^ 64 - 1) →
    result ≡ min (1 + n) 18446744073709551615
more_count n k result e f = omega (arith, e, f)

pub tagged_count : {ms : List ModuleTerm} {m : ℕ} (tag : TagTerm) (mode : Option Token) (of : TypeTerm)
    (k result : ℕ) → HasCount ms m of k → result ≡ min (k + 1) (2 ^ 64 - 1) → HasCount ms m (Under tag mode of) result
tagged_count tag mode of k result count e = (1 + count.0, tagged count.1, more_count count.0 k result count.2 e)

pub repeated_count : {ms : List ModuleTerm} {m : ℕ} (word : Token) (size : Option (List RangeTerm)) (of : TypeTerm)
    (k result : ℕ) → HasCount ms m of k → result ≡ min (k + 1) (2 ^ 64 - 1) →
    HasCount ms m (Repeated word size of) result
repeated_count word size of k result count e = (1 + count.0, repeated count.1, more_count count.0 k result count.2 e)

-- ---- members

-- one more than the nodes of members
abbrev pub HasSum : List ModuleTerm → ℕ → List MemberRow → ℕ → Type 0
HasSum ms m rows sum = (n : ℕ) × HaveNodes ms m (members rows) n × (sum ≡ min (1 + n) 18446744073709551615)

pub no_sum : {ms : List ModuleTerm} {m : ℕ} → HasSum ms m [] 1
no_sum = (0, no_members, refl)

have_more : {ms : List ModuleTerm} {m : ℕ} (rows : List MemberRow) (x : MemberRow) (n k : ℕ) →
    HaveNodes ms m (members rows) n → HasNodes ms m x.of k → HaveNodes ms m (members (rows ++ x ∷ [])) (n + k)
have_more {ms = ms} {m = m} [] x n k no_members h =
    subst (λ j. HaveNodes ms m (members (x ∷ [])) j) (omega arith) (member h no_members)
have_more {ms = ms} {m = m} (y ∷ ys) x n k (member {n = a} {k = b} g others) h =
    subst (λ j. HaveNodes ms m (members ((y ∷ ys) ++ x ∷ [])) j) (omega arith)
    (member g (have_more ys x b k others h))

sum_is : (n k sum count result : ℕ) → sum ≡ min (1 + n) 18446744073709551615 → count ≡ min k 18446744073709551615 →
    result ≡ min (sum + count) (2 ^ 64 - 1) → result ≡ min (1 + (n + k)) 18446744073709551615
sum_is n k sum count result e f g = omega (arith, e, f, g)

pub more_sum : {ms : List ModuleTerm} {m : ℕ} (rows : List MemberRow) (x : MemberRow) (sum count result : ℕ) →
    HasSum ms m rows sum → HasCount ms m x.of count → result ≡ min (sum + count) (2 ^ 64 - 1) →
    HasSum ms m (rows ++ x ∷ []) result
more_sum rows x sum count result s c e = (
  s.0 + c.0,
  have_more rows x s.0 c.0 s.1 c.1,
  sum_is s.0 c.0 sum count result s.2 c.2 e,
)

pub structure_count : {ms : List ModuleTerm} {m : ℕ} (word : Token) (rows : List MemberRow) (limits : List LimitTerm)
    (sum : ℕ) → HasSum ms m rows sum → HasCount ms m (Structure word (members rows) limits) sum
structure_count word rows limits sum s = (1 + s.0, structure s.1, s.2)

pub choice_count : {ms : List ModuleTerm} {m : ℕ} (word : Token) (rows : List MemberRow) (limits : List LimitTerm)
    (sum : ℕ) → HasSum ms m rows sum → HasCount ms m (Alternatives word (members rows) limits) sum
choice_count word rows limits sum s = (1 + s.0, alternatives s.1, s.2)

-- one more of a list
pub sum_step : {X : Type 0} {ms : List ModuleTerm} {m : ℕ} (f : X → MemberRow) (xs : List X) (i : ℕ) (x : X)
    (sum count result : ℕ) → i < length xs → x ≡ get_or xs i x → HasSum ms m (map f (take i xs)) sum →
    HasCount ms m (f x).of count → result ≡ min (sum + count) (2 ^ 64 - 1) →
    HasSum ms m (map f (take (i + 1) xs)) result
sum_step {ms = ms} {m = m} f xs i x sum count result within is s c e =
    subst (λ rows. HasSum ms m rows result) (sym (map_more f xs i x within is))
    (more_sum (map f (take i xs)) (f x) sum count result s c e)

pub sum_end : {X : Type 0} {ms : List ModuleTerm} {m : ℕ} (f : X → MemberRow) (xs : List X) (i sum : ℕ) →
    length xs ≤ i → HasSum ms m (map f (take i xs)) sum → HasSum ms m (map f xs) sum
sum_end {ms = ms} {m = m} f xs i sum past =
    subst (λ (ys : List _). HasSum ms m (map f ys) sum) (take_all i xs past)
