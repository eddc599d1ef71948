-- SaidLaws: what is found of a number or a bound that is said is it (X.680, sections 19 to 22 and 51).
use Rattle.std.proofs.Common.{◌≡◌, ◌<◌, ◌+◌, ℕ, zero, suc, ℤ, List, [], ◌∷◌, ◌++◌, Option, None, Some, arith, sym}
use Rattle.std.proofs.Common.{get_or, length, map, take, ap, ◌∙◌}
use Rattle.std.proofs.Math.Path.{subst}
use Rattle.std.specs.Borrow.{Bor}
use Rattle.std.specs.Prelude.{option_map, unwrap_or}
use Rattle.std.specs.declared.alloc.Global.{Global}
use Rattle.std.specs.declared.vec.Vec.{Vec}
use Rattle.indexmap.specs.IndexMap.{IndexMap}
use Rattle.asn1_values_syntax.specs.declared.constraint.Range.{Range}
use Rattle.asn1_values_syntax.specs.declared.numbers.Bound.{Bound}
use Rattle.token_grammar.specs.declared.token.Token.{Token}
use Rattle.asn1_names.specs.declared.numbers.Base.{Base as CodeBase}
use Rattle.asn1_names.specs.declared.numbers.Base.TheVariants as code
use Rattle.asn1_names.specs.declared.numbers.NumberFound.{NumberFound}
use Rattle.asn1_names.specs.declared.numbers.NumberFound.TheVariants as answer
use Rattle.asn1_names.proofs.NumberLaws.{map_more}
use Rattle.asn1_names.specs.Constraining.{AreRanges}
use Rattle.asn1_names.specs.Constraining.AreRanges.{no_more as no_ranges, another as another_range}
use Rattle.asn1_names.specs.DenotedSyntax.{AreNamed}
use Rattle.asn1_names.specs.DenotedSyntax.AreNamed.{no_more as no_names, another as another_name}
use Rattle.asn1_names.specs.ModuleFaults.{IsNoValue}
use Rattle.asn1_names.specs.ModuleTerms.{NumberTerm, NamedNumberTerm, RangeTerm, TypeTerm, ModuleTerm}
use Rattle.asn1_names.specs.ModuleTerms.NumberTerm.{Digits, Called}
use Rattle.asn1_names.specs.NumbersFound.{FindsBase, FindsBound, FindsNumber, IsOwn}
use Rattle.asn1_names.specs.NumbersFound.{IsUnknown, StatesNumbers, TellsNames}
use Rattle.asn1_names.specs.NumbersFound.{beneath_tags}
use Rattle.asn1_names.specs.SaidNumbers.{AllSayBounds, AllSayNumbers, RangeIsSaid, SaysBound, SaysNumber}
use Rattle.asn1_names.specs.SaidNumbers.{number_or_zero}
use Rattle.asn1_names.specs.TermViews.{bound_term, listed_terms, range_term}
use Rattle.asn1_names.specs.TypeBase.{Base, HasBase}
use Rattle.asn1_names.specs.WholeNumbers.{IsBound, IsNumber, IsRange, NamesNumber}
use Rattle.asn1_names.specs.WholeNumbers.IsBound.{named_number, value as bound_value}
use Rattle.asn1_names.specs.WholeNumbers.IsNumber.{value, named_value}

-- ---- a number

unknown_is_none : (ms : List ModuleTerm) (m : ℕ) (number : NumberTerm) → IsUnknown ms m number → (n : ℤ) →
    ¬ IsNumber ms m number n
unknown_is_none ms m (Digits minus token) unknown n = λ is. unknown
unknown_is_none ms m (Called name) unknown n = λ is. by name unknown is
  where
    by : (name : Token) → IsUnknown ms m (Called name) → IsNumber ms m (Called name) n → ⊥
    by name unknown (value e h) = subst IsNoValue e unknown
    by name unknown (named_value e h i) = subst IsNoValue e unknown

pub number_said : (ms : List ModuleTerm) (m : ℕ) (number : NumberTerm) (found : NumberFound) →
    FindsNumber ms m number found → SaysNumber ms m number → IsNumber ms m number (number_or_zero found)
number_said ms m number (answer.Number n) told says = told
number_said ms m number answer.NotNumber told says = absurd (says told.1)
number_said ms m number answer.Unknown told says = absurd (says (unknown_is_none ms m number told))

-- ---- a bound

unknown_bound : (ms : List ModuleTerm) (m : ℕ) (of : TypeTerm) (name : Token) → ¬ NamesNumber ms m of name →
    IsUnknown ms m (Called name) → (n : ℤ) → IsBound ms m of (Called name) n → ⊥
unknown_bound ms m of name none unknown n (named_number has is) = none (record {
  written_in = _;
  number = _;
  has = has;
})
unknown_bound ms m of name none unknown n (bound_value other is) = unknown_is_none ms m (Called name) unknown n is

pub bound_said : (ms : List ModuleTerm) (m : ℕ) (of : TypeTerm) (bound : NumberTerm) (found : NumberFound) →
    FindsBound ms m of bound found → SaysBound ms m of bound → IsBound ms m of bound (number_or_zero found)
bound_said ms m of bound (answer.Number n) told says = told
bound_said ms m of bound answer.NotNumber told says = absurd (says told.1)
bound_said ms m of (Digits minus token) answer.Unknown told says = absurd told
bound_said ms m of (Called name) answer.Unknown told says = absurd (says (unknown_bound ms m of name told.0 told.1))

-- ---- one more range, and one more named number

pub ranges_more : {ms : List ModuleTerm} {m : ℕ} {of : TypeTerm} {xs : List RangeTerm} {ps : List (ℤ × ℤ)}
    {x : RangeTerm} {p : ℤ × ℤ} → AreRanges ms m of xs ps → IsRange ms m of x p →
    AreRanges ms m of (xs ++ x ∷ []) (ps ++ p ∷ [])
ranges_more no_ranges is = another_range is no_ranges
ranges_more (another_range one rest) is = another_range one (ranges_more rest is)

pub names_more : {ms : List ModuleTerm} {m : ℕ} {xs : List NamedNumberTerm} {names : List (List ℕ × ℤ)}
    (x : NamedNumberTerm) {n : ℤ} → AreNamed ms m xs names → IsNumber ms m x.number n →
    AreNamed ms m (xs ++ x ∷ []) (names ++ (x.name.text, n) ∷ [])
names_more x no_names is = another_name is no_names
names_more x (another_name one rest) is = another_name one (names_more x rest is)

pub bounds_at : {X : Type 0} (ms : List ModuleTerm) (m : ℕ) (of : TypeTerm) (f : X → RangeTerm) (xs : List X) (i : ℕ)
    (x : X) → i < length xs → x ≡ get_or xs i x → AllSayBounds ms m of (map f xs) →
    SaysBound ms m of (f x).lower × SaysBound ms m of (unwrap_or (f x).upper (f x).lower)
bounds_at ms m of f [] i x within is says = absurd (omega (arith, within))
bounds_at ms m of f (y ∷ ys) zero x within is says =
    subst (λ z. SaysBound ms m of (f z).lower × SaysBound ms m of (unwrap_or (f z).upper (f z).lower)) (sym is)
    (says.0, says.1)
bounds_at ms m of f (y ∷ ys) (suc i) x within is says =
    bounds_at ms m of f ys i x (omega (arith, within)) is says.2

pub number_at : {X : Type 0} (ms : List ModuleTerm) (m : ℕ) (f : X → NamedNumberTerm) (xs : List X) (i : ℕ) (x : X) →
    i < length xs → x ≡ get_or xs i x → AllSayNumbers ms m (map f xs) → SaysNumber ms m (f x).number
number_at ms m f [] i x within is says = absurd (omega (arith, within))
number_at ms m f (y ∷ ys) zero x within is says = subst (λ z. SaysNumber ms m (f z).number) (sym is) says.0
number_at ms m f (y ∷ ys) (suc i) x within is says = number_at ms m f ys i x (omega (arith, within)) is says.1

-- ---- a range of one bound or of two

pub range_of_two : (ms : List ModuleTerm) (m : ℕ) (of : TypeTerm) (range : Range) (upper : Bound) (one other : ℤ) →
    range.upper ≡ Some upper → (SaysBound ms m of (bound_term range.lower) → IsBound ms m of (bound_term range.lower)
    one) →
    (SaysBound ms m of (bound_term upper) → IsBound ms m of (bound_term upper) other) →
    RangeIsSaid ms m of (range_term range) (one, other)
range_of_two ms m of range upper one other is least greatest = λ low high. record {
  least = least low;
  greatest = subst (λ u. IsBound ms m of (unwrap_or (option_map bound_term u) (bound_term range.lower)) other) (sym is)
      (greatest (subst (λ u. SaysBound ms m of (unwrap_or (option_map bound_term u) (bound_term range.lower))) is
      high));
}

pub range_of_one : (ms : List ModuleTerm) (m : ℕ) (of : TypeTerm) (range : Range) (one : ℤ) → range.upper ≡ None →
    (SaysBound ms m of (bound_term range.lower) → IsBound ms m of (bound_term range.lower) one) →
    RangeIsSaid ms m of (range_term range) (one, one)
range_of_one ms m of range one is least = λ low high. record {
  least = least low;
  greatest = subst (λ u. IsBound ms m of (unwrap_or (option_map bound_term u) (bound_term range.lower)) one) (sym is)
      (least low);
}

-- ---- what is told of the base of a type tells its named numbers

no_names_without_base : (ms : List ModuleTerm) (m : ℕ) (of : TypeTerm) → ((b : Base) → ¬ HasBase ms m of b) →
    (name : Token) → ¬ NamesNumber ms m of name
no_names_without_base ms m of none name = λ names. none _ names.has.has

pub names_told : {S : Type 0} (ms : List ModuleTerm) (m : ℕ) (of : TypeTerm) (told : CodeBase)
    (own : IndexMap (Bor (List ℕ)) (Bor Bound) S) → FindsBase ms m of told → IsOwn of told →
    StatesNumbers own (beneath_tags of) → TellsNames ms m of told own
names_told ms m of (code.Written home top None) own found is states =
    (found.0, subst (λ t. StatesNumbers own t) (sym is) states)
names_told ms m of (code.Written home top (Some number)) own found is states = found
names_told ms m of (code.Standing standard) own found is states = found
names_told ms m of code.Nothing own found is states = no_names_without_base ms m of found

pub same_bound : {ms : List ModuleTerm} {m : ℕ} {of : TypeTerm} {bound : NumberTerm} {one other : ℤ} → one ≡ other →
    (SaysBound ms m of bound → IsBound ms m of bound one) → SaysBound ms m of bound → IsBound ms m of bound other
same_bound {ms = ms} {m = m} {of = of} {bound = bound} is told says =
    subst (λ n. IsBound ms m of bound n) is (told says)

-- ---- a step of a loop over ranges, and over named numbers

pub range_step : {X : Type 0} (ms : List ModuleTerm) (m : ℕ) (of : TypeTerm) (f : X → RangeTerm) (xs : List X) (i : ℕ)
    (x : X) (p : ℤ × ℤ) (before after : List (ℤ × ℤ)) → i < length xs → x ≡ get_or xs i x → after ≡ before ++ p ∷ [] →
    RangeIsSaid ms m of (f x) p →
    (AllSayBounds ms m of (map f xs) → AreRanges ms m of (map f (take i xs)) before) →
    AllSayBounds ms m of (map f xs) → AreRanges ms m of (map f (take (i + 1) xs)) after
range_step ms m of f xs i x p before after within is pushed said rest says =
    let at = bounds_at ms m of f xs i x within is says in
    let more : AreRanges ms m of (map f (take i xs) ++ f x ∷ []) (before ++ p ∷ []) =
    ranges_more (rest says) (said at.0 at.1) in
    subst (λ ps. AreRanges ms m of (map f (take (i + 1) xs)) ps) (sym pushed)
    (subst (λ rs. AreRanges ms m of rs (before ++ p ∷ [])) (sym (map_more f xs i x within is)) more)

pub names_step : {X : Type 0} (ms : List ModuleTerm) (m : ℕ) (f : X → NamedNumberTerm) (xs : List X) (i : ℕ) (x : X)
    (name : List ℕ) (n : ℤ) (before after : List (List ℕ × ℤ)) → i < length xs → x ≡ get_or xs i x →
    name ≡ (f x).name.text → after ≡ before ++ (name, n) ∷ [] →
    (SaysNumber ms m (f x).number → IsNumber ms m (f x).number n) →
    (AllSayNumbers ms m (map f xs) → AreNamed ms m (map f (take i xs)) before) →
    AllSayNumbers ms m (map f xs) → AreNamed ms m (map f (take (i + 1) xs)) after
names_step ms m f xs i x name n before after within is called pushed said rest says =
    let more : AreNamed ms m (map f (take i xs) ++ f x ∷ []) (before ++ ((f x).name.text, n) ∷ []) =
    names_more (f x) (rest says) (said (number_at ms m f xs i x within is says)) in
    subst (λ ps. AreNamed ms m (map f (take (i + 1) xs)) ps)
    (sym (pushed ∙ ap (λ t. before ++ (t, n) ∷ []) called))
    (subst (λ rs. AreNamed ms m rs (before ++ ((f x).name.text, n) ∷ [])) (sym (map_more f xs i x within is)) more)

pub said_as : {ms : List ModuleTerm} {m : ℕ} {text number : NumberTerm} {one other : ℤ} → one ≡ other → text ≡ number →
    (SaysNumber ms m text → IsNumber ms m text one) → SaysNumber ms m number → IsNumber ms m number other
said_as {ms = ms} {m = m} {number = number} {one = one} is same told says =
    subst (λ n. IsNumber ms m number n) is (subst (λ t. IsNumber ms m t one) same
    (told (subst (λ t. SaysNumber ms m t) (sym same) says)))

-- ---- the named numbers where no braces stand, and where they are read as a slice

pub none_named : {X : Type 0} (ms : List ModuleTerm) (m : ℕ) (f : X → NamedNumberTerm)
    (named : Option (Vec X Global)) (names : List (List ℕ × ℤ)) → named ≡ None → names ≡ [] →
    AllSayNumbers ms m (listed_terms f named) → AreNamed ms m (listed_terms f named) names
none_named ms m f named names is none says =
    subst (λ n. AreNamed ms m (listed_terms f n) names) (sym is) (subst (λ ns. AreNamed ms m [] ns) (sym none) no_names)

pub slice_named : {X : Type 0} (ms : List ModuleTerm) (m : ℕ) (f : X → NamedNumberTerm) (xs ys : List X)
    (names : List (List ℕ × ℤ)) → xs ≡ ys → (AllSayNumbers ms m (map f xs) → AreNamed ms m (map f xs) names) →
    AllSayNumbers ms m (map f ys) → AreNamed ms m (map f ys) names
slice_named ms m f xs ys names is told =
    subst (λ zs. AllSayNumbers ms m (map f zs) → AreNamed ms m (map f zs) names) is told
