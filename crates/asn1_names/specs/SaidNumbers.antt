-- SaidNumbers: where numbers, tags and bounds stand without a fault, so that one is said (X.680, sections 19 to 22,
-- 31.2 and 51).
use Rattle.std.specs.Prelude.{◌≡◌, ℕ, ℤ, pos, List, [], ◌∷◌, None}
use Rattle.token_grammar.specs.declared.token.Token.{Token}
use Rattle.asn1_names.specs.declared.numbers.NumberFound.{NumberFound}
use Rattle.asn1_names.specs.declared.numbers.NumberFound.TheVariants as answer
use Rattle.asn1_names.specs.ModuleTerms.{NumberTerm, NamedNumberTerm, RangeTerm, PlainTerm, TypeTerm, ModuleTerm}
use Rattle.asn1_names.specs.ModuleTerms.PlainTerm.{OneWord, IntegerTerm, EnumeratedTerm, BitStringTerm}
use Rattle.asn1_names.specs.TypeWords.{one_word_type}
use Rattle.asn1_names.specs.WholeNumbers.{IsNumber, IsBound, IsRange}
use Rattle.std.specs.Prelude.{unwrap_or}

-- the number, or 0 where none was found
abbrev pub number_or_zero : NumberFound → ℤ
number_or_zero (answer.Number n) = n
number_or_zero answer.NotNumber = pos 0
number_or_zero answer.Unknown = pos 0

-- it isn't so that no number is said
abbrev pub SaysNumber : List ModuleTerm → ℕ → NumberTerm → Type 0
SaysNumber ms m number = ¬ ((n : ℤ) → ¬ IsNumber ms m number n)

abbrev pub SaysBound : List ModuleTerm → ℕ → TypeTerm → NumberTerm → Type 0
SaysBound ms m of bound = ¬ ((n : ℤ) → ¬ IsBound ms m of bound n)

-- each of named numbers, or bits, says a number
abbrev pub AllSayNumbers : List ModuleTerm → ℕ → List NamedNumberTerm → Type 0
AllSayNumbers ms m [] = Unit {0}
AllSayNumbers ms m (x ∷ xs) = SaysNumber ms m x.number × AllSayNumbers ms m xs

-- each bound of ranges says a number
abbrev pub AllSayBounds : List ModuleTerm → ℕ → TypeTerm → List RangeTerm → Type 0
AllSayBounds ms m of [] = Unit {0}
AllSayBounds ms m of (x ∷ xs) =
    SaysBound ms m of x.lower × SaysBound ms m of (unwrap_or x.upper x.lower) × AllSayBounds ms m of xs

-- a type that holds no other is one that documents may use, and its named numbers, or bits, say numbers
abbrev pub SaysPlain : List ModuleTerm → ℕ → Token → PlainTerm → Type 0
SaysPlain ms m word OneWord = ¬ (one_word_type word.text ≡ None)
SaysPlain ms m word (IntegerTerm numbers) = AllSayNumbers ms m numbers
SaysPlain ms m word (EnumeratedTerm items) = AllSayNumbers ms m items
SaysPlain ms m word (BitStringTerm bits) = AllSayNumbers ms m bits
SaysPlain ms m word _ = Unit {0}

-- the pair is the range, where both of its bounds say numbers
abbrev pub RangeIsSaid : List ModuleTerm → ℕ → TypeTerm → RangeTerm → ℤ × ℤ → Type 0
RangeIsSaid ms m of range pair = SaysBound ms m of range.lower →
    SaysBound ms m of (unwrap_or range.upper range.lower) → IsRange ms m of range pair
