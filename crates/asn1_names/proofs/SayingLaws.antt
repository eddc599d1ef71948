-- SayingLaws: in modules without faults a type's named numbers, bits and bounds say numbers, and its word is one that
-- documents may use (docs/PROFILE.md, section 11).
use Rattle.std.proofs.Common.{◌≡◌, ℕ, suc, List, [], ◌∷◌, Option, None, Some, Contains, refl}
use Rattle.std.proofs.Common.{inl, inr, arith}
use Rattle.std.specs.Prelude.{unwrap_or}
use Rattle.token_grammar.specs.declared.token.Token.{Token}
use Rattle.asn1_names.specs.declared.refusal.UnsupportedKind.TheVariants as unsupported
use Rattle.asn1_names.specs.ModuleTerms.{NumberTerm, NamedNumberTerm, RangeTerm, LimitTerm, PlainTerm, TypeTerm}
use Rattle.asn1_names.specs.ModuleTerms.{ModuleTerm}
use Rattle.asn1_names.specs.ModuleTerms.PlainTerm.{OneWord, IntegerTerm, EnumeratedTerm, BitStringTerm}
use Rattle.asn1_names.specs.ModuleTerms.PlainTerm.{OctetStringTerm, IdentifierTerm, AnyTerm}
use Rattle.asn1_names.specs.ModuleTerms.TypeTerm.{Plain}
use Rattle.asn1_names.specs.Constraining.{limit_ranges}
use Rattle.asn1_names.specs.FirstModuleFault.{AreFaultless}
use Rattle.asn1_names.specs.FirstModuleFault.FaultKind.{NotSupported}
use Rattle.asn1_names.specs.ModuleFaults.UnsupportedAt.{other_word}
use Rattle.asn1_names.specs.Occurrences.{Stands, IsLimitOf}
use Rattle.asn1_names.specs.Occurrences.IsNumberOf.{named_number, item, named_bit}
use Rattle.asn1_names.specs.SaidNumbers.{SaysNumber, SaysBound, AllSayNumbers, AllSayBounds, SaysPlain}
use Rattle.asn1_names.proofs.FaultlessLaws.{says_bound, says_number}

first_of_list : {X : Type 0} (x : X) (xs : List X) → Contains (x ∷ xs) x
first_of_list x xs = (0, omega arith, refl)

further_in : {X : Type 0} (x y : X) (xs : List X) → Contains xs y → Contains (x ∷ xs) y
further_in x y xs (k, within, is) = (suc k, omega arith, is)

all_say : (ms : List ModuleTerm) (m : ℕ) (xs : List NamedNumberTerm) →
    ((x : NamedNumberTerm) → Contains xs x → SaysNumber ms m x.number) → AllSayNumbers ms m xs
all_say ms m [] each = tt
all_say ms m (x ∷ xs) each =
    (each x (first_of_list x xs), all_say ms m xs (λ y there. each y (further_in x y xs there)))

pub plain_says : {ms : List ModuleTerm} {document m : ℕ} {word : Token} (of : PlainTerm) {limits : List LimitTerm} →
    AreFaultless ms → Stands ms document m (Plain word of limits) → SaysPlain ms m word of
plain_says {document = document} {word = word} OneWord sound stands = λ no_word.
    sound (NotSupported unsupported.TypeWord) document word.at (other_word stands no_word refl)
plain_says {ms = ms} {m = m} (IntegerTerm numbers) sound stands =
    all_say ms m numbers (λ x there. says_number x.number sound stands (named_number there refl))
plain_says {ms = ms} {m = m} (EnumeratedTerm items) sound stands =
    all_say ms m items (λ x there. says_number x.number sound stands (item there refl))
plain_says {ms = ms} {m = m} (BitStringTerm bits) sound stands =
    all_say ms m bits (λ x there. says_number x.number sound stands (named_bit there refl))
plain_says OctetStringTerm sound stands = tt
plain_says IdentifierTerm sound stands = tt
plain_says AnyTerm sound stands = tt

upper_says : (ms : List ModuleTerm) (m : ℕ) (of : TypeTerm) (lower : NumberTerm) (upper : Option NumberTerm) →
    SaysBound ms m of lower → ((bound : NumberTerm) → upper ≡ Some bound → SaysBound ms m of bound) →
    SaysBound ms m of (unwrap_or upper lower)
upper_says ms m of lower None own other = own
upper_says ms m of lower (Some bound) own other = other bound refl

all_bounds_say : (ms : List ModuleTerm) (m : ℕ) (of : TypeTerm) (xs : List RangeTerm) →
    ((x : RangeTerm) → Contains xs x → SaysBound ms m of x.lower) →
    ((x : RangeTerm) → Contains xs x → (bound : NumberTerm) → x.upper ≡ Some bound → SaysBound ms m of bound) →
    AllSayBounds ms m of xs
all_bounds_say ms m of [] lower upper = tt
all_bounds_say ms m of (x ∷ xs) lower upper = (
  lower x (first_of_list x xs),
  upper_says ms m of x.lower x.upper (lower x (first_of_list x xs)) (upper x (first_of_list x xs)),
  all_bounds_say ms m of xs (λ y there. lower y (further_in x y xs there))
      (λ y there. upper y (further_in x y xs there)),
)

pub bounds_say : {ms : List ModuleTerm} {document m : ℕ} {of : TypeTerm} (limit : LimitTerm) → AreFaultless ms →
    Stands ms document m of → IsLimitOf limit of → AllSayBounds ms m of (limit_ranges limit)
bounds_say {ms = ms} {m = m} {of = of} limit sound stands is =
    all_bounds_say ms m of (limit_ranges limit)
    (λ x there. says_bound x.lower sound stands
    (record { limit = limit; is_limit = is; range = x; stands = there; is = inl refl }))
    (λ x there bound e. says_bound bound sound stands
    (record { limit = limit; is_limit = is; range = x; stands = there; is = inr e }))
