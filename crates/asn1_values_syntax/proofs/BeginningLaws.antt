-- Where a value begins with a brace an object identifier or parts in braces begin, and the other way round.
use Rattle.std.proofs.Common.{◌≡◌, ℕ, true, false, List, ◌⊎◌, inl, inr, refl, sym, subst, slice_get, codes}
use Rattle.token_grammar.specs.declared.token.Token.{Token}
use Rattle.token_grammar.specs.Form.{Form, Tree, Keep, Then, Or, Many, First, Second, Empty, After}
use Rattle.token_grammar.specs.Spelling as S
use Rattle.token_grammar.specs.Spelling.{At, passes, Spells}
use Rattle.token_grammar.specs.Beginning as B
use Rattle.token_grammar.specs.Beginning.{Begins}
use Rattle.token_grammar.specs.TokenTests.{is_name, is_number, is_sign_of}
use Rattle.token_grammar.specs.Parts.{arc, first_arc, named_number, object_identifier, sign}
use Rattle.token_grammar.proofs.Heads.{begins_first, starts}
use Rattle.token_grammar.proofs.Known.{at_sign, token_of}
use Rattle.token_grammar.proofs.Parts.{at_both}
use Rattle.token_grammar.proofs.Places.{spells_begins}
use Rattle.asn1_values_syntax.specs.Asn1.{asn1}
use Rattle.asn1_values_syntax.specs.ValueForms.{arcs_end, braces, braces_content, is_literal, named_value, parts_end}
use Rattle.asn1_values_syntax.specs.ValueForms.{signed_number, sure_arcs, value_form}
use Rattle.asn1_values_syntax.specs.Readings.{BracesBeginEither, IdentifiersBeginValues, PartsBeginValues}
use Rattle.asn1_values_syntax.specs.Readings.{parts_in_braces}
use Rattle.asn1_values_syntax.proofs.Blind.{repeated, repeated_begins}
use Rattle.asn1_values_syntax.proofs.FirstTokens.{firsts, firsts_lead}
use Rattle.asn1_values_syntax.proofs.ReadingLaws.{of_name, of_number}

abbrev end : Form
end = sign (codes "}")

abbrev Content : List Token → ℕ → ℕ → Type 0
Content tokens i k = Begins tokens asn1 braces_content i k

abbrev others_end : Form
others_end = Then (Many Empty arc) end

-- arcs that can't be parts, and such arcs behind a name
sure : {tokens : List Token} {i k : ℕ} → Begins tokens asn1 arcs_end i k → Content tokens i k
sure b = B.second (B.second (B.first b))

after_name : {tokens : List Token} {i j k : ℕ} {a : Tree} → Spells tokens asn1 (Keep is_name) i j a → Begins tokens
    asn1 arcs_end j k → Content tokens i k
after_name a b = B.second (B.second (B.second (B.rest a b)))

-- arcs behind a first one
number_many : {tokens : List Token} {i j k : ℕ} {a : Tree} → Spells tokens asn1 (Keep is_number) i j a → Begins tokens
    asn1 (Many Empty arc) j k → Begins tokens asn1 arcs_end i k
number_many n B.no_tokens = B.front (B.first (B.front (spells_begins n)))
number_many n (B.one b) = B.front (B.first (B.rest n (B.front b)))
number_many n (B.another a b) = B.front (B.first (B.rest n (B.rest a (repeated_begins Empty b))))

named_many : {tokens : List Token} {i j k : ℕ} {a : Tree} → Spells tokens asn1 named_number i j a → Begins tokens asn1
    (Many Empty arc) j k → Begins tokens asn1 arcs_end i k
named_many m b = B.front (B.second (B.rest m b))

name_alone : {tokens : List Token} {i k : ℕ} {a : Tree} → Spells tokens asn1 (Keep is_name) i k a → Content tokens i k
name_alone a = B.second (B.second (B.second (B.front (spells_begins a))))

name_many : {tokens : List Token} {i j k : ℕ} {a : Tree} → Spells tokens asn1 (Keep is_name) i j a → Begins tokens
    asn1 (Many Empty arc) j k → Content tokens i k
name_many a B.no_tokens = name_alone a
name_many a (B.one B.no_tokens) = name_alone a
name_many a (B.one (B.first n)) = after_name a (B.front (B.first (B.front n)))
name_many a (B.one (B.second m)) = after_name a (B.front (B.second (B.front m)))
name_many a (B.another (S.first n) b) = after_name a (number_many n (repeated_begins Empty b))
name_many a (B.another (S.second m) b) = after_name a (named_many m (repeated_begins Empty b))

-- the brace behind arcs
number_end : {tokens : List Token} {i j m k : ℕ} {a t : Tree} → Spells tokens asn1 (Keep is_number) i j a → Spells
    tokens asn1 (Many Empty arc) j m t → Begins tokens asn1 end m k → Content tokens i k
number_end (S.keep e ok next) S.no_more b = B.second
    (B.first (B.rest (S.last (S.second (of_number (S.keep e ok next)))) b))
number_end n (S.another a r) b = sure (B.rest (S.first (S.both n (S.both a (repeated Empty r).1))) b)

named_end : {tokens : List Token} {i j m k : ℕ} {a t : Tree} → Spells tokens asn1 named_number i j a → Spells tokens
    asn1 (Many Empty arc) j m t → Begins tokens asn1 end m k → Content tokens i k
named_end a others b = sure (B.rest (S.second (S.both a others)) b)

name_number_end : {tokens : List Token} {i j p m k : ℕ} {a c s t : Tree} → Spells tokens asn1 (Keep is_name) i j a →
    Spells tokens asn1 (Keep is_number) j p c → Spells tokens asn1 (Many s arc) p m t → Begins tokens asn1 end m k →
    Content tokens i k
name_number_end a (S.keep e ok next) S.no_more b = B.second
    (B.first (B.rest (S.last (S.first (S.both a (of_number (S.keep e ok next))))) b))
name_number_end a n (S.another c r) b = after_name a
    (B.rest (S.first (S.both n (S.both c (repeated Empty r).1))) b)

name_end : {tokens : List Token} {i j m k : ℕ} {a t : Tree} → Spells tokens asn1 (Keep is_name) i j a → Spells tokens
    asn1 (Many Empty arc) j m t → Begins tokens asn1 end m k → Content tokens i k
name_end (S.keep e ok next) S.no_more b = B.second
    (B.first (B.rest (S.last (S.second (of_name (S.keep e ok next)))) b))
name_end a (S.another (S.first n) r) b = name_number_end a n r b
name_end a (S.another (S.second m) r) b = after_name a (B.rest (S.second (S.both m (repeated Empty r).1)) b)

-- what stands behind the first arc
first_rest : {tokens : List Token} {i j k : ℕ} {a : Tree} → Spells tokens asn1 first_arc i j a → Begins tokens asn1
    others_end j k → Content tokens i k
first_rest (S.first (S.first n)) B.no_tokens = sure (number_many n B.no_tokens)
first_rest (S.first (S.first n)) (B.front b) = sure (number_many n b)
first_rest (S.first (S.first n)) (B.rest others b) = number_end n others b
first_rest (S.first (S.second m)) B.no_tokens = sure (named_many m B.no_tokens)
first_rest (S.first (S.second m)) (B.front b) = sure (named_many m b)
first_rest (S.first (S.second m)) (B.rest others b) = named_end m others b
first_rest (S.second a) B.no_tokens = name_alone a
first_rest (S.second a) (B.front b) = name_many a b
first_rest (S.second a) (B.rest others b) = name_end a others b

first_begins : {tokens : List Token} {i k : ℕ} → Begins tokens asn1 first_arc i k → Content tokens i k
first_begins B.no_tokens = B.no_tokens
first_begins (B.first B.no_tokens) = B.no_tokens
first_begins (B.first (B.first n)) = sure (B.front (B.first (B.front n)))
first_begins (B.first (B.second m)) = sure (B.front (B.second (B.front m)))
first_begins (B.second a) = B.second (B.second (B.second (B.front a)))

arcs_content : {tokens : List Token} {i k : ℕ} → Begins tokens asn1 (Then first_arc others_end) i k → Content tokens i
    k
arcs_content B.no_tokens = B.no_tokens
arcs_content (B.front b) = first_begins b
arcs_content (B.rest s b) = first_rest s b

pub identifiers_begin : IdentifiersBeginValues
identifiers_begin tokens i k B.no_tokens = B.no_tokens
identifiers_begin tokens i k (B.front b) = B.named (B.second (B.second (B.second (B.front b))))
identifiers_begin tokens i k (B.rest s b) = B.named (B.second (B.second (B.second (B.rest s (arcs_content b)))))

parts_content_begins : {tokens : List Token} {i k : ℕ} → Begins tokens asn1 (Or end parts_end) i k → Content tokens i
    k
parts_content_begins B.no_tokens = B.no_tokens
parts_content_begins (B.first b) = B.first b
parts_content_begins (B.second b) = B.second (B.first b)

pub parts_begin_values : PartsBeginValues
parts_begin_values tokens i k B.no_tokens = B.no_tokens
parts_begin_values tokens i k (B.front b) = B.named (B.second (B.second (B.second (B.front b))))
parts_begin_values tokens i k (B.rest s b) = B.named
    (B.second (B.second (B.second (B.rest s (parts_content_begins b)))))

-- the other way round: arcs that can't be parts begin an object identifier, and so they do behind a name
arcs_many : {tokens : List Token} {i k : ℕ} (s : Tree) → Begins tokens asn1 (Then arc (Many Empty arc)) i k → Begins
    tokens asn1 (Many s arc) i k
arcs_many s B.no_tokens = B.no_tokens
arcs_many s (B.front b) = B.one b
arcs_many s (B.rest {a = a} sp b) = B.another sp (repeated_begins (After s a) b)

sure_arcs_begin : {tokens : List Token} {i k : ℕ} → Begins tokens asn1 sure_arcs i k → Begins tokens asn1
    (Then first_arc others_end) i k
sure_arcs_begin B.no_tokens = B.no_tokens
sure_arcs_begin (B.first B.no_tokens) = B.no_tokens
sure_arcs_begin (B.first (B.front n)) = B.front (B.first (B.first n))
sure_arcs_begin (B.first (B.rest n b)) = B.rest (S.first (S.first n)) (B.front (arcs_many Empty b))
sure_arcs_begin (B.second B.no_tokens) = B.no_tokens
sure_arcs_begin (B.second (B.front m)) = B.front (B.first (B.second m))
sure_arcs_begin (B.second (B.rest m b)) = B.rest (S.first (S.second m)) (B.front b)

sure_identifier : {tokens : List Token} {i k : ℕ} → Begins tokens asn1 arcs_end i k → Begins tokens asn1
    (Then first_arc others_end) i k
sure_identifier B.no_tokens = B.no_tokens
sure_identifier (B.front b) = sure_arcs_begin b
sure_identifier (B.rest (S.first (S.both n (S.both {a = a} sp r))) b) = B.rest (S.first (S.first n))
    (B.rest (S.another sp (repeated (After Empty a) r).1) b)
sure_identifier (B.rest (S.second (S.both m r)) b) = B.rest (S.first (S.second m)) (B.rest r b)

sure_others : {tokens : List Token} {i k : ℕ} → Begins tokens asn1 sure_arcs i k → Begins tokens asn1 (Many Empty arc)
    i k
sure_others B.no_tokens = B.no_tokens
sure_others (B.first B.no_tokens) = B.no_tokens
sure_others (B.first (B.front n)) = B.one (B.first n)
sure_others (B.first (B.rest {a = a} n b)) = B.another (S.first n) (arcs_many (After Empty (First a)) b)
sure_others (B.second B.no_tokens) = B.no_tokens
sure_others (B.second (B.front m)) = B.one (B.second m)
sure_others (B.second (B.rest {a = a} m b)) = B.another (S.second m) (repeated_begins (After Empty (Second a)) b)

others_identifier : {tokens : List Token} {i k : ℕ} → Begins tokens asn1 arcs_end i k → Begins tokens asn1 others_end
    i k
others_identifier B.no_tokens = B.no_tokens
others_identifier (B.front b) = B.front (sure_others b)
others_identifier (B.rest (S.first (S.both {a = a} n (S.both {a = c} sp r))) b) = B.rest (S.another (S.first n)
    (S.another sp (repeated (After (After Empty (First a)) c) r).1)) b
others_identifier (B.rest (S.second (S.both {a = a} m r)) b) = B.rest
    (S.another (S.second m) (repeated (After Empty (Second a)) r).1) b

abbrev Either : List Token → ℕ → ℕ → Type 0
Either tokens i k = Begins tokens asn1 object_identifier i k ⊎ Begins tokens asn1 parts_in_braces i k

behind_brace : {tokens : List Token} {i j k : ℕ} {a : Tree} → Spells tokens asn1 (Keep (is_sign_of (codes "{"))) i j
    a → Content tokens j k → Either tokens i k
behind_brace s B.no_tokens = inl (B.rest s B.no_tokens)
behind_brace s (B.first b) = inr (B.rest s (B.first b))
behind_brace s (B.second B.no_tokens) = inl (B.rest s B.no_tokens)
behind_brace s (B.second (B.first b)) = inr (B.rest s (B.second b))
behind_brace s (B.second (B.second B.no_tokens)) = inl (B.rest s B.no_tokens)
behind_brace s (B.second (B.second (B.first b))) = inl (B.rest s (sure_identifier b))
behind_brace s (B.second (B.second (B.second B.no_tokens))) = inl (B.rest s B.no_tokens)
behind_brace s (B.second (B.second (B.second (B.front a)))) = inl (B.rest s (B.front (B.second a)))
behind_brace s (B.second (B.second (B.second (B.rest a b)))) = inl
    (B.rest s (B.rest (S.second a) (others_identifier b)))

in_braces : {tokens : List Token} {i k : ℕ} → Begins tokens asn1 braces i k → Either tokens i k
in_braces B.no_tokens = inl B.no_tokens
in_braces (B.front b) = inl (B.front b)
in_braces (B.rest s b) = behind_brace s b

-- no other value begins with a brace
not_here : {tokens : List Token} {i k : ℕ} (f : Form) → passes (is_sign_of (codes "{")) (slice_get tokens i) ≡ true →
    ((at : ℕ) → starts firsts f (token_of 5 at (codes "{")) ≡ false) → Begins tokens asn1 f i k → Either tokens i k
not_here {tokens} {i} {k} f here never b = go (begins_first firsts firsts_lead b)
  where
    go : (k ≡ i) ⊎ At tokens i (starts firsts f) → Either tokens i k
    go (inl e) = inl (subst (λ (x : ℕ). Begins tokens asn1 object_identifier i x) (sym e) B.no_tokens)
    go (inr now) = absurd (at_both {p = is_sign_of (codes "{")} {q = starts firsts f}
        (at_sign (codes "{") false (starts firsts f) never) (record { passed = here }) now)

value_either : {tokens : List Token} {i k : ℕ} → passes (is_sign_of (codes "{")) (slice_get tokens i) ≡ true → Begins
    tokens asn1 value_form i k → Either tokens i k
value_either here B.no_tokens = inl B.no_tokens
value_either here (B.first b) = not_here (Keep is_literal) here (λ at. refl) b
value_either here (B.second B.no_tokens) = inl B.no_tokens
value_either here (B.second (B.first b)) = not_here signed_number here (λ at. refl) b
value_either here (B.second (B.second B.no_tokens)) = inl B.no_tokens
value_either here (B.second (B.second (B.first b))) = not_here named_value here (λ at. refl) b
value_either here (B.second (B.second (B.second b))) = in_braces b

pub braces_either : BracesBeginEither
braces_either tokens i k here B.no_tokens = inl B.no_tokens
braces_either tokens i k here (B.named b) = value_either here b
