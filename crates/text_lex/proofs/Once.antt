-- At each place stands one thing: the end, one gap, one token or one fault.
use Rattle.std.proofs.Common.{◌≡◌, ◌≤◌, ℕ, ◌+◌, Bool, true, false, List, ◌∷◌, length, slice_index, slice_range, refl}
use Rattle.std.proofs.Common.{sym, ap, subst, arith, ◌∙◌, ⊎_elim}
use Rattle.std.proofs.lemmas.List.{get_or_past}
use Rattle.text_lex.specs.Octets.{start_of, is_one_of, hyphen_octet, hexadecimal_digits, binary_digits}
use Rattle.text_lex.specs.Octets.{hexadecimal_suffix, binary_suffix}
use Rattle.text_lex.specs.Comments.{AreHyphens, CommentRest}
use Rattle.text_lex.specs.Comments.CommentRest.{hyphens, line_end, text_end, octet}
use Rattle.text_lex.specs.Lexemes.{IsQuotedRun, Spells}
use Rattle.text_lex.specs.Lexemes.Spells.{word, number, string, hexadecimal, binary, sign}
use Rattle.text_lex.specs.Pieces.{IsGap, IsLexeme}
use Rattle.text_lex.specs.Pieces.IsGap.{blank, comment}
use Rattle.text_lex.specs.Lexed.{announces, IsToken, Lexed, Breaks}
use Rattle.text_lex.specs.Lexed.Lexed.{ended, gap, token}
use Rattle.text_lex.specs.Lexed.Breaks.{here, gap as past_gap, token as past_token}
use Rattle.token_grammar.specs.declared.token.Token.{Token}
use Rattle.text_lex.specs.declared.lex_refusal.LexKind.{LexKind}
use Rattle.text_lex.specs.declared.lexing_octets.Start.TheVariants.{Blank, Sign, Nothing}
use Rattle.text_lex.proofs.Pieces.{spelt_word, spelt_number, spelt_string, spelt_bits, spelt_sign, spelt_nothing}
use Rattle.text_lex.proofs.Pieces.{spelt_blank, bits_run}

hyphen_is_sign : (announced : Bool) → start_of announced hyphen_octet ≡ Sign
unfolding start_of is_one_of
hyphen_is_sign true = refl
hyphen_is_sign false = refl

end_is_nothing : (announced : Bool) → start_of announced 0 ≡ Nothing
unfolding start_of is_one_of
end_is_nothing true = refl
end_is_nothing false = refl

hyphens_are_no_blank : (text : List ℕ) (announced : Bool) (i : ℕ) → AreHyphens text i
    → start_of announced (slice_index text i) ≡ Blank → ⊥
hyphens_are_no_blank text announced i are_hyphens is_blank =
    let is_sign = ap (start_of announced) are_hyphens.0 ∙ hyphen_is_sign announced in cc

pub past_is_nothing : (text : List ℕ) (announced : Bool) (i : ℕ) → length text ≤ i
    → start_of announced (slice_index text i) ≡ Nothing
past_is_nothing text announced i past = ap (start_of announced) (get_or_past text i 0 past) ∙ end_is_nothing announced

comment_once : (text : List ℕ) (i j k : ℕ) → CommentRest text i j → CommentRest text i k → j ≡ k
comment_once text i j k (hyphens are j_is) (hyphens _ k_is) = j_is ∙ sym k_is
comment_once text i j k (hyphens are j_is) (line_end is_line k_is) = absurd (let h = are.0 in omega arith)
comment_once text i j k (hyphens are j_is) (text_end past k_is) =
    absurd (let h = are.0 in let zero : slice_index text i ≡ 0 = get_or_past text i 0 (omega arith) in omega arith)
comment_once text i j k (hyphens are j_is) (octet _ others _ _) = absurd (others are)
comment_once text i j k (line_end is_line j_is) (hyphens are k_is) = absurd (let h = are.0 in omega arith)
comment_once text i j k (line_end is_line j_is) (line_end _ k_is) = j_is ∙ sym k_is
comment_once text i j k (line_end is_line j_is) (text_end past k_is) = j_is ∙ sym k_is
comment_once text i j k (line_end is_line j_is) (octet _ _ other _) = absurd (other is_line)
comment_once text i j k (text_end past j_is) (hyphens are k_is) =
    absurd (let h = are.0 in let zero : slice_index text i ≡ 0 = get_or_past text i 0 (omega arith) in omega arith)
comment_once text i j k (text_end past j_is) (line_end _ k_is) = j_is ∙ sym k_is
comment_once text i j k (text_end past j_is) (text_end _ k_is) = j_is ∙ sym k_is
comment_once text i j k (text_end past j_is) (octet within _ _ _) = absurd (omega arith)
comment_once text i j k (octet within others other rest) (hyphens are k_is) = absurd (others are)
comment_once text i j k (octet within others other rest) (line_end is_line k_is) = absurd (other is_line)
comment_once text i j k (octet within others other rest) (text_end past k_is) = absurd (omega arith)
comment_once text i j k (octet within others other rest) (octet _ _ _ again) = comment_once text (i + 1) j k rest again

gap_once : (text : List ℕ) (announced : Bool) (i j k : ℕ) → IsGap text announced i j → IsGap text announced i k → j ≡ k
gap_once text announced i j k (blank _ j_is) (blank _ k_is) = j_is ∙ sym k_is
gap_once text announced i j k (blank is_blank j_is) (comment are _) =
    absurd (hyphens_are_no_blank text announced i are is_blank)
gap_once text announced i j k (comment are _) (blank is_blank k_is) =
    absurd (hyphens_are_no_blank text announced i are is_blank)
gap_once text announced i j k (comment _ rest) (comment _ again) = comment_once text (i + 2) j k rest again

-- a run in apostrophes has one suffix
suffix_once : (text : List ℕ) (i k m : ℕ) → IsQuotedRun hexadecimal_digits text hexadecimal_suffix i k
    → IsQuotedRun binary_digits text binary_suffix i m → ⊥
suffix_once text i k m hex bits =
    let same = bits_run text (i + 1) bits.stop hex.stop bits.run bits.apostrophe hex.run in
    let suffix = ap (λ n. slice_index text (n + 1)) same in
    let h = hex.suffixed in let b = bits.suffixed in omega arith

kind_once : (text : List ℕ) (announced : Bool) (kind other i k m : ℕ) → Spells text announced kind i k
    → Spells text announced other i m → kind ≡ other
kind_once text announced kind other i k m (word is begins _) second =
    is ∙ sym (spelt_word text announced other i m begins second).0
kind_once text announced kind other i k m (number is begins _ _) second =
    is ∙ sym (spelt_number text announced other i m begins second).0
kind_once text announced kind other i k m (string is begins _) second =
    is ∙ sym (spelt_string text announced other i m begins second).0
kind_once text announced kind other i k m (hexadecimal is begins run) second =
    ⊎_elim (λ hex. is ∙ sym hex.0) (λ bits. absurd (suffix_once text i k m run bits.1))
    (spelt_bits text announced other i m begins second)
kind_once text announced kind other i k m (binary is begins run) second =
    ⊎_elim (λ hex. absurd (suffix_once text i m k hex.1 run)) (λ bits. is ∙ sym bits.0)
    (spelt_bits text announced other i m begins second)
kind_once text announced kind other i k m (sign is begins _) second =
    is ∙ sym (spelt_sign text announced other i m begins second).0

lexeme_end : (text : List ℕ) (announced : Bool) (kind other i k m : ℕ) → IsLexeme text announced kind i k
    → IsLexeme text announced other i m → k ≡ m
lexeme_end text announced kind other i k m first second =
    let down = second.longest kind k first.spelt in
    let up = first.longest other m second.spelt in
    omega arith

token_end : (text : List ℕ) (announced : Bool) (i k m : ℕ) (first second : Token) → IsToken text announced i k first
    → IsToken text announced i m second → k ≡ m
token_end text announced i k m first second one two =
    lexeme_end text announced first.kind second.kind i k m one.lexeme two.lexeme

token_once : (text : List ℕ) (announced : Bool) (i k m : ℕ) (first second : Token) → IsToken text announced i k first
    → IsToken text announced i m second → first ≡ second
token_once text announced i k m first second one two =
    let kinds = kind_once text announced first.kind second.kind i k m one.lexeme.spelt two.lexeme.spelt in
    let places = one.placed ∙ sym two.placed in
    let slices = one.slice ∙ ap (slice_range text i) (token_end text announced i k m first second one two)
    ∙ sym two.slice in
    λ x. record { kind = kinds x; at = places x; text = slices x }

-- a gap is no token
no_token : (text : List ℕ) (announced : Bool) (i k m : ℕ) (first : Token) → IsGap text announced i k
    → IsToken text announced i m first → ⊥
no_token text announced i k m first (blank is_blank _) one =
    spelt_blank text announced first.kind i m is_blank one.lexeme.spelt
no_token text announced i k m first (comment are _) one = one.lexeme.no_comment are

-- behind the end stands nothing
end_no_gap : (text : List ℕ) (announced : Bool) (i k : ℕ) → i ≡ length text → IsGap text announced i k → ⊥
end_no_gap text announced i k past (blank is_blank _) = let nothing =
    past_is_nothing text announced i (omega arith) in cc
end_no_gap text announced i k past (comment are _) = let h = are.0 in let zero : slice_index text i ≡ 0 =
    get_or_past text i 0 (omega arith) in omega arith

end_no_token : (text : List ℕ) (announced : Bool) (i k : ℕ) (first : Token) → i ≡ length text
    → IsToken text announced i k first → ⊥
end_no_token text announced i k first past one =
    spelt_nothing text announced first.kind i k (past_is_nothing text announced i (omega arith)) one.lexeme.spelt

-- a text has one list of tokens
pub tokens_once : (text : List ℕ) (before : List Token) (i : ℕ) (first second : List Token) → Lexed text before i first
    → Lexed text before i second → first ≡ second
tokens_once text before i _ _ (ended _) (ended _) = refl
tokens_once text before i _ _ (ended past) (gap {k = k} g _) = absurd (end_no_gap text (announces before) i k past g)
tokens_once text before i _ _ (ended past) (token {k = k} {first = t} one _) =
    absurd (end_no_token text (announces before) i k t past one)
tokens_once text before i _ _ (gap {k = k} g _) (ended past) = absurd (end_no_gap text (announces before) i k past g)
tokens_once text before i first second (gap {k = k} g rest) (gap {k = m} h again) =
    tokens_once text before k first second rest
    (subst (λ n. Lexed text before n second) (gap_once text (announces before) i m k h g) again)
tokens_once text before i _ _ (gap {k = k} g _) (token {k = m} {first = t} one _) =
    absurd (no_token text (announces before) i k m t g one)
tokens_once text before i _ _ (token {k = k} {first = t} one _) (ended past) =
    absurd (end_no_token text (announces before) i k t past one)
tokens_once text before i _ _ (token {k = k} {first = t} one _) (gap {k = m} g _) =
    absurd (no_token text (announces before) i m k t g one)
tokens_once text before i _ _ (token {k = k} {first = t} {tokens = ts} one rest)
    (token {k = m} {first = u} {tokens = us} two again) =
    let same_end = token_end text (announces before) i m k u t two one in
    let same = token_once text (announces before) i k m t u one two in
    let there = subst (λ n. Lexed text (t ∷ before) n us) same_end
    (subst (λ v. Lexed text (v ∷ before) m us) (sym same) again) in
    let others = tokens_once text (t ∷ before) k ts us rest there in
    cc

-- a text that has tokens has no fault
pub tokens_or_fault : (text : List ℕ) (before : List Token) (i place : ℕ) (kind : LexKind) (tokens : List Token)
    → Lexed text before i tokens → Breaks text before i place kind → ⊥
tokens_or_fault text before i place kind _ (ended past) (here _ fault) = let w = fault.within in omega arith
tokens_or_fault text before i place kind _ (ended past) (past_gap {k = k} g _) =
    end_no_gap text (announces before) i k past g
tokens_or_fault text before i place kind _ (ended past) (past_token {k = k} {first = t} one _) =
    end_no_token text (announces before) i k t past one
tokens_or_fault text before i place kind _ (gap {k = k} g _) (here _ fault) = fault.no_gap k g
tokens_or_fault text before i place kind tokens (gap {k = k} g rest) (past_gap {k = m} h again) =
    tokens_or_fault text before k place kind tokens rest
    (subst (λ n. Breaks text before n place kind) (gap_once text (announces before) i m k h g) again)
tokens_or_fault text before i place kind _ (gap {k = k} g _) (past_token {k = m} {first = t} one _) =
    no_token text (announces before) i k m t g one
tokens_or_fault text before i place kind _ (token {k = k} {first = t} one _) (here _ fault) =
    fault.no_token t.kind k one.lexeme.spelt
tokens_or_fault text before i place kind _ (token {k = k} {first = t} one _) (past_gap {k = m} g _) =
    no_token text (announces before) i m k t g one
tokens_or_fault text before i place kind _ (token {k = k} {first = t} {tokens = ts} one rest)
    (past_token {k = m} {first = u} two again) =
    let same_end = token_end text (announces before) i m k u t two one in
    let same = token_once text (announces before) i k m t u one two in
    tokens_or_fault text (t ∷ before) k place kind ts rest
    (subst (λ n. Breaks text (t ∷ before) n place kind) same_end
    (subst (λ v. Breaks text (v ∷ before) m place kind) (sym same) again))

-- a text has one first fault
pub fault_once : (text : List ℕ) (before : List Token) (i place other : ℕ) (kind another : LexKind)
    → Breaks text before i place kind → Breaks text before i other another → (place ≡ other) × (kind ≡ another)
fault_once text before i place other kind another (here at fault) (here too second) =
    (at ∙ sym too, fault.kind_is ∙ sym second.kind_is)
fault_once text before i place other kind another (here _ fault) (past_gap {k = k} g _) = absurd (fault.no_gap k g)
fault_once text before i place other kind another (here _ fault) (past_token {k = k} {first = t} one _) =
    absurd (fault.no_token t.kind k one.lexeme.spelt)
fault_once text before i place other kind another (past_gap {k = k} g _) (here _ fault) = absurd (fault.no_gap k g)
fault_once text before i place other kind another (past_gap {k = k} g rest) (past_gap {k = m} h again) =
    fault_once text before k place other kind another rest
    (subst (λ n. Breaks text before n other another) (gap_once text (announces before) i m k h g) again)
fault_once text before i place other kind another (past_gap {k = k} g _) (past_token {k = m} {first = t} one _) =
    absurd (no_token text (announces before) i k m t g one)
fault_once text before i place other kind another (past_token {k = k} {first = t} one _) (here _ fault) =
    absurd (fault.no_token t.kind k one.lexeme.spelt)
fault_once text before i place other kind another (past_token {k = k} {first = t} one _) (past_gap {k = m} g _) =
    absurd (no_token text (announces before) i m k t g one)
fault_once text before i place other kind another (past_token {k = k} {first = t} one rest)
    (past_token {k = m} {first = u} two again) =
    let same_end = token_end text (announces before) i m k u t two one in
    let same = token_once text (announces before) i k m t u one two in
    fault_once text (t ∷ before) k place other kind another rest
    (subst (λ n. Breaks text (t ∷ before) n other another) same_end
    (subst (λ v. Breaks text (v ∷ before) m other another) (sym same) again))
