-- Each line of a journal ends at its own line feed and tells its entry, so different journals have different texts.
use Rattle.std.proofs.Common.{◌≡◌, ℕ, suc, ◌<◌, ◌/◌, ◌%◌, Bool, true, false, List, [], ◌∷◌, ◌++◌, get_or, drop}
use Rattle.std.proofs.Common.{slice_index, Option, Some, None, refl, sym, ap, ◌∙◌, append_assoc, arith}
use Rattle.std.specs.Prelude.{◌==◌, ◌&&◌, codes, decimal, nat_lt, nat_le, if◌then◌else◌}
use Rattle.std.specs.List.{All}
use Rattle.std.specs.Option.{option_map_or}
use Rattle.std.specs.Result.{result_unwrap_or}
use Rattle.std.specs.Str.Parse.{AllDigits, digits_value}
use Rattle.std.proofs.lemmas.Bool.{and_from, and_parts, lt-ltb, ltb-true, leb-true}
use Rattle.std.proofs.lemmas.Fmt.{decimal_is_IsNumeral}
use Rattle.std.proofs.lemmas.List.Elements.{All-head, All-tail}
use Rattle.std.proofs.lemmas.Str.Parse.{digit_at}
use Rattle.hex.specs.Hex.{IsBytes, decode_of, encode_upper, encode_with, hex_digit_value, upper_digits}
use Rattle.hex.proofs.HexLemmas.{IsDigits-upper_digits, decode_of-encode_upper}
use Rattle.agent_model.specs.declared.entry.Entry.{Entry}
use Rattle.agent_model.specs.declared.entry.Entry.TheVariants as entry
use Rattle.agent_model.specs.declared.entry.Why.{Why}
use Rattle.agent_model.specs.declared.entry.Why.TheVariants as why
use Rattle.term_model.specs.LineTexts.{line_feed, one_word, two_words}
use Rattle.agent_model.specs.Texts.{cause_text, journal_text, line}
use Rattle.term_model.specs.declared.name.Rdn.{Rdn}
use Rattle.agent_model.specs.LogNames.{log_in, log_octets}
use Rattle.agent_model.specs.TextLaws.{IsCause, IsEntry, IsLog, IsNumber}

-- all codes lie above a limit, or the first one does not
abbrev is_above : ℕ → List ℕ → Bool
is_above limit [] = true
is_above limit (c ∷ cs) = nat_lt limit c && is_above limit cs

abbrev is_stop : ℕ → List ℕ → Bool
is_stop limit [] = false
is_stop limit (c ∷ cs) = nat_le c limit

-- codes above a limit end at the first one that is not
one_end : (limit : ℕ) (a b p q : List ℕ) → is_above limit a ≡ true → is_above limit b ≡ true → is_stop limit p ≡ true
    → is_stop limit q ≡ true → a ++ p ≡ b ++ q → (a ≡ b) × (p ≡ q)
one_end limit [] [] p q ha hb hp hq e = (refl, e)
one_end limit [] (d ∷ b) p q ha hb hp hq e =
    let below = leb-true d limit (sym (ap (is_stop limit) e) ∙ hp) in
    let above = ltb-true limit d (and_parts (nat_lt limit d) (is_above limit b) hb).0 in
    absurd (omega arith)
one_end limit (c ∷ a) [] p q ha hb hp hq e =
    let below = leb-true c limit (ap (is_stop limit) e ∙ hq) in
    let above = ltb-true limit c (and_parts (nat_lt limit c) (is_above limit a) ha).0 in
    absurd (omega arith)
one_end limit (c ∷ a) (d ∷ b) p q ha hb hp hq e =
    let head : c ≡ d = ap (λ l. get_or l 0 0) e in
    let more = one_end limit a b p q (and_parts (nat_lt limit c) (is_above limit a) ha).1
    (and_parts (nat_lt limit d) (is_above limit b) hb).1 hp hq (ap (λ l. drop 1 l) e) in
    (cc, more.1)

-- the digits of numbers and of octets
digits_above : (limit : ℕ) (ds : List ℕ) → limit < 48 → AllDigits 10 ds → is_above limit ds ≡ true
digits_above limit [] low all = refl
digits_above limit (d ∷ ds) low all =
    let range = digit_at (d ∷ ds) 0 all (omega arith) in
    and_from (nat_lt limit d) (is_above limit ds) (lt-ltb limit d (omega arith)) (digits_above limit ds low all.1)

decimal_above : (limit number : ℕ) → limit < 48 → IsNumber number → is_above limit (decimal number) ≡ true
decimal_above limit number low is = digits_above limit (decimal number) low (decimal_is_IsNumeral number is).0.1

decimal_read : (number : ℕ) → IsNumber number → digits_value 10 (decimal number) ≡ number
decimal_read number is = (decimal_is_IsNumeral number is).1

hex_digit_above : (c d : ℕ) → hex_digit_value c ≡ Some d → 47 < c
hex_digit_above c d e = grind arith

upper_above : (limit d : ℕ) → limit < 48 → d < 16 → nat_lt limit (slice_index upper_digits d) ≡ true
upper_above limit d low small =
    let above = hex_digit_above (slice_index upper_digits d) d (IsDigits-upper_digits d small) in
    lt-ltb limit (slice_index upper_digits d) (omega arith)

octets_above : (limit : ℕ) (octets : List ℕ) → limit < 48 → IsBytes octets → is_above limit (encode_upper octets) ≡ true
unfolding encode_with
octets_above limit [] low all = refl
octets_above limit (octet ∷ octets) low all =
    let small : octet < 256 = all 0 in
    and_from _ _ (upper_above limit (octet / 16) low (omega arith))
    (and_from _ _ (upper_above limit (octet % 16) low (omega arith)) (octets_above limit octets low (λ k. all (suc k))))

octets_read : (octets : List ℕ) → IsBytes octets → result_unwrap_or (decode_of (encode_upper octets)) [] ≡ octets
octets_read octets all = ap (λ r. result_unwrap_or r []) (decode_of-encode_upper octets all)

-- a line is a word, a number, and the text that follows the number, where one does
abbrev word : Entry → List ℕ
word (entry.Opened number bind) = codes "opened"
word (entry.Arrived number apdu) = codes "arrived"
word (entry.Begun number log) = codes "begun"
word (entry.Granted number moment) = codes "granted"
word (entry.Committed number) = codes "committed"
word (entry.Starved number) = codes "starved"
word (entry.Taken number count) = codes "taken"
word (entry.Finished number) = codes "finished"
word (entry.Closed number cause) = codes "closed"

abbrev number_of : Entry → ℕ
number_of (entry.Opened number bind) = number
number_of (entry.Arrived number apdu) = number
number_of (entry.Begun number log) = number
number_of (entry.Granted number moment) = number
number_of (entry.Committed number) = number
number_of (entry.Starved number) = number
number_of (entry.Taken number count) = number
number_of (entry.Finished number) = number
number_of (entry.Closed number cause) = number

abbrev text_of : Entry → Option (List ℕ)
text_of (entry.Opened number bind) = Some (encode_upper bind)
text_of (entry.Arrived number apdu) = Some (encode_upper apdu)
text_of (entry.Begun number log) = Some (encode_upper (log_octets log))
text_of (entry.Granted number moment) = Some (decimal moment)
text_of (entry.Committed number) = None
text_of (entry.Starved number) = None
text_of (entry.Taken number count) = Some (decimal count)
text_of (entry.Finished number) = None
text_of (entry.Closed number cause) = Some (cause_text cause)

-- what follows the number, up to the line feed and on
abbrev tail : Option (List ℕ) → List ℕ → List ℕ
tail None r = 10 ∷ r
tail (Some text) r = 32 ∷ (text ++ 10 ∷ r)

two_words_then : (front : List ℕ) (number : ℕ) (text r : List ℕ) → two_words (front ++ codes " ") number text
    ++ r ≡ front ++ 32 ∷ (decimal number ++ tail (Some text) r)
two_words_then front number text r =
    append_assoc (front ++ codes " ") (decimal number ++ (codes " " ++ (text ++ line_feed))) r
    ∙ (append_assoc front (codes " ") ((decimal number ++ (codes " " ++ (text ++ line_feed))) ++ r)
    ∙ ap (λ l. front ++ 32 ∷ l) (append_assoc (decimal number) (codes " " ++ (text ++ line_feed)) r
    ∙ ap (λ l. decimal number ++ 32 ∷ l) (append_assoc text line_feed r)))

one_word_then : (front : List ℕ) (number : ℕ) (r : List ℕ) → one_word (front ++ codes " ") number ++ r ≡ front
    ++ 32 ∷ (decimal number ++ tail None r)
one_word_then front number r =
    append_assoc (front ++ codes " ") (decimal number ++ line_feed) r
    ∙ (append_assoc front (codes " ") ((decimal number ++ line_feed) ++ r)
    ∙ ap (λ l. front ++ 32 ∷ l) (append_assoc (decimal number) line_feed r))

line_then : (e : Entry) (r : List ℕ) → line e ++ r ≡ word e ++ 32 ∷ (decimal (number_of e) ++ tail (text_of e) r)
line_then (entry.Opened number bind) r = two_words_then (codes "opened") number (encode_upper bind) r
line_then (entry.Arrived number apdu) r = two_words_then (codes "arrived") number (encode_upper apdu) r
line_then (entry.Begun number log) r = two_words_then (codes "begun") number (encode_upper (log_octets log)) r
line_then (entry.Granted number moment) r = two_words_then (codes "granted") number (decimal moment) r
line_then (entry.Committed number) r = one_word_then (codes "committed") number r
line_then (entry.Starved number) r = one_word_then (codes "starved") number r
line_then (entry.Taken number count) r = two_words_then (codes "taken") number (decimal count) r
line_then (entry.Finished number) r = one_word_then (codes "finished") number r
line_then (entry.Closed number cause) r = two_words_then (codes "closed") number (cause_text cause) r

-- the entry is read from them: its kind by the third letter of the word, and where two words have the same one by the
-- first; a cause by the first letter of its text
abbrev cause_read : List ℕ → Why
cause_read text =
    if get_or text 0 0 == 101 then why.End
    else if get_or text 0 0 == 98 then why.BadFrame (digits_value 10 (drop 9 text))
    else if get_or text 0 0 == 114 then why.ReadFault
    else if get_or text 0 0 == 119 then why.WriteFault
    else if get_or text 0 0 == 106 then why.JournalFull
    else why.Memory

abbrev name_read : List ℕ → List Rdn
name_read octets = option_map_or (λ (name : List Rdn). name) (log_in octets) []

abbrev entry_of_text : ℕ → ℕ → ℕ → List ℕ → Entry
entry_of_text first letter number text =
    if letter == 101 then entry.Opened number (result_unwrap_or (decode_of text) [])
    else if letter == 114 then entry.Arrived number (result_unwrap_or (decode_of text) [])
    else if letter == 103 then entry.Begun number (name_read (result_unwrap_or (decode_of text) []))
    else if letter == 97 then (if first == 115 then entry.Starved number else entry.Granted number (digits_value 10 text))
    else if letter == 109 then entry.Committed number
    else if letter == 107 then entry.Taken number (digits_value 10 text)
    else if letter == 110 then entry.Finished number
    else entry.Closed number (cause_read text)

abbrev entry_read : List ℕ → ℕ → Option (List ℕ) → Entry
entry_read front number text =
    entry_of_text (get_or front 0 0) (get_or front 2 0) number (option_map_or (λ t. t) text [])

cause_is_read : (cause : Why) → IsCause cause → cause_read (cause_text cause) ≡ cause
cause_is_read why.End is = refl
cause_is_read (why.BadFrame at) is = ap why.BadFrame (decimal_read at is)
cause_is_read why.ReadFault is = refl
cause_is_read why.WriteFault is = refl
cause_is_read why.JournalFull is = refl
cause_is_read why.Memory is = refl

name_is_read : (log : List Rdn) → IsLog log
    → name_read (result_unwrap_or (decode_of (encode_upper (log_octets log))) []) ≡ log
name_is_read log is =
    ap name_read (octets_read (log_octets log) is.0)
    ∙ ap (λ o. option_map_or (λ (name : List Rdn). name) o []) is.1

entry_is_read : (e : Entry) → IsEntry e → entry_read (word e) (number_of e) (text_of e) ≡ e
entry_is_read (entry.Opened number bind) is = ap (entry.Opened number) (octets_read bind is.1)
entry_is_read (entry.Arrived number apdu) is = ap (entry.Arrived number) (octets_read apdu is.1)
entry_is_read (entry.Begun number log) is = ap (entry.Begun number) (name_is_read log is.1)
entry_is_read (entry.Granted number moment) is = ap (entry.Granted number) (decimal_read moment is.1)
entry_is_read (entry.Committed number) is = refl
entry_is_read (entry.Starved number) is = refl
entry_is_read (entry.Taken number count) is = ap (entry.Taken number) (decimal_read count is.1)
entry_is_read (entry.Finished number) is = refl
entry_is_read (entry.Closed number cause) is = ap (entry.Closed number) (cause_is_read cause is.1)

-- the parts have no stop inside
word_above : (e : Entry) → is_above 32 (word e) ≡ true
word_above (entry.Opened number bind) = refl
word_above (entry.Arrived number apdu) = refl
word_above (entry.Begun number log) = refl
word_above (entry.Granted number moment) = refl
word_above (entry.Committed number) = refl
word_above (entry.Starved number) = refl
word_above (entry.Taken number count) = refl
word_above (entry.Finished number) = refl
word_above (entry.Closed number cause) = refl

number_is : (e : Entry) → IsEntry e → IsNumber (number_of e)
number_is (entry.Opened number bind) is = is.0
number_is (entry.Arrived number apdu) is = is.0
number_is (entry.Begun number log) is = is.0
number_is (entry.Granted number moment) is = is.0
number_is (entry.Committed number) is = is
number_is (entry.Starved number) is = is
number_is (entry.Taken number count) is = is.0
number_is (entry.Finished number) is = is
number_is (entry.Closed number cause) is = is.0

cause_above : (cause : Why) → IsCause cause → is_above 10 (cause_text cause) ≡ true
cause_above why.End is = refl
cause_above (why.BadFrame at) is = decimal_above 10 at (omega arith) is
cause_above why.ReadFault is = refl
cause_above why.WriteFault is = refl
cause_above why.JournalFull is = refl
cause_above why.Memory is = refl

abbrev text_above : Option (List ℕ) → Type 0
text_above text = option_map_or (is_above 10) text true ≡ true

text_is_above : (e : Entry) → IsEntry e → text_above (text_of e)
text_is_above (entry.Opened number bind) is = octets_above 10 bind (omega arith) is.1
text_is_above (entry.Arrived number apdu) is = octets_above 10 apdu (omega arith) is.1
text_is_above (entry.Begun number log) is = octets_above 10 (log_octets log) (omega arith) is.1.0
text_is_above (entry.Granted number moment) is = decimal_above 10 moment (omega arith) is.1
text_is_above (entry.Committed number) is = refl
text_is_above (entry.Starved number) is = refl
text_is_above (entry.Taken number count) is = decimal_above 10 count (omega arith) is.1
text_is_above (entry.Finished number) is = refl
text_is_above (entry.Closed number cause) is = cause_above cause is.1

tail_stops : (text : Option (List ℕ)) (r : List ℕ) → is_stop 32 (tail text r) ≡ true
tail_stops None r = refl
tail_stops (Some text) r = refl

-- so each of them is determined
one_tail : (t u : Option (List ℕ)) (r s : List ℕ) → text_above t → text_above u → tail t r ≡ tail u s
    → (t ≡ u) × (r ≡ s)
one_tail None None r s ht hu e = (refl, ap (λ l. drop 1 l) e)
one_tail None (Some u) r s ht hu e = let stop : get_or (10 ∷ r) 0 0 ≡ get_or (32 ∷ s) 0 0 =
    ap (λ l. get_or l 0 0) e in absurd (omega arith)
one_tail (Some t) None r s ht hu e = let stop : get_or (32 ∷ r) 0 0 ≡ get_or (10 ∷ s) 0 0 =
    ap (λ l. get_or l 0 0) e in absurd (omega arith)
one_tail (Some t) (Some u) r s ht hu e =
    let p = one_end 10 t u (10 ∷ r) (10 ∷ s) ht hu refl refl (ap (λ l. drop 1 l) e) in
    (ap Some p.0, ap (λ l. drop 1 l) p.1)

same_parts : (e f : Entry) → IsEntry e → IsEntry f → word e ≡ word f → number_of e ≡ number_of f
    → text_of e ≡ text_of f → e ≡ f
same_parts e f is_e is_f words numbers texts =
    sym (entry_is_read e is_e)
    ∙ (ap (λ w. entry_read w (number_of e) (text_of e)) words
    ∙ (ap (λ n. entry_read (word f) n (text_of e)) numbers
    ∙ (ap (λ t. entry_read (word f) (number_of f) t) texts
    ∙ entry_is_read f is_f)))

same_number : (m n : ℕ) → IsNumber m → IsNumber n → decimal m ≡ decimal n → m ≡ n
same_number m n is_m is_n e = sym (decimal_read m is_m) ∙ (ap (digits_value 10) e ∙ decimal_read n is_n)

one_word_end : (e f : Entry) (p q : List ℕ) → word e ++ 32 ∷ p ≡ word f ++ 32 ∷ q → (word e ≡ word f)
    × (32 ∷ p ≡ 32 ∷ q)
one_word_end e f p q same = one_end 32 (word e) (word f) (32 ∷ p) (32 ∷ q) (word_above e) (word_above f) refl refl same

one_number_end : (m n : ℕ) (t u : Option (List ℕ)) (r s : List ℕ) → IsNumber m → IsNumber n → decimal m
    ++ tail t r ≡ decimal n ++ tail u s → (decimal m ≡ decimal n) × (tail t r ≡ tail u s)
one_number_end m n t u r s is_m is_n same =
    one_end 32 (decimal m) (decimal n) (tail t r) (tail u s)
    (decimal_above 32 m (omega arith) is_m) (decimal_above 32 n (omega arith) is_n)
    (tail_stops t r) (tail_stops u s) same

one_line : (e f : Entry) (r s : List ℕ) → IsEntry e → IsEntry f → line e ++ r ≡ line f ++ s → (e ≡ f) × (r ≡ s)
one_line e f r s is_e is_f same =
    let m = number_is e is_e in
    let n = number_is f is_f in
    let words = one_word_end e f (decimal (number_of e) ++ tail (text_of e) r)
    (decimal (number_of f) ++ tail (text_of f) s) (sym (line_then e r) ∙ (same ∙ line_then f s)) in
    let numbers = one_number_end (number_of e) (number_of f) (text_of e) (text_of f) r s m n
    (ap (λ l. drop 1 l) words.1) in
    let texts = one_tail (text_of e) (text_of f) r s (text_is_above e is_e) (text_is_above f is_f) numbers.1 in
    let number = same_number (number_of e) (number_of f) m n numbers.0 in
    (same_parts e f is_e is_f words.0 number texts.0, texts.1)

-- a line begins with a letter, and the line of dashes does not
begins_with_letter : (e : Entry) (r : List ℕ) → 96 < get_or (line e ++ r) 0 0
begins_with_letter (entry.Opened number bind) r = omega arith
begins_with_letter (entry.Arrived number apdu) r = omega arith
begins_with_letter (entry.Begun number log) r = omega arith
begins_with_letter (entry.Granted number moment) r = omega arith
begins_with_letter (entry.Committed number) r = omega arith
begins_with_letter (entry.Starved number) r = omega arith
begins_with_letter (entry.Taken number count) r = omega arith
begins_with_letter (entry.Finished number) r = omega arith
begins_with_letter (entry.Closed number cause) r = omega arith

-- a text, the line of two dashes, and what follows
abbrev printed : List ℕ → List ℕ → List ℕ
printed text r = text ++ ((45 ∷ 45 ∷ line_feed) ++ r)

no_dash : (e : Entry) (text r s : List ℕ) → printed [] s ≡ printed (line e ++ text) r → ⊥
no_dash e text r s same =
    let letter = begins_with_letter e (printed text r) in
    let dash : 45 ≡ get_or (line e ++ printed text r) 0 0 =
    ap (λ l. get_or l 0 0) (same ∙ append_assoc (line e) text ((45 ∷ 45 ∷ line_feed) ++ r)) in
    absurd (omega arith)

pub print_tells_journal : (xs ys : List Entry) (r s : List ℕ) → All IsEntry xs → All IsEntry ys
    → printed (journal_text xs) r ≡ printed (journal_text ys) s → (xs ≡ ys) × (r ≡ s)
print_tells_journal [] [] r s hx hy e = (refl, ap (λ l. drop 3 l) e)
print_tells_journal [] (y ∷ ys) r s hx hy e = absurd (no_dash y (journal_text ys) s r e)
print_tells_journal (x ∷ xs) [] r s hx hy e = absurd (no_dash x (journal_text xs) r s (sym e))
print_tells_journal (x ∷ xs) (y ∷ ys) r s hx hy e =
    let left = append_assoc (line x) (journal_text xs) ((45 ∷ 45 ∷ line_feed) ++ r) in
    let right = append_assoc (line y) (journal_text ys) ((45 ∷ 45 ∷ line_feed) ++ s) in
    let head = one_line x y (printed (journal_text xs) r) (printed (journal_text ys) s) (All-head IsEntry x xs hx)
    (All-head IsEntry y ys hy) (sym left ∙ (e ∙ right)) in
    let more = print_tells_journal xs ys r s (All-tail IsEntry x xs hx) (All-tail IsEntry y ys hy) head.1 in
    (ap (λ z. z ∷ xs) head.0 ∙ ap (λ zs. y ∷ zs) more.0, more.1)

pub texts_differ : (xs ys : List Entry) → All IsEntry xs → All IsEntry ys → journal_text xs ≡ journal_text ys → xs ≡ ys
texts_differ xs ys hx hy e = (print_tells_journal xs ys [] [] hx hy (ap (λ text. printed text []) e)).0
