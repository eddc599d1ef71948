-- Values of types that hold no others, as texts denote them, fit their syntaxes: X.680, sections 18 to 24, 32, 41 and
-- 46.
use Rattle.std.proofs.Common.{◌≡◌, ◌<◌, ◌*◌, ◌/◌, ℕ, Bool, true, false, List, [], ◌∷◌, ◌++◌, Option, None, Some}
use Rattle.std.proofs.Common.{refl, ap, sym, subst, arith, length, ◌&&◌, ℤ, pos, negsuc, FitsSigned}
use Rattle.std.specs.Int.{w64}
use Rattle.std.specs.List.{list_all}
use Rattle.std.specs.Ordering.{int_eq}
use Rattle.std.specs.Prelude.{codes, if◌then◌else◌, option_and_then, option_map}
use Rattle.std.proofs.lemmas.Bool.{and_parts, and_from, ltb-true, or_left, or_right}
use Rattle.std.proofs.lemmas.Bool.Decides.{Decides-int_eq}
use Rattle.std.proofs.lemmas.Option.{none-some, same_Some}
use Rattle.term_values.specs.Bounded.{allowed, allowed_size, bit_count, has_character, is_named}
use Rattle.term_values.specs.Fits.{Fits}
use Rattle.term_values.specs.Oid.{is_arc, is_oid}
use Rattle.term_values.specs.Strings.{AreBits, cleared}
use Rattle.term_values.specs.Syntaxes.{Named, Bounds}
use Rattle.term_values.specs.Syntaxes.TypeSyntax.{Boolean, Integer, Enumerated, BitString, OctetString, NullType}
use Rattle.term_values.specs.Syntaxes.TypeSyntax.{ObjectIdentifier, TextString, GeneralizedTime}
use Rattle.term_values.specs.Times.{is_time}
use Rattle.term_values.specs.Typed.{TypedValue}
use Rattle.term_values.specs.Typed.TypedValue.{Truth, Int, Bits, Octets, Null, Identifier, Text, Time}
use Rattle.term_values.specs.declared.charset.Charset.{Charset}
use Rattle.token_grammar.specs.TokenTests.{is_word_of}
use Rattle.typed_laws.proofs.Choosing.{map_some, then_some, if_some}
use Rattle.typed_laws.proofs.LeavesTold.{where_is}
use Rattle.asn1_leaf_values.specs.Arcs.{NamedArcs, first_arc, first_arcs, where_arc, where_arcs, arc_number}
use Rattle.asn1_leaf_values.specs.Arcs.{arc_numbers, behind_first_name}
use Rattle.asn1_leaf_values.specs.Arcs.{alone_said, arcs_said, standard_or, where_oid}
use Rattle.asn1_leaf_values.specs.Bits.{packed, weighed, filled}
use Rattle.asn1_leaf_values.specs.LeafTexts.{truth_said, whole_said, enumerated_said, bit_string_said}
use Rattle.asn1_leaf_values.specs.LeafTexts.{octet_string_said, null_said, identifier_said, text_said, time_said}
use Rattle.asn1_leaf_values.specs.LeafTexts.{number_of, bits_said}
use Rattle.asn1_leaf_values.specs.LeafTexts.{bit_string, literal_bits, string_said}
use Rattle.asn1_leaf_values.specs.Literals.{signed, is_whole, where_whole, named_number, numeral, same_name}
use Rattle.asn1_leaf_values.specs.TextValues.{TextValue}
use Rattle.asn1_leaf_values.specs.TextValues.TextValue.{Literal, Number, Name, Chosen, InBraces, InArcs}
use Rattle.asn1_leaf_values.specs.TextValues.TextParts.{NoTexts, AndText}

-- ---- numbers

whole_is : (n : ℤ) → is_whole n ≡ true → FitsSigned w64 n
whole_is (pos n) e = record { sfits = ltb-true n 9223372036854775808 e }
whole_is (negsuc n) e = record { sfits = ltb-true n 9223372036854775808 e }

where_whole_is : (n m : ℤ) → where_whole n ≡ Some m → (n ≡ m) × FitsSigned w64 m
where_whole_is n m e =
    let p = if_some (is_whole n) (Some n) m e in
    let same = same_Some n m p.1 in
    (same, subst (λ k. FitsSigned w64 k) same (whole_is n p.0))

named_is : (names : Named) (name : List ℕ) (n : ℤ) → named_number names name ≡ Some n
    → FitsSigned w64 n × (is_named names n ≡ true)
named_is [] name n e = absurd (none-some _ e)
named_is (first ∷ others) name n e = either (same_name first.0 name) e (named_is others name n)
  where
    either : (b : Bool) → (if b then where_whole first.1 else named_number others name) ≡ Some n
        → (named_number others name ≡ Some n → FitsSigned w64 n × (is_named others n ≡ true))
        → FitsSigned w64 n × (is_named (first ∷ others) n ≡ true)
    either true e later =
        let p = where_whole_is first.1 n e in
        (p.1, or_left (int_eq first.1 n) (is_named others n) ((Decides-int_eq first.1 n).1 p.0))
    either false e later =
        let p = later e in
        (p.0, or_right (int_eq first.1 n) (is_named others n) p.1)

number_fits : (names : Named) (text : TextValue) (n : ℤ) → number_of names text ≡ Some n → FitsSigned w64 n
number_fits names (Number minus digits) n e =
    let f = then_some (λ k. where_whole (signed minus k)) (numeral digits) n e in
    (where_whole_is (signed minus f.0) n f.2).1
number_fits names (Name name) n e = (named_is names name n e).0
number_fits names (Literal token) n e = absurd (none-some _ e)
number_fits names (Chosen name text) n e = absurd (none-some _ e)
number_fits names (InBraces parts) n e = absurd (none-some _ e)
number_fits names (InArcs name digits) n e = absurd (none-some _ e)

pub whole_fits : (names : Named) (ranges : Bounds) (text : TextValue) (v : TypedValue)
    → whole_said names ranges text ≡ Some v → Fits (Integer names ranges) v
whole_fits names ranges text v e =
    let f = then_some _ (number_of names text) v e in
    let w = where_is (allowed ranges f.0) (Int f.0) v f.2 in
    subst (Fits (Integer names ranges)) (sym w.1) (number_fits names text f.0 f.1, w.0)

pub enumerated_fits : (names : Named) (text : TextValue) (v : TypedValue) → enumerated_said names text ≡ Some v
    → Fits (Enumerated names) v
enumerated_fits names (Name name) v e =
    let m = map_some Int (named_number names name) v e in
    subst (Fits (Enumerated names)) m.2 (named_is names name m.0 m.1)
enumerated_fits names (Literal token) v e = absurd (none-some _ e)
enumerated_fits names (Number minus digits) v e = absurd (none-some _ e)
enumerated_fits names (Chosen name text) v e = absurd (none-some _ e)
enumerated_fits names (InBraces parts) v e = absurd (none-some _ e)
enumerated_fits names (InArcs name digits) v e = absurd (none-some _ e)

-- ---- words

pub truth_fits : (text : TextValue) (v : TypedValue) → truth_said text ≡ Some v → Fits Boolean v
truth_fits (Literal token) v e = either (is_word_of (codes "TRUE") token) (is_word_of (codes "FALSE") token) e
  where
    either : (b c : Bool) → (if b then Some (Truth true) else (if c then Some (Truth false) else None)) ≡ Some v
        → Fits Boolean v
    either true c e = subst (Fits Boolean) (same_Some (Truth true) v e) tt
    either false true e = subst (Fits Boolean) (same_Some (Truth false) v e) tt
    either false false e = absurd (none-some _ e)
truth_fits (Number minus digits) v e = absurd (none-some _ e)
truth_fits (Name name) v e = absurd (none-some _ e)
truth_fits (Chosen name text) v e = absurd (none-some _ e)
truth_fits (InBraces parts) v e = absurd (none-some _ e)
truth_fits (InArcs name digits) v e = absurd (none-some _ e)

pub null_fits : (text : TextValue) (v : TypedValue) → null_said text ≡ Some v → Fits NullType v
null_fits (Literal token) v e =
    let w = where_is (is_word_of (codes "NULL") token) Null v e in
    subst (Fits NullType) (sym w.1) tt
null_fits (Number minus digits) v e = absurd (none-some _ e)
null_fits (Name name) v e = absurd (none-some _ e)
null_fits (Chosen name text) v e = absurd (none-some _ e)
null_fits (InBraces parts) v e = absurd (none-some _ e)
null_fits (InArcs name digits) v e = absurd (none-some _ e)

-- ---- bits

-- a bit counts its weight or nothing
bit_counts : (bit : Bool) (weight : ℕ) → (k : ℕ) × ((if bit then weight else 0) ≡ weight * k)
bit_counts true weight = (1, omega arith)
bit_counts false weight = (0, omega arith)

one_cleared : (a : Bool) → weighed 128 (a ∷ []) ≡ weighed 128 (a ∷ []) / 128 * 128
one_cleared true = refl
one_cleared false = refl

two_cleared : (a b : Bool) → weighed 128 (a ∷ b ∷ []) ≡ weighed 128 (a ∷ b ∷ []) / 64 * 64
two_cleared a b =
    let i = bit_counts a 128 in
    let j = bit_counts b 64 in
    omega arith

three_cleared : (a b c : Bool) → weighed 128 (a ∷ b ∷ c ∷ []) ≡ weighed 128 (a ∷ b ∷ c ∷ []) / 32 * 32
three_cleared a b c =
    let i = bit_counts a 128 in
    let j = bit_counts b 64 in
    let k = bit_counts c 32 in
    omega arith

four_cleared : (a b c d : Bool) → weighed 128 (a ∷ b ∷ c ∷ d ∷ []) ≡ weighed 128 (a ∷ b ∷ c ∷ d ∷ []) / 16 * 16
four_cleared a b c d =
    let i = bit_counts a 128 in
    let j = bit_counts b 64 in
    let k = bit_counts c 32 in
    let l = bit_counts d 16 in
    omega arith

five_cleared : (a b c d e : Bool)
    → weighed 128 (a ∷ b ∷ c ∷ d ∷ e ∷ []) ≡ weighed 128 (a ∷ b ∷ c ∷ d ∷ e ∷ []) / 8 * 8
five_cleared a b c d e =
    let i = bit_counts a 128 in
    let j = bit_counts b 64 in
    let k = bit_counts c 32 in
    let l = bit_counts d 16 in
    let m = bit_counts e 8 in
    omega arith

six_cleared : (a b c d e f : Bool)
    → weighed 128 (a ∷ b ∷ c ∷ d ∷ e ∷ f ∷ []) ≡ weighed 128 (a ∷ b ∷ c ∷ d ∷ e ∷ f ∷ []) / 4 * 4
six_cleared a b c d e f =
    let i = bit_counts a 128 in
    let j = bit_counts b 64 in
    let k = bit_counts c 32 in
    let l = bit_counts d 16 in
    let m = bit_counts e 8 in
    let n = bit_counts f 4 in
    omega arith

seven_cleared : (a b c d e f g : Bool)
    → weighed 128 (a ∷ b ∷ c ∷ d ∷ e ∷ f ∷ g ∷ []) ≡ weighed 128 (a ∷ b ∷ c ∷ d ∷ e ∷ f ∷ g ∷ []) / 2 * 2
seven_cleared a b c d e f g =
    let i = bit_counts a 128 in
    let j = bit_counts b 64 in
    let k = bit_counts c 32 in
    let l = bit_counts d 16 in
    let m = bit_counts e 8 in
    let n = bit_counts f 4 in
    let o = bit_counts g 2 in
    omega arith

-- one octet more in front
more_cleared : (unused octet : ℕ) (rest : List ℕ) → 0 < length rest → rest ≡ cleared unused rest
    → octet ∷ rest ≡ cleared unused (octet ∷ rest)
more_cleared unused octet [] h e = absurd (omega arith)
more_cleared unused octet (x ∷ xs) h e = ap (λ ys. octet ∷ ys) e

packed_some : (bit : Bool) (bits : List Bool) → 0 < length (packed (bit ∷ bits))
packed_some a [] = omega arith
packed_some a (b ∷ []) = omega arith
packed_some a (b ∷ (c ∷ [])) = omega arith
packed_some a (b ∷ (c ∷ (d ∷ []))) = omega arith
packed_some a (b ∷ (c ∷ (d ∷ (e ∷ [])))) = omega arith
packed_some a (b ∷ (c ∷ (d ∷ (e ∷ (f ∷ []))))) = omega arith
packed_some a (b ∷ (c ∷ (d ∷ (e ∷ (f ∷ (g ∷ [])))))) = omega arith
packed_some a (b ∷ (c ∷ (d ∷ (e ∷ (f ∷ (g ∷ (h ∷ rest))))))) = omega arith

filled_same : (a b c d e f g h : Bool) (rest : List Bool)
    → filled rest ≡ filled (a ∷ (b ∷ (c ∷ (d ∷ (e ∷ (f ∷ (g ∷ (h ∷ rest))))))))
filled_same a b c d e f g h rest = omega arith

-- the bits that are filled up are 0
filled_cleared : (bits : List Bool) → packed bits ≡ cleared (filled bits) (packed bits)
filled_cleared [] = refl
filled_cleared (a ∷ []) = ap (λ n. n ∷ []) (one_cleared a)
filled_cleared (a ∷ (b ∷ [])) = ap (λ n. n ∷ []) (two_cleared a b)
filled_cleared (a ∷ (b ∷ (c ∷ []))) = ap (λ n. n ∷ []) (three_cleared a b c)
filled_cleared (a ∷ (b ∷ (c ∷ (d ∷ [])))) = ap (λ n. n ∷ []) (four_cleared a b c d)
filled_cleared (a ∷ (b ∷ (c ∷ (d ∷ (e ∷ []))))) = ap (λ n. n ∷ []) (five_cleared a b c d e)
filled_cleared (a ∷ (b ∷ (c ∷ (d ∷ (e ∷ (f ∷ [])))))) = ap (λ n. n ∷ []) (six_cleared a b c d e f)
filled_cleared (a ∷ (b ∷ (c ∷ (d ∷ (e ∷ (f ∷ (g ∷ []))))))) = ap (λ n. n ∷ []) (seven_cleared a b c d e f g)
filled_cleared (a ∷ (b ∷ (c ∷ (d ∷ (e ∷ (f ∷ (g ∷ (h ∷ rest)))))))) =
    subst
    (λ unused. weighed 128 (a ∷ b ∷ c ∷ d ∷ e ∷ f ∷ g ∷ h ∷ []) ∷ packed rest
    ≡ cleared unused (weighed 128 (a ∷ b ∷ c ∷ d ∷ e ∷ f ∷ g ∷ h ∷ []) ∷ packed rest))
    (filled_same a b c d e f g h rest)
    (behind (weighed 128 (a ∷ b ∷ c ∷ d ∷ e ∷ f ∷ g ∷ h ∷ [])) rest (filled_cleared rest))
  where
    behind : (octet : ℕ) (rest : List Bool) → packed rest ≡ cleared (filled rest) (packed rest)
        → octet ∷ packed rest ≡ cleared (filled rest) (octet ∷ packed rest)
    behind octet [] e = whole
      where
        whole : octet ∷ [] ≡ (octet / 1 * 1) ∷ []
        whole = ap (λ n. n ∷ []) (omega arith)
    behind octet (x ∷ xs) e = more_cleared (filled (x ∷ xs)) octet (packed (x ∷ xs)) (packed_some x xs) e

none_filled : (bits : List Bool) → packed bits ≡ [] → filled bits ≡ 0
none_filled [] e = refl
none_filled (bit ∷ bits) e =
    let some = packed_some bit bits in
    let none : length (packed (bit ∷ bits)) ≡ 0 = ap length e in
    absurd (omega arith)

packed_are_bits : (bits : List Bool) → AreBits (packed bits) (filled bits)
packed_are_bits bits = (omega arith, none_filled bits, filled_cleared bits)

pub bit_string_fits : (names : Named) (sizes : Bounds) (text : TextValue) (v : TypedValue)
    → bit_string_said names sizes text ≡ Some v → Fits (BitString names sizes) v
bit_string_fits names sizes text v e =
    let f = then_some (bit_string sizes) (bits_said names text) v e in
    let w = where_is (allowed_size sizes (bit_count (packed f.0) (filled f.0))) (Bits (packed f.0) (filled f.0)) v
    f.2 in
    subst (Fits (BitString names sizes)) (sym w.1) (packed_are_bits f.0, w.0)

pub octet_string_fits : (sizes : Bounds) (text : TextValue) (v : TypedValue) → octet_string_said sizes text ≡ Some v
    → Fits (OctetString sizes) v
octet_string_fits sizes text v e =
    let f = then_some _ (literal_bits text) v e in
    let w = where_is (allowed_size sizes (length (packed f.0))) (Octets (packed f.0)) v f.2 in
    subst (Fits (OctetString sizes)) (sym w.1) w.0

-- ---- strings

pub text_fits : (charset : Charset) (sizes : Bounds) (text : TextValue) (v : TypedValue)
    → text_said charset sizes text ≡ Some v → Fits (TextString charset sizes) v
text_fits charset sizes text v e =
    let f = then_some _ (string_said text) v e in
    let w =
    where_is (list_all (has_character charset) f.0 && allowed_size sizes (length f.0)) (Text f.0) v f.2 in
    let p = and_parts (list_all (has_character charset) f.0) (allowed_size sizes (length f.0)) w.0 in
    subst (Fits (TextString charset sizes)) (sym w.1) (p.0, p.1)

pub time_fits : (text : TextValue) (v : TypedValue) → time_said text ≡ Some v → Fits GeneralizedTime v
time_fits text v e =
    let f = then_some _ (string_said text) v e in
    let w = where_is (is_time f.0) (Time f.0) v f.2 in
    subst (Fits GeneralizedTime) (sym w.1) w.0

-- ---- identifiers

abbrev AreArcs : List ℕ → Type 0
AreArcs arcs = list_all is_arc arcs ≡ true

first_is : (name : List ℕ) (n : ℕ) → first_arc name ≡ Some n → is_arc n ≡ true
first_is name n e = either _ _ _ e
  where
    either : (a b c : Bool)
        → (if a then Some 0 else (if b then Some 1 else (if c then Some 2 else None))) ≡ Some n → is_arc n ≡ true
    either true b c e = subst (λ k. is_arc k ≡ true) (same_Some 0 n e) refl
    either false true c e = subst (λ k. is_arc k ≡ true) (same_Some 1 n e) refl
    either false false true e = subst (λ k. is_arc k ≡ true) (same_Some 2 n e) refl
    either false false false e = absurd (none-some _ e)

numbers_are : (digits : List (List ℕ)) (arcs : List ℕ) → arc_numbers digits ≡ Some arcs → AreArcs arcs
numbers_are [] arcs e = subst AreArcs (same_Some [] arcs e) refl
numbers_are (first ∷ others) arcs e =
    let f = then_some (λ n. option_map (λ ns. n ∷ ns) (arc_numbers others)) (arc_number first) arcs e in
    let g = then_some where_arc (numeral first) f.0 f.1 in
    let p = if_some (is_arc g.0) (Some g.0) f.0 g.2 in
    let small : is_arc f.0 ≡ true = subst (λ k. is_arc k ≡ true) (same_Some g.0 f.0 p.1) p.0 in
    let m = map_some (λ ns. f.0 ∷ ns) (arc_numbers others) arcs f.2 in
    subst AreArcs m.2 (and_from (is_arc f.0) (list_all is_arc m.0) small (numbers_are others m.0 m.1))

both_are : (front rest : List ℕ) → AreArcs front → AreArcs rest → AreArcs (front ++ rest)
both_are [] rest f r = r
both_are (x ∷ front) rest f r =
    let p = and_parts (is_arc x) (list_all is_arc front) f in
    and_from (is_arc x) (list_all is_arc (front ++ rest)) p.0 (both_are front rest p.1 r)

defined_are : (defined : Option (List ℕ)) (arcs : List ℕ) → option_and_then where_arcs defined ≡ Some arcs
    → AreArcs arcs
defined_are defined arcs e =
    let f = then_some where_arcs defined arcs e in
    let p = if_some (list_all is_arc f.0) (Some f.0) arcs f.2 in
    subst AreArcs (same_Some f.0 arcs p.1) p.0

first_are : (names : NamedArcs) (name arcs : List ℕ) → first_arcs names name ≡ Some arcs → AreArcs arcs
first_are names name arcs e = either (first_arc name) (λ n f. first_is name n f) e
  where
    either : (first : Option ℕ) → ((n : ℕ) → first ≡ Some n → is_arc n ≡ true)
        → standard_or first (option_and_then where_arcs (names name)) ≡ Some arcs → AreArcs arcs
    either (Some n) h e = subst AreArcs (same_Some (n ∷ []) arcs e) (and_from (is_arc n) true (h n refl) refl)
    either None h e = defined_are (names name) arcs e

behind_are : (names : NamedArcs) (name : Option (List ℕ)) (digits : List (List ℕ)) (arcs : List ℕ)
    → behind_first_name names name (arc_numbers digits) ≡ Some arcs → AreArcs arcs
behind_are names None digits arcs e = numbers_are digits arcs e
behind_are names (Some name) digits arcs e =
    let f = then_some (λ first. option_map (λ ns. first ++ ns) (arc_numbers digits)) (first_arcs names name) arcs e in
    let m = map_some (λ ns. f.0 ++ ns) (arc_numbers digits) arcs f.2 in
    subst AreArcs m.2 (both_are f.0 m.0 (first_are names name f.0 f.1) (numbers_are digits m.0 m.1))

alone_are : (names : NamedArcs) (text : TextValue) (name arcs : List ℕ) → alone_said names text name ≡ Some arcs
    → AreArcs arcs
alone_are names (Number false digits) name arcs e = behind_are names (Some name) (digits ∷ []) arcs e
alone_are names (Name first) [] arcs e = first_are names first arcs e
alone_are names _ _ arcs e = absurd (none-some _ e)

said_are : (names : NamedArcs) (text : TextValue) (arcs : List ℕ) → arcs_said names text ≡ Some arcs → AreArcs arcs
said_are names (InArcs name digits) arcs e = behind_are names name digits arcs e
said_are names (InBraces (AndText name text NoTexts)) arcs e = alone_are names text name arcs e
said_are names _ arcs e = absurd (none-some _ e)

pub identifier_fits : (names : NamedArcs) (text : TextValue) (v : TypedValue) → identifier_said names text ≡ Some v
    → Fits ObjectIdentifier v
identifier_fits names text v e =
    let m = map_some Identifier (option_and_then where_oid (arcs_said names text)) v e in
    let f = then_some where_oid (arcs_said names text) m.0 m.1 in
    let p = if_some (is_oid f.0) (Some f.0) m.0 f.2 in
    let same = same_Some f.0 m.0 p.1 in
    subst (Fits ObjectIdentifier) m.2
    (subst (λ (arcs : List ℕ). (is_oid arcs ≡ true) × AreArcs arcs) same (p.0, said_are names text f.0 f.1))
