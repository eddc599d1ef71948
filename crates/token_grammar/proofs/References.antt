-- Laws on references: a label, or in its place a template in line. The token behind the label decides.
use Rattle.std.proofs.Common.{◌≡◌, ℕ, ◌+◌, ◌≤◌, Bool, true, false, ◌&&◌, List, ◌∷◌, Option, None, Some, refl, sym, ◌∙◌}
use Rattle.std.proofs.Common.{ap, subst, arith, slice_get}
use Rattle.token_grammar.specs.declared.token.Token.{Token}
use Rattle.token_grammar.specs.declared.syntax_refusal.SyntaxRefusal.{SyntaxRefusal}
use Rattle.token_grammar.specs.Form.{Form, Tree, Marks, Keep, Then, Or, Named, Leaf, Pair, First, Second, Absent}
use Rattle.token_grammar.specs.Spelling.{passes}
use Rattle.token_grammar.specs.Beginning as B
use Rattle.token_grammar.specs.Beginning.{Begins}
use Rattle.token_grammar.specs.Outcome.{closed, Stops, IsFault, IsSpelt, Fails}
use Rattle.token_grammar.specs.TokenTests.{is_label, is_string, is_word_of}
use Rattle.token_grammar.specs.Parts.{document_name, label_reference}
use Rattle.token_grammar.proofs.Places.{spells_begins}
use Rattle.token_grammar.proofs.Heads.{unknown, heads_unknown, stops_unless}
use Rattle.token_grammar.proofs.Sequences.{apart_closed, passes_false, stops_wider, stops_later, spelt_wider}
use Rattle.token_grammar.proofs.Sequences.{fault_wider, fault_front, fault_rest, spelt_then, spelt_absent, spelt_first}
use Rattle.token_grammar.proofs.Sequences.{spelt_second, fault_first, fault_second, stops_named, fails_by}
use Rattle.token_grammar.proofs.Tokens.{keep_spelt, keep_fault, marks_fault}
use Rattle.token_grammar.proofs.Known.{first_so, second_so, at_label, at_word, token_of}
use Rattle.token_grammar.proofs.Parts.{spelt_short, token_there}

-- a label and a keyword behind it
abbrev pub is_template : List Token → ℕ → (Token → Bool) → Bool
is_template tokens i keyword = passes is_label (slice_get tokens i) && passes keyword (slice_get tokens (i + 1))

-- a label is a reference
label_spelt : {tokens : List Token} {grammar : ℕ → Form} {i : ℕ} {token : Token} → slice_get tokens i ≡ Some token
    → is_label token ≡ true → IsSpelt tokens grammar closed label_reference i (Pair Absent (Leaf token)) (i + 1)
label_spelt {tokens} {grammar} {i} {token} is ok =
    spelt_then (spelt_absent
    (stops_unless unknown heads_unknown is_string document_name i i (omega arith) refl (λ t e. e)
    (passes_false is_label is_string (slice_get tokens i) (λ t e. at_label false is_string (λ at text. refl) t e)
    (ap (passes is_label) is ∙ ok)))) apart_closed (keep_spelt is ok)

-- a template in line, where the label alone is a reference too
label_stops : {tokens : List Token} {grammar : ℕ → Form} {keyword : Token → Bool} {i k : ℕ}
    → is_template tokens i keyword ≡ true → i + 1 ≤ k → Stops tokens grammar keyword label_reference i k
label_stops {tokens} {grammar} {keyword} {i} {k} comes order =
    spelt_short (label_spelt there.1 there.2)
    (record {
      passed = second_so (passes is_label (slice_get tokens i)) (passes keyword (slice_get tokens (i + 1)))
          comes;
    }) order
  where
    there : (t : Token) × (slice_get tokens i ≡ Some t) × (is_label t ≡ true)
    there = token_there tokens i is_label
        (first_so (passes is_label (slice_get tokens i)) (passes keyword (slice_get tokens (i + 1))) comes)

label_begins : {tokens : List Token} {grammar : ℕ → Form} {n i : ℕ} (keyword : Token → Bool) {g : Form}
    → grammar n ≡ Then (Keep is_label) g → is_template tokens i keyword ≡ true
    → Begins tokens grammar (Named n) i (i + 1)
label_begins {tokens} {grammar} {n} {i} keyword {g} shape comes =
    B.named (subst (λ (f : Form). Begins tokens grammar f i (i + 1)) (sym shape)
    (B.front (B.token (record {
      passed =
          first_so (passes is_label (slice_get tokens i)) (passes keyword (slice_get tokens (i + 1))) comes;
    }) refl)))

pub spelt_template : {tokens : List Token} {grammar : ℕ → Form} {keyword : Token → Bool} {n i k : ℕ} {g : Form}
    {a : Tree} → grammar n ≡ Then (Keep is_label) g → is_template tokens i keyword ≡ true
    → IsSpelt tokens grammar closed (Named n) i a k
    → IsSpelt tokens grammar keyword (Or label_reference (Named n)) i (Second a) k
spelt_template {tokens} {grammar} {keyword} {n} {i} {k} shape comes one =
    spelt_second (label_stops comes (one.furthest (i + 1) (label_begins keyword shape comes))) (spelt_wider keyword one)

pub fails_template : {tokens : List Token} {grammar : ℕ → Form} {keyword : Token → Bool} {n i : ℕ} {g : Form}
    {e : SyntaxRefusal} → grammar n ≡ Then (Keep is_label) g → is_template tokens i keyword ≡ true
    → Fails tokens grammar closed (Named n) i e → Fails tokens grammar keyword (Or label_reference (Named n)) i e
fails_template {tokens} {grammar} {keyword} {n} {i} shape comes r =
    fails_by (λ k one. fault_second (label_stops comes (one.stops.furthest (i + 1) (label_begins keyword shape comes)))
    (fault_wider keyword one)) r

-- a label with no keyword behind it is no template
pub template_stops : {tokens : List Token} {grammar : ℕ → Form} {keyword : Token → Bool} {i k : ℕ}
    (words : List (Token → Bool)) (g : Form) → is_template tokens i keyword ≡ false → i ≤ k
    → (passes is_label (slice_get tokens i) ≡ true → i + 1 ≤ k)
    → Stops tokens grammar closed (Then (Keep is_label) (Then (Marks (keyword ∷ words)) g)) i k
template_stops {tokens} {grammar} {keyword} {i} {k} words g other order past_label = go (slice_get tokens i) refl
  where
    rule : (a b : Bool) → a ≡ true → (a && b) ≡ false → b ≡ false
    rule true b e f = f
    rule false b e f = absurd (cc e)

    labelled : (t : Token) → slice_get tokens i ≡ Some t → (b : Bool) → is_label t ≡ b
        → Stops tokens grammar closed (Then (Keep is_label) (Then (Marks (keyword ∷ words)) g)) i k
    labelled t is true ok = stops_later (past_label (ap (passes is_label) is ∙ ok))
        (fault_rest (keep_spelt is ok) apart_closed
        (fault_front apart_closed
        (marks_fault (rule (passes is_label (slice_get tokens i)) (passes keyword (slice_get tokens (i + 1)))
        (ap (passes is_label) is ∙ ok) other)))).stops
    labelled t is false ok =
        stops_later order (fault_front apart_closed (keep_fault (ap (passes is_label) is ∙ ok))).stops

    go : (x : Option Token) → slice_get tokens i ≡ x
        → Stops tokens grammar closed (Then (Keep is_label) (Then (Marks (keyword ∷ words)) g)) i k
    go None is = stops_later order (fault_front apart_closed (keep_fault (ap (passes is_label) is))).stops
    go (Some t) is = labelled t is (is_label t) refl

label_past : {tokens : List Token} {grammar : ℕ → Form} {i k : ℕ}
    → ((m : ℕ) → Begins tokens grammar label_reference i m → m ≤ k)
    → passes is_label (slice_get tokens i) ≡ true → i + 1 ≤ k
label_past {tokens} {grammar} {i} {k} most pass = go (token_there tokens i is_label pass)
  where
    go : (t : Token) × (slice_get tokens i ≡ Some t) × (is_label t ≡ true) → i + 1 ≤ k
    go there = most (i + 1) (spells_begins (label_spelt there.1 there.2).spelt)

named_stops : {tokens : List Token} {grammar : ℕ → Form} {keyword : Token → Bool} {n i k : ℕ}
    {words : List (Token → Bool)} {g : Form} → grammar n ≡ Then (Keep is_label) (Then (Marks (keyword ∷ words)) g)
    → is_template tokens i keyword ≡ false → ((m : ℕ) → Begins tokens grammar label_reference i m → m ≤ k)
    → Stops tokens grammar keyword (Named n) i k
named_stops {tokens} {grammar} {keyword} {n} {i} {k} {words} {g} shape other most =
    stops_wider keyword (stops_named n
    (subst (λ (f : Form). Stops tokens grammar closed f i k) (sym shape)
    (template_stops words g other (most i B.no_tokens) (label_past most))))

pub spelt_label : {tokens : List Token} {grammar : ℕ → Form} {keyword : Token → Bool} {n i k : ℕ}
    {words : List (Token → Bool)} {g : Form} {a : Tree}
    → grammar n ≡ Then (Keep is_label) (Then (Marks (keyword ∷ words)) g) → is_template tokens i keyword ≡ false
    → IsSpelt tokens grammar closed label_reference i a k
    → IsSpelt tokens grammar keyword (Or label_reference (Named n)) i (First a) k
spelt_label {tokens} {grammar} {keyword} shape other one =
    spelt_first (spelt_wider keyword one) (named_stops shape other one.furthest)

pub fails_label : {tokens : List Token} {grammar : ℕ → Form} {keyword : Token → Bool} {n i : ℕ}
    {words : List (Token → Bool)} {g : Form} {e : SyntaxRefusal}
    → grammar n ≡ Then (Keep is_label) (Then (Marks (keyword ∷ words)) g) → is_template tokens i keyword ≡ false
    → Fails tokens grammar closed label_reference i e → Fails tokens grammar keyword (Or label_reference (Named n)) i e
fails_label {tokens} {grammar} {keyword} shape other r =
    fails_by (λ k one. fault_first (fault_wider keyword one) (named_stops shape other one.stops.furthest)) r

-- Of two templates with other keywords at most one comes.
pub other_keyword : (tokens : List Token) (i : ℕ) (text : List ℕ) (keyword : Token → Bool)
    → ((at : ℕ) → keyword (token_of 0 at text) ≡ false) → is_template tokens i (is_word_of text) ≡ true
    → is_template tokens i keyword ≡ false
other_keyword tokens i text keyword computes comes =
    both (passes is_label (slice_get tokens i)) (passes keyword (slice_get tokens (i + 1)))
    (passes_false (is_word_of text) keyword (slice_get tokens (i + 1)) (at_word text false keyword computes)
    (second_so (passes is_label (slice_get tokens i)) (passes (is_word_of text) (slice_get tokens (i + 1))) comes))
  where
    both : (a b : Bool) → b ≡ false → (a && b) ≡ false
    both true b e = e
    both false b e = refl

-- A template goes past its label.
pub label_first : {tokens : List Token} {grammar : ℕ → Form} (n : ℕ) {i : ℕ} {g : Form}
    → grammar n ≡ Then (Keep is_label) g → passes is_label (slice_get tokens i) ≡ true
    → Begins tokens grammar (Named n) i (i + 1)
label_first {tokens} {grammar} n {i} {g} shape pass =
    B.named (subst (λ (f : Form). Begins tokens grammar f i (i + 1)) (sym shape)
    (B.front (B.token (record { passed = pass }) refl)))

-- Another template stops where it has another keyword.
pub other_stops : {tokens : List Token} {grammar : ℕ → Form} {keyword : Token → Bool} (n : ℕ) {i k : ℕ}
    {words : List (Token → Bool)} {g : Form} → grammar n ≡ Then (Keep is_label) (Then (Marks (keyword ∷ words)) g)
    → is_template tokens i keyword ≡ false → i ≤ k → (passes is_label (slice_get tokens i) ≡ true → i + 1 ≤ k)
    → Stops tokens grammar closed (Named n) i k
other_stops {tokens} {grammar} {keyword} n {i} {k} {words} {g} shape other order past_label =
    stops_named n (subst (λ (f : Form). Stops tokens grammar closed f i k) (sym shape)
    (template_stops words g other order past_label))

-- a stop at once is a fault
pub fault_here : {tokens : List Token} {grammar : ℕ → Form} {on : Token → Bool} {f : Form} {i : ℕ}
    → Stops tokens grammar on f i i → IsFault tokens grammar on f i i
fault_here r = record { begun = B.no_tokens; stops = r }
