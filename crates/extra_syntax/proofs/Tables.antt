-- A form that names no section has the same readings by the table of sections and by that of ASN.1.
use Rattle.std.proofs.Common.{◌≡◌, ℕ, zero, suc, Bool, true, false, ◌&&◌, List, refl, sym, subst}
use Rattle.token_grammar.specs.declared.token.Token.{Token}
use Rattle.token_grammar.specs.declared.syntax_refusal.SyntaxRefusal.{SyntaxRefusal}
use Rattle.token_grammar.specs.Form.{Form, Tree, Marks, Keep, Then, Or, Maybe, Listed, Many, AnyOrder, Named}
use Rattle.token_grammar.specs.Spelling as S
use Rattle.token_grammar.specs.Spelling.{Spells}
use Rattle.token_grammar.specs.Beginning as B
use Rattle.token_grammar.specs.Beginning.{Begins}
use Rattle.token_grammar.specs.Outcome.{Stops, IsSpelt, Fails}
use Rattle.token_grammar.proofs.Known.{first_so, second_so}
use Rattle.asn1_values_syntax.specs.Asn1.{asn1}
use Rattle.extra_syntax.specs.SectionForms.{sections}

-- whether a number is one of ASN.1's
abbrev pub is_asn1 : ℕ → Bool
is_asn1 zero = true
is_asn1 (suc zero) = true
is_asn1 (suc (suc zero)) = true
is_asn1 (suc (suc (suc n))) = false

-- whether a form names none but ASN.1's, nor has clauses in any order
abbrev pub names_asn1 : Form → Bool
names_asn1 (Marks tests) = true
names_asn1 (Keep test) = true
names_asn1 (Then f g) = names_asn1 f && names_asn1 g
names_asn1 (Or f g) = names_asn1 f && names_asn1 g
names_asn1 (Maybe f) = names_asn1 f
names_asn1 (Listed separator s f) = names_asn1 f
names_asn1 (Many s f) = names_asn1 f
names_asn1 (AnyOrder s) = false
names_asn1 (Named n) = is_asn1 n

-- the two tables have one form under each of ASN.1's numbers, which names none but these
pub record Shares (g h : ℕ → Form) : Type 0 where
  pub same : (n : ℕ) → is_asn1 n ≡ true → g n ≡ h n
  pub within : (n : ℕ) → is_asn1 n ≡ true → names_asn1 (g n) ≡ true

spells_in : {tokens : List Token} {g h : ℕ → Form} → Shares g h → {f : Form} {i k : ℕ} {a : Tree} → names_asn1 f ≡ true
    → Spells tokens g f i k a → Spells tokens h f i k a
spells_in shares within S.no_marks = S.no_marks
spells_in shares within (S.marks here s) = S.marks here (spells_in shares refl s)
spells_in shares within (S.keep e ok next) = S.keep e ok next
spells_in shares within (S.both {f = f} {g = g} s r) = S.both
    (spells_in shares (first_so (names_asn1 f) (names_asn1 g) within) s)
    (spells_in shares (second_so (names_asn1 f) (names_asn1 g) within) r)
spells_in shares within (S.first {f = f} {g = g} s) = S.first
    (spells_in shares (first_so (names_asn1 f) (names_asn1 g) within) s)
spells_in shares within (S.second {f = f} {g = g} s) = S.second
    (spells_in shares (second_so (names_asn1 f) (names_asn1 g) within) s)
spells_in shares within S.absent = S.absent
spells_in shares within (S.present s) = S.present (spells_in shares within s)
spells_in shares within (S.last s) = S.last (spells_in shares within s)
spells_in shares within (S.more s here r) = S.more (spells_in shares within s) here (spells_in shares within r)
spells_in shares within S.no_more = S.no_more
spells_in shares within (S.another s r) = S.another (spells_in shares within s) (spells_in shares within r)
spells_in shares within (S.enough complete e) = absurd (cc within)
spells_in shares within (S.clause n still s r) = absurd (cc within)
spells_in {tokens} {g} {h} shares within (S.named {n} {i} {k} {a} s) = S.named
    (subst (λ (f : Form). Spells tokens h f i k a) (shares.same n within)
    (spells_in shares (shares.within n within) s))

begins_in : {tokens : List Token} {g h : ℕ → Form} → Shares g h → {f : Form} {i k : ℕ} → names_asn1 f ≡ true → Begins
    tokens g f i k → Begins tokens h f i k
begins_in shares within B.no_tokens = B.no_tokens
begins_in shares within (B.token here next) = B.token here next
begins_in shares within (B.mark here b) = B.mark here (begins_in shares refl b)
begins_in shares within (B.front {f = f} {g = g} b) = B.front
    (begins_in shares (first_so (names_asn1 f) (names_asn1 g) within) b)
begins_in shares within (B.rest {f = f} {g = g} s b) = B.rest
    (spells_in shares (first_so (names_asn1 f) (names_asn1 g) within) s)
    (begins_in shares (second_so (names_asn1 f) (names_asn1 g) within) b)
begins_in shares within (B.first {f = f} {g = g} b) = B.first
    (begins_in shares (first_so (names_asn1 f) (names_asn1 g) within) b)
begins_in shares within (B.second {f = f} {g = g} b) = B.second
    (begins_in shares (second_so (names_asn1 f) (names_asn1 g) within) b)
begins_in shares within (B.present b) = B.present (begins_in shares within b)
begins_in shares within (B.item b) = B.item (begins_in shares within b)
begins_in shares within (B.more s here b) = B.more (spells_in shares within s) here (begins_in shares within b)
begins_in shares within (B.one b) = B.one (begins_in shares within b)
begins_in shares within (B.another s b) = B.another (spells_in shares within s) (begins_in shares within b)
begins_in shares within (B.one_clause n still b) = absurd (cc within)
begins_in shares within (B.clause n still s b) = absurd (cc within)
begins_in {tokens} {g} {h} shares within (B.named {n} {i} {k} b) = B.named
    (subst (λ (f : Form). Begins tokens h f i k) (shares.same n within)
    (begins_in shares (shares.within n within) b))

equal : (n : ℕ) → is_asn1 n ≡ true → asn1 n ≡ sections n
equal zero e = refl
equal (suc zero) e = refl
equal (suc (suc zero)) e = refl
equal (suc (suc (suc n))) e = absurd (cc e)

closed_table : (n : ℕ) → is_asn1 n ≡ true → names_asn1 (asn1 n) ≡ true
closed_table zero e = refl
closed_table (suc zero) e = refl
closed_table (suc (suc zero)) e = refl
closed_table (suc (suc (suc n))) e = absurd (cc e)

shares_out : Shares asn1 sections
shares_out = record { same = equal; within = closed_table }

shares_back : Shares sections asn1
shares_back = record {
  same = λ n e. sym (equal n e);
  within = λ n e. subst (λ (f : Form). names_asn1 f ≡ true) (equal n e) (closed_table n e);
}

stops_in : {tokens : List Token} {on : Token → Bool} (f : Form) {i k : ℕ} → names_asn1 f ≡ true → Stops tokens asn1 on f
    i k → Stops tokens sections on f i k
stops_in f within r = record {
  order = r.order;
  unspelt = λ j a s. r.unspelt j a (spells_in shares_back within s);
  furthest = λ j b. r.furthest j (begins_in shares_back within b);
}

-- what is read by the table of ASN.1 is read by that of sections
pub spelt_in : {tokens : List Token} {on : Token → Bool} (f : Form) {i k : ℕ} {a : Tree} → names_asn1 f ≡ true → IsSpelt
    tokens asn1 on f i a k → IsSpelt tokens sections on f i a k
spelt_in f within r = record {
  spelt = spells_in shares_out within r.spelt;
  only = λ j b s. r.only j b (spells_in shares_back within s);
  furthest = λ j b. r.furthest j (begins_in shares_back within b);
}

pub fails_in : {tokens : List Token} {on : Token → Bool} (f : Form) {i : ℕ} {e : SyntaxRefusal} → names_asn1 f ≡ true →
    Fails tokens asn1 on f i e → Fails tokens sections on f i e
fails_in f within r = record {
  fault = λ k is. let one = r.fault k is in record {
    begun = begins_in shares_out within one.begun;
    stops = stops_in f within one.stops;
  };
}
