-- What braces say as an object identifier and as parts is what the tokens spell, and the other way round.
use Rattle.std.proofs.Common.{◌≡◌, ℕ, ◌≤◌, suc, Bool, List, refl, sym, ap, subst, arith, codes}
use Rattle.token_grammar.specs.declared.token.Token.{Token}
use Rattle.token_grammar.specs.Form.{Form, Tree, Keep, Then, Or, Many, Listed, Maybe, Named, Bare, Leaf, Pair, First}
use Rattle.token_grammar.specs.Form.{Second, Absent, Empty, After, Numbered}
use Rattle.token_grammar.specs.Spelling as S
use Rattle.token_grammar.specs.Spelling.{Spells}
use Rattle.token_grammar.specs.TokenTests.{is_name, is_number, is_sign_of}
use Rattle.token_grammar.specs.Parts.{arc, first_arc, named_number, sign}
use Rattle.token_grammar.proofs.Values.{parts_of}
use Rattle.asn1_values_syntax.specs.Asn1.{asn1}
use Rattle.asn1_values_syntax.specs.ValueForms.{values, braces_content, parts_end}
use Rattle.asn1_values_syntax.specs.Readings.{IdentifiersAreKept, IdentifiersAreSpelt, PartsAreKept, PartsAreSpelt}
use Rattle.asn1_values_syntax.specs.Readings.{SaysArcs, SaysParts, arcs_said, behind, braces_said, name, name_and_named}
use Rattle.asn1_values_syntax.specs.Readings.{name_and_number, name_and_numbers, name_said, named, nothing, number}
use Rattle.asn1_values_syntax.specs.Readings.{number_said, numbers, parts}

-- a spelling by what it says
in_first : {tokens : List Token} {f g : Form} {i k : ℕ} {a : Tree} → Spells tokens asn1 (Or f g) i k (First a) →
    Spells tokens asn1 f i k a
in_first (S.first s) = s

in_second : {tokens : List Token} {f g : Form} {i k : ℕ} {a : Tree} → Spells tokens asn1 (Or f g) i k (Second a) →
    Spells tokens asn1 g i k a
in_second (S.second s) = s

in_named : {tokens : List Token} {n i k : ℕ} {a : Tree} → Spells tokens asn1 (Named n) i k (Numbered 0 a) → Spells
    tokens asn1 (asn1 n) i k a
in_named (S.named s) = s

in_pair : {tokens : List Token} {f g : Form} {i k : ℕ} {a b : Tree} → Spells tokens asn1 (Then f g) i k (Pair a b) →
    (j : ℕ) × Spells tokens asn1 f i j a × Spells tokens asn1 g j k b
in_pair (S.both {j = j} s r) = (j, s, r)

-- what stands in the braces of a value
in_braces : {tokens : List Token} {i k : ℕ} {brace : Token} {content : Tree} → Spells tokens asn1 (Named values) i k
    (braces_said brace content) → (j : ℕ) × Spells tokens asn1 (Keep (is_sign_of (codes "{"))) i j (Leaf brace) ×
    Spells tokens asn1 braces_content j k content
in_braces s = in_pair (in_second (in_second (in_second (in_named s))))

of_braces : {tokens : List Token} {i j k : ℕ} {brace : Token} {content : Tree} → Spells tokens asn1
    (Keep (is_sign_of (codes "{"))) i j (Leaf brace) → Spells tokens asn1 braces_content j k content → Spells tokens
    asn1 (Named values) i k (braces_said brace content)
of_braces brace content = S.named (S.second (S.second (S.second (S.both brace content))))

-- a number and a name as values
pub of_number : {tokens : List Token} {i k : ℕ} {n : Token} → Spells tokens asn1 (Keep is_number) i k (Leaf n) → Spells
    tokens asn1 (Named values) i k (number_said n)
of_number s = S.named (S.second (S.first (S.both S.absent s)))

pub of_name : {tokens : List Token} {i k : ℕ} {n : Token} → Spells tokens asn1 (Keep is_name) i k (Leaf n) → Spells
    tokens
    asn1 (Named values) i k (name_said n)
of_name s = S.named (S.second (S.second (S.first (S.both s S.absent))))

unsigned : {tokens : List Token} {f g : Form} {i j k : ℕ} {a : Tree} → Spells tokens asn1 (Maybe f) i j Absent →
    Spells tokens asn1 g j k a → Spells tokens asn1 g i k a
unsigned S.absent s = s

unchosen : {tokens : List Token} {f g : Form} {i j k : ℕ} {a : Tree} → Spells tokens asn1 g i j a → Spells tokens asn1
    (Maybe f) j k Absent → Spells tokens asn1 g i k a
unchosen s S.absent = s

in_number : {tokens : List Token} {i k : ℕ} {n : Token} → Spells tokens asn1 (Named values) i k (number_said n) →
    Spells tokens asn1 (Keep is_number) i k (Leaf n)
in_number s = let p = in_pair (in_first (in_second (in_named s))) in unsigned p.1 p.2

in_name : {tokens : List Token} {i k : ℕ} {n : Token} → Spells tokens asn1 (Named values) i k (name_said n) → Spells
    tokens asn1 (Keep is_name) i k (Leaf n)
in_name s = let p = in_pair (in_first (in_second (in_second (in_named s)))) in unchosen p.1 p.2

-- a list has one part more than came before, at least
more_parts : {tokens : List Token} {separator : Token → Bool} {f : Form} {s t : Tree} {i k : ℕ} → Spells tokens asn1
    (Listed separator s f) i k t → suc (parts_of s) ≤ parts_of t
more_parts (S.last sp) = omega arith
more_parts (S.more sp here r) = let later = more_parts r in omega (arith, later)

in_one : {tokens : List Token} {separator : Token → Bool} {f : Form} {i k : ℕ} {a : Tree} → Spells tokens asn1
    (Listed separator Empty f) i k (After Empty a) → Spells tokens asn1 f i k a
in_one (S.last s) = s
in_one (S.more sp here r) = absurd (let never = more_parts r in omega (arith, never))

-- arcs with others before them
pub put_before : {tokens : List Token} {f : Form} {s t : Tree} {i k : ℕ} (before : Tree) → Spells tokens asn1
    (Many s f) i k t → Spells tokens asn1 (Many (behind before s) f) i k (behind before t)
put_before before S.no_more = S.no_more
put_before before (S.another sp r) = S.another sp (put_before before r)

take_away : {tokens : List Token} {f : Form} {s t : Tree} {i k : ℕ} (before came : Tree) → s ≡ behind before came →
    Spells tokens asn1 (Many s f) i k t → (u : Tree) × Spells tokens asn1 (Many came f) i k u × (t ≡ behind before u)
take_away before came e S.no_more = (came, S.no_more, e)
take_away before came e (S.another {a = a} sp r) = let q = take_away before (After came a)
    (ap (λ (x : Tree). After x a) e) r in (q.0, S.another sp q.1, q.2)

-- what a value keeps of an object identifier
abbrev Kept : List Token → ℕ → ℕ → Tree → Type 0
Kept tokens i k arcs = (content : Tree) × Spells tokens asn1 braces_content i k content × SaysArcs content arcs

abbrev end : Form
end = sign (codes "}")

kept_numbers : {tokens : List Token} {i j p m k : ℕ} {n : Token} {b t : Tree} → Spells tokens asn1 (Keep is_number) i j
    (Leaf n) → Spells tokens asn1 arc j p b → Spells tokens asn1 (Many (After Empty b) arc) p m t → Spells tokens asn1
    end m k Bare → Kept tokens i k (arcs_said (First (First (Leaf n))) t)
kept_numbers {n = n} {b = b} one two others ends =
    let q = take_away (After Empty b) Empty refl others in (
      Second (Second (First (Pair (First (Pair (Leaf n) (Pair b q.0))) Bare))),
      S.second (S.second (S.first (S.both (S.first (S.both one (S.both two q.1))) ends))),
      subst (λ (x : Tree). SaysArcs (Second (Second (First (Pair (First (Pair (Leaf n) (Pair b q.0))) Bare))))
          (arcs_said (First (First (Leaf n))) x)) (sym q.2) numbers,
    )

kept_number : {tokens : List Token} {i j m k : ℕ} {a t : Tree} → Spells tokens asn1 (Keep is_number) i j a → Spells
    tokens asn1 (Many Empty arc) j m t → Spells tokens asn1 end m k Bare → Kept tokens i k
    (arcs_said (First (First a)) t)
kept_number (S.keep {token = n} e ok next) S.no_more ends = (
  Second (First (Pair (After Empty (Second (number_said n))) Bare)),
  S.second (S.first (S.both (S.last (S.second (of_number (S.keep e ok next)))) ends)),
  number,
)
kept_number (S.keep e ok next) (S.another two others) ends = kept_numbers (S.keep e ok next) two others ends

kept_name_numbers : {tokens : List Token} {i j p q m k : ℕ} {a n : Token} {b t : Tree} → Spells tokens asn1
    (Keep is_name) i j (Leaf a) → Spells tokens asn1 (Keep is_number) j p (Leaf n) → Spells tokens asn1 arc p q b →
    Spells tokens asn1 (Many (After (After Empty (First (Leaf n))) b) arc) q m t → Spells tokens asn1 end m k Bare →
    Kept tokens i k (arcs_said (Second (Leaf a)) t)
kept_name_numbers {a = a} {n = n} {b = b} one two three others ends =
    let q = take_away (After (After Empty (First (Leaf n))) b) Empty refl others in (
      Second (Second (Second (Pair (Leaf a) (Pair (First (Pair (Leaf n) (Pair b q.0))) Bare)))),
      S.second (S.second (S.second (S.both one (S.both (S.first (S.both two (S.both three q.1))) ends)))),
      subst (λ (x : Tree). SaysArcs (Second (Second (Second (Pair (Leaf a)
          (Pair (First (Pair (Leaf n) (Pair b q.0))) Bare))))) (arcs_said (Second (Leaf a)) x)) (sym q.2)
          name_and_numbers,
    )

kept_name_number : {tokens : List Token} {i j p m k : ℕ} {a : Token} {b t : Tree} → Spells tokens asn1 (Keep is_name) i
    j (Leaf a) → Spells tokens asn1 (Keep is_number) j p b → Spells tokens asn1 (Many (After Empty (First b)) arc) p m
    t → Spells tokens asn1 end m k Bare → Kept tokens i k (arcs_said (Second (Leaf a)) t)
kept_name_number {a = a} one (S.keep {token = n} e ok next) S.no_more ends = (
  Second (First (Pair (After Empty (First (Pair (Leaf a) (number_said n)))) Bare)),
  S.second (S.first (S.both (S.last (S.first (S.both one (of_number (S.keep e ok next))))) ends)),
  name_and_number,
)
kept_name_number one (S.keep e ok next) (S.another three others) ends = kept_name_numbers one (S.keep e ok next)
    three others ends

kept_name_named : {tokens : List Token} {i j p m k : ℕ} {a : Token} {b t : Tree} → Spells tokens asn1 (Keep is_name) i
    j (Leaf a) → Spells tokens asn1 named_number j p b → Spells tokens asn1 (Many (After Empty (Second b)) arc) p m t →
    Spells tokens asn1 end m k Bare → Kept tokens i k (arcs_said (Second (Leaf a)) t)
kept_name_named {a = a} {b = b} one two others ends =
    let q = take_away (After Empty (Second b)) Empty refl others in (
      Second (Second (Second (Pair (Leaf a) (Pair (Second (Pair b q.0)) Bare)))),
      S.second (S.second (S.second (S.both one (S.both (S.second (S.both two q.1)) ends)))),
      subst (λ (x : Tree). SaysArcs (Second (Second (Second (Pair (Leaf a) (Pair (Second (Pair b q.0)) Bare)))))
          (arcs_said (Second (Leaf a)) x)) (sym q.2) name_and_named,
    )

kept_name : {tokens : List Token} {i j m k : ℕ} {a t : Tree} → Spells tokens asn1 (Keep is_name) i j a → Spells tokens
    asn1 (Many Empty arc) j m t → Spells tokens asn1 end m k Bare → Kept tokens i k (arcs_said (Second a) t)
kept_name (S.keep {token = a} e ok next) S.no_more ends = (
  Second (First (Pair (After Empty (Second (name_said a))) Bare)),
  S.second (S.first (S.both (S.last (S.second (of_name (S.keep e ok next)))) ends)),
  name,
)
kept_name (S.keep e ok next) (S.another (S.first two) others) ends = kept_name_number (S.keep e ok next) two
    others ends
kept_name (S.keep e ok next) (S.another (S.second two) others) ends = kept_name_named (S.keep e ok next) two
    others ends

kept_first : {tokens : List Token} {i j m k : ℕ} {a t : Tree} → Spells tokens asn1 first_arc i j a → Spells tokens asn1
    (Many Empty arc) j m t → Spells tokens asn1 end m k Bare → Kept tokens i k (arcs_said a t)
kept_first (S.first (S.first one)) others ends = kept_number one others ends
kept_first {t = t} (S.first (S.second {a = b} one)) others ends = (
  Second (Second (First (Pair (Second (Pair b t)) Bare))),
  S.second (S.second (S.first (S.both (S.second (S.both one others)) ends))),
  named,
)
kept_first (S.second one) others ends = kept_name one others ends

kept_ends : {tokens : List Token} {i j m k : ℕ} {a t e : Tree} → Spells tokens asn1 first_arc i j a → Spells tokens
    asn1 (Many Empty arc) j m t → Spells tokens asn1 end m k e → Kept tokens i k (Pair a (Pair t e))
kept_ends one others (S.marks here S.no_marks) = kept_first one others (S.marks here S.no_marks)

kept_arcs : {tokens : List Token} {i k : ℕ} {arcs : Tree} → Spells tokens asn1
    (Then first_arc (Then (Many Empty arc) end)) i k arcs → Kept tokens i k arcs
kept_arcs (S.both one (S.both others ends)) = kept_ends one others ends

pub identifiers_kept : IdentifiersAreKept
identifiers_kept tokens i k brace arcs s =
    let p = in_pair s in
    let q = kept_arcs p.2 in
    (q.0, of_braces p.1 q.1, q.2)

-- the parts of an object identifier from what is kept
arcs_spelt : {tokens : List Token} {i k : ℕ} {content arcs : Tree} → Spells tokens asn1 braces_content i k content →
    SaysArcs content arcs → Spells tokens asn1 (Then first_arc (Then (Many Empty arc) end)) i k arcs
arcs_spelt s number =
    let p = in_pair (in_first (in_second s)) in
    S.both (S.first (S.first (in_number (in_second (in_one p.1))))) (S.both S.no_more p.2)
arcs_spelt s name =
    let p = in_pair (in_first (in_second s)) in
    S.both (S.second (in_name (in_second (in_one p.1)))) (S.both S.no_more p.2)
arcs_spelt s name_and_number =
    let p = in_pair (in_first (in_second s)) in
    let q = in_pair (in_first (in_one p.1)) in
    S.both (S.second q.1) (S.both (S.another (S.first (in_number q.2)) S.no_more) p.2)
arcs_spelt s (numbers {b = b}) =
    let p = in_pair (in_first (in_second (in_second s))) in
    let q = in_pair (in_first p.1) in
    let r = in_pair q.2 in
    S.both (S.first (S.first q.1)) (S.both (S.another r.1 (put_before (After Empty b) r.2)) p.2)
arcs_spelt s named =
    let p = in_pair (in_first (in_second (in_second s))) in
    let q = in_pair (in_second p.1) in
    S.both (S.first (S.second q.1)) (S.both q.2 p.2)
arcs_spelt s (name_and_numbers {n = n} {b = b}) =
    let a = in_pair (in_second (in_second (in_second s))) in
    let p = in_pair a.2 in
    let q = in_pair (in_first p.1) in
    let r = in_pair q.2 in
    S.both (S.second a.1) (S.both (S.another (S.first q.1)
    (S.another r.1 (put_before (After (After Empty (First (Leaf n))) b) r.2))) p.2)
arcs_spelt s (name_and_named {m = m}) =
    let a = in_pair (in_second (in_second (in_second s))) in
    let p = in_pair a.2 in
    let q = in_pair (in_second p.1) in
    S.both (S.second a.1) (S.both (S.another (S.second q.1) (put_before (After Empty (Second m)) q.2)) p.2)

pub identifiers_spelt : IdentifiersAreSpelt
identifiers_spelt tokens i k brace content arcs s says =
    let p = in_braces s in
    S.both p.1 (arcs_spelt p.2 says)

-- parts in braces
kept_parts : {tokens : List Token} {i k : ℕ} {said : Tree} → Spells tokens asn1 (Or end parts_end) i k said →
    (content : Tree) × Spells tokens asn1 braces_content i k content × SaysParts content said
kept_parts (S.first (S.marks here S.no_marks)) = (First Bare, S.first (S.marks here S.no_marks), nothing)
kept_parts (S.second {a = p} s) = (Second (First p), S.second (S.first s), parts)

pub parts_kept : PartsAreKept
parts_kept tokens i k brace said s =
    let p = in_pair s in
    let q = kept_parts p.2 in
    (q.0, of_braces p.1 q.1, q.2)

listed_spelt : {tokens : List Token} {i k : ℕ} {content said : Tree} → Spells tokens asn1 braces_content i k content →
    SaysParts content said → Spells tokens asn1 (Or end parts_end) i k said
listed_spelt s nothing = S.first (in_first s)
listed_spelt s parts = S.second (in_first (in_second s))

pub parts_spelt : PartsAreSpelt
parts_spelt tokens i k brace content said s says =
    let p = in_braces s in
    S.both p.1 (listed_spelt p.2 says)
