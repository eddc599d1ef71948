-- From one place tokens spell a form that is decided in one way, but where it may go on.
use Rattle.std.proofs.Common.{◌≡◌, ℕ, ◌+◌, Bool, true, false, ◌||◌, List, [], ◌∷◌, Option, None, Some, inl, inr, refl}
use Rattle.std.proofs.Common.{sym, ◌∙◌, ap, subst, slice_get}
use Rattle.token_grammar.specs.declared.token.Token.{Token}
use Rattle.token_grammar.specs.Form.{Form, Tree, Leaf, First, Second, Present, Numbered, Marks, Keep, Then, Or, Maybe}
use Rattle.token_grammar.specs.Form.{Listed, Many, AnyOrder, Named, After, form_at, filled}
use Rattle.token_grammar.specs.Spelling as S
use Rattle.token_grammar.specs.Spelling.{At, passes, Spells}
use Rattle.token_grammar.proofs.Heads.{or_left, or_right}
use Rattle.token_grammar.proofs.Places.{spells_from}
use Rattle.grammar_laws.specs.Opening.{Opening, front, in_turn, repeated, separated, token_opening, marks_opening}
use Rattle.grammar_laws.specs.Opening.{opening, clauses_opening}
use Rattle.grammar_laws.specs.Decided.{AllDecided, AreDecided, IsDecided, meets, Once, DecidedFormsSpellOnce}
use Rattle.grammar_laws.proofs.Fronts.{Front, past_left, past_right, front_at, fronts_in_turn, spells_front}
use Rattle.grammar_laws.proofs.Fronts.{filled_opening}
use Rattle.grammar_laws.proofs.Meeting.{meets_wider, front_full, alternatives_meet, on_first, on_second}
use Rattle.grammar_laws.proofs.Turns.{once_wider, once_in_turn, repeated_front, separator_front, last_or_more, once_sym}
use Rattle.grammar_laws.proofs.ClausesOnce.{decided_at, clause_front, clause_on, one_clause, filled_decided}

leaf_once : {x : Option Token} {t u : Token} → x ≡ Some t → x ≡ Some u → Leaf t ≡ Leaf u
leaf_once p q = cc (p, q)

-- a part that is there goes on, or begins where it isn't there
option_on : (p : Opening) (t : Token) (u : Option Token) → p.on t u ≡ true → (p.on t u || front p t u) ≡ true
option_on p t u e = or_left (p.on t u) (front p t u) e

option_front : (p : Opening) (t : Token) (u : Option Token) → front p t u ≡ true → (p.on t u || front p t u) ≡ true
option_front p t u e = or_right (p.on t u) (front p t u) e

marks_on : (test : Token → Bool) (tests : List (Token → Bool)) (t : Token) (u : Option Token)
    → (marks_opening tests).on t u ≡ true → (marks_opening (test ∷ tests)).on t u ≡ true
marks_on test [] t u e = e
marks_on test (next ∷ tests) t u e =
    past_left (marks_opening (next ∷ tests)).empty ((marks_opening (next ∷ tests)).on t u) false e

once : {tokens : List Token} {grammar : ℕ → Form} {named : ℕ → Opening} → AllDecided grammar named
    → (f : Form) {i j k : ℕ} {a b : Tree} → IsDecided named f → Spells tokens grammar f i j a
    → Spells tokens grammar f i k b → Once tokens (opening named f).on j a k b
once all (Marks []) d S.no_marks S.no_marks = inl (refl, refl)
once {named = named} all (Marks (test ∷ tests)) d (S.marks here others) (S.marks here' others') =
    once_wider (marks_opening (test ∷ tests)).on (marks_on test tests) (λ e. e)
    (once all (Marks tests) tt others others')
once all (Keep test) d (S.keep get ok next) (S.keep get' ok' next') = inl (next ∙ sym next', leaf_once get get')
once {tokens} {grammar} {named} all (Then f g) d (S.both one two) (S.both {k = k'} {b = b'} one' two') = let p =
    opening named f in let q = opening named g in once_in_turn p.on q.on (in_turn p q).on q d.2 (λ empty t u e.
    past_right q.empty (q.on t u) (p.on t u) empty e) (λ t u e. past_left q.empty (q.on t u) (p.on t u) e) (λ e h. cc
    (e, h)) (spells_front all two) (spells_front all two') (once all f d.0 one one') (λ at same. once all g d.1 two
    (spells_from (sym at) two'))
once {named = named} all (Or f g) d (S.first one) (S.first one') = once_wider (opening named (Or f g)).on (on_first
    (opening named f) (opening named g)) (ap First) (once all f d.0 one one')
once {named = named} all (Or f g) d (S.second one) (S.second one') = once_wider (opening named (Or f g)).on (on_second
    (opening named f) (opening named g)) (ap Second) (once all g d.1 one one')
once {named = named} all (Or f g) d (S.first one) (S.second one') = inr (alternatives_meet (opening named f) (opening
    named g) d.2 (spells_front all one) (spells_front all one'))
once {named = named} all (Or f g) d (S.second one) (S.first one') = once_sym (opening named (Or f g)).on (inr
    (alternatives_meet (opening named f) (opening named g) d.2 (spells_front all one') (spells_front all one)))
once all (Maybe f) d S.absent S.absent = inl (refl, refl)
once {named = named} all (Maybe f) d S.absent (S.present one) = inr (inl (meets_wider (opening named (Maybe f)).on
    (option_front (opening named f)) (front_full d.1 (spells_front all one))))
once {named = named} all (Maybe f) d (S.present one) S.absent = inr (inr (meets_wider (opening named (Maybe f)).on
    (option_front (opening named f)) (front_full d.1 (spells_front all one))))
once {named = named} all (Maybe f) d (S.present one) (S.present one') = once_wider (opening named (Maybe f)).on
    (option_on (opening named f)) (ap Present) (once all f d.0 one one')
once {named = named} all (Listed separator s f) d (S.last one) (S.last one') = once_wider (opening named (Listed
    separator s f)).on (λ t u e. or_right (separator t) ((opening named f).on t u) e) (ap (After s)) (once all f d.0
    one one')
once {named = named} all (Listed separator s f) d (S.last one) (S.more one' here others) = inr (inl (last_or_more
    separator (opening named f) d.1 here (once all f d.0 one one')))
once {named = named} all (Listed separator s f) d (S.more one here others) (S.last one') = inr (inr (last_or_more
    separator (opening named f) d.1 here (once_sym (opening named f).on (once all f d.0 one one'))))
once {tokens} {grammar} {named} all (Listed separator s f) d (S.more {a = a} {j = j} one here others) (S.more {b = b'}
    {k = k'} one' here' others') = let p = opening named f in let q = in_turn (token_opening separator) (separated
    separator p) in once_in_turn p.on (separated separator p).on (separated separator p).on q (λ t u e h. d.1 t u e
    (separator_front separator (separated separator p) t u h)) (λ empty t u e. or_right (separator t) (p.on t u) e) (λ
    t u e. e) (λ e h. h) (fronts_in_turn (front_at separator here) (spells_front all others)) (fronts_in_turn
    (front_at separator here') (spells_front all others')) (once all f d.0 one one') (λ at same. once all (Listed
    separator (After s a) f) d others (subst (λ (x : Tree). Spells tokens grammar (Listed separator (After s x) f) (j
    + 1) k' b') (sym same) (spells_from (ap (λ n. n + 1) (sym at)) others')))
once all (Many s f) d S.no_more S.no_more = inl (refl, refl)
once {named = named} all (Many s f) d S.no_more (S.another one others) = inr (inl (meets_wider (opening named (Many s
    f)).on (option_front (opening named f)) (front_full d.1.full (spells_front all one))))
once {named = named} all (Many s f) d (S.another one others) S.no_more = inr (inr (meets_wider (opening named (Many s
    f)).on (option_front (opening named f)) (front_full d.1.full (spells_front all one))))
once {tokens} {grammar} {named} all (Many s f) d (S.another {a = a} {j = j} one others) (S.another {b = b'} {k = k'}
    one' others') = let p = opening named f in once_in_turn p.on (repeated p).on (repeated p).on (repeated p) (λ t u e
    h. d.1.apart t u e (repeated_front p t u h)) (λ empty. option_on p) (λ t u e. e) (λ e h. h) (spells_front all
    others) (spells_front all others') (once all f d.0 one one') (λ at same. once all (Many (After s a) f) d others
    (subst (λ (x : Tree). Spells tokens grammar (Many (After s x) f) j k' b') (sym same) (spells_from (sym at)
    others')))
once all (AnyOrder s) d (S.enough complete e) (S.enough complete' e') = inl (refl, e ∙ sym e')
once {named = named} all (AnyOrder s) d (S.enough complete e) (S.clause n still one others) = inr (inl (meets_wider
    (opening named (AnyOrder s)).on (λ t u h. option_front (clauses_opening named s) t u (clause_front named n s still
    t u h)) (front_full (decided_at named n s d still).ends.full (spells_front all one))))
once {named = named} all (AnyOrder s) d (S.clause n still one others) (S.enough complete e) = inr (inr (meets_wider
    (opening named (AnyOrder s)).on (λ t u h. option_front (clauses_opening named s) t u (clause_front named n s still
    t u h)) (front_full (decided_at named n s d still).ends.full (spells_front all one))))
once {tokens} {grammar} {named} all (AnyOrder s) {i = i} d (S.clause {j = j} {k = k} {a = a} {b = b} n still one
    others) (S.clause {j = j'} {k = k'} {a = a'} {b = b'} m still' one' others') =
    let c = clauses_opening named s in
    let clause = decided_at named n s d still in
    let same_clause : m ≡ n = one_clause named n m s (front c) d still still' (front_full clause.ends.full
    (spells_front all one)) (front_full (decided_at named m s d still').ends.full (spells_front all one')) in
    let one_there = subst (λ (x : ℕ). Spells tokens grammar (form_at x s) i j' a') same_clause one' in
    let others_there = subst (λ (x : ℕ). Spells tokens grammar (AnyOrder (filled x a' s)) j' k' b') same_clause
    others' in
    let p = opening named (form_at n s) in
    once_in_turn p.on (repeated c).on (repeated c).on (repeated c) (λ t u e h. clause.ends.apart t u e (repeated_front
    c t u h)) (λ empty t u e. option_on c t u (clause_on named n s still t u e)) (λ t u e. e) (λ e h. h)
    (subst (λ x. Front tokens (repeated x) j k) (filled_opening named n a s) (spells_front all others))
    (subst (λ x. Front tokens (repeated x) j' k') (filled_opening named n a' s) (spells_front all others_there))
    (once all (form_at n s) clause.decided one one_there)
    (λ at same. subst (λ x. Once tokens (repeated x).on k b k' b') (filled_opening named n a s) (once all (AnyOrder
    (filled n a s)) (subst (λ x. AreDecided named (filled n a s) (front x)) (sym (filled_opening named n a s))
    (filled_decided named n a s (front c) d)) others (subst (λ (x : Tree). Spells tokens grammar (AnyOrder (filled
    n x s)) j k' b') (sym same) (spells_from (sym at) others_there))))
once {grammar = grammar} {named = named} all (Named n) d (S.named one) (S.named one') = once_wider (named n).on
    (all.on n) (ap (Numbered 0)) (once all (grammar n) (all.decided n) one one')

pub decided_forms_spell_once : DecidedFormsSpellOnce
decided_forms_spell_once tokens grammar named all f d i j k a b one two = once all f d one two

closed_end : (x y : Option Token) → meets (λ t u. false) x y ≡ true → ⊥
closed_end None y e = cc e
closed_end (Some t) y e = cc e

-- a form that goes on with no token is spelt in one way
pub closed_once : (tokens : List Token) {j k : ℕ} {a b : Tree} → Once tokens (λ t u. false) j a k b
    → (j ≡ k) × (a ≡ b)
closed_once tokens (inl e) = e
closed_once tokens {j} (inr (inl here)) =
    absurd (closed_end (slice_get tokens j) (slice_get tokens (j + 1)) here.met)
closed_once tokens {k = k} (inr (inr here)) =
    absurd (closed_end (slice_get tokens k) (slice_get tokens (k + 1)) here.met)
