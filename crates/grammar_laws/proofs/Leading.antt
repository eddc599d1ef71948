-- A token with which a form may begin, with what stands behind it, is one of the form's first tokens.
use Rattle.std.proofs.Common.{◌≡◌, ℕ, Bool, true, false, ◌&&◌, List, [], ◌∷◌, Option, None, Some, refl}
use Rattle.token_grammar.specs.declared.token.Token.{Token}
use Rattle.token_grammar.specs.Form.{Form, Marks, Keep, Then, Or, Maybe, Listed, Many, AnyOrder, Named, Slots, Slot}
use Rattle.token_grammar.specs.Form.{NoSlots}
use Rattle.token_grammar.specs.Spelling.{passes}
use Rattle.token_grammar.proofs.Heads.{or_left, or_right}
use Rattle.token_grammar.proofs.Known.{first_so, second_so}
use Rattle.grammar_laws.specs.Opening.{Opening, past, front, never, token_opening, in_turn, one_of, repeated, separated}
use Rattle.grammar_laws.specs.Opening.{marks_opening, opening, clauses_opening}
use Rattle.grammar_laws.proofs.Fronts.{past_left, past_right, or_both}

pub record Leads (p : Opening) : Type 0 where
  pub alone : (t : Token) → p.alone t ≡ true → p.first t ≡ true
  pub two : (t u : Token) → p.two t u ≡ true → p.first t ≡ true

-- by the first test, or by the second one where the part may be missing
past_cases : (s a b : Bool) {c : Bool} → (a ≡ true → c ≡ true) → (s ≡ true → b ≡ true → c ≡ true)
    → past s a b ≡ true → c ≡ true
past_cases true true b one two e = one refl
past_cases true false b one two e = two refl e
past_cases false a b one two e = one e

in_turn_leads : (p q : Opening) → Leads p → Leads q → Leads (in_turn p q)
in_turn_leads p q one two = record {
  alone = λ t. past_cases p.empty (q.empty && p.alone t) (q.alone t)
      (λ e. past_left p.empty (p.first t) (q.first t) (one.alone t (second_so q.empty (p.alone t) e)))
      (λ empty e. past_right p.empty (p.first t) (q.first t) empty (two.alone t e));
  two = λ t u. past_cases p.empty (past p.single (p.two t u) (p.alone t && q.first u)) (q.two t u)
      (λ h. past_left p.empty (p.first t) (q.first t) (past_cases p.single (p.two t u) (p.alone t && q.first u)
      (one.two t u) (λ single e. one.alone t (first_so (p.alone t) (q.first u) e)) h))
      (λ empty e. past_right p.empty (p.first t) (q.first t) empty (two.two t u e));
}

one_of_leads : (p q : Opening) → Leads p → Leads q → Leads (one_of p q)
one_of_leads p q one two = record {
  alone = λ t. or_both (p.alone t) (q.alone t) (λ e. or_left (p.first t) (q.first t) (one.alone t e))
      (λ e. or_right (p.first t) (q.first t) (two.alone t e));
  two = λ t u. or_both (p.two t u) (q.two t u) (λ e. or_left (p.first t) (q.first t) (one.two t u e))
      (λ e. or_right (p.first t) (q.first t) (two.two t u e));
}

repeated_leads : (p : Opening) → Leads p → Leads (repeated p)
repeated_leads p one = record {
  alone = one.alone;
  two = λ t u. past_cases p.single (p.two t u) (p.alone t && p.first u) (one.two t u)
      (λ single e. one.alone t (first_so (p.alone t) (p.first u) e));
}

separated_leads : (separator : Token → Bool) (p : Opening) → Leads p → Leads (separated separator p)
separated_leads separator p one = record {
  alone = λ t. or_both p.empty (p.alone t) (or_left p.empty (p.first t))
      (λ e. or_right p.empty (p.first t) (one.alone t e));
  two = λ t u. or_both p.empty (past p.single (p.two t u) (p.alone t && separator u)) (or_left p.empty (p.first t))
      (λ h. or_right p.empty (p.first t) (past_cases p.single (p.two t u) (p.alone t && separator u) (one.two t u)
      (λ single e. one.alone t (first_so (p.alone t) (separator u) e)) h));
}

token_leads : (test : Token → Bool) → Leads (token_opening test)
token_leads test = record { alone = λ t e. e; two = λ t u e. absurd (cc e) }

pub never_leads : Leads never
never_leads = record { alone = λ t e. e; two = λ t u e. e }

marks_lead : (tests : List (Token → Bool)) → Leads (marks_opening tests)
marks_lead [] = record { alone = λ t e. e; two = λ t u e. e }
marks_lead (test ∷ []) = token_leads test
marks_lead (test ∷ (next ∷ tests)) = in_turn_leads (token_opening test) (marks_opening (next ∷ tests))
    (token_leads test) (marks_lead (next ∷ tests))

mutual
  pub leads : (named : ℕ → Opening) → ((n : ℕ) → Leads (named n)) → (f : Form) → Leads (opening named f)
  leads named all (Marks tests) = marks_lead tests
  leads named all (Keep test) = token_leads test
  leads named all (Then f g) = in_turn_leads (opening named f) (opening named g) (leads named all f) (leads named all g)
  leads named all (Or f g) = one_of_leads (opening named f) (opening named g) (leads named all f) (leads named all g)
  leads named all (Maybe f) = record { alone = (leads named all f).alone; two = (leads named all f).two }
  leads named all (Listed separator s f) = separated_leads separator (opening named f) (leads named all f)
  leads named all (Many s f) = repeated_leads (opening named f) (leads named all f)
  leads named all (AnyOrder s) = repeated_leads (clauses_opening named s) (clauses_lead named all s)
  leads named all (Named n) = all n

  pub clauses_lead : (named : ℕ → Opening) → ((n : ℕ) → Leads (named n)) → (s : Slots)
      → Leads (clauses_opening named s)
  clauses_lead named all NoSlots = never_leads
  clauses_lead named all (Slot needed f came s) = one_of_leads (opening named f) (clauses_opening named s)
      (leads named all f) (clauses_lead named all s)

next_leads : (p : Opening) (t : Token) (u : Option Token) → Leads p → passes (p.two t) u ≡ true → p.first t ≡ true
next_leads p t None one e = absurd (cc e)
next_leads p t (Some u) one e = one.two t u e

-- the first one of the tokens with which a form begins
pub front_first : {p : Opening} (t : Token) (u : Option Token) → Leads p → front p t u ≡ true → p.first t ≡ true
front_first {p} t u one e = or_both (p.alone t) (passes (p.two t) u) (one.alone t) (next_leads p t u one) e
