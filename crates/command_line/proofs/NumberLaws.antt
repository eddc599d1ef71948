-- NumberLaws: a word that is the text of a number is parsed as that number.
use Rattle.std.proofs.Common.{◌≡◌, ◌≤◌, ◌<◌, ◌^◌, ◌↔◌, ℕ, List, Bool, false, IsTrue, Result, Ok, Err, ap, sym, ◌∙◌, arith}
use Rattle.std.specs.Prelude.{decimal}
use Rattle.std.specs.Str.Parse.{ParsesUnsigned}
use Rattle.std.proofs.lemmas.Fmt.{parse-decimal}
use Rattle.command_line.specs.WordForms.{IsNumberIn}

abbrev SameAnswer : (E : Type 0) → Result ℕ E → Result ℕ E → Type 0
SameAnswer E one other = one ≡ other

one_number : {E : Type 0} (a b : ℕ) → SameAnswer E (Ok a) (Ok b) → a ≡ b
one_number a b same = ap (λ r. elim r [ Ok n ↦ n | Err e ↦ a ]) same

-- a word that is parsed as a number is in the form exactly where it is the text of that number and the number is within
pub parsed : {E : Type 0} (low high number : ℕ) (word : List ℕ) (r : Result ℕ E) (answer : Bool) → high < 2 ^ 64 →
    r ≡ Ok number → ParsesUnsigned 64 10 word r →
    IsTrue answer ↔ ((word ≡ decimal number) × (low ≤ number) × (number ≤ high)) →
    IsTrue answer ↔ IsNumberIn low high word
parsed low high number word r answer small is parses told = (
  λ yes. let found = told.0 yes in
      record { number = number; spelt = found.0; from = found.1; to = found.2 },
  λ form. let same = one_number number form.number (sym is ∙ parse-decimal 64 form.number word r
      (let to = form.to in omega (arith, to, small)) (let to = form.to in omega (arith, to, small)) form.spelt parses) in
      told.1 (
        form.spelt ∙ ap (λ n. decimal n) (sym same),
        let from = form.from in omega (arith, from, same),
        let to = form.to in omega (arith, to, same),
      ),
)

-- a word that isn't parsed is in no such form
pub unparsed : {E : Type 0} (low high : ℕ) (word : List ℕ) (r : Result ℕ E) (e : E) → high < 2 ^ 64 →
    r ≡ Err e → ParsesUnsigned 64 10 word r → IsNumberIn low high word → IsTrue false
unparsed low high word r e small is parses form = absurd (differ (sym is ∙ parse-decimal 64 form.number word r
    (let to = form.to in omega (arith, to, small)) (let to = form.to in omega (arith, to, small)) form.spelt parses))
  where
    differ : {E : Type 0} {e : E} {n : ℕ} → SameAnswer E (Err e) (Ok n) → ⊥
    differ same = absurd (cc)
