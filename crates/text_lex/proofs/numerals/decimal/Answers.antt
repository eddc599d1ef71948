-- What the digits so far spell is no more than what all spell.
use Rattle.std.proofs.Common.{◌≡◌, ◌+◌, get_or, arith}
use Rattle.std.proofs.lemmas.Int.Digits.{digits_more, digits_value_more}
use Rattle.std.proofs.lemmas.Str.Parse.{digit_at}
use Rattle.std.specs.Char.{digit_value}
use Rattle.text_lex.proofs.NumeralLaws.{digit_is, digits_front}
use Rattle.text_lex.proofs.numerals.decimal.Goals as goal

pub returns-then-not-is_ascii_digit-clause-none : goal.returns-then-not-is_ascii_digit-clause-none
returns-then-not-is_ascii_digit-clause-none c = λ numeral small.
    let digit = digit_at c.args.digits.now c.loop-digit.digit-index numeral.1 c.loop-digit-test.true in
    grind (arith, digit, c.if-not-is_ascii_digit.ensures.cases)

pub returns-in_err-tens-clause-none : goal.returns-in_err-tens-clause-none
returns-in_err-tens-clause-none c = rw c.from_residual.ensures (λ numeral small.
    let front = digits_front c.args.digits.now c.loop-digit.digit-index c.loop-digit-test.true in
    let value = c.loop-digit.invariant.value in
    c.in_err-tens.ensures (omega (arith, value, front)))

pub returns-in_err-number-clause-none : goal.returns-in_err-number-clause-none
returns-in_err-number-clause-none c = rw c.from_residual-in_err-number.ensures (λ numeral small.
    let front = digits_front c.args.digits.now c.loop-digit.digit-index c.loop-digit-test.true in
    let value = c.loop-digit.invariant.value in
    let digit = digit_at c.args.digits.now c.loop-digit.digit-index numeral.1 c.loop-digit-test.true in
    let read = digit_is _ digit.0 digit.1 in
    c.in_err-number.ensures (omega (arith, value, front, read, c.in_ok-tens.ensures)))

pub loop-digit-preserved : goal.loop-digit-preserved
loop-digit-preserved c =
    let ds = c.args.digits.now in
    let i = c.loop-digit.digit-index in
    let more = digits_value_more 10 ds i c.loop-digit-test.true in
    let value = c.loop-digit.invariant.value in
    let range = c.if-not-is_ascii_digit.ensures.cases in
    let read : digit_value (get_or ds i 0) + 48 ≡ get_or ds i 0 =
    digit_is (get_or ds i 0) (omega (arith, range)) (omega (arith, range)) in
    record {
      digits = digits_more 10 ds i c.loop-digit-test.true c.loop-digit.invariant.digits (omega (arith, read, range));
      value = omega (arith, more, value, read, range, c.in_ok-tens.ensures, c.in_ok-number.ensures);
    }
