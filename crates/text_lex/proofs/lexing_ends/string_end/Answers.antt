-- Each step goes on with the rest of the string, both ways.
use Rattle.std.proofs.Common.{arith, refl, sym, ◌∙◌}
use Rattle.text_lex.specs.Lexemes.StringRest.{octet, doubled, ends}
use Rattle.text_lex.proofs.Ends.{string_step, doubled_step}
use Rattle.text_lex.proofs.lexing_ends.string_end.Goals as goal

pub loop-at-preserved-then-text-at : goal.loop-at-preserved-then-text-at
loop-at-preserved-then-text-at c = record {
  forward = omega arith;
  string = λ k rest. c.loop-at.invariant.string k (octet c.loop-at-test.true c.if-text-at.true rest);
  whole = λ k rest. string_step _ _ _ k c.if-text-at.true (c.loop-at.invariant.whole k rest);
}

pub loop-at-preserved : goal.loop-at-preserved
loop-at-preserved c =
    let again = sym c.octet_at.ensures ∙ c.if-octet_at-delimiter.true in
    record {
      forward = omega arith;
      string = λ k rest. c.loop-at.invariant.string k (doubled c.loop-at-test.true c.if-text-at.false again rest);
      whole = λ k rest. doubled_step _ _ _ k c.if-text-at.false again (c.loop-at.invariant.whole k rest);
    }

pub returns-else-octet_at-delimiter-clause-cases : goal.returns-else-octet_at-delimiter-clause-cases
returns-else-octet_at-delimiter-clause-cases c =
    c.loop-at.invariant.string _
    (ends c.loop-at-test.true c.if-text-at.false
    (λ again. c.if-octet_at-delimiter.false (c.octet_at.ensures ∙ again)) refl)
