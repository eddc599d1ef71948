-- Each step goes on with the rest, both ways.
use Rattle.std.proofs.Common.{◌+◌, arith, refl, sym, ap, ◌∙◌, ⊎_elim}
use Rattle.std.proofs.lemmas.Bool.{and_parts, eqb-true, cases_lt}
use Rattle.text_lex.specs.Octets.{is_word_octet}
use Rattle.text_lex.specs.Lexemes.WordRest.{ends, octet, hyphen}
use Rattle.text_lex.proofs.Ends.{octet_inside, word_step, hyphen_step, word_past, nothing_is_no_word_octet}
use Rattle.text_lex.proofs.lexing_ends.word_end.Goals as goal

pub loop-at-preserved-then-is_word_octet : goal.loop-at-preserved-then-is_word_octet
loop-at-preserved-then-is_word_octet c =
    let is_octet = sym c.is_word_octet.ensures ∙ c.if-is_word_octet.true in
    record {
      forward = omega arith;
      within = omega arith;
      word = λ k rest. c.loop-at.invariant.word k (octet is_octet rest);
      longest = λ k le rest. word_step _ _ k is_octet le (c.loop-at.invariant.longest k (omega arith) rest);
    }

pub loop-at-preserved : goal.loop-at-preserved
loop-at-preserved c =
    let both = and_parts _ _ c.if-text-at.true in
    let is_hyphen = eqb-true _ _ both.0 in
    let no_octet = sym c.is_word_octet.ensures ∙ c.if-is_word_octet.false in
    let is_octet = sym (c.is_word_octet-else-is_word_octet.ensures ∙ ap is_word_octet c.octet_at.ensures) ∙ both.1 in
    let inside = octet_inside is_word_octet c.args.text.now (c.loop-at.at + 1) nothing_is_no_word_octet is_octet in
    record {
      forward = omega arith;
      within = omega arith;
      word = λ k rest. c.loop-at.invariant.word k (hyphen is_hyphen is_octet rest);
      longest = λ k le rest. hyphen_step _ _ k no_octet le (c.loop-at.invariant.longest k (omega arith) rest);
    }

pub returns-else-text-at-clause-word : goal.returns-else-text-at-clause-word
returns-else-text-at-clause-word c = c.loop-at.invariant.word _ (ends refl)

pub returns-clause-word : goal.returns-clause-word
returns-clause-word c = c.loop-at.invariant.word _ (ends refl)

pub returns-clause-longest : goal.returns-clause-longest
returns-clause-longest c =
    λ k rest. ⊎_elim (λ lt. omega arith)
    (λ ge. let e = word_past c.args.text.now c.loop-at.at k (omega arith) (c.loop-at.invariant.longest k ge rest) in
    omega arith) (cases_lt k c.loop-at.at)
