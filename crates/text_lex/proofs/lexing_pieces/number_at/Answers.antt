-- A run of digits spells a number.
use Rattle.std.proofs.Common.{◌<◌, ◌^◌, slice_range, arith, rules, refl, sym, subst}
use Rattle.std.specs.Str.Parse.{digits_value}
use Rattle.text_lex.specs.Lexemes.Spells.{number}
use Rattle.text_lex.specs.declared.lexing_octets.Start.TheVariants.{Digit}
use Rattle.text_lex.proofs.Digits.{run_numeral, digit_begins}
use Rattle.text_lex.proofs.Pieces.{fault_at, run_once, run_forward, spelt_number}
use Rattle.text_lex.proofs.lexing_pieces.number_at.Goals as goal

pub returns-in-Some : goal.returns-in-Some
returns-in-Some c = λ announced no_comment begins.
    let text = c.args.text.now in
    let run = c.run_end-end.ensures.run in
    let is_digit = digit_begins announced _ begins in
    let found = c.in-Some.ensures.found in
    let small : c.in-Some._number < 2 ^ 64 = search rules in (
      record {
        no_comment = no_comment;
        spelt = number refl begins run (subst (λ n. n < 2 ^ 64) found.1 small);
        longest = λ other m spelt. let same =
            run_once _ text c.args.at _ m run (spelt_number text announced other c.args.at m begins spelt).1
            in omega arith;
        within = run.within;
      },
      run_forward _ text c.args.at _ run c.requires is_digit,
    )

pub returns-in-None : goal.returns-in-None
returns-in-None c = λ announced no_comment begins.
    let text = c.args.text.now in
    let at = c.args.at in
    let run = c.run_end-end.ensures.run in
    let forward = run_forward _ text at _ run c.requires (digit_begins announced _ begins) in
    fault_at text announced at Digit c.requires no_comment begins (λ e. cc) (λ other k spelt.
    let found = spelt_number text announced other at k begins spelt in
    let same = run_once _ text at _ k run found.1 in
    c.in-None.ensures.none (run_numeral text at _ run forward)
    (subst (λ m. digits_value 10 (slice_range text at m) < 2 ^ 64) (sym same) found.2))
