use Rattle.std.proofs.Common.{◌==◌, None, length, sym, ap, ◌∙◌, rules}
use Rattle.std.proofs.lemmas.Bool.{eqb-true}
use Rattle.std.proofs.lemmas.List.{nil_from_length}
use Rattle.script_lines.specs.LineParts.{IsLineIn, IsWithout}
use Rattle.script_lines.proofs.ScriptLaws.{no_line, no_line_feed, not_empty}
use Rattle.script_lines.proofs.script_text.read_script_text.Goals as goal

-- the next line is not in the form
pub returns-in-None : goal.returns-in-None
returns-in-None c =
    let rest = c.loop-words.rest.now in
    let words = c.in-Some.words.now in
    let others = c.in-Some.others.now in
    let split = c.in-Some.ensures.found in
    let other : IsLineIn words None = search rules in
    record {
      lines = (
        rest,
        record {
          spelt = c.loop-words.invariant.spelt;
          each = c.loop-words.invariant.each;
          last = no_line rest words others split other;
        },
        (λ yes. absurd (cc), λ e. absurd (not_empty rest words others split e)),
      );
    }

-- no line feed is left
pub returns : goal.returns
returns c =
    let rest = c.loop-words.rest.now in
    let without : IsWithout 10 rest = search rules in
    record {
      lines = (
        rest,
        record {
          spelt = c.loop-words.invariant.spelt;
          each = c.loop-words.invariant.each;
          last = no_line_feed rest without;
        },
        (
          λ yes. nil_from_length rest (eqb-true (length rest) 0 (sym c.is_empty.ensures ∙ yes)),
          λ e. c.is_empty.ensures ∙ ap (λ l. length l == 0) e,
        ),
      );
    }
