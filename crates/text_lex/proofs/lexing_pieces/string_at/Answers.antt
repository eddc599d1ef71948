-- The string that was found is the one that stands there.
use Rattle.std.proofs.Common.{arith, refl}
use Rattle.text_lex.specs.Lexemes.Spells.{string}
use Rattle.text_lex.proofs.Ends.{string_once}
use Rattle.text_lex.proofs.Pieces.{spelt_string}
use Rattle.text_lex.proofs.lexing_pieces.string_at.Goals as goal

pub returns-in-Some : goal.returns-in-Some
returns-in-Some c = λ announced no_comment begins.
    let rest = c.in-Some.ensures.cases in (
      record {
        no_comment = no_comment;
        spelt = string refl begins rest;
        longest = λ other m spelt. let same =
            string_once _ _ _ _ m rest (spelt_string c.args.text.now announced other c.args.at m begins spelt).1
            in omega arith;
        within = c.in-Some.ensures.within;
      },
      omega (arith, c.in-Some.ensures.forward),
    )
