-- The longest sign is the token where an octet begins one.
use Rattle.std.proofs.Common.{refl, sym}
use Rattle.std.proofs.lemmas.Bool.Decides.{not_from_Decides}
use Rattle.text_lex.specs.Lexemes.Spells.{sign}
use Rattle.text_lex.proofs.Pieces.{spelt_sign}
use Rattle.text_lex.proofs.lexing_pieces.piece_at.Goals as goal

pub returns-in-Sign : goal.returns-in-Sign
returns-in-Sign c =
    let begins = sym c.in-Sign.ensures in
    let signs = c.sign_end.ensures in (
      record {
        no_comment = not_from_Decides c.are_hyphens.result c.are_hyphens.ensures c.if-are_hyphens.false;
        spelt = sign refl begins signs.sign;
        longest = λ other m spelt. signs.longest m
            (spelt_sign c.args.text.now c.args.announced other c.args.at m begins spelt).1;
        within = signs.within;
      },
      signs.forward,
    )
