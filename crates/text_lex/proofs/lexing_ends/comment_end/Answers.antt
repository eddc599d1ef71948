-- Each step goes on with the rest of the comment.
use Rattle.std.proofs.Common.{arith, refl}
use Rattle.std.proofs.lemmas.Bool.Decides.{not_from_Decides}
use Rattle.text_lex.specs.Comments.CommentRest.{hyphens, line_end, text_end, octet}
use Rattle.text_lex.proofs.lexing_ends.comment_end.Goals as goal

pub returns-then-text-at-eq-LINE_FEED-clause-comment : goal.returns-then-text-at-eq-LINE_FEED-clause-comment
returns-then-text-at-eq-LINE_FEED-clause-comment c =
    c.loop-at.invariant.rest _ (line_end c.if-text-at-eq-LINE_FEED.true refl)

pub returns-then-are_hyphens-clause-comment : goal.returns-then-are_hyphens-clause-comment
returns-then-are_hyphens-clause-comment c =
    c.loop-at.invariant.rest _ (hyphens (c.are_hyphens.ensures.0 c.if-are_hyphens.true) refl)

pub loop-at-preserved : goal.loop-at-preserved
loop-at-preserved c =
    let no_hyphens = not_from_Decides c.are_hyphens.result c.are_hyphens.ensures c.if-are_hyphens.false in
    record {
      forward = omega arith;
      within = omega arith;
      rest = λ k rest. c.loop-at.invariant.rest k
          (octet c.loop-at-test.true no_hyphens c.if-text-at-eq-LINE_FEED.false rest);
    }

pub returns-clause-comment : goal.returns-clause-comment
returns-clause-comment c = c.loop-at.invariant.rest _ (text_end (omega arith) refl)
