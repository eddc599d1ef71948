use Rattle.std.proofs.Common.{sym, ◌∙◌, arith}
use Rattle.std.proofs.lemmas.List.{take_rest}
use Rattle.value_match.proofs.PieceLaws.{begins, begins_not, too_late, found_any, found_none, finishes, finishes_not}
use Rattle.value_match.proofs.substrings.end_of_piece.Goals as goal

pub returns-then-from-gt0 : goal.returns-then-from-gt0
returns-then-from-gt0 c = too_late c.args.text.now c.args.piece.now c.args.kind c.args.from c.in-0.is (omega arith)

pub returns-then-starts_with : goal.returns-then-starts_with
returns-then-starts_with c =
    begins c.args.text.now c.args.piece.now c.args.kind c.args.from c.in-0.is (omega arith)
    (c.starts_with.ensures.bound c.if-starts_with.true) (sym c.starts_with.ensures.value ∙ c.if-starts_with.true)

pub returns-else-starts_with : goal.returns-else-starts_with
returns-else-starts_with c =
    begins_not c.args.text.now c.args.piece.now c.args.kind c.args.from c.in-0.is
    (sym c.starts_with.ensures.value ∙ c.if-starts_with.false)

pub returns-in-Some : goal.returns-in-Some
returns-in-Some c =
    found_any c.args.text.now c.args.piece.now _ c.args.kind c.args.from c.in-Some.at
    (take_rest c.args.text.now c.args.from) c.in-1.is c.requires c.in-Some.ensures

pub returns-in-None : goal.returns-in-None
returns-in-None c =
    found_none c.args.text.now c.args.piece.now _ c.args.kind c.args.from (take_rest c.args.text.now c.args.from)
    c.in-None.ensures

pub returns-then-ends_with : goal.returns-then-ends_with
returns-then-ends_with c =
    finishes c.args.text.now c.args.piece.now _ c.args.kind c.args.from (take_rest c.args.text.now c.args.from)
    c.in-2.is c.requires (c.ends_with.ensures.bound c.if-ends_with.true)
    (sym c.ends_with.ensures.value ∙ c.if-ends_with.true)

pub returns-else-ends_with : goal.returns-else-ends_with
returns-else-ends_with c =
    finishes_not c.args.text.now c.args.piece.now _ c.args.kind c.args.from (take_rest c.args.text.now c.args.from)
    c.in-2.is c.requires (sym c.ends_with.ensures.value ∙ c.if-ends_with.false)
