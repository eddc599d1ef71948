-- The identifier of the attribute, which has no name.
use Rattle.gdmo_begun_names.proofs.FilterLaws.{piece_unnamed}
use Rattle.gdmo_begun_names.proofs.WalkLaws.{is_nil}
use Rattle.gdmo_begun_names.proofs.filter_names.piece_part.Goals as goal

pub returns-then-is_empty : goal.returns-then-is_empty
returns-then-is_empty c = piece_unnamed c.args.name.now
    (is_nil c.args.name.now c.is_empty.result c.is_empty.ensures c.if-is_empty.true)
