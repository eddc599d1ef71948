use Rattle.std.proofs.Common.{◌<◌, ◌^◌, arith}
use Rattle.command_line.proofs.NumberLaws.{parsed, unparsed}
use Rattle.command_line.proofs.numbers.is_number_in.Goals as goal

pub returns-in-Ok : goal.returns-in-Ok
returns-in-Ok c =
    let fits = c.ranges.high.fits in
    let small : c.args.high < 2 ^ 64 = omega (arith, fits) in
    parsed c.args.low c.args.high c.in-Ok.number c.args.word.now c.parse.result c.is_text_within.result small c.in-Ok.is
    c.parse.ensures.value.0 c.is_text_within.ensures

pub returns-in-Err : goal.returns-in-Err
returns-in-Err c =
    let fits = c.ranges.high.fits in
    let small : c.args.high < 2 ^ 64 = omega (arith, fits) in (
      λ yes. absurd (cc),
      unparsed c.args.low c.args.high c.args.word.now c.parse.result c.in-Err.field-0 small c.in-Err.is
          c.parse.ensures.value.0,
    )
