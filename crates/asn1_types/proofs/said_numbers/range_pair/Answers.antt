-- A range.
use Rattle.std.proofs.Common.{rules, sym, w64}
use Rattle.std.proofs.Math.Facts.{to_z-of_z}
use Rattle.asn1_names.specs.TermViews.{module_terms}
use Rattle.asn1_types.proofs.SaidLaws.{range_of_one, range_of_two, same_bound}
use Rattle.asn1_types.proofs.said_numbers.range_pair.Goals as goal

pub returns-in-Some : goal.returns-in-Some
returns-in-Some c = λ of told.
    range_of_two (module_terms c.args.numbers.now) c.args.home of c.args.range.now c.in-Some.upper _ _ c.in-Some.is
    (same_bound (sym (to_z-of_z {w = w64} {z = c.said_bound-least.result} (search rules)))
    (c.said_bound-least.ensures of told))
    (same_bound (sym (to_z-of_z {w = w64} {z = c.said_bound.result} (search rules))) (c.said_bound.ensures of told))

pub returns-in-None : goal.returns-in-None
returns-in-None c = λ of told.
    range_of_one (module_terms c.args.numbers.now) c.args.home of c.args.range.now _ c.in-None.is
    (same_bound (sym (to_z-of_z {w = w64} {z = c.said_bound-least.result} (search rules)))
    (c.said_bound-least.ensures of told))
