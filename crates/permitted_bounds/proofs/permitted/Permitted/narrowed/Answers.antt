use Rattle.permitted_bounds.specs.FormNumbers.{number_of}
use Rattle.permitted_bounds.specs.LeftBounds.{has_form, is_within}
use Rattle.std.proofs.Common.{◌&&◌}
use Rattle.term_values.specs.Bounded.{allowed}
use Rattle.permitted_bounds.proofs.LeftLaws.{left_by_more}
use Rattle.permitted_bounds.proofs.permitted.Permitted.narrowed.Goals as goal

pub returns : goal.returns
returns c = λ syntax types known. record {
  bounds = known.bounds;
  own = known.own;
  same = λ n fits.
      let form = number_of c.args.self.form in
      left_by_more (is_within form n) types c.args.further.now (allowed c.in_ok-bounds.bounds n)
      (allowed c.args.self.bounds n) (has_form form n && is_within form n syntax)
      (c.in_ok-bounds.ensures n) (known.same n fits);
}
