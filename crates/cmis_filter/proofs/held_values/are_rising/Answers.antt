use Rattle.std.proofs.Common.{sym, ◌∙◌}
use Rattle.cmis_filter.proofs.HalvesLaws.{is_rising, rising_is}
use Rattle.cmis_filter.proofs.held_values.are_rising.Goals as goal

pub returns : goal.returns
returns c = (
  λ e. rising_is c.args.attributes.now (sym c.do_rise.ensures ∙ e),
  λ h. c.do_rise.ensures ∙ is_rising c.args.attributes.now h,
)
