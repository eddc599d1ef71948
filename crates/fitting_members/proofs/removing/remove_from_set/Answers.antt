-- The members of a list, or the value as it was.
use Rattle.std.proofs.Common.{◌∙◌, sym}
use Rattle.std.specs.List.{list_all}
use Rattle.term_values.specs.FitTest.{value_fits}
use Rattle.term_values.specs.Syntaxes.TypeSyntax.{SetOf}
use Rattle.fitting_members.proofs.ChangeLaws.{both_hold}
use Rattle.fitting_members.proofs.removing.remove_from_set.Goals as goal
use Rattle.fitting_members.proofs.removing.remove_from_set.Goals.{in-Many-form, in_default-form}

pub returns-after-value-clause-allowed : goal.returns-after-value-clause-allowed
returns-after-value-clause-allowed c = elim c.match-value.branch [
  | in-Many-form w ↦ rw (w.result-is, w.value-inside-is) w.remove_given.ensures.allowed
  | in_default-form w ↦
      rw (w.result-is, w.value-inside-is, c.value.view_is) (w.unchanged.ensures.kept.0
      ∙ sym (both_hold (value_fits (SetOf c.args.member.now c.args.sizes.now) c.args.value.now)
      (list_all (λ type. value_fits type c.args.value.now) c.args.permitted.now) c.requires.fits c.requires.permitted))
]
