use Rattle.value_fits.proofs.FitLaws.{told_fits, told_misfit}
use Rattle.value_fits.proofs.fitting.fits.Goals as goal

pub returns-clause-fits : goal.returns-clause-fits
returns-clause-fits c = told_fits c.value_fits.result c.args.syntax.now c.args.value.now c.value_fits.ensures

pub returns-clause-misfit : goal.returns-clause-misfit
returns-clause-misfit c = told_misfit c.value_fits.result c.args.syntax.now c.args.value.now c.value_fits.ensures
