use Rattle.ob_explain_arguments.proofs.Fits.{misfits_here}
use Rattle.ob_explain_arguments.proofs.misfit.fits_at.Goals as goal

pub returns-in_default-clause-misfits : goal.returns-in_default-clause-misfits
returns-in_default-clause-misfits c none wanted here =
    misfits_here c.args.types.now c.args.words.now c.args.number _ _ c.requires.typed c.requires.said c.in_default.ensures wanted here
