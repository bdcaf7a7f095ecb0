use Rattle.std.proofs.lemmas.Result.{IfOk-weaker}
use Rattle.ob_explain_arguments.proofs.call_line.told_fit.Goals as goal

pub returns : goal.returns
returns c =
    IfOk-weaker c.misfit_told.result _ _
    (λ told e. record {
      misfit = c.first_misfit.result;
      fails = c.first_misfit.ensures;
      says = e;
    }) c.misfit_told.ensures
