use Rattle.ob_text_scripts.proofs.OneScript.{one_script}
use Rattle.ob_text_scripts.proofs.ScriptFits.{calls_below, calls_fit}
use Rattle.ob_text_scripts.proofs.script.read_scripts.Goals as goal

pub returns-clause-alone : goal.returns-clause-alone
returns-clause-alone c =
    λ others h. one_script _ _ c.args.text.now h (rw c.exports.ensures at c.in_ok-calls.ensures.script)

pub returns-clause-processes : goal.returns-clause-processes
returns-clause-processes c = calls_below _ _ c.args.text.now (rw c.exports.ensures at c.in_ok-calls.ensures.script)

pub returns-clause-fit : goal.returns-clause-fit
returns-clause-fit c = calls_fit _ _ c.args.text.now (rw c.exports.ensures at c.in_ok-calls.ensures.script)
