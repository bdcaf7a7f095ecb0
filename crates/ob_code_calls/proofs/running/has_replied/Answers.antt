use Rattle.std.proofs.Common.{◌∙◌, [], sym, ap, List, Option}
use Rattle.std.specs.Prelude.{slice_get}
use Rattle.ob_code_calls.proofs.Results.{enough_for, replied_so}
use Rattle.ob_code_calls.proofs.running.has_replied.Goals as goal
use Rattle.ob_code_calls.specs.Calls.{meaning_of, results_of}
use Rattle.ob_code_correct.specs.CodeMeaning.{Entrance, parameters_of, values_of}
use Rattle.ob_interface.specs.declared.export.Formal.{Formal}

pub are_results-requires-clause-few : goal.are_results-requires-clause-few
are_results-requires-clause-few c =
    let parts = c.args.engine.now.parts in
    enough_for parts.exports c.args.proc c.in-Some.export.now (sym c.in-Some.ensures) c.parameters.result.now c.parameters.ensures

pub returns-in-Some : goal.returns-in-Some
returns-in-Some c = λ arguments.
    let exports = c.args.engine.now.parts.exports in
    let m = meaning_of c.args.engine.now.parts in
    let ws = results_of m c.args.run.now in
    let same = ap (λ (fs : List Formal). values_of fs ws) (c.parameters.ensures ∙ ap parameters_of c.in-Some.ensures) in
    replied_so c.are_results.result _ (values_of (parameters_of (slice_get exports c.args.proc)) ws) c.args.values.now same c.are_results.ensures

pub returns-in-None : goal.returns-in-None
returns-in-None c = λ arguments.
    let m = meaning_of c.args.engine.now.parts in
    let ws = results_of m c.args.run.now in
    let same = ap (λ (o : Option Entrance). values_of (parameters_of o) ws) c.in-None.ensures in
    replied_so c.are_results-in-None.result [] _ c.args.values.now same c.are_results-in-None.ensures
