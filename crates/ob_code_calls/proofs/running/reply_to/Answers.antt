use Rattle.std.proofs.Common.{◌∙◌, ap, sym, arith, length, List, map, Option}
use Rattle.std.specs.Prelude.{ℤ, slice_get}
use Rattle.std.specs.List.{range_with_len}
use Rattle.ob_code_calls.proofs.Arguments.{few}
use Rattle.ob_code_calls.proofs.running.reply_to.Goals as goal
use Rattle.ob_code_calls.specs.Calls.{meaning_of}
use Rattle.ob_code_correct.specs.CodeMeaning.{Entrance, parameters_of, values_of}
use Rattle.ob_interface.specs.Call.{Answers}
use Rattle.ob_interface.specs.declared.export.Formal.{Formal}

pub reply_in-requires : goal.reply_in-requires
reply_in-requires c =
    let e = c.args.engine.now in
    let limit = few e.parts e.compiled c.args.proc c.in-Some.export.now (sym c.in-Some.ensures) in
    let same = ap (λ (fs : List Formal). length fs) c.parameters.ensures in
    omega (arith, limit, same)

pub returns-in-Some : goal.returns-in-Some
returns-in-Some c = λ arguments.
    let exports = c.args.engine.now.parts.exports in
    c.reply_in.ensures
    ∙ ap (λ (fs : List Formal). Answers (values_of fs c.note_results.new.words)) (c.parameters.ensures ∙ ap parameters_of c.in-Some.ensures)
    ∙ ap (λ (ws : List ℤ). Answers (values_of (parameters_of (slice_get exports c.args.proc)) ws)) c.note_results.ensures

pub returns-in-None : goal.returns-in-None
returns-in-None c = λ arguments.
    let m = meaning_of c.args.engine.now.parts in
    let ws = map (m.result c.args.run.now) (range_with_len 0 m.replies) in
    ap Answers (c.new.ensures.items ∙ ap (λ (o : Option Entrance). values_of (parameters_of o) ws) c.in-None.ensures)
