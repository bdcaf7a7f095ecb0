use Rattle.std.proofs.Common.{string_bytes}
use Rattle.std.proofs.lemmas.Result.{IfOk-weaker}
use Rattle.ob_answer_explained.specs.CommandTexts.{calls_of_text, calls_texts_of}
use Rattle.ob_answer_explained.specs.Explains.{TellsTraps, traps_told}
use Rattle.ob_answer_explained.proofs.AtOnce.{holds_of_whole}
use Rattle.ob_answer_explained.proofs.Shown.{traps_untold_made}
use Rattle.ob_object_calls.specs.declared.sequential.SeqTextFault.TheVariants as Runs
use Rattle.ob_answer_explained.proofs.explaining_traps.explain_traps.Goals as goal

pub returns-in-Ok : goal.returns-in-Ok
returns-in-Ok c whole is =
    let t = calls_texts_of c.args.calls in
    let here : TellsTraps t (string_bytes c.in-Ok.text) =
    rw (← c.in_ok-module_shown.ensures, ← c.deref-2.ensures, ← c.in_ok-script_shown.ensures, ← c.deref.ensures) c.in-Ok.ensures.told in
    traps_told (string_bytes c.in-Ok.text)
    (holds_of_whole Runs.Compile t.asked (λ text. TellsTraps (calls_of_text t text) (string_bytes c.in-Ok.text)) _ whole is c.in-Ok.ensures.at_once here)
    c.printed.ensures

pub returns : goal.returns
returns c =
    let t = calls_texts_of c.args.calls in
    traps_untold_made t c.in-Err.fault c.calls_wrong.result c.calls_wrong.ensures.fault
    (IfOk-weaker c.calls_wrong.result _ _ (λ _ known. (known, c.in-Err.ensures.refused.memory)) c.calls_wrong.ensures.memory)
    c.in-Err.ensures.at_once c.in-Err.ensures.refused
