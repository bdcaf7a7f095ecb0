use Rattle.std.proofs.Common.{◌≡◌, codes, rules, string_bytes}
use Rattle.std.proofs.lemmas.Result.{IfOk-weaker}
use Rattle.ob_answer_explained.specs.Explains.{IsModuleFaultShown, right}
use Rattle.ob_answer_explained.proofs.AtOnce.{holds_of_whole, object_refused}
use Rattle.ob_answer_explained.proofs.Shown.{module_shown, wrong_made}
use Rattle.ob_object_compile.specs.Asked.{by_body}
use Rattle.ob_object_compile.specs.Compilation.{IsNumbered, IsRefusal, IsShort, default_budget}
use Rattle.ob_object_calls.specs.SequentialRun.{HasObject}
use Rattle.ob_answer_explained.proofs.explaining.explain_module.Goals as goal

pub returns-in_ok-from_str-in-Ok : goal.returns-in_ok-from_str-in-Ok
returns-in_ok-from_str-in-Ok c whole is =
    let of = holds_of_whole (λ e. e) (by_body c.args.module.now 1 default_budget) (λ t. HasObject (by_body t 1 default_budget)) _ whole is c.in-Ok.ensures.at_once c.in-Ok.ensures.object in
    let text : string_bytes c.in_ok-from_str-in-Ok.field-0 ≡ codes "ok\n" = search rules in
    right of (rw (← text) c.printed.ensures)

pub returns-in-Err : goal.returns-in-Err
returns-in-Err c =
    let part = c.args.module.now in
    wrong_made (λ e. e) (by_body part 1 default_budget) (λ t. IsRefusal IsShort (by_body t 1 default_budget)) (λ t. IsModuleFaultShown c.args.name.now t) c.in-Err.fault
    c.in-Err.ensures.at_once (λ whole. object_refused IsShort (by_body whole 1 default_budget))
    (λ whole e x at_once. module_shown c.args.name.now (by_body whole 1 default_budget) part whole e x at_once)
    (λ t. HasObject (by_body t 1 default_budget)) IsNumbered c.module_wrong.result c.module_wrong.ensures.fault
    (IfOk-weaker c.module_wrong.result _ _ (λ _ known. (known, c.in-Err.ensures.refused.memory)) c.module_wrong.ensures.memory) c.in-Err.ensures.refused
