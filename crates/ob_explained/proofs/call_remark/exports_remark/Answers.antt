use Rattle.std.proofs.Common.{List, subst, ap, ◌∙◌, map, option_map, Bor}
use Rattle.std.proofs.lemmas.Result.{IfOk-weaker}
use Rattle.ob_explain_arguments.specs.Calls.{IsToldOf, told_of}
use Rattle.ob_interface.specs.View.{signature_of}
use Rattle.ob_text_words.specs.Words.{Word}
use Rattle.ob_explained.proofs.call_remark.exports_remark.Goals as goal

pub returns-clause-remark : goal.returns-clause-remark
returns-clause-remark c =
    IfOk-weaker c.told_remark.result _ _
    (λ remark e. record {
      told = option_map told_of c.in_ok-told.told;
      tells =
          subst (λ (ws : List Word). IsToldOf c.args.text.now (map signature_of c.args.exports.now) ws (option_map told_of c.in_ok-told.told))
          (ap (map (λ (w : Bor Word). w.now)) c.deref.ensures.value ∙ c.in_ok-words.ensures) c.in_ok-told.ensures;
      says = e;
    }) c.told_remark.ensures.remark
