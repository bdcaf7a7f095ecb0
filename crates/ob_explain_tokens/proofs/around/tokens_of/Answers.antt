use Rattle.std.proofs.Common.{List, sym, subst, ◌∙◌}
use Rattle.std.proofs.lemmas.Result.{IfOk-weaker}
use Rattle.ob_scan.specs.declared.token.Token.{Token}
use Rattle.ob_explain_tokens.specs.Around.{AreTokens, scanned}
use Rattle.ob_explain_tokens.proofs.around.tokens_of.Goals as goal

pub returns-in-Ok : goal.returns-in-Ok
returns-in-Ok c =
    IfOk-weaker c.from_slice.result _ _
    (λ v e. subst (λ (tokens : List Token). AreTokens c.args.text.now tokens) (sym (e ∙ c.as_slice.ensures.tokens)) (scanned c.in-Ok.ensures.tokens))
    c.from_slice.ensures.items
