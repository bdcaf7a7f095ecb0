use Rattle.std.proofs.Common.{inl, inr}
use Rattle.std.proofs.lemmas.Result.{IfOk-weaker}
use Rattle.ob_command.specs.ClapTexts.{tip_mark}
use Rattle.ob_command.proofs.SplitTexts.{split_first, unsplit_lacks}
use Rattle.ob_command.proofs.mistakes.without_tip.Goals as goal

pub returns-in-None : goal.returns-in-None
returns-in-None c =
    let none = unsplit_lacks tip_mark c.args.mistake.now c.split_once.result c.split_once.ensures.cases c.in-None.is in
    IfOk-weaker c.from_str.result _ _ (λ text is. inl (none, is)) c.from_str.ensures.ok

pub returns-in-Some : goal.returns-in-Some
returns-in-Some c =
    let first = split_first tip_mark c.args.mistake.now c.split_once.result c.split_once.ensures.cases (c.in-Some.before, c.in-Some.tip) c.in-Some.is in
    IfOk-weaker c.with_rest.result _ _ (λ text h. inr (_, _, h.0, first, h.1, h.2)) c.with_rest.ensures
