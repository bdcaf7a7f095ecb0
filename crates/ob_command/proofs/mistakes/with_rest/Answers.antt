use Rattle.std.proofs.Common.{◌∙◌, [], append_assoc, inl, inr, refl, sym}
use Rattle.std.proofs.lemmas.List.{append-nil}
use Rattle.std.proofs.lemmas.Result.{IfOk-weaker}
use Rattle.ob_command.specs.ClapTexts.{empty_line}
use Rattle.ob_command.proofs.SplitTexts.{split_first, unsplit_lacks}
use Rattle.ob_command.proofs.mistakes.with_rest.Goals as goal

pub returns-in-None : goal.returns-in-None
returns-in-None c =
    let none = unsplit_lacks empty_line c.args.tip.now c.split_once.result c.split_once.ensures.cases c.in-None.is in
    IfOk-weaker c.from_str.result _ _ (λ text is. ([], inl (none, refl), is ∙ sym (append-nil c.args.before.now))) c.from_str.ensures.ok

pub returns-in-Some : goal.returns-in-Some
returns-in-Some c =
    let first = split_first empty_line c.args.tip.now c.split_once.result c.split_once.ensures.cases (c.in-Some._told, c.in-Some.behind) c.in-Some.is in
    IfOk-weaker c.with_empty_line.result _ _ (λ text is. (_, inr (_, _, first, refl), is ∙ append_assoc c.args.before.now empty_line c.in-Some.behind.now)) c.with_empty_line.ensures
