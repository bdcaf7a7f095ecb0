use Rattle.std.proofs.Common.{inl, inr, refl}
use Rattle.ob_command.specs.ClapTexts.{rule_mark}
use Rattle.ob_command.proofs.SplitTexts.{split_first, unsplit_lacks, up_to_mark}
use Rattle.ob_command.proofs.mistakes.before_value_rule.Goals as goal

pub returns-in-Some : goal.returns-in-Some
returns-in-Some c =
    let first = split_first rule_mark c.args.mistake.now c.split_once.result c.split_once.ensures.cases (c.in-Some.before, c.in-Some._rule) c.in-Some.is in
    inr (_, _, first, up_to_mark rule_mark c.args.mistake.now c.in-Some.before.now c.in-Some._rule.now c.range.result.now first c.range.ensures.value)

pub returns-in-None : goal.returns-in-None
returns-in-None c = inl (unsplit_lacks rule_mark c.args.mistake.now c.split_once.result c.split_once.ensures.cases c.in-None.is, refl)
