use Rattle.std.proofs.Common.{◌≡◌, ap, ◌∙◌, arith}
use Rattle.ob_checked.specs.CheckedModule.{program_in}
use Rattle.ob_code_correct.specs.CodeMeaning.{most, value_count}
use Rattle.ob_code_correct.specs.Compiled.{entrances_from}
use Rattle.ob_tree.proofs.Known.{exports_are, few_values}
use Rattle.ob_tree.proofs.engine.TreeEngineEngine.announce_words.Goals as goal

pub overflow_add-result : goal.overflow_add-result
overflow_add-result c =
    let e = c.args.self.now in
    let limit = few_values (program_in e.checked.now) e.budget e.values e.well (e.most_values ∙ ap (most value_count) (exports_are _ _ e.listed)) in
    omega (arith, limit)

pub returns : goal.returns
returns c =
    let e = c.args.self.now in
    let same : e.values ≡ most value_count (entrances_from 0 (program_in e.checked.now).procedures) = e.most_values ∙ ap (most value_count) (exports_are _ _ e.listed) in
    omega (arith, same)
