use Rattle.std.proofs.Common.{◌≡◌, true, false, sym, ap, ◌∙◌}
use Rattle.ob_explained.specs.ScriptPlaces.{first_word, is_process}
use Rattle.ob_explained.proofs.WordPlaces.{has_process, no_process}
use Rattle.ob_explained.proofs.script_place.form_place.Goals as goal

pub returns-then-is_process-clause-process : goal.returns-then-is_process-clause-process
returns-then-is_process-clause-process c none =
    let is : is_process (first_word c.args.line.now) ≡ true = sym (ap is_process c.first_word.ensures) ∙ sym c.is_process.ensures ∙ c.if-is_process.true in
    absurd (none (has_process c.args.line.now is))

pub returns-else-is_process-clause-name : goal.returns-else-is_process-clause-name
returns-else-is_process-clause-name c has =
    let is : is_process (first_word c.args.line.now) ≡ true = no_process c.args.line.now has in
    let isnt : is_process (first_word c.args.line.now) ≡ false = sym (ap is_process c.first_word.ensures) ∙ sym c.is_process.ensures ∙ c.if-is_process.false in
    absurd cc
