use Rattle.std.proofs.Common.{sym, ◌∙◌}
use Rattle.ob_check.specs.CheckedText.{IsNumberedText}
use Rattle.ob_checked.specs.CheckedModule.{program_in}
use Rattle.ob_mendings.proofs.verdict.verdict.Goals as goal

pub returns-in-Ok : goal.returns-in-Ok
returns-in-Ok c = (program_in c.in-Ok._checked, c.in-Ok.ensures.program)

pub returns-else-is_memory : goal.returns-else-is_memory
returns-else-is_memory c =
    let numbered : IsNumberedText c.in-Err.fault = (sym c.is_memory.ensures ∙ c.if-is_memory.false, c.in-Err.ensures.memory) in
    record { says = c.in-Err.ensures.fault; numbered = numbered; none = λ right. c.in-Err.ensures.none numbered right.0 right.1 }
