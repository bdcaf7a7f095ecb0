use Rattle.std.proofs.Common.{sym, ◌∙◌}
use Rattle.ob_explained.proofs.opening_traps.untold.Goals as goal

pub returns-else-is_memory : goal.returns-else-is_memory
returns-else-is_memory c = λ name program m trap traps. c.requires.none (sym c.is_memory.ensures ∙ c.if-is_memory.false, c.requires.apart) program m
