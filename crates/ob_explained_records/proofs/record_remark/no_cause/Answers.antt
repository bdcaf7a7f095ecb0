use Rattle.std.proofs.Common.{◌∙◌, refl, sym}
use Rattle.ob_explained_records.proofs.record_remark.no_cause.Goals as goal

pub returns-else-is_memory : goal.returns-else-is_memory
returns-else-is_memory c = (refl, c.requires.none (sym c.is_memory.ensures ∙ c.if-is_memory.false, c.requires.apart))
