use Rattle.std.proofs.Common.{arith}
use Rattle.ob_code_correct.proofs.PartsLaw.{parts_lawful}
use Rattle.ob_code_correct.specs.CodeMeaning.{code_meaning}
use Rattle.ob_code_correct.specs.Compiled.{HasReserve, IsFitting}
use Rattle.ob_code_correct.specs.Parts.{IsEffectOf, IsLawfulFor}
use Rattle.wf_table.proofs.StartSound.{few_words}
use Rattle.ob_object_perform.proofs.object_numbers.sizes_of.Goals as goal

pub returns-clause-sized : goal.returns-clause-sized
returns-clause-sized c =
    let parts = c.engine-engine.result.now.parts in
    few_words (code_meaning parts) (IsLawfulFor parts) (IsFitting parts.exports) (HasReserve parts) (IsEffectOf parts) (parts_lawful parts c.engine-engine.result.now.compiled)
    (record { processes = c.processes.result; variables = c.variable_words.result; replies = c.reply_words.result; arguments = c.announce_words.result })
    (omega arith) (omega arith) c.variable_words.ensures c.reply_words.ensures c.announce_words.ensures
