use Rattle.std.proofs.Common.{arith}
use Rattle.ob_code_correct.proofs.PartsLaw.{parts_lawful}
use Rattle.ob_code_engine.proofs.Made.{made}
use Rattle.ob_code_engine.proofs.engine.CodeEngineEngine.announce_words.Goals as goal

pub overflow_add-result : goal.overflow_add-result
overflow_add-result c =
    let e = c.self.inside in
    let limit = (parts_lawful (made e.block_words e.exports.items e.code e.stack_words e.budget) e.compiled).few_arguments in
    let same = e.most_values in
    omega (arith, limit, same)
