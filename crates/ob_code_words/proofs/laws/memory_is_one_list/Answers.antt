use Rattle.ob_code_words.proofs.Memory.{one_list}
use Rattle.ob_code_words.proofs.laws.memory_is_one_list.Goals as goal

pub returns : goal.returns
returns c = one_list
