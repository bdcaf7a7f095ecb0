use Rattle.ob_code_correct.proofs.Carried.{words_carry, states_carry, words_are_read}
use Rattle.ob_code_correct.proofs.Named.{positions_carry}
use Rattle.ob_code_correct.proofs.laws.orders_are_carried.Goals as goal

pub returns-clause-from_words : goal.returns-clause-from_words
returns-clause-from_words c = words_carry

pub returns-clause-from_states : goal.returns-clause-from_states
returns-clause-from_states c = states_carry

pub returns-clause-read : goal.returns-clause-read
returns-clause-read c = words_are_read

pub returns-clause-by_name : goal.returns-clause-by_name
returns-clause-by_name c = positions_carry
