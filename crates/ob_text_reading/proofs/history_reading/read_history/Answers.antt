use Rattle.ob_text_reading.proofs.Faulty.{text_fault}
use Rattle.ob_text_reading.proofs.Whole.{one_told}
use Rattle.ob_text_reading.proofs.history_reading.read_history.Goals as goal

pub returns-in-Err-clause-fault : goal.returns-in-Err-clause-fault
returns-in-Err-clause-fault c = text_fault _ c.args.text.now c.in-Err.fault (rw c.without_last_feed.ensures at c.in-Err.ensures.fault)

pub returns-in_ok-history_of-in-Ok-clause-alone : goal.returns-in_ok-history_of-in-Ok-clause-alone
returns-in_ok-history_of-in-Ok-clause-alone c = λ other h. one_told _ h (rw c.in_ok-history_of-in-Ok.ensures.told (rw c.without_last_feed.ensures at c.in-Ok.ensures.history))
