use Rattle.ob_text_values_reading.proofs.WrittenWords.{short_taken}
use Rattle.ob_text_values_reading.proofs.taken_names.take_short_id.Goals as goal

pub returns-clause-taken : goal.returns-clause-taken
returns-clause-taken c = (short_taken _ _ _ _ _ c.in_ok-id.ensures c.in_ok-rest.ensures).0

pub returns-clause-shorter : goal.returns-clause-shorter
returns-clause-shorter c = (short_taken _ _ _ _ _ c.in_ok-id.ensures c.in_ok-rest.ensures).1
