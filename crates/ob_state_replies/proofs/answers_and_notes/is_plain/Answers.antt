use Rattle.ob_state_replies.specs.AnswersAndNotes.{IsWhole}
use Rattle.ob_state_replies.proofs.Walk.{plain_of}
use Rattle.ob_state_replies.proofs.answers_and_notes.is_plain.Goals as goal

pub returns-in-ValueOf : goal.returns-in-ValueOf
returns-in-ValueOf c = λ so. plain_of IsWhole c.args.value.now c.in-ValueOf.data_type c.in-ValueOf.variable c.in-ValueOf.is (c.is_whole.ensures so)
