use Rattle.ob_state_replies.specs.AnswersAndNotes.{IsOfModule}
use Rattle.ob_state_replies.proofs.Walk.{plain_of}
use Rattle.ob_state_replies.proofs.answers_and_notes.is_of_state.Goals as goal

pub returns-in-ValueOf : goal.returns-in-ValueOf
returns-in-ValueOf c = λ so. plain_of IsOfModule c.args.value.now c.in-ValueOf.data_type c.in-ValueOf.variable c.in-ValueOf.is (c.is_of_module.ensures so)
