-- What is asked at each configuration.
use Rattle.ob_interface.specs.Call.{ObjectCall, Reply}
use Rattle.wf_history.specs.View.{kept_call, kept_reply}
use Rattle.wf_outcomes.specs.Outcomes.{Answers}
use Rattle.wf_outcomes.specs.declared.counterexample.Question.{Question}

-- the call that is asked, made on the state, has the reply that it is to have
abbrev pub IsAnswered : {State : Type 0} → (ObjectCall → State → State → Reply → Type 0) → Question → State → Type 0
IsAnswered Effect question = Answers Effect (kept_call question.call.now) (kept_reply question.wanted.now)
