use Rattle.ob_state_replies.specs.AnswersAndNotes.{modes_of}
use Rattle.ob_state_replies.proofs.Walk.{GoesOn}
use Rattle.ob_state_replies.proofs.answers_and_notes.keeps_the_rule.Given as goal

-- where what is left keeps the rule, the body does
abbrev pub invariant-loop-statement : goal.invariant-loop-statement
invariant-loop-statement l = GoesOn (modes_of l.parameters) l.statements l.statement-index l.may_answer
