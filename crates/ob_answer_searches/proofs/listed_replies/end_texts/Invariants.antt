-- The lines so far.
use Rattle.std.proofs.Common.{◌≡◌, map, string_bytes, take}
use Rattle.ob_checked.specs.View.{program_of}
use Rattle.ob_store.specs.View.{state_of}
use Rattle.ob_text_record.specs.Variables.{state_text}
use Rattle.ob_answer_searches.proofs.listed_replies.end_texts.Given as goal

abbrev pub invariant-loop-state : goal.invariant-loop-state
invariant-loop-state l = map (λ text. string_bytes text) l.ends.items ≡ map (λ state. state_text (program_of l.program).variables (state_of state)) (take l.state-index l.states)
