-- A small history over a counter: a call adds its number to the state and answers the sum.
use Rattle.std.proofs.Common.{◌≡◌, refl, ℕ, List, [], ◌∷◌}
use Rattle.wf_history.specs.declared.event.CallId.{CallId}
use Rattle.wf_history.specs.History.{Event, Begin, Applied, End, Before, before, own_events, Begins, Ends, own_calls, own_answers}

abbrev call_of : ℕ → ℕ → CallId
call_of process number = record { process = process; number = number }

abbrev history : List (Event ℕ ℕ)
history = Begin (call_of 0 1) 5 ∷ Applied (call_of 0 1 ∷ []) ∷ End (call_of 0 1) 5 ∷ Begin (call_of 1 1) 2 ∷ []

-- process 0's call ended before process 1's began
zero_before_one : Before history (call_of 0 1) (call_of 1 1)
zero_before_one = before 5 2 (Begin (call_of 0 1) 5 ∷ Applied (call_of 0 1 ∷ []) ∷ []) [] [] refl

-- each process takes turns with its calls
of_zero : own_events 0 history ≡ Begins 1 ∷ Ends 1 ∷ []
of_zero = refl

of_one : own_events 1 history ≡ Begins 1 ∷ []
of_one = refl

-- their calls and answers
calls_of_one : own_calls 1 history ≡ 2 ∷ []
calls_of_one = refl

answers_of_zero : own_answers 0 history ≡ (call_of 0 1, 5) ∷ []
answers_of_zero = refl
