-- What a seat stands for, and what a turn does to it.
use Rattle.std.specs.Prelude.{◌≡◌, ℕ, ◌+◌, List, [], ◌∷◌, ◌++◌, MatchOption, Option}
use Rattle.ob_interface.specs.Call.{Reply, Answers, Trapped}
use Rattle.wf_history.specs.declared.event.CallId.{CallId}
use Rattle.wf_object.specs.View.{seen_in}
use Rattle.wf_records.specs.declared.records.Seen.{Seen}
use Rattle.wf_table.specs.Object.{Answer, Replies}
use Rattle.ob_desk_floor.specs.declared.seat.CallAnswer.{CallAnswer}
use Rattle.ob_desk_floor.specs.declared.seat.GivenReply.{GivenReply}
use Rattle.ob_desk_floor.specs.declared.seat.GivenReply.TheVariants as Given

abbrev pub given_reply : GivenReply → Reply
given_reply (Given.Done values) = Answers values.items
given_reply (Given.Trap number) = Trapped number

-- a call that ended, with its reply, as histories show it
abbrev pub answered_call : CallAnswer → CallId × Reply
answered_call a = (a.id, given_reply a.reply)

-- the process, the desk's tag, and the turns and answers so far
pub record Seat : Type 0 where
  pub process : ℕ
  pub tag : ℕ
  pub turns : ℕ
  pub answers : List (CallId × Reply)

abbrev pub new_seat : ℕ → ℕ → Seat
new_seat process tag = record { process = process; tag = tag; turns = 0; answers = [] }

-- the answered call of a step's answer, if it ended one
abbrev pub answers_in : Answer → List (CallId × Reply)
answers_in (Replies id reply) = (id, reply) ∷ []
answers_in _ = []

-- one turn more, and exactly the step's answer
abbrev pub seat_after : Answer → Seat → Seat
seat_after answer s = record { process = s.process; tag = s.tag; turns = s.turns + 1; answers = s.answers ++ answers_in answer }

-- one turn more, with an answer of which so much is seen
pub record HasTurned (seen : Seen) (before after : Seat) : Type 0 where
  pub answer : Answer
  pub shows : seen ≡ seen_in answer
  pub turned : after ≡ seat_after answer before

-- the last of the answers; none where there is none
abbrev pub IsLastAnswer : List (CallId × Reply) → Option CallAnswer → Type 0
IsLastAnswer answers last = MatchOption last (answers ≡ []) (λ a. (earlier : List (CallId × Reply)) × (answers ≡ earlier ++ answered_call a ∷ []))
