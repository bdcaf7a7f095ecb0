-- No variables and no results. A call is told by its first argument alone: 0 returns, below 0 is a trap, and above 0 the
-- body goes on for ever. An announced call has as many words as the engine was made for, and a run holds them.
use Rattle.std.specs.Prelude.{◌≡◌, ℕ, Bool, true, false, ℤ, pos, List, [], length, replicate, Option, Some, None, int_lt, if◌then◌else◌}
use Rattle.std.proofs.Common.{int_eq}
use Rattle.ll_cell.specs.Cell.{word_at}
use Rattle.ob_interface.specs.Call.{ObjectCall, Reply, Answers}
use Rattle.ob_interface.specs.Call as Object
use Rattle.wf_table.specs.declared.engine_turn.EngineTurn.{EngineTurn}
use Rattle.wf_table.specs.declared.engine_turn.EngineTurn.TheVariants as Turn
use Rattle.wf_table.specs.Meaning.{Meaning}
use Rattle.wf_samples.specs.Words.{argument_of}

-- by whether the first word is 0, and whether it is below 0
abbrev pub turn_by : Bool → Bool → EngineTurn
turn_by true below = Turn.Returned
turn_by false true = Turn.Trapped 7
turn_by false false = Turn.On

abbrev pub turn_at : ℤ → EngineTurn
turn_at word = turn_by (int_eq word (pos 0)) (int_lt word (pos 0))

abbrev pub outcome_by : Bool → Bool → List ℤ → Option (List ℤ × Reply)
outcome_by true below block = Some (block, Answers [])
outcome_by false true block = Some (block, Object.Trapped 7)
outcome_by false false block = None

-- what a call leaves and answers, where it ends
abbrev pub Spins : ObjectCall → List ℤ → List ℤ → Reply → Type 0
Spins call before after reply =
    outcome_by (int_eq (argument_of call.arguments) (pos 0)) (int_lt (argument_of call.arguments) (pos 0)) before ≡ Some (after, reply)

-- the engine whose announced calls have so many words
abbrev pub spin : ℕ → Meaning (List ℤ)
spin words = record {
  variables = 0;
  replies = 0;
  arguments = words;
  lay = λ call. replicate words (argument_of call.arguments);
  start = λ said. said;
  step = λ run block. record { turn = turn_at (word_at run 0); run = run; block = block };
  result = λ run i. pos 0;
  reply = λ call said. if int_eq (word_at said 0) (pos 0) then Answers [] else Object.Trapped 7;
}

abbrev pub IsNoWord : List ℤ → Type 0
IsNoWord block = length block ≡ 0

-- a run with room for the words of a call
abbrev pub HasRoom : ℕ → List ℤ → Type 0
HasRoom words run = length run ≡ words
