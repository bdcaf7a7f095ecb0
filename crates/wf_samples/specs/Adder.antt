-- One word; a call adds its argument and answers the sum.
use Rattle.std.specs.Prelude.{◌≡◌, ℤ, pos, List, [], ◌∷◌, length, slice_set, if◌then◌else◌}
use Rattle.std.specs.Int.{int_wrapping_add, w64}
use Rattle.std.proofs.Common.{int_eq}
use Rattle.ll_cell.specs.Cell.{word_at}
use Rattle.ob_interface.specs.Call.{ObjectCall, Reply, Answers, Trapped}
use Rattle.wf_table.specs.declared.engine_turn.EngineTurn.TheVariants.{Returned}
use Rattle.wf_table.specs.Meaning.{Meaning}
use Rattle.wf_samples.specs.Words.{argument_of, scalar_in}
use Rattle.wf_samples.specs.declared.adder.AdderRun.{AdderRun}

abbrev pub sum_of : List ℤ → ℤ → ℤ
sum_of block argument = int_wrapping_add w64 (word_at block 0) argument

abbrev pub adder : Meaning AdderRun
adder = record {
  variables = 1;
  replies = 1;
  arguments = 1;
  lay = λ call. argument_of call.arguments ∷ [];
  start = λ words. record { argument = word_at words 0; sum = pos 0 };
  step = λ run block. record { turn = Returned; run = record { argument = run.argument; sum = sum_of block run.argument }; block = slice_set block 0 (sum_of block run.argument) };
  result = λ run i. run.sum;
  reply = λ call words. if int_eq (word_at words 0) (pos 0) then Answers (scalar_in (word_at words 1) ∷ []) else Trapped 1;
}

-- what a call leaves and answers
abbrev pub sum_outcome : ObjectCall → List ℤ → List ℤ × Reply
sum_outcome call block = (slice_set block 0 (sum_of block (argument_of call.arguments)), Answers (scalar_in (sum_of block (argument_of call.arguments)) ∷ []))

abbrev pub Adds : ObjectCall → List ℤ → List ℤ → Reply → Type 0
Adds call before after reply = sum_outcome call before ≡ (after, reply)

abbrev pub IsOneWord : List ℤ → Type 0
IsOneWord block = length block ≡ 1
