-- What a call makes of a block of words, and what it answers.
use Rattle.std.specs.Prelude.{◌≡◌, ◌+◌, ◌*◌, ℕ, ℤ, List, [], ◌∷◌, Option, Some, None, length, map}
use Rattle.std.specs.List.{range_with_len}
use Rattle.ob_interface.specs.Call.{ObjectCall, Reply, Answers, Trapped}
use Rattle.ob_interface.specs.declared.scalar.Scalar.{Scalar}
use Rattle.ob_typing.specs.Program.{Program}
use Rattle.ob_meaning.specs.ByPositionObject.{effect}
use Rattle.ob_meaning.specs.ByPositionStore.{Activation}
use Rattle.ob_code_correct.specs.CodeMeaning.{EngineParts, code_meaning}
use Rattle.ob_code_machine.specs.Body.{Run}
use Rattle.ob_code_scheme.specs.Layout.{IsEncoding}
use Rattle.wf_table.specs.Meaning.{Meaning, body, kept}

-- the call of an export by its number, with these value arguments
abbrev pub asked : ℕ → List Scalar → ObjectCall
asked number arguments = record { export = number; arguments = arguments }

-- Of a call of the program with so many turns, on the state whose words a block has: what it comes to there has this reply, and the block
-- has the words of the state behind it. That is the state before it, where the call traps.
pub record IsMade (program : Program) (budget : ℕ) (call : ObjectCall) (before : Activation) (block : List ℤ) (reply : Reply) : Type 0 where
  pub reply_is : (effect program call budget before).reply ≡ reply
  pub block_is : IsEncoding program.variables (effect program call budget before).state block

-- what code with these parts does as an engine
abbrev pub meaning_of : EngineParts → Meaning Run
meaning_of = code_meaning

-- the words of the results of a body, one for each of the most results
abbrev pub results_of : Meaning Run → Run → List ℤ
results_of meaning run = map (meaning.result run) (range_with_len 0 meaning.replies)

-- so many instructions are paid for: as many as the code has by each turn, and by the call itself
abbrev pub paid : EngineParts → ℕ
paid parts = (parts.budget + 1) * length parts.code.instructions

-- what the body of a call leaves of a block, also where it traps
abbrev pub left_by : EngineParts → List ℤ → ObjectCall → List ℤ
left_by parts block call = (body (meaning_of parts) (paid parts) block call).block

-- what the bodies of calls leave of it, one behind the other
abbrev pub left_by_all : EngineParts → List ℤ → List ObjectCall → List ℤ
left_by_all parts block [] = block
left_by_all parts block (call ∷ calls) = left_by_all parts (left_by parts block call) calls

-- the block with the words of the state behind a call: the one that it leaves, or where it traps the one before it
abbrev pub block_behind : Reply → (before left : List ℤ) → List ℤ
block_behind (Answers values) before left = left
block_behind (Trapped number) before left = before

-- Of a call that is made on the block of a state, and leaves another block and the run of its body: where it has returned, the block is that of
-- the state behind it, and the run has its reply; where it traps, the block before it is.
abbrev pub IsMadeThrough : Program → EngineParts → ObjectCall → (before : Activation) → (block left : List ℤ) → Run → (trap : Option ℕ) → Type 0
IsMadeThrough program parts call before block left run None =
    IsMade program parts.budget call before left ((meaning_of parts).reply call (kept (meaning_of parts) run))
IsMadeThrough program parts call before block left run (Some number) = IsMade program parts.budget call before block (Trapped number)

-- what calls work in is as large as code with these parts needs it
pub record HasRoom (parts : EngineParts) (reserve call results : ℕ) : Type 0 where
  pub stack : reserve ≡ parts.reserve
  pub announced : call ≡ (meaning_of parts).arguments
  pub replied : results ≡ (meaning_of parts).replies
