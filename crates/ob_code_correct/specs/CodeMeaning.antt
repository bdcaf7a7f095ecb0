-- What compiled code does as an engine: calls and replies as words, and a body's steps as instructions.
use Rattle.std.specs.Prelude.{ℕ, zero, suc, nat_lt, max, not, ℤ, pos, negsuc, neg_ℤ, int_le, ◌&&◌, List, [], ◌∷◌, map, slice_get, slice_index_or, Option, Some, None, if◌then◌else◌}
use Rattle.std.specs.Ordering.{int_eq}
use Rattle.ob_interface.specs.declared.scalar.Scalar.{Scalar}
use Rattle.ob_interface.specs.declared.scalar.Scalar.TheVariants.{Int, Bool}
use Rattle.ob_interface.specs.declared.scalar.ScalarType.{ScalarType}
use Rattle.ob_interface.specs.declared.scalar.ScalarType.TheVariants.{Integer, Boolean}
use Rattle.ob_interface.specs.declared.export.Formal.{Formal}
use Rattle.ob_interface.specs.Call.{ObjectCall, Reply, Answers, Trapped as TrapReply}
use Rattle.ob_code_machine.specs.Code.{CodeParts}
use Rattle.ob_code_machine.specs.declared.turn.BodyTurn.{BodyTurn}
use Rattle.ob_code_machine.specs.declared.turn.BodyTurn.TheVariants as Answer
use Rattle.ob_code_machine.specs.Body.{Run, Step, entered, step_of}
pub use Rattle.ob_code_machine.specs.Parameters.{first_word, other_words, arguments_in}
use Rattle.ob_code_scheme.specs.Layout.{word}
use Rattle.wf_table.specs.declared.engine_turn.EngineTurn.{EngineTurn}
use Rattle.wf_table.specs.declared.engine_turn.EngineTurn.TheVariants as Turn
use Rattle.wf_table.specs.Meaning.{Meaning, Turned}

-- how a call enters the code: the number of its procedure, and of each parameter the mode and the type
pub record Entrance : Type 0 where
  pub procedure : ℕ
  pub parameters : List Formal

pub record EngineParts : Type 0 where
  pub variables : ℕ  -- words of a block
  pub exports : List Entrance  -- in text order
  pub code : CodeParts
  pub reserve : ℕ  -- words of a stack
  pub budget : ℕ  -- turns of a body

-- ---- numbers of words

-- how many parameters are VAR: so many results a call has
abbrev pub result_count : List Formal → ℕ
result_count [] = 0
result_count (p ∷ parameters) = if p.is_var then suc (result_count parameters) else result_count parameters

-- how many are not: so many arguments a call has
abbrev pub value_count : List Formal → ℕ
value_count [] = 0
value_count (p ∷ parameters) = if p.is_var then value_count parameters else suc (value_count parameters)

-- the most of any export
abbrev pub most : (List Formal → ℕ) → List Entrance → ℕ
most count [] = 0
most count (x ∷ exports) = max (count x.parameters) (most count exports)

-- ---- a call as words

-- so many words: these, and 0 behind them
abbrev pub padded : ℕ → List ℤ → List ℤ
padded zero words = []
padded (suc n) words = first_word words ∷ padded n (other_words words)

-- the number of the export, the value arguments in text order, and zeros
abbrev pub laid : ℕ → ObjectCall → List ℤ
laid count call = padded count (pos call.export ∷ map word call.arguments)

-- the export of a number, where there is one
abbrev pub entrance_at : List Entrance → ℤ → Option Entrance
entrance_at exports (pos n) = slice_get exports n
entrance_at exports (negsuc n) = None

-- the body at the entry of an export; over at once where there is no such export
abbrev pub started : EngineParts → Option Entrance → List ℤ → Run
started parts None words = entered parts.reserve parts.variables None [] parts.budget
started parts (Some x) words =
    entered parts.reserve parts.variables (slice_get parts.code.entries x.procedure) (arguments_in x.parameters words) parts.budget

-- ---- a step

abbrev pub turn_of : BodyTurn → EngineTurn
turn_of Answer.On = Turn.On
turn_of Answer.Returned = Turn.Returned
turn_of (Answer.Trapped k) = Turn.Trapped k
turn_of Answer.Stuck = Turn.Stuck

abbrev pub turned : Step → Turned Run
turned s = record { turn = turn_of s.turn; run = s.run; block = s.block }

-- ---- a reply from words

-- the word as an INTEGER; 0 where it is none
abbrev pub integer_in : ℤ → ℤ
integer_in w = if int_le (neg_ℤ (pos 2147483648)) w && int_le w (pos 2147483647) then w else pos 0

-- the value of a type that a word stands for; TRUE for each word but 0
abbrev pub scalar_in : ScalarType → ℤ → Scalar
scalar_in Integer w = Int (integer_in w)
scalar_in Boolean w = Bool (not (int_eq w (pos 0)))

-- the values that words stand for, one for each VAR parameter
abbrev pub values_of : List Formal → List ℤ → List Scalar
values_of [] words = []
values_of (p ∷ parameters) words =
    if p.is_var then scalar_in p.scalar_type (first_word words) ∷ values_of parameters (other_words words)
    else values_of parameters words

-- the parameters of an export; none where there is no such export
abbrev pub parameters_of : Option Entrance → List Formal
parameters_of None = []
parameters_of (Some x) = x.parameters

-- the number of a trap is a byte
abbrev pub trap_in : ℤ → ℕ
trap_in (pos k) = if nat_lt k 256 then k else 0
trap_in (negsuc n) = 0

-- status 0: the values of the results; else the trap
abbrev pub replied : List Entrance → ObjectCall → List ℤ → Reply
replied exports call words =
    if int_eq (first_word words) (pos 0)
    then Answers (values_of (parameters_of (slice_get exports call.export)) (other_words words))
    else TrapReply (trap_in (first_word words))

-- ---- all of it

abbrev pub code_meaning : EngineParts → Meaning Run
code_meaning parts = record {
  variables = parts.variables;
  replies = most result_count parts.exports;
  arguments = suc (most value_count parts.exports);
  lay = laid (suc (most value_count parts.exports));
  start = λ words. started parts (entrance_at parts.exports (first_word words)) (other_words words);
  step = λ run block. turned (step_of parts.code.instructions run block);
  result = λ run i. slice_index_or run.body.stack i (pos 0);
  reply = replied parts.exports;
}
