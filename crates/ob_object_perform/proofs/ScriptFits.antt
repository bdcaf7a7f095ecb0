-- The calls of a script fit the program of its module.
use Rattle.std.proofs.Common.{ℕ, List, All, arith}
use Rattle.std.specs.Prelude.{ℤ, slice_index_or}
use Rattle.std.proofs.lemmas.List.Elements.{All-cons, All-nil}
use Rattle.ob_checked.specs.Exports.{signatures}
use Rattle.ob_code_correct.specs.Compiled.{Fits}
use Rattle.ob_code_correct.specs.EngineLaw.{FittingIsOfSignatures}
use Rattle.ob_code_scheme.specs.Correct.{IsInRange}
use Rattle.ob_code_scheme.specs.Types.{IsInteger}
use Rattle.ob_interface.specs.Call.{ObjectCall}
use Rattle.ob_interface.specs.Export.{CallFits, Signature}
use Rattle.ob_interface.specs.declared.scalar.Scalar.{Scalar}
use Rattle.ob_interface.specs.declared.scalar.ScalarType.{ScalarType}
use Rattle.ob_text_scripts.specs.Script.{AreLines, IsScript, Makes, call, makes, none, skipped}
use Rattle.ob_text_words.specs.Values as Values
use Rattle.ob_text_words.specs.Values.{AreValues, IsValue}
use Rattle.ob_text_words.specs.ScriptCalls.{ScriptCall, object_call}
use Rattle.ob_text_words.specs.Words as Words
use Rattle.ob_text_words.specs.Words.{Word}
use Rattle.ob_typing.specs.Program.{Program}

-- ---- arguments

in_range : (word : Word) (z : ℤ) → Words.IsInteger word z → IsInteger z
in_range word z (Words.positive digits few) = record { low = search arith; high = search arith }
in_range word z (Words.negative digits few) = record { low = search arith; high = search arith }

value_ranged : {t : ScalarType} {word : Word} {s : Scalar} → IsValue t word s → IsInRange s
value_ranged (Values.integer {word = word} {z = z} h) = in_range word z h
value_ranged (Values.boolean h) = tt

values_ranged : {ts : List ScalarType} {ws : List Word} {ss : List Scalar} → AreValues ts ws ss → All IsInRange ss
values_ranged Values.none = All-nil IsInRange
values_ranged (Values.more {s = s} {ss = ss} h hs) = All-cons IsInRange s ss (value_ranged h) (values_ranged hs)

-- ---- calls

abbrev IsRanged : ScriptCall → Type 0
IsRanged c = All IsInRange c.arguments

call_ranged : {exports : List Signature} {n : ℕ} {line : List Word} {c : ScriptCall} → Makes exports n line c → IsRanged c
call_ranged (makes is below is_name named values) = values_ranged values

lines_ranged : {exports : List Signature} {n : ℕ} {ls : List (List Word)} {cs : List ScriptCall} → AreLines exports n ls cs → All IsRanged cs
lines_ranged none = All-nil IsRanged
lines_ranged (skipped s h) = lines_ranged h
lines_ranged (call {c = c} {calls = calls} m h) = All-cons IsRanged c calls (call_ranged m) (lines_ranged h)

pub calls_fit : (program : Program) → ((call : ObjectCall) → FittingIsOfSignatures program call) → (n : ℕ) (text : List ℕ) (calls : List ScriptCall) → IsScript (signatures program) n text calls →
    All (λ c. CallFits (signatures program) (object_call c)) calls → All (λ c. Fits program (object_call c)) calls
calls_fit program law n text calls script fit = λ k d below.
    let c = slice_index_or calls k d in
    (law (object_call c)).fits (fit k d below) (lines_ranged script k d below)
