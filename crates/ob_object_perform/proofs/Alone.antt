-- The calls of scripts, each with its process; and where there is one process, all are of it.
use Rattle.std.proofs.Common.{◌≡◌, ℕ, ◌<◌, List, [], ◌∷◌, All, ap, map, refl}
use Rattle.std.proofs.lemmas.List.Elements.{All-cons, All-nil}
use Rattle.ob_interface.specs.Call.{ObjectCall}
use Rattle.ob_interface.specs.Export.{Signature}
use Rattle.ob_text_scripts.specs.Script.{AreLines, IsScript, Makes, call, makes, none, skipped}
use Rattle.ob_text_words.specs.ScriptCalls.{ScriptCall, object_call}
use Rattle.ob_text_words.specs.Words.{Word}
use Rattle.wf_play.specs.Played.{scripts_of}

-- the calls themselves
pub calls_in : (calls : List ScriptCall) → map (λ c. c.1) (scripts_of calls) ≡ map object_call calls
calls_in [] = refl
calls_in (c ∷ calls) = ap (λ cs. object_call c ∷ cs) (calls_in calls)

abbrev IsOfOne : ℕ × ObjectCall → Type 0
IsOfOne c = c.0 < 1

caller_below : {exports : List Signature} {n : ℕ} {line : List Word} {c : ScriptCall} → Makes exports n line c → c.process < n
caller_below (makes is below is_name named values) = below

lines_of_one : {exports : List Signature} {ls : List (List Word)} {cs : List ScriptCall} → AreLines exports 1 ls cs → All IsOfOne (scripts_of cs)
lines_of_one none = All-nil IsOfOne
lines_of_one (skipped s h) = lines_of_one h
lines_of_one (call {c = c} {calls = calls} m h) = All-cons IsOfOne (c.process, object_call c) (scripts_of calls) (caller_below m) (lines_of_one h)

pub of_one_process : (exports : List Signature) (text : List ℕ) (calls : List ScriptCall) → IsScript exports 1 text calls → All IsOfOne (scripts_of calls)
of_one_process exports text calls script = lines_of_one script
