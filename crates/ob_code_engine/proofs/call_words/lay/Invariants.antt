use Rattle.std.proofs.Common.{◌≡◌, ◌≤◌, ◌∷◌, length, map, take}
use Rattle.std.specs.Prelude.{pos}
use Rattle.ob_code_correct.specs.CodeMeaning.{padded}
use Rattle.ob_code_scheme.specs.Layout.{word}
use Rattle.ob_code_engine.proofs.call_words.lay.Given as goal

-- the words so far are those of the call
abbrev pub invariant-loop-place : goal.invariant-loop-place
invariant-loop-place l = record {
  behind : 1 ≤ l.place;
  laid : take l.place l.words ≡ take l.place (padded (length l.fn.words) (pos l.proc ∷ map word l.arguments));
}
