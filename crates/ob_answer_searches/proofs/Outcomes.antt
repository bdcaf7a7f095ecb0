-- The lines of outcomes from one on.
use Rattle.std.proofs.Common.{◌≡◌, refl, ap, ℕ, ◌+◌, suc, List, [], ◌∷◌, length, map}
use Rattle.ob_answer_searches.specs.WholeLines.{numbered_lines}
use Rattle.ob_meaning.specs.ByPositionStore.{Activation}
use Rattle.ob_typing.specs.Program.{Variable}
use Rattle.wf_history.specs.View.{kept_reply}
use Rattle.wf_whole_outcomes.specs.View.{wholes_from}
use Rattle.ob_interface.specs.Call.{Reply}
use Rattle.wf_whole_outcomes.specs.declared.layers.Front.{Front}
use Rattle.wf_whole_outcomes.specs.declared.wholes.ToldWholes.{ToldWholes}

-- the lines of the outcomes from a node on, which have these states
abbrev pub lines_from : List Variable → ToldWholes ℕ → (k : ℕ) → List Activation → List ℕ
lines_from variables wholes k states = numbered_lines variables k (wholes_from (map kept_reply wholes.replies.items) wholes.processes wholes.front k states)

-- there is one for each state
pub length_outcomes : {Kept : Type 0} (known : List Reply) (processes : ℕ) (f : Front) (k : ℕ) (states : List Kept) → length (wholes_from known processes f k states) ≡ length states
length_outcomes known processes f k [] = refl
length_outcomes known processes f k (state ∷ states) = ap suc (length_outcomes known processes f (k + 1) states)
