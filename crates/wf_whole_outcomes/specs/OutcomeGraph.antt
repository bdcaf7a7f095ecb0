-- Where calls lead, with places for configurations and numbers for replies.
use Rattle.std.specs.Prelude.{◌≡◌, ℕ, ◌<◌, List, [], length, get_or, slice_get, Option, None, Some, MatchOption}
use Rattle.wf_whole_outcomes.specs.declared.edges.Edge.{Edge}
use Rattle.wf_outcomes.specs.Explored.{Kept}
use Rattle.wf_outcomes.specs.Outcomes.{IsAtEnd, LeadsOn}

module _ {State Call Reply : Type 0} (Effect : Call → State → State → Reply → Type 0) (scripts : List (List Call)) (found : List (Kept State)) where
  -- the reply of this number, and the place, are those of the next call of the process
  pub record IsEdge (replies : List Reply) (place process : ℕ) (e : Edge) : Type 0 where
    pub reply : Reply
    pub numbered : slice_get replies e.reply ≡ Some reply
    pub leads : LeadsOn Effect scripts found place process reply e.to

  abbrev pub SaysEdge : List Reply → (place process : ℕ) → Option Edge → Type 0
  SaysEdge replies place process o = MatchOption o (IsAtEnd Effect scripts found place process) (IsEdge replies place process)

  -- a row says of each process below a bound where its next call leads
  pub record IsRow (replies : List Reply) (place bound : ℕ) (row : List (Option Edge)) : Type 0 where
    pub size : length row ≡ bound
    pub each : (process : ℕ) → process < bound → SaysEdge replies place process (get_or row process None)

  -- so do the rows of the places below a bound
  pub record AreRows (replies : List Reply) (bound : ℕ) (rows : List (List (Option Edge))) : Type 0 where
    pub size : length rows ≡ bound
    pub each : (place : ℕ) → place < bound → IsRow replies place (length scripts) (get_or rows place [])
