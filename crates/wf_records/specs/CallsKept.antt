-- The calls of a script, as they are kept: their arguments stand one behind the other.
use Rattle.std.specs.Prelude.{◌≡◌, ℕ, ◌-◌, ◌<◌, ◌≤◌, List, [], ◌∷◌, length, slice_range, slice_index_or}
use Rattle.ob_interface.specs.declared.scalar.Scalar.{Scalar}
use Rattle.ob_interface.specs.Call.{ObjectCall}
use Rattle.wf_records.specs.declared.submitted_calls.Head.{Head}

-- the calls, and the number of the one at hand, or 0
pub record KeptCalls : Type 0 where
  pub calls : List ObjectCall
  pub number : ℕ

abbrev pub no_call : ObjectCall
no_call = record { export = 0; arguments = [] }

-- the first one's arguments begin at start
abbrev pub calls_from : ℕ → List Head → List Scalar → List ObjectCall
calls_from start [] xs = []
calls_from start (h ∷ hs) xs = record { export = h.proc; arguments = slice_range xs start h.end } ∷ calls_from h.end hs xs

-- each call's arguments end behind those of the call before it, and the last one's at the end of all
abbrev pub IsLaid : ℕ → List Head → ℕ → Type 0
IsLaid start [] end = start ≡ end
IsLaid start (h ∷ hs) end = (start ≤ h.end) × IsLaid h.end hs end

pub record IsKeptWell (heads : List Head) (xs : List Scalar) (number : ℕ) (hand : ObjectCall) : Type 0 where
  pub laid : IsLaid 0 heads (length xs)
  pub counted : number ≤ length heads
  pub at_hand : 0 < number → hand ≡ slice_index_or (calls_from 0 heads xs) (number - 1) no_call
