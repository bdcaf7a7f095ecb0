-- What a desk keeps beside its lock.
use Rattle.std.specs.Prelude.{ℕ, ℤ, Bool, List, map}
use Rattle.std.specs.List.{range_with_len}
use Rattle.ob_desk_floor.specs.Seat.{Seat, new_seat}
use Rattle.ob_desk_floor.specs.Submission.{submission_of}
use Rattle.ob_desk_floor.specs.declared.opening.Opening.{Opening}
use Rattle.ob_desk_floor.specs.declared.submission.Submission.{Submission}
use Rattle.ob_interface.specs.Call.{ObjectCall}

-- the code of the engine, the number of processes, the words with which the object begins, whether their values were carried over,
-- the calls that were submitted before any turn, each with its process, and the tag of the seats
pub record Desk (Code : Type 0) : Type 0 where
  pub code : Code
  pub processes : ℕ
  pub opening : List ℤ
  pub carried : Bool
  pub scripts : List (ℕ × ObjectCall)
  pub tag : ℕ

-- the same, with the engine as the program has it
pub record Terms (E : Type 0) : Type 0 where
  pub engine : E
  pub processes : ℕ
  pub opening : List ℤ
  pub carried : Bool
  pub scripts : List (ℕ × ObjectCall)
  pub tag : ℕ

abbrev pub terms_of : {E : Type 0} → E → (processes : ℕ) → Opening → List Submission → (tag : ℕ) → Terms E
terms_of engine processes opening scripts tag =
    record { engine = engine; processes = processes; opening = opening.words.items; carried = opening.carried; scripts = map submission_of scripts; tag = tag }

abbrev pub desk_in : {E Code : Type 0} → (E → Code) → Terms E → Desk Code
desk_in code t = record { code = code t.engine; processes = t.processes; opening = t.opening; carried = t.carried; scripts = t.scripts; tag = t.tag }

-- one seat for each process, in order, without turns or answers
abbrev pub seats_of : ℕ → ℕ → List Seat
seats_of processes tag = map (λ p. new_seat p tag) (range_with_len 0 processes)
