-- What the closing of a desk compares, and what it gives.
use Rattle.std.specs.Prelude.{◌≡◌, ◌≢◌, ℕ, ◌<◌, ◌≤◌, ◌⊎◌, ℤ, All, Contains, List, count_by, nat_eq, slice_index}
use Rattle.ob_desk_floor.specs.Desk.{Desk}
use Rattle.ob_desk_floor.specs.declared.fault.CloseFault.{CloseFault}
use Rattle.ob_desk_floor.specs.declared.fault.CloseFault.TheVariants as Faults
use Rattle.ob_desk_floor.specs.Agreeing.{AgreesAt}
use Rattle.ob_desk_floor.specs.Floor.{Floor, IsFloor}
use Rattle.ob_desk_floor.specs.Seat.{Seat}
use Rattle.ob_interface.specs.Call.{ObjectCall}
use Rattle.wf_history.specs.History.{own_answers}
use Rattle.wf_object.specs.View.{Object}
use Rattle.wf_table.specs.Meaning.{Meaning}
use Rattle.wf_table.specs.Runs.{IsRun, performed}
use Rattle.wf_table.specs.Start.{sizes_of}

-- ---- seats

-- a seat of the desk: it has the desk's tag, and is of one of its processes
pub record IsOwn {Code : Type 0} (d : Desk Code) (s : Seat) : Type 0 where
  pub tag : s.tag ≡ d.tag
  pub process : s.process < d.processes

-- K1: the lowest process of a seat that is not the desk's
pub record IsLowestStranger {Code : Type 0} (d : Desk Code) (seats : List Seat) (p : ℕ) : Type 0 where
  pub seat : Seat
  pub there : Contains seats seat
  pub stranger : ¬ (IsOwn d seat)
  pub is : seat.process ≡ p
  pub others : All (λ s. IsOwn d s ⊎ (p ≤ s.process)) seats

-- how many seats a process has
abbrev pub seats_at : ℕ → List Seat → ℕ
seats_at p seats = count_by (λ s. nat_eq s.process p) seats

-- K2: the lowest process that has not just one seat
pub record IsLowestUneven {Code : Type 0} (d : Desk Code) (seats : List Seat) (p : ℕ) : Type 0 where
  pub own : p < d.processes
  pub uneven : seats_at p seats ≢ 1
  pub below : (k : ℕ) → k < p → seats_at k seats ≡ 1

-- seats that are the desk's, one for each process
pub record AreSeats {Code : Type 0} (d : Desk Code) (seats : List Seat) : Type 0 where
  pub own : All (IsOwn d) seats
  pub each : (p : ℕ) → p < d.processes → seats_at p seats ≡ 1

module _ {E Run Code : Type 0} (code : E → Code) where
  -- ---- the floor

  -- K5 is that this fails: number of processes, code, opening words, whether their values were carried over, and scripts are the
  -- desk's
  pub record IsOf (d : Desk Code) (f : Floor E Run) : Type 0 where
    pub processes : f.machine.sizes.processes ≡ d.processes
    pub code_is : code f.machine.engine ≡ d.code
    pub opening : f.machine.opening ≡ d.opening
    pub carried : f.carried ≡ d.carried
    pub scripts : f.scripts ≡ d.scripts

-- ---- seats and floor

module _ {E Run : Type 0} where
  -- the process's seats agree with what the floor counted and saw of it
  abbrev pub AgreeAt : Floor E Run → List Seat → ℕ → Type 0
  AgreeAt f seats p = All (AgreesAt p (slice_index f.counts p) (own_answers p f.machine.state.records.history)) seats

  -- K3: the lowest process whose seats don't
  pub record IsLowestApart (f : Floor E Run) (seats : List Seat) (p : ℕ) : Type 0 where
    pub own : p < f.machine.sizes.processes
    pub apart : ¬ (AgreeAt f seats p)
    pub below : (k : ℕ) → k < p → AgreeAt f seats k

-- ---- what a closing tells

module _ {E Run Code : Type 0} (code : E → Code) where
  -- each fault is told where those before it are not, in the order K1, K2, K5, K3
  abbrev pub IsCloseFault : Desk Code → Floor E Run → List Seat → CloseFault → Type 0
  IsCloseFault d f seats (Faults.Stranger p) = IsLowestStranger d seats p
  IsCloseFault d f seats (Faults.Uneven p) = All (IsOwn d) seats × IsLowestUneven d seats p
  IsCloseFault d f seats Faults.OtherFloor = AreSeats d seats × (¬ (IsOf code d f))
  IsCloseFault d f seats (Faults.Disagrees p) = AreSeats d seats × IsOf code d f × IsLowestApart f seats p

  module _ (meaning : E → Meaning Run) (lawful : E → List ℤ → Type 0) (fits : E → ObjectCall → Type 0) (ready : E → Run → Type 0) where
    -- of some floor, which stood under the lock
    pub record TellsClosing (d : Desk Code) (seats : List Seat) (fault : CloseFault) : Type 0 where
      pub floor : Floor E Run
      pub is_floor : IsFloor (meaning floor.machine.engine) (lawful floor.machine.engine) (fits floor.machine.engine) (ready floor.machine.engine) floor
      pub tells : IsCloseFault d floor seats fault

    -- the machine of the desk's code, with as many processes as the desk says, to which a run by the scripts and the machine's own
    -- schedule led, from the desk's opening
    pub record IsClosed (d : Desk Code) (o : Object E Run) : Type 0 where
      pub code_is : code o.engine ≡ d.code
      pub sizes : o.sizes ≡ sizes_of (meaning o.engine) d.processes
      pub opening : o.opening ≡ d.opening
      pub runs : IsRun (meaning o.engine) (lawful o.engine) (fits o.engine) (ready o.engine) d.processes d.opening (performed d.scripts o.state.records.schedule) o.state
