-- What the threads of workers hand back, by what they have promised.
use Rattle.std.specs.Prelude.{◌≡◌, ℕ, List, Option, None, Some}
use Rattle.std.specs.List.{AllZip}
use Rattle.std.specs.declared.thread.PromisedHandle.{PromisedHandle}
use Rattle.ob_desk_floor.specs.Seat.{Seat}
use Rattle.ob_desk_serve.specs.Rounds.{Halts, HasWorked, Hears, Says}
use Rattle.ob_desk_serve.specs.declared.worker.PassedBy.{PassedBy}
use Rattle.ob_desk_serve.specs.declared.worker.Worked.{Worked}

-- a worker's thread; none where it was not started
abbrev pub Start : Type 0 → Type 0 → Type 0
Start D G = Option (PromisedHandle Worked (PassedBy D G))

module _ {D G : Type 0} where
  -- for this seat, at this desk, by this gate and limit
  abbrev pub IsStartOf : (desk : D) (gate : G) (limit : ℕ) → Seat → Start D G → Type 0
  IsStartOf desk gate limit s None = Unit {0}
  IsStartOf desk gate limit s (Some h) = (h.promise.desk.value ≡ desk) × (h.promise.gate.value ≡ gate) × (h.promise.limit ≡ limit) × (h.promise.seat.value ≡ s)

  -- one for each seat, in order
  abbrev pub AreStartsOf : (desk : D) (gate : G) (limit : ℕ) → List Seat → List (Start D G) → Type 0
  AreStartsOf desk gate limit seats starts = AllZip (IsStartOf desk gate limit) seats starts

  module _ (passes refuses : G → Says) (hears : G → Hears) (halts : D → Halts) where
    -- the worker of a start hands back what it has promised
    abbrev pub IsJoined : Start D G → Option Worked → Type 0
    IsJoined None None = Unit {0}
    IsJoined (Some h) (Some w) =
        let p = h.promise in
        HasWorked (passes p.gate.value) (refuses p.gate.value) (hears p.gate.value) (halts p.desk.value) p.limit p.seat.value w
    IsJoined _ _ = ⊥

    -- that of each start, in order
    abbrev pub AreJoined : List (Start D G) → List (Option Worked) → Type 0
    AreJoined starts workers = AllZip IsJoined starts workers
