-- What came of a desk's workers.
use Rattle.std.specs.Prelude.{ℕ, IfSome, List, Option}
use Rattle.std.specs.List.{AllZip}
use Rattle.ob_desk_floor.specs.Seat.{Seat}
use Rattle.ob_desk_serve.specs.Rounds.{Halts, HasWorked, Hears, Says}
use Rattle.ob_desk_serve.specs.declared.worker.Worked.{Worked}

-- for each seat, in order, what its worker handed back, if it was started
abbrev pub HaveWorked : (passes refuses : Says) → Hears → Halts → (limit : ℕ) → List Seat → List (Option Worked) → Type 0
HaveWorked passes refuses hears halts limit seats workers = AllZip (λ s w. IfSome w (HasWorked passes refuses hears halts limit s)) seats workers
