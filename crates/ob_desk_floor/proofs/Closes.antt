-- What the comparisons of a closing show together.
use Rattle.std.proofs.Common.{◌∙◌, ℕ, ◌<◌, List, All, ap, get_or, refl, subst, sym}
use Rattle.std.specs.Prelude.{ℤ}
use Rattle.ob_interface.specs.Call.{ObjectCall}
use Rattle.wf_table.specs.Meaning.{Meaning}
use Rattle.wf_table.specs.Runs.{IsRun, performed}
use Rattle.wf_table.specs.Start.{sizes_of}
use Rattle.ob_desk_floor.specs.Close.{AgreeAt, AreSeats, IsClosed, IsOf}
use Rattle.ob_desk_floor.specs.Desk.{Desk}
use Rattle.ob_desk_floor.specs.Agreeing.{Agrees}
use Rattle.ob_desk_floor.specs.Floor.{Floor, IsFloor}
use Rattle.ob_desk_floor.specs.Seat.{Seat}

module _ {E Run Code : Type 0} (code : E → Code) (meaning : E → Meaning Run) (lawful : E → List ℤ → Type 0) (fits : E → ObjectCall → Type 0) (ready : E → Run → Type 0)
    (d : Desk Code) (f : Floor E Run) (is : IsFloor (meaning f.machine.engine) (lawful f.machine.engine) (fits f.machine.engine) (ready f.machine.engine) f) (of : IsOf code d f) where
  -- seats that agree with a floor took the turns of its schedule, and have the answers of its history
  pub all_agree : (seats : List Seat) → AreSeats d seats → ((p : ℕ) → p < f.machine.sizes.processes → AgreeAt f seats p) → All (Agrees f.machine.state.records.history f.machine.state.records.schedule) seats
  all_agree seats are each k x lt =
      let s = get_or seats k x in
      let there : s.process < f.machine.sizes.processes = subst (λ (n : ℕ). s.process < n) (sym of.processes) (are.own k x lt).process in
      let one = (each s.process there k x lt).agrees refl in
      record { turns = one.0 ∙ is.counts s.process there; answers = one.1 }

  -- the machine of the desk's floor is the one of the desk's run
  pub closed : IsClosed code meaning lawful fits ready d f.machine
  closed =
      let e = f.machine.engine in
      let s = f.machine.state in
      record {
        code_is = of.code_is;
        sizes = is.sizes ∙ ap (sizes_of (meaning e)) of.processes;
        opening = of.opening;
        runs = subst (λ (n : ℕ). IsRun (meaning e) (lawful e) (fits e) (ready e) n d.opening (performed d.scripts s.records.schedule) s) of.processes
            (subst (λ (ws : List ℤ). IsRun (meaning e) (lawful e) (fits e) (ready e) f.machine.sizes.processes ws (performed d.scripts s.records.schedule) s) of.opening
            (subst (λ (cs : List (ℕ × ObjectCall)). IsRun (meaning e) (lawful e) (fits e) (ready e) f.machine.sizes.processes f.machine.opening (performed cs s.records.schedule) s) of.scripts is.runs));
      }
