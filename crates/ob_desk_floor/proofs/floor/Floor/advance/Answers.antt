use Rattle.std.specs.Arc.{arc_value}
use Rattle.std.proofs.Common.{get_or, ◌∙◌, ℕ, ◌<◌, ◌≡◌, ◌^◌, ◌+◌, ◌++◌, ◌∷◌, [], length, List, map, arith}
use Rattle.std.specs.Prelude.{slice_index}
use Rattle.std.proofs.Math.Facts.{Fits-of_lt}
use Rattle.std.proofs.lemmas.Grind.{get_or_default_zero}
use Rattle.wf_table.specs.Object.{step_of}
use Rattle.wf_table.specs.Schedule.{steps_of}
use Rattle.ob_desk_floor.specs.Floor.{Floor, IsFloor, floor_after}
use Rattle.ob_desk_floor.specs.Submission.{submission_of}
use Rattle.ob_desk_floor.proofs.Floors.{floor_turned, count_fits}
use Rattle.ob_desk_floor.proofs.floor.Floor.advance.Goals as goal

-- the count that is read
read : (xs : List ℕ) (i n x : ℕ) → i < n → length xs ≡ n → x ≡ get_or xs i x → x ≡ slice_index xs i
read xs i n x lt e is = is ∙ get_or_default_zero xs i x (omega (arith, e, lt))

pub overflow_add-index_mut : goal.overflow_add-index_mut
overflow_add-index_mut g c =
    let i = g.E.Engine in
    let o = c.self.inside.machine in
    let f : Floor _ _ = record { machine = o; carried = c.self.inside.carried; scripts = map submission_of (arc_value c.self.inside.scripts).items; counts = c.self.inside.counts.items } in
    let p = c.process-process.result in
    let below : p < o.sizes.processes = rw (← c.self.view_is, ← c.process-process.ensures) at c.requires.process in
    let few : length o.state.records.schedule < 2 ^ 64 = rw c.schedule.ensures at c.count_runs.ensures in
    let fits : slice_index f.counts p + 1 < 2 ^ 128 = count_fits (i.meaning o.engine) (i.lawful o.engine) (i.fits o.engine) (i.ready o.engine) f p below c.self.invariant c.keeps.ensures.sound.below.schedule few in
    Fits-of_lt (rw (read c.self.inside.counts.items p o.sizes.processes c.index_mut.result.now below c.self.invariant.each c.index_mut.ensures.value) fits)

pub invariant_of-self-2 : goal.invariant_of-self-2
invariant_of-self-2 g c =
    let i = g.E.Engine in
    let o = c.self.inside.machine in
    let f : Floor _ _ = record { machine = o; carried = c.self.inside.carried; scripts = map submission_of (arc_value c.self.inside.scripts).items; counts = c.self.inside.counts.items } in
    let p = c.process-process.result in
    let m = i.meaning o.engine in
    let below : p < o.sizes.processes = rw (← c.self.view_is, ← c.process-process.ensures) at c.requires.process in
    let more : steps_of (step_of m o.sizes o.state p).records.schedule ≡ steps_of o.state.records.schedule ++ p ∷ [] = rw (c.in_ok-seen.ensures.machine, ← c.process-process.ensures) at c.in_ok-seen.ensures.turn in
    let goes = c.every_turn.ensures o.engine o.sizes.processes o.opening f.scripts o.state p below c.self.invariant.runs in
    let next : IsFloor m (i.lawful o.engine) (i.fits o.engine) (i.ready o.engine) (floor_after m f p) = floor_turned m (i.lawful o.engine) (i.fits o.engine) (i.ready o.engine) f p below c.self.invariant goes more in
    rw (c.in_ok-seen.ensures.machine, ← c.process-process.ensures, read c.self.inside.counts.items p o.sizes.processes c.index_mut.result.now below c.self.invariant.each c.index_mut.ensures.value) next
