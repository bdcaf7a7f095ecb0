use Rattle.std.proofs.Common.{◌≡◌, ◌^◌, ◌<◌, List, length, set, sym, ap, ◌∙◌, refl, arith, subst}
use Rattle.std.proofs.lemmas.Option.{slice_get_read, get_or_from_slice_get}
use Rattle.wf_table.specs.Object.{State, Records}
use Rattle.wf_table.specs.Schedule.{steps_of}
use Rattle.wf_table.specs.declared.spent.Spent.{Spent}
use Rattle.wf_table.specs.Spent.{unspent}
use Rattle.wf_table.specs.Counted.{spent_of}
use Rattle.wf_object.specs.InARow.{after_steps, spent_after_steps}
use Rattle.wf_records.specs.Times.{counted_times}
use Rattle.wf_object.specs.Kept.{IsKept}
use Rattle.wf_object.specs.Progress.{AreUnmarked, Progress, by_rows, progress}
use Rattle.wf_records.proofs.Counting.{times_longer}
use Rattle.wf_object.proofs.OneStep.{stands}
use Rattle.wf_object.proofs.Progressing.{rows_are, rows_kept, rows_quiet, rows_spend, start}
use Rattle.wf_object.proofs.Spends.{inside_room_for}
use Rattle.wf_object.proofs.machine.Machine.go_on.Goals as goal

pub take_rows-count-requires-clause-object : goal.take_rows-count-requires-clause-object
take_rows-count-requires-clause-object g c =
    let s = c.self.inside in
    let kept = c.self.invariant in
    let p = c.args.p in
    let within : p < s.sizes.processes = rw (← c.self.view_is) at c.requires in
    let x = c.index_mut-process.result.now in
    let at = stands s.processes.items s.sizes.processes p x kept.sound.count within c.index_mut-process.ensures.value in
    let sp = c.index_mut-spent.result.now in
    let count : p < length s.spent.items = omega (arith, within, kept.spends.count, kept.sound.count) in
    let is : sp ≡ spent_of s.spent.items p = sym (get_or_from_slice_get s.spent.items p sp unspent (slice_get_read s.spent.items (length s.spent.items) p sp refl count c.index_mut-spent.ensures.value)) in
    record {
      opening = s.opening.items;
      state = record { cell = s.shared.cell; processes = s.processes.items; records = s.records };
      process = x;
      spent = s.spent.items;
      form = s.shared.form;
      kept = kept;
      here = at;
      is = ap (λ (y : Spent). progress s.shared.cell x y) is;
    }

pub take_rows-count-requires-clause-room : goal.take_rows-count-requires-clause-room
take_rows-count-requires-clause-room g c =
    let s = c.self.inside in
    let kept = c.self.invariant in
    let p = c.args.p in
    let within : p < s.sizes.processes = rw (← c.self.view_is) at c.requires in
    let x = c.index_mut-process.result.now in
    let at = stands s.processes.items s.sizes.processes p x kept.sound.count within c.index_mut-process.ensures.value in
    let sp = c.index_mut-spent.result.now in
    let count : p < length s.spent.items = omega (arith, within, kept.spends.count, kept.sound.count) in
    let is : sp ≡ spent_of s.spent.items p = sym (get_or_from_slice_get s.spent.items p sp unspent (slice_get_read s.spent.items (length s.spent.items) p sp refl count c.index_mut-spent.ensures.value)) in
    let short : c.room-room.result < 2 ^ 64 = omega arith in
    rw is (inside_room_for s.sizes.processes s.records.schedule _ c.room-room.result kept.sound.below.schedule c.few_turns.ensures (kept.among _ _ at) short)

pub invariant_of-self : goal.invariant_of-self
invariant_of-self g c =
    let s = c.self.inside in
    let e = g.E.Engine in
    let m = e.meaning s.engine in
    let kept = c.self.invariant in
    let p = c.args.p in
    let k = c.take_rows-count.result in
    let within : p < s.sizes.processes = rw (← c.self.view_is) at c.requires in
    let x = c.index_mut-process.result.now in
    let at = stands s.processes.items s.sizes.processes p x kept.sound.count within c.index_mut-process.ensures.value in
    let sp = c.index_mut-spent.result.now in
    let count : p < length s.spent.items = omega (arith, within, kept.spends.count, kept.sound.count) in
    let is : sp ≡ spent_of s.spent.items p = sym (get_or_from_slice_get s.spent.items p sp unspent (slice_get_read s.spent.items (length s.spent.items) p sp refl count c.index_mut-spent.ensures.value)) in
    let state : State _ = record { cell = s.shared.cell; processes = s.processes.items; records = s.records } in
    let first = start m s.sizes p state x at s.spent.items count in
    let leads : progress c.take_rows-count.new.shared.cell c.take_rows-count.new.q c.take_rows-count.new.spent ≡ by_rows m s.sizes p k first = c.take_rows-count.ensures.leads ∙ ap (λ (y : Spent). by_rows m s.sizes p k (progress s.shared.cell x y)) is in
    let unmarked : AreUnmarked m s.sizes p k first = subst (λ (y : Spent). AreUnmarked m s.sizes p k (progress s.shared.cell x y)) is c.take_rows-count.ensures.unmarked in
    rw (c.take_rows-count.ensures.form, c.count_more.ensures)
    (subst (λ (u : Progress _). IsKept m (e.lawful s.engine) (e.fits s.engine) (e.ready s.engine) s.sizes s.opening.items (record { cell = u.cell; processes = set s.processes.items p u.process; records = record s.records { schedule = counted_times s.records.schedule p k } }) (set s.spent.items p u.spent) s.shared.form) (sym leads)
    (rows_kept m (e.lawful s.engine) (e.fits s.engine) (e.ready s.engine) (e.effect s.engine) (g.met.E.Engine.law s.engine) s.sizes p s.opening.items state x at s.spent.items count s.shared.form kept k unmarked))

pub returns-clause-stepped : goal.returns-clause-stepped
returns-clause-stepped g c =
    let s = c.self.inside in
    let m = g.E.Engine.meaning s.engine in
    let kept = c.self.invariant in
    let p = c.args.p in
    let k = c.take_rows-count.result in
    let within : p < s.sizes.processes = rw (← c.self.view_is) at c.requires in
    let x = c.index_mut-process.result.now in
    let at = stands s.processes.items s.sizes.processes p x kept.sound.count within c.index_mut-process.ensures.value in
    let sp = c.index_mut-spent.result.now in
    let count : p < length s.spent.items = omega (arith, within, kept.spends.count, kept.sound.count) in
    let is : sp ≡ spent_of s.spent.items p = sym (get_or_from_slice_get s.spent.items p sp unspent (slice_get_read s.spent.items (length s.spent.items) p sp refl count c.index_mut-spent.ensures.value)) in
    let state : State _ = record { cell = s.shared.cell; processes = s.processes.items; records = s.records } in
    let first = start m s.sizes p state x at s.spent.items count in
    let leads : progress c.take_rows-count.new.shared.cell c.take_rows-count.new.q c.take_rows-count.new.spent ≡ by_rows m s.sizes p k first = c.take_rows-count.ensures.leads ∙ ap (λ (y : Spent). by_rows m s.sizes p k (progress s.shared.cell x y)) is in
    let unmarked : AreUnmarked m s.sizes p k first = subst (λ (y : Spent). AreUnmarked m s.sizes p k (progress s.shared.cell x y)) is c.take_rows-count.ensures.unmarked in
    let last = by_rows m s.sizes p k first in
    let moved : ◌≡◌ {A = State _} (record { cell = c.take_rows-count.new.shared.cell; processes = set s.processes.items p c.take_rows-count.new.q; records = c.count_more.new.self }) (after_steps m s.sizes p k state) =
    ap (λ (u : Progress _). record { cell = u.cell; processes = set s.processes.items p u.process; records = c.count_more.new.self }) leads
    ∙ ap (λ (y : Records). record { cell = last.cell; processes = set s.processes.items p last.process; records = y }) c.count_more.ensures
    ∙ sym (rows_are m s.sizes p state x at s.spent.items count k unmarked) in
    let paid : set s.spent.items p c.take_rows-count.new.spent ≡ spent_after_steps m s.sizes p k state s.spent.items =
    ap (λ (u : Progress _). set s.spent.items p u.spent) leads ∙ sym (rows_spend m s.sizes p state x at s.spent.items count k unmarked) in
    rw (← c.self.view_is)
    (ap (λ (y : State _). record { engine = s.engine; sizes = s.sizes; opening = s.opening.items; state = y; spent = set s.spent.items p c.take_rows-count.new.spent }) moved
    ∙ ap (λ (y : List Spent). record { engine = s.engine; sizes = s.sizes; opening = s.opening.items; state = after_steps m s.sizes p k state; spent = y }) paid)

pub returns-clause-quiet : goal.returns-clause-quiet
returns-clause-quiet g c =
    let s = c.self.inside in
    let m = g.E.Engine.meaning s.engine in
    let kept = c.self.invariant in
    let p = c.args.p in
    let k = c.take_rows-count.result in
    let within : p < s.sizes.processes = rw (← c.self.view_is) at c.requires in
    let x = c.index_mut-process.result.now in
    let at = stands s.processes.items s.sizes.processes p x kept.sound.count within c.index_mut-process.ensures.value in
    let sp = c.index_mut-spent.result.now in
    let count : p < length s.spent.items = omega (arith, within, kept.spends.count, kept.sound.count) in
    let is : sp ≡ spent_of s.spent.items p = sym (get_or_from_slice_get s.spent.items p sp unspent (slice_get_read s.spent.items (length s.spent.items) p sp refl count c.index_mut-spent.ensures.value)) in
    let state : State _ = record { cell = s.shared.cell; processes = s.processes.items; records = s.records } in
    let unmarked : AreUnmarked m s.sizes p k (start m s.sizes p state x at s.spent.items count) = subst (λ (y : Spent). AreUnmarked m s.sizes p k (progress s.shared.cell x y)) is c.take_rows-count.ensures.unmarked in
    rw (← c.self.view_is) (rows_quiet m s.sizes p state x at s.spent.items count k unmarked)

pub returns-clause-turns : goal.returns-clause-turns
returns-clause-turns g c =
    let s = c.self.inside in
    rw (← c.self.view_is) (ap (λ (r : Records). steps_of r.schedule) c.count_more.ensures ∙ times_longer s.records.schedule c.args.p c.take_rows-count.result)
