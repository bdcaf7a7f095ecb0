use Rattle.std.proofs.Common.{◌≡◌, ◌<◌, ◌≤◌, List, length, set, sym, ap, ap₂, ◌∙◌, subst, refl, arith}
use Rattle.std.specs.Prelude.{Option, slice_get}
use Rattle.std.proofs.lemmas.List.{set-get_or, with_items_is}
use Rattle.std.specs.Vec.{with_items}
use Rattle.ll_cell.specs.declared.form.Form.{Form}
use Rattle.ll_cell.specs.Memory.{Memory}
use Rattle.wf_object.specs.Kept.{IsKept}
use Rattle.wf_object.specs.View.{Object}
use Rattle.wf_object.proofs.Results.{at_err}
use Rattle.std.proofs.lemmas.Option.{slice_get_read, get_or_from_slice_get}
use Rattle.wf_history.specs.History.{IsHistory}
use Rattle.wf_table.specs.Each.{Each}
use Rattle.wf_table.specs.Ranges.{IsInRange}
use Rattle.wf_table.specs.Scripts.{CallsFit}
use Rattle.wf_table.specs.Object.{State, Records, answer_of, stepped, step_of, step_by, Answer, event_at, seen_by, seen_of, values_answered, history_after}
use Rattle.wf_table.specs.Schedule.{steps_of}
use Rattle.wf_table.specs.StepTable.{Process}
use Rattle.wf_table.proofs.Counted.{one_turn}
use Rattle.wf_table.proofs.FewValues.{few_answered}
use Rattle.wf_table.proofs.KeepsTurns.{event_in_turn}
use Rattle.wf_table.specs.declared.spent.Spent.{Spent}
use Rattle.wf_table.specs.Spent.{unspent, spent_after, has_more}
use Rattle.wf_table.specs.Counted.{spent_of, spent_by_step, count_by}
use Rattle.wf_object.specs.Shown.{spent_by, state_of}
use Rattle.wf_object.proofs.Keeps.{step_kept}
use Rattle.wf_object.proofs.Spends.{bodies_room, inside_room, outside_room, later}
use Rattle.wf_object.proofs.OneStep.{some_at}
use Rattle.wf_object.proofs.machine.Machine.take_loudly.Goals as goal

pub show_step-requires-clause-in_range : goal.show_step-requires-clause-in_range
show_step-requires-clause-in_range g c =
    let s = c.self.inside in
    subst (λ (ps : List (Process _)). Each (λ _ q. IsInRange s.sizes q) ps) (sym c.deref_mut.ensures.value) c.self.invariant.sound.in_range

pub show_step-requires-clause-fits : goal.show_step-requires-clause-fits
show_step-requires-clause-fits g c =
    let s = c.self.inside in
    subst (λ (ps : List (Process _)). Each (λ _ q. CallsFit (g.E.Engine.fits s.engine) q) ps) (sym c.deref_mut.ensures.value) c.self.invariant.sound.calls_fit

pub show_step-requires-clause-root_mark : goal.show_step-requires-clause-root_mark
show_step-requires-clause-root_mark g c =
    let s = c.self.inside in
    let kept = c.self.invariant in
    let within : c.args.p < s.sizes.processes = rw (← c.self.view_is) at c.requires.process in
    omega (arith, within, kept.sound.shaped.own_in c.args.p (omega (arith, within, kept.sound.shaped.owns)), kept.sound.marks.count_roots)

pub show_step-requires-clause-in_turn : goal.show_step-requires-clause-in_turn
show_step-requires-clause-in_turn g c =
    let s = c.self.inside in
    let kept = c.self.invariant in
    let within : c.args.p < s.sizes.processes = rw (← c.self.view_is) at c.requires.process in
    let q = some_at s.processes.items c.args.p (omega (arith, within, kept.sound.count)) in
    let m = g.E.Engine.meaning s.engine in
    let seen : seen_of m s.sizes s.shared.cell c.deref_mut.result.now c.args.p ≡ event_at q.0.label m s.sizes s.shared.cell s.processes.items c.args.p q.0 =
    ap (λ (ps : List (Process _)). seen_of m s.sizes s.shared.cell ps c.args.p) c.deref_mut.ensures.value
    ∙ ap (seen_by m s.sizes s.shared.cell s.processes.items c.args.p) q.1 in
    subst (λ e. IsHistory (history_after s.records.history e)) (sym seen)
    (event_in_turn q.0.label m s.sizes s.shared.cell s.processes.items c.args.p q.0 s.records.history refl (kept.sound.in_range _ _ q.1) (kept.sound.own_events _ _ q.1) kept.sound.in_turn)

pub show_step-requires-clause-bodies : goal.show_step-requires-clause-bodies
show_step-requires-clause-bodies g c =
    let s = c.self.inside in
    let kept = c.self.invariant in
    let within : c.args.p < s.sizes.processes = rw (← c.self.view_is) at c.requires.process in
    let q = some_at s.processes.items c.args.p (omega (arith, within, kept.sound.count)) in
    let x = c.index_mut.result.now in
    let count : c.args.p < length s.spent.items = omega (arith, within, kept.spends.count, kept.sound.count) in
    let is : x ≡ spent_of s.spent.items c.args.p = sym (get_or_from_slice_get s.spent.items c.args.p x unspent (slice_get_read s.spent.items (length s.spent.items) c.args.p x refl count c.index_mut.ensures.value)) in
    rw is (bodies_room (g.E.Engine.meaning s.engine) s.sizes q.0 _ kept.sound.sized (kept.sound.in_range _ _ q.1) (kept.spends.each _ _ q.1))

pub show_step-requires-clause-inside : goal.show_step-requires-clause-inside
show_step-requires-clause-inside g c =
    let s = c.self.inside in
    let kept = c.self.invariant in
    let within : c.args.p < s.sizes.processes = rw (← c.self.view_is) at c.requires.process in
    let q = some_at s.processes.items c.args.p (omega (arith, within, kept.sound.count)) in
    let x = c.index_mut.result.now in
    let count : c.args.p < length s.spent.items = omega (arith, within, kept.spends.count, kept.sound.count) in
    let is : x ≡ spent_of s.spent.items c.args.p = sym (get_or_from_slice_get s.spent.items c.args.p x unspent (slice_get_read s.spent.items (length s.spent.items) c.args.p x refl count c.index_mut.ensures.value)) in
    rw is (inside_room s.sizes.processes s.records.schedule _ kept.sound.below.schedule c.few_turns.ensures (kept.among _ _ q.1))

pub show_step-requires-clause-outside : goal.show_step-requires-clause-outside
show_step-requires-clause-outside g c =
    let s = c.self.inside in
    let kept = c.self.invariant in
    let within : c.args.p < s.sizes.processes = rw (← c.self.view_is) at c.requires.process in
    let q = some_at s.processes.items c.args.p (omega (arith, within, kept.sound.count)) in
    let x = c.index_mut.result.now in
    let count : c.args.p < length s.spent.items = omega (arith, within, kept.spends.count, kept.sound.count) in
    let is : x ≡ spent_of s.spent.items c.args.p = sym (get_or_from_slice_get s.spent.items c.args.p x unspent (slice_get_read s.spent.items (length s.spent.items) c.args.p x refl count c.index_mut.ensures.value)) in
    rw is (outside_room (g.E.Engine.meaning s.engine) s.sizes q.0 _ kept.sound.sized (kept.sound.in_range _ _ q.1) (kept.spends.each _ _ q.1))

pub returns-in_err-out-clause-err : goal.returns-in_err-out-clause-err
returns-in_err-out-clause-err g c =
    let s = c.self.inside in
    let kept = c.self.invariant in
    let e = g.E.Engine in
    let m = e.meaning s.engine in
    let within : c.args.p < s.sizes.processes = rw (← c.self.view_is) at c.requires.process in
    let q = some_at s.processes.items c.args.p (omega (arith, within, kept.sound.count)) in
    let ps = s.processes.items in
    let xs = s.spent.items in
    let state : State _ = state_of s.shared.cell ps s.records in
    let long : length c.show_step.new.processes ≡ s.processes.len = omega (arith, c.show_step.auto.processes, ap length c.deref_mut.ensures.value, s.processes.ok.0) in
    let whole : (with_items s.processes c.show_step.new.processes).items ≡ c.show_step.new.processes = with_items_is s.processes c.show_step.new.processes long in
    let x = c.index_mut.result.now in
    let count : c.args.p < length xs = omega (arith, within, kept.spends.count, kept.sound.count) in
    let is : x ≡ spent_of xs c.args.p = sym (get_or_from_slice_get xs c.args.p x unspent (slice_get_read xs (length xs) c.args.p x refl count c.index_mut.ensures.value)) in
    let unmoved : state_of c.show_step.new.shared.cell (with_items s.processes c.show_step.new.processes).items c.show_step.new.records ≡ state =
    ap (λ (k : List (Process _)). state_of c.show_step.new.shared.cell k c.show_step.new.records) (whole ∙ c.in_err-out.ensures.no_process ∙ c.deref_mut.ensures.value)
    ∙ ap₂ (λ (k : Memory) (r : Records). state_of k.cell ps r) c.in_err-out.ensures.no_cell c.in_err-out.ensures.no_record in
    let unpaid : set xs c.args.p c.show_step.new.spent ≡ xs =
    ap (λ (k : Spent). set xs c.args.p k) (c.in_err-out.ensures.no_spent ∙ is) ∙ set-get_or xs c.args.p unspent in
    let after : Object _ _ = record { engine = s.engine; sizes = s.sizes; opening = s.opening.items; state = state_of c.show_step.new.shared.cell (with_items s.processes c.show_step.new.processes).items c.show_step.new.records; spent = set xs c.args.p c.show_step.new.spent } in
    let before : Object _ _ = record { engine = s.engine; sizes = s.sizes; opening = s.opening.items; state = state; spent = xs } in
    let same : after ≡ before =
    ap (λ (k : State _). record { engine = s.engine; sizes = s.sizes; opening = s.opening.items; state = k; spent = set xs c.args.p c.show_step.new.spent }) unmoved
    ∙ ap (λ (k : List Spent). record { engine = s.engine; sizes = s.sizes; opening = s.opening.items; state = state; spent = k }) unpaid in
    rw (← c.self.view_is) (at_err (after ≡ before) c.from_residual.result same)

pub invariant_of-self-2 : goal.invariant_of-self-2
invariant_of-self-2 g c =
    let s = c.self.inside in
    let kept = c.self.invariant in
    let e = g.E.Engine in
    let m = e.meaning s.engine in
    let within : c.args.p < s.sizes.processes = rw (← c.self.view_is) at c.requires.process in
    let q = some_at s.processes.items c.args.p (omega (arith, within, kept.sound.count)) in
    let ps = s.processes.items in
    let xs = s.spent.items in
    let state : State _ = state_of s.shared.cell ps s.records in
    let long : length c.show_step.new.processes ≡ s.processes.len = omega (arith, c.show_step.auto.processes, ap length c.deref_mut.ensures.value, s.processes.ok.0) in
    let whole : (with_items s.processes c.show_step.new.processes).items ≡ c.show_step.new.processes = with_items_is s.processes c.show_step.new.processes long in
    let here : state_of c.show_step.new.shared.cell c.show_step.new.processes c.show_step.new.records ≡ step_of m s.sizes state c.args.p =
    c.in_ok-out.ensures.state ∙ ap (λ (k : List (Process _)). step_of m s.sizes (state_of s.shared.cell k s.records) c.args.p) c.deref_mut.ensures.value in
    let moved = ap (λ (k : List (Process _)). state_of c.show_step.new.shared.cell k c.show_step.new.records) whole ∙ here in
    let x = c.index_mut.result.now in
    let count : c.args.p < length xs = omega (arith, within, kept.spends.count, kept.sound.count) in
    let is : x ≡ spent_of xs c.args.p = sym (get_or_from_slice_get xs c.args.p x unspent (slice_get_read xs (length xs) c.args.p x refl count c.index_mut.ensures.value)) in
    let spends : c.show_step.new.spent ≡ spent_after q.0.label (has_more q.0) (spent_of xs c.args.p) =
    c.in_ok-out.ensures.spent
    ∙ ap (λ (k : List (Process _)). spent_by (slice_get k c.args.p) x) c.deref_mut.ensures.value
    ∙ ap (λ (o : Option (Process _)). spent_by o x) q.1
    ∙ ap (λ (k : Spent). spent_after q.0.label (has_more q.0) k) is in
    let next : State _ = stepped m s.sizes state c.args.p q.0 in
    let moves = moved ∙ ap (step_by m s.sizes state c.args.p) q.1 in
    let paid = ap (λ (k : Spent). set xs c.args.p k) spends in
    let is_kept = step_kept m (e.lawful s.engine) (e.fits s.engine) (e.ready s.engine) (e.effect s.engine) (g.met.E.Engine.law s.engine) s.sizes s.opening.items state c.args.p q.0 q.1 xs s.shared.form kept in
    subst (λ (k : State _). IsKept m (e.lawful s.engine) (e.fits s.engine) (e.ready s.engine) s.sizes s.opening.items k (set xs c.args.p c.show_step.new.spent) c.show_step.new.shared.form) (sym moves)
    (subst (λ (k : List Spent). IsKept m (e.lawful s.engine) (e.fits s.engine) (e.ready s.engine) s.sizes s.opening.items next k c.show_step.new.shared.form) (sym paid)
    (subst (λ (k : Form). IsKept m (e.lawful s.engine) (e.fits s.engine) (e.ready s.engine) s.sizes s.opening.items next (set xs c.args.p (later m s.sizes state c.args.p q.0 q.1 xs)) k) (sym c.in_ok-out.ensures.form) is_kept))

pub returns-clause-stepped : goal.returns-clause-stepped
returns-clause-stepped g c =
    let s = c.self.inside in
    let kept = c.self.invariant in
    let e = g.E.Engine in
    let m = e.meaning s.engine in
    let within : c.args.p < s.sizes.processes = rw (← c.self.view_is) at c.requires.process in
    let q = some_at s.processes.items c.args.p (omega (arith, within, kept.sound.count)) in
    let ps = s.processes.items in
    let xs = s.spent.items in
    let state : State _ = state_of s.shared.cell ps s.records in
    let long : length c.show_step.new.processes ≡ s.processes.len = omega (arith, c.show_step.auto.processes, ap length c.deref_mut.ensures.value, s.processes.ok.0) in
    let whole : (with_items s.processes c.show_step.new.processes).items ≡ c.show_step.new.processes = with_items_is s.processes c.show_step.new.processes long in
    let here : state_of c.show_step.new.shared.cell c.show_step.new.processes c.show_step.new.records ≡ step_of m s.sizes state c.args.p =
    c.in_ok-out.ensures.state ∙ ap (λ (k : List (Process _)). step_of m s.sizes (state_of s.shared.cell k s.records) c.args.p) c.deref_mut.ensures.value in
    let moved = ap (λ (k : List (Process _)). state_of c.show_step.new.shared.cell k c.show_step.new.records) whole ∙ here in
    let x = c.index_mut.result.now in
    let count : c.args.p < length xs = omega (arith, within, kept.spends.count, kept.sound.count) in
    let is : x ≡ spent_of xs c.args.p = sym (get_or_from_slice_get xs c.args.p x unspent (slice_get_read xs (length xs) c.args.p x refl count c.index_mut.ensures.value)) in
    let spends : c.show_step.new.spent ≡ spent_after q.0.label (has_more q.0) (spent_of xs c.args.p) =
    c.in_ok-out.ensures.spent
    ∙ ap (λ (k : List (Process _)). spent_by (slice_get k c.args.p) x) c.deref_mut.ensures.value
    ∙ ap (λ (o : Option (Process _)). spent_by o x) q.1
    ∙ ap (λ (k : Spent). spent_after q.0.label (has_more q.0) k) is in
    let paid : set xs c.args.p c.show_step.new.spent ≡ spent_by_step state xs c.args.p =
    ap (λ (k : Spent). set xs c.args.p k) spends ∙ sym (ap (count_by spent_after unspent xs c.args.p) q.1) in
    rw (← c.self.view_is)
    (ap (λ (k : State _). record { engine = s.engine; sizes = s.sizes; opening = s.opening.items; state = k; spent = set xs c.args.p c.show_step.new.spent }) moved
    ∙ ap (λ (k : List Spent). record { engine = s.engine; sizes = s.sizes; opening = s.opening.items; state = step_of m s.sizes state c.args.p; spent = k }) paid)

pub returns-clause-turn : goal.returns-clause-turn
returns-clause-turn g c =
    let s = c.self.inside in
    let kept = c.self.invariant in
    let e = g.E.Engine in
    let m = e.meaning s.engine in
    let within : c.args.p < s.sizes.processes = rw (← c.self.view_is) at c.requires.process in
    let q = some_at s.processes.items c.args.p (omega (arith, within, kept.sound.count)) in
    let ps = s.processes.items in
    let xs = s.spent.items in
    let state : State _ = state_of s.shared.cell ps s.records in
    let here : state_of c.show_step.new.shared.cell c.show_step.new.processes c.show_step.new.records ≡ step_of m s.sizes state c.args.p =
    c.in_ok-out.ensures.state ∙ ap (λ (k : List (Process _)). step_of m s.sizes (state_of s.shared.cell k s.records) c.args.p) c.deref_mut.ensures.value in
    rw (← c.self.view_is) (ap (λ (k : State _). steps_of k.records.schedule) (here ∙ ap (step_by m s.sizes state c.args.p) q.1) ∙ one_turn s.records.schedule c.args.p)

pub returns-clause-few : goal.returns-clause-few
returns-clause-few g c =
    let s = c.self.inside in
    let kept = c.self.invariant in
    let e = g.E.Engine in
    let m = e.meaning s.engine in
    let within : c.args.p < s.sizes.processes = rw (← c.self.view_is) at c.requires.process in
    let q = some_at s.processes.items c.args.p (omega (arith, within, kept.sound.count)) in
    let ps = s.processes.items in
    let xs = s.spent.items in
    let state : State _ = state_of s.shared.cell ps s.records in
    let answer = c.in_ok-out.ensures.answer ∙ ap (λ (k : List (Process _)). answer_of m s.sizes (state_of s.shared.cell k s.records) c.args.p) c.deref_mut.ensures.value in
    subst (λ (a : Answer). length (values_answered a) ≤ 8) (sym answer) (few_answered m (e.lawful s.engine) (e.fits s.engine) (e.ready s.engine) (e.effect s.engine) (g.met.E.Engine.law s.engine) s.sizes s.opening.items state c.args.p kept.sound)
