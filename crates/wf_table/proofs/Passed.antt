-- CHECK2: a linked process that passes it has the words of a call that is open, and not in the order.
use Rattle.std.proofs.Common.{◌≡◌, ◌≢◌, ℕ, ◌+◌, ◌-◌, ◌*◌, ◌<◌, Bool, true, false, List, [], length, refl, sym, ap, ◌∙◌, arith, cond, subst}
use Rattle.std.specs.Prelude.{ℤ, Some, slice_get}
use Rattle.std.specs.List.{Contains}
use Rattle.ll_cell.specs.Cell.{is_linked, word_at, announcement_of}
use Rattle.ob_interface.specs.Call.{ObjectCall}
use Rattle.wf_history.specs.History.{in_turn}
use Rattle.wf_history.specs.Legal.{HasBegun}
use Rattle.wf_table.specs.declared.process.Label.{Label}
use Rattle.wf_table.specs.declared.process.Label.TheVariants.{Next, Post, Flip, Check2}
use Rattle.wf_table.specs.declared.process.Sizes.{Sizes}
use Rattle.wf_table.specs.Meaning.{Meaning}
use Rattle.wf_table.specs.Law.{Effects, IsLawful}
use Rattle.wf_table.specs.Labels.{at_next, unannounced}
use Rattle.wf_table.specs.Announcements.{words_laid}
use Rattle.wf_table.specs.Ranges.{index_in}
use Rattle.wf_table.specs.StepTable.{Process, open_call}
use Rattle.wf_table.specs.Object.{State}
use Rattle.wf_table.specs.Sound.{IsSound}
use Rattle.wf_table.specs.Helping.{Settled, IsPending, IsHelping}
use Rattle.wf_table.specs.HelpAndOrder.{phase, lost_rounds, flips_at, standing, own_toggles, IsCommitted}
use Rattle.wf_table.proofs.Seen.{served_pending}
use Rattle.wf_table.proofs.HelpAndOrderSteps.{member, flips_is}
use Rattle.wf_table.proofs.Numbers.{order_below}
use Rattle.wf_table.specs.Helps.{words_fetched, AllFetched}
use Rattle.wf_table.proofs.Words.{same_words}
use Rattle.wf_table.proofs.Begun.{open_begun}

-- a process that is not settled has announced its open call
announces : (z : Sizes) (l : Label) (i : ℕ) → phase l ≢ Settled → (at_next l ≡ false) × (unannounced l ≡ false) × (words_laid z l i ≡ z.arguments)
announces z Next i d = absurd (d refl)
announces z Post i d = absurd (d refl)
announces z Flip i d = absurd (d refl)
announces z l i d = (refl, refl, refl)

module _ {Run : Type 0} (m : Meaning Run) (lawful : List ℤ → Type 0) (fits : ObjectCall → Type 0) (ready : Run → Type 0) (Effect : Effects) (law : IsLawful m lawful fits ready Effect) (z : Sizes) (opening : List ℤ) (s : State Run) (sound : IsSound m lawful fits ready z opening s) (committed : IsCommitted z s) where
  -- the announced call of a pending process
  module _ (j : ℕ) (o : Process Run) (at : slice_get s.processes j ≡ Some o) (pending : IsPending (standing z s.cell s.processes s.records) j) where
    says : (at_next o.label ≡ false) × (unannounced o.label ≡ false) × (words_laid z o.label o.registers.i ≡ z.arguments)
    says = announces z o.label o.registers.i (λ e. (committed.helpful.helping j o at).settled e pending)

    pub number_is : flips_at s.processes j ≡ o.begun
    number_is = flips_is s.processes j o at ∙ ap (λ (b : Bool). cond b (o.begun - 1) o.begun) says.1

    some_begun : 0 < o.begun
    some_begun = (sound.in_range j o at).opened says.0

    pub call_begun : HasBegun s.records.history (record { process = j; number = flips_at s.processes j }) (open_call o)
    call_begun = subst (λ (n : ℕ). HasBegun s.records.history (record { process = j; number = n }) (open_call o)) (sym number_is)
        (open_begun j o.begun s.records.history o.calls (record { export = 0; arguments = [] }) some_begun (sound.in_range j o at).begun
        ((sound.own_events j o at).turns ∙ ap (λ (b : Bool). in_turn 1 (cond b (2 * o.begun) (2 * (o.begun - 1) + 1))) says.0)
        (sound.own_calls j o at).calls)

    pub call_fits : fits (open_call o)
    call_fits = (sound.calls_fit j o at).fit (o.begun - 1) (omega (arith, some_begun, (sound.in_range j o at).begun))

    pub call_absent : ¬ Contains s.records.order (record { process = j; number = flips_at s.processes j })
    call_absent within = (let below = order_below s.records.order (record { process = j; number = flips_at s.processes j }) (committed.ordered.in_turn j) within in omega (arith, below.1, pending))

    pub call_said : (k : ℕ) → k < z.arguments → word_at (announcement_of s.cell j) k ≡ word_at (m.lay (open_call o)) k
    call_said k lt = (sound.laid_words j o at).said k (omega (arith, lt, says.2))

  module _ (p : ℕ) (q : Process Run) (at : slice_get s.processes p ≡ Some q) (is : q.label ≡ Check2) (linked : is_linked s.cell p ≡ true) (fetched : AllFetched z s.cell p q) where
    pub served_within : q.registers.j < z.processes
    served_within = (subst (λ (l : Label). index_in z l q.registers) is (sound.in_range p q at).index).1

    pub wanted_pending : IsPending (standing z s.cell s.processes s.records) q.registers.j
    wanted_pending =
        served_pending z.processes (standing z s.cell s.processes s.records) committed.helpful.counted p (own_toggles z s.cell p) (phase q.label) q.registers.j (lost_rounds q.label true q.registers.round)
        (subst (λ (b : Bool). IsHelping z.processes (standing z s.cell s.processes s.records) p b (own_toggles z s.cell p) (phase q.label) q.registers.j (lost_rounds q.label b q.registers.round)) linked (committed.helpful.helping p q at))
        (ap phase is) served_within

    pub list_laid : (o : Process Run) → slice_get s.processes q.registers.j ≡ Some o → q.list ≡ m.lay (open_call o)
    list_laid o stands =
        let long : length q.list ≡ z.arguments = (sound.in_range p q at).list in
        let laid : length (m.lay (open_call o)) ≡ z.arguments = law.length_lay (open_call o) (call_fits q.registers.j o stands wanted_pending) ∙ sym sound.arguments in
        let words : words_fetched z q.label q.registers.i ≡ z.arguments = ap (λ (l : Label). words_fetched z l q.registers.i) is in
        same_words q.list (m.lay (open_call o)) (long ∙ sym laid) (λ k lt. fetched.front linked k (omega (arith, lt, long, words)) ∙ call_said q.registers.j o stands wanted_pending k (omega (arith, lt, long)))

    pub passed : (call : ObjectCall) × HasBegun s.records.history (record { process = q.registers.j; number = flips_at s.processes q.registers.j }) call × fits call × (¬ Contains s.records.order (record { process = q.registers.j; number = flips_at s.processes q.registers.j })) × (q.list ≡ m.lay call)
    passed =
        let found = member s.processes q.registers.j (omega (arith, served_within, sound.count)) in
        (open_call found.0, call_begun q.registers.j found.0 found.1 wanted_pending, call_fits q.registers.j found.0 found.1 wanted_pending, call_absent q.registers.j found.0 found.1 wanted_pending, list_laid found.0 found.1)
