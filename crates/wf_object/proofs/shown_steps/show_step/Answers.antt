use Rattle.std.proofs.Common.{◌≡◌, ℕ, false, get_or, set, sym, ap, subst, refl, ◌∙◌, arith, rules}
use Rattle.std.specs.Prelude.{Option}
use Rattle.std.proofs.lemmas.List.{set-get_or, get_or_default}
use Rattle.ll_cell.specs.Cell.{own_of, block_of, is_linked}
use Rattle.ob_interface.specs.Call.{ObjectCall, Reply}
use Rattle.wf_history.specs.History.{Event, IsHistory}
use Rattle.wf_table.specs.declared.process.Label.{Label}
use Rattle.wf_table.specs.declared.process.Label.TheVariants.{Next, Commit, Give}
use Rattle.wf_table.specs.StepTable.{Process, next, give, own_block}
use Rattle.wf_table.specs.Object.{State, GoesOn, event_at, seen_by, began, ended, applied_ids, begun_of, history_after, noted, answer_by, answer_of, label_by}
use Rattle.wf_table.specs.Spent.{has_more, spent_after}
use Rattle.wf_object.specs.Shown.{state_of}
use Rattle.wf_object.specs.Quiet.{is_quiet}
use Rattle.wf_object.specs.View.{answer_in}
use Rattle.wf_object.proofs.OneStep.{stands_by, step_at, spent_at, answer_at, commit_goes_on}
use Rattle.wf_object.proofs.QuietSteps.{only_commit}
use Rattle.wf_object.proofs.Results.{on_ok, on_both, if_ok, on_err}
use Rattle.wf_object.proofs.shown_steps.show_step.Goals as goal

pub begin-requires-clause-in_turn : goal.begin-requires-clause-in_turn
begin-requires-clause-in_turn g c =
    let m = g.E.Engine.meaning c.args.engine.now in
    let z = c.args.z in
    let p = c.args.p in
    let cell = c.args.shared.now.cell in
    let ps = c.args.processes.now in
    let s : State _ = state_of cell ps c.args.records.now in
    let x = get_or ps p c.index-processes-p-in-Next.result in
    let at = stands_by ps z.processes p c.index-processes-p-in-Next.result c.requires.count c.requires.process in
    let read : c.process.inside.label ≡ (get_or ps p c.index-processes-p.result).label = search rules in
    let here = read ∙ ap (λ (o : Process _). o.label) (get_or_default ps p c.index-processes-p.result c.index-processes-p-in-Next.result (omega (arith, c.requires.count, c.requires.process))) in
    let is : x.label ≡ Next = sym here ∙ c.in-Next.is in
    let seen = ap (seen_by m z cell ps p) at ∙ ap (λ (l : Label). event_at l m z cell ps p x) is in
    subst (λ (e : Option (Event ObjectCall Reply)). IsHistory (history_after c.args.records.now.history e)) seen c.requires.in_turn

pub give-requires-clause-in_range : goal.give-requires-clause-in_range
give-requires-clause-in_range g c =
    c.requires.in_range c.args.p _ (stands_by c.args.processes.now c.args.z.processes c.args.p c.index-processes-p-in-Give.result c.requires.count c.requires.process)

pub give-requires-clause-fits : goal.give-requires-clause-fits
give-requires-clause-fits g c =
    c.requires.fits c.args.p _ (stands_by c.args.processes.now c.args.z.processes c.args.p c.index-processes-p-in-Give.result c.requires.count c.requires.process)

pub give-requires-clause-in_turn : goal.give-requires-clause-in_turn
give-requires-clause-in_turn g c =
    let m = g.E.Engine.meaning c.args.engine.now in
    let z = c.args.z in
    let p = c.args.p in
    let cell = c.args.shared.now.cell in
    let ps = c.args.processes.now in
    let s : State _ = state_of cell ps c.args.records.now in
    let x = get_or ps p c.index-processes-p-in-Give.result in
    let at = stands_by ps z.processes p c.index-processes-p-in-Give.result c.requires.count c.requires.process in
    let read : c.process.inside.label ≡ (get_or ps p c.index-processes-p.result).label = search rules in
    let here = read ∙ ap (λ (o : Process _). o.label) (get_or_default ps p c.index-processes-p.result c.index-processes-p-in-Give.result (omega (arith, c.requires.count, c.requires.process))) in
    let is : x.label ≡ Give = sym here ∙ c.in-Give.is in
    let seen = ap (seen_by m z cell ps p) at ∙ ap (λ (l : Label). event_at l m z cell ps p x) is in
    subst (λ (e : Option (Event ObjectCall Reply)). IsHistory (history_after c.args.records.now.history e)) seen c.requires.in_turn

pub apply-requires-clause-in_turn : goal.apply-requires-clause-in_turn
apply-requires-clause-in_turn g c =
    let m = g.E.Engine.meaning c.args.engine.now in
    let z = c.args.z in
    let p = c.args.p in
    let cell = c.args.shared.now.cell in
    let ps = c.args.processes.now in
    let s : State _ = state_of cell ps c.args.records.now in
    let x = get_or ps p c.index-processes-p.result in
    let at = stands_by ps z.processes p c.index-processes-p.result c.requires.count c.requires.process in
    let here : c.process.inside.label ≡ x.label = search rules in
    let shows : is_quiet c.process.inside.label ≡ false = ap is_quiet (here ∙ sym (ap label_by at)) ∙ c.requires.shows in
    let is : x.label ≡ Commit = sym here ∙ only_commit c.process.inside.label shows c.in_default.not-Next c.in_default.not-Give in
    let seen = ap (seen_by m z cell ps p) at ∙ ap (λ (l : Label). event_at l m z cell ps p x) is in
    subst (λ (e : Option (Event ObjectCall Reply)). IsHistory (history_after c.args.records.now.history e)) seen c.requires.in_turn

pub returns-in-Next-clause-state : goal.returns-in-Next-clause-state
returns-in-Next-clause-state g c =
    let m = g.E.Engine.meaning c.args.engine.now in
    let z = c.args.z in
    let p = c.args.p in
    let cell = c.args.shared.now.cell in
    let ps = c.args.processes.now in
    let s : State _ = state_of cell ps c.args.records.now in
    let x = get_or ps p c.index-processes-p-in-Next.result in
    let at = stands_by ps z.processes p c.index-processes-p-in-Next.result c.requires.count c.requires.process in
    let read : c.process.inside.label ≡ (get_or ps p c.index-processes-p.result).label = search rules in
    let here = read ∙ ap (λ (o : Process _). o.label) (get_or_default ps p c.index-processes-p.result c.index-processes-p-in-Next.result (omega (arith, c.requires.count, c.requires.process))) in
    let is : x.label ≡ Next = sym here ∙ c.in-Next.is in
    on_both {A = c.begin.new.q ≡ (next m x).process} {B = (block : ℕ) → c.begin.new.records ≡ noted c.args.records.now p Next block (began p x)} c.begin.result c.begin.ensures.process c.begin.ensures.records (λ a d. step_at m z s p x at Next is cell c.begin.new.q c.begin.new.records refl a (d (own_of cell p)))

pub returns-in-Next-clause-spent : goal.returns-in-Next-clause-spent
returns-in-Next-clause-spent g c =
    let m = g.E.Engine.meaning c.args.engine.now in
    let z = c.args.z in
    let p = c.args.p in
    let cell = c.args.shared.now.cell in
    let ps = c.args.processes.now in
    let s : State _ = state_of cell ps c.args.records.now in
    let x = get_or ps p c.index-processes-p-in-Next.result in
    let at = stands_by ps z.processes p c.index-processes-p-in-Next.result c.requires.count c.requires.process in
    let read : c.process.inside.label ≡ (get_or ps p c.index-processes-p.result).label = search rules in
    let here = read ∙ ap (λ (o : Process _). o.label) (get_or_default ps p c.index-processes-p.result c.index-processes-p-in-Next.result (omega (arith, c.requires.count, c.requires.process))) in
    let is : x.label ≡ Next = sym here ∙ c.in-Next.is in
    on_ok {A = c.begin.new.spent ≡ spent_after Next (has_more x) c.args.spent.now} c.begin.result c.begin.ensures.spent (λ a. spent_at m z s p x at Next is c.args.spent.now c.begin.new.spent a)

pub returns-in-Next-clause-answer : goal.returns-in-Next-clause-answer
returns-in-Next-clause-answer g c =
    let m = g.E.Engine.meaning c.args.engine.now in
    let z = c.args.z in
    let p = c.args.p in
    let cell = c.args.shared.now.cell in
    let ps = c.args.processes.now in
    let s : State _ = state_of cell ps c.args.records.now in
    let x = get_or ps p c.index-processes-p-in-Next.result in
    let at = stands_by ps z.processes p c.index-processes-p-in-Next.result c.requires.count c.requires.process in
    let read : c.process.inside.label ≡ (get_or ps p c.index-processes-p.result).label = search rules in
    let here = read ∙ ap (λ (o : Process _). o.label) (get_or_default ps p c.index-processes-p.result c.index-processes-p-in-Next.result (omega (arith, c.requires.count, c.requires.process))) in
    let is : x.label ≡ Next = sym here ∙ c.in-Next.is in
    if_ok {P = λ out. answer_in out ≡ answer_by Next (began p x)} {Q = λ out. answer_in out ≡ answer_of m z s p} c.begin.result c.begin.ensures.answer (λ out a. answer_at m z s p x at Next is (answer_in out) a)

pub returns-in-Give-clause-state : goal.returns-in-Give-clause-state
returns-in-Give-clause-state g c =
    let m = g.E.Engine.meaning c.args.engine.now in
    let z = c.args.z in
    let p = c.args.p in
    let cell = c.args.shared.now.cell in
    let ps = c.args.processes.now in
    let s : State _ = state_of cell ps c.args.records.now in
    let x = get_or ps p c.index-processes-p-in-Give.result in
    let at = stands_by ps z.processes p c.index-processes-p-in-Give.result c.requires.count c.requires.process in
    let read : c.process.inside.label ≡ (get_or ps p c.index-processes-p.result).label = search rules in
    let here = read ∙ ap (λ (o : Process _). o.label) (get_or_default ps p c.index-processes-p.result c.index-processes-p-in-Give.result (omega (arith, c.requires.count, c.requires.process))) in
    let is : x.label ≡ Give = sym here ∙ c.in-Give.is in
    on_both {A = c.give.new.q ≡ (give x).process} {B = c.give.new.records ≡ noted c.args.records.now p Give 0 (ended m p x)} c.give.result c.give.ensures.process c.give.ensures.records (λ a d. step_at m z s p x at Give is cell c.give.new.q c.give.new.records refl a (d))

pub returns-in-Give-clause-spent : goal.returns-in-Give-clause-spent
returns-in-Give-clause-spent g c =
    let m = g.E.Engine.meaning c.args.engine.now in
    let z = c.args.z in
    let p = c.args.p in
    let cell = c.args.shared.now.cell in
    let ps = c.args.processes.now in
    let s : State _ = state_of cell ps c.args.records.now in
    let x = get_or ps p c.index-processes-p-in-Give.result in
    let at = stands_by ps z.processes p c.index-processes-p-in-Give.result c.requires.count c.requires.process in
    let read : c.process.inside.label ≡ (get_or ps p c.index-processes-p.result).label = search rules in
    let here = read ∙ ap (λ (o : Process _). o.label) (get_or_default ps p c.index-processes-p.result c.index-processes-p-in-Give.result (omega (arith, c.requires.count, c.requires.process))) in
    let is : x.label ≡ Give = sym here ∙ c.in-Give.is in
    on_ok {A = c.give.new.spent ≡ spent_after Give (has_more x) c.args.spent.now} c.give.result c.give.ensures.spent (λ a. spent_at m z s p x at Give is c.args.spent.now c.give.new.spent a)

pub returns-in-Give-clause-answer : goal.returns-in-Give-clause-answer
returns-in-Give-clause-answer g c =
    let m = g.E.Engine.meaning c.args.engine.now in
    let z = c.args.z in
    let p = c.args.p in
    let cell = c.args.shared.now.cell in
    let ps = c.args.processes.now in
    let s : State _ = state_of cell ps c.args.records.now in
    let x = get_or ps p c.index-processes-p-in-Give.result in
    let at = stands_by ps z.processes p c.index-processes-p-in-Give.result c.requires.count c.requires.process in
    let read : c.process.inside.label ≡ (get_or ps p c.index-processes-p.result).label = search rules in
    let here = read ∙ ap (λ (o : Process _). o.label) (get_or_default ps p c.index-processes-p.result c.index-processes-p-in-Give.result (omega (arith, c.requires.count, c.requires.process))) in
    let is : x.label ≡ Give = sym here ∙ c.in-Give.is in
    if_ok {P = λ out. answer_in out ≡ answer_by Give (ended m p x)} {Q = λ out. answer_in out ≡ answer_of m z s p} c.give.result c.give.ensures.answer (λ out a. answer_at m z s p x at Give is (answer_in out) a)

pub returns-in-Next-clause-no_process : goal.returns-in-Next-clause-no_process
returns-in-Next-clause-no_process g c =
    let ps = c.args.processes.now in
    let r = c.index-processes-p-in-Next.result in
    on_err {A = c.begin.new.q ≡ get_or ps c.args.p r} c.begin.result c.begin.ensures.no_process (λ a. ap (λ (k : Process _). set ps c.args.p k) a ∙ set-get_or ps c.args.p r)

pub returns-in_ok-apply-in_default-clause-state : goal.returns-in_ok-apply-in_default-clause-state
returns-in_ok-apply-in_default-clause-state g c =
    let m = g.E.Engine.meaning c.args.engine.now in
    let z = c.args.z in
    let p = c.args.p in
    let cell = c.args.shared.now.cell in
    let ps = c.args.processes.now in
    let s : State _ = state_of cell ps c.args.records.now in
    let x = get_or ps p c.index-processes-p-in_default.result in
    let at = stands_by ps z.processes p c.index-processes-p-in_default.result c.requires.count c.requires.process in
    let read : c.process.inside.label ≡ (get_or ps p c.index-processes-p.result).label = search rules in
    let here : c.process.inside.label ≡ x.label = read ∙ ap (λ (o : Process _). o.label) (get_or_default ps p c.index-processes-p.result c.index-processes-p-in_default.result (omega (arith, c.requires.count, c.requires.process))) in
    let shows : is_quiet c.process.inside.label ≡ false = ap is_quiet (here ∙ sym (ap label_by at)) ∙ c.requires.shows in
    let is : x.label ≡ Commit = sym here ∙ only_commit c.process.inside.label shows c.in_default.not-Next c.in_default.not-Give in
    step_at m z s p x at Commit is c.commit.new.shared.cell c.commit.new.q c.apply.new.records c.commit.ensures.cell c.commit.ensures.process c.in_ok-apply-in_default.ensures.ok

pub returns-in_ok-apply-in_default-clause-spent : goal.returns-in_ok-apply-in_default-clause-spent
returns-in_ok-apply-in_default-clause-spent g c =
    let m = g.E.Engine.meaning c.args.engine.now in
    let z = c.args.z in
    let p = c.args.p in
    let cell = c.args.shared.now.cell in
    let ps = c.args.processes.now in
    let s : State _ = state_of cell ps c.args.records.now in
    let x = get_or ps p c.index-processes-p-in_default.result in
    let at = stands_by ps z.processes p c.index-processes-p-in_default.result c.requires.count c.requires.process in
    let read : c.process.inside.label ≡ (get_or ps p c.index-processes-p.result).label = search rules in
    let here : c.process.inside.label ≡ x.label = read ∙ ap (λ (o : Process _). o.label) (get_or_default ps p c.index-processes-p.result c.index-processes-p-in_default.result (omega (arith, c.requires.count, c.requires.process))) in
    let shows : is_quiet c.process.inside.label ≡ false = ap is_quiet (here ∙ sym (ap label_by at)) ∙ c.requires.shows in
    let is : x.label ≡ Commit = sym here ∙ only_commit c.process.inside.label shows c.in_default.not-Next c.in_default.not-Give in
    spent_at m z s p x at Commit is c.args.spent.now c.count_step.new.spent c.count_step.ensures

pub returns-in_ok-apply-in_default-clause-answer : goal.returns-in_ok-apply-in_default-clause-answer
returns-in_ok-apply-in_default-clause-answer g c =
    let m = g.E.Engine.meaning c.args.engine.now in
    let z = c.args.z in
    let p = c.args.p in
    let cell = c.args.shared.now.cell in
    let ps = c.args.processes.now in
    let s : State _ = state_of cell ps c.args.records.now in
    let x = get_or ps p c.index-processes-p-in_default.result in
    let at = stands_by ps z.processes p c.index-processes-p-in_default.result c.requires.count c.requires.process in
    let read : c.process.inside.label ≡ (get_or ps p c.index-processes-p.result).label = search rules in
    let here : c.process.inside.label ≡ x.label = read ∙ ap (λ (o : Process _). o.label) (get_or_default ps p c.index-processes-p.result c.index-processes-p-in_default.result (omega (arith, c.requires.count, c.requires.process))) in
    let shows : is_quiet c.process.inside.label ≡ false = ap is_quiet (here ∙ sym (ap label_by at)) ∙ c.requires.shows in
    let is : x.label ≡ Commit = sym here ∙ only_commit c.process.inside.label shows c.in_default.not-Next c.in_default.not-Give in
    answer_at m z s p x at Commit is GoesOn (commit_goes_on (is_linked cell p) (applied_ids z (block_of cell cell.root) (own_block cell p) (begun_of ps)))
