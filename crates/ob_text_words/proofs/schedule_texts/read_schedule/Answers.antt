use Rattle.std.proofs.Common.{◌≡◌, ◌∙◌, ap, map, refl}
use Rattle.ob_text_words.specs.Schedule.{item_words, none}
use Rattle.ob_text_words.proofs.ScheduleReading.{all_items, item_more_at, no_form_at, no_process_at, one_schedule}
use Rattle.ob_text_words.proofs.schedule_texts.read_schedule.Goals as goal

pub loop-index-init : goal.loop-index-init
loop-index-init c = rw c.new-items.ensures.items none

pub returns-in_default-clause-fault : goal.returns-in_default-clause-fault
returns-in_default-clause-fault c =
    let same : map (λ w. w.now) c.deref-word-items.result.now ≡ item_words c.args.text.now =
    ap (map (λ w. w.now)) c.deref-word-items.ensures.value ∙ c.in_ok-words.ensures in
    no_form_at c.args.processes c.args.text.now c.deref-word-items.result.now same c.loop-index.index _ _ c.loop-index-test.true refl _ c.loop-index.invariant
    c.in_default.ensures

pub returns-then-process-processes-clause-fault : goal.returns-then-process-processes-clause-fault
returns-then-process-processes-clause-fault c =
    let same : map (λ w. w.now) c.deref-word-items.result.now ≡ item_words c.args.text.now =
    ap (map (λ w. w.now)) c.deref-word-items.ensures.value ∙ c.in_ok-words.ensures in
    no_process_at c.args.processes c.args.text.now c.deref-word-items.result.now same c.loop-index.index _ _ c.loop-index-test.true refl _ c.loop-index.invariant
    c.in-Some.item c.in-Some.ensures (rw c.process.ensures at c.if-process-processes.true)

pub loop-index-preserved : goal.loop-index-preserved
loop-index-preserved c =
    let same : map (λ w. w.now) c.deref-word-items.result.now ≡ item_words c.args.text.now =
    ap (map (λ w. w.now)) c.deref-word-items.ensures.value ∙ c.in_ok-words.ensures in
    rw c.in_ok-push.ensures.items
    (item_more_at c.args.processes c.args.text.now c.deref-word-items.result.now same c.loop-index.index _ _ c.loop-index-test.true refl _ c.loop-index.invariant
    c.in-Some.item c.in-Some.ensures (rw c.process.ensures at c.if-process-processes.false))

pub returns-clause-schedule : goal.returns-clause-schedule
returns-clause-schedule c =
    let same : map (λ w. w.now) c.deref-word-items.result.now ≡ item_words c.args.text.now =
    ap (map (λ w. w.now)) c.deref-word-items.ensures.value ∙ c.in_ok-words.ensures in
    all_items c.args.processes c.args.text.now c.deref-word-items.result.now same c.loop-index.index _ c.loop-index-test.false c.loop-index.invariant

pub returns-clause-alone : goal.returns-clause-alone
returns-clause-alone c =
    let same : map (λ w. w.now) c.deref-word-items.result.now ≡ item_words c.args.text.now =
    ap (map (λ w. w.now)) c.deref-word-items.ensures.value ∙ c.in_ok-words.ensures in
    λ others h. one_schedule c.args.processes h
    (all_items c.args.processes c.args.text.now c.deref-word-items.result.now same c.loop-index.index _ c.loop-index-test.false c.loop-index.invariant)
