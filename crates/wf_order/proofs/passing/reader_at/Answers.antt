-- The first process whose call reads here, by the rows and by what the call replies.
use Rattle.std.proofs.Common.{refl, subst, get_or}
use Rattle.std.proofs.lemmas.Option.{slice_get_within}
use Rattle.ob_interface.specs.Call.{Reply}
use Rattle.wf_history.specs.View.{seen_call}
use Rattle.wf_order.specs.Rows.{begun_rows, row_of}
use Rattle.wf_order.specs.Search.{found_in}
use Rattle.wf_order.proofs.Stepping.{reading_taken}
use Rattle.wf_order.proofs.passing.reader_at.Goals as goal

pub loop-init : goal.loop-init
loop-init g c = c.requires.made

pub replies_so-requires-clause-made : goal.replies_so-requires-clause-made
replies_so-requires-clause-made g c = c.loop.invariant

pub returns-then-reads-clause-next : goal.returns-then-reads-clause-next
returns-then-reads-clause-next g c =
    let process = c.first-process.result in
    let counts = c.args.here.now.found.now.counts.items in
    let call = c.in-Some.ensures in
    (call.within, slice_get_within (row_of (begun_rows c.args.task.now.rows.now) process) (get_or counts process 0) c.in-Some.begun call.at.0)

pub returns-then-reads-clause-reads : goal.returns-then-reads-clause-reads
returns-then-reads-clause-reads g c = λ history at.
    let process = c.first-process.result in
    let here = found_in g.O.Object.meaning c.args.here.now.found.now in
    let effect = g.O.Object.effect c.args.task.now.object.now in
    let call = c.in-Some.ensures in
    let made = c.in_ok-reads.ensures.so in
    reading_taken effect (λ call. g.met.O.Object.determined c.args.task.now.object.now call) history c.args.task.now.rows.now here at.0 c.args.here.now.limit at.1 process (get_or here.counts process 0) refl
    c.in-Some.begun call.at.0 c.in-Some.end call.at.1 (c.is_reader.ensures c.if-not-is_reader.false) call.within call.early made.after (subst (λ (r : Reply). effect (seen_call c.in-Some.begun.call) here.state made.after r) (made.same.0 c.if-reads.true) made.effect)

pub loop-preserved : goal.loop-preserved
loop-preserved g c = c.in_ok-reads.ensures.made

pub returns-clause-made : goal.returns-clause-made
returns-clause-made g c = c.loop.invariant
