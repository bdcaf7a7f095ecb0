use Rattle.std.proofs.Common.{List, refl}
use Rattle.wf_table.specs.Start.{sizes_of}
use Rattle.wf_table.specs.Runs.{Act, ActsFit, run}
use Rattle.wf_table.specs.Counted.{counted_from}
use Rattle.wf_table.proofs.Limits.{run_sum_bodies}
use Rattle.wf_table.proofs.Rounds.{run_in_rounds}
use Rattle.wf_table.proofs.BoundRuns.{run_within, same_run}
use Rattle.wf_table.proofs.Sums.{bound_is}
use Rattle.wf_theorems.proofs.bound.every_bound.Goals as goal

pub returns-clause-bound : goal.returns-clause-bound
returns-clause-bound g c = λ e n opening acts s r.
    let m = g.E.Engine.meaning e in
    let z = sizes_of m n in
    let sound = λ (more : List Act) (fit : ActsFit (g.E.Engine.fits e) more). c.every_run.ensures e n opening more (run m z more r.start) (record { some = r.some; few = r.few; opens = r.opens; fit = fit; start = r.start; begins = r.begins; leads = refl }) in
    run_within m z (g.E.Engine.fits e) acts r.start (sound acts r.fit).sized (λ more fit. (sound more fit).in_range) r.fit (λ p q at. (r.begins.idle p q at).label)

pub returns-clause-rounds : goal.returns-clause-rounds
returns-clause-rounds g c = λ e n opening acts s r.
    let m = g.E.Engine.meaning e in
    let z = sizes_of m n in
    run_in_rounds m z (g.E.Engine.fits e) acts r.start (λ more fit. (c.every_run.ensures e n opening more (run m z more r.start) (record { some = r.some; few = r.few; opens = r.opens; fit = fit; start = r.start; begins = r.begins; leads = refl })).in_range) r.fit (λ p q at. (r.begins.idle p q at).label)

pub returns-clause-sums : goal.returns-clause-sums
returns-clause-sums g c = λ e n opening acts s r. let m = g.E.Engine.meaning e in run_sum_bodies m (sizes_of m n) acts r.start (λ p q at. (r.begins.idle p q at).label)

pub returns-clause-run : goal.returns-clause-run
returns-clause-run g c = λ e z start acts. same_run (g.E.Engine.meaning e) z acts (counted_from start)

pub returns-clause-sharp : goal.returns-clause-sharp
returns-clause-sharp g c = λ z. bound_is z
