use Rattle.std.proofs.Common.{◌≡◌, ◌<◌, length, refl, sym, arith}
use Rattle.std.proofs.lemmas.Option.{slice_get_read, get_or_from_slice_get}
use Rattle.wf_table.specs.Spent.{unspent}
use Rattle.wf_table.specs.Counted.{spent_of}
use Rattle.wf_table.proofs.BoundRuns.{within_bound}
use Rattle.wf_table.proofs.HelpAndOrderSteps.{member}
use Rattle.wf_object.proofs.machine.Machine.spent.Goals as goal

pub returns-clause-bodies : goal.returns-clause-bodies
returns-clause-bodies g c =
    let s = c.self.inside in
    let kept = c.self.invariant in
    let within : c.args.p < s.sizes.processes = rw (← c.self.view_is) at c.requires in
    let x = c.index-spent.result.now in
    let count : c.args.p < length s.spent.items = omega (arith, within, kept.spends.count, kept.sound.count) in
    let is : x ≡ spent_of s.spent.items c.args.p = sym (get_or_from_slice_get s.spent.items c.args.p x unspent (slice_get_read s.spent.items (length s.spent.items) c.args.p x refl count c.index-spent.ensures)) in
    let found = member s.processes.items c.args.p (omega (arith, within, kept.sound.count)) in
    let all = within_bound (g.E.Engine.meaning s.engine) s.sizes (spent_of s.spent.items c.args.p) found.0 (kept.sound.in_range _ _ found.1) (kept.spends.each _ _ found.1) in
    rw (← c.self.view_is, is) all.bodies

pub returns-clause-sharp : goal.returns-clause-sharp
returns-clause-sharp g c =
    let s = c.self.inside in
    let kept = c.self.invariant in
    let within : c.args.p < s.sizes.processes = rw (← c.self.view_is) at c.requires in
    let x = c.index-spent.result.now in
    let count : c.args.p < length s.spent.items = omega (arith, within, kept.spends.count, kept.sound.count) in
    let is : x ≡ spent_of s.spent.items c.args.p = sym (get_or_from_slice_get s.spent.items c.args.p x unspent (slice_get_read s.spent.items (length s.spent.items) c.args.p x refl count c.index-spent.ensures)) in
    let found = member s.processes.items c.args.p (omega (arith, within, kept.sound.count)) in
    let all = within_bound (g.E.Engine.meaning s.engine) s.sizes (spent_of s.spent.items c.args.p) found.0 (kept.sound.in_range _ _ found.1) (kept.spends.each _ _ found.1) in
    rw (← c.self.view_is, is) all.outside

pub returns-clause-outside : goal.returns-clause-outside
returns-clause-outside g c =
    let s = c.self.inside in
    let kept = c.self.invariant in
    let within : c.args.p < s.sizes.processes = rw (← c.self.view_is) at c.requires in
    let x = c.index-spent.result.now in
    let count : c.args.p < length s.spent.items = omega (arith, within, kept.spends.count, kept.sound.count) in
    let is : x ≡ spent_of s.spent.items c.args.p = sym (get_or_from_slice_get s.spent.items c.args.p x unspent (slice_get_read s.spent.items (length s.spent.items) c.args.p x refl count c.index-spent.ensures)) in
    let found = member s.processes.items c.args.p (omega (arith, within, kept.sound.count)) in
    let all = within_bound (g.E.Engine.meaning s.engine) s.sizes (spent_of s.spent.items c.args.p) found.0 (kept.sound.in_range _ _ found.1) (kept.spends.each _ _ found.1) in
    rw (← c.self.view_is, is) all.promised
