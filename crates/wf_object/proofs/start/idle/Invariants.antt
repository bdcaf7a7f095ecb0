use Rattle.std.proofs.Common.{◌≡◌, length}
use Rattle.wf_table.specs.Start.{IsIdle}
use Rattle.wf_table.specs.Each.{Each}
use Rattle.wf_object.proofs.start.idle.Given as goal

abbrev pub invariant-loop-p : goal.invariant-loop-p
invariant-loop-p g l = record {
  count : length l.v.items ≡ l._p;
  idle : Each (λ _ q. IsIdle (g.E.Engine.ready l.engine) l.z q) l.v.items;
}
