use Rattle.std.proofs.Common.{◌++◌, sym, subst}
use Rattle.wf_table.specs.Start.{sizes_of}
use Rattle.wf_table.specs.declared.spent.Spent.{Spent}
use Rattle.wf_table.specs.Bound.{IsWithinBound}
use Rattle.wf_table.specs.Limit.{IsWithinLimit}
use Rattle.wf_table.proofs.Calls.{call_is_counted, stands_last}
use Rattle.wf_theorems.proofs.bound.every_call.Goals as goal

pub returns-clause-counted : goal.returns-clause-counted
returns-clause-counted g c = λ e z start first acts p last one. call_is_counted (g.E.Engine.meaning e) z first acts start p last one

pub returns-clause-bound : goal.returns-clause-bound
returns-clause-bound g c = λ e n opening first acts s p last r one.
    let m = g.E.Engine.meaning e in
    let z = sizes_of m n in
    let within = c.every_bound.ensures.bound e n opening (first ++ acts) s r in
    subst (λ (x : Spent). IsWithinBound z x last) (sym (call_is_counted m z first acts r.start p last one)) (within p last (stands_last m z first acts r.start p last one))

pub returns-clause-limit : goal.returns-clause-limit
returns-clause-limit g c = λ e n limit opening first acts s p last r below one.
    let m = g.E.Engine.meaning e in
    let z = sizes_of m n in
    let within = c.every_limit.ensures.limit e n limit opening (first ++ acts) s r below in
    subst (λ (x : Spent). IsWithinLimit z limit x) (sym (call_is_counted m z first acts r.start p last one)) (within p last (stands_last m z first acts r.start p last one))
