-- Round after round, until one leaves out none.
use Rattle.std.proofs.Common.{◌∙◌, List, ap, arith, refl, slice_get, subst}
use Rattle.wf_needed.proofs.Rounds.{left_twice, none_open}
use Rattle.wf_needed.proofs.needed.thinned.Goals as goal
use Rattle.wf_needed.specs.Listed.{IsThinner}
use Rattle.wf_needed.specs.Needed.{nothing}
use Rattle.wf_needed.specs.declared.listed_calls.Listed.{Listed}

pub returns-then-open_until-eq0-clause-left_out : goal.returns-then-open_until-eq0-clause-left_out
returns-then-open_until-eq0-clause-left_out g c = nothing refl

pub returns-then-open_until-eq0-clause-needed : goal.returns-then-open_until-eq0-clause-needed
returns-then-open_until-eq0-clause-needed g c =
    let zero = c.if-open_until-eq0.true in
    none_open (g.O.Object.effect c.args.object.now) (g.O.Object.opening c.args.object.now) c.args.all.items
    (λ k d at. c.open_until.ensures.none k d (ap (λ (cs : List Listed). slice_get cs k) c.as_slice.ensures.value ∙ at) (omega (arith, zero)))

pub loop-alloc-init : goal.loop-alloc-init
loop-alloc-init g c = (
  nothing refl,
  subst (λ (cs : List Listed). IsThinner (g.O.Object.effect c.args.object.now) (g.O.Object.opening c.args.object.now) cs c.in_ok-kept.kept.items) c.as_slice-2.ensures.value c.in_ok-kept.ensures,
)

pub loop-alloc-preserved : goal.loop-alloc-preserved
loop-alloc-preserved g c = (
  left_twice c.loop-alloc.invariant.0 c.loop-alloc.invariant.1.left_out,
  subst (λ (cs : List Listed). IsThinner (g.O.Object.effect c.args.object.now) (g.O.Object.opening c.args.object.now) cs c.in_ok-kept-2.kept.items) c.as_slice-in-loop-alloc.ensures.value c.in_ok-kept-2.ensures,
)
