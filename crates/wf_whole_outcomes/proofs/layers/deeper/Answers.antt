-- One layer more, or more than there is room for.
use Rattle.std.proofs.Common.{◌≡◌, ap, ◌∙◌, ◌+◌, ℕ, Err}
use Rattle.std.proofs.lemmas.Result.{err_from_is_err_and}
use Rattle.wf_whole_outcomes.specs.Graph.{rows_in}
use Rattle.wf_whole_outcomes.specs.declared.layers.LayersFault.{LayersFault}
use Rattle.wf_whole_outcomes.specs.declared.layers.LayersFault.TheVariants.{TooMany}
use Rattle.wf_whole_outcomes.proofs.Advancing.{own_edge}
use Rattle.wf_whole_outcomes.proofs.Fronting.{front_on, over_on}
use Rattle.wf_whole_outcomes.proofs.layers.deeper.Goals as goal

pub returns-in_err-growing-clause-most : goal.returns-in_err-growing-clause-most
returns-in_err-growing-clause-most c =
    let rows = rows_in c.args.ground.now.rows.now in
    let p = err_from_is_err_and c.from_residual.result c.from_residual.ensures.1 in
    rw (p.1, p.2)
    (λ is.
    let many : c.in_err-growing.field-0.0 ≡ TooMany = cc in
    over_on rows c.args.ground.now.processes (own_edge rows c.args.ground.now.processes c.requires.narrow) c.args.front c.requires.front c.args.most c.requires.few
    (c.in_err-growing.ensures.most (ap (λ (fault : LayersFault). Err fault) many)))

pub returns-clause-front : goal.returns-clause-front
returns-clause-front c =
    let rows = rows_in c.args.ground.now.rows.now in
    let next = c.in_ok-with_layer.ensures in
    front_on rows c.args.ground.now.processes (own_edge rows c.args.ground.now.processes c.requires.narrow) c.args.front c.requires.front c.in_ok-growing.growing c.in_ok-growing.ensures.grown c.in_ok-growing.ensures.more
    c.in_ok-with_layer.field-0 next.trail next.lists next.layer (next.many ∙ ap (λ (n : ℕ). c.args.front.many + n) c.len.ensures.len)
