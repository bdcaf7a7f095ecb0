-- By the way to the node, turned round.
use Rattle.std.proofs.Common.{◌≡◌, ◌∙◌, ◌∷◌, [], ℕ, List, OnOk, Vec, Global, ap, get_or, replicate, subst}
use Rattle.wf_whole_outcomes.specs.Layers.{ways_of}
use Rattle.wf_whole_outcomes.specs.Nodes.{trail_in}
use Rattle.wf_whole_outcomes.specs.declared.growing.Came.{Came}
use Rattle.wf_whole_outcomes.specs.Leaves.{named}
use Rattle.wf_whole_outcomes.proofs.wholes.ToldWholes.put_order.Goals as goal

pub returns : goal.returns
returns g c =
    let way = c.deref-2.ensures.value ∙ c.reverse.ensures.items ∙ c.in_ok-way_back.ensures ∙ ap (λ (t : List (Vec Came Global)). get_or (ways_of ([] ∷ []) (trail_in t)) c.args.at []) c.deref.ensures.value in
    subst (λ (w : List ℕ). OnOk c.name_calls.result (c.name_calls.new.order.items ≡ named (replicate c.args.self.now.processes 0) w)) way c.name_calls.ensures
