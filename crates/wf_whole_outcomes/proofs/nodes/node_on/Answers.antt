-- By the list that there is then, in place of the process's own.
use Rattle.std.proofs.Common.{◌≡◌, refl, ap, ◌∙◌, ◌++◌, ◌∷◌, [], List, ℕ, Some, get_or, length}
use Rattle.wf_whole_outcomes.specs.Nodes.{lists_in}
use Rattle.wf_whole_outcomes.proofs.Noding.{next_spot, told_is}
use Rattle.wf_whole_outcomes.proofs.nodes.node_on.Goals as goal

pub returns-clause-spot : goal.returns-clause-spot
returns-clause-spot c =
    let node = c.args.node.now in
    let told : c.deref.result.now ≡ node.told.items = cc in
    let there = c.in_ok-number.ensures.there ∙ ap (λ (l : List ℕ). Some (get_or (lists_in c.args.lists.now) (get_or l c.args.process 0) [] ++ c.args.edge.reply ∷ [])) told in
    next_spot (lists_in c.args.lists.now) (lists_in c.longer.new.lists) c.in_ok-number.ensures.more (length node.told.items) node c.requires.node c.args.process c.requires.process c.args.edge c.in_ok-number.number
    there c.in_ok-told.told.items c.in_ok-told.ensures (record { place = c.args.edge.to; told = c.in_ok-told.told }) refl refl

pub returns-clause-node : goal.returns-clause-node
returns-clause-node c =
    let node = c.args.node.now in
    let told : c.deref.result.now ≡ node.told.items = cc in
    let there = c.in_ok-number.ensures.there ∙ ap (λ (l : List ℕ). Some (get_or (lists_in c.args.lists.now) (get_or l c.args.process 0) [] ++ c.args.edge.reply ∷ [])) told in
    told_is (lists_in c.args.lists.now) (lists_in c.longer.new.lists) c.in_ok-number.ensures.more (length node.told.items) node c.requires.node c.args.process c.requires.process c.args.edge c.in_ok-number.number
    there c.in_ok-told.told.items c.in_ok-told.ensures (record { place = c.args.edge.to; told = c.in_ok-told.told }) refl refl
