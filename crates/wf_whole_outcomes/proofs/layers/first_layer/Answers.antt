-- The first key of an empty set.
use Rattle.std.proofs.Common.{ap, ◌∙◌, refl}
use Rattle.std.proofs.lemmas.List.{nil_from_length}
use Rattle.indexmap.specs.IndexSet.{insert_key}
use Rattle.wf_whole_outcomes.specs.declared.nodes.Node.{Node}
use Rattle.wf_whole_outcomes.proofs.Noding.{node_eq}
use Rattle.wf_whole_outcomes.proofs.layers.first_layer.Goals as goal

pub returns : goal.returns
returns c =
    let none = nil_from_length c.with_hasher-layer.result.keys c.with_hasher-layer.ensures.len in
    let node : Node = record { place = 0; told = c.in_ok-told.told } in
    (node, c.in_ok-_is_new.ensures.keys ∙ ap (λ k. insert_key node_eq k node) none, refl, c.in_ok-told.ensures.items_if_clones_equal (λ y e. e))
