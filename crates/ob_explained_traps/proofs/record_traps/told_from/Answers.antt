use Rattle.std.proofs.Common.{◌∙◌, ap, length, map, sym}
use Rattle.std.specs.Prelude.{option_map}
use Rattle.std.proofs.lemmas.List.{length-map}
use Rattle.ob_checked.specs.CheckedModule.{program_in, tree_in}
use Rattle.ob_explained.specs.Sources.{source_of}
use Rattle.ob_mean.specs.View.{call_of}
use Rattle.ob_store.specs.View.{state_of}
use Rattle.ob_trap_places.specs.Reaching.{site_of}
use Rattle.ob_explained_traps.specs.RecordTraps.{order_text}
use Rattle.ob_explained_traps.proofs.TrapsOfCalls.{sites_long}
use Rattle.ob_explained_traps.proofs.record_traps.told_from.Goals as goal

pub traps_told-requires : goal.traps_told-requires
traps_told-requires c =
    let calls = c.args.made.calls.now in
    c.requires
    ∙ sym (sites_long (option_map site_of) c.deref.result.now (program_in c.args.checked.now) c.args.made.budget (state_of c.args.begun) (map call_of calls) (length calls)
    (ap (map (option_map site_of)) c.deref.ensures.value ∙ c.in_ok-sites.ensures) (length-map calls call_of))

pub returns : goal.returns
returns c =
    let object = source_of c.args.object in
    let budget = c.args.made.budget in
    let order = c.args.made.order.now in
    c.in_ok-traps_told.ensures
    ∙ ap (λ tree. order_text object tree budget order (map (option_map site_of) c.deref.result.now)) c.tree.ensures.tree
    ∙ ap (order_text object (tree_in c.args.checked.now) budget order) (ap (map (option_map site_of)) c.deref.ensures.value ∙ c.in_ok-sites.ensures)
