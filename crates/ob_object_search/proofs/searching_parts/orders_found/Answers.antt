use Rattle.std.proofs.Common.{◌≡◌, ◌∙◌, ◌+◌, ◌++◌, ◌∷◌, [], ℕ, suc, List, sym, subst, ap, arith, refl, take}
use Rattle.ob_checked.specs.CheckedModule.{program_in}
use Rattle.ob_object_search.proofs.Found.{first_fault, one_more}
use Rattle.ob_object_search.specs.NumberedParts.{AreOrdersHere}
use Rattle.ob_object_search.specs.Parted.{PartOrder}
use Rattle.ob_object_search.specs.View.{orders_in}
use Rattle.ob_store.specs.View.{state_of}
use Rattle.wf_history.proofs.Positions.{take_next}
use Rattle.wf_lookup.proofs.Items.{item_here}
use Rattle.wf_parts.specs.Numbering.{PartView}
use Rattle.wf_parts.specs.View.{part_in, parts_in}
use Rattle.ob_object_search.proofs.searching_parts.orders_found.Goals as goal

pub part_order-requires-clause-here : goal.part_order-requires-clause-here
part_order-requires-clause-here c =
    c.requires.here c.loop-part.part-index (part_in c.part-item.result) (item_here part_in c.args.parts.now c.loop-part.part-index c.part-item.result c.loop-part-test.true c.part-item.is)

pub returns-in-Err-clause-fault : goal.returns-in-Err-clause-fault
returns-in-Err-clause-fault c =
    first_fault (program_in c.args.object.now.checked.now) c.args.object.now.budget (state_of c.args.object.now.opening.now) c.args.names.now c.args.search.now.most (parts_in c.args.parts.now) (orders_in c.loop-part.found.items)
    c.loop-part.part-index (part_in c.part-item.result) c.in-Err.fault (item_here part_in c.args.parts.now c.loop-part.part-index c.part-item.result c.loop-part-test.true c.part-item.is) c.loop-part.invariant c.in-Err.ensures.fault

pub returns-in-Err-clause-decided : goal.returns-in-Err-clause-decided
returns-in-Err-clause-decided c = λ enough.
    c.in-Err.ensures.decided
    (enough c.loop-part.part-index (part_in c.part-item.result) (item_here part_in c.args.parts.now c.loop-part.part-index c.part-item.result c.loop-part-test.true c.part-item.is))

pub loop-part-preserved : goal.loop-part-preserved
loop-part-preserved c =
    let parts = parts_in c.args.parts.now in
    let i = c.loop-part.part-index in
    let p = part_in c.part-item.result in
    let here = item_here part_in c.args.parts.now i c.part-item.result c.loop-part-test.true c.part-item.is in
    let more : i + 1 ≡ suc i = omega arith in
    let next : take (i + 1) parts ≡ take i parts ++ p ∷ [] = ap (λ (n : ℕ). take n parts) more ∙ take_next parts i p here in
    let program = program_in c.args.object.now.checked.now in
    let opening = state_of c.args.object.now.opening.now in
    subst (λ (ps : List PartView). AreOrdersHere program c.args.object.now.budget opening c.args.names.now ps (orders_in c.push_part.new.found.items)) (sym next)
    (subst (λ (os : List PartOrder). AreOrdersHere program c.args.object.now.budget opening c.args.names.now (take i parts ++ p ∷ []) os) (sym c.in_ok-push_part-in-Ok.ensures)
    (one_more program c.args.object.now.budget opening c.args.names.now c.args.search.now.most (take i parts) (orders_in c.loop-part.found.items) p _ refl c.in-Ok.ensures.order c.loop-part.invariant))
