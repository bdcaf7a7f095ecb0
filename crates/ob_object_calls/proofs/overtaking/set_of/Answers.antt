-- One more id is in the set, and at the end all are.
use Rattle.std.proofs.Common.{subst, take, length, get_or, arith, ◌<◌, ◌↔◌, List, add-one}
use Rattle.std.proofs.lemmas.List.{take_all}
use Rattle.std.proofs.lemmas.Option.{slice_get-get_or}
use Rattle.std.specs.HashSet as bag
use Rattle.std.specs.Prelude.{IsTrue, Contains}
use Rattle.ob_object_run.specs.Places.{same_id}
use Rattle.ob_object_calls.proofs.SameNames.{set_more}
use Rattle.ob_object_calls.proofs.overtaking.set_of.Goals as goal
use Rattle.wf_history.proofs.Positions.{take_next}
use Rattle.wf_history.specs.declared.event.CallId.{CallId}

abbrev default : CallId
default = record { process = 0; number = 0 }

pub loop-id-preserved : goal.loop-id-preserved
loop-id-preserved c =
    let i = c.loop-id.id-index in
    let ids = c.args.ids.now in
    let id = get_or ids i default in
    let lt : i < length ids = omega arith in
    rw (add-one, take_next ids i id (slice_get-get_or ids i default lt))
    (set_more (bag.contains same_id c.loop-id.set) (bag.contains same_id c.insert.new.self) (take i ids) id c.loop-id.invariant
    c.in_ok-insert.ensures.updates.0)

pub returns : goal.returns
returns c =
    let i = c.loop-id.id-index in
    let ids = c.args.ids.now in
    let whole = take_all i ids (omega arith) in
    λ (q : CallId). subst (λ (is : List CallId). IsTrue (bag.contains same_id c.loop-id.set q) ↔ Contains is q) whole (c.loop-id.invariant q)
