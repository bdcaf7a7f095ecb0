use Rattle.std.proofs.Common.{◌≡◌, ◌++◌, ◌∷◌, [], List, ap, ◌∙◌, arith}
use Rattle.ob_interface.specs.declared.scalar.Scalar.{Scalar}
use Rattle.ob_interface.specs.View.{call_of}
use Rattle.ob_interface.specs.Call.{ObjectCall}
use Rattle.wf_records.specs.declared.submitted_calls.Head.{Head}
use Rattle.wf_records.specs.CallsKept.{calls_from}
use Rattle.wf_records.proofs.CallsKept.{pushed, well_pushed}
use Rattle.wf_records.proofs.submitted_calls.CallList.push.Goals as goal

pub invariant_of-self-2 : goal.invariant_of-self-2
invariant_of-self-2 c =
    let s = c.self.inside in
    let h : Head = record { proc = c.args.call.now.proc; end = c.len.result } in
    let longer : c.push_reserved.new.self.items ≡ s.heads.items ++ h ∷ [] = c.push_reserved.ensures.items ∙ ap (λ (hs : List Head). hs ++ h ∷ []) c.try_reserve.ensures.items in
    let more : c.extend_from_slice.new.self.items ≡ s.arguments.items ++ c.as_slice.result.now = c.in_ok-extend_from_slice.ensures.items in
    well_pushed s.heads.items _ s.arguments.items _ c.as_slice.result.now h longer more (omega (arith, c.len.ensures)) s.number (call_of s.hand) c.self.invariant

pub returns-clause-ok : goal.returns-clause-ok
returns-clause-ok c =
    let s = c.self.inside in
    let h : Head = record { proc = c.args.call.now.proc; end = c.len.result } in
    let longer : c.push_reserved.new.self.items ≡ s.heads.items ++ h ∷ [] = c.push_reserved.ensures.items ∙ ap (λ (hs : List Head). hs ++ h ∷ []) c.try_reserve.ensures.items in
    let more : c.extend_from_slice.new.self.items ≡ s.arguments.items ++ c.as_slice.result.now = c.in_ok-extend_from_slice.ensures.items in
    let calls = pushed s.heads.items _ s.arguments.items _ c.as_slice.result.now h longer more (omega (arith, c.len.ensures)) c.self.invariant.laid in
    rw (← c.self.view_is)
    (ap (λ (cs : List ObjectCall). record { calls = cs; number = s.number }) calls
    ∙ ap (λ (xs : List Scalar). record { calls = calls_from 0 s.heads.items s.arguments.items ++ record { export = c.args.call.now.proc; arguments = xs } ∷ []; number = s.number }) c.as_slice.ensures)
