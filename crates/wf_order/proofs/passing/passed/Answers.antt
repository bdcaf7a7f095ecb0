-- One call that only reads more.
use Rattle.std.proofs.Common.{◌≡◌, refl, sym, ap, subst, ◌∙◌, ℕ, ◌+◌, ◌<◌, ◌≤◌, List, [], ◌∷◌, ◌++◌, get_or, length, length-set, map, set, append_assoc, arith, inl, inr}
use Rattle.std.proofs.lemmas.List.{append-nil, map-append}
use Rattle.std.proofs.lemmas.List.Elements.{Contains-push_cases}
use Rattle.std.specs.List.{Contains}
use Rattle.wf_history.specs.declared.event.CallId.{CallId}
use Rattle.wf_history.specs.View.{event_of}
use Rattle.wf_history.proofs.Positions.{place_of}
use Rattle.wf_order.specs.declared.search.Frame.{Frame}
use Rattle.wf_order.specs.Rows.{AreRows, begun_rows, call_at}
use Rattle.wf_order.specs.Rules.{Passes, none_passed}
use Rattle.wf_order.specs.Search.{found_in, HasNext, IsReadingNext, ids_of, left}
use Rattle.wf_order.specs.Steps.{Configuration, IsLimit, IsOneMore, one_more}
use Rattle.wf_order.proofs.Lists.{same_configuration}
use Rattle.wf_order.proofs.Searching.{passes_push}
use Rattle.wf_order.proofs.Stepping.{some_at}
use Rattle.wf_order.proofs.Weights.{left_next}
use Rattle.wf_order.proofs.Limits.{limit_moved}
use Rattle.wf_order.proofs.passing.passed.Goals as goal

nothing : (f : Frame) → Contains [] f → ⊥
nothing f there = let p = place_of [] f there in let e = p.1 in absurd (cc)

pub loop-process-init : goal.loop-process-init
loop-process-init g c = record {
  made = c.requires.made;
  worded = c.requires.worded;
  sized = refl;
  passed = λ history are bound. record { frames = []; pushed = sym (append-nil c.args.stack.now.items); past = λ f there. absurd (nothing f there); passes = none_passed };
  limit = λ history are bound. bound;
}

pub reader_at-requires-clause-made : goal.reader_at-requires-clause-made
reader_at-requires-clause-made g c = c.loop-process.invariant.made

pub reader_at-requires-clause-worded : goal.reader_at-requires-clause-worded
reader_at-requires-clause-worded g c = c.loop-process.invariant.worded

pub loop-process-smaller : goal.loop-process-smaller
loop-process-smaller g c =
    let rows = c.args.task.now.rows.now in
    let counts = c.loop-process.there.counts.items in
    let next = some_at (HasNext rows counts) c.in_ok-process.field-0 c.in-Some.process c.in-Some.is c.in_ok-process.ensures.next in
    subst (λ (l : List ℕ). left (map length (begun_rows rows)) l < left (map length (begun_rows rows)) counts) (sym c.in_ok-number.ensures.counts)
    (left_next (begun_rows rows) counts c.in-Some.process next.0 next.1)

pub loop-process-preserved : goal.loop-process-preserved
loop-process-preserved g c =
    let effect = g.O.Object.effect c.args.task.now.object.now in
    let rows = c.args.task.now.rows.now in
    let there = c.loop-process.there in
    let counts = there.counts.items in
    let process = c.in-Some.process in
    let set_is = c.in_ok-number.ensures.counts in
    let size = ap length set_is ∙ length-set counts process (get_or counts process 0 + 1) in
    let old = c.loop-process.invariant in
    let from = found_in g.O.Object.meaning c.args.there.now in
    let here = found_in g.O.Object.meaning there in
    let frame : Frame = record { place = c.args.frame.place; next = rows.events; id = record { process = process; number = c.in_ok-number.number }; limit = c.loop-process.limit } in
    let id : call_at process (get_or counts process 0) ≡ frame.id = ap (λ (n : ℕ). record { process = process; number = n }) (sym c.in_ok-number.ensures.number) in
    let to : one_more counts process here.state ≡ record { counts = c.take_next.new.counts.items; state = here.state } = same_configuration (sym set_is) refl in record {
      made = c.in_ok-process.ensures.made;
      worded = old.worded;
      sized = size ∙ old.sized;
      passed = λ history are bound.
          let p = old.passed history are bound in
          let own = subst (λ (n : ℕ). AreRows history n rows) (sym old.sized) are in
          let reads = some_at (IsReadingNext effect history here) c.in_ok-process.field-0 process c.in-Some.is (c.in_ok-process.ensures.reads history (own, old.limit history are bound)) in
          let more = passes_push effect history p.passes reads.0 reads.1 in
          let named = subst (λ (i : CallId). Passes effect history from (ids_of p.frames ++ i ∷ []) (one_more counts process here.state)) id more in
          let size_is = are.events in
          record {
            frames = p.frames ++ frame ∷ [];
            pushed = c.in_ok-push.ensures.items ∙ ap (λ (l : List Frame). l ++ frame ∷ []) p.pushed ∙ append_assoc c.args.stack.now.items p.frames (frame ∷ []);
            past = λ f in_more. elim (Contains-push_cases p.frames frame f in_more) [
              | inl before ↦ p.past f before
              | inr same ↦ subst (λ (x : Frame). (x.place ≡ c.args.frame.place) × (length history ≤ x.next)) same (refl, omega (arith, size_is))
            ];
            passes =
                subst (λ (l : List CallId). Passes effect history from l (record { counts = c.take_next.new.counts.items; state = here.state })) (sym (map-append (λ x. x.id) p.frames (frame ∷ [])))
                (subst (λ (d : Configuration g.O.Object.Meaning). Passes effect history from (ids_of p.frames ++ frame.id ∷ []) d) to named);
          };
      limit = λ history are bound.
          let next = some_at (HasNext rows counts) c.in_ok-process.field-0 process c.in-Some.is c.in_ok-process.ensures.next in
          let events = map event_of c.args.task.now.events.now in
          let own = c.requires.rows in
          let more : IsOneMore counts frame.id c.deref.result.now =
          record { within = next.0; number = c.in_ok-number.ensures.number; is = c.deref.ensures ∙ set_is ∙ ap (set counts process) (sym c.in_ok-number.ensures.number) } in
          let there = c.next_limit-next.ensures counts frame.id more (limit_moved history events (length c.args.there.now.counts.items) own.0 rows are own.1 counts c.loop-process.limit (old.limit history are bound)) in
          subst (λ (xs : List ℕ). IsLimit history xs c.next_limit-next.result) c.deref.ensures
          (limit_moved events history own.0 (length c.args.there.now.counts.items) rows own.1 are c.deref.result.now c.next_limit-next.result there);
    }

pub returns-clause-passed : goal.returns-clause-passed
returns-clause-passed g c = c.loop-process.invariant.passed

pub returns-clause-limit : goal.returns-clause-limit
returns-clause-limit g c = c.loop-process.invariant.limit

pub returns-clause-worded : goal.returns-clause-worded
returns-clause-worded g c = c.loop-process.invariant.worded
