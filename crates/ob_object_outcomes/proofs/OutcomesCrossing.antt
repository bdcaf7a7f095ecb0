-- Outcomes by position are outcomes by name.
use Rattle.std.proofs.Common.{subst, refl, ℕ, List}
use Rattle.std.proofs.Math.Logic.{∥∥₁_map}
use Rattle.ob_meaning.specs.Resolved.{IsResolved}
use Rattle.ob_meaning.specs.Same.{SameState}
use Rattle.ob_carry.proofs.Carried.{one_state}
use Rattle.ob_checked.specs.Exports.{signatures}
use Rattle.ob_code_correct.proofs.Named.{signed_to_names, signed_to_positions}
use Rattle.ob_code_correct.specs.Carried.{Simulates}
use Rattle.ob_code_correct.specs.Named.{CallMeans}
use Rattle.ob_interface.specs.Call.{ObjectCall, Reply}
use Rattle.ob_interface.specs.Export.{CallFits}
use Rattle.ob_meaning.specs.ByNameObject as Named
use Rattle.ob_object_run.specs.LegalOrder.{CallEnds}
use Rattle.ob_object_outcomes.proofs.OutcomesSimulated.{EachFits, answers_there, leads_there, over, step_there}
use Rattle.ob_object_outcomes.specs.Questions.{FailsFirst, Holds, question_call, yes}
use Rattle.ob_meaning.specs.ByPositionStore.{Activation}
use Rattle.ob_typing.specs.Program.{Program}
use Rattle.wf_history.specs.declared.event.CallId.{CallId}
use Rattle.wf_outcomes.specs.Merges.{IsPossible}
use Rattle.wf_outcomes.specs.Outcomes.{AlwaysGood}
use Rattle.wf_outcomes.specs.OutcomeOrders.{AreOutcomes, CallTold, End, HasBehind, IsItself}

module _ (program : Program) (budget : ℕ) (good : IsResolved program) where
  abbrev fits : ObjectCall → Type 0
  fits = CallFits (signatures program)

  -- a state by position is one by name, and the other way round
  abbrev pub IsNamed : Activation → Named.State → Type 0
  IsNamed activation state = SameState program state activation

  abbrev pub IsPlaced : Named.State → Activation → Type 0
  IsPlaced state activation = SameState program state activation

  abbrev Placed : ObjectCall → Activation → Activation → Reply → Type 0
  Placed = CallEnds program budget

  abbrev Meant : ObjectCall → Named.State → Named.State → Reply → Type 0
  Meant = CallMeans program budget

  by_name : Simulates fits IsNamed Placed Meant
  by_name = signed_to_names program budget good

  by_place : Simulates fits IsPlaced Meant Placed
  by_place = signed_to_positions program budget good

  module _ (scripts : List (List ObjectCall)) (each : EachFits fits scripts) (opening : Named.State) (placed : Activation) (same : SameState program opening placed) where
    possible_placed : (id : CallId) (reply : Reply) → IsPossible Meant scripts opening id reply → IsPossible Placed scripts placed id reply
    possible_placed id reply p =
        let l = leads_there fits IsPlaced Meant Placed by_place scripts each p.2.1 placed same in
        let s = step_there fits IsPlaced Meant Placed by_place scripts each p.0 p.1 id reply l.last l.is p.3 in
        (over p.0 l.last, over p.1 s.next, (p.2.0, l.leads), s.step)

    behind_named : (behind : List CallId) (id : CallId) (reply : Reply) → HasBehind Placed scripts placed behind id reply → HasBehind Meant scripts opening behind id reply
    behind_named behind id reply b =
        let l = leads_there fits IsNamed Placed Meant by_name scripts each b.2 opening same in
        let s = step_there fits IsNamed Placed Meant by_name scripts each b.0 b.1 id reply l.last l.is b.3 in
        (over b.0 l.last, over b.1 s.next, l.leads, s.step)

    pub outcomes_named : (calls : List (CallTold Reply)) (ends : List (End Activation)) → AreOutcomes IsItself Placed scripts placed calls ends → AreOutcomes IsPlaced Meant scripts opening calls ends
    outcomes_named calls ends h = record {
      listed = h.listed;
      replies = λ k told at. ∥∥₁_map (h.replies k told at) (λ r. record {
        had = λ j t there. ∥∥₁_map (r.had j t there) (λ b. behind_named t.behind told.id t.reply b);
        every = λ reply possible. r.every reply (possible_placed told.id reply possible);
        once = r.once;
      });
      states = ∥∥₁_map h.states (λ r. record {
        each = λ k end at. ∥∥₁_map (r.each k end at) (λ e.
            let l = leads_there fits IsNamed Placed Meant by_name scripts each e.leads opening same in
            record { last = l.last; is = subst (λ (a : Activation). SameState program l.last a) e.is l.is; leads = l.leads });
        every = λ last reached.
            let l = leads_there fits IsPlaced Meant Placed by_place scripts each reached.1 placed same in
            let e = r.every l.last (reached.0, l.leads) in
            (e.0, e.1, e.2, subst (λ (a : Activation). SameState program last a) e.3 l.is);
        once = λ j k one other last at also is so. r.once j k one other one.state at also refl (one_state program last one.state other.state is so);
      });
    }

    module _ (number : ℕ) (fit : CallFits (signatures program) (question_call number)) where
      holds_named : (here : Activation) (there : Named.State) → SameState program there here → Holds Placed number here → Holds Meant number there
      holds_named here there is h = answers_there fits IsNamed Placed Meant by_name scripts each (question_call number) yes fit here there is h

      holds_placed : (here : Named.State) (there : Activation) → SameState program here there → Holds Meant number here → Holds Placed number there
      holds_placed here there is h = answers_there fits IsPlaced Meant Placed by_place scripts each (question_call number) yes fit here there is h

      pub always_named : AlwaysGood Placed scripts placed (Holds Placed number) → AlwaysGood Meant scripts opening (Holds Meant number)
      always_named h c reached =
          let l = leads_there fits IsPlaced Meant Placed by_place scripts each reached.1 placed same in
          holds_named l.last c.state l.is (h (over c l.last) (reached.0, l.leads))

      pub first_named : (path : List CallId) → FailsFirst Placed scripts placed (Holds Placed number) path → FailsFirst Meant scripts opening (Holds Meant number) path
      first_named path f =
          let l = leads_there fits IsNamed Placed Meant by_name scripts each f.leads opening same in
          record {
            here = over f.here l.last;
            leads = l.leads;
            fails = λ h. f.fails (holds_placed l.last f.here.state l.is h);
            shortest = λ ids other leads bad.
                let m = leads_there fits IsPlaced Meant Placed by_place scripts each leads placed same in
                f.shortest ids (over other m.last) m.leads (λ h. bad (holds_named m.last other.state m.is h));
          }
