-- Whole outcomes by position are whole outcomes by name.
use Rattle.std.proofs.Common.{subst, refl, ℕ, List}
use Rattle.std.proofs.Math.Logic.{∥∥₁_map}
use Rattle.ob_meaning.specs.Resolved.{IsResolved}
use Rattle.ob_meaning.specs.Same.{SameState}
use Rattle.ob_carry.proofs.Carried.{one_state}
use Rattle.ob_checked.specs.Exports.{signatures}
use Rattle.ob_code_correct.proofs.Named.{signed_to_names, signed_to_positions}
use Rattle.ob_code_correct.specs.Carried.{Simulates}
use Rattle.ob_code_correct.specs.Named.{CallMeans}
use Rattle.ob_interface.specs.Call.{ObjectCall, Reply}
use Rattle.ob_interface.specs.Export.{CallFits}
use Rattle.ob_meaning.specs.ByNameObject as Named
use Rattle.ob_object_run.specs.LegalOrder.{CallEnds}
use Rattle.ob_object_outcomes.proofs.OutcomesSimulated.{EachFits}
use Rattle.ob_object_outcomes.proofs.WholesSimulated.{over, tells_there}
use Rattle.ob_meaning.specs.ByPositionStore.{Activation}
use Rattle.ob_typing.specs.Program.{Program}
use Rattle.wf_outcomes.specs.OutcomeOrders.{IsItself}
use Rattle.wf_whole_outcomes.specs.Wholes.{AreWholes, WholeTold}

module _ (program : Program) (budget : ℕ) (good : IsResolved program) where
  abbrev fits : ObjectCall → Type 0
  fits = CallFits (signatures program)

  -- a state by position is one by name, and the other way round
  abbrev IsNamed : Activation → Named.State → Type 0
  IsNamed activation state = SameState program state activation

  abbrev IsPlaced : Named.State → Activation → Type 0
  IsPlaced state activation = SameState program state activation

  abbrev Placed : ObjectCall → Activation → Activation → Reply → Type 0
  Placed = CallEnds program budget

  abbrev Meant : ObjectCall → Named.State → Named.State → Reply → Type 0
  Meant = CallMeans program budget

  by_name : Simulates fits IsNamed Placed Meant
  by_name = signed_to_names program budget good

  by_place : Simulates fits IsPlaced Meant Placed
  by_place = signed_to_positions program budget good

  module _ (scripts : List (List ObjectCall)) (each : EachFits fits scripts) (opening : Named.State) (placed : Activation) (same : SameState program opening placed) where
    pub wholes_named : (wholes : List (WholeTold Activation Reply)) → AreWholes IsItself Placed scripts placed wholes → AreWholes (SameState program) Meant scripts opening wholes
    wholes_named wholes h = record {
      each = λ k w at. ∥∥₁_map (h.each k w at) (λ g.
          let l = tells_there fits IsNamed Placed Meant by_name scripts each g.gives.tells opening same in
          record { last = l.last; is = subst (λ (a : Activation). SameState program l.last a) g.is l.is; gives = record { tells = l.tells; whole = g.gives.whole } });
      every = λ order t g.
          let l = tells_there fits IsPlaced Meant Placed by_place scripts each g.tells placed same in
          let there = h.every order (over t l.last) (record { tells = l.tells; whole = g.whole }) in
          record {
            place = there.place;
            it = there.it;
            there = there.there;
            replies = there.replies;
            is = subst (λ (a : Activation). SameState program t.state a) there.is l.is;
            first = there.first;
          };
      once = λ j k one other last at also replies is so. h.once j k one other one.state at also replies refl (one_state program last one.state other.state is so);
      sorted = h.sorted;
    }
