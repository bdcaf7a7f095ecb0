-- Where what makes calls stands, along a list.
use Rattle.std.proofs.Common.{◌≡◌, ℕ, List, length, refl, ap, subst, suc, Some}
use Rattle.std.specs.List.{slice_get, Contains}
use Rattle.ob_interface.specs.Call.{ObjectCall, Reply}
use Rattle.ob_object_run.proofs.Replay.{leads_more, leads_none}
use Rattle.ob_object_run.specs.InTurn.{IsMadeInTurn, Takeable, TakesBegun}
use Rattle.ob_object_run.specs.LegalOrder.{CallEnds}
use Rattle.ob_object_run.specs.OrderFaults.{AllLeadTo, LeadsTo}
use Rattle.ob_meaning.specs.ByPositionObject.{effect}
use Rattle.ob_meaning.specs.ByPositionStore.{Activation}
use Rattle.ob_typing.specs.Program.{Program}
use Rattle.wf_history.specs.History.{Event, End}
use Rattle.wf_history.specs.Legal.{HasBegun}
use Rattle.wf_history.specs.declared.event.CallId.{CallId}

-- what a call comes to, of its reply
pub ends_so : (program : Program) (budget : ℕ) (call : ObjectCall) (before : Activation) (reply : Reply) → (effect program call budget before).reply ≡ reply →
    CallEnds program budget call before (effect program call budget before).state reply
ends_so program budget call before reply is =
    ap (λ (r : Reply). record { state = (effect program call budget before).state; reply = r }) is

module _ {Maker : Type 0} (Stands : Program → (budget : ℕ) → Activation → Maker → Type 0) where
  module _ (history : List (Event ObjectCall Reply)) (order : List CallId) where
    -- the calls before this place lead with the history's replies to where it stands
    pub record Reaches (place : ℕ) (program : Program) (budget : ℕ) (opening : Activation) (now : Maker) : Type 0 where
      pub state : Activation
      pub leads : LeadsTo (CallEnds program budget) opening history order place state
      pub stands : Stands program budget state now

    -- wherever it stood
    abbrev pub ReachesFrom : Maker → ℕ → Maker → Type 0
    ReachesFrom begun place now =
        (program : Program) (budget : ℕ) (opening : Activation) → Stands program budget opening begun → Reaches place program budget opening now

    pub reaches_none : (begun : Maker) → ReachesFrom begun 0 begun
    reaches_none begun program budget opening stands =
        record { state = opening; leads = leads_none (CallEnds program budget) opening history order opening refl; stands = stands }

    -- one call more
    pub reaches_more : (place : ℕ) (program : Program) (budget : ℕ) (opening : Activation) (now next : Maker) (r : Reaches place program budget opening now) (id : CallId) (call : ObjectCall) (reply : Reply) →
        slice_get order place ≡ Some id → HasBegun history id call → IsMadeInTurn Stands program budget call r.state next reply →
        ((other : Reply) → Contains history (End id other) → other ≡ reply) → Reaches (suc place) program budget opening next
    reaches_more place program budget opening now next r id call reply here begun made same =
        record {
          state = (effect program call budget r.state).state;
          leads = leads_more (CallEnds program budget) opening history order place r.state (effect program call budget r.state).state id call reply r.leads here begun
              (ends_so program budget call r.state reply made.reply_is) same;
          stands = made.stands;
        }

    -- behind all of them
    pub reaches_all : (place : ℕ) (program : Program) (budget : ℕ) (opening : Activation) (now : Maker) → place ≡ length order → Reaches place program budget opening now →
        (last : Activation) × AllLeadTo program budget opening history order last × Stands program budget last now
    reaches_all place program budget opening now all r =
        (r.state, subst (λ (k : ℕ). LeadsTo (CallEnds program budget) opening history order k r.state) all r.leads, r.stands)

  -- a call that begins in the history is taken where it stands
  pub takes_next : (Takes : Program → ObjectCall → Type 0) (history : List (Event ObjectCall Reply)) (order : List CallId) (place : ℕ) (begun now : Maker) →
      TakesBegun Takes Stands history begun → ReachesFrom history order begun place now → (id : CallId) (call : ObjectCall) → HasBegun history id call → Takeable Takes Stands now call
  takes_next Takes history order place begun now t reaches id call here =
      let r = reaches t.program t.budget t.state t.stands in
      record { program = t.program; budget = t.budget; state = r.state; stands = r.stands; takes = t.takes id call here }
