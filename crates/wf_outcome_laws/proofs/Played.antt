-- The calls of a merge, made alone one after the other.
use Rattle.std.proofs.Common.{◌≡◌, ℕ, ◌+◌, ◌*◌, List, [], ◌∷◌, ◌++◌, replicate, refl, sym, ap, ◌∙◌, subst, append_assoc, append-nil}
use Rattle.std.specs.Prelude.{ℤ}
use Rattle.ob_interface.specs.Call.{ObjectCall}
use Rattle.wf_history.specs.declared.event.CallId.{CallId}
use Rattle.wf_history.specs.History.{Begin, Applied, End}
use Rattle.wf_outcomes.specs.Merges.{Configuration, Leads, none, more}
use Rattle.wf_play.specs.ItemSteps as Play
use Rattle.wf_play.specs.ItemSteps.{AreItemSteps}
use Rattle.wf_table.specs.Law.{Effects}
use Rattle.wf_table.specs.Meaning.{Meaning}
use Rattle.wf_table.specs.Object.{State}
use Rattle.wf_table.specs.Runs.{Act, IsRun, turns}
use Rattle.wf_table.specs.Start.{sizes_of}
use Rattle.wf_table.specs.Bound.{bound}
use Rattle.wf_object.specs.InARow.{after_steps}
use Rattle.wf_outcome_laws.specs.Shown.{answers}
use Rattle.wf_outcome_laws.proofs.EveryRun.{Laws}
use Rattle.wf_outcome_laws.proofs.Merged.{Shown}
use Rattle.wf_outcome_laws.proofs.Showing.{Events}
use Rattle.wf_outcome_laws.proofs.Spending.{turns_behind}
use Rattle.wf_outcome_laws.proofs.Stages.{Stage, makes_one}

module _ {Run : Type 0} (m : Meaning Run) (lawful : List ℤ → Type 0) (fits : ObjectCall → Type 0) (ready : Run → Type 0) (Effect : Effects) (laws : Laws m lawful fits ready Effect) (n limit : ℕ) (opening : List ℤ) (scripts : List (List ObjectCall)) where
  -- the items of these calls are a run on from the state, and show them
  pub record IsPlayedOn {c e : Configuration (List ℤ)} {ids : List CallId} (l : Leads Effect scripts c ids e) (acts : List Act) (s : State Run) : Type 0 where
    pub steps : List ℕ
    pub after : State Run
    pub items : AreItemSteps m (sizes_of m n) (bound (sizes_of m n) + 2 * n * limit) (answers ids) s steps after
    pub run : IsRun m lawful fits ready n opening (acts ++ turns steps) after
    pub seen : Events
    pub history : after.records.history ≡ s.records.history ++ seen
    pub shown : Shown Effect scripts l seen
    pub order : after.records.order ≡ s.records.order ++ ids

  pub play : {c e : Configuration (List ℤ)} {ids : List CallId} (l : Leads Effect scripts c ids e) (acts : List Act) (s : State Run) → IsRun m lawful fits ready n opening acts s → Stage m lawful fits ready Effect n limit opening scripts c s → IsPlayedOn l acts s
  play none acts s r g = record {
    steps = [];
    after = s;
    items = Play.none;
    run = subst (λ (more : List Act). IsRun m lawful fits ready n opening more s) (sym (append-nil acts)) r;
    seen = [];
    history = sym (append-nil s.records.history);
    shown = refl;
    order = sym (append-nil s.records.order);
  }
  play (more {c} {d} {e} {id} {ids} reply step l) acts s r g =
      let one = makes_one m lawful fits ready Effect n limit opening scripts c d id reply step laws acts s r g in
      let first = replicate one.count id.process in
      let rest = play l (acts ++ turns first) (after_steps m (sizes_of m n) id.process one.count s) one.run one.stage in
      let three : Events = Begin id step.call ∷ Applied (id ∷ []) ∷ End id one.reply ∷ [] in
      record {
        steps = first ++ rest.steps;
        after = rest.after;
        items = Play.more one.stands one.few rest.items;
        run = subst (λ (more : List Act). IsRun m lawful fits ready n opening more rest.after) (turns_behind acts first rest.steps) rest.run;
        seen = three ++ rest.seen;
        history = rest.history ∙ ap (λ (es : Events). es ++ rest.seen) one.history ∙ append_assoc s.records.history three rest.seen;
        shown = (one.reply, rest.seen, refl, rest.shown);
        order = rest.order ∙ ap (λ (xs : List CallId). xs ++ ids) one.order ∙ append_assoc s.records.order (id ∷ []) ids;
      }
