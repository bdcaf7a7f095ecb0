-- From machine to machine by steps.
use Rattle.std.proofs.Common.{◌≡◌, ◌∙◌, ℕ, ◌+◌, suc, arith, List, [], ◌∷◌, ◌++◌, ap, ap₂, append_assoc, append-nil, map, refl, replicate, sym, take}
use Rattle.std.specs.Prelude.{ℤ, Some, slice_get}
use Rattle.std.proofs.lemmas.List.{replicate-append-replicate}
use Rattle.ob_interface.specs.Call.{ObjectCall}
use Rattle.ob_text_words.specs.ScriptCalls.{object_call, script_call_of}
use Rattle.ob_text_words.specs.declared.script_call.ScriptCall.{ScriptCall}
use Rattle.wf_table.specs.Counted.{spent_by_step}
use Rattle.wf_table.specs.Spent.{unspent}
use Rattle.wf_history.proofs.Positions.{take_next}
use Rattle.wf_object.specs.View.{Object}
use Rattle.wf_play.specs.Played.{scripts_of}
use Rattle.wf_play.specs.Ended.{AreEndedOf, Leads, ended_at, ended_in}
use Rattle.wf_play.specs.declared.ended.EndedCall.{EndedCall}
use Rattle.wf_table.specs.Meaning.{Meaning}
use Rattle.wf_table.specs.Object.{State, step_of, submit_of}
use Rattle.wf_table.specs.Runs.{run, submissions}
use Rattle.wf_table.specs.Schedule.{steps_of}
use Rattle.wf_table.specs.Start.{IsStart, sizes_of}
use Rattle.wf_table.specs.declared.process.Sizes.{Sizes}
use Rattle.wf_table.specs.declared.schedule.Turns.{Turns}

module _ {E Run : Type 0} (meaning : E → Meaning Run) where
  pub stays : (a : Object E Run) (ended : List EndedCall) → Leads meaning [] a ended a ended
  stays a ended = record { engine = refl; sizes = refl; same = λ rest. refl }

  -- a machine that stepped, with what the step ended
  pub one_step : (p : ℕ) (a b : Object E Run) (ended later : List EndedCall)
      → b ≡ record a { state = step_of (meaning a.engine) a.sizes a.state p; spent = spent_by_step a.state a.spent p }
      → later ≡ ended ++ ended_at (meaning a.engine) a.sizes p a.state a.spent → Leads meaning (p ∷ []) a ended b later
  one_step p a b ended later is more =
      let m = meaning a.engine in
      rw (is, more)
      (record {
        engine = refl;
        sizes = refl;
        same = λ rest. append_assoc ended (ended_at m a.sizes p a.state a.spent) (ended_in m a.sizes rest (step_of m a.sizes a.state p) (spent_by_step a.state a.spent p));
      })

  pub leads_on : (ps qs : List ℕ) (a b d : Object E Run) (ended later last : List EndedCall) → Leads meaning ps a ended b later → Leads meaning qs b later d last
      → Leads meaning (ps ++ qs) a ended d last
  leads_on ps qs a b d ended later last h k = record {
    engine = k.engine ∙ h.engine;
    sizes = k.sizes ∙ h.sizes;
    same = λ rest.
        k.same rest ∙ h.same (qs ++ rest) ∙ ap (λ (steps : List ℕ). ended ++ ended_in (meaning a.engine) a.sizes steps a.state a.spent) (sym (append_assoc ps qs rest));
  }

  by_steps : (ps qs : List ℕ) (a b : Object E Run) (ended later : List EndedCall) → ps ≡ qs → Leads meaning ps a ended b later → Leads meaning qs a ended b later
  by_steps ps qs a b ended later is h = rw (← is) h

  -- one turn more of a process
  pub turn_more : (p k : ℕ) (a b d : Object E Run) (ended later last : List EndedCall) → Leads meaning (replicate k p) a ended b later → Leads meaning (replicate 1 p) b later d last
      → Leads meaning (replicate (k + 1) p) a ended d last
  turn_more p k a b d ended later last h next =
      by_steps (replicate k p ++ replicate 1 p) (replicate (k + 1) p) a d ended last (replicate-append-replicate k 1 p)
      (leads_on (replicate k p) (replicate 1 p) a b d ended later last h next)

  steps_more : (ts : List Turns) (t : Turns) → steps_of (ts ++ t ∷ []) ≡ steps_of ts ++ replicate t.count t.process
  steps_more [] t = append-nil (replicate t.count t.process)
  steps_more (x ∷ ts) t = ap (λ (ps : List ℕ). replicate x.count x.process ++ ps) (steps_more ts t) ∙ sym (append_assoc (replicate x.count x.process) (steps_of ts) (replicate t.count t.process))

  -- one run of turns more
  pub turns_more : (ts : List Turns) (i : ℕ) (t : Turns) (a b d : Object E Run) (ended later last : List EndedCall) → slice_get ts i ≡ Some t
      → Leads meaning (steps_of (take i ts)) a ended b later → Leads meaning (replicate t.count t.process) b later d last
      → Leads meaning (steps_of (take (i + 1) ts)) a ended d last
  turns_more ts i t a b d ended later last here h next =
      let more : i + 1 ≡ suc i = omega arith in
      by_steps (steps_of (take i ts) ++ replicate t.count t.process) (steps_of (take (i + 1) ts)) a d ended last
      (sym (ap (λ (j : ℕ). steps_of (take j ts)) more ∙ ap steps_of (take_next ts i t here) ∙ steps_more (take i ts) t))
      (leads_on (steps_of (take i ts)) (replicate t.count t.process) a b d ended later last h next)

submissions-push : {Run : Type 0} (m : Meaning Run) (z : Sizes) (cs : List ScriptCall) (c : ScriptCall) (s : State Run)
    → run m z (submissions (scripts_of (map script_call_of (cs ++ c ∷ [])))) s ≡ submit_of (run m z (submissions (scripts_of (map script_call_of cs))) s) c.process (object_call (script_call_of c))
submissions-push m z [] c s = refl
submissions-push m z (d ∷ cs) c s = submissions-push m z cs c (submit_of s d.process (object_call (script_call_of d)))

-- one call more is submitted
pub submit_more : {E Run : Type 0} (meaning : E → Meaning Run) (a b d : Object E Run) (cs : List ScriptCall) (c : ScriptCall) (p : ℕ) (call : ObjectCall) → p ≡ c.process
    → call ≡ object_call (script_call_of c)
    → b ≡ record a { state = run (meaning a.engine) a.sizes (submissions (scripts_of (map script_call_of cs))) a.state }
    → d ≡ record b { state = submit_of b.state p call }
    → d ≡ record a { state = run (meaning a.engine) a.sizes (submissions (scripts_of (map script_call_of (cs ++ c ∷ [])))) a.state }
submit_more {E} {Run} meaning a b d cs c p call p_is call_is so_far done =
    let before = run (meaning a.engine) a.sizes (submissions (scripts_of (map script_call_of cs))) a.state in
    done ∙ ap (λ (o : Object E Run). record o { state = submit_of o.state p call }) so_far
    ∙ ap (λ (s : State Run). record a { state = s }) (ap₂ (submit_of before) p_is call_is ∙ sym (submissions-push (meaning a.engine) a.sizes cs c a.state))

-- from the machine behind the scripts, where no call has ended yet
pub ended_of_run : {E Run : Type 0} (meaning : E → Meaning Run) (ready : Run → Type 0) (engine : E) (n : ℕ) (opening : List ℤ) (scripts : List (ℕ × ObjectCall)) (steps : List ℕ)
    (start before after : Object E Run) (ended : List EndedCall) → start.engine ≡ engine → start.sizes ≡ sizes_of (meaning engine) n → start.spent ≡ replicate n unspent
    → IsStart ready (sizes_of (meaning engine) n) opening start.state
    → before ≡ record start { state = run (meaning start.engine) start.sizes (submissions scripts) start.state }
    → Leads meaning steps before [] after ended → AreEndedOf (meaning engine) ready n opening scripts steps ended
ended_of_run meaning ready engine n opening scripts steps start before after ended engine_is sizes_is spent_is begins submitted leads =
    let all = sym (append-nil ended) ∙ leads.same [] in
    let of_before : ended ≡ ended_in (meaning before.engine) before.sizes (steps ++ []) before.state before.spent = all in
    let of_start : ended ≡ ended_in (meaning start.engine) start.sizes (steps ++ []) (run (meaning start.engine) start.sizes (submissions scripts) start.state) start.spent = rw submitted at of_before in
    let of_engine = rw (sizes_is, engine_is, spent_is, append-nil steps) at of_start in
    record { start = start.state; begins = begins; are = of_engine }
