-- Items played one after the other, and the run that this is.
use Rattle.std.proofs.Common.{◌≡◌, ℕ, zero, suc, inl, inr, ◌+◌, ◌-◌, ◌<◌, ◌≤◌, List, [], ◌∷◌, ◌++◌, replicate, take, map, refl, sym, ap, ◌∙◌, arith, subst, append_assoc, append-nil, All}
use Rattle.std.specs.Prelude.{ℤ, Option, Some, None, slice_get}
use Rattle.std.proofs.lemmas.Bool.{cases_lt}
use Rattle.std.proofs.lemmas.List.Elements.{All-head, All-tail}
use Rattle.ob_interface.specs.Call.{ObjectCall}
use Rattle.ob_text_words.specs.declared.item.Item.{Item}
use Rattle.ob_text_words.specs.Schedule.{process_of}
use Rattle.ob_text_words.specs.declared.script_call.ScriptCall.{ScriptCall}
use Rattle.ob_text_words.specs.ScriptCalls.{object_call, script_call_of}
use Rattle.wf_history.proofs.Positions.{take_next}
use Rattle.wf_object.specs.View.{Object}
use Rattle.wf_play.specs.ItemSteps.{AreItemSteps, HasPlayed, IsBeyond, IsFirstBeyond, IsItemRun, none}
use Rattle.wf_play.specs.Played.{IsPlayed, IsItemFault, IsPlayFault, IsSameObject, most_steps, scripts_of}
use Rattle.wf_play.specs.declared.playing.PlayFault.{PlayFault}
use Rattle.wf_play.specs.declared.playing.PlayFault.TheVariants as Faults
use Rattle.wf_play.proofs.Items.{items-push, items_run, run-append}
use Rattle.wf_play.proofs.Starts.{is_too_long}
use Rattle.wf_table.specs.declared.process.Sizes.{Sizes}
use Rattle.wf_table.specs.Meaning.{Meaning}
use Rattle.wf_table.specs.Object.{State, submit_by, submit_of}
use Rattle.wf_table.specs.Runs.{ActsFit, run, submissions, turns}
use Rattle.wf_table.specs.Schedule.{steps_of}
use Rattle.wf_table.specs.Start.{IsStart, sizes_of}
use Rattle.wf_table.specs.StepTable.{Process}

module _ {Run : Type 0} (m : Meaning Run) (z : Sizes) where
  -- one more call is submitted
  pub submissions-push : (cs : List ScriptCall) (c : ScriptCall) (s : State Run) → run m z (submissions (scripts_of (map script_call_of (cs ++ c ∷ [])))) s ≡ submit_of (run m z (submissions (scripts_of (map script_call_of cs))) s) c.process (object_call (script_call_of c))
  submissions-push [] c s = refl
  submissions-push (d ∷ cs) c s = submissions-push cs c (submit_of s d.process (object_call (script_call_of d)))

  submitted_by : (s : State Run) (p : ℕ) (call : ObjectCall) (o : Option (Process Run)) → (submit_by s p call o).records ≡ s.records
  submitted_by s p call None = refl
  submitted_by s p call (Some q) = refl

  -- calls that are submitted show nothing
  pub submitted_records : (scripts : List (ℕ × ObjectCall)) (s : State Run) → (run m z (submissions scripts) s).records ≡ s.records
  submitted_records [] s = refl
  submitted_records (x ∷ xs) s = submitted_records xs (submit_of s x.0 x.1) ∙ submitted_by s x.0 x.1 (slice_get s.processes x.0)

  pub played_none : (limit : ℕ) (s : State Run) → HasPlayed m z limit [] s s
  played_none limit s = record { steps = []; plays = none; turns = sym (append-nil (steps_of s.records.schedule)) }

  -- the items so far, and one more
  pub played_more : (limit : ℕ) (items : List Item) (i : ℕ) (item : Item) (s t u : State Run) → slice_get items i ≡ Some item → HasPlayed m z limit (take i items) s t → IsItemRun m z limit item t u → HasPlayed m z limit (take (i + 1) items) s u
  played_more limit items i item s t u at so_far ends =
      let more : i + 1 ≡ suc i = omega arith in
      let these = items-push m z limit (take i items) s t so_far.steps item ends.steps so_far.plays ends.stands ends.few in
      let those : AreItemSteps m z limit (take i items ++ item ∷ []) s (so_far.steps ++ replicate ends.steps (process_of item)) u = subst (λ (v : State Run). AreItemSteps m z limit (take i items ++ item ∷ []) s (so_far.steps ++ replicate ends.steps (process_of item)) v) (sym ends.leads) these in
      record {
        steps = so_far.steps ++ replicate ends.steps (process_of item);
        plays = subst (λ (xs : List Item). AreItemSteps m z limit xs s (so_far.steps ++ replicate ends.steps (process_of item)) u) (sym (ap (λ (j : ℕ). take j items) more ∙ take_next items i item at)) those;
        turns = ends.turns ∙ ap (λ (ps : List ℕ). ps ++ replicate ends.steps (process_of item)) so_far.turns ∙ append_assoc (steps_of s.records.schedule) so_far.steps (replicate ends.steps (process_of item));
      }

  pub first_beyond : (limit : ℕ) (items : List Item) (i : ℕ) (item : Item) (s t : State Run) → slice_get items i ≡ Some item → HasPlayed m z limit (take i items) s t → IsBeyond m z limit item t → IsFirstBeyond m z limit items s (i + 1)
  first_beyond limit items i item s t at so_far beyond =
      let here : i + 1 - 1 ≡ i = omega arith in
      record {
        item = item;
        counted = omega arith;
        here = ap (slice_get items) here ∙ at;
        steps = so_far.steps;
        state = t;
        before = subst (λ (j : ℕ). AreItemSteps m z limit (take j items) s so_far.steps t) (sym here) so_far.plays;
        beyond = beyond;
      }

pub at_least_one : (n : ℕ) → (n ≡ 0 → ⊥) → 0 < n
at_least_one zero h = absurd (h refl)
at_least_one (suc n) h = omega arith

pub at_most : (n k : ℕ) → (k < n → ⊥) → n ≤ k
at_most n k h = elim (cases_lt k n) [ inl less ↦ absurd (h less) | inr most ↦ most ]

turns_fit : (fits : ObjectCall → Type 0) (ps : List ℕ) → ActsFit fits (turns ps)
turns_fit fits [] = tt
turns_fit fits (p ∷ ps) = (tt, turns_fit fits ps)

pub scripts_fit : (fits : ObjectCall → Type 0) (cs : List ScriptCall) (ps : List ℕ) → All (λ c. fits (object_call (script_call_of c))) cs → ActsFit fits (submissions (scripts_of (map script_call_of cs)) ++ turns ps)
scripts_fit fits [] ps h = turns_fit fits ps
scripts_fit fits (c ∷ cs) ps h = (All-head (λ (x : ScriptCall). fits (object_call (script_call_of x))) c cs h, scripts_fit fits cs ps (All-tail (λ (x : ScriptCall). fits (object_call (script_call_of x))) c cs h))

module _ {Run : Type 0} (m : Meaning Run) (lawful : List ℤ → Type 0) (fits : ObjectCall → Type 0) (ready : Run → Type 0) (n : ℕ) (opening : List ℤ) where
  pub is_played : (cs : List ScriptCall) (items : List Item) (start s : State Run) → 0 < n → n ≤ 16 → lawful opening → All (λ c. fits (object_call (script_call_of c))) cs → IsStart ready (sizes_of m n) opening start →
      HasPlayed m (sizes_of m n) most_steps items (run m (sizes_of m n) (submissions (scripts_of (map script_call_of cs))) start) s → IsPlayed m lawful fits ready n opening (scripts_of (map script_call_of cs)) items s
  is_played cs items start s some few opens fit begins played =
      let z = sizes_of m n in
      let scripts = scripts_of (map script_call_of cs) in
      let submitted = run m z (submissions scripts) start in
      let before : steps_of submitted.records.schedule ≡ [] = ap (λ (r : _). steps_of r.schedule) (submitted_records m z scripts start ∙ begins.records) in
      let is : steps_of s.records.schedule ≡ played.steps = played.turns ∙ ap (λ (ps : List ℕ). ps ++ played.steps) before in
      record {
        runs = record {
          some = some;
          few = few;
          opens = opens;
          fit = scripts_fit fits cs (steps_of s.records.schedule) fit;
          start = start;
          begins = begins;
          leads = run-append m z (submissions scripts) (turns (steps_of s.records.schedule)) start ∙ ap (λ (ps : List ℕ). run m z (turns ps) submitted) is ∙ items_run m z most_steps items submitted s played.steps played.plays;
        };
        plays = subst (λ (ps : List ℕ). AreItemSteps m z most_steps items submitted ps s) (sym is) played.plays;
      }

  pub is_fault : (scripts : List (ℕ × ObjectCall)) (items : List Item) (start : State Run) (e : PlayFault) → IsStart ready (sizes_of m n) opening start →
      IsItemFault m (sizes_of m n) most_steps items (run m (sizes_of m n) (submissions scripts) start) e → IsPlayFault m ready n opening scripts items e
  is_fault scripts items start Faults.Processes begins h = absurd h
  is_fault scripts items start (Faults.TooLong number) begins h = is_too_long m ready n opening scripts items number start begins h
  is_fault scripts items start Faults.NoMemory begins h = tt

module _ {E Run : Type 0} (meaning : E → Meaning Run) where
  -- what is said of an object's engine and sizes holds of those of the same object
  pub of_same : (P : E → Sizes → Type 0) (a b : Object E Run) → IsSameObject b a → P b.engine b.sizes → P a.engine a.sizes
  of_same P a b same h = subst (λ (z : Sizes). P a.engine z) same.sizes (subst (λ (e : E). P e b.sizes) same.engine h)

  pub of_started : (P : E → Sizes → State Run → Type 0) (engine : E) (n : ℕ) (scripts : List (ℕ × ObjectCall)) (a b : Object E Run) → a.engine ≡ engine → a.sizes ≡ sizes_of (meaning engine) n →
      IsSameObject b a → b.state ≡ run (meaning a.engine) a.sizes (submissions scripts) a.state → P b.engine b.sizes b.state →
      P engine (sizes_of (meaning engine) n) (run (meaning engine) (sizes_of (meaning engine) n) (submissions scripts) a.state)
  of_started P engine n scripts a b same_engine same_sizes same leads h =
      let z = sizes_of (meaning engine) n in
      let led : b.state ≡ run (meaning engine) z (submissions scripts) a.state =
      leads ∙ ap (λ (e : E). run (meaning e) a.sizes (submissions scripts) a.state) same_engine ∙ ap (λ (y : Sizes). run (meaning engine) y (submissions scripts) a.state) same_sizes in
      subst (λ (s : State Run). P engine z s) led (subst (λ (y : Sizes). P engine y b.state) (same.sizes ∙ same_sizes) (subst (λ (e : E). P e b.sizes b.state) (same.engine ∙ same_engine) h))
