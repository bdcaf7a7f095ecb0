-- Runs of scripts and whole outcomes.
use Rattle.std.proofs.Common.{◌≡◌, refl, sym, ap, ◌∙◌, subst, ℕ, ◌+◌, ◌-◌, zero, suc, List, [], ◌∷◌, ◌++◌, length, get_or, set, map, Some, inl, inr, arith, get_or-set_same, get_or-set_other}
use Rattle.std.proofs.lemmas.Bool.{cases_eq}
use Rattle.std.proofs.lemmas.List.{length-map}
use Rattle.std.proofs.lemmas.Option.{same_Some}
use Rattle.std.specs.List.{slice_get, Contains}
use Rattle.wf_history.proofs.Positions.{place_here, place_left, place_of}
use Rattle.wf_history.specs.declared.event.CallId.{CallId}
use Rattle.wf_history.specs.History.{Event, End}
use Rattle.wf_history.specs.Legal as Legal
use Rattle.wf_history.specs.Legal.{HasBegun, IsLegal, OneAtATime, RepliesAgree}
use Rattle.wf_outcome_laws.proofs.Alone.{are_legal_orders}
use Rattle.wf_outcome_laws.proofs.Merging.{all_steps, step_merged}
use Rattle.wf_outcome_laws.specs.ScriptRuns.{IsRunOfScripts}
use Rattle.wf_order.specs.Steps as Search
use Rattle.wf_outcomes.proofs.OutcomesLists.{same_configuration}
use Rattle.wf_outcomes.specs.Merges as Merges
use Rattle.wf_outcomes.specs.Merges.{Configuration, IsStep, Leads, full, start}
use Rattle.wf_outcome_laws.specs.WholeOutcomeRuns.{HasReplies, RunsGiveWholes, WholesAreOfRuns}
use Rattle.wf_whole_outcomes.specs.Tellings.{IsTold, Telling, Tells, none, more, replies_to, silence}
use Rattle.wf_whole_outcomes.proofs.Merging.{IsOf, behind, of_behind, told_step}
use Rattle.wf_whole_outcomes.proofs.Numbering.{length_row, map_all}
use Rattle.wf_whole_outcomes.proofs.Standing.{same_telling}

module _ {State Call Reply : Type 0} (Effect : Call → State → State → Reply → Type 0) (scripts : List (List Call)) where
  -- what is told stays told
  kept_once : (t u : Telling State Reply) (id : CallId) → IsTold Effect scripts t id u → (process k : ℕ) (reply : Reply) → slice_get (replies_to t process) k ≡ Some reply → slice_get (replies_to u process) k ≡ Some reply
  kept_once t u id told process k reply at =
      let now : replies_to u process ≡ get_or (set t.replies id.process (replies_to t id.process ++ told.reply ∷ [])) process [] = ap (λ (l : List (List Reply)). get_or l process []) told.replies in
      elim (cases_eq process id.process) [
        | inl own ↦
            let here : replies_to u process ≡ replies_to t process ++ told.reply ∷ [] =
            now ∙ ap (λ (p : ℕ). get_or (set t.replies id.process (replies_to t id.process ++ told.reply ∷ [])) p []) own
            ∙ get_or-set_same t.replies id.process (replies_to t id.process ++ told.reply ∷ []) [] told.process ∙ ap (λ (p : ℕ). replies_to t p ++ told.reply ∷ []) (sym own) in
            ap (λ (l : List Reply). slice_get l k) here ∙ place_left (replies_to t process) (told.reply ∷ []) k reply at
        | inr other ↦
            ap (λ (l : List Reply). slice_get l k) (now ∙ get_or-set_other t.replies id.process process (replies_to t id.process ++ told.reply ∷ []) [] other) ∙ at
      ]

  kept : {t u : Telling State Reply} {ids : List CallId} → Tells Effect scripts t ids u → (process k : ℕ) (reply : Reply) → slice_get (replies_to t process) k ≡ Some reply → slice_get (replies_to u process) k ≡ Some reply
  kept none process k reply at = at
  kept (more {t} {u} {v} {id} {ids} told l) process k reply at = kept l process k reply (kept_once t u id told process k reply at)

  -- the reply that is told of a call stands under its number
  told_there : (t u : Telling State Reply) (id : CallId) → IsTold Effect scripts t id u → (reply : Reply) → u.replies ≡ set t.replies id.process (replies_to t id.process ++ reply ∷ []) →
      slice_get (replies_to u id.process) (id.number - 1) ≡ Some reply
  told_there t u id told reply now =
      let here : replies_to u id.process ≡ replies_to t id.process ++ reply ∷ [] =
      ap (λ (l : List (List Reply)). get_or l id.process []) now ∙ get_or-set_same t.replies id.process (replies_to t id.process ++ reply ∷ []) [] told.process in
      let number = told.number in
      let place : id.number - 1 ≡ length (replies_to t id.process) = omega (arith, number) in
      ap (λ (l : List Reply). slice_get l (id.number - 1)) here ∙ ap (slice_get (replies_to t id.process ++ reply ∷ [])) place ∙ place_here (replies_to t id.process) [] reply

  module _ (history : List (Event Call Reply)) (run : IsRunOfScripts scripts history) where
    -- what is told along a legal order
    record AlongTold (t : Telling State Reply) (e : Search.Configuration State) (ids : List CallId) (last : State) : Type 0 where
      told : Telling State Reply
      tells : Tells Effect scripts t ids told
      state : told.state ≡ last
      counts : e.counts ≡ map length told.replies
      replies : (k : ℕ) (id : CallId) (reply : Reply) → slice_get ids k ≡ Some id → Contains history (End id reply) → slice_get (replies_to told id.process) (id.number - 1) ≡ Some reply

    along : {c e : Search.Configuration State} {ids : List CallId} → Search.Leads Effect history c ids e → (t : Telling State Reply) → c.counts ≡ map length t.replies → (last : State) (answers : List Reply) →
        OneAtATime (HasBegun history) Effect t.state ids answers last → RepliesAgree history ids answers → AlongTold t e ids last
    along Search.none t counts last answers Legal.none agree = record { told = t; tells = none; state = refl; counts = counts; replies = λ k id reply at ended. absurd (cc) }
    along (Search.more {c} {d} {e} {id = first} {ids} s l) t counts last answers (Legal.more {between = between} {call = call} {answer = answer} {answers = others} begun does later) (Legal.more same_reply agree) =
        finish (along l next (of_behind Effect scripts t from to is first answer step).counts last others later agree)
      where
        from : Configuration State
        from = record { counts = c.counts; state = t.state }

        to : Configuration State
        to = record { counts = d.counts; state = between }

        is : IsOf t from
        is = record { counts = counts; state = refl }

        step : IsStep Effect scripts from first answer to
        step = step_merged Effect scripts history run c d first s call begun t.state between answer does

        next : Telling State Reply
        next = behind Effect scripts t from to is first answer step

        one : IsTold Effect scripts t first next
        one = told_step Effect scripts t from to is first answer step

        finish : AlongTold next e ids last → AlongTold t e (first ∷ ids) last
        finish r = record {
          told = r.told;
          tells = more one r.tells;
          state = r.state;
          counts = r.counts;
          replies = by;
        }
          where
            by : (k : ℕ) (id : CallId) (reply : Reply) → slice_get (first ∷ ids) k ≡ Some id → Contains history (End id reply) → slice_get (replies_to r.told id.process) (id.number - 1) ≡ Some reply
            by zero id reply at ended =
                let same : first ≡ id = same_Some first id at in
                let answered : answer ≡ reply = sym (same_reply reply (subst (λ (i : CallId). Contains history (End i reply)) (sym same) ended)) in
                subst (λ (i : CallId). slice_get (replies_to r.told i.process) (i.number - 1) ≡ Some reply) same
                (kept r.tells first.process (first.number - 1) answer (told_there t next first one answer refl) ∙ ap Some answered)
            by (suc k) id reply at ended = r.replies k id reply at ended

  module _ (opening : State) where
    abbrev quiet : Telling State Reply
    quiet = silence Effect scripts opening

    pub runs_give : RunsGiveWholes Effect scripts opening
    runs_give history order last run legal =
        let all = all_steps Effect scripts opening history order last run legal in
        let r = along history run all.1 quiet (sym (map_all length (length scripts) [])) last legal.replies legal.made legal.agree in
        record {
          told = r.told;
          gives = record { tells = r.tells; whole = sym r.counts ∙ all.2 };
          ends = r.state;
          replies = λ id reply ended. let p = place_of order id (legal.ended id reply ended) in r.replies p.0 id reply p.1 ended;
        }

    -- the steps of what is told
    leads_of : {t v : Telling State Reply} {ids : List CallId} → Tells Effect scripts t ids v → (c : Configuration State) → IsOf t c → (d : Configuration State) × IsOf v d × Leads Effect scripts c ids d
    leads_of none c is = (c, is, Merges.none)
    leads_of (more {t} {u} {v} {id} {ids} told l) c is =
        let count : get_or c.counts id.process 0 ≡ length (replies_to t id.process) = ap (λ (n : List ℕ). get_or n id.process 0) is.counts ∙ length_row t.replies id.process in
        let d : Configuration State = record { counts = set c.counts id.process id.number; state = u.state } in
        let step : IsStep Effect scripts c id told.reply d = record {
          call = told.call;
          process = let within = told.process in let size = ap length is.counts ∙ length-map t.replies length in omega (arith, within, size);
          listed = ap (slice_get (get_or scripts id.process [])) count ∙ told.listed;
          number = told.number ∙ ap (λ (n : ℕ). n + 1) (sym count);
          effect = subst (λ (x : State). Effect told.call x u.state told.reply) (sym is.state) told.effect;
          counts = refl;
        } in
        let on : IsOf u d = record { counts = (of_behind Effect scripts t c d is id told.reply step).counts ∙ ap (map length) (sym told.replies); state = refl } in
        let r = leads_of l d on in
        (r.0, r.1, Merges.more told.reply step r.2)

    module _ (determined : (call : Call) (before after other : State) (reply answer : Reply) → Effect call before after reply → Effect call before other answer → (after ≡ other) × (reply ≡ answer)) where
      -- a call has one outcome
      one_next : (t u v : Telling State Reply) (id : CallId) → IsTold Effect scripts t id u → IsTold Effect scripts t id v → u ≡ v
      one_next t u v id a b =
          let call : a.call ≡ b.call = same_Some a.call b.call (sym a.listed ∙ b.listed) in
          let both = determined b.call t.state u.state v.state a.reply b.reply (subst (λ (x : Call). Effect x t.state u.state a.reply) call a.effect) b.effect in
          same_telling u v (a.replies ∙ ap (λ (r : Reply). set t.replies id.process (replies_to t id.process ++ r ∷ [])) both.1 ∙ sym b.replies) both.0

      one_end : {t u v : Telling State Reply} {ids : List CallId} → Tells Effect scripts t ids u → Tells Effect scripts t ids v → u ≡ v
      one_end none none = refl
      one_end (more {t} {u = a} {v = u} {id} {ids} told l) (more {u = b} {v = v} other m) =
          one_end l (subst (λ (x : Telling State Reply). Tells Effect scripts x ids v) (sym (one_next t a b id told other)) m)

      pub are_of_runs : WholesAreOfRuns Effect scripts opening
      are_of_runs order t g =
          let first : IsOf quiet (start Effect scripts opening) = record { counts = sym (map_all length (length scripts) []); state = refl } in
          let l = leads_of g.tells (start Effect scripts opening) first in
          let end : l.0 ≡ full Effect scripts t.state = same_configuration (l.1.counts ∙ g.whole) l.1.state in
          let run = are_legal_orders Effect scripts opening order t.state (subst (λ (c : Configuration State). Leads Effect scripts (start Effect scripts opening) order c) end l.2) in
          let given = runs_give run.0 order t.state run.1.run run.1.legal in
          let same : given.told ≡ t = one_end given.gives.tells g.tells in
          (run.0, run.1, subst (λ (x : Telling State Reply). HasReplies run.0 x) same given.replies)
