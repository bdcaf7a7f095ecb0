-- What is told along the calls that lead to a configuration.
use Rattle.std.proofs.Common.{◌≡◌, refl, sym, ap, ◌∙◌, subst, ℕ, ◌+◌, List, [], ◌∷◌, ◌++◌, length, get_or, set, map, Some, arith}
use Rattle.std.proofs.lemmas.List.{length-append, length-map}
use Rattle.std.specs.List.{slice_get}
use Rattle.wf_history.specs.declared.event.CallId.{CallId}
use Rattle.wf_outcomes.specs.Explored.{HasMore}
use Rattle.wf_outcomes.specs.Merges as Merges
use Rattle.wf_outcomes.specs.Merges.{Configuration, IsStep, Leads, start}
use Rattle.wf_outcomes.proofs.OutcomesLists.{same_configuration}
use Rattle.wf_whole_outcomes.specs.Tellings.{HasMoreTold, IsTold, Telling, Tells, none, more, replies_to, silence}
use Rattle.wf_whole_outcomes.proofs.Ending.{of_each}
use Rattle.wf_whole_outcomes.proofs.Numbering.{length_row, map_all, map_set}

-- the configuration has the telling's counts and state
pub record IsOf {State Reply : Type 0} (t : Telling State Reply) (c : Configuration State) : Type 0 where
  pub counts : c.counts ≡ map length t.replies
  pub state : c.state ≡ t.state

module _ {State Call Reply : Type 0} (Effect : Call → State → State → Reply → Type 0) (scripts : List (List Call)) where
  module _ (t : Telling State Reply) (c d : Configuration State) (is : IsOf t c) (id : CallId) (reply : Reply) (s : IsStep Effect scripts c id reply d) where
    -- what is told behind the step
    abbrev pub behind : Telling State Reply
    behind = record { replies = set t.replies id.process (replies_to t id.process ++ reply ∷ []); state = d.state }

    count_is : get_or c.counts id.process 0 ≡ length (replies_to t id.process)
    count_is = ap (λ (l : List ℕ). get_or l id.process 0) is.counts ∙ length_row t.replies id.process

    pub told_step : IsTold Effect scripts t id behind
    told_step = record {
      call = s.call;
      reply = reply;
      process = let within = s.process in let size = ap length is.counts ∙ length-map t.replies length in omega (arith, within, size);
      listed = ap (slice_get (get_or scripts id.process [])) (sym count_is) ∙ s.listed;
      number = s.number ∙ ap (λ (n : ℕ). n + 1) count_is;
      effect = subst (λ (x : State). Effect s.call x d.state reply) is.state s.effect;
      replies = refl;
    }

    pub of_behind : IsOf behind d
    of_behind = record {
      counts =
          s.counts ∙ ap (λ (l : List ℕ). set l id.process id.number) is.counts
          ∙ ap (set (map length t.replies) id.process) (s.number ∙ ap (λ (n : ℕ). n + 1) count_is ∙ sym (length-append (replies_to t id.process) (reply ∷ [])))
          ∙ sym (map_set length t.replies id.process (replies_to t id.process ++ reply ∷ []));
      state = refl;
    }

  pub told_along : {c d : Configuration State} {ids : List CallId} → Leads Effect scripts c ids d → (t : Telling State Reply) → IsOf t c → (u : Telling State Reply) × IsOf u d × Tells Effect scripts t ids u
  told_along Merges.none t is = (t, is, none)
  told_along (Merges.more {c} {d} {e} {id} {ids} reply s l) t is =
      let r = told_along l (behind t c d is id reply s) (of_behind t c d is id reply s) in
      (r.0, r.1, more (told_step t c d is id reply s) r.2)

  -- more configurations than so many are more tellings
  pub more_told_by : (opening : State) (most : ℕ) → HasMore Effect scripts opening most → HasMoreTold Effect scripts opening most
  more_told_by opening most h =
      let list = of_each (λ (c : Configuration State) (v : Telling State Reply). IsOf v c × ((ids : List CallId) × Tells Effect scripts (silence Effect scripts opening) ids v)) h.some
      (λ k c at.
      let r = h.reached k c at in
      let along = told_along r.1 (silence Effect scripts opening) (record { counts = sym (map_all length (length scripts) []); state = refl }) in
      (along.0, (along.1, (r.0, along.2)))) in
      record {
        some = list.0;
        many = let size = list.1 in let many = h.many in omega (arith, size, many);
        told = λ k v at. (list.2 k v at).2.1;
        once = λ j k v at also.
            let one = list.2 j v at in
            let two = list.2 k v also in
            let same : two.0 ≡ one.0 = same_configuration (two.2.0.counts ∙ sym one.2.0.counts) (two.2.0.state ∙ sym one.2.0.state) in
            h.once j k one.0 one.1 (two.1 ∙ ap Some same);
      }
