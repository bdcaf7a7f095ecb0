-- What the next call of a process leads to.
use Rattle.std.proofs.Common.{◌≡◌, refl, sym, ap, ◌∙◌, subst, ℕ, ◌+◌, ◌<◌, List, [], length, get_or, set, Option, Some, None, arith}
use Rattle.std.proofs.lemmas.Option.{same_Some}
use Rattle.std.specs.List.{slice_get}
use Rattle.wf_history.specs.declared.event.CallId.{CallId}
use Rattle.wf_history.proofs.Positions.{same_call}
use Rattle.wf_outcomes.specs.Merges.{Configuration, IsStep}
use Rattle.wf_outcomes.specs.Explored.{HasNoStep, IsOnlyStep, IsOnlyStepWith}
use Rattle.wf_outcomes.specs.Outcomes.{IsOnlyReply}
use Rattle.wf_outcomes.proofs.OutcomesLists.{same_configuration}

-- a process's next call
abbrev pub next_of : {M : Type 0} → Configuration M → ℕ → CallId
next_of c process = record { process = process; number = get_or c.counts process 0 + 1 }

module _ {M Call Reply : Type 0} (Effect : Call → M → M → Reply → Type 0)
    (determined : (call : Call) (before after other : M) (reply answer : Reply) → Effect call before after reply → Effect call before other answer → (after ≡ other) × (reply ≡ answer))
    (scripts : List (List Call)) (c : Configuration M) (process : ℕ) where
  abbrev next_calls : Option Call
  next_calls = slice_get (get_or scripts process []) (get_or c.counts process 0)

  own_calls_is : (id : CallId) (reply : _) (d : Configuration M) → id.process ≡ process → (s : IsStep Effect scripts c id reply d) → next_calls ≡ Some s.call
  own_calls_is id reply d own s = subst (λ (p : ℕ). slice_get (get_or scripts p []) (get_or c.counts p 0) ≡ Some s.call) own s.listed

  next_id : (id : CallId) (reply : _) (d : Configuration M) → id.process ≡ process → IsStep Effect scripts c id reply d → id ≡ next_of c process
  next_id id reply d own s =
      let number = s.number in
      let same : get_or c.counts id.process 0 ≡ get_or c.counts process 0 = ap (λ (q : ℕ). get_or c.counts q 0) own in
      same_call id (next_of c process) own (omega (arith, number, same))

  pub no_step : next_calls ≡ None → HasNoStep Effect scripts c process
  no_step none id reply d own s = let e = own_calls_is id reply d own s in absurd (cc)

  module _ (call : Call) (at : next_calls ≡ Some call) (within : process < length c.counts) where
    pub the_call : (id : CallId) (reply : _) (d : Configuration M) → id.process ≡ process → IsStep Effect scripts c id reply d → Effect call c.state d.state reply
    the_call id reply d own s = subst (λ (x : Call). Effect x c.state d.state reply) (same_Some s.call call (sym (own_calls_is id reply d own s) ∙ at)) s.effect

    pub the_step : (after : M) (reply : Reply) (counts : List ℕ) → counts ≡ set c.counts process (get_or c.counts process 0 + 1) → Effect call c.state after reply →
        IsStep Effect scripts c (next_of c process) reply (record { counts = counts; state = after })
    the_step after reply counts is effect = record { call = call; process = within; listed = at; number = refl; effect = effect; counts = is }

    pub only_step : (after : M) (reply : Reply) (counts : List ℕ) → counts ≡ set c.counts process (get_or c.counts process 0 + 1) → Effect call c.state after reply →
        IsOnlyStep Effect scripts c process (record { counts = counts; state = after })
    only_step after reply counts is effect = record {
      id = next_of c process;
      reply = reply;
      own = refl;
      step = the_step after reply counts is effect;
      only = λ other r e own s.
          let same = next_id other r e own s in
          let both = determined call c.state e.state after r reply (the_call other r e own s) effect in
          same_configuration (s.counts ∙ ap (λ (i : CallId). set c.counts i.process i.number) same ∙ sym is) both.0;
    }

    pub only_step_with : (after : M) (reply : Reply) (counts : List ℕ) → counts ≡ set c.counts process (get_or c.counts process 0 + 1) → Effect call c.state after reply →
        IsOnlyStepWith Effect scripts c process reply (record { counts = counts; state = after })
    unfolding only_step
    only_step_with after reply counts is effect = (only_step after reply counts is effect, refl)

    pub only_reply : (id : CallId) → id.process ≡ process → id.number ≡ get_or c.counts process 0 + 1 → (after : M) (reply : Reply) → Effect call c.state after reply → IsOnlyReply Effect scripts c id reply
    only_reply id own number after reply effect =
        let d : Configuration M = record { counts = set c.counts process (get_or c.counts process 0 + 1); state = after } in (
          (d, subst (λ (i : CallId). IsStep Effect scripts c i reply d) (sym (same_call id (next_of c process) own number)) (the_step after reply d.counts refl effect)),
          λ other e s. let both = determined call c.state e.state after other reply (the_call id other e own s) effect in both.1,
        )
