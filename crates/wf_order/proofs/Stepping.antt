-- Which call of a process is next, and what it leads to, as the rows show it.
use Rattle.std.proofs.Common.{◌≡◌, refl, sym, ap, ◌∙◌, subst, ℕ, ◌+◌, ◌-◌, ◌<◌, ◌≤◌, List, length, get_or, set, Option, option_map, Some, None, arith}
use Rattle.std.proofs.lemmas.Option.{same_Some}
use Rattle.std.specs.List.{slice_get, Contains}
use Rattle.std.specs.Prelude.{IfSome, MatchOption}
use Rattle.ob_interface.specs.Call.{ObjectCall, Reply}
use Rattle.wf_history.specs.declared.event.CallId.{CallId}
use Rattle.wf_history.specs.History.{Event, Begin, End, Before}
use Rattle.wf_history.specs.Legal.{HasBegun}
use Rattle.wf_history.specs.View.{seen_call, seen_reply}
use Rattle.wf_history.proofs.Positions.{same_call, contains_at}
use Rattle.wf_history.proofs.Once.{one_call, one_reply}
use Rattle.wf_order.specs.declared.rows.Begun.{Begun}
use Rattle.wf_order.specs.declared.rows.Ended.{Ended}
use Rattle.wf_order.specs.declared.kept_rows.Rows.{Rows}
use Rattle.wf_order.specs.Rows.{row_of, begun_rows, ended_rows, call_at, AreRows}
use Rattle.wf_order.specs.Steps.{Configuration, IsLimit, IsStep, one_more}
use Rattle.wf_order.specs.Rules.{IsOutcome, IsReading}
use Rattle.wf_order.specs.Search.{HasNoStep, IsNextStep, IsOnlyStep, IsSilentStep}
use Rattle.wf_order.proofs.Limits.{limit_earlier, limit_later}
use Rattle.wf_order.proofs.Lists.{same_configuration}

module _ {M : Type 0} (Effect : ObjectCall → M → M → Reply → Type 0)
    (determined : (call : ObjectCall) (before after other : M) (reply answer : Reply) → Effect call before after reply → Effect call before other answer → (after ≡ other) × (reply ≡ answer))
    (history : List (Event ObjectCall Reply)) (rows : Rows) (c : Configuration M) (are : AreRows history (length c.counts) rows) (limit : ℕ) (bound : IsLimit history c.counts limit) (process : ℕ) where
  pub none_past : length c.counts ≤ process → HasNoStep Effect history c process
  none_past le id d own s = let lt = s.process in omega (arith, lt)

  module _ (k : ℕ) (is : k ≡ get_or c.counts process 0) where
    pub next_id : (id : CallId) (d : Configuration M) → id.process ≡ process → IsStep Effect history c id d → id ≡ call_at process k
    next_id id d own s =
        let number = s.number in
        let same : get_or c.counts id.process 0 ≡ get_or c.counts process 0 = ap (λ (q : ℕ). get_or c.counts q 0) own in
        same_call id (call_at process k) own (omega (arith, number, same))

    pub none_begun : slice_get (row_of (begun_rows rows) process) k ≡ None → HasNoStep Effect history c process
    none_begun past id d own s =
        let same = next_id id d own s in
        let r = are.every_begun (call_at process k) s.call (subst (λ (i : CallId). HasBegun history i s.call) same s.begun) in
        let place : (k + 1) - 1 ≡ k = omega arith in
        let at : slice_get (row_of (begun_rows rows) process) k ≡ Some r.2 = ap (slice_get (row_of (begun_rows rows) process)) (sym place) ∙ r.3 in
        let e = sym past ∙ at in absurd (cc)

    module _ (b : Begun) (at : slice_get (row_of (begun_rows rows) process) k ≡ Some b) where
      has_begun_here : HasBegun history (call_at process k) (seen_call b.call)
      has_begun_here = contains_at history b.place (Begin (call_at process k) (seen_call b.call)) (are.begun process k b at)

      pub none_before : limit ≤ b.place → HasNoStep Effect history c process
      none_before le id d own s =
          let same = next_id id d own s in
          limit_later history c.counts limit bound are.whole (call_at process k) (seen_call b.call) b.place (are.begun process k b at) le
          (λ a bef. s.earlier a (subst (λ (i : CallId). Before history a i) (sym same) bef))

      pub own_call_is : (id : CallId) (d : Configuration M) → id.process ≡ process → (s : IsStep Effect history c id d) → s.call ≡ seen_call b.call
      own_call_is id d own s =
          one_call history are.whole (call_at process k) s.call (seen_call b.call) (subst (λ (i : CallId). HasBegun history i s.call) (next_id id d own s) s.begun) has_begun_here

      pub own_effect : (id : CallId) (d : Configuration M) → id.process ≡ process → (s : IsStep Effect history c id d) → Effect (seen_call b.call) c.state d.state s.reply
      own_effect id d own s = subst (λ (x : ObjectCall). Effect x c.state d.state s.reply) (own_call_is id d own s) s.effect

      -- the reply that is known
      abbrev pub known_reply : Option Reply
      known_reply = option_map seen_reply (option_map (λ e. e.reply) (slice_get (row_of (ended_rows rows) process) k))

      pub known_ended : (o : Option Ended) → slice_get (row_of (ended_rows rows) process) k ≡ o → (r : Reply) → option_map seen_reply (option_map (λ e. e.reply) o) ≡ Some r → Contains history (End (call_at process k) r)
      known_ended None e r h = absurd (cc)
      known_ended (Some x) e r h = subst (λ (y : Reply). Contains history (End (call_at process k) y)) (same_Some (seen_reply x.reply) r h) (ended_here x e)
        where
          ended_here : (x : Ended) → slice_get (row_of (ended_rows rows) process) k ≡ Some x → Contains history (End (call_at process k) (seen_reply x.reply))
          ended_here x e = contains_at history x.place (End (call_at process k) (seen_reply x.reply)) (are.ended process k x e)

      pub ended_known : (r : Reply) → Contains history (End (call_at process k) r) → known_reply ≡ Some r
      ended_known r h =
          let e = are.every_ended (call_at process k) r h in
          let place : (k + 1) - 1 ≡ k = omega arith in
          let there : slice_get (row_of (ended_rows rows) process) k ≡ Some e.2 = ap (slice_get (row_of (ended_rows rows) process)) (sym place) ∙ e.3 in
          let here = contains_at history e.2.place (End (call_at process k) (seen_reply e.2.reply)) (are.ended process k e.2 there) in
          ap (λ (o : Option Ended). option_map seen_reply (option_map (λ (x : Ended). x.reply) o)) there ∙ ap Some (one_reply history are.whole (call_at process k) (seen_reply e.2.reply) r here h)

      pub none_agrees : IsOutcome (Effect (seen_call b.call)) c.state known_reply None → HasNoStep Effect history c process
      none_agrees o id d own s =
          let same = next_id id d own s in
          let both = determined (seen_call b.call) c.state o.0 d.state o.1 s.reply o.2 (own_effect id d own s) in
          let ended = known_ended (slice_get (row_of (ended_rows rows) process) k) refl o.3 o.4 in
          let agrees = s.agrees o.3 (subst (λ (i : CallId). Contains history (End i o.3)) (sym same) ended) in
          o.5 (agrees ∙ sym both.1)

      pub if_known : (o : Option Reply) (reply r : Reply) → IfSome o (λ r. r ≡ reply) → o ≡ Some r → r ≡ reply
      if_known None reply r h e = absurd (cc)
      if_known (Some x) reply r h e = sym (same_Some x r e) ∙ h

      pub only_step : (after : M) (counts : List ℕ) → process < length c.counts → b.place < limit →
          counts ≡ set c.counts process (k + 1) → IsOutcome (Effect (seen_call b.call)) c.state known_reply (Some after) →
          IsOnlyStep Effect history c process (call_at process k) (record { counts = counts; state = after })
      only_step after counts within inside set_is o = record {
        own = refl;
        step = record {
          call = seen_call b.call;
          begun = has_begun_here;
          process = within;
          number = ap (λ (n : ℕ). n + 1) is;
          earlier = limit_earlier history c.counts limit bound are.whole (call_at process k) (seen_call b.call) b.place (are.begun process k b at) inside;
          reply = o.0;
          effect = o.1;
          agrees = λ other ended. if_known known_reply o.0 other o.2 (ended_known other ended);
          counts = set_is;
        };
        only = λ other e own s.
            let same = next_id other e own s in
            let both = determined (seen_call b.call) c.state e.state after s.reply o.0 (own_effect other e own s) o.1 in
            same_configuration (s.counts ∙ ap (λ (i : CallId). set c.counts i.process i.number) same ∙ sym set_is) both.0;
      }

      -- the next call has ended and is silent
      pub silent_from : (e : Ended) → slice_get (row_of (ended_rows rows) process) k ≡ Some e → ((before after : M) → Effect (seen_call b.call) before after (seen_reply e.reply) → before ≡ after) →
          (id : CallId) (d : Configuration M) → IsOnlyStep Effect history c process id d → IsSilentStep Effect history c id d
      silent_from e there leaves id d only =
          let same = next_id id d only.own only.step in
          let here = contains_at history e.place (End (call_at process k) (seen_reply e.reply)) (are.ended process k e there) in
          let ended : Contains history (End id (seen_reply e.reply)) = subst (λ (i : CallId). Contains history (End i (seen_reply e.reply))) (sym same) here in (
            only.step,
            record {
              reply = seen_reply e.reply;
              ended = ended;
              leaves = λ call before after begun effect.
                  let is_call : call ≡ seen_call b.call = one_call history are.whole (call_at process k) call (seen_call b.call) (subst (λ (i : CallId). HasBegun history i call) same begun) has_begun_here in
                  leaves before after (subst (λ (x : ObjectCall). Effect x before after (seen_reply e.reply)) is_call effect);
            },
          )

      -- one of two outcomes, without the first
      -- a silent call is taken
      pub silent_taken : (e : Ended) → slice_get (row_of (ended_rows rows) process) k ≡ Some e → ((before after : M) → Effect (seen_call b.call) before after (seen_reply e.reply) → before ≡ after) →
          process < length c.counts → b.place < limit → (after : M) (reply : Reply) → Effect (seen_call b.call) c.state after reply → reply ≡ seen_reply e.reply →
          IsSilentStep Effect history c (call_at process k) (record { counts = set c.counts process (k + 1); state = after })
      silent_taken e there leaves within inside after reply effect same =
          let known = subst (λ (o : Option Ended). IfSome (option_map seen_reply (option_map (λ x. x.reply) o)) (λ r. r ≡ reply)) (sym there) (sym same) in
          silent_from e there leaves (call_at process k) (record { counts = set c.counts process (k + 1); state = after })
          (only_step after (set c.counts process (k + 1)) within inside refl (reply, effect, known))

      -- a call that only reads is taken
      pub reading_taken : (e : Ended) → slice_get (row_of (ended_rows rows) process) k ≡ Some e → ((before after : M) (reply : Reply) → Effect (seen_call b.call) before after reply → before ≡ after) →
          process < length c.counts → b.place < limit → (after : M) → Effect (seen_call b.call) c.state after (seen_reply e.reply) →
          IsStep Effect history c (call_at process k) (record { counts = set c.counts process (k + 1); state = c.state }) × IsReading Effect history (call_at process k)
      reading_taken e there leaves within inside after effect =
          let known = subst (λ (o : Option Ended). IfSome (option_map seen_reply (option_map (λ x. x.reply) o)) (λ r. r ≡ seen_reply e.reply)) (sym there) refl in
          let kept : Effect (seen_call b.call) c.state c.state (seen_reply e.reply) =
          subst (λ (s : M). Effect (seen_call b.call) c.state s (seen_reply e.reply)) (sym (leaves c.state after (seen_reply e.reply) effect)) effect in
          let only = only_step c.state (set c.counts process (k + 1)) within inside refl (seen_reply e.reply, kept, known) in (
            only.step,
            λ call before other reply begun made.
                let is_call : call ≡ seen_call b.call = one_call history are.whole (call_at process k) call (seen_call b.call) begun has_begun_here in
                leaves before other reply (subst (λ (x : ObjectCall). Effect x before other reply) is_call made),
          )

-- where the next call leads to, as it is told
module _ {M : Type 0} (Effect : ObjectCall → M → M → Reply → Type 0) (history : List (Event ObjectCall Reply)) (c : Configuration M) (process k : ℕ) (after : M) (id : CallId) (d : Configuration M)
    (is : k ≡ get_or c.counts process 0) (id_is : id ≡ call_at process (get_or c.counts process 0)) (found_is : d ≡ one_more c.counts process after) where
  same_id : call_at process k ≡ id
  same_id = ap (call_at process) is ∙ sym id_is

  same_to : ◌≡◌ {A = Configuration M} (record { counts = set c.counts process (k + 1); state = after }) d
  same_to = ap (λ (n : ℕ). record { counts = set c.counts process (n + 1); state = after }) is ∙ sym found_is

  pub only_as : IsOnlyStep Effect history c process (call_at process k) (record { counts = set c.counts process (k + 1); state = after }) → IsOnlyStep Effect history c process id d
  only_as h = subst (λ (i : CallId). IsOnlyStep Effect history c process i d) same_id (subst (λ (x : Configuration M). IsOnlyStep Effect history c process (call_at process k) x) same_to h)

module _ {M : Type 0} (Effect : ObjectCall → M → M → Reply → Type 0)
    (determined : (call : ObjectCall) (before after other : M) (reply answer : Reply) → Effect call before after reply → Effect call before other answer → (after ≡ other) × (reply ≡ answer))
    (history : List (Event ObjectCall Reply)) (rows : Rows) (c : Configuration M) (are : AreRows history (length c.counts) rows) (limit : ℕ) (bound : IsLimit history c.counts limit)
    (process k : ℕ) (is : k ≡ get_or c.counts process 0) (b : Begun) (at : slice_get (row_of (begun_rows rows) process) k ≡ Some b) where
  -- the call that is next, by what it makes of the state
  pub stepped : {S : Type 0} (meaning : S → M) (o : Option S) → process < length c.counts → b.place < limit →
      IsOutcome (Effect (seen_call b.call)) c.state (known_reply Effect determined history rows c are limit bound process k is b at) (option_map meaning o) →
      MatchOption o (HasNoStep Effect history c process) (λ s. IsNextStep Effect history c process (meaning s))
  stepped meaning None within inside h = none_agrees Effect determined history rows c are limit bound process k is b at h
  stepped meaning (Some s) within inside h =
      only_as Effect history c process k (meaning s) (call_at process (get_or c.counts process 0)) (one_more c.counts process (meaning s)) is refl refl
      (only_step Effect determined history rows c are limit bound process k is b at (meaning s) (set c.counts process (k + 1)) within inside refl h)

pub some_at : {V : Type 0} (R : V → Type 0) (o : Option V) (v : V) → o ≡ Some v → IfSome o R → R v
some_at R None v e h = absurd (cc)
some_at R (Some x) v e h = subst R (same_Some x v e) h
