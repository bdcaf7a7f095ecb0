-- Open calls that need not be tried: what may come behind them comes without them too.
use Rattle.std.proofs.Common.{◌≡◌, refl, sym, ap, ◌∙◌, subst, ℕ, ◌+◌, ◌-◌, ◌<◌, ◌≤◌, List, length, get_or, set, Option, Some, None, arith, inl, inr}
use Rattle.std.proofs.lemmas.Option.{same_Some}
use Rattle.std.specs.List.{slice_get, Contains}
use Rattle.std.specs.Prelude.{IfSome}
use Rattle.ob_interface.specs.Call.{ObjectCall, Reply}
use Rattle.wf_history.specs.declared.event.CallId.{CallId}
use Rattle.wf_history.specs.History.{Event, Begin, Before, End}
use Rattle.wf_history.specs.Legal.{HasBegun}
use Rattle.wf_history.specs.View.{seen_call}
use Rattle.wf_history.proofs.Once.{one_call}
use Rattle.wf_history.proofs.Positions.{same_call, contains_at}
use Rattle.wf_order.specs.declared.rows.Begun.{Begun}
use Rattle.wf_order.specs.declared.kept_rows.Rows.{Rows}
use Rattle.wf_order.specs.Rows.{AreRows, begun_rows, call_at, ended_rows, row_of}
use Rattle.wf_order.specs.Rules.{AreIdle, IsAlike, IsOpen, IsOutcome, IsSameOutcome}
use Rattle.wf_order.specs.Search.{IsNextStep}
use Rattle.wf_order.specs.Steps.{Configuration, IsLimit, IsStep}
use Rattle.wf_order.proofs.Exchange.{IsNext, not_own, own_earlier, own_number, own_within, step_without}
use Rattle.wf_order.proofs.Limits.{limit_later}
use Rattle.wf_order.proofs.Replacing.{open_in}
use Rattle.wf_order.proofs.Stepping.{ended_known, known_ended, known_reply, next_id, own_effect}

-- a known reply is this one
if_known : {R : Type 0} (known : Option R) (reply r : R) → IfSome known (λ x. x ≡ reply) → known ≡ Some r → r ≡ reply
if_known None reply r h e = absurd (cc)
if_known (Some x) reply r h e = sym (same_Some x r e) ∙ h

if_some_all : {R : Type 0} (P : R → Type 0) (known : Option R) → ((r : R) → known ≡ Some r → P r) → IfSome known P
if_some_all P None f = tt
if_some_all P (Some x) f = f x refl

module _ {State Reply : Type 0} (Effect : State → State → Reply → Type 0) (determined : (before after other : State) (reply answer : Reply) → Effect before after reply → Effect before other answer → (after ≡ other) × (reply ≡ answer))
    (before behind : State) (known : Option Reply) where
  pub same_none : IsOutcome Effect behind known None → IsSameOutcome Effect before behind known
  same_none o after reply effect fits =
      let both = determined behind o.0 after o.1 reply o.2 effect in
      absurd (o.5 (if_known known reply o.3 fits o.4 ∙ sym both.1))

  pub same_some : (there here : State) → IsOutcome Effect behind known (Some there) → IsOutcome Effect before known (Some here) → here ≡ there → IsSameOutcome Effect before behind known
  same_some there here o p same after reply effect fits =
      let both = determined behind there after o.0 reply o.1 effect in
      (p.0, subst (λ (x : State). Effect before x p.0) (same ∙ both.0) p.1, p.2)

module _ {M : Type 0} (Effect : ObjectCall → M → M → Reply → Type 0)
    (determined : (call : ObjectCall) (before after other : M) (reply answer : Reply) → Effect call before after reply → Effect call before other answer → (after ≡ other) × (reply ≡ answer))
    (history : List (Event ObjectCall Reply)) (rows : Rows) (c : Configuration M) (are : AreRows history (length c.counts) rows) (limit : ℕ) (bound : IsLimit history c.counts limit) where
  -- a call is next
  turn : (id : CallId) (d : Configuration M) → IsStep Effect history c id d → IsNext Effect history c.counts id
  turn id d s = record { process = s.process; number = s.number }

  module _ (by : ℕ) (behind : M) (process : ℕ) where
    pub alike_own : process ≡ by → IsAlike Effect history c by behind process
    alike_own same id d own opened s state next e other t = absurd (not_own Effect history are.whole id opened c d e next (turn id d s) s.counts t (own ∙ sym same ∙ sym other))

    module _ (k : ℕ) (is : k ≡ get_or c.counts process 0) where
      -- which call is next behind it
      same_next : (id : CallId) (d : Configuration M) → IsOpen history id → (s : IsStep Effect history c id d) → (next : CallId) (e : Configuration M) → next.process ≡ process → IsStep Effect history d next e → next ≡ call_at process k
      same_next id d opened s next e other t =
          let number = own_number Effect history are.whole id opened c d e next (turn id d s) s.counts t in
          let same : get_or c.counts next.process 0 ≡ get_or c.counts process 0 = ap (λ (q : ℕ). get_or c.counts q 0) other in
          same_call next (call_at process k) other (omega (arith, number, same, is))

      pub alike_none : slice_get (row_of (begun_rows rows) process) k ≡ None → IsAlike Effect history c by behind process
      alike_none past id d own opened s state next e other t =
          let same = same_next id d opened s next e other t in
          let r = are.every_begun (call_at process k) t.call (subst (λ (i : CallId). HasBegun history i t.call) same t.begun) in
          let place : (k + 1) - 1 ≡ k = omega arith in
          let at : slice_get (row_of (begun_rows rows) process) k ≡ Some r.2 = ap (slice_get (row_of (begun_rows rows) process)) (sym place) ∙ r.3 in
          let e = sym past ∙ at in absurd (cc)

      module _ (b : Begun) (at : slice_get (row_of (begun_rows rows) process) k ≡ Some b) where
        pub alike_late : limit ≤ b.place → IsAlike Effect history c by behind process
        alike_late late id d own opened s state next e other t =
            let same = same_next id d opened s next e other t in
            absurd (limit_later history c.counts limit bound are.whole (call_at process k) (seen_call b.call) b.place (are.begun process k b at) late
            (λ a bef. own_earlier Effect history are.whole id opened c d e next (turn id d s) s.counts t a (subst (λ (i : CallId). Before history a i) (sym same) bef)))

        same_made : (id : CallId) (d : Configuration M) → IsOpen history id → (s : IsStep Effect history c id d) → (next : CallId) (e : Configuration M) → next.process ≡ process → (t : IsStep Effect history d next e) → t.call ≡ seen_call b.call
        same_made id d opened s next e other t =
            one_call history are.whole (call_at process k) t.call (seen_call b.call) (subst (λ (i : CallId). HasBegun history i t.call) (same_next id d opened s next e other t) t.begun)
            (contains_at history b.place (Begin (call_at process k) (seen_call b.call)) (are.begun process k b at))

        pub alike_reader : slice_get (row_of (ended_rows rows) process) k ≡ None → ((before after : M) (reply : Reply) → Effect (seen_call b.call) before after reply → before ≡ after) → IsAlike Effect history c by behind process
        alike_reader none leaves id d own opened s state next e other t = inl (
          subst (λ (i : CallId). IsOpen history i) (sym (same_next id d opened s next e other t)) (open_in history (length c.counts) rows are process k none),
          sym (leaves d.state e.state t.reply (subst (λ (x : ObjectCall). Effect x d.state e.state t.reply) (same_made id d opened s next e other t) t.effect)),
        )

        pub alike_outcome : IsSameOutcome (Effect (seen_call b.call)) c.state behind (known_reply Effect determined history rows c are limit bound process k is b at) → IsAlike Effect history c by behind process
        alike_outcome outcome id d own opened s state next e other t =
            let same = same_next id d opened s next e other t in
            let call = same_made id d opened s next e other t in
            let known = known_reply Effect determined history rows c are limit bound process k is b at in
            let fits : IfSome known (λ r. r ≡ t.reply) =
            if_some_all (λ r. r ≡ t.reply) known (λ r is_known. t.agrees r (subst (λ (i : CallId). Contains history (End i r)) (sym same)
            (known_ended Effect determined history rows c are limit bound process k is b at (slice_get (row_of (ended_rows rows) process) k) refl r is_known))) in
            let made = outcome e.state t.reply (subst (λ (x : M). Effect (seen_call b.call) x e.state t.reply) state (subst (λ (x : ObjectCall). Effect x d.state e.state t.reply) call t.effect)) fits in
            inr (
              record { counts = set c.counts next.process next.number; state = e.state },
              step_without Effect history are.whole id opened c d e next (turn id d s) s.counts t e.state made.0 (subst (λ (x : ObjectCall). Effect x c.state e.state made.0) (sym call) made.1)
                  (λ r ended. if_known known made.0 r made.2 (ended_known Effect determined history rows c are limit bound process k is b at r (subst (λ (i : CallId). Contains history (End i r)) same ended))),
              refl,
            )

  module _ (by k : ℕ) (is : k ≡ get_or c.counts by 0) (none : slice_get (row_of (ended_rows rows) by) k ≡ None) where
    is_open : (id : CallId) (d : Configuration M) → id.process ≡ by → IsStep Effect history c id d → IsOpen history id
    is_open id d own s = subst (λ (i : CallId). IsOpen history i) (sym (next_id Effect determined history rows c are limit bound by k is id d own s)) (open_in history (length c.counts) rows are by k none)

    -- the next call never ends, and leaves each state as it is
    pub idle_from : (b : Begun) → slice_get (row_of (begun_rows rows) by) k ≡ Some b → ((before after : M) (reply : Reply) → Effect (seen_call b.call) before after reply → before ≡ after) → AreIdle Effect history c by
    idle_from b at leaves id d own s =
        let opened = is_open id d own s in
        let same = leaves c.state d.state s.reply (own_effect Effect determined history rows c are limit bound by k is b at id d own s) in
        record {
          opened = opened;
          without = λ next e t. inr (
            record { counts = set c.counts next.process next.number; state = e.state },
            step_without Effect history are.whole id opened c d e next (turn id d s) s.counts t e.state t.reply (subst (λ (x : M). Effect t.call x e.state t.reply) (sym same) t.effect) t.agrees,
            refl,
          );
        }

    -- or what may come behind it comes without it
    pub left_out : (behind : M) → IsNextStep Effect history c by behind → ((process : ℕ) → process < length c.counts → IsAlike Effect history c by behind process) → AreIdle Effect history c by
    left_out behind only all id d own s =
        let opened = is_open id d own s in
        let same : d.state ≡ behind = ap (λ (x : Configuration M). x.state) (only.only id d own s) in
        record {
          opened = opened;
          without = λ next e t. all next.process (own_within Effect history are.whole id opened c d e next (turn id d s) s.counts t) id d own opened s same next e refl t;
        }
