-- That a call need not be tried, by the rows.
use Rattle.std.proofs.Common.{◌≡◌, refl, sym, ap, ◌∙◌, subst, ℕ, ◌+◌, ◌-◌, ◌<◌, List, length, get_or, set, Some, None, arith}
use Rattle.std.specs.List.{slice_get, Contains}
use Rattle.ob_interface.specs.Call.{ObjectCall, Reply}
use Rattle.wf_history.specs.declared.event.CallId.{CallId}
use Rattle.wf_history.specs.History.{Event, Begin, End, IsHistory}
use Rattle.wf_history.specs.Legal.{HasBegun}
use Rattle.wf_history.specs.View.{seen_call, seen_reply}
use Rattle.wf_history.proofs.Once.{one_call, one_reply, one_end}
use Rattle.wf_history.proofs.Positions.{contains_at, same_call}
use Rattle.wf_order.specs.declared.rows.Begun.{Begun}
use Rattle.wf_order.specs.declared.rows.Ended.{Ended}
use Rattle.wf_order.specs.declared.kept_rows.Rows.{Rows}
use Rattle.wf_order.specs.Rows.{row_of, begun_rows, ended_rows, call_at, AreRows}
use Rattle.wf_order.specs.Rules.{ComesFirst, ends, open_ones, IsOpen, AreAlike, AreSameReplies, HasSooner, IsBehind, AreBehind}
use Rattle.wf_order.specs.Search.{IsOnlyStep}
use Rattle.wf_order.specs.Steps.{Configuration, IsLimit, IsStep}
use Rattle.wf_order.proofs.Limits.{limit_earlier}

module _ (history : List (Event ObjectCall Reply)) (processes : ℕ) (rows : Rows) (are : AreRows history processes rows) where
  pub ended_in : (p k : ℕ) (e : Ended) → slice_get (row_of (ended_rows rows) p) k ≡ Some e → Contains history (End (call_at p k) (seen_reply e.reply))
  ended_in p k e at = contains_at history e.place (End (call_at p k) (seen_reply e.reply)) (are.ended p k e at)

  -- what has no reply in the rows is open
  pub open_in : (p k : ℕ) → slice_get (row_of (ended_rows rows) p) k ≡ None → IsOpen history (call_at p k)
  open_in p k none reply ended =
      let x = are.every_ended (call_at p k) reply ended in
      let place : (k + 1) - 1 ≡ k = omega arith in
      let there : slice_get (row_of (ended_rows rows) p) k ≡ Some x.2 = ap (slice_get (row_of (ended_rows rows) p)) (sym place) ∙ x.3 in
      let e = sym none ∙ there in absurd (cc)

  ends_at : (a b : CallId) (e : Ended) → slice_get history e.place ≡ Some (End a (seen_reply e.reply)) →
      ((other : ℕ) (r : Reply) → slice_get history other ≡ Some (End b r) → e.place < other) → ComesFirst history a b
  ends_at a b e at later = ends (record { place = e.place; reply = seen_reply e.reply; at = at; later = later })

  pub first_of_two : (p k q m : ℕ) (e f : Ended) → slice_get (row_of (ended_rows rows) p) k ≡ Some e → slice_get (row_of (ended_rows rows) q) m ≡ Some f → e.place < f.place → ComesFirst history (call_at p k) (call_at q m)
  first_of_two p k q m e f at_e at_f lt =
      ends_at (call_at p k) (call_at q m) e (are.ended p k e at_e)
      (λ other r at. let same = one_end history are.whole (call_at q m) other f.place r (seen_reply f.reply) at (are.ended q m f at_f) in omega (arith, same, lt))

  pub first_of_one : (p k q m : ℕ) (e : Ended) → slice_get (row_of (ended_rows rows) p) k ≡ Some e → slice_get (row_of (ended_rows rows) q) m ≡ None → ComesFirst history (call_at p k) (call_at q m)
  first_of_one p k q m e at_e none =
      ends_at (call_at p k) (call_at q m) e (are.ended p k e at_e)
      (λ other r at. absurd (open_in q m none r (contains_at history other (End (call_at q m) r) at)))

  pub first_of_open : (p k q m : ℕ) → slice_get (row_of (ended_rows rows) p) k ≡ None → slice_get (row_of (ended_rows rows) q) m ≡ None → p < q → ComesFirst history (call_at p k) (call_at q m)
  first_of_open p k q m none also lt = open_ones (open_in p k none) (open_in q m also) lt

  pub same_replies_are : (p k q m : ℕ) (e f : Ended) → slice_get (row_of (ended_rows rows) p) k ≡ Some e → slice_get (row_of (ended_rows rows) q) m ≡ Some f → seen_reply e.reply ≡ seen_reply f.reply → AreSameReplies history (call_at p k) (call_at q m)
  same_replies_are p k q m e f at_e at_f same = record {
    reply = seen_reply e.reply;
    first = ended_in p k e at_e;
    other = subst (λ (x : Reply). Contains history (End (call_at q m) x)) (sym same) (ended_in q m f at_f);
  }

  pub sooner_is : (counts : List ℕ) (limit p k q m : ℕ) (b : Begun) → IsLimit history counts limit → slice_get (row_of (begun_rows rows) p) k ≡ Some b → b.place < limit →
      AreSameReplies history (call_at p k) (call_at q m) → AreAlike history (call_at p k) (call_at q m) → p < length counts → k ≡ get_or counts p 0 → HasSooner history counts (call_at q m)
  sooner_is counts limit p k q m b is at_b lt replies alike within next = record {
    sooner = call_at p k;
    call = alike.call;
    same = alike.same;
    own = alike.own;
    replies = replies;
    first = alike.first;
    process = within;
    number = ap (λ (n : ℕ). n + 1) next;
    earlier = limit_earlier history counts limit is are.whole (call_at p k) (seen_call b.call) b.place (are.begun p k b at_b) lt;
  }

  pub alike_are : (p k q m : ℕ) (b o : Begun) → slice_get (row_of (begun_rows rows) p) k ≡ Some b → slice_get (row_of (begun_rows rows) q) m ≡ Some o →
      seen_call b.call ≡ seen_call o.call → ComesFirst history (call_at p k) (call_at q m) → AreAlike history (call_at p k) (call_at q m)
  alike_are p k q m b o at_b at_o call first = record {
    call = seen_call b.call;
    same = contains_at history b.place (Begin (call_at p k) (seen_call b.call)) (are.begun p k b at_b);
    own = subst (λ (x : ObjectCall). HasBegun history (call_at q m) x) (sym call) (contains_at history o.place (Begin (call_at q m) (seen_call o.call)) (are.begun q m o at_o));
    first = first;
  }

module _ {M : Type 0} (Effect : ObjectCall → M → M → Reply → Type 0) (history : List (Event ObjectCall Reply)) (whole : IsHistory history) (c : Configuration M) where
  sooner_behind : (id : CallId) (d : Configuration M) → HasSooner history c.counts id → IsStep Effect history c id d → IsBehind Effect history c id
  sooner_behind id d h t =
      let is_call : t.call ≡ h.call = one_call history whole id t.call h.call t.begun h.own in
      record {
        sooner = h.sooner;
        to = record { counts = set c.counts h.sooner.process h.sooner.number; state = d.state };
        step = record {
          call = h.call;
          begun = h.same;
          process = h.process;
          number = h.number;
          earlier = h.earlier;
          reply = t.reply;
          effect = subst (λ (x : ObjectCall). Effect x c.state d.state t.reply) is_call t.effect;
          agrees = λ other ended. one_reply history whole h.sooner other h.replies.reply ended h.replies.first ∙ t.agrees h.replies.reply h.replies.other;
          counts = refl;
        };
        call = h.call;
        same = h.same;
        own = h.own;
        first = h.first;
      }

  -- the next call of a process
  next_call : (process : ℕ) (id : CallId) (d : Configuration M) → id.process ≡ process → IsStep Effect history c id d → id ≡ call_at process (get_or c.counts process 0)
  next_call process id d own t = same_call id (call_at process (get_or c.counts process 0)) own (t.number ∙ ap (λ (q : ℕ). get_or c.counts q 0 + 1) own)

  pub alike_behind : (process other : ℕ) → AreAlike history (call_at other (get_or c.counts other 0)) (call_at process (get_or c.counts process 0)) →
      (a : CallId) (to : Configuration M) → IsOnlyStep Effect history c other a to → AreBehind Effect history c process
  alike_behind process other alike a to only id d own t =
      let is_a = next_call other a to only.own only.step in
      let is_b = next_call process id d own t in
      record {
        sooner = a;
        to = to;
        step = only.step;
        call = alike.call;
        same = subst (λ (i : CallId). HasBegun history i alike.call) (sym is_a) alike.same;
        own = subst (λ (i : CallId). HasBegun history i alike.call) (sym is_b) alike.own;
        first = subst (λ (i : CallId). ComesFirst history i id) (sym is_a) (subst (λ (i : CallId). ComesFirst history (call_at other (get_or c.counts other 0)) i) (sym is_b) alike.first);
      }

  pub process_behind : (process : ℕ) → HasSooner history c.counts (call_at process (get_or c.counts process 0)) → AreBehind Effect history c process
  process_behind process h id d own t =
      sooner_behind id d (subst (λ (i : CallId). HasSooner history c.counts i) (sym (next_call process id d own t)) h) t
