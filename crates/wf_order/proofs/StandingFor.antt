-- A configuration that stands for another one: where steps lead from the other one to one that is done, they do from there, too.
use Rattle.std.proofs.Common.{◌≡◌, refl, sym, ap, ◌∙◌, subst, ℕ, ◌+◌, ◌-◌, ◌<◌, ◌≤◌, zero, suc, List, [], ◌∷◌, ◌++◌, length, get_or, set, Option, option_map, Some, None, arith, inl, inr}
use Rattle.std.proofs.lemmas.Bool.{cases_lt}
use Rattle.std.proofs.lemmas.Option.{same_Some, slice_get_within}
use Rattle.std.specs.List.{slice_get, Contains}
use Rattle.ob_interface.specs.Call.{ObjectCall, Reply}
use Rattle.wf_history.specs.declared.event.CallId.{CallId}
use Rattle.wf_history.specs.declared.seen_event.SeenReply.{SeenReply}
use Rattle.wf_history.specs.History.{Event, Begin, End, Before, IsHistory}
use Rattle.wf_history.specs.Legal.{HasBegun}
use Rattle.wf_history.specs.View.{seen_call, seen_reply}
use Rattle.wf_history.proofs.Once.{one_call}
use Rattle.wf_history.proofs.Positions.{contains_at, place_left, same_call}
use Rattle.wf_order.specs.declared.rows.Begun.{Begun}
use Rattle.wf_order.specs.declared.rows.Ended.{Ended}
use Rattle.wf_order.specs.declared.kept_rows.Rows.{Rows}
use Rattle.wf_order.specs.Rows.{AreRows, begun_rows, call_at, ended_rows, row_of}
use Rattle.wf_order.specs.Rules.{AreSo, DoesSo, IsStoodFor, MayCome, StandsBefore}
use Rattle.wf_order.specs.Steps.{Configuration, IsDone, IsLimit, IsStep, IsTaken, Leads, none, more}
use Rattle.wf_order.proofs.Exchange.{IsHopeful, hope_more, without_moved}
use Rattle.wf_order.proofs.Limits.{limit_later}
use Rattle.wf_order.proofs.Replacing.{ended_in, open_in}

module _ {State Call Reply : Type 0} (Effect : Call → State → State → Reply → Type 0) (history : List (Event Call Reply)) (whole : IsHistory history)
    (found : List (Configuration State)) (c other : Configuration State) (h : IsStoodFor Effect history found c other) where
  -- a step from the other one is one from there, where its call does so
  step_so : (id : CallId) (e : Configuration State) (t : IsStep Effect history other id e) → DoesSo (Effect t.call) h.last.state other.state → IsStep Effect history h.last id e
  step_so id e t does = record {
    call = t.call;
    begun = t.begun;
    process = subst (λ (l : List ℕ). id.process < length l) (sym h.counts) t.process;
    number = subst (λ (l : List ℕ). id.number ≡ get_or l id.process 0 + 1) (sym h.counts) t.number;
    earlier = λ a bef. subst (λ (l : List ℕ). IsTaken l a) (sym h.counts) (t.earlier a bef);
    reply = t.reply;
    effect = does e.state t.reply t.effect;
    agrees = t.agrees;
    counts = t.counts ∙ ap (λ (l : List ℕ). set l id.process id.number) (sym h.counts);
  }

  abbrev IsHopefulWithin : ℕ → Type 0
  IsHopefulWithin n = (k : ℕ) × (k ≤ n) × IsHopeful Effect history k h.first

  along : (m : ℕ) {d e : Configuration State} {ids : List CallId} → Leads Effect history d ids e → d ≡ other → length ids ≡ m → IsDone Effect history e → IsHopefulWithin (suc m)
  along m (none {c = d}) same size done =
      let over : IsDone Effect history h.last = λ id reply ended. subst (λ (l : List ℕ). IsTaken l id) (ap (λ (x : Configuration State). x.counts) same ∙ sym h.counts) (done id reply ended) in
      (1, omega arith, hope_more Effect history 0 h.first h.last h.id h.step (record { ids = []; last = h.last; path = none; done = over; size = refl }))
  along zero (more s l) same size done = absurd (cc)
  along (suc m) (more {c = d} {d = f} {e} {id} {ids} s l) same size done =
      let t : IsStep Effect history other id f = subst (λ (x : Configuration State). IsStep Effect history x id f) same s in
      elim (h.so id t.call (record { begun = t.begun; process = t.process; number = t.number; earlier = t.earlier })) [
        | inl does ↦ (
          suc (suc (length ids)),
          omega (arith, size),
          hope_more Effect history (suc (length ids)) h.first h.last h.id h.step
              (hope_more Effect history (length ids) h.last f id (step_so id f t does) (record { ids = ids; last = e; path = l; done = done; size = refl })),
        )
        | inr reads ↦ elim reads.1 [
          | inl opened ↦
              let without = without_moved Effect history whole id opened l done other (record { process = t.process; number = t.number }) t.counts (sym (reads.0 t.call other.state f.state t.reply t.begun t.effect)) in
              let own = without.size in
              let r = along m without.path refl (omega (arith, own, size)) without.done in
              let le = r.1 in
              (r.0, omega (arith, le), r.2)
          | inr differs ↦
              absurd (differs.other f.state (subst (λ (r : Reply). Effect t.call other.state f.state r) (sym (t.agrees differs.reply differs.ended)) t.effect))
        ]
      ]

  -- Law: where so many steps lead from the other one to one that is done, at most one more lead there from the one that stands for it.
  pub standing_hope : (m : ℕ) → IsHopeful Effect history m other → (k : ℕ) × (k ≤ suc m) × IsHopeful Effect history k h.first
  standing_hope m hope = along m hope.path refl hope.size hope.done

first_of_both : {A : Type 0} (xs ys : List A) (k : ℕ) (x : A) → slice_get (xs ++ ys) k ≡ Some x → k < length xs → slice_get xs k ≡ Some x
first_of_both [] ys k x e lt = absurd (omega (arith, lt))
first_of_both (a ∷ xs) ys zero x e lt = e
first_of_both (a ∷ xs) ys (suc k) x e lt = first_of_both xs ys k x e (omega (arith, lt))

-- what stands before does so, where more is found
pub stands_grown : {State : Type 0} (found later : List (Configuration State)) (first other : Configuration State) → StandsBefore found first other → StandsBefore (found ++ later) first other
stands_grown found later first other h = record {
  place = h.place;
  at = place_left found later h.place first h.at;
  before = λ k at. elim (cases_lt k (length found)) [
    | inl lt ↦ h.before k (first_of_both found later k other at lt)
    | inr ge ↦ let inside = slice_get_within found h.place first h.at in omega (arith, inside, ge)
  ];
}

-- the reply of a row's item, where there is one
pub none_replied : (o : Option Ended) → option_map (λ e. e.reply) o ≡ None → o ≡ None
none_replied None h = refl
none_replied (Some e) h = absurd (cc)

pub some_replied : (o : Option Ended) (reply : SeenReply) → option_map (λ e. e.reply) o ≡ Some reply → (e : Ended) × (o ≡ Some e) × (e.reply ≡ reply)
some_replied None reply h = absurd (cc)
some_replied (Some e) reply h = (e, refl, same_Some e.reply reply h)

-- the next call of a process, by the rows
module _ {M : Type 0} (Effect : ObjectCall → M → M → Reply → Type 0) (history : List (Event ObjectCall Reply)) (rows : Rows) (c : Configuration M) (are : AreRows history (length c.counts) rows)
    (limit : ℕ) (bound : IsLimit history c.counts limit) (before : M) (process k : ℕ) (is : k ≡ get_or c.counts process 0) where
  next_is : (id : CallId) (call : ObjectCall) → id.process ≡ process → MayCome history c.counts id call → id ≡ call_at process k
  next_is id call own t =
      let number = t.number in
      let same : get_or c.counts id.process 0 ≡ get_or c.counts process 0 = ap (λ (q : ℕ). get_or c.counts q 0) own in
      same_call id (call_at process k) own (omega (arith, number, same, is))

  pub so_none : slice_get (row_of (begun_rows rows) process) k ≡ None → AreSo Effect history c before process
  so_none past id call own t =
      let same = next_is id call own t in
      let r = are.every_begun (call_at process k) call (subst (λ (i : CallId). HasBegun history i call) same t.begun) in
      let place : (k + 1) - 1 ≡ k = omega arith in
      let at : slice_get (row_of (begun_rows rows) process) k ≡ Some r.2 = ap (slice_get (row_of (begun_rows rows) process)) (sym place) ∙ r.3 in
      let e = sym past ∙ at in absurd (cc)

  module _ (b : Begun) (at : slice_get (row_of (begun_rows rows) process) k ≡ Some b) where
    made_is : (id : CallId) (call : ObjectCall) → id.process ≡ process → MayCome history c.counts id call → call ≡ seen_call b.call
    made_is id call own t =
        one_call history are.whole (call_at process k) call (seen_call b.call) (subst (λ (i : CallId). HasBegun history i call) (next_is id call own t) t.begun)
        (contains_at history b.place (Begin (call_at process k) (seen_call b.call)) (are.begun process k b at))

    pub so_late : limit ≤ b.place → AreSo Effect history c before process
    so_late late id call own t =
        let same = next_is id call own t in
        absurd (limit_later history c.counts limit bound are.whole (call_at process k) (seen_call b.call) b.place (are.begun process k b at) late
        (λ a bef. t.earlier a (subst (λ (i : CallId). Before history a i) (sym same) bef)))

    pub so_does : DoesSo (Effect (seen_call b.call)) before c.state → AreSo Effect history c before process
    so_does does id call own t = inl (subst (λ (x : ObjectCall). DoesSo (Effect x) before c.state) (sym (made_is id call own t)) does)

    module _ (leaves : (start after : M) (reply : Reply) → Effect (seen_call b.call) start after reply → start ≡ after) where
      reads : (id : CallId) (call : ObjectCall) → id.process ≡ process → MayCome history c.counts id call →
          (other : ObjectCall) (start after : M) (reply : Reply) → HasBegun history id other → Effect other start after reply → start ≡ after
      reads id call own t other start after reply begun effect =
          leaves start after reply (subst (λ (x : ObjectCall). Effect x start after reply) (one_call history are.whole id other call begun t.begun ∙ made_is id call own t) effect)

      pub so_open : slice_get (row_of (ended_rows rows) process) k ≡ None → AreSo Effect history c before process
      so_open without id call own t = inr (
        reads id call own t,
        inl (λ reply ended. open_in history (length c.counts) rows are process k without reply (subst (λ (i : CallId). Contains history (End i reply)) (next_is id call own t) ended)),
      )

      pub so_other : (e : Ended) → slice_get (row_of (ended_rows rows) process) k ≡ Some e → ((after : M) → Effect (seen_call b.call) c.state after (seen_reply e.reply) → ⊥) → AreSo Effect history c before process
      so_other e there other id call own t = inr (
        reads id call own t,
        inr (record {
          reply = seen_reply e.reply;
          ended = subst (λ (i : CallId). Contains history (End i (seen_reply e.reply))) (sym (next_is id call own t)) (ended_in history (length c.counts) rows are process k e there);
          other = λ after effect. other after (subst (λ (x : ObjectCall). Effect x c.state after (seen_reply e.reply)) (made_is id call own t) effect);
        }),
      )
