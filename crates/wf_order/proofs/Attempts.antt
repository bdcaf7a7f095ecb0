-- What is tried next, and what was tried before.
use Rattle.std.proofs.Common.{◌≡◌, refl, ap, subst, ◌∙◌, ℕ, suc, ◌+◌, ◌<◌, ◌≤◌, List, [], ◌∷◌, ◌++◌, length, take, Some, arith, inl, inr}
use Rattle.std.proofs.lemmas.Bool.{cases_lt}
use Rattle.std.proofs.lemmas.List.Elements.{Contains-push_cases}
use Rattle.std.specs.List.{Contains, slice_get}
use Rattle.ob_interface.specs.Call.{ObjectCall, Reply}
use Rattle.wf_history.proofs.Positions.{take_next}
use Rattle.wf_history.specs.declared.event.CallId.{CallId}
use Rattle.wf_history.specs.History.{Event, Begin}
use Rattle.wf_order.specs.declared.kept_rows.Rows.{Rows}
use Rattle.wf_order.specs.declared.next_call.Turn.{Turn}
use Rattle.wf_order.specs.Rows.{AreRows, begun_rows}
use Rattle.wf_order.specs.Rules.{AreBehind, AreIdle}
use Rattle.wf_order.specs.Search.{AreAllAnswered, AreAnswered, AreCovered, HasNoStep, IsAttempt, IsOnlyStep}
use Rattle.wf_order.specs.Steps.{Configuration, IsLimit, IsStep}
use Rattle.wf_order.specs.Turns.{AreTurns, IsFirstTurn, turns}
use Rattle.wf_order.proofs.Turning.{fewer_left, next_is, none_left, of_turn, turns_fewer}

module _ {M : Type 0} (Effect : ObjectCall → M → M → Reply → Type 0) (history : List (Event ObjectCall Reply)) (found : List (Configuration M)) (c : Configuration M) (process : ℕ) where
  pub none_answered : HasNoStep Effect history c process → AreAnswered Effect history found c process
  none_answered none id d own s = absurd (none id d own s)

  pub behind_answered : AreBehind Effect history c process → AreAnswered Effect history found c process
  behind_answered behind id d own s = inr (inr (inl (behind id d own s)))

  pub idle_answered : AreIdle Effect history c process → AreAnswered Effect history found c process
  idle_answered idle id d own s = inr (inr (inr (idle id d own s)))

module _ {M : Type 0} (Effect : ObjectCall → M → M → Reply → Type 0) (history : List (Event ObjectCall Reply)) (rows : Rows) (found : List (Configuration M)) (c : Configuration M) (are : AreRows history (length c.counts) rows)
    (limit : ℕ) (bound : IsLimit history c.counts limit) (from : ℕ) where
  pub covered_none : AreCovered Effect history found c from from
  covered_none id d call begun at le lt s = absurd (omega (arith, le, lt))

  -- what is all answered is covered up to any place
  pub covered_all : (to : ℕ) → AreAllAnswered Effect history found c from → AreCovered Effect history found c from to
  covered_all to all id d call begun at le lt s = all id d s (record { call = call; place = begun; at = at; behind = le })

  -- an attempt covers more, where what begins up to a later place is covered
  pub attempt_later : (next later : ℕ) (id : CallId) (d : Configuration M) → IsAttempt Effect history rows found c from next id d → next ≤ later → AreCovered Effect history found c next later →
      IsAttempt Effect history rows found c from later id d
  attempt_later next later id d a le more = record {
    step = a.step;
    fewer = let few = a.fewer in let less = turns_fewer next later (begun_rows rows) c.counts le in omega (arith, few, less);
    covers = λ other e call begun at low lt s.
        elim (cases_lt begun next) [
          | inl before ↦ a.covers other e call begun at low before s
          | inr behind ↦ inl (more other e call begun at behind lt s)
        ];
  }

  module _ (start : ℕ) (covered : AreCovered Effect history found c from start) where
    -- where there is no turn behind the limit
    pub all_covered : limit ≤ start → AreAllAnswered Effect history found c from
    all_covered past id d s begins =
        let n = next_is Effect history rows c are limit bound id d s begins.call begins.place begins.at in
        let lt = n.3 in
        covered id d begins.call begins.place begins.at begins.behind (omega (arith, past, lt)) s

    module _ (turn : Turn) (first : IsFirstTurn rows c.counts start limit turn) where
      -- where there is none
      pub all_tried : limit ≤ turn.place → AreAllAnswered Effect history found c from
      all_tried past id d s begins =
          elim (cases_lt begins.place start) [
            | inl lt ↦ covered id d begins.call begins.place begins.at begins.behind lt s
            | inr ge ↦ absurd (none_left Effect history rows c are limit bound start turn first past id d s (record { call = begins.call; place = begins.place; at = begins.at; behind = ge }))
          ]

      module _ (early : turn.place < limit) where
        of_its_process : (id : CallId) (d : Configuration M) (call : ObjectCall) (begun : ℕ) → slice_get history begun ≡ Some (Begin id call) → start ≤ begun → begun < turn.place + 1 → IsStep Effect history c id d → id.process ≡ turn.process
        of_its_process = of_turn Effect history rows c are limit bound start turn first early

        -- behind the turn
        pub covered_more : AreAnswered Effect history found c turn.process → AreCovered Effect history found c from (turn.place + 1)
        covered_more answered id d call begun at le lt s =
            elim (cases_lt begun start) [
              | inl less ↦ covered id d call begun at le less s
              | inr ge ↦ answered id d (of_its_process id d call begun at ge lt s) s
            ]

        -- fewer turns are left
        pub turns_left : turns start (begun_rows rows) c.counts ≤ turns from (begun_rows rows) c.counts → turns (turn.place + 1) (begun_rows rows) c.counts + 1 ≤ turns from (begun_rows rows) c.counts
        turns_left few = let less = fewer_left Effect history rows c are limit bound start turn first early in omega (arith, few, less)

        pub attempt : turns start (begun_rows rows) c.counts ≤ turns from (begun_rows rows) c.counts → (id : CallId) (to : Configuration M) → IsOnlyStep Effect history c turn.process id to →
            IsAttempt Effect history rows found c from (turn.place + 1) id to
        attempt few id to only = record {
          step = only.step;
          fewer = turns_left few;
          covers = λ other e call begun at le lt s.
              elim (cases_lt begun start) [
                | inl less ↦ inl (covered other e call begun at le less s)
                | inr ge ↦ inr (only.only other e (of_its_process other e call begun at ge lt s) s)
              ];
        }

-- One turn more of those before a place that comes sooner, or is the same.
pub tried_more : (Is : ℕ → Type 0) (list : List Turn) (i : ℕ) (turn : Turn) (low first new : ℕ) → slice_get list i ≡ Some turn →
    ((t : Turn) → Contains (take i list) t → low < t.place → t.place < first → Is t.process) → new ≤ first → (low < turn.place → turn.place < new → Is turn.process) →
    (t : Turn) → Contains (take (i + 1) list) t → low < t.place → t.place < new → Is t.process
tried_more Is list i turn low first new here old le own t there behind before =
    let one : i + 1 ≡ suc i = omega arith in
    let more : take (i + 1) list ≡ take i list ++ turn ∷ [] = ap (λ (n : ℕ). take n list) one ∙ take_next list i turn here in
    elim (Contains-push_cases (take i list) turn t (subst (λ (l : List Turn). Contains l t) more there)) [
      | inl earlier ↦ old t earlier behind (omega (arith, before, le))
      | inr same ↦
          let place : turn.place ≡ t.place = ap (λ (x : Turn). x.place) same in
          subst Is (ap (λ (x : Turn). x.process) same) (own (omega (arith, behind, place)) (omega (arith, before, place)))
    ]

-- What begins from one place up to another is covered, where the turns between them were tried, or need not be.
pub covered_by_turns : {M : Type 0} (Effect : ObjectCall → M → M → Reply → Type 0) (history : List (Event ObjectCall Reply)) (rows : Rows) (found : List (Configuration M)) (c : Configuration M) → AreRows history (length c.counts) rows →
    (limit : ℕ) → IsLimit history c.counts limit → (low from to : ℕ) (list : List Turn) → low ≤ from → AreTurns rows c.counts (length c.counts) low limit list →
    ((turn : Turn) → Contains list turn → from ≤ turn.place → turn.place < to → AreAnswered Effect history found c turn.process) → AreCovered Effect history found c from to
covered_by_turns Effect history rows found c are limit bound low from to list le every tried id d call begun at behind before s =
    let n = next_is Effect history rows c are limit bound id d s call begun at in
    let place = n.2 in
    let early = n.3 in
    tried (record { process = id.process; place = n.0.place }) (every.all id.process n.0 s.process n.1 (omega (arith, place, le, behind)) (omega (arith, place, early))) (omega (arith, place, behind)) (omega (arith, place, before)) id d refl s
