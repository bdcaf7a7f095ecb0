-- What the answers of searches say of the whole history.
use Rattle.std.proofs.Common.{◌≡◌, sym, ap, subst, ℕ, ◌+◌, ◌-◌, ◌<◌, ◌≤◌, List, length, take, Vec, Global, arith, inl, inr}
use Rattle.std.proofs.lemmas.Bool.{cases_lt}
use Rattle.std.proofs.lemmas.List.{take_all, length-take-le}
use Rattle.ob_interface.specs.Call.{ObjectCall, Reply}
use Rattle.wf_history.specs.declared.event.CallId.{CallId}
use Rattle.wf_history.specs.History.{Event, IsHistory}
use Rattle.wf_order.specs.declared.front.Front.{Front}
use Rattle.wf_order.specs.declared.front.Front.TheVariants as Fronts
use Rattle.wf_order.specs.Fronts.{IsFound}
use Rattle.wf_order.specs.declared.search.Answer.{Answer}
use Rattle.wf_order.specs.declared.search.Answer.TheVariants as Answers
use Rattle.wf_lookup.specs.Beginnings.{AreOfProcesses}
use Rattle.wf_order.specs.Search.{IsAnswer, try_cost}
use Rattle.wf_order.specs.Verdict.{HasLegal, HasMore, IsBetween, IsLastLegal, IsTooMuch}
use Rattle.wf_order.proofs.Beginnings.{last_legal_is}
use Rattle.wf_order.proofs.Bounds.{enough_is}

module _ {M : Type 0} (Effect : ObjectCall → M → M → Reply → Type 0) (history : List (Event ObjectCall Reply)) (opening : M) where
  -- the ends of the halving
  pub between_start : ¬ HasLegal Effect opening history → (farthest : ℕ) → HasLegal Effect opening (take farthest history) → IsBetween Effect opening history farthest (length history)
  between_start gone farthest has = record {
    order = elim (cases_lt farthest (length history)) [
      | inl lt ↦ lt
      | inr le ↦ absurd (gone (subst (λ (l : List (Event ObjectCall Reply)). HasLegal Effect opening l) (take_all farthest history (omega (arith, le))) has))
    ];
    within = omega arith;
    has = has;
    none = λ h. gone (subst (λ (l : List (Event ObjectCall Reply)). HasLegal Effect opening l) (take_all (length history) history (omega arith)) h);
  }

  module _ (legal illegal middle : ℕ) (h : IsBetween Effect opening history legal illegal) (lower : legal < middle) (upper : middle < illegal) where
    pub between_upper : HasLegal Effect opening (take middle history) → IsBetween Effect opening history middle illegal
    between_upper has = record { order = upper; within = h.within; has = has; none = h.none }

    pub between_lower : ¬ HasLegal Effect opening (take middle history) → IsBetween Effect opening history legal middle
    between_lower gone = record { order = lower; within = let w = h.within in omega (arith, w, upper); has = h.has; none = gone }

  module _ (processes most : ℕ) where
    pub none_of : (answer : Answer) → IsAnswer Effect opening history processes most answer → answer ≡ Answers.NoOrder → ¬ HasLegal Effect opening history
    none_of (Answers.Order order) a e = absurd (cc)
    none_of Answers.NoOrder a e = a
    none_of Answers.TooMany a e = absurd (cc)

    pub many_of : (answer : Answer) → IsAnswer Effect opening history processes most answer → answer ≡ Answers.TooMany → IsTooMuch Effect opening history processes most
    many_of (Answers.Order order) a e = absurd (cc)
    many_of Answers.NoOrder a e = absurd (cc)
    many_of Answers.TooMany a e =
        let le = enough_is processes processes (length history) (length history) (omega arith) (omega arith) in
        let less = a.1 in (
          record { count = length history; more = subst (λ (l : List (Event ObjectCall Reply)). HasMore Effect opening l processes most) (sym (take_all (length history) history (omega arith))) a.0 },
          omega (arith, less, le),
        )

  module _ (processes most count : ℕ) (within : count ≤ length history) where
    pub at_order : (answer : Answer) → IsAnswer Effect opening (take count history) processes most answer → (order : Vec CallId Global) → answer ≡ Answers.Order order → HasLegal Effect opening (take count history)
    at_order (Answers.Order order) a o e = (order.items, a.0, a.1)
    at_order Answers.NoOrder a o e = absurd (cc)
    at_order Answers.TooMany a o e = absurd (cc)

    pub at_none : (answer : Answer) → IsAnswer Effect opening (take count history) processes most answer → answer ≡ Answers.NoOrder → ¬ HasLegal Effect opening (take count history)
    at_none (Answers.Order order) a e = absurd (cc)
    at_none Answers.NoOrder a e = a
    at_none Answers.TooMany a e = absurd (cc)

    pub at_many : (answer : Answer) → IsAnswer Effect opening (take count history) processes most answer → answer ≡ Answers.TooMany → IsTooMuch Effect opening history processes most
    at_many (Answers.Order order) a e = absurd (cc)
    at_many Answers.NoOrder a e = absurd (cc)
    at_many Answers.TooMany a e =
        let size = length-take-le count history within in
        let cost = ap (λ (n : ℕ). try_cost processes (n + 1)) size in
        let le = enough_is processes processes count (length history) (omega arith) within in
        let less = a.1 in
        (record { count = count; more = a.0 }, omega (arith, less, cost, le))

  -- what is told of events
  pub told_legal : (front : Front) → IsFound Effect opening history front → front ≡ Fronts.Legal → HasLegal Effect opening history
  told_legal Fronts.Legal h e = h
  told_legal Fronts.Illegal h e = absurd (cc)
  told_legal Fronts.Unknown h e = absurd (cc)

  pub told_illegal : (front : Front) → IsFound Effect opening history front → front ≡ Fronts.Illegal → ¬ HasLegal Effect opening history
  told_illegal Fronts.Legal h e = absurd (cc)
  told_illegal Fronts.Illegal h e = h
  told_illegal Fronts.Unknown h e = absurd (cc)

  -- where there is nothing left to halve
  pub between_end : (whole : IsHistory history) (processes : ℕ) → AreOfProcesses processes history → (legal illegal : ℕ) → IsBetween Effect opening history legal illegal → illegal - legal ≤ 1 → IsLastLegal Effect opening history legal
  between_end whole processes few legal illegal h le =
      let order = h.order in
      let within = h.within in
      let one : illegal ≡ legal + 1 = omega (arith, order, le) in
      last_legal_is Effect history whole processes few opening legal (omega (arith, order, within)) h.has
      (subst (λ (n : ℕ). ¬ HasLegal Effect opening (take n history)) one h.none)
