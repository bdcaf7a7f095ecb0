-- Lines read one after the other.
use Rattle.std.proofs.Common.{◌≡◌, ◌∙◌, ℕ, ◌+◌, List, [], ◌∷◌, ◌++◌, All, length, refl, sym, ap, subst, arith, append_assoc, append-nil, length-append}
use Rattle.ob_text_reading.specs.LineReading as Reading
use Rattle.ob_text_reading.specs.LineReading.{FailsBehind, LeadsOn, SaysNothing}
use Rattle.ob_text_values_reading.specs.RecordTexts.{IsFirstOther}
use Rattle.ob_text_reading.specs.RecordLines.{AreLines, IsApplied, IsNextEvent, IsOrder, IsTail, Line}
use Rattle.ob_interface.specs.Call.{ObjectCall, Reply}
use Rattle.ob_interface.specs.Export.{Signature}
use Rattle.wf_history.specs.declared.event.CallId.{CallId}
use Rattle.wf_history.specs.History.{Event}
use Rattle.ob_text_reading.proofs.LineRuns.{AreEvents, applied, event, joined, nothing}
use Rattle.ob_text_reading.proofs.Faults.{fails_behind_order, fails_here, fails_missing, told_here}

module _ (processes : ℕ) (signatures : List Signature) (head : ℕ) where
  -- lines of events have been read, the last of them with this number
  pub record ReadTo (all left : List Line) (b : List (Event ObjectCall Reply)) (number : ℕ) : Type 0 where
    pub before : List Line
    pub parts : all ≡ before ++ left
    pub so_far : AreEvents processes signatures [] before b
    pub counted : number ≡ head + length before

  pub none_read : (all : List Line) (b : List (Event ObjectCall Reply)) → b ≡ [] → ReadTo all all b head
  none_read all b e = record { before = []; parts = refl; so_far = rw e nothing; counted = omega arith }

  pub number_within : (all left : List Line) (b : List (Event ObjectCall Reply)) (number : ℕ) → ReadTo all left b number → number + length left ≡ head + length all
  number_within all left b number r = let long = ap length r.parts ∙ length-append r.before left in omega (arith, long, r.counted)

  pub read_same : (all left : List Line) (b c : List (Event ObjectCall Reply)) (number : ℕ) → ReadTo all left b number → c ≡ b → ReadTo all left c number
  read_same all left b c number r is = rw is r

  -- there is one more line
  module _ (all left rest : List Line) (line : Line) (b : List (Event ObjectCall Reply)) (number : ℕ) (r : ReadTo all left b number) (is : left ≡ line ∷ rest) where
    read_parts : all ≡ r.before ++ line ∷ rest
    read_parts = r.parts ∙ ap (λ ls. r.before ++ ls) is

    counted_on : number + 1 ≡ head + length (r.before ++ line ∷ [])
    counted_on = let long = length-append r.before (line ∷ []) in omega (arith, long, r.counted)

    pub event_more : {e : Event ObjectCall Reply} → IsNextEvent processes signatures b line e → ReadTo all rest (b ++ e ∷ []) (number + 1)
    event_more h =
        record {
          before = r.before ++ line ∷ [];
          parts = read_parts ∙ sym (append_assoc r.before (line ∷ []) rest);
          so_far = joined processes signatures r.so_far (event h nothing);
          counted = counted_on;
        }

    pub applied_more : IsApplied processes line → ReadTo all rest b (number + 1)
    applied_more h =
        record {
          before = r.before ++ line ∷ [];
          parts = read_parts ∙ sym (append_assoc r.before (line ∷ []) rest);
          so_far = joined processes signatures r.so_far (applied h nothing);
          counted = counted_on;
        }

    pub one_line_more : {c : List (Event ObjectCall Reply)} → LeadsOn processes signatures b line c → ReadTo all rest c (number + 1)
    one_line_more (Reading.event h) = event_more h
    one_line_more (Reading.applied h) = applied_more h

    pub no_line : SaysNothing processes signatures b line → FailsBehind processes signatures head all (number + 1)
    no_line s =
        let here : head + length r.before + 1 ≡ number + 1 = omega (arith, r.counted) in
        subst (λ (m : ℕ). FailsBehind processes signatures head all m) here
        (subst (λ (ls : List Line). FailsBehind processes signatures head ls (head + length r.before + 1)) (sym read_parts)
        (fails_here processes signatures head r.before line rest b r.so_far s))

    pub order_told : (ids : List CallId) → IsOrder processes line ids → All IsTail rest → AreLines processes signatures [] all b ids
    order_told ids order tails =
        subst (λ (ls : List Line). AreLines processes signatures [] ls b ids) (sym read_parts) (told_here processes signatures head r.before line rest b r.so_far ids order tails)

    pub order_fails : (ids : List CallId) (k : ℕ) → IsOrder processes line ids → IsFirstOther rest k → FailsBehind processes signatures head all (number + 1 + k + 1)
    order_fails ids k order other =
        let here : number + 1 + k + 1 ≡ head + length r.before + k + 2 = omega (arith, r.counted) in
        subst (λ (ls : List Line). FailsBehind processes signatures head ls (number + 1 + k + 1)) (sym read_parts)
        (fails_behind_order processes signatures head r.before line rest b r.so_far ids k (number + 1 + k + 1) order other here)

  pub all_read : (all left : List Line) (b : List (Event ObjectCall Reply)) (number : ℕ) → ReadTo all left b number → left ≡ [] → FailsBehind processes signatures head all (number + 1)
  all_read all left b number r is =
      let parts : all ≡ r.before = r.parts ∙ ap (λ ls. r.before ++ ls) is ∙ append-nil r.before in
      let here : head + length r.before + 1 ≡ number + 1 = omega (arith, r.counted) in
      subst (λ (m : ℕ). FailsBehind processes signatures head all m) here
      (subst (λ (ls : List Line). FailsBehind processes signatures head ls (head + length r.before + 1)) (sym parts)
      (fails_missing processes signatures head r.before b r.so_far))
