-- Calls made one after the other: one call more, and two ways to make the same calls.
use Rattle.std.proofs.Common.{◌≡◌, ◌∙◌, refl, sym, ap, subst, ℕ, ◌+◌, ◌<◌, ◌≤◌, List, [], ◌∷◌, ◌++◌, length, get_or, drop, ◌↔◌, arith}
use Rattle.std.proofs.lemmas.List.{drop_all, drop_more}
use Rattle.ob_interface.specs.Call.{ObjectCall, Reply}
use Rattle.wf_history.specs.View.{seen_call}
use Rattle.wf_needed.specs.Listed.{Ends, Replays, over, next}
use Rattle.wf_needed.specs.declared.listed_calls.Listed.{Listed}

module _ {State : Type 0} (Effect : ObjectCall → State → State → Reply → Type 0) where
  -- no call is left
  pub none_left : (state : State) (all : List Listed) → length all ≡ 0 → (last : State) × Replays Effect state all last
  none_left state [] h = (state, over)
  none_left state (c ∷ all) h = absurd (omega (arith, h))

  -- one call more at the end
  pub one_more : (all : List Listed) (c : Listed) (before state after : State) → Replays Effect before all state → Ends Effect c state after → Replays Effect before (all ++ c ∷ []) after
  one_more [] c before state after (over) e = next e over
  one_more (a ∷ all) c before state after (next {between = between} first rest) e = next first (one_more all c between state after rest e)

  -- a list in two parts
  pub parted : (first rest : List Listed) (before last : State) → Replays Effect before (first ++ rest) last → (state : State) × Replays Effect before first state × Replays Effect state rest last
  parted [] rest before last h = (before, over, h)
  parted (c ∷ first) rest before last (next {between = between} e r) = let p = parted first rest between last r in (p.0, next e p.1, p.2)

  pub joined : (first rest : List Listed) (before state last : State) → Replays Effect before first state → Replays Effect state rest last → Replays Effect before (first ++ rest) last
  joined [] rest before state last (over) r = r
  joined (c ∷ first) rest before state last (next {between = between} e f) r = next e (joined first rest between state last f r)

  -- the first call of some has its reply
  one_end_of : (c : Listed) (rest : List Listed) (before last : State) → Replays Effect before (c ∷ rest) last → (after : State) × Ends Effect c before after
  one_end_of c rest before last (next {between = between} e r) = (between, e)

  pub has_end : (c : Listed) (all rest : List Listed) (before last : State) → all ≡ c ∷ rest → Replays Effect before all last → (after : State) × Ends Effect c before after
  has_end c all rest before last split h = one_end_of c rest before last (subst (λ (cs : List Listed). Replays Effect before cs last) split h)

  -- from two states lists of calls lead to the same states
  abbrev pub LeadAlike : State → List Listed → State → List Listed → Type 0
  LeadAlike before all state rest = (last : State) → Replays Effect before all last ↔ Replays Effect state rest last

  module _ (determined : (call : ObjectCall) (before after other : State) (reply answer : Reply) → Effect call before after reply → Effect call before other answer → (after ≡ other) × (reply ≡ answer)) where
    one_end : (c : Listed) (before after other : State) → Ends Effect c before after → Ends Effect c before other → after ≡ other
    one_end c before after other e f = (determined (seen_call c.call) before after other e.0 f.0 e.1 f.1).0

    pub one_last : (all : List Listed) (before last other : State) → Replays Effect before all last → Replays Effect before all other → last ≡ other
    one_last [] before last other (over) (over) = refl
    one_last (c ∷ all) before last other (next {between = between} e r) (next {between = middle} f s) =
        one_last all between last other r (subst (λ (x : State). Replays Effect x all other) (sym (one_end c before between middle e f)) s)

    -- the first call of a list
    pub behind_first : (c : Listed) (rest : List Listed) (before after last : State) → Ends Effect c before after → Replays Effect before (c ∷ rest) last → Replays Effect after rest last
    behind_first c rest before after last e (next {between = between} f r) = subst (λ (x : State). Replays Effect x rest last) (one_end c before between after f e) r

    pub first_ends : (c : Listed) (rest : List Listed) (before after last : State) (reply : Reply) → Effect (seen_call c.call) before after reply → Replays Effect before (c ∷ rest) last → Ends Effect c before after
    first_ends c rest before after last reply does (next {between = between} f r) =
        let both = determined (seen_call c.call) before between after f.0 reply f.1 does in
        (f.0, subst (λ (x : State). Effect (seen_call c.call) before x f.0) both.0 f.1, f.2)

    -- what a call leads to is what those behind it go on from
    pub leads_on : (c : Listed) (all rest : List Listed) (before after last : State) (reply : Reply) → all ≡ c ∷ rest → Effect (seen_call c.call) before after reply → Replays Effect before all last → Replays Effect after rest last
    leads_on c all rest before after last reply split does h =
        let whole = subst (λ (cs : List Listed). Replays Effect before cs last) split h in
        behind_first c rest before after last (first_ends c rest before after last reply does whole) whole

    pub alike_first : (c : Listed) (all rest : List Listed) (before after : State) → all ≡ c ∷ rest → Ends Effect c before after → LeadAlike before all after rest
    alike_first c all rest before after split e =
        subst (λ (cs : List Listed). LeadAlike before cs after rest) (sym split) (λ last. ((λ h. behind_first c rest before after last e h), (λ r. next e r)))

    never_first : (c : Listed) (rest : List Listed) (before : State) → ((after : State) → ¬ Ends Effect c before after) → (last : State) → ¬ Replays Effect before (c ∷ rest) last
    never_first c rest before not last (next {between = between} f r) = not between f

    pub never : (c : Listed) (all rest : List Listed) (before : State) → all ≡ c ∷ rest → ((after : State) → ¬ Ends Effect c before after) → (last : State) → ¬ Replays Effect before all last
    never c all rest before split not last h = never_first c rest before not last (subst (λ (cs : List Listed). Replays Effect before cs last) split h)

    module _ (before : State) (all rest : List Listed) (k : ℕ) (here : State) (alike : LeadAlike before all here (drop k rest)) where
      module _ (c : Listed) (lt : k < length rest) (is : c ≡ get_or rest k c) where
        split : drop k rest ≡ c ∷ drop (k + 1) rest
        split = drop_more rest k c lt ∙ ap (λ (x : Listed). x ∷ drop (k + 1) rest) (sym is)

        -- the next call leads on, from whatever state the calls do
        pub leads_next : (state after last : State) (reply : Reply) → Effect (seen_call c.call) state after reply → Replays Effect state (drop k rest) last → Replays Effect after (drop (k + 1) rest) last
        leads_next state after last reply does h = leads_on c (drop k rest) (drop (k + 1) rest) state after last reply split does h

        -- the next call leads on
        pub alike_next : (after : State) → Ends Effect c here after → LeadAlike before all after (drop (k + 1) rest)
        alike_next after e last =
            let there = alike_first c (drop k rest) (drop (k + 1) rest) here after split e last in
            let from = alike last in
            ((λ h. there.0 (from.0 h)), (λ r. from.1 (there.1 r)))

        -- or it has another reply
        pub never_next : ((after : State) → ¬ Ends Effect c here after) → (last : State) → ¬ Replays Effect before all last
        never_next not last h = never c (drop k rest) (drop (k + 1) rest) here split not last ((alike last).0 h)

      -- the same state is come to from elsewhere
      pub alike_same : (other last : State) → other ≡ here → Replays Effect other (drop k rest) last → (end : State) × Replays Effect before all end
      alike_same other last same h = (last, (alike last).1 (subst (λ (x : State). Replays Effect x (drop k rest) last) same h))

      pub alike_over : length rest ≤ k → (last : State) × Replays Effect before all last
      alike_over past = (here, (alike here).1 (subst (λ (cs : List Listed). Replays Effect here cs here) (sym (drop_all k rest past)) over))
