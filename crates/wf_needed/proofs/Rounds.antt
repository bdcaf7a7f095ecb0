-- Rounds over the calls of an order.
use Rattle.std.proofs.Common.{◌≡◌, ◌∙◌, refl, sym, ap, subst, ℕ, ◌+◌, ◌<◌, ◌≤◌, List, [], ◌∷◌, ◌++◌, length, get_or, take, drop, arith, inl, inr}
use Rattle.std.proofs.lemmas.Bool.{cases_lt}
use Rattle.std.proofs.lemmas.List.{append_assoc, drop_at, drop_more, get_or_at, length-append, length-drop, length_push, take-append-drop, take_at, take_more}
use Rattle.std.proofs.lemmas.Option.{slice_get_read}
use Rattle.std.specs.Prelude.{slice_get, Some}
use Rattle.ob_interface.specs.Call.{ObjectCall, Reply}
use Rattle.wf_history.proofs.Positions.{one_item, place_here}
use Rattle.wf_history.specs.View.{seen_call}
use Rattle.wf_needed.proofs.Replaying.{behind_first, first_ends, has_end, joined, one_last, one_more, parted}
use Rattle.wf_needed.specs.Listed.{EachIsNeeded, Ends, IsOpenCall, IsRound, IsThinner, Replays, over}
use Rattle.wf_needed.specs.Needed.{LeavesOut, nothing, one}
use Rattle.wf_needed.specs.declared.listed_calls.Listed.{Listed}

-- the parts of a list before and behind a place
module _ {A : Type 0} (all first rest : List A) (x : A) (k : ℕ) (parts : all ≡ first ++ x ∷ rest) (here : length first ≡ k) where
  front_is : take k all ≡ first
  front_is = ap (take k) parts ∙ take_at first (x ∷ rest) k here

  rest_is : drop (k + 1) all ≡ rest
  rest_is =
      let more = length_push first x in
      ap (drop (k + 1)) (parts ∙ sym (append_assoc first (x ∷ []) rest)) ∙ drop_at (first ++ x ∷ []) rest (k + 1) (omega (arith, more, here))

  item_is : (d : A) → get_or all k d ≡ x
  item_is d = ap (λ (xs : List A). get_or xs k d) parts ∙ get_or_at first x rest d k here

-- what is left out is less
pub left_size : {A : Type 0} {May : A → Type 0} {all kept : List A} → LeavesOut May all kept → length kept ≤ length all
left_size (nothing same) = let n = ap length same in omega (arith, n)
left_size (one first rest x left parts may is) =
    let n = left_size left in
    let a = ap length parts ∙ length-append first (x ∷ rest) in
    let b = ap length is ∙ length-append first rest in
    omega (arith, n, a, b)

pub left_twice : {A : Type 0} {May : A → Type 0} {all more kept : List A} → LeavesOut May all more → LeavesOut May more kept → LeavesOut May all kept
left_twice {A} {May} {all} left (nothing same) = subst (λ (xs : List A). LeavesOut May all xs) (sym same) left
left_twice left (one first rest x also parts may is) = one first rest x (left_twice left also) parts may is

-- none of the calls from a place on is open, up to one more
pub none_behind : (all : List Listed) (until k : ℕ) (c : Listed) → k < length all → c ≡ get_or all k c → ((j : ℕ) (d : Listed) → until ≤ j → j < k → slice_get all j ≡ Some d → ¬ IsOpenCall d) → ¬ IsOpenCall c →
    (j : ℕ) (d : Listed) → until ≤ j → j < k + 1 → slice_get all j ≡ Some d → ¬ IsOpenCall d
none_behind all until k c lt is before not j d from less at opens =
    elim (cases_lt j k) [
      | inl early ↦ before j d from early at opens
      | inr late ↦
          let here : j ≡ k = omega (arith, less, late) in
          let item = one_item all k d c (ap (slice_get all) (sym here) ∙ at) (slice_get_read all (length all) k c refl lt is) in
          not (subst (λ (x : Listed). IsOpenCall x) item opens)
    ]

-- none of the calls is open
pub none_more : (all : List Listed) (k : ℕ) (c : Listed) → k < length all → c ≡ get_or all k c → ((j : ℕ) (d : Listed) → j < k → slice_get all j ≡ Some d → ¬ IsOpenCall d) → ¬ IsOpenCall c →
    (j : ℕ) (d : Listed) → j < k + 1 → slice_get all j ≡ Some d → ¬ IsOpenCall d
none_more all k c lt is before not j d less at opens =
    elim (cases_lt j k) [
      | inl early ↦ before j d early at opens
      | inr late ↦
          let here : j ≡ k = omega (arith, less, late) in
          let item = one_item all k d c (ap (slice_get all) (sym here) ∙ at) (slice_get_read all (length all) k c refl lt is) in
          not (subst (λ (x : Listed). IsOpenCall x) item opens)
    ]

module _ {State : Type 0} (Effect : ObjectCall → State → State → Reply → Type 0) (opening : State) (all : List Listed) where
  -- so each is needed
  pub none_open : ((k : ℕ) (c : Listed) → slice_get all k ≡ Some c → ¬ IsOpenCall c) → EachIsNeeded Effect opening all
  none_open none first rest c last parts lt opens =
      absurd (none (length first) c (ap (λ (cs : List Listed). slice_get cs (length first)) parts ∙ place_here first rest c) opens)

  module _ (determined : (call : ObjectCall) (before after other : State) (reply answer : Reply) → Effect call before after reply → Effect call before other answer → (after ≡ other) × (reply ≡ answer)) where
    start : (last : State) × Replays Effect opening all last → IsRound Effect opening all 0 [] opening
    start r = record {
      here = over;
      last = r.0;
      behind = r.1;
      left_out = nothing refl;
      size = omega arith;
      within = omega arith;
      whole = λ same. (refl, λ first rest c last parts lt opens replays. absurd (omega (arith, lt)));
    }

    pub round_start : (kept : List Listed) (state : State) → kept ≡ [] → state ≡ opening → (last : State) × Replays Effect opening all last → IsRound Effect opening all 0 kept state
    round_start kept state empty is r =
        subst (λ (cs : List Listed). IsRound Effect opening all 0 cs state) (sym empty) (subst (λ (s : State). IsRound Effect opening all 0 [] s) (sym is) (start r))

    module _ (k : ℕ) (kept : List Listed) (c : Listed) (state : State) (lt : k < length all) (is : c ≡ get_or all k c) (r : IsRound Effect opening all k kept state) where
      split : drop k all ≡ c ∷ drop (k + 1) all
      split = drop_more all k c lt ∙ ap (λ (x : Listed). x ∷ drop (k + 1) all) (sym is)

      pub behind_here : (last : State) × Replays Effect state (c ∷ drop (k + 1) all) last
      behind_here = (r.last, subst (λ (cs : List Listed). Replays Effect state cs r.last) split r.behind)

      pub end_here : (after : State) × Ends Effect c state after
      end_here = has_end Effect c (drop k all) (drop (k + 1) all) state r.last split r.behind

      -- without this call those behind it can't be made so
      needed_here : length kept ≡ k → (IsOpenCall c → (last : State) → ¬ Replays Effect state (drop (k + 1) all) last) →
          (first rest : List Listed) (d : Listed) (last : State) → all ≡ first ++ d ∷ rest → length first ≡ k → IsOpenCall d → ¬ Replays Effect opening (first ++ rest) last
      needed_here same needed first rest d last parts here opens replays =
          let w = r.whole same in
          let p = parted Effect first rest opening last replays in
          let item : c ≡ d = is ∙ item_is all first rest d k parts here c in
          let front : first ≡ kept = sym (front_is all first rest d k parts here) ∙ sym w.0 in
          let state_is : p.0 ≡ state = one_last Effect determined kept opening p.0 state (subst (λ (cs : List Listed). Replays Effect opening cs p.0) front p.1) r.here in
          needed (subst (λ (x : Listed). IsOpenCall x) (sym item) opens) last
          (subst (λ (cs : List Listed). Replays Effect state cs last) (sym (rest_is all first rest d k parts here))
          (subst (λ (s : State). Replays Effect s rest last) state_is p.2))

      kept_one : (to : State) (reply : Reply) → Effect (seen_call c.call) state to reply → (IsOpenCall c → (last : State) → ¬ Replays Effect state (drop (k + 1) all) last) →
          IsRound Effect opening all (k + 1) (kept ++ c ∷ []) to
      kept_one to reply does needed =
          let behind = subst (λ (cs : List Listed). Replays Effect state cs r.last) split r.behind in
          let ends = first_ends Effect determined c (drop (k + 1) all) state to r.last reply does behind in
          let push = length_push kept c in
          let less = r.size in
          record {
            here = one_more Effect kept c opening state to r.here ends;
            last = r.last;
            behind = behind_first Effect determined c (drop (k + 1) all) state to r.last ends behind;
            left_out = subst (λ (cs : List Listed). LeavesOut IsOpenCall all cs) (ap (λ (cs : List Listed). kept ++ cs) split ∙ sym (append_assoc kept (c ∷ []) (drop (k + 1) all))) r.left_out;
            size = omega (arith, push, less);
            within = omega (arith, lt);
            whole = λ same.
                let count : length kept ≡ k = omega (arith, same, push) in
                let w = r.whole count in (
                  ap (λ (cs : List Listed). cs ++ c ∷ []) w.0 ∙ ap (λ (x : Listed). take k all ++ x ∷ []) is ∙ sym (take_more all k c lt),
                  λ first rest d last parts before opens replays.
                      elim (cases_lt (length first) k) [
                        | inl early ↦ w.1 first rest d last parts early opens replays
                        | inr late ↦ needed_here count needed first rest d last parts (omega (arith, before, late)) opens replays
                      ],
                );
          }

      -- the call stays
      pub round_kept : (more : List Listed) (to : State) (reply : Reply) → Effect (seen_call c.call) state to reply → more ≡ kept ++ c ∷ [] →
          (IsOpenCall c → (last : State) → ¬ Replays Effect state (drop (k + 1) all) last) → IsRound Effect opening all (k + 1) more to
      round_kept more to reply does grows needed =
          subst (λ (cs : List Listed). IsRound Effect opening all (k + 1) cs to) (sym grows) (kept_one to reply does needed)

      -- it is left out
      pub round_left : IsOpenCall c → (last : State) × Replays Effect state (drop (k + 1) all) last → IsRound Effect opening all (k + 1) kept state
      round_left opens behind =
          let less = r.size in
          record {
            here = r.here;
            last = behind.0;
            behind = behind.1;
            left_out = one kept (drop (k + 1) all) c r.left_out (ap (λ (cs : List Listed). kept ++ cs) split) opens refl;
            size = omega (arith, less);
            within = omega (arith, lt);
            whole = λ same. absurd (omega (arith, same, less));
          }

    -- behind the last open call
    pub round_end : (k : ℕ) (kept more : List Listed) (state : State) → k ≤ length all → ((j : ℕ) (d : Listed) → slice_get all j ≡ Some d → k ≤ j → ¬ IsOpenCall d) → more ≡ kept ++ drop k all →
        IsRound Effect opening all k kept state → IsThinner Effect opening all more
    round_end k kept more state within none grows r =
        let rest = drop k all in
        subst (λ (cs : List Listed). IsThinner Effect opening all cs) (sym grows)
        (record {
          last = r.last;
          replays = joined Effect kept rest opening state r.last r.here r.behind;
          left_out = r.left_out;
          size = left_size r.left_out;
          needed = λ same.
              let sum = length-append kept rest in
              let size = length-drop k all in
              let w = r.whole (omega (arith, same, sum, size, within)) in (
                ap (λ (cs : List Listed). cs ++ rest) w.0 ∙ take-append-drop k all,
                λ first back c last parts lt opens replays.
                    elim (cases_lt (length first) k) [
                      | inl early ↦ w.1 first back c last parts early opens replays
                      | inr late ↦ absurd (none (length first) c (ap (λ (cs : List Listed). slice_get cs (length first)) parts ∙ place_here first back c) late opens)
                    ],
              );
        })

  -- where the last round has left out none
  module _ (kept : List Listed) (thinner : IsThinner Effect opening all kept) (no_less : length all ≤ length kept) where
    pub last_round : EachIsNeeded Effect opening kept
    last_round =
        let less = thinner.size in
        let n = thinner.needed (omega (arith, less, no_less)) in
        subst (λ (cs : List Listed). EachIsNeeded Effect opening cs) (sym n.0) n.1
