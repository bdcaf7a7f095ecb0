-- One try of a search: what is found, and that less is left to be done.
use Rattle.std.proofs.Common.{◌≡◌, refl, sym, ap, ◌∙◌, subst, ℕ, ◌+◌, ◌-◌, ◌<◌, ◌≤◌, List, [], ◌∷◌, ◌++◌, length, get_or, set, map, Option, Some, None, option_map, arith, inl, inr, length-set}
use Rattle.std.specs.Prelude.{MatchOption}
use Rattle.std.proofs.lemmas.List.{append-nil, map-append, length-map, get_or-map, get_or_at}
use Rattle.std.proofs.lemmas.List.Elements.{Contains-push}
use Rattle.std.proofs.lemmas.Option.{slice_get_within, get_or_from_slice_get}
use Rattle.std.specs.List.{slice_get, Contains}
use Rattle.ob_interface.specs.Call.{ObjectCall, Reply}
use Rattle.wf_history.specs.declared.event.CallId.{CallId}
use Rattle.wf_history.specs.History.{Event, Begin}
use Rattle.wf_history.proofs.Positions.{contains_at, one_item}
use Rattle.wf_order.specs.declared.kept_rows.Rows.{Rows}
use Rattle.wf_order.specs.declared.search.Frame.{Frame}
use Rattle.wf_order.specs.Rows.{AreRows, begun_rows, call_at, row_of}
use Rattle.wf_order.specs.Rules.{IsAnswered, IsMet, IsStoodFor, Passes, none_passed, one_passed}
use Rattle.wf_order.specs.Steps.{Configuration, IsLimit, IsStep, IsDone, one_more}
use Rattle.wf_order.specs.Search.{ids_of, IsAttempt, IsChoice, IsSilentStep, IsSearch, IsPassed, LeadsOn, IsArrival, left, weights, work}
use Rattle.wf_order.specs.Turns.{BeginsFrom, turns}
use Rattle.wf_order.proofs.Searching.{advanced_past, answered_grown, led_there, places_past, popped_answered, pushed, top_led}
use Rattle.wf_order.proofs.Turning.{fewer_behind}
use Rattle.wf_order.proofs.Weights.{left_step, pop_less, try_less, push_less, turns_past}

-- behind a step there is one call less
module _ {M : Type 0} (Effect : ObjectCall → M → M → Reply → Type 0) (history : List (Event ObjectCall Reply)) (processes : ℕ) (rows : Rows) (are : AreRows history processes rows) where
  left_one : (c d : Configuration M) (id : CallId) → IsStep Effect history c id d → left (map length (begun_rows rows)) d.counts + 1 ≡ left (map length (begun_rows rows)) c.counts
  left_one c d id s =
      let p = s.process in
      let number = s.number in
      let every = are.every_begun id s.call s.begun in
      let size = are.row_count in
      let few = every.0 in
      let row : get_or (map length (begun_rows rows)) id.process 0 ≡ length (row_of (begun_rows rows) id.process) = get_or-map length (begun_rows rows) id.process [] 0 (omega (arith, few, size)) in
      let inside = slice_get_within (row_of (begun_rows rows) id.process) (id.number - 1) every.2 every.3 in
      let set_is : d.counts ≡ set c.counts id.process (get_or c.counts id.process 0 + 1) = s.counts ∙ ap (set c.counts id.process) number in
      ap (λ (l : List ℕ). left (map length (begun_rows rows)) l + 1) set_is
      ∙ left_step (map length (begun_rows rows)) c.counts id.process (get_or c.counts id.process 0) refl p (omega (arith, number, row, inside))

  left_passes : {c d : Configuration M} {ids : List CallId} → Passes Effect history c ids d → left (map length (begun_rows rows)) d.counts + length ids ≡ left (map length (begun_rows rows)) c.counts
  left_passes none_passed = omega arith
  left_passes (one_passed {c} {d} {e} {id} {ids} s reads p) =
      let one = left_one c d id s in
      let rest = left_passes p in
      omega (arith, one, rest)

module _ {M : Type 0} (Effect : ObjectCall → M → M → Reply → Type 0) (history : List (Event ObjectCall Reply)) (processes : ℕ) (rows : Rows) (are : AreRows history processes rows)
    (Led : List CallId → Configuration M → Type 0) (leads_on : LeadsOn Effect history Led) (start : Configuration M) (found : List (Configuration M)) (xs : List Frame) (f : Frame)
    (h : IsSearch Effect history processes Led start found (xs ++ f ∷ [])) where
  abbrev counts_in : Configuration M → List ℕ
  counts_in c = c.counts

  -- the configuration of the frame on top, with its limit
  pub top_at : (c : Configuration M) → slice_get found f.place ≡ Some c → f.next < length history → AreRows history (length c.counts) rows × IsLimit history c.counts f.limit
  top_at c at live =
      let t = top_led Effect history processes Led leads_on start found xs f h live in (
        subst (λ (n : ℕ). AreRows history n rows) (sym (h.sizes c (contains_at found f.place c at))) are,
        subst (λ (x : Configuration M). IsLimit history x.counts f.limit) (one_item found f.place t.0 c t.1 at) t.3,
      )

  pub after_pop : ((c d : Configuration M) (id : CallId) → slice_get found f.place ≡ Some c → IsStep Effect history c id d → BeginsFrom history f.next id → IsAnswered Effect history found c id d) →
      IsSearch Effect history processes Led start found xs × (work processes rows found xs < work processes rows found (xs ++ f ∷ []))
  unfolding work
  after_pop all = (
    popped_answered Effect history processes Led leads_on start found xs f h all,
    pop_less processes (begun_rows rows) (map (λ c. c.counts) found) xs f,
  )

  module _ (c : Configuration M) (at : slice_get found f.place ≡ Some c) (g : Frame) (place : g.place ≡ f.place) (limit : g.limit ≡ f.limit)
      (fewer : turns g.next (begun_rows rows) c.counts + 1 ≤ turns f.next (begun_rows rows) c.counts) where
    counted_here : row_of (map (λ c. c.counts) found) f.place ≡ c.counts
    counted_here =
        let lt = slice_get_within found f.place c at in
        get_or-map counts_in found f.place c [] lt ∙ ap (λ (x : Configuration M). x.counts) (get_or_from_slice_get found f.place c c at)

    fewer_here : turns g.next (begun_rows rows) (row_of (map (λ c. c.counts) found) f.place) + 1 ≤ turns f.next (begun_rows rows) (row_of (map (λ c. c.counts) found) f.place)
    fewer_here = subst (λ (l : List ℕ). turns g.next (begun_rows rows) l + 1 ≤ turns f.next (begun_rows rows) l) (sym counted_here) fewer

    module _ (live : f.next < length history) (d0 d : Configuration M) (step : IsStep Effect history c g.id d0) (ps : List Frame)
        (past : (p : Frame) → Contains ps p → (p.place ≡ f.place) × (length history ≤ p.next)) (passes : Passes Effect history d0 (ids_of ps) d)
        (covers : (all later : List (Configuration M)) → all ≡ found ++ later → IsMet Effect history all c d0 → (id : CallId) (y : Configuration M) (call : ObjectCall) (begun : ℕ) → slice_get history begun ≡ Some (Begin id call) → f.next ≤ begun → begun < g.next →
        IsStep Effect history c id y → IsAnswered Effect history all c id y) where
      left_less : left (map length (begun_rows rows)) d.counts + length ps + 1 ≡ left (map length (begun_rows rows)) (row_of (map (λ c. c.counts) found) f.place)
      left_less =
          let first = left_one Effect history processes rows are c d0 g.id step in
          let rest = left_passes Effect history processes rows are passes in
          let size = length-map ps (λ p. p.id) in
          let counted = ap (left (map length (begun_rows rows))) counted_here in
          omega (arith, first, rest, size, counted)

      nothing_past : (counts : List ℕ) (p : Frame) → Contains ps p → turns p.next (begun_rows rows) counts ≡ 0
      nothing_past counts p there =
          turns_past p.next (begun_rows rows) counts
          (λ q k b at. let lt = slice_get_within history b.place _ (are.begun q k b at) in let le = (past p there).1 in omega (arith, lt, le))

      positive : 0 < processes
      positive = let p = (are.every_begun g.id step.call step.begun).0 in omega (arith, p)

      places_all : (k : ℕ) (x : Frame) → slice_get ((xs ++ g ∷ []) ++ ps) k ≡ Some x → x.place < length (map (λ c. c.counts) found)
      places_all k x here =
          let size = length-map found counts_in in
          let lt = places_past Effect history processes Led leads_on start found xs f g h c at place limit live ps past x (contains_at ((xs ++ g ∷ []) ++ ps) k x here) in
          omega (arith, size, lt)

      old_less : work processes rows found ((xs ++ g ∷ []) ++ ps) < work processes rows found (xs ++ f ∷ [])
      unfolding work
      old_less = try_less processes (begun_rows rows) (map (λ c. c.counts) found) xs f g place fewer_here ps nothing_past d.counts positive left_less

      new_less : (new : Frame) → new.place ≡ length found → work processes rows (found ++ d ∷ []) (((xs ++ g ∷ []) ++ ps) ++ new ∷ []) < work processes rows found (xs ++ f ∷ [])
      unfolding work
      new_less new new_place =
          let count = are.row_count in
          let size = length-map found counts_in in
          let here : row_of (map (λ c. c.counts) found ++ d.counts ∷ []) new.place ≡ d.counts = get_or_at (map (λ c. c.counts) found) d.counts [] [] new.place (size ∙ sym new_place) in
          subst (λ (l : List (List ℕ)). weights processes (begun_rows rows) l (((xs ++ g ∷ []) ++ ps) ++ new ∷ []) < weights processes (begun_rows rows) (map (λ c. c.counts) found) (xs ++ f ∷ []))
          (sym (map-append counts_in found (d ∷ [])))
          (push_less processes (begun_rows rows) (map (λ c. c.counts) found) xs f g place fewer_here ps nothing_past d.counts positive left_less new places_all here (omega (arith, count)))

      pub after_arrival : (more : List (Configuration M)) (stack : List Frame) → IsArrival Effect history d found more ((xs ++ g ∷ []) ++ ps) stack None →
          IsSearch Effect history processes Led start more stack × (work processes rows more stack < work processes rows found (xs ++ f ∷ []))
      after_arrival more stack a =
          elim a.1 [
            | inl old ↦
                subst (λ (l : List (Configuration M)). IsSearch Effect history processes Led start l stack × (work processes rows l stack < work processes rows found (xs ++ f ∷ []))) (sym old.1)
                (subst (λ (l : List Frame). IsSearch Effect history processes Led start found l × (work processes rows found l < work processes rows found (xs ++ f ∷ []))) (sym old.2)
                (advanced_past Effect history processes Led leads_on start found xs f g h c at place limit live ps past (covers found [] (sym (append-nil found)) (ids_of ps, d, passes, inl old.0)), old_less))
            | inr new ↦
                subst (λ (l : List (Configuration M)). IsSearch Effect history processes Led start l stack × (work processes rows l stack < work processes rows found (xs ++ f ∷ []))) (sym new.0)
                (subst (λ (l : List Frame). IsSearch Effect history processes Led start (found ++ d ∷ []) l × (work processes rows (found ++ d ∷ []) l < work processes rows found (xs ++ f ∷ []))) (sym new.2)
                (pushed Effect history processes Led leads_on start found xs f g h c at place limit live ps past d0 d step passes (covers (found ++ d ∷ []) (d ∷ []) refl (ids_of ps, d, passes, inl (Contains-push found d))) a.0 new.1 new.3 new.4 new.5, new_less new.1 new.3))
          ]

      -- or where they lead is stood for
      after_standing : IsStoodFor Effect history found c d → IsSearch Effect history processes Led start found ((xs ++ g ∷ []) ++ ps) × (work processes rows found ((xs ++ g ∷ []) ++ ps) < work processes rows found (xs ++ f ∷ []))
      after_standing stood_for = (
        advanced_past Effect history processes Led leads_on start found xs f g h c at place limit live ps past (covers found [] (sym (append-nil found)) (ids_of ps, d, passes, inr stood_for)),
        old_less,
      )

      pub after_found : (more : List (Configuration M)) (stack : List Frame) (path : List CallId) → IsArrival Effect history d found more ((xs ++ g ∷ []) ++ ps) stack (Some path) →
          (e : Configuration M) × Led path e × IsDone Effect history e
      after_found more stack path a = (
        d,
        subst (λ (l : List CallId). Led l d) (sym a.0) (led_there Effect history processes Led leads_on start found xs f g h c at place limit live ps past d0 d step passes),
        a.1,
      )

      at_arrival : {V : Type 0} (items : V → List CallId) (more : List (Configuration M)) (stack : List Frame) (to : Option V) → IsArrival Effect history d found more ((xs ++ g ∷ []) ++ ps) stack (option_map items to) →
          MatchOption to (IsSearch Effect history processes Led start more stack × (work processes rows more stack < work processes rows found (xs ++ f ∷ [])))
          (λ v. (e : Configuration M) × Led (items v) e × IsDone Effect history e)
      at_arrival items more stack None a = after_arrival more stack a
      at_arrival items more stack (Some v) a = after_found more stack (items v) a

    pub concluded : (live : f.next < length history) {V : Type 0} (items : V → List CallId) (d0 d : Configuration M) (tried passed : List Frame) (more : List (Configuration M)) (stack : List Frame) (to : Option V) →
        IsStep Effect history c g.id d0 →
        ((all later : List (Configuration M)) → all ≡ found ++ later → IsMet Effect history all c d0 → (id : CallId) (y : Configuration M) (call : ObjectCall) (begun : ℕ) → slice_get history begun ≡ Some (Begin id call) → f.next ≤ begun → begun < g.next →
        IsStep Effect history c id y → IsAnswered Effect history all c id y) →
        tried ≡ xs ++ g ∷ [] → IsPassed Effect history f.place d0 d tried passed → IsArrival Effect history d found more passed stack (option_map items to) →
        MatchOption to (IsSearch Effect history processes Led start more stack × (work processes rows more stack < work processes rows found (xs ++ f ∷ [])))
        (λ v. (e : Configuration M) × Led (items v) e × IsDone Effect history e)
    concluded live items d0 d tried passed more stack to step covers t p a =
        at_arrival live d0 d step p.frames p.past p.passes covers items more stack to
        (subst (λ (l : List Frame). IsArrival Effect history d found more l stack (option_map items to)) (p.pushed ∙ ap (λ (l : List Frame). l ++ p.frames) t) a)

    pub stood_for : (live : f.next < length history) (d0 d : Configuration M) (tried passed : List Frame) → IsStep Effect history c g.id d0 →
        ((all later : List (Configuration M)) → all ≡ found ++ later → IsMet Effect history all c d0 → (id : CallId) (y : Configuration M) (call : ObjectCall) (begun : ℕ) → slice_get history begun ≡ Some (Begin id call) → f.next ≤ begun → begun < g.next →
        IsStep Effect history c id y → IsAnswered Effect history all c id y) →
        tried ≡ xs ++ g ∷ [] → IsPassed Effect history f.place d0 d tried passed → IsStoodFor Effect history found c d →
        IsSearch Effect history processes Led start found passed × (work processes rows found passed < work processes rows found (xs ++ f ∷ []))
    stood_for live d0 d tried passed step covers t p stands =
        subst (λ (l : List Frame). IsSearch Effect history processes Led start found l × (work processes rows found l < work processes rows found (xs ++ f ∷ [])))
        (sym (p.pushed ∙ ap (λ (l : List Frame). l ++ p.frames) t))
        (after_standing live d0 d step p.frames p.past p.passes covers stands)

-- a step leaves the number of processes
pub step_rows : {M : Type 0} (Effect : ObjectCall → M → M → Reply → Type 0) (history : List (Event ObjectCall Reply)) (rows : Rows) (c d : Configuration M) (id : CallId) →
    IsStep Effect history c id d → AreRows history (length c.counts) rows → AreRows history (length d.counts) rows
step_rows Effect history rows c d id s are =
    subst (λ (n : ℕ). AreRows history n rows) (sym (length-set c.counts id.process id.number) ∙ ap length (sym s.counts)) are

module _ {M : Type 0} (Effect : ObjectCall → M → M → Reply → Type 0) (history : List (Event ObjectCall Reply)) (c : Configuration M) (id : CallId) (d : Configuration M) where
  -- a silent call is tried
  pub silent_covers : (all : List (Configuration M)) → IsMet Effect history all c d → (other : CallId) (e : Configuration M) → IsSilentStep Effect history c id d → IsAnswered Effect history all c other e
  silent_covers all there other e silent = inr (inl (record { id = id; to = d; step = silent.0; silent = silent.1; there = there }))

  -- what was to be tried next is tried
  pub attempt_covers : (processes : ℕ) (Led : List CallId → Configuration M → Type 0) (leads_on : LeadsOn Effect history Led) (start : Configuration M) (rows : Rows) (found : List (Configuration M)) (from next : ℕ) → IsAttempt Effect history rows found c from next id d →
      (all later : List (Configuration M)) → all ≡ found ++ later → IsMet Effect history all c d → (other : CallId) (e : Configuration M) (call : ObjectCall) (begun : ℕ) → slice_get history begun ≡ Some (Begin other call) → from ≤ begun → begun < next →
      IsStep Effect history c other e → IsAnswered Effect history all c other e
  attempt_covers processes Led leads_on start rows found from next a all later is there other e call begun at le lt s =
      elim (a.covers other e call begun at le lt s) [
        | inl answered ↦ subst (λ (l : List (Configuration M)). IsAnswered Effect history l c other e) (sym is) (answered_grown Effect history processes Led leads_on start found later c other e answered)
        | inr same ↦ inl (subst (λ (x : Configuration M). IsMet Effect history all c x) (sym same) there)
      ]

-- The step is the one that is tried: fewer turns are left, and what begins up to the next place was tried, or need not be.
pub record IsTried {M : Type 0} (Effect : ObjectCall → M → M → Reply → Type 0) (history : List (Event ObjectCall Reply)) (rows : Rows) (found : List (Configuration M)) (c : Configuration M) (from next : ℕ) (id : CallId) (d : Configuration M) : Type 0 where
  pub step : IsStep Effect history c id d
  pub fewer : turns next (begun_rows rows) c.counts + 1 ≤ turns from (begun_rows rows) c.counts
  pub covers : (all later : List (Configuration M)) → all ≡ found ++ later → IsMet Effect history all c d → (other : CallId) (e : Configuration M) (call : ObjectCall) (begun : ℕ) → slice_get history begun ≡ Some (Begin other call) → from ≤ begun → begun < next →
      IsStep Effect history c other e → IsAnswered Effect history all c other e

module _ {M : Type 0} (Effect : ObjectCall → M → M → Reply → Type 0) (history : List (Event ObjectCall Reply)) (processes : ℕ) (Led : List CallId → Configuration M → Type 0) (leads_on : LeadsOn Effect history Led) (start : Configuration M)
    (rows : Rows) (found : List (Configuration M)) (c : Configuration M) (are : AreRows history (length c.counts) rows) (limit : ℕ) (bound : IsLimit history c.counts limit) (from next process : ℕ) (after : M) where
  chosen_is : IsChoice Effect history rows found c from limit next process after → IsTried Effect history rows found c from next (call_at process (get_or c.counts process 0)) (one_more c.counts process after)
  chosen_is (inl try) = record {
    step = try.step;
    fewer = try.fewer;
    covers = attempt_covers Effect history c (call_at process (get_or c.counts process 0)) (one_more c.counts process after) processes Led leads_on start rows found from next try;
  }
  chosen_is (inr silent) =
      let id = call_at process (get_or c.counts process 0) in
      let d = one_more c.counts process after in
      let fewer = fewer_behind Effect history rows c are limit bound from silent.1 id d silent.0.0 in
      record {
        step = silent.0.0;
        fewer = subst (λ (n : ℕ). turns n (begun_rows rows) c.counts + 1 ≤ turns from (begun_rows rows) c.counts) (sym silent.2) fewer;
        covers = λ all later is there other e call begun at le lt s. silent_covers Effect history c id d all there other e silent.0;
      }

  -- what is chosen is tried, by its name and by what is found there
  pub chosen_tried : (id : CallId) (d : Configuration M) → id ≡ call_at process (get_or c.counts process 0) → d ≡ one_more c.counts process after → IsChoice Effect history rows found c from limit next process after →
      IsTried Effect history rows found c from next id d
  chosen_tried id d id_is there choice =
      subst (λ (i : CallId). IsTried Effect history rows found c from next i d) (sym id_is)
      (subst (λ (x : Configuration M). IsTried Effect history rows found c from next (call_at process (get_or c.counts process 0)) x) (sym there) (chosen_is choice))
