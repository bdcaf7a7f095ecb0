-- What was found of all events, in the first ones.
use Rattle.std.proofs.Common.{◌≡◌, refl, sym, ap, ◌∙◌, subst, ℕ, ◌+◌, ◌-◌, ◌<◌, ◌≤◌, List, [], ◌∷◌, ◌++◌, length, map, take, get_or, Some, option_map, true, false, arith, ◌⊎◌, inl, inr}
use Rattle.std.proofs.lemmas.Bool.{cases_lt}
use Rattle.std.proofs.lemmas.List.{length-take-le}
use Rattle.std.proofs.lemmas.List.Elements.{Contains-append_cases, Contains-append_left, Contains-append_right, Contains-push, Contains-push_cases}
use Rattle.std.proofs.lemmas.Option.{slice_get-map, slice_get_within}
use Rattle.std.specs.List.{slice_get, Contains}
use Rattle.ob_interface.specs.Call.{ObjectCall, Reply}
use Rattle.wf_history.specs.declared.event.CallId.{CallId}
use Rattle.wf_history.specs.History.{Event, Begin, End, Before, IsHistory}
use Rattle.wf_history.specs.Legal.{HasBegun}
use Rattle.wf_history.specs.View.{seen_reply}
use Rattle.wf_history.proofs.Positions.{place_of, place_here, place_left, place_push, place_take, place_in_take, contains_at, same_call}
use Rattle.wf_history.proofs.Once.{one_begin, one_call, one_end}
use Rattle.wf_order.specs.declared.kept_rows.Rows.{Rows}
use Rattle.wf_order.specs.declared.search.Frame.{Frame}
use Rattle.wf_order.specs.declared.seen.Found.{Found}
use Rattle.wf_order.specs.Fronts.{AreFramed, AreSized, EndsBefore, IsFarthest, IsFresh}
use Rattle.wf_order.specs.Rows.{AreRows, call_at, ended_rows, row_of}
use Rattle.wf_order.specs.Rules.{ComesFirst, ends, open_ones, IsAnswered, IsBehind, IsIdle, IsMet, IsOpen, IsSilent, IsSo, IsStoodFor, Passes, none_passed, one_passed}
use Rattle.wf_order.specs.Search.{found_in, IsLed, IsSearch, IsWholeSearch}
use Rattle.wf_order.specs.Steps.{Configuration, IsTaken, IsLimit, IsStep, Leads, none, more, start_at}
use Rattle.wf_order.specs.Turns.{BeginsFrom}
use Rattle.wf_order.specs.Verdict.{HasLegal}
use Rattle.wf_order.proofs.Beginnings.{legal_before, nothing_legal}
use Rattle.wf_order.proofs.Completeness.{none_taken}
use Rattle.wf_order.proofs.Exchange.{IsNext, own_number, own_within}
use Rattle.wf_order.proofs.Keeping.{mapped_some}
use Rattle.wf_order.proofs.Places.{before_at, places_before}
use Rattle.wf_order.proofs.Searching.{leads_push}
use Rattle.wf_order.proofs.Soundness.{step_grows, taken_back, taken_now}
use Rattle.wf_lookup.proofs.Turns.{take_whole}

module _ {State Call Reply : Type 0} (Effect : Call → State → State → Reply → Type 0) (history : List (Event Call Reply)) (whole : IsHistory history) (count : ℕ) where
  in_front : (event : Event Call Reply) (k : ℕ) → slice_get history k ≡ Some event → k < count → Contains (take count history) event
  in_front event k at lt = contains_at (take count history) k event (place_in_take count history k event at lt)

  of_front : (event : Event Call Reply) → Contains (take count history) event → Contains history event
  of_front event h =
      let k = place_of (take count history) event h in
      contains_at history k.0 event (place_take count history k.0 event k.1).0

  before_of_front : (a b : CallId) → Before (take count history) a b → Before history a b
  before_of_front a b bef =
      let p = places_before (take count history) bef in
      before_at history a b p.0 p.1 p.2 p.3 p.4 (place_take count history p.2 (End a p.0) p.5).0 (place_take count history p.3 (Begin b p.1) p.6).0

  -- where a call that ends in the front is not taken, a step is one in the front
  module _ (a : CallId) (reply : Reply) (place : ℕ) (at : slice_get history place ≡ Some (End a reply)) (lt : place < count) where
    step_front : (c d : Configuration State) (id : CallId) → IsStep Effect history c id d → ¬ IsTaken c.counts a → IsStep Effect (take count history) c id d
    step_front c d id s undone =
        let p = place_of history (Begin id s.call) s.begun in
        let early : p.0 < count = elim (cases_lt p.0 count) [
          | inl less ↦ less
          | inr ge ↦ absurd (undone (s.earlier a (before_at history a id reply s.call place p.0 (omega (arith, lt, ge)) at p.1)))
        ] in
        record {
          call = s.call;
          begun = in_front (Begin id s.call) p.0 p.1 early;
          process = s.process;
          number = s.number;
          earlier = λ b bef. s.earlier b (before_of_front b id bef);
          reply = s.reply;
          effect = s.effect;
          agrees = λ other ended. s.agrees other (of_front (End id other) ended);
          counts = s.counts;
        }

    not_before : (c d : Configuration State) (id : CallId) → IsStep Effect history c id d → ¬ IsTaken d.counts a → ¬ IsTaken c.counts a
    not_before c d id s undone taken = undone (step_grows Effect history c d id s a taken)

    leads_front : {c e : Configuration State} {ids : List CallId} → Leads Effect history c ids e → ¬ IsTaken e.counts a → Leads Effect (take count history) c ids e × ¬ IsTaken c.counts a
    leads_front none undone = (none, undone)
    leads_front (more {c} {d} {e} {id} {ids} s l) undone =
        let rest = leads_front l undone in
        let here = not_before c d id s rest.1 in
        (more (step_front c d id s here) rest.0, here)

    passes_front : {c e : Configuration State} {ids : List CallId} → Passes Effect history c ids e → ¬ IsTaken e.counts a → Passes Effect (take count history) c ids e × ¬ IsTaken c.counts a
    passes_front none_passed undone = (none_passed, undone)
    passes_front (one_passed {c} {d} {e} {id} {ids} s reads l) undone =
        let rest = passes_front l undone in
        let here = not_before c d id s rest.1 in
        (one_passed (step_front c d id s here) (λ call before after reply begun effect. reads call before after reply (of_front (Begin id call) begun) effect) rest.0, here)

  -- where each end of its call is in the front, a step in the front is one
  begun_before_front : (id : CallId) (call : Call) → HasBegun (take count history) id call → (a : CallId) → Before history a id → Before (take count history) a id
  begun_before_front id call begun a bef =
      let p = places_before history bef in
      let k = place_of (take count history) (Begin id call) begun in
      let t = place_take count history k.0 (Begin id call) k.1 in
      let same = one_begin history whole id p.3 k.0 p.1 call p.6 t.0 in
      let less = p.4 in
      let early = t.1 in
      before_at (take count history) a id p.0 p.1 p.2 p.3 p.4 (place_in_take count history p.2 (End a p.0) p.5 (omega (arith, less, same, early)))
      (place_in_take count history p.3 (Begin id p.1) p.6 (omega (arith, same, early)))

  module _ (c d : Configuration State) (id : CallId) (s : IsStep Effect (take count history) c id d) where
    step_whole : ((reply : Reply) (k : ℕ) → slice_get history k ≡ Some (End id reply) → k < count) → IsStep Effect history c id d
    step_whole early = record {
      call = s.call;
      begun = of_front (Begin id s.call) s.begun;
      process = s.process;
      number = s.number;
      earlier = λ a bef. s.earlier a (begun_before_front id s.call s.begun a bef);
      reply = s.reply;
      effect = s.effect;
      agrees = λ other ended. let k = place_of history (End id other) ended in s.agrees other (in_front (End id other) k.0 k.1 (early other k.0 k.1));
      counts = s.counts;
    }

  -- what comes first does so in the front, where its end is there
  first_front : (a b : CallId) → ((reply : Reply) (k : ℕ) → slice_get history k ≡ Some (End a reply) → k < count) → ComesFirst history a b → ComesFirst (take count history) a b
  first_front a b early (ends f) = ends (record {
    place = f.place;
    reply = f.reply;
    at = place_in_take count history f.place (End a f.reply) f.at (early f.reply f.place f.at);
    later = λ other r at. f.later other r (place_take count history other (End b r) at).0;
  })
  first_front a b early (open_ones over over_other less) =
      open_ones (λ reply ended. over reply (of_front (End a reply) ended)) (λ reply ended. over_other reply (of_front (End b reply) ended)) less

  silent_front : (id : CallId) → ((reply : Reply) (k : ℕ) → slice_get history k ≡ Some (End id reply) → k < count) → IsSilent Effect history id → IsSilent Effect (take count history) id
  silent_front id early quiet =
      let k = place_of history (End id quiet.reply) quiet.ended in
      record {
        reply = quiet.reply;
        ended = in_front (End id quiet.reply) k.0 k.1 (early quiet.reply k.0 k.1);
        leaves = λ call before after begun effect. quiet.leaves call before after (of_front (Begin id call) begun) effect;
      }

  -- a configuration has one limit
  limit_least : (counts : List ℕ) (limit other : ℕ) → IsLimit history counts limit → IsLimit history counts other → limit ≤ other
  limit_least counts limit other is at =
      elim (cases_lt other limit) [
        | inl lt ↦
            let within = is.within in
            let f = at.first (omega (arith, lt, within)) in
            absurd (f.3 (is.taken f.0 f.1 other f.2 lt))
        | inr ge ↦ ge
      ]

  limit_front : (counts : List ℕ) (limit : ℕ) → limit < count → count ≤ length history → IsLimit history counts limit → IsLimit (take count history) counts limit
  limit_front counts limit lt within is =
      let size = length-take-le count history within in
      record {
        within = omega (arith, size, lt);
        taken = λ a reply place at less. is.taken a reply place (place_take count history place (End a reply) at).0 less;
        first = λ less.
            let f = is.first (omega (arith, lt, within)) in
            (f.0, f.1, place_in_take count history limit (End f.0 f.1) f.2 lt, f.3);
      }

abbrev pub counts_in : {M : Type 0} → Configuration M → List ℕ
counts_in c = c.counts

Contains-counts : {M : Type 0} (found : List (Configuration M)) (c : Configuration M) → Contains found c → Contains (map counts_in found) c.counts
Contains-counts found c h =
    let k = place_of found c h in
    contains_at (map counts_in found) k.0 c.counts (slice_get-map counts_in found k.0 ∙ ap (option_map counts_in) k.1)

module _ {M : Type 0} (Effect : ObjectCall → M → M → Reply → Type 0) (history : List (Event ObjectCall Reply)) (processes : ℕ) (rows : Rows) (are : AreRows history processes rows) (count : ℕ) where
  -- the next call of a configuration ends in the front, if it ends
  next_early : (c : Configuration M) (id : CallId) → EndsBefore rows c.counts count → id.process < length c.counts → id.number ≡ get_or c.counts id.process 0 + 1 →
      (reply : Reply) (k : ℕ) → slice_get history k ≡ Some (End id reply) → k < count
  next_early c id before process number reply k at =
      let every = are.every_ended id reply (contains_at history k (End id reply) at) in
      let positive = every.1 in
      let place : id.number - 1 ≡ get_or c.counts id.process 0 = omega (arith, number) in
      let lt = before id.process every.2 process (ap (slice_get (row_of (ended_rows rows) id.process)) (sym place) ∙ every.3) in
      let own = are.ended id.process (id.number - 1) every.2 every.3 in
      let same : call_at id.process (id.number - 1) ≡ id = same_call (call_at id.process (id.number - 1)) id refl (omega (arith, positive)) in
      let once = one_end history are.whole id every.2.place k (seen_reply every.2.reply) reply (subst (λ (i : CallId). slice_get history every.2.place ≡ Some (End i (seen_reply every.2.reply))) same own) at in
      omega (arith, lt, once)

  ends_early : (c d : Configuration M) (id : CallId) (part : List (Event ObjectCall Reply)) → EndsBefore rows c.counts count → IsStep Effect part c id d →
      (reply : Reply) (k : ℕ) → slice_get history k ≡ Some (End id reply) → k < count
  ends_early c d id part before s = next_early c id before s.process s.number

  open_front : (id : CallId) → IsOpen history id → IsOpen (take count history) id
  open_front id opened reply ended = opened reply (of_front Effect history are.whole count (End id reply) ended)

  -- a step behind one by an open call is one of all events
  step_behind_open : (c d e : Configuration M) (id next : CallId) → EndsBefore rows c.counts count → IsStep Effect (take count history) c id d → IsOpen history id → IsStep Effect (take count history) d next e → IsStep Effect history d next e
  step_behind_open c d e id next before s opened t =
      let front = take count history in
      let in_turn : IsNext Effect front c.counts id = record { process = s.process; number = s.number } in
      step_whole Effect history are.whole count d e next t
      (next_early c next before (own_within Effect front (take_whole count history are.whole) id (open_front id opened) c d e next in_turn s.counts t)
      (own_number Effect front (take_whole count history are.whole) id (open_front id opened) c d e next in_turn s.counts t))

  module _ (start : Configuration M) (nothing : (a : CallId) → IsTaken start.counts a → ⊥) (found : List (Configuration M)) (h : IsSearch Effect history processes (IsLed Effect history true start) start found [])
      (farthest : ℕ) (far : IsFarthest history (map counts_in found) farthest) (less : farthest < count) (within : count ≤ length history) where
    -- of each configuration an end in the front is not taken
    undone : (c : Configuration M) → Contains found c → (a : CallId) × (reply : Reply) × (place : ℕ) × (slice_get history place ≡ Some (End a reply)) × (place < count) × ¬ IsTaken c.counts a
    undone c in_found =
        let w = far.all c.counts (Contains-counts found c in_found) in
        let le = w.within in
        let f = w.is.first (omega (arith, le, less, within)) in
        (f.0, f.1, w.limit, f.2, omega (arith, le, less), f.3)

    reached_front : (c : Configuration M) → Contains found c → (path : List CallId) × Leads Effect (take count history) start path c
    reached_front c in_found =
        let u = undone c in_found in
        let r = h.reached c in_found in
        (r.0, (leads_front Effect history are.whole count u.0 u.1 u.2 u.3 u.4 r.1 u.5).0)

    to_front : (c d : Configuration M) (id : CallId) → Contains found c → IsStep Effect history c id d → IsStep Effect (take count history) c id d
    to_front c d id in_found s = let u = undone c in_found in step_front Effect history are.whole count u.0 u.1 u.2 u.3 u.4 c d id s u.5

    behind_front : (c d : Configuration M) (id : CallId) → Contains found c → EndsBefore rows c.counts count → IsStep Effect (take count history) c id d → IsBehind Effect history c id → IsBehind Effect (take count history) c id
    unfolding to_front step_front
    behind_front c d id in_found before s b =
        let t = to_front c b.to b.sooner in_found b.step in
        record {
          sooner = b.sooner;
          to = b.to;
          step = t;
          call = b.call;
          same = subst (λ (x : ObjectCall). HasBegun (take count history) b.sooner x) (one_call history are.whole b.sooner b.step.call b.call b.step.begun b.same) t.begun;
          own = subst (λ (x : ObjectCall). HasBegun (take count history) id x) (one_call history are.whole id s.call b.call (of_front Effect history are.whole count (Begin id s.call) s.begun) b.own) s.begun;
          first = first_front Effect history are.whole count b.sooner id (ends_early c b.to b.sooner history before b.step) b.first;
        }

    idle_front : (c d : Configuration M) (id : CallId) → Contains found c → EndsBefore rows c.counts count → IsStep Effect (take count history) c id d → IsIdle Effect history c id d → IsIdle Effect (take count history) c id d
    idle_front c d id in_found before s idle = record {
      opened = open_front id idle.opened;
      without = λ next e t.
          let own = step_behind_open c d e id next before s idle.opened t in
          elim (idle.without next e own) [
            | inl leaves ↦ inl (open_front next leaves.0, leaves.1)
            | inr alike ↦ inr (alike.0, to_front c alike.0 next in_found alike.1, alike.2)
          ];
    }

    -- where what is taken has begun in the front, calls that only read lead where they lead among all events
    step_begun : (c d : Configuration M) (id : CallId) → (s : IsStep Effect history c id d) → ((k : ℕ) → slice_get history k ≡ Some (Begin id s.call) → k < count) → IsStep Effect (take count history) c id d
    step_begun c d id s early =
        let p = place_of history (Begin id s.call) s.begun in
        record {
          call = s.call;
          begun = in_front Effect history are.whole count (Begin id s.call) p.0 p.1 (early p.0 p.1);
          process = s.process;
          number = s.number;
          earlier = λ b bef. s.earlier b (before_of_front Effect history are.whole count b id bef);
          reply = s.reply;
          effect = s.effect;
          agrees = λ other ended. s.agrees other (of_front Effect history are.whole count (End id other) ended);
          counts = s.counts;
        }

    abbrev HaveBegun : List ℕ → Type 0
    HaveBegun counts = (id : CallId) (call : ObjectCall) (k : ℕ) → IsTaken counts id → slice_get history k ≡ Some (Begin id call) → k < count

    passes_begun : {c d : Configuration M} {ids : List CallId} → Passes Effect history c ids d → HaveBegun d.counts → Passes Effect (take count history) c ids d × HaveBegun c.counts
    passes_begun none_passed begun = (none_passed, begun)
    passes_begun (one_passed {c} {d} {e} {id} {ids} s reads l) begun =
        let rest = passes_begun l begun in
        let grown = step_grows Effect history c d id s in
        let own : IsTaken d.counts id = subst (λ (l : List ℕ). IsTaken l id) (sym s.counts) (taken_now c.counts id s.process s.number) in (
          one_passed (step_begun c d id s (λ k at. rest.1 id s.call k own at)) (λ call before after reply begun effect. reads call before after reply (of_front Effect history are.whole count (Begin id call) begun) effect) rest.0,
          λ other call k taken at. rest.1 other call k (grown other taken) at,
        )

    -- what leads from a start without calls to a configuration in the front has begun there
    leads_begun : {c e : Configuration M} {ids : List CallId} → Leads Effect (take count history) c ids e → HaveBegun c.counts → HaveBegun e.counts
    leads_begun none begun = begun
    leads_begun (more {c} {d} {e} {id} {ids} s l) begun =
        leads_begun l
        (λ other call k taken at. elim (taken_back c.counts id s.process s.number other (subst (λ (l : List ℕ). IsTaken l other) s.counts taken)) [
          | inl old ↦ begun other call k old at
          | inr same ↦
              let p = place_of (take count history) (Begin id s.call) s.begun in
              let t = place_take count history p.0 (Begin id s.call) p.1 in
              let once = one_begin history are.whole id k p.0 call s.call (subst (λ (i : CallId). slice_get history k ≡ Some (Begin i call)) (sym same) at) t.0 in
              let early = t.1 in
              omega (arith, once, early)
        ])

    so_front : (to : Configuration M) (before : M) (next : CallId) (call : ObjectCall) → IsSo Effect history to before next call → IsSo Effect (take count history) to before next call
    so_front to before next call so = elim so [
      | inl does ↦ inl does
      | inr reads ↦ inr (
        (λ other start after reply begun effect. reads.0 other start after reply (of_front Effect history are.whole count (Begin next other) begun) effect),
        elim reads.1 [
          | inl opened ↦ inl (open_front next opened)
          | inr differs ↦
              let k = place_of history (End next differs.reply) differs.ended in
              elim (cases_lt k.0 count) [
                | inl lt ↦ inr (record { reply = differs.reply; ended = in_front Effect history are.whole count (End next differs.reply) k.0 k.1 lt; other = differs.other })
                | inr ge ↦ inl (λ reply ended.
                    let j = place_of (take count history) (End next reply) ended in
                    let t = place_take count history j.0 (End next reply) j.1 in
                    let once = one_end history are.whole next j.0 k.0 reply differs.reply t.0 k.1 in
                    let early = t.1 in
                    omega (arith, once, early, ge))
              ]
        ],
      )
    ]

    -- a configuration that stands for another one does so in the front
    standing_front : (c to : Configuration M) → (h : IsStoodFor Effect history found c to) → IsStoodFor Effect (take count history) found c to × HaveBegun to.counts
    standing_front c to stood_for =
        let first = stood_for.first in
        let stands = stood_for.stands in
        let in_found = contains_at found stands.place first stands.at in
        let step = to_front first stood_for.last stood_for.id in_found stood_for.step in
        let reached = reached_front first in_found in
        let begun : HaveBegun stood_for.last.counts = leads_begun (leads_push Effect (take count history) reached.1 step) (λ id call k taken at. absurd (nothing id taken)) in (
          record {
            first = first;
            stands = stands;
            id = stood_for.id;
            last = stood_for.last;
            step = step;
            counts = stood_for.counts;
            so = λ next call may. so_front to stood_for.last.state next call
                (stood_for.so next call (record {
                  begun = of_front Effect history are.whole count (Begin next call) may.begun;
                  process = may.process;
                  number = may.number;
                  earlier = λ a bef. may.earlier a (begun_before_front Effect history are.whole count next call may.begun a bef);
                }));
          },
          subst HaveBegun stood_for.counts begun,
        )

    -- calls that only read lead in the front where they lead among all events
    met_front : (c d : Configuration M) → IsMet Effect history found c d → IsMet Effect (take count history) found c d
    met_front c d met = elim met.3 [
      | inl there ↦
          let u = undone met.1 there in
          (met.0, met.1, (passes_front Effect history are.whole count u.0 u.1 u.2 u.3 u.4 met.2 u.5).0, inl there)
      | inr stood_for ↦
          let front = standing_front c met.1 stood_for in
          (met.0, met.1, (passes_begun met.2 front.1).0, inr front.0)
    ]

    answered_front : (c d : Configuration M) (id : CallId) → Contains found c → EndsBefore rows c.counts count → IsStep Effect (take count history) c id d → IsAnswered Effect history found c id d → IsAnswered Effect (take count history) found c id d
    answered_front c d id in_found before s answered =
        elim answered [
          | inl seen ↦ inl (met_front c d seen)
          | inr rules ↦ elim rules [
            | inl forced ↦ inr (inl (record {
              id = forced.id;
              to = forced.to;
              step = to_front c forced.to forced.id in_found forced.step;
              silent = silent_front Effect history are.whole count forced.id (ends_early c forced.to forced.id history before forced.step) forced.silent;
              there = met_front c forced.to forced.there;
            }))
            | inr others ↦ inr (inr (elim others [
              | inl behind ↦ inl (behind_front c d id in_found before s behind)
              | inr idle ↦ inr (idle_front c d id in_found before s idle)
            ]))
          ]
        ]

    closed : (c d : Configuration M) (id : CallId) → Contains found c → IsStep Effect history c id d → IsAnswered Effect history found c id d
    closed c d id in_found s = elim (h.next c d id in_found s) [ inl seen ↦ seen | inr left ↦ let p = place_of [] left.0 left.1 in let e = p.1 in absurd (cc) ]

    module _ (frames : List Frame) (framed : AreFramed history rows (map counts_in found) count frames) where
      next_front : (c d : Configuration M) (id : CallId) → Contains found c → IsStep Effect (take count history) c id d →
          IsAnswered Effect (take count history) found c id d ⊎ ((f : Frame) × Contains frames f × (slice_get found f.place ≡ Some c) × BeginsFrom (take count history) f.next id)
      next_front c d id in_found s =
          let k = place_of found c in_found in
          elim (framed.all k.0 c.counts (slice_get-map counts_in found k.0 ∙ ap (option_map counts_in) k.1)) [
            | inl before ↦
                inl (answered_front c d id in_found before s
                (closed c d id in_found (step_whole Effect history are.whole count c d id s (ends_early c d id (take count history) before s))))
            | inr frame ↦
                let fresh = framed.fresh frame.0 frame.1 in
                let next = fresh.next in
                let p = place_of (take count history) (Begin id s.call) s.begun in
                inr (frame.0, frame.1, ap (slice_get found) frame.2 ∙ k.1, record { call = s.call; place = p.0; at = p.1; behind = omega (arith, next) })
          ]

      -- Law: what was found of all events was found of the first ones, but for the frames.
      pub search_front : IsSearch Effect (take count history) processes (IsLed Effect (take count history) false start) start found frames
      search_front = record {
        start_found = h.start_found;
        sizes = h.sizes;
        places = λ f in_frames.
            let fresh = framed.fresh f in_frames in
            let own = mapped_some counts_in (slice_get found f.place) fresh.counts (sym (slice_get-map counts_in found f.place) ∙ fresh.at) in
            slice_get_within found f.place own.0 own.1;
        led = λ k f at live.
            let in_frames = contains_at frames k f at in
            let fresh = framed.fresh f in_frames in
            let own = mapped_some counts_in (slice_get found f.place) fresh.counts (sym (slice_get-map counts_in found f.place) ∙ fresh.at) in
            let in_found = contains_at found f.place own.0 own.1 in
            let limit = subst (λ (l : List ℕ). IsLimit history l f.limit) (sym own.2) fresh.limit in
            let w = far.all own.0.counts (Contains-counts found own.0 in_found) in
            let le = w.within in
            let least = limit_least Effect history are.whole count own.0.counts f.limit w.limit limit w.is in
            (own.0, own.1, reached_front own.0 in_found, limit_front Effect history are.whole count own.0.counts f.limit (omega (arith, least, le, less)) within limit);
        reached = λ c in_found. ([], reached_front c in_found);
        not_done = λ c in_found done.
            let u = undone c in_found in
            u.5 (done u.0 u.1 (in_front Effect history are.whole count (End u.0 u.1) u.2 u.3 u.4));
        next = next_front;
      }

abbrev pub kept_counts : {State : Type 0} → Found State → List ℕ
kept_counts f = f.counts.items

-- the counts of what was found are those of what is kept
pub counts_kept : {State M : Type 0} (meaning : State → M) (keys : List (Found State)) → map counts_in (map (found_in meaning) keys) ≡ map (λ f. f.counts.items) keys
counts_kept meaning [] = refl
counts_kept meaning (f ∷ fs) = ap (λ (l : List (List ℕ)). f.counts.items ∷ l) (counts_kept meaning fs)

-- the configuration of counts that were found
found_at : {M : Type 0} (found : List (Configuration M)) (counts : List ℕ) → Contains (map counts_in found) counts → (c : Configuration M) × Contains found c × (c.counts ≡ counts)
found_at found counts h =
    let k = place_of (map counts_in found) counts h in
    let own = mapped_some counts_in (slice_get found k.0) counts (sym (slice_get-map counts_in found k.0) ∙ k.1) in
    (own.0, contains_at found k.0 own.0 own.1, own.2)

module _ {State M : Type 0} (meaning : State → M) (Effect : ObjectCall → M → M → Reply → Type 0) (history : List (Event ObjectCall Reply)) (processes : ℕ) (opening : M) (keys : List (Found State))
    (h : IsWholeSearch Effect opening history processes (map (found_in meaning) keys)) where
  pub sized : AreSized processes (map (λ f. f.counts.items) keys)
  sized counts in_keys =
      let own = found_at (map (found_in meaning) keys) counts (subst (λ (l : List (List ℕ)). Contains l counts) (sym (counts_kept meaning keys)) in_keys) in
      sym (ap length own.2) ∙ h.sizes own.0 own.1

  module _ (farthest : ℕ) (far : IsFarthest history (map (λ f. f.counts.items) keys) farthest) where
    far_found : IsFarthest history (map counts_in (map (found_in meaning) keys)) farthest
    far_found = subst (λ (l : List (List ℕ)). IsFarthest history l farthest) (sym (counts_kept meaning keys)) far

    -- the first events have a legal order, as far as a configuration goes that was found
    pub farthest_legal : HasLegal Effect opening (take farthest history)
    farthest_legal =
        elim far_found.one [
          | inl zero ↦ subst (λ (n : ℕ). HasLegal Effect opening (take n history)) (sym zero) (nothing_legal Effect opening)
          | inr some ↦
              let own = found_at (map (found_in meaning) keys) some.0 some.1 in
              let r = h.reached own.0 own.1 in
              legal_before Effect history processes opening r.0 own.0 farthest r.1 (subst (λ (l : List ℕ). IsLimit history l farthest) (sym own.2) some.2)
        ]

    pub search_of_front : (rows : Rows) → AreRows history processes rows → (count : ℕ) → farthest < count → count ≤ length history → (frames : List Frame) → AreFramed history rows (map (λ f. f.counts.items) keys) count frames →
        IsSearch Effect (take count history) processes (IsLed Effect (take count history) false (start_at processes opening)) (start_at processes opening) (map (found_in meaning) keys) frames
    search_of_front rows are count less within frames framed =
        search_front Effect history processes rows are count (start_at processes opening) (none_taken processes) (map (found_in meaning) keys) h farthest far_found less within frames
        (subst (λ (l : List (List ℕ)). AreFramed history rows l count frames) (sym (counts_kept meaning keys)) framed)

module _ (history : List (Event ObjectCall Reply)) where
  -- of nothing
  pub farthest_start : IsFarthest history [] 0
  farthest_start = record { all = λ c h. let p = place_of [] c h in let e = p.1 in absurd (cc); one = inl refl }

  -- of one
  pub farthest_one : (counts : List ℕ) (limit : ℕ) → IsLimit history counts limit → IsFarthest history (counts ∷ []) limit
  farthest_one counts limit at = record {
    all = λ x h. elim (Contains-push_cases [] counts x h) [
      | inl old ↦ let p = place_of [] x old in let e = p.1 in absurd (cc)
      | inr same ↦ record { limit = limit; is = subst (λ (l : List ℕ). IsLimit history l limit) same at; within = omega arith }
    ];
    one = inr (counts, Contains-push [] counts, at);
  }

  -- of one that is there already
  pub farthest_again : (taken : List (List ℕ)) (counts : List ℕ) (farthest : ℕ) → Contains taken counts → IsFarthest history (counts ∷ taken) farthest → IsFarthest history taken farthest
  farthest_again taken counts farthest there h = record {
    all = λ x at. h.all x (Contains-append_right (counts ∷ []) taken x at);
    one = elim h.one [
      | inl zero ↦ inl zero
      | inr some ↦ inr (
        some.0,
        elim (Contains-append_cases (counts ∷ []) taken some.0 some.1) [
          | inl own ↦ elim (Contains-push_cases [] counts some.0 own) [
            | inl nothing ↦ let p = place_of [] some.0 nothing in let e = p.1 in absurd (cc)
            | inr same ↦ subst (λ (l : List ℕ). Contains taken l) same there
          ]
          | inr old ↦ old
        ],
        some.2,
      )
    ];
  }

  -- of one more, which goes farther
  pub farther_new : (taken : List (List ℕ)) (counts : List ℕ) (farthest limit : ℕ) → farthest < limit → IsFarthest history taken farthest → IsLimit history counts limit → IsFarthest history (taken ++ counts ∷ []) limit
  farther_new taken counts farthest limit lt h at = record {
    all = λ x in_more. elim (Contains-push_cases taken counts x in_more) [
      | inl old ↦ let w = h.all x old in let le = w.within in record { limit = w.limit; is = w.is; within = omega (arith, le, lt) }
      | inr same ↦ record { limit = limit; is = subst (λ (l : List ℕ). IsLimit history l limit) same at; within = omega arith }
    ];
    one = inr (counts, Contains-push taken counts, at);
  }

  -- or does not
  pub farther_old : (taken : List (List ℕ)) (counts : List ℕ) (farthest limit : ℕ) → limit ≤ farthest → IsFarthest history taken farthest → IsLimit history counts limit → IsFarthest history (taken ++ counts ∷ []) farthest
  farther_old taken counts farthest limit le h at = record {
    all = λ x in_more. elim (Contains-push_cases taken counts x in_more) [
      | inl old ↦ h.all x old
      | inr same ↦ record { limit = limit; is = subst (λ (l : List ℕ). IsLimit history l limit) same at; within = le }
    ];
    one = elim h.one [
      | inl zero ↦ inl zero
      | inr some ↦ inr (some.0, Contains-append_left taken (counts ∷ []) some.0 some.1, some.2)
    ];
  }

  module _ (rows : Rows) (place : ℕ) where
    pub framed_start : AreFramed history rows [] place []
    framed_start = record { fresh = λ f h. let p = place_of [] f h in let e = p.1 in absurd (cc); all = λ k c at. absurd (cc) }

    fresh_left : (taken : List (List ℕ)) (counts : List ℕ) (f : Frame) → IsFresh history taken f → IsFresh history (taken ++ counts ∷ []) f
    fresh_left taken counts f h = record { counts = h.counts; at = place_left taken (counts ∷ []) f.place h.counts h.at; next = h.next; limit = h.limit }

    -- one more, without a frame
    pub framed_none : (taken : List (List ℕ)) (counts : List ℕ) (frames : List Frame) → EndsBefore rows counts place → AreFramed history rows taken place frames → AreFramed history rows (taken ++ counts ∷ []) place frames
    framed_none taken counts frames before h = record {
      fresh = λ f there. fresh_left taken counts f (h.fresh f there);
      all = λ k x at. elim (place_push taken counts k x at) [
        | inl old ↦ h.all k x old
        | inr new ↦ inl (subst (λ (l : List ℕ). EndsBefore rows l place) new.1 before)
      ];
    }

    -- one more, with one
    pub framed_one : (taken : List (List ℕ)) (counts : List ℕ) (frames : List Frame) (f : Frame) → f.place ≡ length taken → f.next ≡ 0 → IsLimit history counts f.limit → AreFramed history rows taken place frames →
        AreFramed history rows (taken ++ counts ∷ []) place (frames ++ f ∷ [])
    framed_one taken counts frames f is next limit h = record {
      fresh = λ g there. elim (Contains-push_cases frames f g there) [
        | inl old ↦ fresh_left taken counts g (h.fresh g old)
        | inr same ↦ subst (λ (x : Frame). IsFresh history (taken ++ counts ∷ []) x) same
            (record { counts = counts; at = ap (slice_get (taken ++ counts ∷ [])) is ∙ place_here taken [] counts; next = next; limit = limit })
      ];
      all = λ k x at. elim (place_push taken counts k x at) [
        | inl old ↦ elim (h.all k x old) [
          | inl before ↦ inl before
          | inr frame ↦ inr (frame.0, Contains-append_left frames (f ∷ []) frame.0 frame.1, frame.2)
        ]
        | inr new ↦ inr (f, Contains-push frames f, is ∙ sym new.0)
      ];
    }
