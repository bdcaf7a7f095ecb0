-- Which call is tried next, and that each try leaves fewer.
use Rattle.std.proofs.Common.{◌≡◌, refl, sym, ap, ◌∙◌, subst, ℕ, ◌+◌, ◌-◌, ◌<◌, ◌≤◌, zero, suc, List, [], ◌∷◌, ◌++◌, length, get_or, Option, Some, None, arith, inl, inr}
use Rattle.std.proofs.lemmas.Bool.{cases_lt}
use Rattle.std.proofs.lemmas.Option.{same_Some}
use Rattle.std.proofs.lemmas.List.Elements.{Contains-append_left, Contains-push, Contains-push_cases}
use Rattle.std.specs.List.{Contains, slice_get}
use Rattle.ob_interface.specs.Call.{ObjectCall, Reply}
use Rattle.wf_history.specs.declared.event.CallId.{CallId}
use Rattle.wf_history.specs.History.{Event, Begin}
use Rattle.wf_history.specs.View.{seen_call}
use Rattle.wf_history.proofs.Once.{one_begin}
use Rattle.wf_history.proofs.Positions.{place_of, one_item, same_call}
use Rattle.wf_order.specs.declared.rows.Begun.{Begun}
use Rattle.wf_order.specs.declared.kept_rows.Rows.{Rows}
use Rattle.wf_order.specs.declared.next_call.Next.{Next}
use Rattle.wf_order.specs.declared.next_call.Turn.{Turn}
use Rattle.wf_order.specs.Rows.{AreRows, begun_rows, call_at, row_of}
use Rattle.wf_order.specs.Steps.{Configuration, IsLimit, IsStep}
use Rattle.wf_order.specs.Turns.{AreTurns, BeginsFrom, IsFirstIn, IsFirstTurn, IsNext, IsNextOf, one_from, turns}
use Rattle.wf_order.proofs.Limits.{limit_later}

one_at_most : (from : ℕ) (next : Option Begun) → one_from from next ≤ 1
one_at_most from None = omega arith
one_at_most from (Some b) = omega arith

one_fewer : (from to : ℕ) (next : Option Begun) → from ≤ to → one_from to next ≤ one_from from next
one_fewer from to None le = omega arith
one_fewer from to (Some b) le = omega (arith, le)

one_less : (from to : ℕ) (next : Option Begun) (b : Begun) → next ≡ Some b → from ≤ b.place → b.place < to → one_from to next + 1 ≤ one_from from next
one_less from to next b e low high =
    let old : one_from from next ≡ 1 - (from - b.place) = ap (one_from from) e in
    let new : one_from to next ≡ 1 - (to - b.place) = ap (one_from to) e in
    omega (arith, old, new, low, high)

-- there are no more than processes
pub turns_all : (from : ℕ) (rows : List (List Begun)) (counts : List ℕ) → turns from rows counts ≤ length rows
turns_all from [] counts = omega arith
turns_all from (row ∷ rows) [] = let a = one_at_most from (slice_get row 0) in let r = turns_all from rows [] in omega (arith, a, r)
turns_all from (row ∷ rows) (count ∷ counts) = let a = one_at_most from (slice_get row count) in let r = turns_all from rows counts in omega (arith, a, r)

pub turns_fewer : (from to : ℕ) (rows : List (List Begun)) (counts : List ℕ) → from ≤ to → turns to rows counts ≤ turns from rows counts
turns_fewer from to [] counts le = omega arith
turns_fewer from to (row ∷ rows) [] le = let a = one_fewer from to (slice_get row 0) le in let r = turns_fewer from to rows [] le in omega (arith, a, r)
turns_fewer from to (row ∷ rows) (count ∷ counts) le = let a = one_fewer from to (slice_get row count) le in let r = turns_fewer from to rows counts le in omega (arith, a, r)

-- behind a call that was one there is one less
pub turns_less : (from to : ℕ) (rows : List (List Begun)) (counts : List ℕ) (p : ℕ) (b : Begun) → slice_get (row_of rows p) (get_or counts p 0) ≡ Some b → from ≤ b.place → b.place < to →
    turns to rows counts + 1 ≤ turns from rows counts
turns_less from to [] counts p b e low high = absurd (cc)
turns_less from to (row ∷ rows) [] zero b e low high =
    let a = one_less from to (slice_get row 0) b e low high in
    let r = turns_fewer from to rows [] (omega (arith, low, high)) in
    omega (arith, a, r)
turns_less from to (row ∷ rows) [] (suc p) b e low high =
    let a = one_fewer from to (slice_get row 0) (omega (arith, low, high)) in
    let r = turns_less from to rows [] p b e low high in
    omega (arith, a, r)
turns_less from to (row ∷ rows) (count ∷ counts) zero b e low high =
    let a = one_less from to (slice_get row count) b e low high in
    let r = turns_fewer from to rows counts (omega (arith, low, high)) in
    omega (arith, a, r)
turns_less from to (row ∷ rows) (count ∷ counts) (suc p) b e low high =
    let a = one_fewer from to (slice_get row count) (omega (arith, low, high)) in
    let r = turns_less from to rows counts p b e low high in
    omega (arith, a, r)

module _ (rows : Rows) (counts : List ℕ) (from limit : ℕ) where
  pub turns_start : AreTurns rows counts 0 from limit []
  turns_start = record {
    all = λ q b lt next low early. absurd (omega (arith, lt));
    own = λ t there. let p = place_of [] t there in let e = p.1 in absurd (cc);
  }

  -- one process more, which has no such call
  pub turns_kept : (p : ℕ) (turns : List Turn) → AreTurns rows counts p from limit turns → ((b : Begun) → IsNext rows counts p b → from ≤ b.place → b.place < limit → ⊥) →
      AreTurns rows counts (p + 1) from limit turns
  turns_kept p turns h none = record {
    all = λ q b lt next low early. elim (cases_lt q p) [
      | inl less ↦ h.all q b less next low early
      | inr ge ↦
          let same : q ≡ p = omega (arith, lt, ge) in absurd (none b (subst (λ (x : ℕ). IsNext rows counts x b) same next) low early)
    ];
    own = λ t there. let o = h.own t there in (o.0, omega (arith, o.1), o.2, o.3, o.4, o.5);
  }

  -- one process more
  pub turns_more : (p : ℕ) (turns : List Turn) (b : Begun) → AreTurns rows counts p from limit turns → IsNext rows counts p b → from ≤ b.place → b.place < limit →
      AreTurns rows counts (p + 1) from limit (turns ++ record { process = p; place = b.place } ∷ [])
  turns_more p turns b h next low early = record {
    all = λ q other lt is behind before. elim (cases_lt q p) [
      | inl less ↦ Contains-append_left turns _ _ (h.all q other less is behind before)
      | inr ge ↦
          let same : q ≡ p = omega (arith, lt, ge) in
          let here : b ≡ other = same_Some b other (sym next ∙ ap (λ (x : ℕ). slice_get (row_of (begun_rows rows) x) (get_or counts x 0)) (sym same) ∙ is) in
          let turn : ◌≡◌ {A = Turn} (record { process = p; place = b.place }) (record { process = q; place = other.place }) = cc in
          subst (λ (t : Turn). Contains (turns ++ record { process = p; place = b.place } ∷ []) t) turn (Contains-push turns _)
    ];
    own = λ t there. elim (Contains-push_cases turns (record { process = p; place = b.place }) t there) [
      | inl before ↦ let o = h.own t before in (o.0, omega (arith, o.1), o.2, o.3, o.4, o.5)
      | inr same ↦ subst (λ (x : Turn). (begun : Begun) × (x.process < p + 1) × IsNext rows counts x.process begun × (begun.place ≡ x.place) × (from ≤ x.place) × (x.place < limit)) same
          (b, omega arith, next, refl, low, early)
    ];
  }

module _ (from limit : ℕ) where
  pub first_none : (turn : Turn) → turn.place ≡ limit → IsFirstIn [] from limit turn
  first_none turn is = record {
    within = omega (arith, is);
    least = λ t there low. let p = place_of [] t there in let e = p.1 in absurd (cc);
    own = λ lt. absurd (omega (arith, lt, is));
  }

  -- one turn more, that comes sooner
  pub first_new : (turns : List Turn) (old new : Turn) → IsFirstIn turns from limit old → from ≤ new.place → new.place < old.place → IsFirstIn (turns ++ new ∷ []) from limit new
  first_new turns old new h low less = record {
    within = let w = h.within in omega (arith, w, less);
    least = λ t there behind. elim (Contains-push_cases turns new t there) [
      | inl before ↦ let le = h.least t before behind in omega (arith, le, less)
      | inr same ↦ let is : new.place ≡ t.place = ap (λ (x : Turn). x.place) same in omega (arith, is)
    ];
    own = λ lt. (Contains-push turns new, low);
  }

  -- one that does not
  pub first_old : (turns : List Turn) (old other : Turn) → IsFirstIn turns from limit old → (from ≤ other.place → old.place ≤ other.place) → IsFirstIn (turns ++ other ∷ []) from limit old
  first_old turns old other h later = record {
    within = h.within;
    least = λ t there behind. elim (Contains-push_cases turns other t there) [
      | inl before ↦ h.least t before behind
      | inr same ↦
          let is : other.place ≡ t.place = ap (λ (x : Turn). x.place) same in
          let le = later (omega (arith, is, behind)) in omega (arith, is, le)
    ];
    own = λ lt. let o = h.own lt in (Contains-append_left turns _ _ o.0, o.1);
  }

-- of all turns behind a place, the first one behind a later place
pub first_of : (rows : Rows) (counts : List ℕ) (low from limit : ℕ) (turns : List Turn) (turn : Turn) → AreTurns rows counts (length counts) low limit turns → low ≤ from → IsFirstIn turns from limit turn →
    IsFirstTurn rows counts from limit turn
first_of rows counts low from limit turns turn are le first = record {
  within = first.within;
  least = λ q b within next behind. elim (cases_lt b.place limit) [
    | inl early ↦ first.least (record { process = q; place = b.place }) (are.all q b within next (omega (arith, le, behind)) early) behind
    | inr late ↦ let w = first.within in omega (arith, w, late)
  ];
  own = λ lt. let there = first.own lt in let o = are.own turn there.0 in (o.0, o.1, o.2, o.3, there.1);
}

-- the same where the counts and the turns are known by another name
pub first_here : (rows : Rows) (counts named : List ℕ) → counts ≡ named → (low from limit : ℕ) (turns given : List Turn) → given ≡ turns → (turn : Turn) →
    AreTurns rows counts (length counts) low limit turns → low ≤ from → IsFirstIn given from limit turn → IsFirstTurn rows named from limit turn
first_here rows counts named same low from limit turns given is turn are le first =
    subst (λ (l : List ℕ). IsFirstTurn rows l from limit turn) same (first_of rows counts low from limit turns turn are le (subst (λ (l : List Turn). IsFirstIn l from limit turn) is first))

-- where a next call begins, as its turn has it
pub next_begins : (rows : Rows) (counts named : List ℕ) → named ≡ counts → (turn : Turn) (next : Next) → next.process ≡ turn.process → IsNextOf rows named next → (b : Begun) → IsNext rows counts turn.process b → b.place ≡ turn.place →
    next.begun.place ≡ turn.place
next_begins rows counts named same turn next own is b at place =
    let row = λ (l : List ℕ) (q : ℕ). slice_get (row_of (begun_rows rows) q) (get_or l q 0) in
    let there : Some next.begun ≡ Some b = sym is.begun ∙ ap (λ (l : List ℕ). row l next.process) same ∙ ap (row counts) own ∙ at in
    ap (λ (x : Begun). x.place) (same_Some next.begun b there) ∙ place

same_begin : (a b : CallId) (x y : ObjectCall) → ◌≡◌ {A = Event ObjectCall Reply} (Begin a x) (Begin b y) → a ≡ b
same_begin a b x y e = cc

module _ {M : Type 0} (Effect : ObjectCall → M → M → Reply → Type 0) (history : List (Event ObjectCall Reply)) (rows : Rows) (c : Configuration M) (are : AreRows history (length c.counts) rows)
    (limit : ℕ) (bound : IsLimit history c.counts limit) where
  -- a step's call is its process's next one, and begins before the limit
  pub next_is : (id : CallId) (d : Configuration M) → IsStep Effect history c id d → (call : ObjectCall) (place : ℕ) → slice_get history place ≡ Some (Begin id call) →
      (b : Begun) × IsNext rows c.counts id.process b × (b.place ≡ place) × (place < limit)
  next_is id d s call place at =
      let every = are.every_begun id s.call s.begun in
      let number = s.number in
      let k : id.number - 1 ≡ get_or c.counts id.process 0 = omega (arith, number) in
      let next : IsNext rows c.counts id.process every.2 = ap (slice_get (row_of (begun_rows rows) id.process)) (sym k) ∙ every.3 in
      let same : call_at id.process (get_or c.counts id.process 0) ≡ id = same_call (call_at id.process (get_or c.counts id.process 0)) id refl (omega (arith, number)) in
      let there : slice_get history every.2.place ≡ Some (Begin id (seen_call every.2.call)) =
      subst (λ (i : CallId). slice_get history every.2.place ≡ Some (Begin i (seen_call every.2.call))) same (are.begun id.process (get_or c.counts id.process 0) every.2 next) in (
        every.2,
        next,
        one_begin history are.whole id every.2.place place (seen_call every.2.call) call there at,
        elim (cases_lt place limit) [
          | inl lt ↦ lt
          | inr ge ↦ absurd (limit_later history c.counts limit bound are.whole id call place at ge s.earlier)
        ],
      )

  -- a step leaves fewer turns behind the limit
  pub fewer_behind : (from : ℕ) → from ≡ 0 → (id : CallId) (d : Configuration M) → IsStep Effect history c id d → turns limit (begun_rows rows) c.counts + 1 ≤ turns from (begun_rows rows) c.counts
  fewer_behind from none id d s =
      let p = place_of history (Begin id s.call) s.begun in
      let n = next_is id d s s.call p.0 p.1 in
      let place = n.2 in
      let lt = n.3 in
      turns_less from limit (begun_rows rows) c.counts id.process n.0 n.1 (omega (arith, none)) (omega (arith, place, lt))

  module _ (from : ℕ) (turn : Turn) (first : IsFirstTurn rows c.counts from limit turn) where
    -- where there is no turn
    pub none_left : limit ≤ turn.place → (id : CallId) (d : Configuration M) → IsStep Effect history c id d → BeginsFrom history from id → ⊥
    none_left past id d s begins =
        let n = next_is id d s begins.call begins.place begins.at in
        let within = s.process in
        let place = n.2 in
        let lt = n.3 in
        let low = begins.behind in
        let le = first.least id.process n.0 within n.1 (omega (arith, place, low)) in
        omega (arith, past, le, place, lt)

    -- a step whose call begins up to the turn's is of its process
    pub of_turn : turn.place < limit → (id : CallId) (d : Configuration M) (call : ObjectCall) (place : ℕ) → slice_get history place ≡ Some (Begin id call) → from ≤ place → place < turn.place + 1 →
        IsStep Effect history c id d → id.process ≡ turn.process
    of_turn lt id d call place at low high s =
        let n = next_is id d s call place at in
        let is = n.2 in
        let le = first.least id.process n.0 s.process n.1 (omega (arith, is, low)) in
        let own = first.own lt in
        let own_place = own.3 in
        let there = are.begun turn.process (get_or c.counts turn.process 0) own.0 own.2 in
        let same_place : place ≡ own.0.place = omega (arith, is, le, high, own_place) in
        ap (λ (i : CallId). i.process) (same_begin id (call_at turn.process (get_or c.counts turn.process 0)) call (seen_call own.0.call)
        (one_item history place (Begin id call) (Begin (call_at turn.process (get_or c.counts turn.process 0)) (seen_call own.0.call)) at (ap (slice_get history) same_place ∙ there)))

    -- one turn less is left
    pub fewer_left : turn.place < limit → turns (turn.place + 1) (begun_rows rows) c.counts + 1 ≤ turns from (begun_rows rows) c.counts
    fewer_left lt =
        let own = first.own lt in
        let place = own.3 in
        let low = own.4 in
        turns_less from (turn.place + 1) (begun_rows rows) c.counts turn.process own.0 own.2 (omega (arith, place, low)) (omega (arith, place))
