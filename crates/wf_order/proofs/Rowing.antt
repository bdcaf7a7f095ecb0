-- What the rows of a whole history say of its calls, and those of its first events.
use Rattle.std.proofs.Common.{◌≡◌, refl, sym, ap, ◌∙◌, subst, ℕ, ◌+◌, ◌-◌, ◌<◌, ◌≤◌, zero, suc, Bool, List, [], ◌∷◌, length, map, take, get_or, Option, Some, None, Vec, Global, arith, inl, inr, if◌then◌else◌}
use Rattle.std.proofs.lemmas.Bool.{cases_lt, le-ltb, lt-ltb}
use Rattle.std.proofs.lemmas.List.{length-map, length-take-le}
use Rattle.std.proofs.lemmas.Option.{slice_get_within}
use Rattle.std.specs.List.{slice_get, Contains}
use Rattle.ob_interface.specs.Call.{ObjectCall, Reply}
use Rattle.wf_history.specs.declared.event.CallId.{CallId}
use Rattle.wf_history.specs.History.{Event, Begin, End, IsHistory, own_calls, own_answers}
use Rattle.wf_history.specs.Legal.{HasBegun}
use Rattle.wf_history.proofs.Once.{one_begin, one_end}
use Rattle.wf_history.proofs.Positions.{contains_at, one_item, place_in_take, place_of, place_take, same_call}
use Rattle.wf_history.specs.View.{seen_call, seen_reply}
use Rattle.wf_order.specs.declared.rows.Begun.{Begun}
use Rattle.wf_order.specs.declared.rows.Ended.{Ended}
use Rattle.wf_order.specs.declared.kept_rows.KeptRows.{KeptRows}
use Rattle.wf_order.specs.declared.kept_rows.Rows.{Rows}
use Rattle.wf_order.specs.Rising.{up_to, EachRises, Rises}
use Rattle.wf_order.specs.Rows.{call_at, row_of, begun_rows, ended_rows, total, AreKept, AreNoted, AreRows}
use Rattle.wf_lookup.specs.Beginnings.{AreOfProcesses}
use Rattle.wf_order.proofs.Places.{ends_in_turn}
use Rattle.wf_lookup.proofs.Turns.{slice_get_some, begun_at, has_begun, has_ended, take_whole}

-- of items, those that lie before a place
module _ {A : Type 0} (place_of : A → ℕ) (place : ℕ) where
  first_kept : (a : A) (items : List A) → place_of a < place → up_to place_of place (a ∷ items) ≡ a ∷ up_to place_of place items
  first_kept a items lt = ap (λ (b : Bool). if b then a ∷ up_to place_of place items else []) (lt-ltb (place_of a) place lt)

  none_kept : (a : A) (items : List A) → place ≤ place_of a → up_to place_of place (a ∷ items) ≡ []
  none_kept a items le = ap (λ (b : Bool). if b then a ∷ up_to place_of place items else []) (le-ltb (place_of a) place le)

  -- what is kept stands where it stood
  pub kept_item : (items : List A) (k : ℕ) (a : A) → slice_get (up_to place_of place items) k ≡ Some a → (slice_get items k ≡ Some a) × (place_of a < place)
  kept_item [] k a h = absurd (cc)
  kept_item (x ∷ items) zero a h =
      elim (cases_lt (place_of x) place) [
        | inl lt ↦
            let first = ap (λ (l : List A). slice_get l 0) (sym (first_kept x items lt)) ∙ h in
            let same : x ≡ a = cc in
            (ap Some same, subst (λ (y : A). place_of y < place) same lt)
        | inr le ↦ let gone = ap (λ (l : List A). slice_get l 0) (sym (none_kept x items le)) ∙ h in absurd (cc)
      ]
  kept_item (x ∷ items) (suc k) a h =
      elim (cases_lt (place_of x) place) [
        | inl lt ↦ kept_item items k a (ap (λ (l : List A). slice_get l (suc k)) (sym (first_kept x items lt)) ∙ h)
        | inr le ↦ let gone = ap (λ (l : List A). slice_get l (suc k)) (sym (none_kept x items le)) ∙ h in absurd (cc)
      ]

  -- and what lies before the place is kept
  pub item_kept : (items : List A) (k : ℕ) (a : A) → Rises place_of items → slice_get items k ≡ Some a → place_of a < place → slice_get (up_to place_of place items) k ≡ Some a
  item_kept [] k a rise h lt = absurd (cc)
  item_kept (x ∷ items) zero a rise h lt =
      let same : x ≡ a = cc in
      ap (λ (l : List A). slice_get l 0) (first_kept x items (subst (λ (y : A). place_of y < place) (sym same) lt)) ∙ ap Some same
  item_kept (x ∷ items) (suc k) a rise h lt =
      let before = rise 0 (suc k) x a (omega arith) refl h in
      ap (λ (l : List A). slice_get l (suc k)) (first_kept x items (omega (arith, before, lt))) ∙
      item_kept items k a (λ i j b c less at_b at_c. rise (suc i) (suc j) b c (omega (arith, less)) at_b at_c) h lt

  -- where one that isn't kept stands none is kept
  pub not_kept : (items : List A) (k : ℕ) (a : A) → slice_get items k ≡ Some a → place ≤ place_of a → slice_get (up_to place_of place items) k ≡ None
  not_kept items k a h le = none (slice_get (up_to place_of place items) k) refl
    where
      none : (o : Option A) → slice_get (up_to place_of place items) k ≡ o → o ≡ None
      none None at = refl
      none (Some b) at =
          let own = kept_item items k b at in
          let same = one_item items k a b h own.0 in
          let early = own.1 in
          absurd (omega (arith, ap place_of same, le, early))

  pub nothing_kept : (items : List A) (k : ℕ) → slice_get items k ≡ None → slice_get (up_to place_of place items) k ≡ None
  nothing_kept items k h = none (slice_get (up_to place_of place items) k) refl
    where
      none : (o : Option A) → slice_get (up_to place_of place items) k ≡ o → o ≡ None
      none None at = refl
      none (Some b) at = let own = sym h ∙ (kept_item items k b at).0 in absurd (cc)

  fewer : (items : List A) → length (up_to place_of place items) ≤ length items
  fewer [] = omega arith
  fewer (x ∷ items) =
      elim (cases_lt (place_of x) place) [
        | inl lt ↦ let size = ap length (first_kept x items lt) in let rest = fewer items in omega (arith, size, rest)
        | inr le ↦ let size = ap length (none_kept x items le) in omega (arith, size)
      ]

  module _ {V : Type 0} (items_of : V → List A) where
    -- of rows
    pub rows_up : (rows : List V) (p : ℕ) → row_of (map (λ row. up_to place_of place (items_of row)) rows) p ≡ up_to place_of place (row_of (map items_of rows) p)
    rows_up [] p = refl
    rows_up (row ∷ rows) zero = refl
    rows_up (row ∷ rows) (suc p) = rows_up rows p

    pub total_fewer : (rows : List V) → total (map (λ row. up_to place_of place (items_of row)) rows) ≤ total (map items_of rows)
    total_fewer [] = omega arith
    total_fewer (row ∷ rows) = let own = fewer (items_of row) in let rest = total_fewer rows in omega (arith, own, rest)

behind_all : {A : Type 0} (items : List A) (k : ℕ) → length items ≤ k → slice_get items k ≡ None
behind_all [] k le = refl
behind_all (a ∷ items) zero le = absurd (omega (arith, le))
behind_all (a ∷ items) (suc k) le = behind_all items k (omega (arith, le))

item_there : {A : Type 0} (items : List A) (k : ℕ) (a : A) → k < length items → a ≡ get_or items k a → slice_get items k ≡ Some a
item_there [] k a lt h = absurd (omega (arith, lt))
item_there (x ∷ items) zero a lt h = ap Some (sym h)
item_there (x ∷ items) (suc k) a lt h = item_there items k a (omega (arith, lt)) h

-- the row of a process is that which was read
pub row_read : {V A : Type 0} (items_of : V → List A) (rows : List V) (p : ℕ) (row : V) → p < length rows → row ≡ get_or rows p row → row_of (map items_of rows) p ≡ items_of row
row_read items_of [] p row lt h = absurd (omega (arith, lt))
row_read items_of (x ∷ rows) zero row lt h = ap items_of (sym h)
row_read items_of (x ∷ rows) (suc p) row lt h = row_read items_of rows p row (omega (arith, lt)) h

-- what is read of a row, as far as a place
module _ {A V : Type 0} (place_of : A → ℕ) (place : ℕ) (items_of : V → List A) (rows : List V) (p k : ℕ) (row : List A) (is : row_of (map items_of rows) p ≡ row) where
  abbrev Reads : Option A → Type 0
  Reads o = slice_get (row_of (map (λ r. up_to place_of place (items_of r)) rows) p) k ≡ o

  read : (o : Option A) → slice_get (up_to place_of place row) k ≡ o → Reads o
  read o at = ap (λ (l : List A). slice_get l k) (rows_up place_of place items_of rows p ∙ ap (up_to place_of place) is) ∙ at

  pub reads_none : length row ≤ k → Reads None
  reads_none le = read None (nothing_kept place_of place row k (behind_all row k le))

  pub reads_late : (a : A) → k < length row → a ≡ get_or row k a → place ≤ place_of a → Reads None
  reads_late a lt h late = read None (not_kept place_of place row k a (item_there row k a lt h) late)

  pub reads_item : EachRises place_of (map items_of rows) → (a : A) → k < length row → a ≡ get_or row k a → place_of a < place → Reads (Some a)
  reads_item rise a lt h early =
      read (Some a) (item_kept place_of place row k a (subst (λ (l : List A). Rises place_of l) is (rise p)) (item_there row k a lt h) early)

-- the calls of a process begin in turn
begins_in_turn : (history : List (Event ObjectCall Reply)) → IsHistory history → (p j k : ℕ) (c d : ObjectCall) (i m : ℕ) → j < k →
    slice_get history i ≡ Some (Begin (call_at p j) c) → slice_get history m ≡ Some (Begin (call_at p k) d) → i < m
begins_in_turn history whole p j k c d i m less at_j at_k =
    let front = take (m + 1) history in
    let front_whole = take_whole (m + 1) history whole in
    let later = has_begun front front_whole (call_at p k) d (contains_at front m (Begin (call_at p k) d) (place_in_take (m + 1) history m (Begin (call_at p k) d) at_k (omega arith))) in
    let many = slice_get_within (own_calls p front) (k + 1 - 1) d later.1 in
    let own = slice_get_some (own_calls p front) j (omega (arith, many, less)) in
    let earlier = place_of front (Begin (call_at p j) own.0) (begun_at front front_whole p j own.0 own.1) in
    let there = place_take (m + 1) history earlier.0 (Begin (call_at p j) own.0) earlier.1 in
    let same = one_begin history whole (call_at p j) earlier.0 i own.0 c there.0 at_j in
    let within = there.1 in
    elim (cases_lt i m) [
      | inl lt ↦ lt
      | inr le ↦
          let is : i ≡ m = omega (arith, le, within, same) in
          let both = one_item history i (Begin (call_at p j) c) (Begin (call_at p k) d) at_j (ap (slice_get history) is ∙ at_k) in
          let number : j + 1 ≡ k + 1 = begun_number both in
          absurd (omega (arith, number, less))
    ]
  where
    begun_number : {a b : CallId} {x y : ObjectCall} → ◌≡◌ {A = Event ObjectCall Reply} (Begin a x) (Begin b y) → a.number ≡ b.number
    begun_number e = cc

-- in what was noted the places rise
module _ (history : List (Event ObjectCall Reply)) (whole : IsHistory history) (processes : ℕ) (begun : List (List Begun)) (ended : List (List Ended)) (noted : AreNoted history processes begun ended) where
  pub begun_rises : EachRises (λ b. b.place) begun
  begun_rises p = λ j k a b less at_a at_b. begins_in_turn history whole p j k (seen_call a.call) (seen_call b.call) a.place b.place less (noted.begun_at p j a at_a) (noted.begun_at p k b at_b)

  pub ended_rises : EachRises (λ e. e.place) ended
  ended_rises p = λ j k a b less at_a at_b.
      ends_in_turn history whole (call_at p j) (call_at p k) (seen_reply a.reply) (seen_reply b.reply) a.place b.place refl (omega (arith, less)) (noted.ended_at p j a at_a) (noted.ended_at p k b at_b)

-- what stands in a row of all items
abbrev begun_row : Rows → ℕ → List Begun
begun_row rows p = row_of (map (λ row. row.items) rows.begun.now) p

abbrev ended_row : Rows → ℕ → List Ended
ended_row rows p = row_of (map (λ row. row.items) rows.ended.now) p

begun_up : (rows : Rows) (p : ℕ) → row_of (begun_rows rows) p ≡ up_to (λ b. b.place) rows.events (begun_row rows p)
begun_up rows p = rows_up (λ b. b.place) rows.events (λ row. row.items) rows.begun.now p

ended_up : (rows : Rows) (p : ℕ) → row_of (ended_rows rows) p ≡ up_to (λ e. e.place) rows.events (ended_row rows p)
ended_up rows p = rows_up (λ e. e.place) rows.events (λ row. row.items) rows.ended.now p

module _ (rows : Rows) (p k : ℕ) where
  begun_kept : (b : Begun) → slice_get (row_of (begun_rows rows) p) k ≡ Some b → (slice_get (begun_row rows p) k ≡ Some b) × (b.place < rows.events)
  begun_kept b at = kept_item (λ b. b.place) rows.events (begun_row rows p) k b (ap (λ (l : List Begun). slice_get l k) (sym (begun_up rows p)) ∙ at)

  kept_begun : (b : Begun) → slice_get (begun_row rows p) k ≡ Some b → b.place < rows.events → slice_get (row_of (begun_rows rows) p) k ≡ Some b
  kept_begun b at lt = ap (λ (l : List Begun). slice_get l k) (begun_up rows p) ∙ item_kept (λ b. b.place) rows.events (begun_row rows p) k b (rows.begun_rise p) at lt

  ended_kept : (e : Ended) → slice_get (row_of (ended_rows rows) p) k ≡ Some e → (slice_get (ended_row rows p) k ≡ Some e) × (e.place < rows.events)
  ended_kept e at = kept_item (λ e. e.place) rows.events (ended_row rows p) k e (ap (λ (l : List Ended). slice_get l k) (sym (ended_up rows p)) ∙ at)

  kept_ended : (e : Ended) → slice_get (ended_row rows p) k ≡ Some e → e.place < rows.events → slice_get (row_of (ended_rows rows) p) k ≡ Some e
  kept_ended e at lt = ap (λ (l : List Ended). slice_get l k) (ended_up rows p) ∙ item_kept (λ e. e.place) rows.events (ended_row rows p) k e (rows.ended_rise p) at lt

count_of : (rows : Rows) → length (begun_rows rows) ≡ length (map (λ row. row.items) rows.begun.now)
count_of rows = length-map rows.begun.now (λ row. up_to (λ b. b.place) rows.events row.items) ∙ sym (length-map rows.begun.now (λ row. row.items))

-- the rows of all events
module _ (history : List (Event ObjectCall Reply)) (whole : IsHistory history) (processes : ℕ) (few : AreOfProcesses processes history)
    (rows : Rows) (noted : AreNoted history processes (map (λ row. row.items) rows.begun.now) (map (λ row. row.items) rows.ended.now)) (events : rows.events ≡ length history) where
  each_begun : (id : CallId) (call : ObjectCall) → HasBegun history id call →
      (id.process < processes) × (0 < id.number) × (b : Begun) × (slice_get (row_of (begun_rows rows) id.process) (id.number - 1) ≡ Some b)
  each_begun id call h =
      let lt : id.process < processes = few (Begin id call) h in
      let r = has_begun history whole id call h in
      let inside = slice_get_within (own_calls id.process history) (id.number - 1) call r.1 in
      let size = noted.calls id.process lt in
      let found = slice_get_some (begun_row rows id.process) (id.number - 1) (omega (arith, inside, size)) in
      let within = slice_get_within history found.0.place _ (noted.begun_at id.process (id.number - 1) found.0 found.1) in
      (lt, r.0, found.0, kept_begun rows id.process (id.number - 1) found.0 found.1 (omega (arith, within, events)))

  each_ended : (id : CallId) (reply : Reply) → Contains history (End id reply) →
      (id.process < processes) × (0 < id.number) × (e : Ended) × (slice_get (row_of (ended_rows rows) id.process) (id.number - 1) ≡ Some e)
  each_ended id reply h =
      let lt : id.process < processes = few (End id reply) h in
      let r = has_ended history whole id reply h in
      let inside = slice_get_within (own_answers id.process history) (id.number - 1) (id, reply) r.1 in
      let size = noted.replies id.process lt in
      let found = slice_get_some (ended_row rows id.process) (id.number - 1) (omega (arith, inside, size)) in
      let within = slice_get_within history found.0.place _ (noted.ended_at id.process (id.number - 1) found.0 found.1) in
      (lt, r.0, found.0, kept_ended rows id.process (id.number - 1) found.0 found.1 (omega (arith, within, events)))

  pub rows_are : AreRows history processes rows
  rows_are = record {
    whole = whole;
    events = events;
    row_count = count_of rows ∙ noted.begun_count;
    begun = λ p k b at. noted.begun_at p k b (begun_kept rows p k b at).0;
    every_begun = each_begun;
    ended = λ p k e at. noted.ended_at p k e (ended_kept rows p k e at).0;
    every_ended = each_ended;
  }

-- the rows of the first events
module _ (history : List (Event ObjectCall Reply)) (processes : ℕ) (rows : Rows) (are : AreRows history processes rows) (count : ℕ) (within : count ≤ length history)
    (first : Rows) (begun_same : first.begun.now ≡ rows.begun.now) (ended_same : first.ended.now ≡ rows.ended.now) (events : first.events ≡ count) where
  same_begun : (p : ℕ) → begun_row first p ≡ begun_row rows p
  same_begun p = ap (λ l. row_of (map (λ row. row.items) l) p) begun_same

  same_ended : (p : ℕ) → ended_row first p ≡ ended_row rows p
  same_ended p = ap (λ l. row_of (map (λ row. row.items) l) p) ended_same

  first_begun : (p k : ℕ) (b : Begun) → slice_get (row_of (begun_rows first) p) k ≡ Some b → slice_get (take count history) b.place ≡ Some (Begin (call_at p k) (seen_call b.call))
  first_begun p k b at =
      let own = begun_kept first p k b at in
      let early = own.1 in
      let size = are.events in
      let all = kept_begun rows p k b (ap (λ (l : List Begun). slice_get l k) (sym (same_begun p)) ∙ own.0) (omega (arith, early, events, within, size)) in
      place_in_take count history b.place _ (are.begun p k b all) (omega (arith, early, events))

  first_ended : (p k : ℕ) (e : Ended) → slice_get (row_of (ended_rows first) p) k ≡ Some e → slice_get (take count history) e.place ≡ Some (End (call_at p k) (seen_reply e.reply))
  first_ended p k e at =
      let own = ended_kept first p k e at in
      let early = own.1 in
      let size = are.events in
      let all = kept_ended rows p k e (ap (λ (l : List Ended). slice_get l k) (sym (same_ended p)) ∙ own.0) (omega (arith, early, events, within, size)) in
      place_in_take count history e.place _ (are.ended p k e all) (omega (arith, early, events))

  every_first_begun : (id : CallId) (call : ObjectCall) → HasBegun (take count history) id call →
      (id.process < processes) × (0 < id.number) × (b : Begun) × (slice_get (row_of (begun_rows first) id.process) (id.number - 1) ≡ Some b)
  every_first_begun id call h =
      let k = place_of (take count history) (Begin id call) h in
      let there = place_take count history k.0 (Begin id call) k.1 in
      let own = are.every_begun id call (contains_at history k.0 (Begin id call) there.0) in
      let positive = own.1 in
      let b = own.2 in
      let named : call_at id.process (id.number - 1) ≡ id = same_call (call_at id.process (id.number - 1)) id refl (omega (arith, positive)) in
      let at : slice_get history b.place ≡ Some (Begin id (seen_call b.call)) = are.begun id.process (id.number - 1) b own.3 ∙ ap (λ (i : CallId). Some (Begin i (seen_call b.call))) named in
      let same = one_begin history are.whole id b.place k.0 (seen_call b.call) call at there.0 in
      let early = there.1 in
      let all = begun_kept rows id.process (id.number - 1) b own.3 in
      (own.0, own.1, b, kept_begun first id.process (id.number - 1) b (ap (λ (l : List Begun). slice_get l (id.number - 1)) (same_begun id.process) ∙ all.0) (omega (arith, same, early, events)))

  every_first_ended : (id : CallId) (reply : Reply) → Contains (take count history) (End id reply) →
      (id.process < processes) × (0 < id.number) × (e : Ended) × (slice_get (row_of (ended_rows first) id.process) (id.number - 1) ≡ Some e)
  every_first_ended id reply h =
      let k = place_of (take count history) (End id reply) h in
      let there = place_take count history k.0 (End id reply) k.1 in
      let own = are.every_ended id reply (contains_at history k.0 (End id reply) there.0) in
      let positive = own.1 in
      let e = own.2 in
      let named : call_at id.process (id.number - 1) ≡ id = same_call (call_at id.process (id.number - 1)) id refl (omega (arith, positive)) in
      let at : slice_get history e.place ≡ Some (End id (seen_reply e.reply)) = are.ended id.process (id.number - 1) e own.3 ∙ ap (λ (i : CallId). Some (End i (seen_reply e.reply))) named in
      let same = one_end history are.whole id e.place k.0 (seen_reply e.reply) reply at there.0 in
      let early = there.1 in
      let all = ended_kept rows id.process (id.number - 1) e own.3 in
      (own.0, own.1, e, kept_ended first id.process (id.number - 1) e (ap (λ (l : List Ended). slice_get l (id.number - 1)) (same_ended id.process) ∙ all.0) (omega (arith, same, early, events)))

  pub first_are : AreRows (take count history) processes first
  first_are = record {
    whole = take_whole count history are.whole;
    events = events ∙ sym (length-take-le count history within);
    row_count = count_of first ∙ ap (λ l. length (map (λ row. row.items) l)) begun_same ∙ sym (count_of rows) ∙ are.row_count;
    begun = first_begun;
    every_begun = every_first_begun;
    ended = first_ended;
    every_ended = every_first_ended;
  }

-- the rows of what is kept
module _ (history : List (Event ObjectCall Reply)) (processes : ℕ) (kept : KeptRows) (rows : Rows) (begun : rows.begun.now ≡ kept.begun.items) (ended : rows.ended.now ≡ kept.ended.items) (events : rows.events ≡ kept.events)
    (are : AreKept history processes kept) where
  noted_rows : AreNoted history processes (map (λ row. row.items) rows.begun.now) (map (λ row. row.items) rows.ended.now)
  noted_rows =
      subst (λ l. AreNoted history processes (map (λ row. row.items) l) (map (λ row. row.items) rows.ended.now)) (sym begun)
      (subst (λ l. AreNoted history processes (map (λ row. row.items) kept.begun.items) (map (λ row. row.items) l)) (sym ended) are.noted)

  pub rows_of_kept : AreRows history processes rows
  rows_of_kept = rows_are history are.whole processes are.few rows noted_rows (events ∙ are.events)

-- and how many calls are in them
pub few_of_kept : (history : List (Event ObjectCall Reply)) (processes : ℕ) (kept : KeptRows) → AreKept history processes kept → (begun : List (Vec Begun Global)) → begun ≡ kept.begun.items →
    total (map (λ row. up_to (λ b. b.place) kept.events row.items) begun) ≤ length history
few_of_kept history processes kept are begun same =
    let fewer = total_fewer (λ b. b.place) kept.events (λ row. row.items) begun in
    let all = ap (λ l. total (map (λ row. row.items) l)) same in
    let few = are.noted.few in
    omega (arith, fewer, all, few)
