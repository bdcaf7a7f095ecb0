-- A measure of what a search has still to do.
use Rattle.std.proofs.Common.{◌≡◌, refl, ap, ◌∙◌, ℕ, ◌+◌, ◌*◌, ◌<◌, ◌≤◌, zero, suc, List, [], ◌∷◌, ◌++◌, length, map, get_or, set, Option, Some, None, arith}
use Rattle.std.proofs.lemmas.List.{get_or_append_left}
use Rattle.std.proofs.lemmas.List.Elements.{Contains-append_right}
use Rattle.std.specs.List.{slice_get, Contains}
use Rattle.wf_history.proofs.Positions.{contains_at}
use Rattle.wf_order.specs.declared.rows.Begun.{Begun}
use Rattle.wf_order.specs.declared.search.Frame.{Frame}
use Rattle.wf_order.specs.Rows.{row_of}
use Rattle.wf_order.specs.Search.{left, try_cost, weight, weights}
use Rattle.wf_order.specs.Turns.{one_from, turns}
use Rattle.wf_order.proofs.Turning.{turns_all}

pub left_step : (lengths counts : List ℕ) (p k : ℕ) → get_or counts p 0 ≡ k → p < length counts → k < get_or lengths p 0 → left lengths (set counts p (k + 1)) + 1 ≡ left lengths counts
left_step [] counts p k e within less = absurd (omega arith)
left_step (n ∷ lengths) [] p k e within less = absurd (omega arith)
left_step (n ∷ lengths) (c ∷ counts) zero k e within less = omega arith
left_step (n ∷ lengths) (c ∷ counts) (suc p) k e within less = let r = left_step lengths counts p k e (omega arith) less in omega (arith, r)

row_length : {A : Type 0} (rows : List (List A)) (p : ℕ) → length (row_of rows p) ≡ get_or (map length rows) p 0
row_length [] p = refl
row_length (row ∷ rows) zero = refl
row_length (row ∷ rows) (suc p) = row_length rows p

pub left_next : (rows : List (List Begun)) (counts : List ℕ) (p : ℕ) → p < length counts → get_or counts p 0 < length (row_of rows p) → left (map length rows) (set counts p (get_or counts p 0 + 1)) < left (map length rows) counts
left_next rows counts p within inside =
    let row = row_length rows p in
    let e = left_step (map length rows) counts p (get_or counts p 0) refl within (omega (arith, row, inside)) in
    omega (arith, e)

pub weights-append : (n : ℕ) (rows : List (List Begun)) (counted : List (List ℕ)) (xs ys : List Frame) → weights n rows counted (xs ++ ys) ≡ weights n rows counted xs + weights n rows counted ys
weights-append n rows counted [] ys = omega arith
weights-append n rows counted (x ∷ xs) ys = let r = weights-append n rows counted xs ys in omega (arith, r)

-- what is found later changes no weight
pub weights_kept : (n : ℕ) (rows : List (List Begun)) (counted : List (List ℕ)) (one : List ℕ) (xs : List Frame) → ((k : ℕ) (f : Frame) → slice_get xs k ≡ Some f → f.place < length counted) →
    weights n rows (counted ++ one ∷ []) xs ≡ weights n rows counted xs
weights_kept n rows counted one [] h = refl
weights_kept n rows counted one (x ∷ xs) h =
    let r = weights_kept n rows counted one xs (λ k f at. h (suc k) f at) in
    let same : row_of (counted ++ one ∷ []) x.place ≡ row_of counted x.place = get_or_append_left counted (one ∷ []) [] x.place (h 0 x refl) in
    let w : weight n rows (counted ++ one ∷ []) x ≡ weight n rows counted x = ap (λ (l : List ℕ). 1 + turns x.next rows l * try_cost n (left (map length rows) l)) same in
    omega (arith, r, w)

try_positive : (n r : ℕ) → 0 < try_cost n r
try_positive n zero = omega arith
try_positive n (suc r) = omega arith

product : (m a u : ℕ) → m ≡ suc a → m * u ≡ a * u + u
product m a u e = ap (λ (x : ℕ). x * u) e ∙ omega arith

product_le : (m a u : ℕ) → m ≤ a → m * u ≤ a * u
product_le zero a u le = omega arith
product_le (suc m) zero u le = absurd (omega arith)
product_le (suc m) (suc a) u le = let r = product_le m a u (omega arith) in let x = product (suc m) m u refl in let y = product (suc a) a u refl in omega (arith, r, x, y)

-- more calls that are left cost more
costs_rise : (n r k : ℕ) → 0 < n → n * try_cost n r + k ≤ n * try_cost n (k + r)
costs_rise n r zero positive =
    let none : 0 + r ≡ r = omega arith in
    let e = ap (λ (m : ℕ). n * try_cost n m) none in
    omega (arith, e)
costs_rise n r (suc k) positive =
    let rest = costs_rise n r k positive in
    let one : suc k + r ≡ suc (k + r) = omega arith in
    let e : try_cost n (suc k + r) ≡ 2 + n * try_cost n (k + r) = ap (try_cost n) one in
    let le = product_le 1 n (try_cost n (suc k + r)) (omega (arith, positive)) in
    omega (arith, rest, e, le)

one_past : (from : ℕ) (next : Option Begun) → ((b : Begun) → next ≡ Some b → b.place < from) → one_from from next ≡ 0
one_past from None past = refl
one_past from (Some b) past = let lt = past b refl in omega (arith, lt)

-- nothing begins behind the last place
pub turns_past : (from : ℕ) (rows : List (List Begun)) (counts : List ℕ) → ((p k : ℕ) (b : Begun) → slice_get (row_of rows p) k ≡ Some b → b.place < from) → turns from rows counts ≡ 0
turns_past from [] counts past = refl
turns_past from (row ∷ rows) [] past =
    let a = one_past from (slice_get row 0) (λ b e. past 0 0 b e) in
    let r = turns_past from rows [] (λ p k b e. past (suc p) k b e) in
    omega (arith, a, r)
turns_past from (row ∷ rows) (count ∷ counts) past =
    let a = one_past from (slice_get row count) (λ b e. past 0 count b e) in
    let r = turns_past from rows counts (λ p k b e. past (suc p) k b e) in
    omega (arith, a, r)

weights_past : (n : ℕ) (rows : List (List Begun)) (counted : List (List ℕ)) (ps : List Frame) → ((p : Frame) → Contains ps p → turns p.next rows (row_of counted p.place) ≡ 0) → weights n rows counted ps ≡ length ps
weights_past n rows counted [] past = refl
weights_past n rows counted (p ∷ ps) past =
    let e = past p (contains_at (p ∷ ps) 0 p refl) in
    let w : weight n rows counted p ≡ 1 + 0 * try_cost n (left (map length rows) (row_of counted p.place)) = ap (λ (t : ℕ). 1 + t * try_cost n (left (map length rows) (row_of counted p.place))) e in
    let r = weights_past n rows counted ps (λ q there. past q (Contains-append_right (p ∷ []) ps q there)) in
    omega (arith, w, r)

module _ (n : ℕ) (rows : List (List Begun)) (counted : List (List ℕ)) (xs : List Frame) (f : Frame) where
  pub pop_less : weights n rows counted xs < weights n rows counted (xs ++ f ∷ [])
  pop_less = let a = weights-append n rows counted xs (f ∷ []) in omega (arith, a)

  module _ (g : Frame) (place : g.place ≡ f.place) (fewer : turns g.next rows (row_of counted f.place) + 1 ≤ turns f.next rows (row_of counted f.place)) where
    abbrev cost : ℕ
    cost = try_cost n (left (map length rows) (row_of counted f.place))

    tried_weight : weight n rows counted g + cost ≤ weight n rows counted f
    tried_weight =
        let a = turns g.next rows (row_of counted f.place) in
        let p = product (suc a) a cost refl in
        let less : suc a ≤ turns f.next rows (row_of counted f.place) = omega (arith, fewer) in
        let m = product_le (suc a) (turns f.next rows (row_of counted f.place)) cost less in
        let same : weight n rows counted g ≡ 1 + a * cost = ap (λ (q : ℕ). 1 + turns g.next rows (row_of counted q) * try_cost n (left (map length rows) (row_of counted q))) place in
        omega (arith, p, m, same)

    -- frames from which nothing is to be tried, by fewer calls that are left
    module _ (ps : List Frame) (past : (counts : List ℕ) (p : Frame) → Contains ps p → turns p.next rows counts ≡ 0) (one : List ℕ) (positive : 0 < n)
        (step : left (map length rows) one + length ps + 1 ≡ left (map length rows) (row_of counted f.place)) where
      cost_is : cost ≡ 2 + n * try_cost n (length ps + left (map length rows) one)
      cost_is =
          let more : left (map length rows) (row_of counted f.place) ≡ suc (length ps + left (map length rows) one) = omega (arith, step) in
          ap (try_cost n) more

      pub try_less : weights n rows counted ((xs ++ g ∷ []) ++ ps) < weights n rows counted (xs ++ f ∷ [])
      try_less =
          let a = weights-append n rows counted xs (f ∷ []) in
          let b = weights-append n rows counted xs (g ∷ []) in
          let c = weights-append n rows counted (xs ++ g ∷ []) ps in
          let q = weights_past n rows counted ps (λ p there. past (row_of counted p.place) p there) in
          let w = tried_weight in
          let u = cost_is in
          let rise = costs_rise n (left (map length rows) one) (length ps) positive in
          omega (arith, a, b, c, q, w, u, rise)

      pub push_less : (new : Frame) → ((k : ℕ) (h : Frame) → slice_get ((xs ++ g ∷ []) ++ ps) k ≡ Some h → h.place < length counted) →
          row_of (counted ++ one ∷ []) new.place ≡ one → length rows ≤ n →
          weights n rows (counted ++ one ∷ []) (((xs ++ g ∷ []) ++ ps) ++ new ∷ []) < weights n rows counted (xs ++ f ∷ [])
      push_less new old here few =
          let a = weights-append n rows counted xs (f ∷ []) in
          let b = weights-append n rows counted xs (g ∷ []) in
          let c = weights-append n rows counted (xs ++ g ∷ []) ps in
          let e = weights-append n rows (counted ++ one ∷ []) ((xs ++ g ∷ []) ++ ps) (new ∷ []) in
          let k = weights_kept n rows counted one ((xs ++ g ∷ []) ++ ps) old in
          let q = weights_past n rows counted ps (λ p there. past (row_of counted p.place) p there) in
          let w = tried_weight in
          let u = cost_is in
          let rise = costs_rise n (left (map length rows) one) (length ps) positive in
          let all = turns_all new.next rows one in
          let le = product_le (turns new.next rows one) n (try_cost n (left (map length rows) one)) (omega (arith, all, few)) in
          let v : weight n rows (counted ++ one ∷ []) new ≡ 1 + turns new.next rows one * try_cost n (left (map length rows) one) =
          ap (λ (l : List ℕ). 1 + turns new.next rows l * try_cost n (left (map length rows) l)) here in
          omega (arith, a, b, c, e, k, q, w, u, rise, v, le)
