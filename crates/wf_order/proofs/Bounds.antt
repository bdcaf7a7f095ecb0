-- How many configurations are enough.
use Rattle.std.proofs.Common.{◌≡◌, sym, ap, subst, ◌∙◌, ℕ, ◌+◌, ◌-◌, ◌*◌, ◌^◌, ◌<◌, ◌≤◌, zero, suc, List, [], ◌∷◌, length, map, replicate, arith}
use Rattle.std.proofs.Math.Nat.{pow-zero, one-le-pow, pow-le-pow_left, pow-le-pow_right}
use Rattle.std.proofs.lemmas.Grind.{pow_more}
use Rattle.std.proofs.lemmas.Nat.{mul-le}
use Rattle.ob_interface.specs.Call.{ObjectCall, Reply}
use Rattle.wf_history.specs.declared.event.CallId.{CallId}
use Rattle.wf_history.specs.History.{Event}
use Rattle.wf_order.specs.declared.kept_rows.Rows.{Rows}
use Rattle.wf_order.specs.declared.search.Frame.{Frame}
use Rattle.wf_order.specs.Rows.{AreRows, begun_rows, total}
use Rattle.wf_order.specs.Search.{left, try_cost, work}
use Rattle.wf_order.specs.Steps.{start_at}
use Rattle.wf_order.specs.Turns.{turns}
use Rattle.wf_order.proofs.Turning.{turns_all}
use Rattle.wf_order.specs.Verdict.{enough}

pow_suc : (a k : ℕ) → a ^ suc k ≡ a ^ k * a
pow_suc a k = let one : suc k ≡ k + 1 = omega arith in ap (λ (n : ℕ). a ^ n) one ∙ pow_more a k

try_more : (n r d : ℕ) → try_cost n r ≤ try_cost n (d + r)
try_more n zero zero = omega arith
try_more n zero (suc d) =
    let one : suc d + 0 ≡ suc d = omega arith in
    let e : try_cost n (suc d + 0) ≡ 2 + n * try_cost n d = ap (try_cost n) one in
    omega (arith, e)
try_more n (suc r) d =
    let le = mul-le n (try_cost n r) n (try_cost n (d + r)) (omega arith) (try_more n r d) in
    let one : d + suc r ≡ suc (d + r) = omega arith in
    let e : try_cost n (d + suc r) ≡ 2 + n * try_cost n (d + r) = ap (try_cost n) one in
    omega (arith, le, e)

-- one try costs no more than this
pub try_within : (n r : ℕ) → try_cost n r ≤ (n + 2) ^ r
try_within n zero = let e = pow-zero (n + 2) in omega (arith, e)
try_within n (suc r) =
    let p = one-le-pow r (n + 2) (omega arith) in
    let le = mul-le n (try_cost n r) n ((n + 2) ^ r) (omega arith) (try_within n r) in
    let e = pow_suc (n + 2) r in
    let parts : (n + 2) ^ r * (n + 2) ≡ n * (n + 2) ^ r + ((n + 2) ^ r + (n + 2) ^ r) = omega arith in
    omega (arith, p, le, e, parts)

-- what is enough for a history is so for its beginnings, and for more processes
pub enough_is : (n m r s : ℕ) → n ≤ m → r ≤ s → try_cost n (r + 1) ≤ enough m s
enough_is n m r s le more =
    let a = try_within n (r + 1) in
    let base : n + 2 ≤ m + 2 = omega (arith, le) in
    let positive : 0 < m + 2 = omega arith in
    let exponent : r + 1 ≤ s + 1 = omega (arith, more) in
    let b = pow-le-pow_left base (r + 1) in
    let c = pow-le-pow_right positive exponent in
    omega (arith, a, b, c)

-- where no call is taken, all are left
left_start : {X : Type 0} (rows : List (List X)) (n : ℕ) → left (map length rows) (replicate n 0) ≤ total rows
left_start [] n = omega arith
left_start (row ∷ rows) zero = let r = left_start rows zero in omega (arith, r)
left_start (row ∷ rows) (suc n) = let r = left_start rows n in omega (arith, r)

weighed : (processes x c : ℕ) → x ≤ processes → 1 + (1 + x * c + 0) ≤ 2 + processes * c
weighed processes x c le = let more = mul-le x c processes c le (omega arith) in omega (arith, more)

module _ {M : Type 0} (history : List (Event ObjectCall Reply)) (processes : ℕ) (rows : Rows) (are : AreRows history processes rows) (few : total (begun_rows rows) ≤ length history) (opening : M) where
  all_cost : processes * try_cost processes (left (map length (begun_rows rows)) (replicate processes 0)) ≤ processes * try_cost processes (length history)
  all_cost =
      let start = left_start (begun_rows rows) processes in
      let more = try_more processes (left (map length (begun_rows rows)) (replicate processes 0)) (length history - left (map length (begun_rows rows)) (replicate processes 0)) in
      let size : (length history - left (map length (begun_rows rows)) (replicate processes 0)) + left (map length (begun_rows rows)) (replicate processes 0) ≡ length history = omega (arith, few, start) in
      let size_cost = ap (try_cost processes) size in
      mul-le processes (try_cost processes (left (map length (begun_rows rows)) (replicate processes 0))) processes (try_cost processes (length history)) (omega arith) (omega (arith, more, size_cost))

  at_start : (id : CallId) (limit : ℕ) → 1 + work processes rows (start_at processes opening ∷ []) (record { place = 0; next = 0; id = id; limit = limit } ∷ []) ≤ try_cost processes (length history + 1)
  unfolding work
  at_start id limit =
      let count = are.row_count in
      let all = turns_all 0 (begun_rows rows) (replicate processes 0) in
      let w = weighed processes (turns 0 (begun_rows rows) (replicate processes 0)) (try_cost processes (left (map length (begun_rows rows)) (replicate processes 0))) (omega (arith, all, count)) in
      let le = all_cost in
      let one : length history + 1 ≡ suc (length history) = omega arith in
      let cost : try_cost processes (length history + 1) ≡ 2 + processes * try_cost processes (length history) = ap (try_cost processes) one in
      omega (arith, w, le, cost)

  -- the work of a search that begins
  pub start_work : (f : Frame) → f.place ≡ 0 → f.next ≡ 0 → 1 + work processes rows (start_at processes opening ∷ []) (f ∷ []) ≤ try_cost processes (length history + 1)
  start_work f place next =
      subst (λ (k : ℕ). 1 + work processes rows (start_at processes opening ∷ []) (record { place = k; next = f.next; id = f.id; limit = f.limit } ∷ []) ≤ try_cost processes (length history + 1)) (sym place)
      (subst (λ (k : ℕ). 1 + work processes rows (start_at processes opening ∷ []) (record { place = 0; next = k; id = f.id; limit = f.limit } ∷ []) ≤ try_cost processes (length history + 1)) (sym next)
      (at_start f.id f.limit))

-- with more processes more are enough
pub enough_more : (n m s : ℕ) → n ≤ m → enough n s ≤ enough m s
enough_more n m s le = let base : n + 2 ≤ m + 2 = omega (arith, le) in pow-le-pow_left base (s + 1)
