-- How many processes events need: the fewest that are enough, and at least one.
use Rattle.std.proofs.Common.{◌≡◌, refl, ℕ, zero, suc, ◌≤◌, List, [], ◌∷◌, Some, max, subst, arith}
use Rattle.std.proofs.lemmas.Option.{same_Some}
use Rattle.std.specs.List.{slice_get, Contains}
use Rattle.ob_interface.specs.Call.{ObjectCall, Reply}
use Rattle.wf_lookup.specs.Beginnings.{needed, process_count, IsOfProcesses}
use Rattle.wf_history.specs.History.{Event, Begin, Applied, End}
use Rattle.wf_history.proofs.Positions.{place_of, contains_at}

pub needed_within : (es : List (Event ObjectCall Reply)) (k : ℕ) (e : Event ObjectCall Reply) → slice_get es k ≡ Some e → needed e ≤ process_count es
needed_within [] k e here = absurd (cc)
needed_within (x ∷ es) zero e here =
    subst (λ (y : Event ObjectCall Reply). needed y ≤ process_count (x ∷ es)) (same_Some x e here) (omega arith)
needed_within (x ∷ es) (suc k) e here = let rest = needed_within es k e here in omega (arith, rest)

some_needed : (es : List (Event ObjectCall Reply)) → 1 ≤ process_count es
some_needed [] = omega arith
some_needed (x ∷ es) = let rest = some_needed es in omega (arith, rest)

enough_one : (n : ℕ) (e : Event ObjectCall Reply) → needed e ≤ n → IsOfProcesses n e
enough_one n (Begin id call) le = omega (arith, le)
enough_one n (Applied ids) le = tt
enough_one n (End id reply) le = omega (arith, le)

needed_one : (n : ℕ) (e : Event ObjectCall Reply) → 1 ≤ n → IsOfProcesses n e → needed e ≤ n
needed_one n (Begin id call) one h = omega (arith, h)
needed_one n (Applied ids) one h = one
needed_one n (End id reply) one h = omega (arith, h)

needed_all : (n : ℕ) (es : List (Event ObjectCall Reply)) → 1 ≤ n → ((k : ℕ) (e : Event ObjectCall Reply) → slice_get es k ≡ Some e → IsOfProcesses n e) → process_count es ≤ n
needed_all n [] one all = one
needed_all n (x ∷ es) one all =
    let first = needed_one n x one (all 0 x refl) in
    let rest = needed_all n es one (λ k e at. all (suc k) e at) in
    omega (arith, first, rest)

-- more are enough too
pub wider : (m n : ℕ) (e : Event ObjectCall Reply) → m ≤ n → IsOfProcesses m e → IsOfProcesses n e
wider m n (Begin id call) le h = omega arith
wider m n (Applied ids) le h = tt
wider m n (End id reply) le h = omega arith

-- a number that is enough, and no larger than each one that is
pub counted : (es : List (Event ObjectCall Reply)) (count : ℕ) → ((e : Event ObjectCall Reply) → Contains es e → IsOfProcesses count e) →
    ((n : ℕ) → ((e : Event ObjectCall Reply) → Contains es e → IsOfProcesses n e) → count ≤ n) → max count 1 ≡ process_count es
counted es count enough least =
    let few = least (process_count es) (λ e there. let p = place_of es e there in enough_one (process_count es) e (needed_within es p.0 e p.1)) in
    let one = some_needed es in
    let more = needed_all (max count 1) es (omega arith) (λ k e at. wider count (max count 1) e (omega arith) (enough e (contains_at es k e at))) in
    omega (arith, few, one, more)
