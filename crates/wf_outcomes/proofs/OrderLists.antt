-- Calls of scripts, as lists that grow at their end.
use Rattle.std.proofs.Common.{◌≡◌, sym, ap, ◌∙◌, ℕ, ◌+◌, ◌<◌, zero, suc, List, [], ◌∷◌, ◌++◌, length, get_or, take, append_assoc, arith, refl}
use Rattle.wf_history.specs.declared.event.CallId.{CallId}
use Rattle.wf_outcomes.specs.OutcomeOrders.{calls_of, calls_from}

abbrev id_at : (process number : ℕ) → CallId
id_at process number = record { process = process; number = number }

pub calls_more : {Call : Type 0} (process number : ℕ) (calls : List Call) (k : ℕ) → k < length calls →
    calls_of process number (take (suc k) calls) ≡ calls_of process number (take k calls) ++ record { process = process; number = number + k } ∷ []
calls_more process number [] k lt = absurd (omega arith)
calls_more process number (call ∷ calls) zero lt =
    let same : number ≡ number + 0 = omega arith in
    ap (λ (n : ℕ). id_at process n ∷ []) same
calls_more process number (call ∷ calls) (suc k) lt =
    let same : suc number + k ≡ number + suc k = omega arith in
    ap (λ (l : List CallId). id_at process number ∷ l)
    (calls_more process (suc number) calls k (omega arith)
    ∙ ap (λ (n : ℕ). calls_of process (suc number) (take k calls) ++ id_at process n ∷ []) same)

pub scripts_more : {Call : Type 0} (process : ℕ) (scripts : List (List Call)) (k : ℕ) → k < length scripts →
    calls_from process (take (suc k) scripts) ≡ calls_from process (take k scripts) ++ calls_of (process + k) 1 (get_or scripts k [])
scripts_more process [] k lt = absurd (omega arith)
scripts_more {Call} process (script ∷ scripts) zero lt =
    let same : process ≡ process + 0 = omega arith in
    nothing_behind (calls_of process 1 script) ∙ ap (λ (p : ℕ). calls_of p 1 script) same
  where
    nothing_behind : (ids : List CallId) → ids ++ [] ≡ ids
    nothing_behind [] = refl
    nothing_behind (id ∷ ids) = ap (λ (l : List CallId). id ∷ l) (nothing_behind ids)
scripts_more process (script ∷ scripts) (suc k) lt =
    let same : suc process + k ≡ process + suc k = omega arith in
    ap (λ (l : List CallId). calls_of process 1 script ++ l)
    (scripts_more (suc process) scripts k (omega arith)
    ∙ ap (λ (p : ℕ). calls_from (suc process) (take k scripts) ++ calls_of p 1 (get_or scripts k [])) same)
    ∙ sym (append_assoc (calls_of process 1 script) (calls_from (suc process) (take k scripts)) (calls_of (process + suc k) 1 (get_or scripts k [])))

-- the same where a loop counts
pub one_more_call : {Call : Type 0} (process : ℕ) (calls : List Call) (k : ℕ) → k < length calls →
    calls_of process 1 (take (k + 1) calls) ≡ calls_of process 1 (take k calls) ++ record { process = process; number = k + 1 } ∷ []
one_more_call process calls k lt =
    let one : k + 1 ≡ suc k = omega arith in
    let number : 1 + k ≡ k + 1 = omega arith in
    ap (λ (n : ℕ). calls_of process 1 (take n calls)) one ∙ calls_more process 1 calls k lt
    ∙ ap (λ (n : ℕ). calls_of process 1 (take k calls) ++ id_at process n ∷ []) number

pub one_more_script : {Call : Type 0} (scripts : List (List Call)) (k : ℕ) → k < length scripts →
    calls_from 0 (take (k + 1) scripts) ≡ calls_from 0 (take k scripts) ++ calls_of k 1 (get_or scripts k [])
one_more_script scripts k lt =
    let one : k + 1 ≡ suc k = omega arith in
    let process : 0 + k ≡ k = omega arith in
    ap (λ (n : ℕ). calls_from 0 (take n scripts)) one ∙ scripts_more 0 scripts k lt
    ∙ ap (λ (p : ℕ). calls_from 0 (take k scripts) ++ calls_of p 1 (get_or scripts k [])) process
