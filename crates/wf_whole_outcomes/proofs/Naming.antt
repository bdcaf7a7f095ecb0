-- The names of calls, by the processes that call one after the other.
use Rattle.std.proofs.Common.{◌≡◌, refl, sym, ap, subst, ℕ, ◌+◌, suc, List, [], ◌∷◌, length, get_or, set, inl, inr, arith}
use Rattle.wf_history.specs.declared.event.CallId.{CallId}
use Rattle.wf_whole_outcomes.specs.Layers.{Precedes}
use Rattle.wf_whole_outcomes.specs.Leaves.{named}
use Rattle.wf_whole_outcomes.specs.Wholes.{IsBefore}

pub length_named : (counts way : List ℕ) → length (named counts way) ≡ length way
length_named counts [] = refl
length_named counts (p ∷ way) = ap suc (length_named (set counts p (get_or counts p 0 + 1)) way)

-- lexical order of names is that of processes
pub named_before : (counts one other : List ℕ) → Precedes one other → IsBefore (named counts one) (named counts other)
named_before counts [] [] h = absurd h
named_before counts [] (q ∷ other) h = tt
named_before counts (p ∷ one) [] h = absurd h
named_before counts (p ∷ one) (q ∷ other) h =
    elim h [
      | inl less ↦ inl (inl less)
      | inr e ↦
          let n = λ (x : ℕ). get_or counts x 0 + 1 in
          inr (
            ap (λ (x : ℕ). record { process = x; number = get_or counts x 0 + 1 }) e.0,
            subst (λ (x : ℕ). IsBefore (named (set counts p (n p)) one) (named (set counts x (n x)) other)) e.0 (named_before (set counts p (n p)) one other e.1),
          )
    ]

pub before_named : (counts one other : List ℕ) → IsBefore (named counts one) (named counts other) → Precedes one other
before_named counts [] [] h = absurd h
before_named counts [] (q ∷ other) h = tt
before_named counts (p ∷ one) [] h = absurd h
before_named counts (p ∷ one) (q ∷ other) h =
    elim h [
      | inl smaller ↦ elim smaller [
        | inl less ↦ inl less
        | inr e ↦ let less = e.1 in let same : get_or counts p 0 + 1 ≡ get_or counts q 0 + 1 = ap (λ (x : ℕ). get_or counts x 0 + 1) e.0 in absurd (omega (arith, less, same))
      ]
      | inr e ↦
          let n = λ (x : ℕ). get_or counts x 0 + 1 in
          let own : p ≡ q = ap (λ (id : CallId). id.process) e.0 in
          inr (own, before_named (set counts p (n p)) one other (subst (λ (x : ℕ). IsBefore (named (set counts p (n p)) one) (named (set counts x (n x)) other)) (sym own) e.1))
    ]
