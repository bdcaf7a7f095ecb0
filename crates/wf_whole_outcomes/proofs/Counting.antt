-- How many calls are told.
use Rattle.std.proofs.Common.{◌≡◌, refl, sym, ap, ◌∙◌, ℕ, ◌+◌, ◌≤◌, zero, suc, List, [], ◌∷◌, ◌++◌, length, get_or, set, map, replicate, arith, inl, inr, get_or-set_same, get_or-set_other}
use Rattle.std.proofs.lemmas.Bool.{cases_eq}
use Rattle.std.proofs.lemmas.List.{length-append, length-map, length-set, length-replicate}
use Rattle.std.proofs.lemmas.Option.{slice_get_within}
use Rattle.wf_history.specs.declared.event.CallId.{CallId}
use Rattle.wf_outcomes.specs.Merges.{total}
use Rattle.wf_outcomes.proofs.OutcomesLists.{sum_none, sum_set}
use Rattle.wf_whole_outcomes.specs.Tellings.{Telling, IsTold, Tells, none, more, replies_to, silence}
use Rattle.wf_whole_outcomes.proofs.Numbering.{length_row, map_all, map_set}

-- lists of which each number is at most the other one's, and whose sums are the same
pub same_by_sum : (xs ys : List ℕ) → length xs ≡ length ys → ((p : ℕ) → get_or xs p 0 ≤ get_or ys p 0) → total xs ≡ total ys → xs ≡ ys
same_by_sum [] [] size small sums = refl
same_by_sum [] (y ∷ ys) size small sums = absurd (omega (arith, size))
same_by_sum (x ∷ xs) [] size small sums = absurd (omega (arith, size))
same_by_sum (x ∷ xs) (y ∷ ys) size small sums =
    let first : x ≤ y = small 0 in
    let rest = sum_small xs ys (omega (arith, size)) (λ p. small (suc p)) in
    let same : x ≡ y = omega (arith, first, rest, sums) in
    let others = same_by_sum xs ys (omega (arith, size)) (λ p. small (suc p)) (omega (arith, first, rest, sums)) in
    cc
  where
    sum_small : (us vs : List ℕ) → length us ≡ length vs → ((p : ℕ) → get_or us p 0 ≤ get_or vs p 0) → total us ≤ total vs
    sum_small [] vs size small = omega arith
    sum_small (u ∷ us) [] size small = absurd (omega (arith, size))
    sum_small (u ∷ us) (v ∷ vs) size small = let first : u ≤ v = small 0 in let rest = sum_small us vs (omega (arith, size)) (λ p. small (suc p)) in omega (arith, first, rest)

module _ {State Call Reply : Type 0} (Effect : Call → State → State → Reply → Type 0) (scripts : List (List Call)) where
  -- the numbers of calls behind one more
  counts_step : (t v : Telling State Reply) (id : CallId) → IsTold Effect scripts t id v → map length v.replies ≡ set (map length t.replies) id.process (get_or (map length t.replies) id.process 0 + 1)
  counts_step t v id told =
      ap (map length) told.replies ∙ map_set length t.replies id.process (replies_to t id.process ++ told.reply ∷ [])
      ∙ ap (set (map length t.replies) id.process) (length-append (replies_to t id.process) (told.reply ∷ []) ∙ ap (λ (n : ℕ). n + 1) (sym (length_row t.replies id.process)))

  pub sum_told : {t v : Telling State Reply} {ids : List CallId} → Tells Effect scripts t ids v → total (map length v.replies) ≡ total (map length t.replies) + length ids
  sum_told none = omega arith
  sum_told (more {t} {u} {v} {id} {ids} told l) =
      let rest = sum_told l in
      let size = length-map t.replies length in
      let inside = told.process in
      let one = ap total (counts_step t u id told) ∙ sum_set (map length t.replies) id.process (get_or (map length t.replies) id.process 0) refl (omega (arith, size, inside)) in
      omega (arith, rest, one)

  size_told : {t v : Telling State Reply} {ids : List CallId} → Tells Effect scripts t ids v → length v.replies ≡ length t.replies
  size_told none = refl
  size_told (more {t} {u} {v} {id} {ids} told l) = size_told l ∙ ap length told.replies ∙ length-set t.replies id.process (replies_to t id.process ++ told.reply ∷ [])

  -- no process has more replies than calls
  at_most : {t v : Telling State Reply} {ids : List CallId} → Tells Effect scripts t ids v → ((p : ℕ) → get_or (map length t.replies) p 0 ≤ get_or (map length scripts) p 0) → (p : ℕ) → get_or (map length v.replies) p 0 ≤ get_or (map length scripts) p 0
  at_most none small p = small p
  at_most (more {t} {u} {v} {id} {ids} told l) small p = at_most l now p
    where
      now : (q : ℕ) → get_or (map length u.replies) q 0 ≤ get_or (map length scripts) q 0
      now q =
          let counts = ap (λ (c : List ℕ). get_or c q 0) (counts_step t u id told) in
          let size = length-map t.replies length in
          let inside = told.process in
          elim (cases_eq q id.process) [
            | inl own ↦
                let less = slice_get_within (get_or scripts id.process []) (length (replies_to t id.process)) told.call told.listed in
                let here = length_row t.replies id.process in
                let all = length_row scripts id.process in
                let new = get_or-set_same (map length t.replies) id.process (get_or (map length t.replies) id.process 0 + 1) 0 (omega (arith, size, inside)) in
                let same = ap (λ (x : ℕ). get_or (set (map length t.replies) id.process (get_or (map length t.replies) id.process 0 + 1)) x 0) own in
                let script = ap (λ (x : ℕ). get_or (map length scripts) x 0) own in
                omega (arith, counts, less, here, all, new, same, script)
            | inr other ↦ let old = get_or-set_other (map length t.replies) id.process q (get_or (map length t.replies) id.process 0 + 1) 0 other in let was = small q in omega (arith, counts, old, was)
          ]

  module _ (opening : State) where
    none_told : map length (silence Effect scripts opening).replies ≡ replicate (length scripts) 0
    none_told = map_all length (length scripts) []

    zeros : (n p : ℕ) → get_or (replicate {A = ℕ} n 0) p 0 ≡ 0
    zeros zero p = refl
    zeros (suc n) zero = refl
    zeros (suc n) (suc p) = zeros n p

    -- so many calls as there are in all are all calls
    pub all_told : (ids : List CallId) (v : Telling State Reply) → Tells Effect scripts (silence Effect scripts opening) ids v → length ids ≡ total (map length scripts) → map length v.replies ≡ map length scripts
    all_told ids v l long =
        let sum = sum_told l in
        let first = ap total none_told ∙ sum_none (length scripts) in
        let size = size_told l in
        let one = length-map v.replies length in
        let two = length-map scripts length in
        let start = length-replicate {A = List Reply} (length scripts) [] in
        same_by_sum (map length v.replies) (map length scripts) (omega (arith, size, one, two, start))
        (at_most l (λ p. let none_yet = ap (λ (c : List ℕ). get_or c p 0) none_told ∙ zeros (length scripts) p in omega (arith, none_yet)))
        (omega (arith, sum, first, long))

    pub long_order : (ids : List CallId) (v : Telling State Reply) → Tells Effect scripts (silence Effect scripts opening) ids v → map length v.replies ≡ map length scripts → length ids ≡ total (map length scripts)
    long_order ids v l whole =
        let sum = sum_told l in
        let first = ap total none_told ∙ sum_none (length scripts) in
        let all = ap total whole in
        omega (arith, sum, first, all)
