-- Answers whose ids are those of the first calls of a process.
use Rattle.std.proofs.Common.{◌≡◌, ◌<◌, ℕ, ◌+◌, List, [], ◌∷◌, ◌++◌, length, map, take, get_or, refl, sym, ap, ◌∙◌, arith, not, nat_eq, ◌&&◌, false, true}
use Rattle.std.proofs.lemmas.Bool.Decides.{nat_tests}
use Rattle.std.proofs.lemmas.List.{get_or-map, length-map, map_more}
use Rattle.std.proofs.lemmas.List.FromFn.{get_or-map-range_with_len, length-map-range_with_len, map-range_with_len_more}
use Rattle.ob_desk_floor.specs.Seat.{answered_call}
use Rattle.ob_desk_floor.specs.declared.seat.CallAnswer.{CallAnswer}
use Rattle.ob_interface.specs.Call.{Reply}
use Rattle.wf_history.specs.declared.event.CallId.{CallId}
use Rattle.wf_theorems.specs.FirstCalls.{first_ids}

abbrev pub id_of : CallAnswer → CallId
id_of a = a.id

abbrev pub first_of : CallId × Reply → CallId
first_of a = a.0

-- the ids of answers, as histories show them
pub same_ids : (answers : List CallAnswer) → map first_of (map answered_call answers) ≡ map id_of answers
same_ids [] = refl
same_ids (a ∷ answers) = ap (λ (ids : List CallId). a.id ∷ ids) (same_ids answers)

abbrev id : ℕ → ℕ → CallId
id process number = record { process = process; number = number }

-- one more id in turn
pub one_more : (process i : ℕ) (answers : List CallAnswer) (d : CallAnswer) → i < length answers → map id_of (take i answers) ≡ first_ids process i → (get_or answers i d).id ≡ id process (i + 1)
    → map id_of (take (i + 1) answers) ≡ first_ids process (i + 1)
one_more process i answers d lt so next =
    map_more id_of answers i d lt
    ∙ ap (λ (ids : List CallId). ids ++ (get_or answers i d).id ∷ []) so
    ∙ ap (λ (x : CallId). first_ids process i ++ x ∷ []) next
    ∙ sym (map-range_with_len_more (id process) 1 i (i + 1) (omega arith))

-- names that a test finds equal are equal
pub same_name : (a b : CallId) → not (nat_eq a.process b.process && nat_eq a.number b.number) ≡ false → a ≡ b
same_name a b h =
    let one : a.process ≡ b.process = grind (arith, nat_tests) in
    let two : a.number ≡ b.number = grind (arith, nat_tests) in
    ap (λ (k : ℕ). id k a.number) one ∙ ap (id b.process) two

-- names are the same where a test finds no difference
pub other_name : (a b : CallId) → not (nat_eq a.process b.process && nat_eq a.number b.number) ≡ true → a ≡ b → ⊥
other_name a b h same =
    let one : nat_eq a.process b.process ≡ true = grind (arith, nat_tests, ap (λ (x : CallId). x.process) same) in
    let two : nat_eq a.number b.number ≡ true = grind (arith, nat_tests, ap (λ (x : CallId). x.number) same) in
    cc

-- what ids in turn are at a place
pub in_turn_at : (process count i : ℕ) (answers : List CallAnswer) (d : CallAnswer) → i < count → map id_of answers ≡ first_ids process count → (get_or answers i d).id ≡ id process (i + 1)
in_turn_at process count i answers d lt same =
    let long : i < length answers = omega (arith, lt, sym (length-map answers id_of), ap length same, length-map-range_with_len (id process) 1 count) in
    sym (get_or-map id_of answers i d (id process 0) long)
    ∙ ap (λ (ids : List CallId). get_or ids i (id process 0)) same
    ∙ get_or-map-range_with_len (id process) 1 count i (i + 1) (id process 0) lt (omega arith)

-- and how many
pub in_turn_length : (process count : ℕ) (answers : List CallAnswer) → map id_of answers ≡ first_ids process count → length answers ≡ count
in_turn_length process count answers same = sym (length-map answers id_of) ∙ ap length same ∙ length-map-range_with_len (id process) 1 count
