-- Branches, loops and calls, one step after the other.
use Rattle.std.proofs.Common.{◌≡◌, refl, ap, sym, ◌∙◌, arith, ℕ, zero, suc, ◌+◌, ◌-◌, ◌<◌, ◌≤◌, Bool, true, false, List, [], ◌∷◌, drop, get_or, length, if◌then◌else◌}
use Rattle.ob_interface.specs.declared.scalar.Scalar.{Scalar}
use Rattle.ob_typing.specs.Program as Programs
use Rattle.ob_typing.specs.Arithmetic.{Gives, Traps, truth_of, no_turn_left}
use Rattle.ob_checked.specs.declared.program.Branch.{Branch}
use Rattle.ob_checked.specs.View.{expression_of, statements_in, branches_in}
use Rattle.std.specs.Prelude.{slice_get}
use Rattle.ob_meaning.specs.ByPositionStore.{Store, Held}
use Rattle.ob_meaning.specs.ByPositionEvaluation.{value_of}
use Rattle.ob_meaning.specs.ByPositionStatements.{Outcome, Done, Trap, Run, Calls, after, then_run, with_turn, loop_once, loop, rounds, meaning_of_all, meaning_of_branches, activated, calls}

pub drop_here : {A : Type 0} (all : List A) (i : ℕ) (d : A) → i < length all → drop i all ≡ get_or all i d ∷ drop (i + 1) all
drop_here [] i d h = absurd (omega (arith, h))
drop_here (x ∷ all) zero d h = refl
drop_here (x ∷ all) (suc i) d h =
    let e : suc (i + 1) ≡ suc i + 1 = omega arith in
    drop_here all i d (omega (arith, h)) ∙ ap (λ n. get_or all i d ∷ drop n (x ∷ all)) e

pub drop_beyond : {A : Type 0} (xs : List A) (i : ℕ) → length xs ≤ i → drop i xs ≡ []
drop_beyond [] zero h = refl
drop_beyond [] (suc i) h = refl
drop_beyond (x ∷ xs) zero h = absurd (omega (arith, h))
drop_beyond (x ∷ xs) (suc i) h = drop_beyond xs i (omega (arith, h))

chosen_run : (b : Bool) (f g : Run) (t : ℕ) (store : Store) → b ≡ true → (if b then f else g) t store ≡ f t store
chosen_run true f g t store h = refl
chosen_run false f g t store h = absurd cc

passed_run : (b : Bool) (f g : Run) (t : ℕ) (store : Store) → b ≡ false → (if b then f else g) t store ≡ g t store
passed_run true f g t store h = absurd cc
passed_run false f g t store h = refl

module _ (calls : Calls) where
  branch_more : (all : List Branch) (last : Programs.Branches) (i t : ℕ) (b : Branch) (store : Store) → i < length all → b ≡ get_or all i b →
      meaning_of_branches calls (branches_in (drop i all) last) t store
      ≡ after (value_of store (expression_of b.condition)) (λ v.
      (if truth_of v then meaning_of_all calls (statements_in b.body.items) else meaning_of_branches calls (branches_in (drop (i + 1) all) last)) t store)
  branch_more all last i t b store below here =
      ap (λ bs. meaning_of_branches calls (branches_in bs last) t store) (drop_here all i b below ∙ ap (λ x. x ∷ drop (i + 1) all) (sym here))

  pub branch_taken : (all : List Branch) (last : Programs.Branches) (i t : ℕ) (b : Branch) (store : Store) (v : Scalar) (r : Outcome) → i < length all → b ≡ get_or all i b →
      Gives v ≡ value_of store (expression_of b.condition) → truth_of v ≡ true → meaning_of_branches calls (branches_in (drop i all) last) t store ≡ r →
      r ≡ meaning_of_all calls (statements_in b.body.items) t store
  branch_taken all last i t b store v r below here gives holds so_far =
      let rest = meaning_of_branches calls (branches_in (drop (i + 1) all) last) in
      let body = meaning_of_all calls (statements_in b.body.items) in
      sym so_far ∙ branch_more all last i t b store below here
      ∙ ap (λ e. after e (λ v. (if truth_of v then body else rest) t store)) (sym gives)
      ∙ chosen_run (truth_of v) body rest t store holds

  pub branch_traps : (all : List Branch) (last : Programs.Branches) (i t k : ℕ) (b : Branch) (store : Store) (r : Outcome) → i < length all → b ≡ get_or all i b →
      Traps k ≡ value_of store (expression_of b.condition) → meaning_of_branches calls (branches_in (drop i all) last) t store ≡ r → r ≡ Trap k
  branch_traps all last i t k b store r below here traps so_far =
      let rest = meaning_of_branches calls (branches_in (drop (i + 1) all) last) in
      let body = meaning_of_all calls (statements_in b.body.items) in
      sym so_far ∙ branch_more all last i t b store below here ∙ ap (λ e. after e (λ v. (if truth_of v then body else rest) t store)) (sym traps)

  pub branches_end : (all : List Branch) (last : Programs.Branches) (i t : ℕ) (store : Store) (r : Outcome) → length all ≤ i →
      meaning_of_branches calls (branches_in (drop i all) last) t store ≡ r → r ≡ meaning_of_branches calls last t store
  branches_end all last i t store r beyond so_far =
      sym so_far ∙ ap (λ bs. meaning_of_branches calls (branches_in bs last) t store) (drop_beyond all i beyond)

-- loops

once_ends : (c : Programs.Expression) (body again : Run) (t : ℕ) (store : Store) (v : Scalar) → Gives v ≡ value_of store c → truth_of v ≡ false →
    loop_once c body again t store ≡ Done t store
once_ends c body again t store v gives fails =
    ap (λ e. after e (λ v. (if truth_of v then (λ t s. with_turn (λ l. then_run (body l s) again) t) else Done) t store)) (sym gives)
    ∙ passed_run (truth_of v) (λ t s. with_turn (λ l. then_run (body l s) again) t) Done t store fails

once_goes : (c : Programs.Expression) (body again : Run) (t : ℕ) (store : Store) (v : Scalar) → Gives v ≡ value_of store c → truth_of v ≡ true →
    loop_once c body again t store ≡ with_turn (λ l. then_run (body l store) again) t
once_goes c body again t store v gives holds =
    ap (λ e. after e (λ v. (if truth_of v then (λ t s. with_turn (λ l. then_run (body l s) again) t) else Done) t store)) (sym gives)
    ∙ chosen_run (truth_of v) (λ t s. with_turn (λ l. then_run (body l s) again) t) Done t store holds

pub loop_ends : (n : ℕ) (c : Programs.Expression) (body : Run) (t : ℕ) (store : Store) (v : Scalar) → Gives v ≡ value_of store c → truth_of v ≡ false →
    loop n c body t store ≡ Done t store
loop_ends zero c body t store v gives fails = once_ends c body (λ t s. Trap no_turn_left) t store v gives fails
loop_ends (suc n) c body t store v gives fails = once_ends c body (loop n c body) t store v gives fails

pub loop_goes : (n : ℕ) (c : Programs.Expression) (body : Run) (t : ℕ) (store : Store) (v : Scalar) → 0 < t → t ≤ n → Gives v ≡ value_of store c → truth_of v ≡ true →
    loop n c body t store ≡ then_run (body (t - 1) store) (loop (n - 1) c body)
loop_goes zero c body t store v some le gives holds = absurd (omega (arith, some, le))
loop_goes (suc n) c body zero store v some le gives holds = absurd (omega (arith, some))
loop_goes (suc n) c body (suc t) store v some le gives holds =
    let turns : t ≡ suc t - 1 = omega arith in
    let bound : n ≡ suc n - 1 = omega arith in
    once_goes c body (loop n c body) (suc t) store v gives holds
    ∙ ap (λ x. then_run (body x store) (loop n c body)) turns
    ∙ ap (λ x. then_run (body (suc t - 1) store) (loop x c body)) bound

pub rounds_out : (n : ℕ) (body : Run) (c : Programs.Expression) (store : Store) → rounds n body c 0 store ≡ Trap no_turn_left
rounds_out zero body c store = refl
rounds_out (suc n) body c store = refl

-- what stands behind the body of a round
abbrev pub behind_round : ℕ → Run → Programs.Expression → Run
behind_round n body c t s = after (value_of s c) (λ v. (if truth_of v then Done else rounds (n - 1) body c) t s)

pub rounds_go : (n : ℕ) (body : Run) (c : Programs.Expression) (t : ℕ) (store : Store) → 0 < t → t ≤ n →
    rounds n body c t store ≡ then_run (body (t - 1) store) (behind_round n body c)
rounds_go zero body c t store some le = absurd (omega (arith, some, le))
rounds_go (suc n) body c zero store some le = absurd (omega (arith, some))
rounds_go (suc n) body c (suc t) store some le =
    let turns : t ≡ suc t - 1 = omega arith in
    let bound : n ≡ suc n - 1 = omega arith in
    ap (λ x. then_run (body x store) (λ u s. after (value_of s c) (λ v. (if truth_of v then Done else rounds n body c) u s))) turns
    ∙ ap (λ x. then_run (body (suc t - 1) store) (λ u s. after (value_of s c) (λ v. (if truth_of v then Done else rounds x body c) u s))) bound

module _ (n : ℕ) (body : Run) (c : Programs.Expression) (t l : ℕ) (store next : Store) (some : 0 < t) (le : t ≤ n) (done : body (t - 1) store ≡ Done l next) where
  round_done : rounds n body c t store ≡ behind_round n body c l next
  round_done = rounds_go n body c t store some le ∙ ap (λ o. then_run o (behind_round n body c)) done

  pub rounds_end : (v : Scalar) → Gives v ≡ value_of next c → truth_of v ≡ true → rounds n body c t store ≡ Done l next
  rounds_end v gives holds =
      round_done
      ∙ ap (λ e. after e (λ v. (if truth_of v then Done else rounds (n - 1) body c) l next)) (sym gives)
      ∙ chosen_run (truth_of v) Done (rounds (n - 1) body c) l next holds

  pub rounds_again : (v : Scalar) → Gives v ≡ value_of next c → truth_of v ≡ false → rounds n body c t store ≡ rounds (n - 1) body c l next
  rounds_again v gives fails =
      round_done
      ∙ ap (λ e. after e (λ v. (if truth_of v then Done else rounds (n - 1) body c) l next)) (sym gives)
      ∙ passed_run (truth_of v) Done (rounds (n - 1) body c) l next fails

  pub rounds_trap : (k : ℕ) → Traps k ≡ value_of next c → rounds n body c t store ≡ Trap k
  rounds_trap k traps = round_done ∙ ap (λ e. after e (λ v. (if truth_of v then Done else rounds (n - 1) body c) l next)) (sym traps)

-- calls

-- a call that may be made takes a turn and an activation
pub call_goes : (program : Programs.Program) (more n t : ℕ) (handed : List Held) (store : Store) → 0 < more → 0 < t →
    calls program more n handed t store ≡ activated (calls program (more - 1)) (slice_get program.procedures n) handed (t - 1) store
call_goes program zero n t handed store h k = absurd (omega (arith, h))
call_goes program (suc more) n zero handed store h k = absurd (omega (arith, k))
call_goes program (suc more) n (suc t) handed store h k =
    let fewer : more ≡ suc more - 1 = omega arith in
    let turns : t ≡ suc t - 1 = omega arith in
    ap (λ x. activated (calls program x) (slice_get program.procedures n) handed t store) fewer
    ∙ ap (λ x. activated (calls program (suc more - 1)) (slice_get program.procedures n) handed x store) turns
