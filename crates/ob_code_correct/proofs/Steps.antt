-- One instruction on an image: jumps, turns, and what they need of lists.
use Rattle.std.proofs.Common.{◌≡◌, ℕ, suc, ◌+◌, ◌-◌, ◌<◌, ◌≤◌, ltb, leb, ℤ, pos, Bool, true, false, cond, List, [], ◌∷◌, ◌++◌, length, take, drop, get_or, Some, Option, refl, sym, ap, ◌∙◌, append-nil, length-append, arith}
use Rattle.std.specs.Prelude.{slice_get}
use Rattle.std.specs.Ordering.{int_eq}
use Rattle.std.proofs.lemmas.Bool.Decides.{nat_tests}
use Rattle.std.proofs.lemmas.List.{get_or_at, take_at}
use Rattle.ob_meaning.specs.ByPositionStore.{Store, activation_at}
use Rattle.ob_code_words.specs.declared.instr.Instr.{Instr}
use Rattle.ob_code_words.specs.declared.instr.Instr.TheVariants.{Jump, JumpIfFalse, Turn}
use Rattle.ob_code_words.specs.Words.{Made, Gives, Sticks}
use Rattle.ob_code_words.specs.Effect.{popped}
use Rattle.ob_code_machine.specs.declared.saved.Saved.{Saved}
use Rattle.ob_code_machine.specs.Machine.{Configuration, Unfinished, Trapped, made_then, goes_to, act_at, turn}
use Rattle.ob_code_scheme.specs.Types.{total}
use Rattle.ob_code_scheme.specs.Image.{Scopes, all, position_words, store_words, image}

-- ---- tests of numbers

pub below : (m n : ℕ) → m < n → ltb m n ≡ true
below m n h = grind (arith, nat_tests)

pub not_below : (m n : ℕ) → n ≤ m → ltb m n ≡ false
not_below m n h = grind (arith, nat_tests)

pub within : (m n : ℕ) → m ≤ n → leb m n ≡ true
within m n h = grind (arith, nat_tests)

pub not_within : (m n : ℕ) → n < m → leb m n ≡ false
not_within m n h = grind (arith, nat_tests)

-- ---- the word on top

pub popped_push : (s : List ℤ) (w : ℤ) → popped (s ++ w ∷ []) ≡ Gives (w, s)
popped_push s w =
    let n : length (s ++ w ∷ []) ≡ length s + 1 = length-append s (w ∷ []) in
    let last : length (s ++ w ∷ []) - 1 ≡ length s = omega (arith, n) in
    let some : 0 < length (s ++ w ∷ []) = omega (arith, n) in
    ap (λ (b : Bool). cond b (Gives (get_or (s ++ w ∷ []) (length (s ++ w ∷ []) - 1) (pos 0), take (length (s ++ w ∷ []) - 1) (s ++ w ∷ []))) Sticks) (below 0 (length (s ++ w ∷ [])) some)
    ∙ ap (λ (i : ℕ). Gives (get_or (s ++ w ∷ []) i (pos 0), take i (s ++ w ∷ []))) last
    ∙ ap (λ (x : ℤ). Gives (x, take (length s) (s ++ w ∷ []))) (get_or_at s w [] (pos 0) (length s) refl)
    ∙ ap (λ (l : List ℤ). Gives (w, l)) (take_at s (w ∷ []) (length s) refl)

module _ (code : List Instr) (reserve : ℕ) (scopes : Scopes) (saved : List Saved) (store : Store) where
  abbrev block : List ℤ
  block = position_words (all scopes) (activation_at store 0)

  abbrev stack : List ℤ
  stack = store_words (all scopes) (drop 1 store)

  abbrev at : (turns pc : ℕ) → List ℤ → Configuration
  at turns pc s = record { block = block; body = record { pc = pc; stack = s; fp = total scopes.lower; saved = saved; turns = turns } }

  pub jumps : (turns pc target : ℕ) (temps : List ℤ) → slice_get code pc ≡ Some (Jump target) →
      turn code reserve (image scopes saved store turns pc temps) ≡ Unfinished (image scopes saved store turns target temps)
  jumps turns pc target temps here = ap (λ (o : Option Instr). act_at reserve o (image scopes saved store turns pc temps)) here

  jumped : (turns pc target : ℕ) (w : ℤ) → slice_get code pc ≡ Some (JumpIfFalse target) →
      turn code reserve (image scopes saved store turns pc (w ∷ [])) ≡ cond (int_eq w (pos 0)) (Unfinished (at turns target stack)) (Unfinished (at turns (pc + 1) stack))
  jumped turns pc target w here =
      let c = image scopes saved store turns pc (w ∷ []) in
      ap (λ (o : Option Instr). act_at reserve o c) here
      ∙ ap (λ (m : Made (ℤ × List ℤ)). made_then m (λ (x : ℤ × List ℤ). cond (int_eq x.0 (pos 0)) (goes_to c target x.1) (goes_to c (pc + 1) x.1)))
      (popped_push stack w)

  -- JF pops a word, and goes to the target where it is 0
  pub jumps_false : (turns pc target : ℕ) → slice_get code pc ≡ Some (JumpIfFalse target) →
      turn code reserve (image scopes saved store turns pc (pos 0 ∷ [])) ≡ Unfinished (image scopes saved store turns target [])
  jumps_false turns pc target here =
      jumped turns pc target (pos 0) here ∙ ap (λ (s : List ℤ). Unfinished (at turns target s)) (sym (append-nil stack))

  pub jumps_true : (turns pc target : ℕ) → slice_get code pc ≡ Some (JumpIfFalse target) →
      turn code reserve (image scopes saved store turns pc (pos 1 ∷ [])) ≡ Unfinished (image scopes saved store turns (pc + 1) [])
  jumps_true turns pc target here =
      jumped turns pc target (pos 1) here ∙ ap (λ (s : List ℤ). Unfinished (at turns (pc + 1) s)) (sym (append-nil stack))

  -- TURN takes a turn, or traps
  pub turns_on : (left pc : ℕ) (temps : List ℤ) → slice_get code pc ≡ Some Turn →
      turn code reserve (image scopes saved store (suc left) pc temps) ≡ Unfinished (image scopes saved store left (pc + 1) temps)
  turns_on left pc temps here = ap (λ (o : Option Instr). act_at reserve o (image scopes saved store (suc left) pc temps)) here

  pub no_turn : (pc : ℕ) (temps : List ℤ) → slice_get code pc ≡ Some Turn →
      turn code reserve (image scopes saved store 0 pc temps) ≡ Trapped 5
  no_turn pc temps here = ap (λ (o : Option Instr). act_at reserve o (image scopes saved store 0 pc temps)) here
