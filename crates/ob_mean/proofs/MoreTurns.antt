-- What a run comes to with more turns: where it doesn't run out of turns, to the same, with so many more left; and where it runs out of
-- them, it leaves fewer than there are more.
use Rattle.std.proofs.Common.{◌≡◌, refl, sym, subst, arith, ℕ, zero, suc, ◌+◌, ◌<◌, ◌≤◌, ◌⊎◌, inl, inr, Bool, true, false, List, if◌then◌else◌, Option, Some, None}
use Rattle.std.specs.Prelude.{slice_get}
use Rattle.ob_interface.specs.declared.scalar.Scalar.{Scalar}
use Rattle.ob_typing.specs.Program.{Expression, Statement, Assign, Call, If, While, Repeat, Statements, no_statement, statement, Branches, no_branch, otherwise, branch, Procedure, Program}
use Rattle.ob_typing.specs.Arithmetic.{Evaluated, Gives, Traps, truth_of, no_turn_left}
use Rattle.ob_meaning.specs.OverStore.{Stores, Outcome, Done, Trap, after, then_run, with_turn}
use Rattle.ob_meaning.specs.OverStore as Over

-- so many turns are left at most
abbrev pub Within : {Store : Type 0} → ℕ → Outcome Store → Type 0
Within n (Done l s) = l ≤ n
Within n (Trap k) = Unit {0}

-- what a run comes to, and what it comes to with so many turns more
abbrev pub Beside : {Store : Type 0} → ℕ → Outcome Store → Outcome Store → Type 0
Beside d (Done l s) (Done m t) = (m ≡ d + l) × (t ≡ s)
Beside d (Done l s) (Trap k) = ⊥
Beside d (Trap k) (Done m t) = (k ≡ no_turn_left) × (m < d)
Beside d (Trap k) (Trap j) = (k ≡ no_turn_left) ⊎ (j ≡ k)

module _ {Store : Type 0} where
  within_later : (n m : ℕ) (o : Outcome Store) → m ≤ n → Within m o → Within n o
  within_later n m (Done l s) le h = omega (arith, le, h)
  within_later n m (Trap k) le h = tt

  within_after : {A : Type 0} (n : ℕ) (v : Evaluated A) (go : A → Outcome Store) → ((a : A) → Within n (go a)) → Within n (after v go)
  within_after n (Gives a) go h = h a
  within_after n (Traps k) go h = tt

  within_then : (n : ℕ) (o : Outcome Store) (run : ℕ → Store → Outcome Store) → Within n o → ((t : ℕ) (s : Store) → Within t (run t s)) → Within n (then_run o run)
  within_then n (Done t s) run h k = within_later n t (run t s) h (k t s)
  within_then n (Trap k) run h l = tt

  within_turn : (go : ℕ → Outcome Store) → ((t : ℕ) → Within t (go t)) → (t : ℕ) → Within t (with_turn go t)
  within_turn go h zero = tt
  within_turn go h (suc t) = within_later (suc t) t (go t) (omega arith) (h t)

  beside_none : (d m : ℕ) (o : Outcome Store) → m < d → Within m o → Beside d (Trap no_turn_left) o
  beside_none d m (Done l s) less h = (refl, omega (arith, less, h))
  beside_none d m (Trap k) less h = inl refl

  beside_after : {A : Type 0} (d : ℕ) (v : Evaluated A) (f g : A → Outcome Store) → ((a : A) → Beside d (f a) (g a)) → Beside d (after v f) (after v g)
  beside_after d (Gives a) f g h = h a
  beside_after d (Traps k) f g h = inr refl

  beside_then : (d n : ℕ) (o r : Outcome Store) (run more : ℕ → Store → Outcome Store) → Within n o → Beside d o r →
      ((l m : ℕ) (s : Store) → l ≤ n → m ≡ d + l → Beside d (run l s) (more m s)) → ((t : ℕ) (s : Store) → Within t (more t s)) →
      Beside d (then_run o run) (then_run r more)
  beside_then d n (Done l s) (Done m t) run more w h k x =
      subst (λ q. Beside d (run l s) (more m q)) (sym h.1) (k l m s w h.0)
  beside_then d n (Done l s) (Trap j) run more w h k x = absurd h
  beside_then d n (Trap k) (Done m t) run more w h y x =
      subst (λ q. Beside d (Trap q) (more m t)) (sym h.0) (beside_none d m (more m t) h.1 (x m t))
  beside_then d n (Trap k) (Trap j) run more w h y x = h

  beside_turn : (d t u : ℕ) (go more : ℕ → Outcome Store) → u ≡ d + t → ((l m : ℕ) → l < t → m ≡ d + l → Beside d (go l) (more m)) →
      ((m : ℕ) → Within m (more m)) → Beside d (with_turn go t) (with_turn more u)
  beside_turn d zero zero go more e h x = inl refl
  beside_turn d zero (suc u) go more e h x = beside_none d u (more u) (omega (arith, e)) (x u)
  beside_turn d (suc t) zero go more e h x = absurd (omega (arith, e))
  beside_turn d (suc t) (suc u) go more e h x = h t u (omega arith) (omega (arith, e))

module _ (stores : Stores) where
  open stores use {Store, Held}

  abbrev Run : Type 0
  Run = ℕ → Store → Outcome Store

  abbrev Spends : Run → Type 0
  Spends run = (t : ℕ) (s : Store) → Within t (run t s)

  abbrev Grows : Run → Type 0
  Grows run = (d t u : ℕ) (s : Store) → u ≡ d + t → Beside d (run t s) (run u s)

  abbrev value : Store → Expression → Evaluated Scalar
  value = Over.value_of stores

  -- ---- no run gains turns

  spends_if : (b : Bool) (r s : Run) → Spends r → Spends s → Spends (if b then r else s)
  spends_if true r s x y = x
  spends_if false r s x y = y

  spends_done : Spends Done
  spends_done t s = omega arith

  spends_once : (c : Expression) (body again : Run) → Spends body → Spends again → Spends (Over.loop_once stores c body again)
  spends_once c body again x y t s =
      within_after t (value s c) _ (λ v.
      spends_if (truth_of v) (λ t s. with_turn (λ l. then_run (body l s) again) t) Done
      (λ t s. within_turn (λ l. then_run (body l s) again) (λ l. within_then l (body l s) again (x l s) y) t)
      spends_done t s)

  spends_loop : (n : ℕ) (c : Expression) (body : Run) → Spends body → Spends (Over.loop stores n c body)
  spends_loop zero c body x = spends_once c body (λ t s. Trap no_turn_left) x (λ t s. tt)
  spends_loop (suc n) c body x = spends_once c body (Over.loop stores n c body) x (spends_loop n c body x)

  -- what comes behind the body of a loop that tests there
  tested : Expression → Run → Run
  tested c again t s = after (value s c) (λ v. (if truth_of v then Done else again) t s)

  spends_tested : (c : Expression) (again : Run) → Spends again → Spends (tested c again)
  unfolding tested
  spends_tested c again y t s = within_after t (value s c) _ (λ v. spends_if (truth_of v) Done again spends_done y t s)

  spends_round : (body : Run) (c : Expression) (again : Run) → Spends body → Spends again → Spends (Over.rounds_once stores body c again)
  unfolding tested
  spends_round body c again x y t s =
      within_turn (λ l. then_run (body l s) (tested c again)) (λ l. within_then l (body l s) (tested c again) (x l s) (spends_tested c again y)) t

  spends_rounds : (n : ℕ) (body : Run) (c : Expression) → Spends body → Spends (Over.rounds stores n body c)
  spends_rounds zero body c x t s = tt
  spends_rounds (suc n) body c x t s = spends_round body c (Over.rounds stores n body c) x (spends_rounds n body c x) t s

  module _ (call : Over.Calls stores) (x : (p : ℕ) (hs : List Held) → Spends (call p hs)) where
    mutual
      spends_statement : (st : Statement) → Spends (Over.meaning stores call st)
      spends_statement (Assign target v) t s =
          within_after t (Over.place_of stores s target) _ (λ place. within_after t (value s v) _ (λ w. omega arith))
      spends_statement (Call p actuals) t s = within_after t (Over.all_handed stores s actuals) _ (λ hs. x p hs t s)
      spends_statement (If branches) t s = spends_branches branches t s
      spends_statement (While c body) t s = spends_loop t c (Over.meaning_of_all stores call body) (spends_statements body) t s
      spends_statement (Repeat body c) t s = spends_rounds t (Over.meaning_of_all stores call body) c (spends_statements body) t s

      spends_statements : (ss : Statements) → Spends (Over.meaning_of_all stores call ss)
      spends_statements no_statement t s = spends_done t s
      spends_statements (statement first rest) t s =
          within_then t (Over.meaning stores call first t s) (Over.meaning_of_all stores call rest) (spends_statement first t s) (spends_statements rest)

      spends_branches : (bs : Branches) → Spends (Over.meaning_of_branches stores call bs)
      spends_branches no_branch t s = spends_done t s
      spends_branches (otherwise ss) t s = spends_statements ss t s
      spends_branches (branch c ss rest) t s =
          within_after t (value s c) _ (λ v. spends_if (truth_of v) _ _ (spends_statements ss) (spends_branches rest) t s)

  within_left : (n : ℕ) (o : Outcome Store) → Within n o → Within n (Over.left stores o)
  within_left n (Done t s) h = h
  within_left n (Trap k) h = tt

  spends_activated : (call : Over.Calls stores) → ((p : ℕ) (hs : List Held) → Spends (call p hs)) → (p : Option Procedure) (hs : List Held) →
      Spends (Over.activated stores call p hs)
  spends_activated call x None hs t s = spends_done t s
  spends_activated call x (Some p) hs t s =
      within_left t (Over.meaning_of_all stores call p.body t (stores.entered s p hs)) (spends_statements call x p.body t (stores.entered s p hs))

  spends_calls : (program : Program) (depth n : ℕ) (hs : List Held) → Spends (Over.calls stores program depth n hs)
  spends_calls program zero n hs t s = tt
  spends_calls program (suc depth) n hs t s =
      within_turn (λ rest. Over.activated stores (Over.calls stores program depth) (slice_get program.procedures n) hs rest s)
      (λ l. spends_activated (Over.calls stores program depth) (spends_calls program depth) (slice_get program.procedures n) hs l s) t

  -- ---- with more turns

  beside_if : (b : Bool) (d t u : ℕ) (s : Store) (r r' q q' : Run) → Beside d (r t s) (r' u s) → Beside d (q t s) (q' u s) →
      Beside d ((if b then r else q) t s) ((if b then r' else q') u s)
  beside_if true d t u s r r' q q' x y = x
  beside_if false d t u s r r' q q' x y = y

  once_grows : (c : Expression) (body again more : Run) → Spends body → Grows body → Spends more → (d t u : ℕ) (s : Store) → u ≡ d + t →
      ((l m : ℕ) (s : Store) → l < t → m ≡ d + l → Beside d (again l s) (more m s)) →
      Beside d (Over.loop_once stores c body again t s) (Over.loop_once stores c body more u s)
  once_grows c body again more w x z d t u s e h =
      beside_after d (value s c) _ _ (λ v.
      beside_if (truth_of v) d t u s (λ t s. with_turn (λ l. then_run (body l s) again) t) (λ t s. with_turn (λ l. then_run (body l s) more) t) Done Done
      (beside_turn d t u (λ l. then_run (body l s) again) (λ l. then_run (body l s) more) e
      (λ l m less same. beside_then d l (body l s) (body m s) again more (w l s) (x d l m s same)
      (λ l' m' s' le same'. h l' m' s' (omega (arith, le, less)) same') z)
      (λ m. within_then m (body m s) more (w m s) z))
      (e, refl))

  loop_grows : (n k : ℕ) (c : Expression) (body : Run) → Spends body → Grows body → (d t u : ℕ) (s : Store) → t ≤ n → u ≤ k → u ≡ d + t →
      Beside d (Over.loop stores n c body t s) (Over.loop stores k c body u s)
  loop_grows zero zero c body w x d t u s tn uk e =
      once_grows c body (λ t s. Trap no_turn_left) (λ t s. Trap no_turn_left) w x (λ t s. tt) d t u s e (λ l m s less same. inl refl)
  loop_grows zero (suc k) c body w x d t u s tn uk e =
      once_grows c body (λ t s. Trap no_turn_left) (Over.loop stores k c body) w x (spends_loop k c body w) d t u s e
      (λ l m s less same. absurd (omega (arith, less, tn)))
  loop_grows (suc n) zero c body w x d t u s tn uk e =
      once_grows c body (Over.loop stores n c body) (λ t s. Trap no_turn_left) w x (λ t s. tt) d t u s e
      (λ l m s less same. absurd (omega (arith, less, uk, e)))
  loop_grows (suc n) (suc k) c body w x d t u s tn uk e =
      once_grows c body (Over.loop stores n c body) (Over.loop stores k c body) w x (spends_loop k c body w) d t u s e
      (λ l m s less same. loop_grows n k c body w x d l m s (omega (arith, less, tn)) (omega (arith, less, uk, e, same)) same)

  tested_grows : (c : Expression) (again more : Run) (d t u : ℕ) (s : Store) → u ≡ d + t → Beside d (again t s) (more u s) →
      Beside d (tested c again t s) (tested c more u s)
  unfolding tested
  tested_grows c again more d t u s e h =
      beside_after d (value s c) _ _ (λ v. beside_if (truth_of v) d t u s Done Done again more (e, refl) h)

  round_grows : (body : Run) (c : Expression) (again more : Run) → Spends body → Grows body → Spends more → (d t u : ℕ) (s : Store) → u ≡ d + t →
      ((l m : ℕ) (s : Store) → l < t → m ≡ d + l → Beside d (again l s) (more m s)) →
      Beside d (Over.rounds_once stores body c again t s) (Over.rounds_once stores body c more u s)
  unfolding tested
  round_grows body c again more w x z d t u s e h =
      beside_turn d t u (λ l. then_run (body l s) (tested c again)) (λ l. then_run (body l s) (tested c more)) e
      (λ l m less same. beside_then d l (body l s) (body m s) (tested c again) (tested c more) (w l s) (x d l m s same)
      (λ l' m' s' le same'. tested_grows c again more d l' m' s' same' (h l' m' s' (omega (arith, le, less)) same')) (spends_tested c more z))
      (λ m. within_then m (body m s) (tested c more) (w m s) (spends_tested c more z))

  -- without a turn it is trap 5, as with a turn for nothing
  rounds_none : (k : ℕ) (body : Run) (c : Expression) → Spends body → (d u : ℕ) (s : Store) → u ≤ k → u ≡ d →
      Beside d (Trap no_turn_left) (Over.rounds stores k body c u s)
  unfolding tested
  rounds_none zero body c w d u s uk e = inl refl
  rounds_none (suc k) body c w d zero s uk e = inl refl
  rounds_none (suc k) body c w d (suc u) s uk e =
      beside_none d u (then_run (body u s) (tested c (Over.rounds stores k body c))) (omega (arith, e))
      (within_then u (body u s) (tested c (Over.rounds stores k body c)) (w u s) (spends_tested c (Over.rounds stores k body c) (spends_rounds k body c w)))

  rounds_grow : (n k : ℕ) (body : Run) (c : Expression) → Spends body → Grows body → (d t u : ℕ) (s : Store) → t ≤ n → u ≤ k → u ≡ d + t →
      Beside d (Over.rounds stores n body c t s) (Over.rounds stores k body c u s)
  rounds_grow zero k body c w x d t u s tn uk e = rounds_none k body c w d u s uk (omega (arith, tn, e))
  rounds_grow (suc n) zero body c w x d zero u s tn uk e = inl refl
  rounds_grow (suc n) zero body c w x d (suc t) u s tn uk e = absurd (omega (arith, uk, e))
  rounds_grow (suc n) (suc k) body c w x d t u s tn uk e =
      round_grows body c (Over.rounds stores n body c) (Over.rounds stores k body c) w x (spends_rounds k body c w) d t u s e
      (λ l m s less same. rounds_grow n k body c w x d l m s (omega (arith, less, tn)) (omega (arith, less, uk, e, same)) same)

  module _ (call : Over.Calls stores) (w : (p : ℕ) (hs : List Held) → Spends (call p hs)) (x : (p : ℕ) (hs : List Held) → Grows (call p hs)) where
    mutual
      statement_grows : (st : Statement) → Grows (Over.meaning stores call st)
      statement_grows (Assign target v) d t u s e =
          beside_after d (Over.place_of stores s target) _ _ (λ place. beside_after d (value s v) _ _ (λ w. (e, refl)))
      statement_grows (Call p actuals) d t u s e = beside_after d (Over.all_handed stores s actuals) _ _ (λ hs. x p hs d t u s e)
      statement_grows (If branches) d t u s e = branches_grow branches d t u s e
      statement_grows (While c body) d t u s e =
          loop_grows t u c (Over.meaning_of_all stores call body) (spends_statements call w body) (statements_grow body) d t u s (omega arith) (omega arith) e
      statement_grows (Repeat body c) d t u s e =
          rounds_grow t u (Over.meaning_of_all stores call body) c (spends_statements call w body) (statements_grow body) d t u s (omega arith) (omega arith) e

      statements_grow : (ss : Statements) → Grows (Over.meaning_of_all stores call ss)
      statements_grow no_statement d t u s e = (e, refl)
      statements_grow (statement first rest) d t u s e =
          beside_then d t (Over.meaning stores call first t s) (Over.meaning stores call first u s) (Over.meaning_of_all stores call rest)
          (Over.meaning_of_all stores call rest) (spends_statement call w first t s) (statement_grows first d t u s e)
          (λ l m s' le same. statements_grow rest d l m s' same) (spends_statements call w rest)

      branches_grow : (bs : Branches) → Grows (Over.meaning_of_branches stores call bs)
      branches_grow no_branch d t u s e = (e, refl)
      branches_grow (otherwise ss) d t u s e = statements_grow ss d t u s e
      branches_grow (branch c ss rest) d t u s e =
          beside_after d (value s c) _ _ (λ v.
          beside_if (truth_of v) d t u s _ _ _ _ (statements_grow ss d t u s e) (branches_grow rest d t u s e))

  beside_left : (d : ℕ) (o r : Outcome Store) → Beside d o r → Beside d (Over.left stores o) (Over.left stores r)
  beside_left d (Done l s) (Done m t) h = (h.0, rw h.1 refl)
  beside_left d (Done l s) (Trap k) h = h
  beside_left d (Trap k) (Done m t) h = h
  beside_left d (Trap k) (Trap j) h = h

  activated_grows : (call : Over.Calls stores) → ((p : ℕ) (hs : List Held) → Spends (call p hs)) → ((p : ℕ) (hs : List Held) → Grows (call p hs)) →
      (p : Option Procedure) (hs : List Held) → Grows (Over.activated stores call p hs)
  activated_grows call w x None hs d t u s e = (e, refl)
  activated_grows call w x (Some p) hs d t u s e =
      beside_left d (Over.meaning_of_all stores call p.body t (stores.entered s p hs)) (Over.meaning_of_all stores call p.body u (stores.entered s p hs))
      (statements_grow call w x p.body d t u (stores.entered s p hs) e)

  calls_grow : (program : Program) (depth n : ℕ) (hs : List Held) → Grows (Over.calls stores program depth n hs)
  calls_grow program zero n hs d t u s e = inr refl
  calls_grow program (suc depth) n hs d t u s e =
      beside_turn d t u
      (λ rest. Over.activated stores (Over.calls stores program depth) (slice_get program.procedures n) hs rest s)
      (λ rest. Over.activated stores (Over.calls stores program depth) (slice_get program.procedures n) hs rest s) e
      (λ l m less same. activated_grows (Over.calls stores program depth) (spends_calls program depth) (calls_grow program depth) (slice_get program.procedures n) hs d l m s same)
      (λ m. spends_activated (Over.calls stores program depth) (spends_calls program depth) (slice_get program.procedures n) hs m s)

  -- statements of a program that may make so many activations more
  pub program_grows : (program : Program) (depth : ℕ) (ss : Statements) → Grows (Over.meaning_of_all stores (Over.calls stores program depth) ss)
  program_grows program depth ss =
      statements_grow (Over.calls stores program depth) (spends_calls program depth) (calls_grow program depth) ss

  pub program_spends : (program : Program) (depth : ℕ) (ss : Statements) → Spends (Over.meaning_of_all stores (Over.calls stores program depth) ss)
  program_spends program depth ss = spends_statements (Over.calls stores program depth) (spends_calls program depth) ss
