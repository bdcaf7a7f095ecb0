-- What a run that is done keeps: the number of activations.
use Rattle.std.proofs.Common.{◌≡◌, refl, ap, subst, ◌∙◌, arith, ℕ, zero, suc, pred, Bool, true, false, List, [], ◌∷◌, ◌++◌, length, take, if◌then◌else◌, Option, Some, None}
use Rattle.std.specs.Prelude.{slice_get}
use Rattle.std.proofs.lemmas.List.{length-set, length-append}
use Rattle.ob_typing.specs.Program.{Expression, Statement, Assign, Call, If, While, Repeat, Statements, no_statement, statement, Branches, no_branch, otherwise, branch, Procedure, Program}
use Rattle.ob_typing.specs.Arithmetic.{Evaluated, Gives, Traps, truth_of, no_turn_left}
use Rattle.ob_meaning.specs.ByPositionValue.{Value, Single}
use Rattle.ob_meaning.specs.ByPositionStore.{Place, Held, Activation, Store, activation_at, with_held, stored}
use Rattle.ob_meaning.specs.ByPositionEvaluation.{place_of, value_of, all_handed}
use Rattle.ob_meaning.specs.ByPositionStatements.{Outcome, Done, Trap, Run, Calls, after, then_run, with_turn, loop_once, loop, rounds_once, rounds, meaning, meaning_of_all, meaning_of_branches, activation_of, left, activated, calls}

-- a run that is done leaves as many activations
abbrev pub Kept : Store → Store → Type 0
Kept was next = length next ≡ length was

kept_stored : (store : Store) (place : Place) (w : Value) → Kept store (stored store place w)
kept_stored store place w = length-set store place.activation (with_held (activation_at store place.activation) place.position place.path w)

-- without the last activation
shorter : (a : Activation) (next : Store) → length (take (pred (length (a ∷ next))) (a ∷ next)) ≡ length next
shorter a [] = refl
shorter a (b ∷ next) = ap suc (shorter b next)

kept_left : (store : Store) (a : Activation) (next : Store) → Kept (store ++ a ∷ []) next → Kept store (take (pred (length next)) next)
kept_left store a [] h = absurd (let f = length-append store (a ∷ []) in omega (arith, h, f))
kept_left store a (n ∷ next) h = shorter n next ∙ (let e : suc (length next) ≡ length (store ++ a ∷ []) = h in let f = length-append store (a ∷ []) in omega (arith, e, f))

-- what an outcome keeps
abbrev Leaves : Store → Outcome → Type 0
Leaves was (Done turns next) = Kept was next
Leaves was (Trap k) = Unit {0}

abbrev Keeps : Run → Type 0
Keeps run = (turns : ℕ) (store : Store) → Leaves store (run turns store)

leaves_later : (a b : Store) (o : Outcome) → Kept a b → Leaves b o → Leaves a o
leaves_later a b (Done turns c) h k = k ∙ h
leaves_later a b (Trap n) h k = tt

leaves_after : {A : Type 0} (was : Store) (v : Evaluated A) (go : A → Outcome) → ((a : A) → Leaves was (go a)) → Leaves was (after v go)
leaves_after was (Gives a) go h = h a
leaves_after was (Traps k) go h = tt

leaves_then : (was : Store) (o : Outcome) (run : Run) → Leaves was o → Keeps run → Leaves was (then_run o run)
leaves_then was (Done turns store) run h k = leaves_later was store (run turns store) h (k turns store)
leaves_then was (Trap n) run h k = tt

leaves_turn : (was : Store) (go : ℕ → Outcome) → ((t : ℕ) → Leaves was (go t)) → (t : ℕ) → Leaves was (with_turn go t)
leaves_turn was go h zero = tt
leaves_turn was go h (suc t) = h t

keeps_if : (b : Bool) (r s : Run) → Keeps r → Keeps s → Keeps (if b then r else s)
keeps_if true r s x y = x
keeps_if false r s x y = y

leaves_left : (store : Store) (a : Activation) (o : Outcome) → Leaves (store ++ a ∷ []) o → Leaves store (left o)
leaves_left store a (Done turns next) h = kept_left store a next h
leaves_left store a (Trap k) h = tt

once_keeps : (c : Expression) (body again : Run) → Keeps body → Keeps again → Keeps (loop_once c body again)
once_keeps c body again x y t s =
    leaves_after s (value_of s c) _ (λ v.
    keeps_if (truth_of v) (λ t s. with_turn (λ l. then_run (body l s) again) t) Done
    (λ t s. leaves_turn s (λ l. then_run (body l s) again) (λ l. leaves_then s (body l s) again (x l s) y) t)
    (λ t s. refl) t s)

loop_keeps : (n : ℕ) (c : Expression) (body : Run) → Keeps body → Keeps (loop n c body)
loop_keeps zero c body x = once_keeps c body (λ t s. Trap no_turn_left) x (λ t s. tt)
loop_keeps (suc n) c body x = once_keeps c body (loop n c body) x (loop_keeps n c body x)

round_keeps : (body : Run) (c : Expression) (again : Run) → Keeps body → Keeps again → Keeps (rounds_once body c again)
round_keeps body c again x y t s =
    let behind : Run = λ u next. after (value_of next c) (λ v. (if truth_of v then Done else again) u next) in
    leaves_turn s (λ l. then_run (body l s) behind)
    (λ l. leaves_then s (body l s) behind (x l s)
    (λ u next. leaves_after next (value_of next c) _ (λ v. keeps_if (truth_of v) Done again (λ u next. refl) y u next))) t

rounds_keep : (n : ℕ) (body : Run) (c : Expression) → Keeps body → Keeps (rounds n body c)
rounds_keep zero body c x = λ t s. tt
rounds_keep (suc n) body c x = round_keeps body c (rounds n body c) x (rounds_keep n body c x)

module _ (call : Calls) (x : (p : ℕ) (hs : List Held) → Keeps (call p hs)) where
  mutual
    statement_keeps : (st : Statement) → Keeps (meaning call st)
    statement_keeps (Assign target v) t s =
        leaves_after s (place_of s target) _ (λ place. leaves_after s (value_of s v) _ (λ w. kept_stored s place (Single w)))
    statement_keeps (Call p actuals) t s = leaves_after s (all_handed s actuals) _ (λ hs. x p hs t s)
    statement_keeps (If branches) t s = branches_keep branches t s
    statement_keeps (While c body) t s = loop_keeps t c (meaning_of_all call body) (statements_keep body) t s
    statement_keeps (Repeat body c) t s = rounds_keep t (meaning_of_all call body) c (statements_keep body) t s

    statements_keep : (ss : Statements) → Keeps (meaning_of_all call ss)
    statements_keep no_statement t s = refl
    statements_keep (statement first rest) t s =
        leaves_then s (meaning call first t s) (meaning_of_all call rest) (statement_keeps first t s) (statements_keep rest)

    branches_keep : (bs : Branches) → Keeps (meaning_of_branches call bs)
    branches_keep no_branch t s = refl
    branches_keep (otherwise ss) t s = statements_keep ss t s
    branches_keep (branch c ss rest) t s =
        leaves_after s (value_of s c) _ (λ v. keeps_if (truth_of v) _ _ (statements_keep ss) (branches_keep rest) t s)

  activated_keeps : (p : Option Procedure) (hs : List Held) → Keeps (activated call p hs)
  activated_keeps None hs t s = refl
  activated_keeps (Some p) hs t s =
      leaves_left s (activation_of p hs) (meaning_of_all call p.body t (s ++ activation_of p hs ∷ [])) (statements_keep p.body t (s ++ activation_of p hs ∷ []))

calls_keep : (program : Program) (more n : ℕ) (hs : List Held) → Keeps (calls program more n hs)
calls_keep program zero n hs t s = tt
calls_keep program (suc more) n hs t s =
    leaves_turn s (λ rest. activated (calls program more) (slice_get program.procedures n) hs rest s)
    (λ l. activated_keeps (calls program more) (calls_keep program more) (slice_get program.procedures n) hs l s) t

-- a run that is done
pub kept_where_done : (program : Program) (more : ℕ) (ss : Statements) (turns l : ℕ) (was next : Store) →
    meaning_of_all (calls program more) ss turns was ≡ Done l next → Kept was next
kept_where_done program more ss turns l was next done =
    subst (Leaves was) done (statements_keep (calls program more) (calls_keep program more) ss turns was)

alone : (store : Store) → length store ≡ 1 → store ≡ activation_at store 0 ∷ []
alone [] h = absurd (omega (arith, h))
alone (a ∷ []) h = refl
alone (a ∷ b ∷ store) h = absurd (let e : suc (suc (length store)) ≡ 1 = h in omega (arith, e))

-- a run on the module alone leaves the module alone
pub module_alone : (a : Activation) (next : Store) → Kept (a ∷ []) next → next ≡ activation_at next 0 ∷ []
module_alone a next kept = alone next kept
