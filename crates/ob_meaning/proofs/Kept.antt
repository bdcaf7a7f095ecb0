-- What a run keeps: the number of activations, the names of the module's variables in their order, and that these
-- have values of their own; and it has no more turns than before.
use Rattle.std.proofs.Common.{◌≡◌, refl, ap, sym, subst, ◌∙◌, arith, ℕ, zero, suc, pred, ◌-◌, ◌<◌, ◌≤◌, Bool, true, false, List, [], ◌∷◌, ◌++◌, map, length, take, if◌then◌else◌, bytes_eq, Option, Some, None}
use Rattle.std.specs.Prelude.{slice_get}
use Rattle.std.proofs.lemmas.List.{length-set, length-append}
use Rattle.ob_interface.specs.declared.scalar.Scalar.{Scalar}
use Rattle.ob_typing.specs.Program.{Name, Variable, Expression, Statement, Assign, Call, If, While, Repeat, Statements, no_statement, statement, Branches, no_branch, otherwise, branch, Procedure, Program, exports}
use Rattle.ob_typing.specs.Arithmetic.{Evaluated, Gives, Traps, truth_of, no_turn_left}
use Rattle.ob_meaning.specs.ByNameValue.{Value, Single, SelectorValue}
use Rattle.ob_meaning.specs.ByNameStore.{Place, Held, Binding, Holds, Activation, Store, IsValue, AreValues, names_of, activation_at, value_held, rebound, stored}
use Rattle.ob_meaning.specs.ByNameEvaluation.{place_of, value_of, all_handed}
use Rattle.ob_meaning.specs.ByNameStatements.{Outcome, Done, Trap, Run, Calls, after, then_run, with_turn, loop_once, loop, rounds_once, rounds, meaning, meaning_of_all, meaning_of_branches, begun, activation_of, left, activated, calls}
use Rattle.ob_interface.specs.Call.{ObjectCall}
use Rattle.ob_meaning.specs.ByNameObject.{State, HasVariables, results_begun, outside_handed, effect_of, most_turns, most_activations, effect_of_procedure, effect, opening, IsOpening}

names_if : (t : Bool) (v : Value) (b : Binding) → (if t then record b { held = Holds v } else b).name ≡ b.name
names_if true v b = refl
names_if false v b = refl

names_rebound : (name : Name) (path : List SelectorValue) (v : Value) (bindings : Activation) →
    names_of (map (rebound name path v) bindings) ≡ names_of bindings
names_rebound name path v [] = refl
names_rebound name path v (b ∷ bindings) =
    let first = names_if (bytes_eq b.name name) (Rattle.ob_meaning.specs.ByNameValue.replaced (value_held b.held) path v) b in
    let others = names_rebound name path v bindings in
    cc

value_if : (t : Bool) (v : Value) (b : Binding) → IsValue b.held → IsValue (if t then record b { held = Holds v } else b).held
value_if true v b h = tt
value_if false v b h = h

values_rebound : (name : Name) (path : List SelectorValue) (v : Value) (bindings : Activation) →
    AreValues bindings → AreValues (map (rebound name path v) bindings)
values_rebound name path v [] h = tt
values_rebound name path v (b ∷ bindings) h =
    (value_if (bytes_eq b.name name) _ b h.0, values_rebound name path v bindings h.1)

-- the module is the first activation, where there is one
pub record Kept (was next : Store) : Type 0 where
  pub count : length next ≡ length was
  pub names : 0 < length was → names_of (activation_at next 0) ≡ names_of (activation_at was 0)
  pub values : 0 < length was → AreValues (activation_at was 0) → AreValues (activation_at next 0)

kept_itself : (a : Store) → Kept a a
kept_itself a = record { count = refl; names = λ p. refl; values = λ p h. h }

kept_both : (a b c : Store) → Kept a b → Kept b c → Kept a c
kept_both a b c h k =
    let there : 0 < length a → 0 < length b = λ p. subst (λ n. 0 < n) (sym h.count) p in
    record {
      count = k.count ∙ h.count;
      names = λ p. k.names (there p) ∙ h.names p;
      values = λ p v. k.values (there p) (h.values p v);
    }

names_stored : (store : Store) (k : ℕ) (name : Name) (path : List SelectorValue) (v : Value) →
    names_of (activation_at (stored store (record { activation = k; name = name; selectors = path }) v) 0) ≡ names_of (activation_at store 0)
names_stored [] k name path v = refl
names_stored (a ∷ store) zero name path v = names_rebound name path v a
names_stored (a ∷ store) (suc k) name path v = refl

values_stored : (store : Store) (k : ℕ) (name : Name) (path : List SelectorValue) (v : Value) →
    AreValues (activation_at store 0) → AreValues (activation_at (stored store (record { activation = k; name = name; selectors = path }) v) 0)
values_stored [] k name path v h = h
values_stored (a ∷ store) zero name path v h = values_rebound name path v a h
values_stored (a ∷ store) (suc k) name path v h = h

kept_stored : (store : Store) (place : Place) (v : Value) → Kept store (stored store place v)
kept_stored store place v =
    record {
      count = length-set store place.activation (map (rebound place.name place.selectors v) (activation_at store place.activation));
      names = λ p. names_stored store place.activation place.name place.selectors v;
      values = λ p h. values_stored store place.activation place.name place.selectors v h;
    }

-- without the last activation
shorter : (a : Activation) (next : Store) → length (take (pred (length (a ∷ next))) (a ∷ next)) ≡ length next
shorter a [] = refl
shorter a (b ∷ next) = ap suc (shorter b next)

kept_left : (store : Store) (a : Activation) (next : Store) → Kept (store ++ a ∷ []) next → Kept store (take (pred (length next)) next)
kept_left store a [] h = absurd (let e = h.count in let f = length-append store (a ∷ []) in omega (arith, e, f))
kept_left [] a (n ∷ next) h =
    record { count = shorter n next ∙ (let e : suc (length next) ≡ 1 = h.count in omega (arith, e)); names = λ p. absurd (omega (arith, p)); values = λ p. absurd (omega (arith, p)) }
kept_left (m ∷ store) a (n ∷ []) h = absurd (let e = h.count in let f = length-append store (a ∷ []) in omega (arith, e, f))
kept_left (m ∷ store) a (n ∷ o ∷ next) h =
    record {
      count = shorter n (o ∷ next) ∙ (let e : suc (suc (length next)) ≡ suc (length (store ++ a ∷ [])) = h.count in let f = length-append store (a ∷ []) in omega (arith, e, f));
      names = λ p. h.names (omega arith);
      values = λ p. h.values (omega arith);
    }

-- what a run with so many turns keeps, where it is done: it has no more of them
abbrev Leaves : Store → ℕ → Outcome → Type 0
Leaves was turns (Done left next) = (left ≤ turns) × Kept was next
Leaves was turns (Trap k) = Unit {0}

abbrev Keeps : Run → Type 0
Keeps run = (turns : ℕ) (store : Store) → Leaves store turns (run turns store)

leaves_later : (a b : Store) (n m : ℕ) (o : Outcome) → m ≤ n → Kept a b → Leaves b m o → Leaves a n o
leaves_later a b n m (Done l c) le h k = let less = k.0 in (omega (arith, le, less), kept_both a b c h k.1)
leaves_later a b n m (Trap k) le h l = tt

leaves_after : {A : Type 0} (was : Store) (n : ℕ) (v : Evaluated A) (go : A → Outcome) → ((a : A) → Leaves was n (go a)) → Leaves was n (after v go)
leaves_after was n (Gives a) go h = h a
leaves_after was n (Traps k) go h = tt

leaves_then : (was : Store) (n : ℕ) (o : Outcome) (run : Run) → Leaves was n o → Keeps run → Leaves was n (then_run o run)
leaves_then was n (Done t s) run h k = leaves_later was s n t (run t s) h.0 h.1 (k t s)
leaves_then was n (Trap k) run h l = tt

leaves_turn : (was : Store) (go : ℕ → Outcome) → ((t : ℕ) → Leaves was t (go t)) → (t : ℕ) → Leaves was t (with_turn go t)
leaves_turn was go h zero = tt
leaves_turn was go h (suc t) = leaves_later was was (suc t) t (go t) (omega arith) (kept_itself was) (h t)

keeps_if : (b : Bool) (r s : Run) → Keeps r → Keeps s → Keeps (if b then r else s)
keeps_if true r s x y = x
keeps_if false r s x y = y

leaves_left : (store : Store) (a : Activation) (n : ℕ) (o : Outcome) → Leaves (store ++ a ∷ []) n o → Leaves store n (left o)
leaves_left store a n (Done t s) h = (h.0, kept_left store a s h.1)
leaves_left store a n (Trap k) h = tt

done_keeps : Keeps Done
done_keeps t s = (omega arith, kept_itself s)

once_keeps : (c : Expression) (body again : Run) → Keeps body → Keeps again → Keeps (loop_once c body again)
once_keeps c body again x y t s =
    leaves_after s t (value_of s c) _ (λ v.
    keeps_if (truth_of v) (λ t s. with_turn (λ l. then_run (body l s) again) t) Done
    (λ t s. leaves_turn s (λ l. then_run (body l s) again) (λ l. leaves_then s l (body l s) again (x l s) y) t)
    done_keeps t s)

loop_keeps : (n : ℕ) (c : Expression) (body : Run) → Keeps body → Keeps (loop n c body)
loop_keeps zero c body x = once_keeps c body (λ t s. Trap no_turn_left) x (λ t s. tt)
loop_keeps (suc n) c body x = once_keeps c body (loop n c body) x (loop_keeps n c body x)

-- what comes behind the body of a loop that tests there
tested : Expression → Run → Run
tested c again t s = after (value_of s c) (λ v. (if truth_of v then Done else again) t s)

tested_keeps : (c : Expression) (again : Run) → Keeps again → Keeps (tested c again)
unfolding tested
tested_keeps c again y t s = leaves_after s t (value_of s c) _ (λ v. keeps_if (truth_of v) Done again done_keeps y t s)

round_keeps : (body : Run) (c : Expression) (again : Run) → Keeps body → Keeps again → Keeps (rounds_once body c again)
unfolding tested
round_keeps body c again x y t s =
    leaves_turn s (λ l. then_run (body l s) (tested c again)) (λ l. leaves_then s l (body l s) (tested c again) (x l s) (tested_keeps c again y)) t

rounds_keep : (n : ℕ) (body : Run) (c : Expression) → Keeps body → Keeps (rounds n body c)
rounds_keep zero body c x t s = tt
rounds_keep (suc n) body c x t s = round_keeps body c (rounds n body c) x (rounds_keep n body c x) t s

module _ (call : Calls) (x : (p : ℕ) (hs : List Held) → Keeps (call p hs)) where
  mutual
    statement_keeps : (st : Statement) → Keeps (meaning call st)
    statement_keeps (Assign target v) t s =
        leaves_after s t (place_of s target) _ (λ place.
        leaves_after s t (value_of s v) _ (λ w. (omega arith, kept_stored s place (Single w))))
    statement_keeps (Call p actuals) t s = leaves_after s t (all_handed s actuals) _ (λ hs. x p hs t s)
    statement_keeps (If branches) t s = branches_keep branches t s
    statement_keeps (While c body) t s = loop_keeps t c (meaning_of_all call body) (statements_keep body) t s
    statement_keeps (Repeat body c) t s = rounds_keep t (meaning_of_all call body) c (statements_keep body) t s

    statements_keep : (ss : Statements) → Keeps (meaning_of_all call ss)
    statements_keep no_statement t s = done_keeps t s
    statements_keep (statement first rest) t s =
        leaves_then s t (meaning call first t s) (meaning_of_all call rest) (statement_keeps first t s) (statements_keep rest)

    branches_keep : (bs : Branches) → Keeps (meaning_of_branches call bs)
    branches_keep no_branch t s = done_keeps t s
    branches_keep (otherwise ss) t s = statements_keep ss t s
    branches_keep (branch c ss rest) t s =
        leaves_after s t (value_of s c) _ (λ v. keeps_if (truth_of v) _ _ (statements_keep ss) (branches_keep rest) t s)

  activated_keeps : (p : Option Procedure) (hs : List Held) → Keeps (activated call p hs)
  activated_keeps None hs t s = done_keeps t s
  activated_keeps (Some p) hs t s =
      leaves_left s (activation_of p hs) t (meaning_of_all call p.body t (s ++ activation_of p hs ∷ [])) (statements_keep p.body t (s ++ activation_of p hs ∷ []))

calls_keep : (program : Program) (depth n : ℕ) (hs : List Held) → Keeps (calls program depth n hs)
calls_keep program zero n hs t s = tt
calls_keep program (suc depth) n hs t s =
    leaves_turn s (λ rest. activated (calls program depth) (slice_get program.procedures n) hs rest s)
    (λ l. activated_keeps (calls program depth) (calls_keep program depth) (slice_get program.procedures n) hs l s) t

-- the turns that are left

left_within : (was : Store) (t l : ℕ) (next : Store) (o : Outcome) → Leaves was t o → o ≡ Done l next → l ≤ t
left_within was t l next o h d = (subst (Leaves was t) d h).0

pub statements_spend : (program : Program) (depth : ℕ) (ss : Statements) (t l : ℕ) (was next : Store) →
    meaning_of_all (calls program depth) ss t was ≡ Done l next → l ≤ t
statements_spend program depth ss t l was next d =
    left_within was t l next _ (statements_keep (calls program depth) (calls_keep program depth) ss t was) d

pub call_spends : (program : Program) (depth n : ℕ) (hs : List Held) (t l : ℕ) (was next : Store) →
    calls program depth n hs t was ≡ Done l next → l ≤ t
call_spends program depth n hs t l was next d = left_within was t l next _ (calls_keep program depth n hs t was) d

-- the opening and one call on the object

names_begun : (vs : List Variable) → names_of (begun vs) ≡ map (λ v. v.name) vs
names_begun [] = refl
names_begun (v ∷ vs) = ap (λ xs. v.name ∷ xs) (names_begun vs)

values_begun : (vs : List Variable) → AreValues (begun vs)
values_begun [] = tt
values_begun (v ∷ vs) = (tt, values_begun vs)

alone : (store : Store) → length store ≡ 1 → store ≡ activation_at store 0 ∷ []
alone [] h = absurd (omega (arith, h))
alone (a ∷ []) h = refl
alone (a ∷ b ∷ store) h = absurd (let e : suc (suc (length store)) ≡ 1 = h in omega (arith, e))

opened : (program : Program) (turns : ℕ) (o : Outcome) → Leaves (begun program.variables ∷ []) turns o → (l : ℕ) (store : Store) → o ≡ Done l store →
    (state : State) × ((store ≡ state ∷ []) × HasVariables program state)
opened program turns o h l store d =
    let kept : Kept (begun program.variables ∷ []) store = (subst (Leaves (begun program.variables ∷ []) turns) d h).1 in (
      activation_at store 0,
      (
        alone store kept.count,
        record { names = kept.names (omega arith) ∙ names_begun program.variables; values = kept.values (omega arith) (values_begun program.variables) },
      ),
    )

pub opening_has : (program : Program) (turns l : ℕ) (store : Store) → opening program turns ≡ Done l store →
    (state : State) × ((store ≡ state ∷ []) × HasVariables program state)
opening_has program turns l store d =
    opened program turns (opening program turns) (statements_keep (calls program most_activations) (calls_keep program most_activations) program.body turns (begun program.variables ∷ [])) l store d

-- the state that an opening ends in
pub opening_state : (program : Program) (state : State) → IsOpening program state → HasVariables program state
opening_state program state opens =
    let (state', (same, has)) = opening_has program most_turns opens.0 (state ∷ []) opens.1 in
    let one : state' ≡ state = cc in
    subst (HasVariables program) one has

effect_has : (program : Program) (state : State) (rest : Store) (n : ℕ) (o : Outcome) → Leaves (state ∷ rest) n o →
    HasVariables program state → HasVariables program (effect_of state o).state
effect_has program state rest n (Done t s) h has =
    record { names = h.1.names (omega arith) ∙ has.names; values = h.1.values (omega arith) has.values }
effect_has program state rest n (Trap k) h has = has

procedure_has : (program : Program) (p : Option Procedure) (arguments : List Scalar) (t : ℕ) (state : State) →
    HasVariables program state → HasVariables program (effect_of_procedure program p arguments t state).state
procedure_has program None arguments t state has = has
procedure_has program (Some p) arguments t state has =
    let rest : Store = results_begun p.parameters ∷ activation_of p (outside_handed p.parameters arguments) ∷ [] in
    let call : Calls = calls program (most_activations - 1) in
    effect_has program state rest t (meaning_of_all call p.body t (state ∷ rest))
    (statements_keep call (calls_keep program (most_activations - 1)) p.body t (state ∷ rest)) has

pub call_has : (program : Program) (call : ObjectCall) (t : ℕ) (state : State) →
    HasVariables program state → HasVariables program (effect program call t state).state
call_has program call t state has = procedure_has program (slice_get (exports program) call.export) call.arguments t state has
