-- What runs of procedures that spare the module's variables leave: the module's state as it was.
use Rattle.std.proofs.Common.{◌≡◌, refl, ap, sym, ◌∙◌, ℕ, zero, suc, ◌-◌, Bool, true, false, List, [], ◌∷◌, ◌++◌, map, if◌then◌else◌, Option, Some, None}
use Rattle.std.specs.Prelude.{slice_get, filter}
use Rattle.ob_interface.specs.declared.scalar.Scalar.{Scalar}
use Rattle.ob_typing.specs.Program.{Expression, Statement, Assign, Call, If, While, Repeat, Statements, no_statement, statement, Branches, no_branch, otherwise, branch, Parameter, Procedure, Program}
use Rattle.ob_typing.specs.Arithmetic.{Evaluated, Gives, Traps, truth_of, no_turn_left}
use Rattle.ob_meaning.specs.ByNameObject.{most_activations, other_arguments}
use Rattle.ob_meaning.specs.ByPositionValue.{Single, initial}
use Rattle.ob_meaning.specs.ByPositionStore.{Held, Holds, Activation, Store, activation_at}
use Rattle.ob_meaning.specs.ByPositionEvaluation.{value_of, place_of, all_handed}
use Rattle.ob_meaning.specs.ByPositionStatements.{Outcome, Done, Trap, Run, Calls, after, then_run, with_turn, loop_once, loop, rounds_once, rounds, meaning, meaning_of_all, meaning_of_branches, activation_of, left, activated, calls}
use Rattle.ob_meaning.specs.ByPositionObject.{effect_of, effect_of_procedure, results_begun, outside_handed}
use Rattle.ob_carry.specs.ReadOnly.{SparesModule, AllSpareModule, BranchesSpareModule, KeepTheRule}
use Rattle.ob_carry.specs.ReadOnlyLaws.{ReadOnlyCallsLeaveTheState}
use Rattle.ob_carry.proofs.Stores.{IsBehind, AllSpare, Spared, spared_stored, spared_entered, spared_departed, activation_begun, place_behind, all_handed_spare, Where}

module _ (state : Activation) where
  -- where it is done, it leaves the module's state, and as many activations
  abbrev Leaves : ℕ → Outcome → Type 0
  Leaves n (Done turns store) = Spared state n store
  Leaves n (Trap k) = Unit {0}

  abbrev Keeps : Run → Type 0
  Keeps run = (n turns : ℕ) (store : Store) → Spared state n store → Leaves n (run turns store)

  leaves_after : {A : Type 0} (P : A → Type 0) (n : ℕ) (v : Evaluated A) (go : A → Outcome) → Where P v → ((a : A) → P a → Leaves n (go a)) → Leaves n (after v go)
  leaves_after P n (Gives a) go w h = h a w
  leaves_after P n (Traps k) go w h = tt

  -- whatever the value is
  leaves_with : {A : Type 0} (n : ℕ) (v : Evaluated A) (go : A → Outcome) → ((a : A) → Leaves n (go a)) → Leaves n (after v go)
  leaves_with n (Gives a) go h = h a
  leaves_with n (Traps k) go h = tt

  leaves_then : (n : ℕ) (o : Outcome) (run : Run) → Leaves n o → Keeps run → Leaves n (then_run o run)
  leaves_then n (Done turns store) run h k = k n turns store h
  leaves_then n (Trap k) run h _ = tt

  leaves_turn : (n : ℕ) (go : ℕ → Outcome) → ((t : ℕ) → Leaves n (go t)) → (t : ℕ) → Leaves n (with_turn go t)
  leaves_turn n go h zero = tt
  leaves_turn n go h (suc t) = h t

  keeps_if : (b : Bool) (r s : Run) → Keeps r → Keeps s → Keeps (if b then r else s)
  keeps_if true r s x y = x
  keeps_if false r s x y = y

  leaves_left : (n : ℕ) (o : Outcome) → Leaves (suc n) o → Leaves n (left o)
  leaves_left n (Done turns store) h = spared_departed state n store h
  leaves_left n (Trap k) h = tt

  once_keeps : (c : Expression) (body again : Run) → Keeps body → Keeps again → Keeps (loop_once c body again)
  once_keeps c body again x y n t s h =
      leaves_with n (value_of s c) _ (λ v.
      keeps_if (truth_of v) (λ t s. with_turn (λ l. then_run (body l s) again) t) Done
      (λ n t s h. leaves_turn n (λ l. then_run (body l s) again) (λ l. leaves_then n (body l s) again (x n l s h) y) t)
      (λ n t s h. h) n t s h)

  loop_keeps : (m : ℕ) (c : Expression) (body : Run) → Keeps body → Keeps (loop m c body)
  loop_keeps zero c body x = once_keeps c body (λ t s. Trap no_turn_left) x (λ n t s h. tt)
  loop_keeps (suc m) c body x = once_keeps c body (loop m c body) x (loop_keeps m c body x)

  round_keeps : (body : Run) (c : Expression) (again : Run) → Keeps body → Keeps again → Keeps (rounds_once body c again)
  round_keeps body c again x y n t s h =
      let behind : Run = λ u next. after (value_of next c) (λ v. (if truth_of v then Done else again) u next) in
      leaves_turn n (λ l. then_run (body l s) behind)
      (λ l. leaves_then n (body l s) behind (x n l s h)
      (λ n u next h. leaves_with n (value_of next c) _ (λ v. keeps_if (truth_of v) Done again (λ n u next h. h) y n u next h))) t

  rounds_keep : (m : ℕ) (body : Run) (c : Expression) → Keeps body → Keeps (rounds m body c)
  rounds_keep zero body c x = λ n t s h. tt
  rounds_keep (suc m) body c x = round_keeps body c (rounds m body c) x (rounds_keep m body c x)

  module _ (is_quiet : ℕ → Bool) where
    module _ (call : Calls) (x : (number : ℕ) (hs : List Held) → is_quiet number ≡ true → AllSpare hs → Keeps (call number hs)) where
      mutual
        statement_keeps : (st : Statement) → SparesModule is_quiet st → Keeps (meaning call st)
        statement_keeps (Assign target e) own n t s h =
            leaves_after IsBehind n (place_of s target) _ (place_behind state n s h target own)
            (λ place b. leaves_with n (value_of s e) _ (λ w. spared_stored state n s place (Single w) h b))
        statement_keeps (Call number actuals) own n t s h =
            leaves_after AllSpare n (all_handed s actuals) _ (all_handed_spare state n s h actuals own.1) (λ hs spare. x number hs own.0 spare n t s h)
        statement_keeps (If branches) own n t s h = branches_keep branches own n t s h
        statement_keeps (While c body) own n t s h = loop_keeps t c (meaning_of_all call body) (statements_keep body own) n t s h
        statement_keeps (Repeat body c) own n t s h = rounds_keep t (meaning_of_all call body) c (statements_keep body own) n t s h

        statements_keep : (ss : Statements) → AllSpareModule is_quiet ss → Keeps (meaning_of_all call ss)
        statements_keep no_statement own n t s h = h
        statements_keep (statement first rest) own n t s h =
            leaves_then n (meaning call first t s) (meaning_of_all call rest) (statement_keeps first own.0 n t s h) (statements_keep rest own.1)

        branches_keep : (bs : Branches) → BranchesSpareModule is_quiet bs → Keeps (meaning_of_branches call bs)
        branches_keep no_branch own n t s h = h
        branches_keep (otherwise ss) own n t s h = statements_keep ss own n t s h
        branches_keep (branch c ss rest) own n t s h =
            leaves_with n (value_of s c) _ (λ v. keeps_if (truth_of v) _ _ (statements_keep ss own.0) (branches_keep rest own.1) n t s h)

      activated_keeps : (o : Option Procedure) (hs : List Held) → ((p : Procedure) → o ≡ Some p → AllSpareModule is_quiet p.body) → AllSpare hs → Keeps (activated call o hs)
      activated_keeps None hs own spare n t s h = h
      activated_keeps (Some p) hs own spare n t s h =
          leaves_left n (meaning_of_all call p.body t (s ++ activation_of p hs ∷ []))
          (statements_keep p.body (own p refl) (suc n) t (s ++ activation_of p hs ∷ []) (spared_entered state n s (activation_of p hs) h (activation_begun p hs spare)))

    calls_keep : (program : Program) → KeepTheRule program is_quiet → (more number : ℕ) (hs : List Held) → is_quiet number ≡ true → AllSpare hs → Keeps (calls program more number hs)
    calls_keep program rule zero number hs q spare n t s h = tt
    calls_keep program rule (suc more) number hs q spare n t s h =
        leaves_turn n (λ rest. activated (calls program more) (slice_get program.procedures number) hs rest s)
        (λ l. activated_keeps (calls program more) (calls_keep program rule more) (slice_get program.procedures number) hs (λ p here. rule number p q here) spare n l s h) t

either_spares : (b : Bool) (hs gs : List Held) → AllSpare hs → AllSpare gs → AllSpare (if b then hs else gs)
either_spares true hs gs h g = h
either_spares false hs gs h g = g

-- the places of the results lie behind the module
outside_spare : (m : ℕ) (ps : List Parameter) (arguments : List Scalar) → AllSpare (outside_handed m ps arguments)
outside_spare m [] arguments = tt
outside_spare m (p ∷ ps) arguments =
    either_spares p.is_var _ _ ((0, refl), outside_spare (suc m) ps arguments) (tt, outside_spare m ps (other_arguments arguments))

results_spare : (ps : List Parameter) → AllSpare (results_begun ps)
results_spare ps = of (filter (λ p. p.is_var) ps)
  where
    of : (qs : List Parameter) → AllSpare (map (λ p. Holds (initial p.type)) qs)
    of [] = tt
    of (q ∷ qs) = (tt, of qs)

state_left : (state : Activation) (n : ℕ) (o : Outcome) → Leaves state n o → state ≡ (effect_of state o).state
state_left state n (Done turns store) h = sym (ap (λ x. activation_at x 0) h.whole)
state_left state n (Trap k) h = refl

pub read_only_calls : ReadOnlyCallsLeaveTheState
read_only_calls program is_quiet export p rule here own budget arguments before after reply ends =
    let handed = outside_handed 0 p.parameters arguments in
    let store : Store = before ∷ results_begun p.parameters ∷ activation_of p handed ∷ [] in
    let start : Spared before 1 store = record {
      behind = results_begun p.parameters ∷ activation_of p handed ∷ [];
      whole = refl;
      size = refl;
      spare = (results_spare p.parameters, (activation_begun p handed (outside_spare 0 p.parameters arguments), tt));
    } in
    let more = most_activations - 1 in
    let run = meaning_of_all (calls program more) p.body budget store in
    state_left before 1 run (statements_keep before is_quiet (calls program more) (calls_keep before is_quiet program rule more) p.body own 1 budget store start)
    ∙ ap (λ o. (effect_of_procedure program o arguments budget before).state) (sym here)
    ∙ ap (λ e. e.state) ends
