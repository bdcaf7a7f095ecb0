-- Statements and calls keep the scopes of a store; so where an opening ends it leaves a state.
use Rattle.std.proofs.Common.{◌≡◌, ℕ, zero, suc, Bool, true, false, List, [], ◌∷◌, ◌++◌, length, refl, sym, ap, subst, arith}
use Rattle.std.specs.Prelude.{slice_get, Option, Some, None, if◌then◌else◌}
use Rattle.ob_interface.specs.declared.scalar.ScalarType.TheVariants.{Boolean}
use Rattle.ob_typing.specs.Program.{DataType, Simple, Owner, OfModule, Own, Expression, Actual, Statement, Assign, Call, If, While, Repeat, Statements, no_statement, statement, Branches, no_branch, otherwise, branch, Procedure, Program}
use Rattle.ob_typing.specs.Arithmetic.{Evaluated, Gives, Traps, truth_of}
use Rattle.ob_meaning.specs.ByPositionValue.{Single}
use Rattle.ob_meaning.specs.ByPositionStore.{Held, Store, held_at, place_held, place_owned, stored}
use Rattle.ob_meaning.specs.ByPositionEvaluation.{value_of, place_of, all_handed}
use Rattle.ob_meaning.specs.ByPositionStatements.{Outcome, Done, Trap, Run, Calls, after, then_run, with_turn, loop_once, loop, rounds_once, rounds, meaning, meaning_of_all, meaning_of_branches, begun, activation_of, left, activated, calls}
use Rattle.ob_meaning.specs.ByPositionObject.{opening}
use Rattle.ob_meaning.specs.ByNameObject.{most_activations}
use Rattle.ob_code_scheme.specs.Types.{Scope, type_of_space, type_at, scope_of, variables_scope, parameters_scope, frame_scope, IsScalarOf, IsPlace, IsPlaceIn, FitsHanded, FitsFrom, Fits}
use Rattle.ob_code_scheme.specs.WellFormed.{HasPosition, IsOf, AreActualsOf, IsFine, AreFine, AreFineBranches, IsWellFormed}
use Rattle.ob_code_correct.proofs.Memory.{memory_holds}
use Rattle.ob_code_correct.proofs.Initial.{begun_fits}
use Rattle.ob_code_correct.proofs.Growth.{grown_store, shrunk_store}
use Rattle.ob_code_correct.proofs.Found.{FoundKind, value_there, reference_there, kind_of}
use Rattle.ob_code_scheme.proofs.Fine.{fine_procedure}
use Rattle.ob_code_correct.specs.Kept.{Gets, Keeps, OpeningsAreStates}
use Rattle.ob_code_correct.proofs.KeptExpressions.{HasVariables, value_typed, place_typed, actuals_typed}

module _ (scopes : List Scope) where
  after_keeps : {A : Type 0} (P : A → Type 0) (e : Evaluated A) (go : A → Outcome) → Gets P e → ((a : A) → P a → Keeps scopes (go a)) → Keeps scopes (after e go)
  after_keeps P (Gives a) go h g = g a h
  after_keeps P (Traps k) go h g = tt

  then_keeps : (o : Outcome) (run : Run) → Keeps scopes o → ((n : ℕ) (store : Store) → Fits scopes store → Keeps scopes (run n store)) → Keeps scopes (then_run o run)
  then_keeps (Done n store) run h g = g n store h
  then_keeps (Trap k) run h g = tt

  turn_keeps : (go : ℕ → Outcome) (n : ℕ) → ((k : ℕ) → Keeps scopes (go k)) → Keeps scopes (with_turn go n)
  turn_keeps go zero h = tt
  turn_keeps go (suc n) h = h n

  if_keeps : (b : Bool) (f g : Run) (n : ℕ) (store : Store) → Keeps scopes (f n store) → Keeps scopes (g n store) → Keeps scopes ((if b then f else g) n store)
  if_keeps true f g n store h k = h
  if_keeps false f g n store h k = k

  -- a run that keeps them
  abbrev RunKeeps : Run → Type 0
  RunKeeps run = (n : ℕ) (store : Store) → Fits scopes store → Keeps scopes (run n store)

  module _ (condition : Expression) (typed : (store : Store) → Fits scopes store → Gets (IsScalarOf Boolean) (value_of store condition)) (body : Run) (body_keeps : RunKeeps body) where
    once_keeps : (again : Run) → RunKeeps again → RunKeeps (loop_once condition body again)
    once_keeps again h n store fits =
        after_keeps (IsScalarOf Boolean) (value_of store condition) _ (typed store fits)
        (λ v k. if_keeps (truth_of v) (λ t s. with_turn (λ rest. then_run (body rest s) again) t) Done n store
        (turn_keeps (λ rest. then_run (body rest store) again) n (λ rest. then_keeps (body rest store) again (body_keeps rest store fits) h))
        fits)

    loop_keeps : (count : ℕ) → RunKeeps (loop count condition body)
    loop_keeps zero = once_keeps (λ n store. Trap 5) (λ n store fits. tt)
    loop_keeps (suc count) = once_keeps (loop count condition body) (loop_keeps count)

    round_keeps : (again : Run) → RunKeeps again → RunKeeps (rounds_once body condition again)
    round_keeps again h n store fits =
        turn_keeps (λ rest. then_run (body rest store) (λ t s. after (value_of s condition) (λ v. (if truth_of v then Done else again) t s))) n
        (λ rest. then_keeps (body rest store) (λ t s. after (value_of s condition) (λ v. (if truth_of v then Done else again) t s)) (body_keeps rest store fits)
        (λ t s k. after_keeps (IsScalarOf Boolean) (value_of s condition) (λ v. (if truth_of v then Done else again) t s) (typed s k)
        (λ v l. if_keeps (truth_of v) Done again t s k (h t s k))))

    rounds_keep : (count : ℕ) → RunKeeps (rounds count body condition)
    rounds_keep zero = λ n store fits. tt
    rounds_keep (suc count) = round_keeps (rounds count body condition) (rounds_keep count)

  module _ (program : Program) (own : Scope) (variables : (store : Store) → Fits scopes store → HasVariables scopes (variables_scope program.variables) own store)
      (call : Calls) (call_keeps : (number : ℕ) (p : Procedure) (handed : List Held) → slice_get program.procedures number ≡ Some p → FitsHanded scopes (parameters_scope p.parameters) handed → RunKeeps (call number handed)) where
    abbrev globals : Scope
    globals = variables_scope program.variables

    condition_typed : (e : Expression) → IsOf globals own e Boolean → (store : Store) → Fits scopes store → Gets (IsScalarOf Boolean) (value_of store e)
    condition_typed e h store fits = value_typed scopes globals own store fits (variables store fits) e Boolean h

    -- a call in the text, of a procedure that is there
    called : (number : ℕ) (actuals : List Actual) (o : Option Procedure) → slice_get program.procedures number ≡ o → AreActualsOf globals own actuals o → RunKeeps (λ n store. after (all_handed store actuals) (λ handed. call number handed n store))
    called number actuals None at h n store fits = absurd h
    called number actuals (Some p) at h n store fits =
        after_keeps (λ handed. FitsHanded scopes (parameters_scope p.parameters) handed) (all_handed store actuals) (λ handed. call number handed n store)
        (actuals_typed scopes globals own store fits (variables store fits) actuals (parameters_scope p.parameters) h)
        (λ handed k. call_keeps number p handed at k n store fits)

    mutual
      pub statement_keeps : (s : Statement) → IsFine globals own program.procedures s → RunKeeps (meaning call s)
      statement_keeps (Assign target e) h n store fits =
          after_keeps (λ place. IsPlace scopes place (Simple h.0)) (place_of store target) (λ place. after (value_of store e) (λ v. Done n (stored store place (Single v))))
          (place_typed scopes globals own store fits (variables store fits) target (Simple h.0) h.1)
          (λ place is. after_keeps (IsScalarOf h.0) (value_of store e) (λ v. Done n (stored store place (Single v)))
          (value_typed scopes globals own store fits (variables store fits) e h.0 h.2)
          (λ v k. (memory_holds.changes scopes store place h.0 v fits is k).fits))
      statement_keeps (Call number actuals) h n store fits = called number actuals (slice_get program.procedures number) refl h n store fits
      statement_keeps (If branches) h n store fits = branches_keep branches h n store fits
      statement_keeps (While condition body) h n store fits =
          loop_keeps condition (condition_typed condition h.0) (meaning_of_all call body) (statements_keep body h.1) n n store fits
      statement_keeps (Repeat body condition) h n store fits =
          rounds_keep condition (condition_typed condition h.1) (meaning_of_all call body) (statements_keep body h.0) n n store fits

      pub statements_keep : (ss : Statements) → AreFine globals own program.procedures ss → RunKeeps (meaning_of_all call ss)
      statements_keep no_statement h n store fits = fits
      statements_keep (statement first rest) h n store fits =
          then_keeps (meaning call first n store) (meaning_of_all call rest) (statement_keeps first h.0 n store fits) (statements_keep rest h.1)

      pub branches_keep : (branches : Branches) → AreFineBranches globals own program.procedures branches → RunKeeps (meaning_of_branches call branches)
      branches_keep no_branch h n store fits = fits
      branches_keep (otherwise ss) h n store fits = statements_keep ss h n store fits
      branches_keep (branch condition ss rest) h n store fits =
          after_keeps (IsScalarOf Boolean) (value_of store condition) (λ v. (if truth_of v then meaning_of_all call ss else meaning_of_branches call rest) n store)
          (condition_typed condition h.0 store fits)
          (λ v k. if_keeps (truth_of v) (meaning_of_all call ss) (meaning_of_branches call rest) n store (statements_keep ss h.1 n store fits) (branches_keep rest h.2 n store fits))

-- ---- calls

module _ (program : Program) (well : IsWellFormed program) where
  abbrev module_scope : Scope
  module_scope = variables_scope program.variables

  -- the activation is gone
  left_keeps : (scopes : List Scope) (own : Scope) (o : Outcome) → Keeps (scopes ++ own ∷ []) o → Keeps scopes (left o)
  left_keeps scopes own (Done n store) h = (shrunk_store scopes own store h).0
  left_keeps scopes own (Trap k) h = tt

  -- calls of this meaning keep the module's variables and then these positions
  abbrev CallsKeep : Calls → List Scope → Type 0
  CallsKeep call lower =
      (number : ℕ) (p : Procedure) (handed : List Held) → slice_get program.procedures number ≡ Some p → FitsHanded (module_scope ∷ lower) (parameters_scope p.parameters) handed →
      RunKeeps (module_scope ∷ lower) (call number handed)

  -- an activation, where calls in it keep its position too
  inside : (call : Calls) (lower : List Scope) (number : ℕ) (p : Procedure) (handed : List Held) → slice_get program.procedures number ≡ Some p →
      FitsHanded (module_scope ∷ lower) (parameters_scope p.parameters) handed → CallsKeep call (lower ++ frame_scope p ∷ []) → RunKeeps (module_scope ∷ lower) (activated call (Some p) handed)
  inside call lower number p handed at h deeper n store fits =
      let scopes = module_scope ∷ lower in
      let own = frame_scope p in
      let a = activation_of p handed in
      let fitting = (memory_holds.begun_fits scopes (length scopes) (parameters_scope p.parameters) handed p.variables h).0 in
      let grown = (grown_store scopes own store a fits fitting).0 in
      left_keeps scopes own (meaning_of_all call p.body n (store ++ a ∷ []))
      (statements_keep (scopes ++ own ∷ []) program own
      (λ s k slot has. memory_holds.variable_places (record { globals = module_scope; lower = lower; own = own }) s slot k has)
      call deeper p.body (fine_procedure program number p well at).body n (store ++ a ∷ []) grown)

  pub calls_keep : (more : ℕ) (lower : List Scope) → CallsKeep (calls program more) lower
  calls_keep zero lower number p handed at h n store fits = tt
  calls_keep (suc more) lower number p handed at h n store fits =
      turn_keeps (module_scope ∷ lower) (λ rest. activated (calls program more) (slice_get program.procedures number) handed rest store) n
      (λ rest. subst (λ (o : Option Procedure). Keeps (module_scope ∷ lower) (activated (calls program more) o handed rest store)) (sym at)
      (inside (calls program more) lower number p handed at h (calls_keep more (lower ++ frame_scope p ∷ [])) rest store fits))

  -- ---- the opening

  abbrev alone : List Scope
  alone = module_scope ∷ []

  -- a variable of the module is a place of its type
  module_place : (store : Store) (position : ℕ) → Fits alone store → HasPosition module_scope position → IsPlace alone (place_owned OfModule store position) (type_at module_scope position)
  module_place store position fits has = by (kind_of alone 0 alone store 0 position fits.from has)
    where
      by : FoundKind alone 0 alone store 0 position → IsPlaceIn module_scope position [] (type_at module_scope position)
      by (value_there type is place v held) = subst (λ (t : DataType). IsPlaceIn module_scope position [] t) (sym (ap type_of_space is)) place
      by (reference_there type is r) = absurd (omega (arith, r.before))

  -- one activation alone is the running one too
  own_place : (store : Store) (position : ℕ) → FitsFrom alone 0 alone store → HasPosition module_scope position → IsPlace alone (place_owned Own store position) (type_at module_scope position)
  own_place [] position fits has = absurd fits
  own_place (a ∷ b ∷ store) position fits has = absurd fits.1
  own_place (a ∷ []) position fits has = by (kind_of alone 0 alone (a ∷ []) 0 position fits has)
    where
      by : FoundKind alone 0 alone (a ∷ []) 0 position → IsPlace alone (place_held (held_at a position) 0 position) (type_at module_scope position)
      by (value_there type is place v held) =
          subst (λ (h : Held). IsPlace alone (place_held h 0 position) (type_at module_scope position)) (sym held)
          (subst (λ (t : DataType). IsPlaceIn module_scope position [] t) (sym (ap type_of_space is)) place)
      by (reference_there type is r) = absurd (omega (arith, r.before))

  of_owner : (owner : Owner) (store : Store) (position : ℕ) → Fits alone store → HasPosition (scope_of module_scope module_scope owner) position → IsPlace alone (place_owned owner store position) (type_at (scope_of module_scope module_scope owner) position)
  of_owner OfModule store position fits has = module_place store position fits has
  of_owner Own store position fits has = own_place store position fits.from has

  module_places : (store : Store) → Fits alone store → HasVariables alone module_scope module_scope store
  module_places store fits slot has = of_owner slot.owner store slot.position fits has

  opened : (budget : ℕ) → Keeps alone (opening program budget)
  opened budget =
      statements_keep alone program module_scope module_places (calls program most_activations) (calls_keep most_activations [])
      program.body well.body budget (begun program.variables ∷ []) (record { from = (begun_fits alone 0 program.variables, tt) })

pub openings_are_states : OpeningsAreStates
openings_are_states program budget rest store well h =
    (memory_holds.first_is_state (variables_scope program.variables ∷ []) store program.variables (subst (Keeps (variables_scope program.variables ∷ [])) h (opened program well budget)) refl).0
