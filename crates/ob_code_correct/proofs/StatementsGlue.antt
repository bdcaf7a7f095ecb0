-- A run behind an evaluation, and behind the test of a condition.
use Rattle.std.proofs.Common.{◌≡◌, ℕ, ◌+◌, ◌≤◌, true, false, pos, [], ◌∷◌, Some, arith}
use Rattle.std.specs.Prelude.{slice_get, if◌then◌else◌}
use Rattle.ob_interface.specs.declared.scalar.Scalar.{Scalar}
use Rattle.ob_interface.specs.declared.scalar.Scalar.TheVariants.{Int, Bool}
use Rattle.ob_interface.specs.declared.scalar.ScalarType.TheVariants.{Boolean}
use Rattle.ob_typing.specs.Program.{Expression}
use Rattle.ob_typing.specs.Arithmetic.{Gives, Traps, truth_of}
use Rattle.ob_meaning.specs.ByPositionStore.{Store}
use Rattle.ob_meaning.specs.ByPositionEvaluation.{value_of}
use Rattle.ob_meaning.specs.ByPositionStatements.{Outcome, Run, after}
use Rattle.ob_code_scheme.specs.Types.{IsScalarOf, Fits}
use Rattle.ob_code_scheme.specs.Temporaries.{temporaries}
use Rattle.ob_code_scheme.specs.WellFormed.{IsOf}
use Rattle.ob_code_scheme.specs.Layout.{word}
use Rattle.ob_code_words.specs.declared.instr.Instr.TheVariants.{JumpIfFalse}
use Rattle.ob_code_machine.specs.Machine.{Configuration}
use Rattle.ob_code_scheme.specs.Scheme.{size, code_at, HasAt}
use Rattle.ob_code_scheme.specs.Image.{Leads, Runs}
use Rattle.ob_code_scheme.specs.Running.{Setting, globals_of, scopes_of, all_of, reserve_of, here, HasRoom}
use Rattle.ob_code_scheme.specs.Placing.{AfterRuns}
use Rattle.ob_code_correct.proofs.StatementsOwed.{Owed}
use Rattle.ob_code_correct.proofs.Steps.{jumps_false, jumps_true}

-- a run in a setting
abbrev pub RunsIn : Setting → (size n : ℕ) → Configuration → (pc : ℕ) → Outcome → Type 0
RunsIn at size n c pc o = Runs at.code (reserve_of at) (scopes_of at) at.saved size n c pc o

module _ (owed : Owed) where
  pub after_runs : (A : Type 0) → AfterRuns A
  after_runs A at store n size rest whole a pc before Is behind (Gives x) go few h further =
      (owed.runs at.code (reserve_of at) (scopes_of at) at.saved).on size n rest whole pc
      (here at store n a before) (here at store n (a + size) (behind x)) (go x) few h.1 (further x h.0)
  after_runs A at store n size rest whole a pc before Is behind (Traps k) go few h further =
      (owed.runs at.code (reserve_of at) (scopes_of at) at.saved).traps n whole pc k (here at store n a before)
      ((owed.leads at.code (reserve_of at)).stops_more size whole (here at store n a before) k (omega (arith, few)) h)

  module _ (at : Setting) (store : Store) where
    -- one instruction more before a run
    pub one_on : (n size whole pc : ℕ) (a b : Configuration) (o : Outcome) → 1 + size ≤ whole → Leads at.code (reserve_of at) 1 a b →
        RunsIn at size n b pc o → RunsIn at whole n a pc o
    one_on n size whole pc a b o few l r = (owed.runs at.code (reserve_of at) (scopes_of at) at.saved).on 1 n size whole pc a b o few l r

    module _ (n rest pc target : ℕ) (holds fails : Run) (p : ℕ) (jump : slice_get at.code p ≡ Some (JumpIfFalse target))
        (if_true : RunsIn at rest n (here at store n (p + 1) []) pc (holds n store)) (if_false : RunsIn at rest n (here at store n target []) pc (fails n store)) where
      jump_runs : (v : Scalar) → IsScalarOf Boolean v → RunsIn at (1 + rest) n (here at store n p (word v ∷ [])) pc ((if truth_of v then holds else fails) n store)
      jump_runs (Int z) typed = absurd typed
      jump_runs (Bool true) typed =
          one_on n rest (1 + rest) pc (here at store n p (pos 1 ∷ [])) (here at store n (p + 1) []) (holds n store) (omega arith)
          ((owed.leads at.code (reserve_of at)).one (here at store n p (pos 1 ∷ [])) (here at store n (p + 1) [])
          (jumps_true at.code (reserve_of at) (scopes_of at) at.saved store n p target jump)) if_true
      jump_runs (Bool false) typed =
          one_on n rest (1 + rest) pc (here at store n p (pos 0 ∷ [])) (here at store n target []) (fails n store) (omega arith)
          ((owed.leads at.code (reserve_of at)).one (here at store n p (pos 0 ∷ [])) (here at store n target [])
          (jumps_false at.code (reserve_of at) (scopes_of at) at.saved store n p target jump)) if_false

    -- a condition, and JF behind it
    pub tests : (n rest whole pc target a : ℕ) (holds fails : Run) (c : Expression) → Fits (all_of at) store → IsOf (globals_of at) at.own c Boolean →
        HasAt at.code a (code_at (globals_of at) at.own a c) → HasRoom at [] (temporaries c) → slice_get at.code (a + size at.own c) ≡ Some (JumpIfFalse target) →
        size at.own c + (1 + rest) ≤ whole →
        RunsIn at rest n (here at store n (a + size at.own c + 1) []) pc (holds n store) → RunsIn at rest n (here at store n target []) pc (fails n store) →
        RunsIn at whole n (here at store n a []) pc (after (value_of store c) (λ v. (if truth_of v then holds else fails) n store))
    tests n rest whole pc target a holds fails c fits typed has room jump few if_true if_false =
        after_runs Scalar at store n (size at.own c) (1 + rest) whole a pc [] (λ v. IsScalarOf Boolean v) (λ v. word v ∷ []) (value_of store c)
        (λ v. (if truth_of v then holds else fails) n store) few (owed.value_runs at c Boolean store n a [] fits typed has room)
        (jump_runs n rest pc target holds fails (a + size at.own c) jump if_true if_false)
