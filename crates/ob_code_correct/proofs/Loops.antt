-- WHILE and REPEAT, by induction on the turns that they may take.
use Rattle.std.proofs.Common.{◌≡◌, ℕ, zero, suc, ◌+◌, ◌<◌, ◌≤◌, [], length, Some, sym, subst, arith}
use Rattle.std.specs.Prelude.{slice_get, if◌then◌else◌}
use Rattle.ob_interface.specs.declared.scalar.ScalarType.TheVariants.{Boolean}
use Rattle.ob_typing.specs.Program.{Expression}
use Rattle.ob_typing.specs.Arithmetic.{truth_of, no_turn_left}
use Rattle.ob_meaning.specs.ByPositionStore.{Store}
use Rattle.ob_meaning.specs.ByPositionEvaluation.{value_of}
use Rattle.ob_meaning.specs.ByPositionStatements.{Outcome, Done, Trap, Run, after, then_run, with_turn, loop_once, loop, rounds_once, rounds}
use Rattle.ob_code_scheme.specs.Types.{Fits}
use Rattle.ob_code_scheme.specs.Temporaries.{temporaries}
use Rattle.ob_code_scheme.specs.WellFormed.{IsOf}
use Rattle.ob_code_words.specs.declared.instr.Instr.TheVariants.{Turn, Jump, JumpIfFalse}
use Rattle.ob_code_scheme.specs.Scheme.{size, code_at, HasAt}
use Rattle.ob_code_scheme.specs.Running.{Setting, globals_of, scopes_of, all_of, reserve_of, here, HasRoom}
use Rattle.ob_code_scheme.specs.Placing.{LeadsGlue, RunsGlue}
use Rattle.ob_code_correct.proofs.StatementsOwed.{Owed}
use Rattle.ob_code_correct.proofs.Steps.{jumps, turns_on, no_turn}
use Rattle.ob_code_correct.proofs.StatementsGlue.{RunsIn, one_on, tests}

module _ (owed : Owed) (at : Setting) where
  abbrev leads : LeadsGlue at.code (reserve_of at)
  leads = owed.leads at.code (reserve_of at)

  abbrev runs : RunsGlue at.code (reserve_of at) (scopes_of at) at.saved
  runs = owed.runs at.code (reserve_of at) (scopes_of at) at.saved

  -- TURN where no turn is left
  none_left : (store : Store) (whole pc p : ℕ) → 1 ≤ whole → slice_get at.code p ≡ Some Turn → RunsIn at whole 0 (here at store 0 p []) pc (Trap no_turn_left)
  none_left store whole pc p few turn_stands =
      runs.traps 0 whole pc 5 (here at store 0 p [])
      (leads.stops_more 1 whole (here at store 0 p []) 5 few (leads.stops_one (here at store 0 p []) 5 (no_turn at.code (reserve_of at) (scopes_of at) at.saved store p [] turn_stands)))

  -- TURN, and what comes behind it with one turn less
  one_taken : (store : Store) (left inner whole pc p : ℕ) (o : Outcome) → 1 + inner ≤ whole + length at.code → slice_get at.code p ≡ Some Turn →
      RunsIn at inner left (here at store left (p + 1) []) pc o → RunsIn at whole (suc left) (here at store (suc left) p []) pc o
  one_taken store left inner whole pc p o few turn_stands r =
      runs.turned 1 left inner whole pc (here at store (suc left) p []) (here at store left (p + 1) []) o few
      (leads.one (here at store (suc left) p []) (here at store left (p + 1) []) (turns_on at.code (reserve_of at) (scopes_of at) at.saved store left p [] turn_stands)) r

  -- the condition of this size stands at a, the body of that size is known to run
  module _ (c : Expression) (body : Run) (length_body : ℕ) (typed : IsOf (globals_of at) at.own c Boolean) (room : HasRoom at [] (temporaries c)) where
    -- WHILE: the condition at a, JF, TURN, the body from b on to q, and the jump back to a
    module _ (a b q end : ℕ)
        (condition_stands : HasAt at.code a (code_at (globals_of at) at.own a c))
        (jump_stands : slice_get at.code (a + size at.own c) ≡ Some (JumpIfFalse end))
        (turn_stands : slice_get at.code (a + size at.own c + 1) ≡ Some Turn)
        (b_is : a + size at.own c + 1 + 1 ≡ b)
        (body_runs : (n : ℕ) (store : Store) → Fits (all_of at) store → RunsIn at length_body n (here at store n b []) q (body n store))
        (back_stands : slice_get at.code q ≡ Some (Jump a))
        (long : size at.own c + 2 + length_body + 1 ≤ length at.code) where
      abbrev whole : ℕ
      whole = size at.own c + 2 + length_body + 1

      abbrev rest : ℕ
      rest = 1 + length_body + 1

      -- where a turn was taken the body runs, and then the loop again
      round_runs : (left : ℕ) (store : Store) (again : Run) → Fits (all_of at) store →
          ((t : ℕ) (s : Store) → t ≤ left → Fits (all_of at) s → RunsIn at whole t (here at s t a []) end (again t s)) →
          RunsIn at (length_body + (1 + whole)) left (here at store left b []) end (then_run (body left store) again)
      round_runs left store again fits again_runs =
          runs.then_runs left length_body (1 + whole) (length_body + (1 + whole)) q end (here at store left b []) (body left store) again (omega arith)
          (body_runs left store fits)
          (λ t s few fits'.
          one_on owed at s t whole (1 + whole) end (here at s t q []) (here at s t a []) (again t s) (omega arith)
          (leads.one (here at s t q []) (here at s t a []) (jumps at.code (reserve_of at) (scopes_of at) at.saved s t q a [] back_stands))
          (again_runs t s few fits'))

      turn_runs : (n : ℕ) (store : Store) (again : Run) → Fits (all_of at) store →
          ((t : ℕ) (s : Store) → t < n → Fits (all_of at) s → RunsIn at whole t (here at s t a []) end (again t s)) →
          RunsIn at rest n (here at store n (a + size at.own c + 1) []) end (with_turn (λ left. then_run (body left store) again) n)
      turn_runs zero store again fits again_runs = none_left store rest end (a + size at.own c + 1) (omega arith) turn_stands
      turn_runs (suc left) store again fits again_runs =
          one_taken store left (length_body + (1 + whole)) rest end (a + size at.own c + 1) (then_run (body left store) again) (omega (arith, long)) turn_stands
          (subst (λ (p : ℕ). RunsIn at (length_body + (1 + whole)) left (here at store left p []) end (then_run (body left store) again)) (sym b_is)
          (round_runs left store again fits (λ t s few. again_runs t s (omega (arith, few)))))

      once_runs : (n : ℕ) (store : Store) (again : Run) → Fits (all_of at) store →
          ((t : ℕ) (s : Store) → t < n → Fits (all_of at) s → RunsIn at whole t (here at s t a []) end (again t s)) →
          RunsIn at whole n (here at store n a []) end (loop_once c body again n store)
      once_runs n store again fits again_runs =
          tests owed at store n rest whole end end a (λ t s. with_turn (λ left. then_run (body left s) again) t) Done c fits typed condition_stands room jump_stands (omega arith)
          (turn_runs n store again fits again_runs)
          (runs.done n store (here at store n end []) rest end fits (leads.more 0 rest (here at store n end []) (here at store n end []) (omega arith) (leads.none (here at store n end []))))

      pub loop_runs : (m n : ℕ) (store : Store) → n ≤ m → Fits (all_of at) store → RunsIn at whole n (here at store n a []) end (loop m c body n store)
      loop_runs zero n store few fits = once_runs n store (λ turns s. Trap no_turn_left) fits (λ t s less. absurd (omega (arith, few, less)))
      loop_runs (suc m) n store few fits = once_runs n store (loop m c body) fits (λ t s less. loop_runs m t s (omega (arith, few, less)))

    -- REPEAT: TURN at a, the body from the next place to p, the condition, and JF back to a
    module _ (a p : ℕ)
        (turn_stands : slice_get at.code a ≡ Some Turn)
        (body_runs : (n : ℕ) (store : Store) → Fits (all_of at) store → RunsIn at length_body n (here at store n (a + 1) []) p (body n store))
        (condition_stands : HasAt at.code p (code_at (globals_of at) at.own p c))
        (jump_stands : slice_get at.code (p + size at.own c) ≡ Some (JumpIfFalse a))
        (long : 1 + length_body + size at.own c + 1 ≤ length at.code) where
      abbrev all_rounds : ℕ
      all_rounds = 1 + length_body + size at.own c + 1

      abbrev behind_all : ℕ
      behind_all = p + size at.own c + 1

      -- the condition behind the body
      again_or_done : (t : ℕ) (s : Store) (again : Run) → Fits (all_of at) s → RunsIn at all_rounds t (here at s t a []) behind_all (again t s) →
          RunsIn at (size at.own c + (1 + all_rounds)) t (here at s t p []) behind_all (after (value_of s c) (λ v. (if truth_of v then Done else again) t s))
      again_or_done t s again fits again_runs =
          tests owed at s t all_rounds (size at.own c + (1 + all_rounds)) behind_all a p Done again c fits typed condition_stands room jump_stands (omega arith)
          (runs.done t s (here at s t behind_all []) all_rounds behind_all fits
          (leads.more 0 all_rounds (here at s t behind_all []) (here at s t behind_all []) (omega arith) (leads.none (here at s t behind_all []))))
          again_runs

      one_round : (n : ℕ) (store : Store) (again : Run) → Fits (all_of at) store →
          ((t : ℕ) (s : Store) → t < n → Fits (all_of at) s → RunsIn at all_rounds t (here at s t a []) behind_all (again t s)) →
          RunsIn at all_rounds n (here at store n a []) behind_all (rounds_once body c again n store)
      one_round zero store again fits again_runs = none_left store all_rounds behind_all a (omega arith) turn_stands
      one_round (suc left) store again fits again_runs =
          let run : Run = λ t s. after (value_of s c) (λ v. (if truth_of v then Done else again) t s) in
          one_taken store left (length_body + (size at.own c + (1 + all_rounds))) all_rounds behind_all a (then_run (body left store) run) (omega (arith, long)) turn_stands
          (runs.then_runs left length_body (size at.own c + (1 + all_rounds)) (length_body + (size at.own c + (1 + all_rounds))) p behind_all (here at store left (a + 1) []) (body left store) run
          (omega arith) (body_runs left store fits)
          (λ t s few fits'. again_or_done t s again fits' (again_runs t s (omega (arith, few)) fits')))

      pub rounds_run : (m n : ℕ) (store : Store) → n ≤ m → Fits (all_of at) store → RunsIn at all_rounds n (here at store n a []) behind_all (rounds m body c n store)
      rounds_run zero zero store few fits = none_left store all_rounds behind_all a (omega arith) turn_stands
      rounds_run zero (suc n) store few fits = absurd (omega (arith, few))
      rounds_run (suc m) n store few fits = one_round n store (rounds m body c) fits (λ t s less. rounds_run m t s (omega (arith, few, less)))
