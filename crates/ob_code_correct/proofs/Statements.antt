-- The code of statements does what they mean, where calls do.
use Rattle.std.proofs.Common.{◌≡◌, ℕ, suc, ◌+◌, List, [], ◌∷◌, length, Some, None, Option, refl, ap, ◌∙◌, subst, arith}
use Rattle.std.specs.Prelude.{slice_get}
use Rattle.ob_interface.specs.declared.scalar.ScalarType.TheVariants.{Boolean}
use Rattle.ob_typing.specs.Program.{Expression, Actual, Parameter, Procedure, Statement, Assign, Call, If, While, Repeat, Statements, no_statement, statement, Branches, no_branch, otherwise, branch}
use Rattle.ob_meaning.specs.ByPositionStore.{Held, Store}
use Rattle.ob_meaning.specs.ByPositionEvaluation.{all_handed}
use Rattle.ob_meaning.specs.ByPositionStatements.{Calls, meaning, meaning_of_all, meaning_of_branches}
use Rattle.ob_code_scheme.specs.Types.{parameters_scope, FitsHanded, Fits}
use Rattle.ob_code_scheme.specs.Temporaries.{statement_temporaries, statements_temporaries, branches_temporaries}
use Rattle.ob_code_scheme.specs.WellFormed.{IsOf, AreActuals, AreActualsOf, IsFine, AreFine, AreFineBranches}
use Rattle.ob_code_words.specs.declared.instr.Instr.TheVariants as Instrs
use Rattle.ob_code_scheme.specs.Scheme.{size, over_size, actuals_size, statement_size, statements_size, branches_size, entry_of, over_code, statement_at, statements_at, branches_at, HasAt}
use Rattle.ob_code_scheme.specs.Image.{position_words, Leads}
use Rattle.ob_code_scheme.specs.Running.{Setting, globals_of, scopes_of, all_of, reserve_of, here, HasRoom}
use Rattle.ob_code_scheme.specs.Placing.{LeadsGlue, RunsGlue}
use Rattle.ob_code_scheme.specs.Executing.{CallRuns, StatementRuns, StatementsRun, BranchesRun}
use Rattle.ob_code_correct.proofs.StatementsOwed.{Owed}
use Rattle.ob_code_correct.proofs.Steps.{jumps}
use Rattle.ob_code_correct.proofs.StatementsGlue.{RunsIn, after_runs, tests}
use Rattle.ob_code_correct.proofs.Assignment.{assignment_runs}
use Rattle.ob_code_correct.proofs.Loops.{loop_runs, rounds_run}
use Rattle.ob_code_correct.proofs.Opened.{call_opened, while_opened, repeat_opened, alternative, next, branch_opened}

module _ (owed : Owed) (at : Setting) (call : Calls) (calls_run : CallRuns at call) where
  abbrev leads : LeadsGlue at.code (reserve_of at)
  leads = owed.leads at.code (reserve_of at)

  abbrev runs : RunsGlue at.code (reserve_of at) (scopes_of at) at.saved
  runs = owed.runs at.code (reserve_of at) (scopes_of at) at.saved

  abbrev entry : ℕ → ℕ
  entry = entry_of at.program.procedures

  -- as many actuals as parameters
  as_many : (actuals : List Actual) (ps : List Parameter) → AreActuals (globals_of at) at.own actuals (parameters_scope ps) → length actuals ≡ length ps
  as_many [] [] h = refl
  as_many [] (p ∷ ps) h = absurd h
  as_many (a ∷ actuals) [] h = absurd h
  as_many (a ∷ actuals) (p ∷ ps) h = ap suc (as_many actuals ps h.1)

  call_statement : (number : ℕ) (actuals : List Actual) (n : ℕ) (store : Store) (a : ℕ) (o : Option Procedure) → slice_get at.program.procedures number ≡ o →
      Fits (all_of at) store → AreActualsOf (globals_of at) at.own actuals o →
      HasAt at.code a (statement_at (globals_of at) at.own entry a (Call number actuals)) → HasRoom at [] (statement_temporaries (Call number actuals)) →
      RunsIn at (statement_size at.own (Call number actuals)) n (here at store n a []) (a + statement_size at.own (Call number actuals)) (meaning call (Call number actuals) n store)
  call_statement number actuals n store a None is fits fine has room = absurd fine
  call_statement number actuals n store a (Some p) is fits fine has room =
      let stands = call_opened owed at.code (globals_of at) at.own entry a number actuals has in
      let b = a + actuals_size at.own actuals in
      let end = a + statement_size at.own (Call number actuals) in
      let last : b + 1 ≡ end = omega arith in
      let call_stands = stands.call_stands ∙ ap (λ (k : ℕ). Some (Instrs.Call (entry number) k)) (as_many actuals p.parameters fine) in
      after_runs owed (List Held) at store n (actuals_size at.own actuals) 1 (statement_size at.own (Call number actuals)) a end []
      (λ handed. FitsHanded (all_of at) (parameters_scope p.parameters) handed) (λ handed. position_words (all_of at) handed) (all_handed store actuals)
      (λ handed. call number handed n store) (omega arith)
      (owed.actuals_run at actuals (parameters_scope p.parameters) store n a [] fits fine stands.actuals_stand room)
      (λ handed fit.
      subst (λ (pc : ℕ). RunsIn at 1 n (here at store n b (position_words (all_of at) handed)) pc (call number handed n store)) last
      (calls_run number p handed n store b is fits fit call_stands))

  -- a list of statements from a place on, in each store
  abbrev ListRuns : Statements → ℕ → Type 0
  ListRuns ss a =
      (n : ℕ) (store : Store) → Fits (all_of at) store →
      RunsIn at (statements_size at.own ss) n (here at store n a []) (a + statements_size at.own ss) (meaning_of_all call ss n store)

  while_statement : (c : Expression) (body : Statements) (n : ℕ) (store : Store) (a : ℕ) → Fits (all_of at) store → IsOf (globals_of at) at.own c Boolean →
      HasAt at.code a (statement_at (globals_of at) at.own entry a (While c body)) → HasRoom at [] (statement_temporaries (While c body)) → ListRuns body (a + size at.own c + 2) →
      RunsIn at (statement_size at.own (While c body)) n (here at store n a []) (a + statement_size at.own (While c body)) (meaning call (While c body) n store)
  while_statement c body n store a fits typed has room body_runs =
      let stands = while_opened owed at.code (globals_of at) at.own entry a c body has in
      let b = a + size at.own c + 2 in
      let q = b + statements_size at.own body in
      let last : q + 1 ≡ a + statement_size at.own (While c body) = omega arith in
      subst (λ (pc : ℕ). RunsIn at (statement_size at.own (While c body)) n (here at store n a []) pc (meaning call (While c body) n store)) last
      (loop_runs owed at c (meaning_of_all call body) (statements_size at.own body) typed (omega (arith, room)) a b q (q + 1)
      stands.condition_stands stands.jump_stands stands.turn_stands (omega arith) body_runs stands.back_stands stands.long n n store (omega arith) fits)

  repeat_statement : (body : Statements) (c : Expression) (n : ℕ) (store : Store) (a : ℕ) → Fits (all_of at) store → IsOf (globals_of at) at.own c Boolean →
      HasAt at.code a (statement_at (globals_of at) at.own entry a (Repeat body c)) → HasRoom at [] (statement_temporaries (Repeat body c)) → ListRuns body (a + 1) →
      RunsIn at (statement_size at.own (Repeat body c)) n (here at store n a []) (a + statement_size at.own (Repeat body c)) (meaning call (Repeat body c) n store)
  repeat_statement body c n store a fits typed has room body_runs =
      let stands = repeat_opened owed at.code (globals_of at) at.own entry a body c has in
      let p = a + 1 + statements_size at.own body in
      let last : p + size at.own c + 1 ≡ a + statement_size at.own (Repeat body c) = omega arith in
      subst (λ (pc : ℕ). RunsIn at (statement_size at.own (Repeat body c)) n (here at store n a []) pc (meaning call (Repeat body c) n store)) last
      (rounds_run owed at c (meaning_of_all call body) (statements_size at.own body) typed (omega (arith, room)) a p
      stands.turn_stands body_runs stands.condition_stands stands.jump_stands stands.long n n store (omega arith) fits)

  -- behind an alternative: over the others, where there are any
  over_leads : (rest : Branches) (q end left : ℕ) (store : Store) → q + over_size rest + branches_size at.own rest ≡ end → HasAt at.code q (over_code rest end) →
      Leads at.code (reserve_of at) (over_size rest) (here at store left q []) (here at store left end [])
  over_leads no_branch q end left store is has =
      let same : q ≡ end = omega (arith, is) in
      subst (λ (pc : ℕ). Leads at.code (reserve_of at) 0 (here at store left q []) (here at store left pc [])) same (leads.none (here at store left q []))
  over_leads (otherwise ss) q end left store is has =
      leads.one (here at store left q []) (here at store left end []) (jumps at.code (reserve_of at) (scopes_of at) at.saved store left q end [] has.0)
  over_leads (branch c ss rest) q end left store is has =
      leads.one (here at store left q []) (here at store left end []) (jumps at.code (reserve_of at) (scopes_of at) at.saved store left q end [] has.0)

  alternatives : (c : Expression) (ss : Statements) (rest : Branches) (n : ℕ) (store : Store) (a : ℕ) → Fits (all_of at) store → IsOf (globals_of at) at.own c Boolean →
      HasAt at.code a (branches_at (globals_of at) at.own entry a (branch c ss rest)) → HasRoom at [] (branches_temporaries (branch c ss rest)) →
      RunsIn at (statements_size at.own ss) n (here at store n (alternative owed at.code (globals_of at) at.own entry a c) []) (alternative owed at.code (globals_of at) at.own entry a c + statements_size at.own ss) (meaning_of_all call ss n store) →
      RunsIn at (branches_size at.own rest) n (here at store n (next owed at.code (globals_of at) at.own entry a c ss rest) []) (next owed at.code (globals_of at) at.own entry a c ss rest + branches_size at.own rest) (meaning_of_branches call rest n store) →
      RunsIn at (branches_size at.own (branch c ss rest)) n (here at store n a []) (a + branches_size at.own (branch c ss rest)) (meaning_of_branches call (branch c ss rest) n store)
  alternatives c ss rest n store a fits typed has room first_runs rest_run =
      let stands = branch_opened owed at.code (globals_of at) at.own entry a c ss rest has in
      let m = alternative owed at.code (globals_of at) at.own entry a c in
      let q = m + statements_size at.own ss in
      let after = q + over_size rest in
      let end = after + branches_size at.own rest in
      let whole = branches_size at.own (branch c ss rest) in
      let inner = statements_size at.own ss + over_size rest + branches_size at.own rest in
      let last : end ≡ a + whole = omega arith in
      subst (λ (pc : ℕ). RunsIn at whole n (here at store n a []) pc (meaning_of_branches call (branch c ss rest) n store)) last
      (tests owed at store n inner whole end after a (meaning_of_all call ss) (meaning_of_branches call rest) c fits typed stands.condition_stands (omega (arith, room)) stands.jump_stands (omega arith)
      (runs.behind (over_size rest) n (statements_size at.own ss) inner q end (here at store n m []) (meaning_of_all call ss n store) (omega arith)
      (λ left s f. over_leads rest q end left s refl stands.over_stands) first_runs)
      (runs.on 0 n (branches_size at.own rest) inner end (here at store n after []) (here at store n after []) (meaning_of_branches call rest n store) (omega arith)
      (leads.none (here at store n after [])) rest_run))

  mutual
    statement_runs : (s : Statement) (n : ℕ) (store : Store) (a : ℕ) →
        Fits (all_of at) store → IsFine (globals_of at) at.own at.program.procedures s →
        HasAt at.code a (statement_at (globals_of at) at.own entry a s) → HasRoom at [] (statement_temporaries s) →
        RunsIn at (statement_size at.own s) n (here at store n a []) (a + statement_size at.own s) (meaning call s n store)
    statement_runs (Assign target e) n store a fits fine has room = assignment_runs owed at store fits call target e fine.0 n a fine.1 fine.2 has room
    statement_runs (Call number actuals) n store a fits fine has room =
        call_statement number actuals n store a (slice_get at.program.procedures number) refl fits fine has room
    statement_runs (If branches) n store a fits fine has room = branches_run branches n store a fits fine has room
    statement_runs (While c body) n store a fits fine has room =
        while_statement c body n store a fits fine.0 has room
        (λ n' s f. statements_run body n' s (a + size at.own c + 2) f fine.1 (while_opened owed at.code (globals_of at) at.own entry a c body has).body_stands (omega (arith, room)))
    statement_runs (Repeat body c) n store a fits fine has room =
        repeat_statement body c n store a fits fine.1 has room
        (λ n' s f. statements_run body n' s (a + 1) f fine.0 (repeat_opened owed at.code (globals_of at) at.own entry a body c has).body_stands (omega (arith, room)))

    statements_run : (ss : Statements) (n : ℕ) (store : Store) (a : ℕ) →
        Fits (all_of at) store → AreFine (globals_of at) at.own at.program.procedures ss →
        HasAt at.code a (statements_at (globals_of at) at.own entry a ss) → HasRoom at [] (statements_temporaries ss) →
        RunsIn at (statements_size at.own ss) n (here at store n a []) (a + statements_size at.own ss) (meaning_of_all call ss n store)
    statements_run no_statement n store a fits fine has room =
        let same : a ≡ a + 0 = omega arith in
        subst (λ (pc : ℕ). RunsIn at 0 n (here at store n a []) pc (meaning_of_all call no_statement n store)) same
        (runs.done n store (here at store n a []) 0 a fits (leads.none (here at store n a [])))
    statements_run (statement s ss) n store a fits fine has room =
        let first = statement_at (globals_of at) at.own entry a s in
        let b = a + statement_size at.own s in
        let rest = statements_at (globals_of at) at.own entry b ss in
        let end = b + statements_size at.own ss in
        let whole = statements_size at.own (statement s ss) in
        let last : end ≡ a + whole = omega arith in
        let back = owed.has_back at.code a (statement_size at.own s) first rest (owed.code_lengths.statement (globals_of at) at.own entry a s) has in
        subst (λ (pc : ℕ). RunsIn at whole n (here at store n a []) pc (meaning_of_all call (statement s ss) n store)) last
        (runs.then_runs n (statement_size at.own s) (statements_size at.own ss) whole b end (here at store n a []) (meaning call s n store) (meaning_of_all call ss) (omega arith)
        (statement_runs s n store a fits fine.0 (owed.has_front at.code a first rest has) (omega (arith, room)))
        (λ left s' few f. statements_run ss left s' b f fine.1 back (omega (arith, room))))

    branches_run : (bs : Branches) (n : ℕ) (store : Store) (a : ℕ) →
        Fits (all_of at) store → AreFineBranches (globals_of at) at.own at.program.procedures bs →
        HasAt at.code a (branches_at (globals_of at) at.own entry a bs) → HasRoom at [] (branches_temporaries bs) →
        RunsIn at (branches_size at.own bs) n (here at store n a []) (a + branches_size at.own bs) (meaning_of_branches call bs n store)
    branches_run no_branch n store a fits fine has room =
        let same : a ≡ a + 0 = omega arith in
        subst (λ (pc : ℕ). RunsIn at 0 n (here at store n a []) pc (meaning_of_branches call no_branch n store)) same
        (runs.done n store (here at store n a []) 0 a fits (leads.none (here at store n a [])))
    branches_run (otherwise ss) n store a fits fine has room = statements_run ss n store a fits fine has room
    branches_run (branch c ss rest) n store a fits fine has room =
        let stands = branch_opened owed at.code (globals_of at) at.own entry a c ss rest has in
        alternatives c ss rest n store a fits fine.0 has room
        (statements_run ss n store (alternative owed at.code (globals_of at) at.own entry a c) fits fine.1 stands.statements_stand (omega (arith, room)))
        (branches_run rest n store (next owed at.code (globals_of at) at.own entry a c ss rest) fits fine.2 stands.rest_stands (omega (arith, room)))

module _ (owed : Owed) where
  pub each_statement : StatementRuns
  each_statement at call calls_run s n store a = statement_runs owed at call calls_run s n store a

  pub each_list : StatementsRun
  each_list at call calls_run ss n store a = statements_run owed at call calls_run ss n store a

  pub each_branches : BranchesRun
  each_branches at call calls_run bs n store a = branches_run owed at call calls_run bs n store a
