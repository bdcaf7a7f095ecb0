-- The sites of statements, loops and calls have places.
use Rattle.std.proofs.Common.{◌≡◌, refl, sym, subst, ℕ, zero, suc, Bool, true, false, List, if◌then◌else◌, Option}
use Rattle.ob_grammar.specs.Tree
use Rattle.ob_grammar.specs.Tree.{Stmt, Stmts, Otherwise}
use Rattle.ob_typing.specs.Program as Programs
use Rattle.ob_typing.specs.Program.{Expression, Statement, Statements, Branches, Procedure, Program}
use Rattle.ob_typing.specs.Arithmetic.{truth_of, no_turn_left}
use Rattle.ob_typing.specs.Scopes.{Environment}
use Rattle.ob_typing.specs.Statements as Typing
use Rattle.ob_typing.specs.Statements.{listed, IsStatement, AreStatements, AreBranches, IsBody}
use Rattle.ob_meaning.specs.OverStore.{Stores}
use Rattle.ob_trap_places.specs.Site.{Turning, here, Sited, Yields, TrapsAt, of_part}
use Rattle.ob_trap_places.specs.SitesOverStore as Sites
use Rattle.ob_trap_places.specs.Places.{Places, Parts, no_part, before, itself, of_parts, places_in, parts_of_selectors, parts_of_actuals, unless_empty, places_in_statement, parts_of_statements, parts_of_branches, parts_of_else, places_in_body}
use Rattle.ob_trap_places.proofs.Landing.{bind, Fits, FitsFrom, bound_from, whole, later, first_part, this_part}
use Rattle.ob_trap_places.proofs.PlacedValues.{value, variable, all_handed}

-- a statement of the program is none that is empty
not_empty : (env : Environment) {st : Stmt} {c : Statement} → IsStatement env st c → (first : Places) (rest : Parts) → unless_empty st first rest ≡ before first rest
not_empty env (Typing.assign target h fits) first rest = refl
not_empty env (Typing.call m count fits) first rest = refl
not_empty env (Typing.if' h) first rest = refl
not_empty env (Typing.while h k) first rest = refl
not_empty env (Typing.repeat k h) first rest = refl

module _ (procedures : ℕ → Places) (stores : Stores) where
  open stores use {Store, Held}

  abbrev pub Runs : Parts → ℕ → Sites.Run stores → Type 0
  Runs parts n f = (t : ℕ) (s : Store) → FitsFrom procedures parts n (f t s)

  pub in_then : (parts : Parts) (n : ℕ) (x : Sited (ℕ × Store)) (f : Sites.Run stores) → FitsFrom procedures parts n x → Runs parts n f →
      FitsFrom procedures parts n (Sites.then_run stores x f)
  in_then parts n (Yields (t, s)) f h k = k t s
  in_then parts n (TrapsAt site) f h k = h

  pub in_turn : (place : ℕ) (rest : Parts) (f : ℕ → Sited (ℕ × Store)) → ((l : ℕ) → FitsFrom procedures (before (itself place) rest) 0 (f l)) → (t : ℕ) →
      FitsFrom procedures (before (itself place) rest) 0 (Sites.with_turn f t)
  in_turn place rest f h zero = this_part procedures place 0 rest
  in_turn place rest f h (suc t) = h t

  runs_if : (parts : Parts) (n : ℕ) (b : Bool) (f g : Sites.Run stores) → Runs parts n f → Runs parts n g → Runs parts n (if b then f else g)
  runs_if parts n true f g h k = h
  runs_if parts n false f g h k = k

  done_runs : (parts : Parts) (n : ℕ) → Runs parts n (Sites.done stores)
  done_runs parts n t s = tt

  -- WHILE: the word, the condition and the statements
  module _ (place : ℕ) (condition statements : Places) (c : Expression) (body : Sites.Run stores)
      (tests : (s : Store) → Fits procedures condition (Sites.value_of stores s c)) (h : (t : ℕ) (s : Store) → Fits procedures statements (body t s)) where
    abbrev while_parts : Parts
    while_parts = before (itself place) (before condition (before statements no_part))

    once_runs : (again : Sites.Run stores) → Runs while_parts 0 again → Runs while_parts 0 (Sites.loop_once stores c body again)
    once_runs again k t s =
        bound_from procedures while_parts 0 (of_part 1 (Sites.value_of stores s c)) _
        (later procedures (itself place) (before condition (before statements no_part)) 0 (of_part 1 (Sites.value_of stores s c))
        (first_part procedures condition (before statements no_part) 1 (Sites.value_of stores s c) (tests s))) (λ v.
        runs_if while_parts 0 (truth_of v) (λ t s. Sites.with_turn (λ l. Sites.then_run stores (of_part 2 (body l s)) again) t) (Sites.done stores)
        (λ t s. in_turn place (before condition (before statements no_part)) (λ l. Sites.then_run stores (of_part 2 (body l s)) again)
        (λ l. in_then while_parts 0 (of_part 2 (body l s)) again
        (later procedures (itself place) (before condition (before statements no_part)) 0 (of_part 2 (body l s))
        (later procedures condition (before statements no_part) 1 (of_part 2 (body l s))
        (first_part procedures statements no_part 2 (body l s) (h l s)))) k) t)
        (done_runs while_parts 0) t s)

    loop_runs : (n : ℕ) → Runs while_parts 0 (Sites.loop stores n c body)
    loop_runs zero = once_runs (λ t s. TrapsAt (here 0 no_turn_left Turning)) (λ t s. this_part procedures place 0 (before condition (before statements no_part)))
    loop_runs (suc n) = once_runs (Sites.loop stores n c body) (loop_runs n)

    -- REPEAT: the word, the statements and the condition
    abbrev repeat_parts : Parts
    repeat_parts = before (itself place) (before statements (before condition no_part))

    tested : Sites.Run stores → Sites.Run stores
    tested again t s = bind (of_part 2 (Sites.value_of stores s c)) (λ v. (if truth_of v then Sites.done stores else again) t s)

    tested_runs : (again : Sites.Run stores) → Runs repeat_parts 0 again → Runs repeat_parts 0 (tested again)
    unfolding tested
    tested_runs again k t s =
        bound_from procedures repeat_parts 0 (of_part 2 (Sites.value_of stores s c)) _
        (later procedures (itself place) (before statements (before condition no_part)) 0 (of_part 2 (Sites.value_of stores s c))
        (later procedures statements (before condition no_part) 1 (of_part 2 (Sites.value_of stores s c))
        (first_part procedures condition no_part 2 (Sites.value_of stores s c) (tests s))))
        (λ v. runs_if repeat_parts 0 (truth_of v) (Sites.done stores) again (done_runs repeat_parts 0) k t s)

    round_runs : (again : Sites.Run stores) → Runs repeat_parts 0 again → Runs repeat_parts 0 (Sites.rounds_once stores body c again)
    unfolding tested
    round_runs again k t s =
        in_turn place (before statements (before condition no_part)) (λ l. Sites.then_run stores (of_part 1 (body l s)) (tested again))
        (λ l. in_then repeat_parts 0 (of_part 1 (body l s)) (tested again)
        (later procedures (itself place) (before statements (before condition no_part)) 0 (of_part 1 (body l s))
        (first_part procedures statements (before condition no_part) 1 (body l s) (h l s)))
        (tested_runs again k)) t

    rounds_run : (n : ℕ) → Runs repeat_parts 0 (Sites.rounds stores n body c)
    rounds_run zero t s = this_part procedures place 0 (before statements (before condition no_part))
    rounds_run (suc n) t s = round_runs (Sites.rounds stores n body c) (rounds_run n) t s

  module _ (env : Environment) (call : Sites.Calls stores)
      (calls : (n : ℕ) (hs : List Held) (place : ℕ) (rest : Parts) → Runs (before (itself place) rest) 0 (call n hs)) where
    mutual
      statement_runs : {st : Stmt} {c : Statement} → IsStatement env st c → (t : ℕ) (s : Store) →
          Fits procedures (places_in_statement st) (Sites.meaning stores call c t s)
      statement_runs (Typing.assign {selectors = selectors} {e = e} {d = d} {c = c} target h fits) t s =
          let places : Places = of_parts (parts_of_selectors selectors) in
          let behind : Parts = before (places_in e) no_part in
          whole procedures (before places behind) (Sites.meaning stores call (Programs.Assign d c) t s)
          (bound_from procedures (before places behind) 0 (of_part 0 (Sites.place_of stores s d)) _
          (first_part procedures places behind 0 (Sites.place_of stores s d) (variable procedures stores s env target)) (λ p.
          bound_from procedures (before places behind) 0 (of_part 1 (Sites.value_of stores s c)) _
          (later procedures places behind 0 (of_part 1 (Sites.value_of stores s c))
          (first_part procedures (places_in e) no_part 1 (Sites.value_of stores s c) (value procedures stores s env h))) (λ v. tt)))
      statement_runs (Typing.call {name = name} {actuals = actuals} {n = n} {cs = cs} m count fits) t s =
          let behind : Parts = parts_of_actuals (listed actuals) in
          whole procedures (before (itself name.place) behind) (Sites.meaning stores call (Programs.Call n cs) t s)
          (bound_from procedures (before (itself name.place) behind) 0 (Sites.all_handed stores s 1 cs) _
          (later procedures (itself name.place) behind 0 (Sites.all_handed stores s 1 cs) (all_handed procedures stores s env fits 1))
          (λ hs. calls n hs name.place behind t s))
      statement_runs (Typing.if' {branches = branches} {otherwise = o} {bs = bs} h) t s =
          whole procedures (parts_of_branches branches (parts_of_else o)) (Sites.meaning_of_branches stores call 0 bs t s) (branches_run h 0 t s)
      statement_runs (Typing.while {place = place} {condition = condition} {body = body} {c = c} {ss = ss} h k) t s =
          whole procedures (before (itself place) (before (places_in condition) (before (of_parts (parts_of_statements body)) no_part)))
          (Sites.loop stores t c (Sites.meaning_of_all stores call 0 ss) t s)
          (loop_runs place (places_in condition) (of_parts (parts_of_statements body)) c (Sites.meaning_of_all stores call 0 ss)
          (λ s. value procedures stores s env h) (λ t s. whole procedures (parts_of_statements body) (Sites.meaning_of_all stores call 0 ss t s) (statements_run k 0 t s)) t t s)
      statement_runs (Typing.repeat {place = place} {body = body} {condition = condition} {ss = ss} {c = c} k h) t s =
          whole procedures (before (itself place) (before (of_parts (parts_of_statements body)) (before (places_in condition) no_part)))
          (Sites.rounds stores t (Sites.meaning_of_all stores call 0 ss) c t s)
          (rounds_run place (places_in condition) (of_parts (parts_of_statements body)) c (Sites.meaning_of_all stores call 0 ss)
          (λ s. value procedures stores s env h) (λ t s. whole procedures (parts_of_statements body) (Sites.meaning_of_all stores call 0 ss t s) (statements_run k 0 t s)) t t s)

      statements_run : {ss : Stmts} {cs : Statements} → AreStatements env ss cs → (n : ℕ) → Runs (parts_of_statements ss) n (Sites.meaning_of_all stores call n cs)
      statements_run Typing.no_statement n t s = tt
      statements_run (Typing.empty h) n t s = statements_run h n t s
      statements_run (Typing.more {s = st} {rest = rest} {c = c} {cs = cs} h k) n t s =
          subst (λ parts. FitsFrom procedures parts n (Sites.then_run stores (of_part n (Sites.meaning stores call c t s)) (Sites.meaning_of_all stores call (suc n) cs)))
          (sym (not_empty env h (places_in_statement st) (parts_of_statements rest)))
          (in_then (before (places_in_statement st) (parts_of_statements rest)) n (of_part n (Sites.meaning stores call c t s)) (Sites.meaning_of_all stores call (suc n) cs)
          (first_part procedures (places_in_statement st) (parts_of_statements rest) n (Sites.meaning stores call c t s) (statement_runs h t s))
          (λ t s. later procedures (places_in_statement st) (parts_of_statements rest) n (Sites.meaning_of_all stores call (suc n) cs t s) (statements_run k (suc n) t s)))

      branches_run : {bs : Tree.Branches} {o : Otherwise} {cs : Branches} → AreBranches env bs o cs → (n : ℕ) →
          Runs (parts_of_branches bs (parts_of_else o)) n (Sites.meaning_of_branches stores call n cs)
      branches_run Typing.no_else n t s = tt
      branches_run (Typing.otherwise {body = body} {ss = ss} h) n t s =
          first_part procedures (of_parts (parts_of_statements body)) no_part n (Sites.meaning_of_all stores call 0 ss t s)
          (whole procedures (parts_of_statements body) (Sites.meaning_of_all stores call 0 ss t s) (statements_run h 0 t s))
      branches_run (Typing.branch {condition = condition} {body = body} {rest = rest} {o = o} {c = c} {ss = ss} {bs = bs} h k more) n t s =
          let others : Parts = parts_of_branches rest (parts_of_else o) in
          let statements : Places = of_parts (parts_of_statements body) in
          let behind : Parts = before statements no_part in
          let first : Places = of_parts (before (places_in condition) behind) in
          bound_from procedures (before first others) n (of_part n (of_part 0 (Sites.value_of stores s c))) _
          (first_part procedures first others n (of_part 0 (Sites.value_of stores s c))
          (whole procedures (before (places_in condition) behind) (of_part 0 (Sites.value_of stores s c))
          (first_part procedures (places_in condition) behind 0 (Sites.value_of stores s c) (value procedures stores s env h)))) (λ v.
          runs_if (before first others) n (truth_of v) (Sites.run_part stores n (Sites.run_part stores 1 (Sites.meaning_of_all stores call 0 ss))) (Sites.meaning_of_branches stores call (suc n) bs)
          (λ t s. first_part procedures first others n (of_part 1 (Sites.meaning_of_all stores call 0 ss t s))
          (whole procedures (before (places_in condition) behind) (of_part 1 (Sites.meaning_of_all stores call 0 ss t s))
          (later procedures (places_in condition) behind 0 (of_part 1 (Sites.meaning_of_all stores call 0 ss t s))
          (first_part procedures statements no_part 1 (Sites.meaning_of_all stores call 0 ss t s)
          (whole procedures (parts_of_statements body) (Sites.meaning_of_all stores call 0 ss t s) (statements_run k 0 t s))))))
          (λ t s. later procedures first others n (Sites.meaning_of_branches stores call (suc n) bs t s) (branches_run more (suc n) t s)) t s)

    pub of_body : {body : Option Stmts} {cs : Statements} → IsBody env body cs → (t : ℕ) (s : Store) →
        Fits procedures (places_in_body body) (Sites.meaning_of_all stores call 0 cs t s)
    of_body Typing.none t s = tt
    of_body (Typing.some {body = body} {ss = ss} h) t s =
        whole procedures (parts_of_statements body) (Sites.meaning_of_all stores call 0 ss t s) (statements_run h 0 t s)
