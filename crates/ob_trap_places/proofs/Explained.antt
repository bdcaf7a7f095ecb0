-- What a site says could not be done leads to its trap.
use Rattle.std.proofs.Common.{◌≡◌, refl, subst, ℕ, zero, suc, Bool, true, false, List, [], ◌∷◌, if◌then◌else◌, Option, Some, None}
use Rattle.std.specs.Prelude.{slice_get}
use Rattle.ob_interface.specs.declared.scalar.Scalar.{Scalar}
use Rattle.ob_typing.specs.declared.operator.BinaryOperator.{BinaryOperator}
use Rattle.ob_typing.specs.Program.{Expression, Literal, ValueOf, Negated, Complement, Computed, Compared, Operations, no_operation, operation, Designator, Designated, Selectors, no_selector, field_of, element_of, Actual, ByValue, ByPlace, Statement, Assign, Call, If, While, Repeat, Statements, no_statement, statement, Branches, no_branch, otherwise, branch, Procedure, Program}
use Rattle.ob_typing.specs.Arithmetic.{Evaluated, Gives, Traps, number_of, computed, decides, negated, truth_of, no_turn_left}
use Rattle.ob_meaning.specs.OverStore.{Stores, within}
use Rattle.ob_trap_places.specs.Site.{Cause, Explains, Site, Operating, Negating, Indexing, Turning, here, Sited, Yields, TrapsAt, at, of_part, of_procedure, site_of}
use Rattle.ob_trap_places.specs.Site as Sited
use Rattle.ob_trap_places.specs.SitesOverStore as Sites

abbrev bind : {A B : Type 0} → Sited A → (A → Sited B) → Sited B
bind = Sited.◌>>=◌

-- where this traps, its cause explains its number
abbrev pub Explained : {A : Type 0} → Sited A → Type 0
Explained (Yields a) = Unit {0}
Explained (TrapsAt site) = Explains site.cause site.number

bound : {A B : Type 0} (x : Sited A) (f : A → Sited B) → Explained x → ((a : A) → Explained (f a)) → Explained (bind x f)
bound (Yields a) f h k = k a
bound (TrapsAt site) f h k = h

in_part : {A : Type 0} (part : ℕ) (x : Sited A) → Explained x → Explained (of_part part x)
in_part part (Yields a) h = tt
in_part part (TrapsAt site) h = h

pub in_procedure : {A : Type 0} (number : ℕ) (x : Sited A) → Explained x → Explained (of_procedure number x)
in_procedure number (Yields a) h = tt
in_procedure number (TrapsAt site) h = h

at_part : {A : Type 0} (part : ℕ) (c : Cause) (v : Evaluated A) → ((k : ℕ) → v ≡ Traps k → Explains c k) → Explained (at part c v)
at_part part c (Gives a) h = tt
at_part part c (Traps k) h = h k refl

in_either : {A : Type 0} (b : Bool) (x y : Sited A) → Explained x → Explained y → Explained (if b then x else y)
in_either true x y h k = h
in_either false x y h k = k

in_applied : (o : BinaryOperator) (v : Scalar) (right : Sited Scalar) → Explained right → Explained (Sites.applied o v right)
in_applied o v right h =
    in_either (decides o v) (Yields v) (bind (of_part 1 right) (λ w. at 0 (Operating o v w) (computed o v w))) tt
    (bound (of_part 1 right) (λ w. at 0 (Operating o v w) (computed o v w)) (in_part 1 right h)
    (λ w. at_part 0 (Operating o v w) (computed o v w) (λ k e. e)))

in_indexed : (length : ℕ) (index : Sited Scalar) → Explained index → Explained (Sites.indexed length index)
in_indexed length index h =
    bound (of_part 1 index) (λ x. at 0 (Indexing length (number_of x)) (within length (number_of x))) (in_part 1 index h)
    (λ x. at_part 0 (Indexing length (number_of x)) (within length (number_of x)) (λ k e. e))

module _ (stores : Stores) where
  open stores use {Store, Place, Step, Held}

  module _ (store : Store) where
    mutual
      value : (e : Expression) → Explained (Sites.value_of stores store e)
      value (Literal s) = tt
      value (ValueOf type variable) = bound (Sites.place_of stores store variable) _ (place variable) (λ p. tt)
      value (Negated e) =
          bound (of_part 1 (Sites.value_of stores store e)) _ (in_part 1 (Sites.value_of stores store e) (value e))
          (λ x. at_part 0 (Negating x) (negated x) (λ k e. e))
      value (Complement e) = bound (of_part 1 (Sites.value_of stores store e)) _ (in_part 1 (Sites.value_of stores store e) (value e)) (λ x. tt)
      value (Computed first rest) =
          bound (of_part 0 (Sites.value_of stores store first)) _ (in_part 0 (Sites.value_of stores store first) (value first)) (λ x. behind 1 x rest)
      value (Compared relation left right) =
          bound (of_part 0 (Sites.value_of stores store left)) _ (in_part 0 (Sites.value_of stores store left) (value left)) (λ x.
          bound (of_part 2 (Sites.value_of stores store right)) _ (in_part 2 (Sites.value_of stores store right) (value right)) (λ y. tt))

      behind : (n : ℕ) (x : Scalar) (operations : Operations) → Explained (Sites.value_behind stores store n x operations)
      behind n x no_operation = tt
      behind n x (operation o e rest) =
          bound (of_part n (Sites.applied o x (Sites.value_of stores store e))) _
          (in_part n (Sites.applied o x (Sites.value_of stores store e)) (in_applied o x (Sites.value_of stores store e) (value e)))
          (λ y. behind (suc n) y rest)

      place : (d : Designator) → Explained (Sites.place_of stores store d)
      place (Designated slot selectors) = bound (Sites.path_of stores store 0 selectors) _ (path 0 selectors) (λ p. tt)

      path : (n : ℕ) (selectors : Selectors) → Explained (Sites.path_of stores store n selectors)
      path n no_selector = tt
      path n (field_of position name rest) = bound (Sites.path_of stores store (suc n) rest) _ (path (suc n) rest) (λ p. tt)
      path n (element_of length index rest) =
          bound (of_part n (Sites.indexed length (Sites.value_of stores store index))) _
          (in_part n (Sites.indexed length (Sites.value_of stores store index)) (in_indexed length (Sites.value_of stores store index) (value index))) (λ i.
          bound (Sites.path_of stores store (suc n) rest) _ (path (suc n) rest) (λ p. tt))

    handed : (actual : Actual) → Explained (Sites.handed stores store actual)
    handed (ByValue e) = bound (Sites.value_of stores store e) _ (value e) (λ v. tt)
    handed (ByPlace d) = bound (Sites.place_of stores store d) _ (place d) (λ p. tt)

    all_handed : (n : ℕ) (actuals : List Actual) → Explained (Sites.all_handed stores store n actuals)
    all_handed n [] = tt
    all_handed n (actual ∷ actuals) =
        bound (of_part n (Sites.handed stores store actual)) _ (in_part n (Sites.handed stores store actual) (handed actual)) (λ first.
        bound (Sites.all_handed stores store (suc n) actuals) _ (all_handed (suc n) actuals) (λ rest. tt))

  -- runs

  abbrev Runs : Sites.Run stores → Type 0
  Runs f = (t : ℕ) (s : Store) → Explained (f t s)

  in_then : (x : Sited (ℕ × Store)) (f : Sites.Run stores) → Explained x → Runs f → Explained (Sites.then_run stores x f)
  in_then (Yields (t, s)) f h k = k t s
  in_then (TrapsAt site) f h k = h

  in_turn : (f : ℕ → Sited (ℕ × Store)) → ((l : ℕ) → Explained (f l)) → (t : ℕ) → Explained (Sites.with_turn f t)
  in_turn f h zero = refl
  in_turn f h (suc t) = h t

  runs_if : (b : Bool) (f g : Sites.Run stores) → Runs f → Runs g → Runs (if b then f else g)
  runs_if true f g h k = h
  runs_if false f g h k = k

  runs_part : (part : ℕ) (f : Sites.Run stores) → Runs f → Runs (Sites.run_part stores part f)
  runs_part part f h t s = in_part part (f t s) (h t s)

  done_runs : Runs (Sites.done stores)
  done_runs t s = tt

  once_runs : (c : Expression) (body again : Sites.Run stores) → Runs body → Runs again → Runs (Sites.loop_once stores c body again)
  once_runs c body again h k t s =
      bound (of_part 1 (Sites.value_of stores s c)) _ (in_part 1 (Sites.value_of stores s c) (value s c)) (λ v.
      runs_if (truth_of v) (λ t s. Sites.with_turn (λ l. Sites.then_run stores (of_part 2 (body l s)) again) t) (Sites.done stores)
      (λ t s. in_turn (λ l. Sites.then_run stores (of_part 2 (body l s)) again)
      (λ l. in_then (of_part 2 (body l s)) again (in_part 2 (body l s) (h l s)) k) t)
      done_runs t s)

  loop_runs : (n : ℕ) (c : Expression) (body : Sites.Run stores) → Runs body → Runs (Sites.loop stores n c body)
  loop_runs zero c body h = once_runs c body (λ t s. TrapsAt (here 0 no_turn_left Turning)) h (λ t s. refl)
  loop_runs (suc n) c body h = once_runs c body (Sites.loop stores n c body) h (loop_runs n c body h)

  -- what comes behind the body of a loop that tests there
  tested : Expression → Sites.Run stores → Sites.Run stores
  tested c again t s = bind (of_part 2 (Sites.value_of stores s c)) (λ v. (if truth_of v then Sites.done stores else again) t s)

  tested_runs : (c : Expression) (again : Sites.Run stores) → Runs again → Runs (tested c again)
  unfolding tested
  tested_runs c again k t s =
      bound (of_part 2 (Sites.value_of stores s c)) _ (in_part 2 (Sites.value_of stores s c) (value s c))
      (λ v. runs_if (truth_of v) (Sites.done stores) again done_runs k t s)

  round_runs : (body : Sites.Run stores) (c : Expression) (again : Sites.Run stores) → Runs body → Runs again → Runs (Sites.rounds_once stores body c again)
  unfolding tested
  round_runs body c again h k t s =
      in_turn (λ l. Sites.then_run stores (of_part 1 (body l s)) (tested c again))
      (λ l. in_then (of_part 1 (body l s)) (tested c again) (in_part 1 (body l s) (h l s)) (tested_runs c again k)) t

  rounds_run : (n : ℕ) (body : Sites.Run stores) (c : Expression) → Runs body → Runs (Sites.rounds stores n body c)
  rounds_run zero body c h t s = refl
  rounds_run (suc n) body c h t s = round_runs body c (Sites.rounds stores n body c) h (rounds_run n body c h) t s

  module _ (call : Sites.Calls stores) (explained : (n : ℕ) (hs : List Held) → Runs (call n hs)) where
    mutual
      statement_runs : (st : Statement) → Runs (Sites.meaning stores call st)
      statement_runs (Assign target e) t s =
          bound (of_part 0 (Sites.place_of stores s target)) _ (in_part 0 (Sites.place_of stores s target) (place s target)) (λ p.
          bound (of_part 1 (Sites.value_of stores s e)) _ (in_part 1 (Sites.value_of stores s e) (value s e)) (λ v. tt))
      statement_runs (Call n actuals) t s = bound (Sites.all_handed stores s 1 actuals) _ (all_handed s 1 actuals) (λ hs. explained n hs t s)
      statement_runs (If branches) t s = branches_run 0 branches t s
      statement_runs (While c body) t s = loop_runs t c (Sites.meaning_of_all stores call 0 body) (statements_run 0 body) t s
      statement_runs (Repeat body c) t s = rounds_run t (Sites.meaning_of_all stores call 0 body) c (statements_run 0 body) t s

      statements_run : (n : ℕ) (ss : Statements) → Runs (Sites.meaning_of_all stores call n ss)
      statements_run n no_statement t s = tt
      statements_run n (statement first rest) t s =
          in_then (of_part n (Sites.meaning stores call first t s)) (Sites.meaning_of_all stores call (suc n) rest)
          (in_part n (Sites.meaning stores call first t s) (statement_runs first t s)) (statements_run (suc n) rest)

      branches_run : (n : ℕ) (bs : Branches) → Runs (Sites.meaning_of_branches stores call n bs)
      branches_run n no_branch t s = tt
      branches_run n (otherwise ss) t s = runs_part n (Sites.meaning_of_all stores call 0 ss) (statements_run 0 ss) t s
      branches_run n (branch c ss rest) t s =
          bound (of_part n (of_part 0 (Sites.value_of stores s c))) _ (in_part n (of_part 0 (Sites.value_of stores s c)) (in_part 0 (Sites.value_of stores s c) (value s c))) (λ v.
          runs_if (truth_of v) (Sites.run_part stores n (Sites.run_part stores 1 (Sites.meaning_of_all stores call 0 ss))) (Sites.meaning_of_branches stores call (suc n) rest)
          (runs_part n (Sites.run_part stores 1 (Sites.meaning_of_all stores call 0 ss)) (runs_part 1 (Sites.meaning_of_all stores call 0 ss) (statements_run 0 ss)))
          (branches_run (suc n) rest) t s)

    in_left : (x : Sited (ℕ × Store)) → Explained x → Explained (Sites.left stores x)
    in_left (Yields (t, s)) h = tt
    in_left (TrapsAt site) h = h

    activated_runs : (p : Option Procedure) (hs : List Held) → Runs (Sites.activated stores call p hs)
    activated_runs None hs t s = tt
    activated_runs (Some p) hs t s =
        in_left (Sites.meaning_of_all stores call 0 p.body t (stores.entered s p hs)) (statements_run 0 p.body t (stores.entered s p hs))

  calls_run : (program : Program) (more n : ℕ) (hs : List Held) → Runs (Sites.calls stores program more n hs)
  calls_run program zero n hs t s = refl
  calls_run program (suc more) n hs t s =
      in_turn (λ l. of_procedure n (Sites.activated stores (Sites.calls stores program more) (slice_get program.procedures n) hs l s))
      (λ l. in_procedure n (Sites.activated stores (Sites.calls stores program more) (slice_get program.procedures n) hs l s)
      (activated_runs (Sites.calls stores program more) (calls_run program more) (slice_get program.procedures n) hs l s)) t

  pub body_explained : (program : Program) (more : ℕ) (ss : Statements) (t : ℕ) (s : Store) →
      Explained (Sites.meaning_of_all stores (Sites.calls stores program more) 0 ss t s)
  body_explained program more ss t s = statements_run (Sites.calls stores program more) (calls_run program more) 0 ss t s

pub of_site : {A : Type 0} (x : Sited A) (site : Site) → Explained x → site_of x ≡ Some site → Explains site.cause site.number
of_site (Yields a) site h e = absurd cc
of_site (TrapsAt other) site h e = let same : other ≡ site = cc in subst (λ s. Explains s.cause s.number) same h
