-- A call that is made, and outcomes that another one passes on.
use Rattle.std.proofs.Common.{◌≡◌, ap, sym, subst, ◌∙◌, refl, arith, ℕ, suc, ◌-◌, ◌<◌, List, [], ◌∷◌, ◌++◌, length, get_or, map, Some, option_map, Result, Err}
use Rattle.std.specs.Prelude.{slice_get}
use Rattle.std.proofs.lemmas.List.{length-append}
use Rattle.ob_typing.specs.Program as Programs
use Rattle.std.proofs.lemmas.Option.{slice_get-map, slice_get_read}
use Rattle.ob_checked.specs.declared.program.Procedure.{Procedure}
use Rattle.ob_checked.specs.declared.program.Program.{Program}
use Rattle.ob_checked.specs.declared.program.Statement.{Statement}
use Rattle.ob_checked.specs.declared.program.Variable.{Variable}
use Rattle.ob_checked.specs.View.{program_of, procedure_of, variable_of, statements_in, table_of}
use Rattle.ob_meaning.specs.ByPositionStore.{Activation, Held, Store, running}
use Rattle.ob_meaning.specs.ByPositionStatements.{Outcome, Done, left, begun, calls, meaning_of_all, activated}
use Rattle.ob_mean.specs.declared.places.Stop.{Stop}
use Rattle.ob_mean.specs.declared.places.Stop.TheVariants as Stops
use Rattle.ob_mean.specs.Running.{Comes}
use Rattle.ob_mean.proofs.Runs.{call_goes}
use Rattle.ob_mean.proofs.Kept.{kept_where_done}

pub comes_as : (a b : Outcome) (r : Result ℕ Stop) (store : Store) → a ≡ b → Comes b r store → Comes a r store
comes_as a b r store h comes = subst (λ o. Comes o r store) (sym h) comes

-- a store that was entered, where it had stayed as it was
pub entered_behind : (store same entered : Store) (activation : Activation) → entered ≡ same ++ activation ∷ [] → same ≡ store → entered ≡ store ++ activation ∷ []
entered_behind store same entered activation enters kept = enters ∙ ap (λ s. s ++ activation ∷ []) kept

-- what stops a procedure stops its call
pub stops_call : (a o : Outcome) (stop : Stop) (store after : Store) → a ≡ left o → Comes o (Err stop) store → Comes a (Err stop) after
stops_call a o (Stops.Trap k) store after h comes = h ∙ ap left comes
stops_call a o Stops.NoMemory store after h comes = tt

module _ (program : Program) (ps : List Procedure) (n : ℕ) (p : Procedure) (same : ps ≡ program.procedures.items) (below : n < length ps) (is : p ≡ get_or ps n p) where
  pub procedure_here : slice_get (program_of program).procedures n ≡ Some (procedure_of (table_of program.types) p)
  procedure_here =
      slice_get-map (procedure_of (table_of program.types)) program.procedures.items n
      ∙ ap (option_map (procedure_of (table_of program.types))) (ap (λ qs. slice_get qs n) (sym same) ∙ slice_get_read ps (length ps) n p refl below is)

  -- a call that is made: the procedure's statements, in the store with its activation
  pub call_made : (more t : ℕ) (handed : List Held) (store entered : Store) (activation : Activation) (body : List Statement) (variables : List Variable) →
      0 < more → 0 < t → body ≡ p.body.items → variables ≡ p.variables.items →
      activation ≡ handed ++ begun (map (variable_of (table_of program.types)) variables) → entered ≡ store ++ activation ∷ [] →
      calls (program_of program) more n handed t store ≡ left (meaning_of_all (calls (program_of program) (more - 1)) (statements_in body) (t - 1) entered)
  call_made more t handed store entered activation body variables some turns bodies own begins enters =
      let run = λ (ss : List Statement) (s : Store). left (meaning_of_all (calls (program_of program) (more - 1)) (statements_in ss) (t - 1) s) in
      let own_begun = λ (vs : List Variable). handed ++ begun (map (variable_of (table_of program.types)) vs) in
      call_goes (program_of program) more n t handed store some turns
      ∙ ap (λ o. activated (calls (program_of program) (more - 1)) o handed (t - 1) store) procedure_here
      ∙ ap (λ vs. run p.body.items (store ++ own_begun vs ∷ [])) (sym own)
      ∙ ap (λ a. run p.body.items (store ++ a ∷ [])) (sym begins)
      ∙ ap (run p.body.items) (sym enters)
      ∙ ap (λ ss. run ss entered) (sym bodies)

runs_behind : (store : Store) → 1 < length store → 0 < running store
runs_behind [] h = absurd (omega (arith, h))
runs_behind (a ∷ store) h = omega (arith, h)

-- where a procedure is done, it stands behind the module's activation
pub some_behind : (program : Programs.Program) (more t l : ℕ) (ss : Programs.Statements) (first activation : Activation) (others entered next : Store) →
    entered ≡ first ∷ others ++ activation ∷ [] → meaning_of_all (calls program more) ss t entered ≡ Done l next → 0 < running next
some_behind program more t l ss first activation others entered next enters done =
    let kept : length next ≡ length entered = kept_where_done program more ss t l entered next done in
    let count : length entered ≡ suc (length (others ++ activation ∷ [])) = ap length enters in
    let behind = length-append others (activation ∷ []) in
    runs_behind next (omega (arith, kept, count, behind))
