-- Branches, loops and calls, one step after the other.
use Rattle.std.proofs.Common.{◌≡◌, refl, ap, sym, subst, ◌∙◌, arith, ℕ, zero, suc, ◌+◌, ◌-◌, ◌<◌, ◌≤◌, Bool, true, false, List, [], ◌∷◌, ◌++◌, map, Some, None, drop, get_or, length, if◌then◌else◌, Result, Err}
use Rattle.std.specs.Prelude.{slice_get}
use Rattle.ob_interface.specs.declared.scalar.Scalar.{Scalar}
use Rattle.ob_typing.specs.Program as Programs
use Rattle.ob_typing.specs.Arithmetic.{truth_of, no_turn_left}
use Rattle.ob_checked.specs.declared.program.Branch.{Branch}
use Rattle.ob_checked.specs.declared.program.Procedure.{Procedure}
use Rattle.ob_checked.specs.declared.program.Statement.{Statement}
use Rattle.ob_checked.specs.declared.program.Variable.{Variable}
use Rattle.ob_checked.specs.Types.{Entry}
use Rattle.ob_checked.specs.View.{expression_of, statements_in, branches_in, procedure_of, variable_of}
use Rattle.ob_meaning.specs.ByPositionStore.{Activation, Store, Held}
use Rattle.ob_meaning.specs.ByPositionStatements.{Done, begun, calls, meaning_of_all}
use Rattle.ob_trap_places.proofs.WithoutSites.{body_same}
use Rattle.ob_meaning.specs.ByPositionEvaluation.{by_position}
use Rattle.ob_mean.proofs.Runs.{drop_here}
use Rattle.ob_trap_places.specs.Site.{Site, Activating, Turning, here, outcome, Sited, Yields, TrapsAt, of_part, of_procedure}
use Rattle.ob_trap_places.specs.Site as Sites
use Rattle.ob_trap_places.specs.SitesOverStore as Sited
use Rattle.ob_trap_places.specs.declared.site.Halt.{Halt}
use Rattle.ob_trap_places.specs.declared.site.Halt.TheVariants as Halts
use Rattle.ob_trap_places.specs.Reaching.{site_of, HaltsAs, IsWithin, Reaches}
use Rattle.ob_trap_places.specs.Running.{Comes}

abbrev bind : {A B : Type 0} → Sited A → (A → Sited B) → Sited B
bind = Sites.◌>>=◌

abbrev Run : Type 0
Run = Sited.Run by_position

pub comes_as : (a b : Sited (ℕ × Store)) (r : Result ℕ Halt) (store : Store) → a ≡ b → Comes b r store → Comes a r store
comes_as a b r store h comes = subst (λ o. Comes o r store) (sym h) comes

-- what stops a procedure stops its call
pub procedure_stops : (number : ℕ) (o : Sited (ℕ × Store)) (halt outer : Halt) (was now : Store) → Comes o (Err halt) was → IsWithin number halt outer → Comes (of_procedure number o) (Err outer) now
procedure_stops number o (Halts.Trap site) (Halts.Trap other) was now h k = ap (of_procedure number) h ∙ ap TrapsAt (sym k)
procedure_stops number o (Halts.Trap site) Halts.NoMemory was now h k = tt
procedure_stops number o Halts.NoMemory (Halts.Trap other) was now h k = absurd k
procedure_stops number o Halts.NoMemory Halts.NoMemory was now h k = tt

-- what stops an evaluation stops a run that traps where it does
pub value_stops : {A B : Type 0} (view : A → B) (x : Sited B) (o : Sited (ℕ × Store)) (halt : Halt) (now : Store) → ((site : Site) → x ≡ TrapsAt site → o ≡ TrapsAt site) →
    Reaches view x (Err halt) → Comes o (Err halt) now
value_stops view x o (Halts.Trap site) now f h = f (site_of site) h
value_stops view x o Halts.NoMemory now f h = tt

-- so does what stops a run within it
pub run_stops : (x o : Sited (ℕ × Store)) (halt : Halt) (was now : Store) → ((site : Site) → x ≡ TrapsAt site → o ≡ TrapsAt site) → Comes x (Err halt) was → Comes o (Err halt) now
run_stops x o (Halts.Trap site) was now f h = f (site_of site) h
run_stops x o Halts.NoMemory was now f h = tt

-- a trap of the run itself
pub itself_stops : (o : Sited (ℕ × Store)) (site : Site) (halt : Halt) (now : Store) → o ≡ TrapsAt site → HaltsAs site halt → Comes o (Err halt) now
itself_stops o site (Halts.Trap found) now h k = h ∙ ap TrapsAt (sym k)
itself_stops o site Halts.NoMemory now h k = tt

chosen_run : (b : Bool) (f g : Run) (t : ℕ) (store : Store) → b ≡ true → (if b then f else g) t store ≡ f t store
chosen_run true f g t store h = refl
chosen_run false f g t store h = absurd cc

passed_run : (b : Bool) (f g : Run) (t : ℕ) (store : Store) → b ≡ false → (if b then f else g) t store ≡ g t store
passed_run true f g t store h = absurd cc
passed_run false f g t store h = refl

-- loops

once_ends : (c : Programs.Expression) (body again : Run) (t : ℕ) (store : Store) (v : Scalar) → of_part 1 (Sited.value_of by_position store c) ≡ Yields v → truth_of v ≡ false →
    Sited.loop_once by_position c body again t store ≡ Yields (t, store)
once_ends c body again t store v gives fails =
    ap (λ e. bind e (λ v. (if truth_of v then (λ t s. Sited.with_turn (λ l. Sited.then_run by_position (of_part 2 (body l s)) again) t) else Sited.done by_position) t store)) gives
    ∙ passed_run (truth_of v) (λ t s. Sited.with_turn (λ l. Sited.then_run by_position (of_part 2 (body l s)) again) t) (Sited.done by_position) t store fails

once_goes : (c : Programs.Expression) (body again : Run) (t : ℕ) (store : Store) (v : Scalar) → of_part 1 (Sited.value_of by_position store c) ≡ Yields v → truth_of v ≡ true →
    Sited.loop_once by_position c body again t store ≡ Sited.with_turn (λ l. Sited.then_run by_position (of_part 2 (body l store)) again) t
once_goes c body again t store v gives holds =
    ap (λ e. bind e (λ v. (if truth_of v then (λ t s. Sited.with_turn (λ l. Sited.then_run by_position (of_part 2 (body l s)) again) t) else Sited.done by_position) t store)) gives
    ∙ chosen_run (truth_of v) (λ t s. Sited.with_turn (λ l. Sited.then_run by_position (of_part 2 (body l s)) again) t) (Sited.done by_position) t store holds

pub loop_ends : (n : ℕ) (c : Programs.Expression) (body : Run) (t : ℕ) (store : Store) (v : Scalar) → of_part 1 (Sited.value_of by_position store c) ≡ Yields v → truth_of v ≡ false →
    Sited.loop by_position n c body t store ≡ Yields (t, store)
loop_ends zero c body t store v gives fails = once_ends c body (λ t s. TrapsAt (here 0 no_turn_left Turning)) t store v gives fails
loop_ends (suc n) c body t store v gives fails = once_ends c body (Sited.loop by_position n c body) t store v gives fails

pub loop_out : (n : ℕ) (c : Programs.Expression) (body : Run) (store : Store) (v : Scalar) → of_part 1 (Sited.value_of by_position store c) ≡ Yields v → truth_of v ≡ true →
    Sited.loop by_position n c body 0 store ≡ TrapsAt (here 0 no_turn_left Turning)
loop_out zero c body store v gives holds = once_goes c body (λ t s. TrapsAt (here 0 no_turn_left Turning)) 0 store v gives holds
loop_out (suc n) c body store v gives holds = once_goes c body (Sited.loop by_position n c body) 0 store v gives holds

pub loop_goes : (n : ℕ) (c : Programs.Expression) (body : Run) (t : ℕ) (store : Store) (v : Scalar) → 0 < t → t ≤ n → of_part 1 (Sited.value_of by_position store c) ≡ Yields v → truth_of v ≡ true →
    Sited.loop by_position n c body t store ≡ Sited.then_run by_position (of_part 2 (body (t - 1) store)) (Sited.loop by_position (n - 1) c body)
loop_goes zero c body t store v some le gives holds = absurd (omega (arith, some, le))
loop_goes (suc n) c body zero store v some le gives holds = absurd (omega (arith, some))
loop_goes (suc n) c body (suc t) store v some le gives holds =
    let turns : t ≡ suc t - 1 = omega arith in
    let bound : n ≡ suc n - 1 = omega arith in
    once_goes c body (Sited.loop by_position n c body) (suc t) store v gives holds
    ∙ ap (λ x. Sited.then_run by_position (of_part 2 (body x store)) (Sited.loop by_position n c body)) turns
    ∙ ap (λ x. Sited.then_run by_position (of_part 2 (body (suc t - 1) store)) (Sited.loop by_position x c body)) bound

-- what stands behind the body of a round
abbrev pub behind_round : ℕ → Run → Programs.Expression → Run
behind_round n body c t s =
    bind (of_part 2 (Sited.value_of by_position s c)) (λ v. (if truth_of v then Sited.done by_position else Sited.rounds by_position (n - 1) body c) t s)

pub rounds_go : (n : ℕ) (body : Run) (c : Programs.Expression) (t : ℕ) (store : Store) → 0 < t → t ≤ n →
    Sited.rounds by_position n body c t store ≡ Sited.then_run by_position (of_part 1 (body (t - 1) store)) (behind_round n body c)
rounds_go zero body c t store some le = absurd (omega (arith, some, le))
rounds_go (suc n) body c zero store some le = absurd (omega (arith, some))
rounds_go (suc n) body c (suc t) store some le =
    let turns : t ≡ suc t - 1 = omega arith in
    let bound : n ≡ suc n - 1 = omega arith in
    ap (λ x. Sited.then_run by_position (of_part 1 (body x store)) (λ u s. bind (of_part 2 (Sited.value_of by_position s c)) (λ v. (if truth_of v then Sited.done by_position else Sited.rounds by_position n body c) u s))) turns
    ∙ ap (λ x. Sited.then_run by_position (of_part 1 (body (suc t - 1) store)) (λ u s. bind (of_part 2 (Sited.value_of by_position s c)) (λ v. (if truth_of v then Sited.done by_position else Sited.rounds by_position x body c) u s))) bound

module _ (n : ℕ) (body : Run) (c : Programs.Expression) (t l : ℕ) (store next : Store) (some : 0 < t) (le : t ≤ n) (done : of_part 1 (body (t - 1) store) ≡ Yields (l, next)) where
  round_done : Sited.rounds by_position n body c t store ≡ behind_round n body c l next
  round_done = rounds_go n body c t store some le ∙ ap (λ o. Sited.then_run by_position o (behind_round n body c)) done

  pub rounds_end : (v : Scalar) → of_part 2 (Sited.value_of by_position next c) ≡ Yields v → truth_of v ≡ true → Sited.rounds by_position n body c t store ≡ Yields (l, next)
  rounds_end v gives holds =
      round_done
      ∙ ap (λ e. bind e (λ v. (if truth_of v then Sited.done by_position else Sited.rounds by_position (n - 1) body c) l next)) gives
      ∙ chosen_run (truth_of v) (Sited.done by_position) (Sited.rounds by_position (n - 1) body c) l next holds

  pub rounds_again : (v : Scalar) → of_part 2 (Sited.value_of by_position next c) ≡ Yields v → truth_of v ≡ false →
      Sited.rounds by_position n body c t store ≡ Sited.rounds by_position (n - 1) body c l next
  rounds_again v gives fails =
      round_done
      ∙ ap (λ e. bind e (λ v. (if truth_of v then Sited.done by_position else Sited.rounds by_position (n - 1) body c) l next)) gives
      ∙ passed_run (truth_of v) (Sited.done by_position) (Sited.rounds by_position (n - 1) body c) l next fails

  pub rounds_trap : (site : Site) → of_part 2 (Sited.value_of by_position next c) ≡ TrapsAt site → Sited.rounds by_position n body c t store ≡ TrapsAt site
  rounds_trap site traps =
      round_done ∙ ap (λ e. bind e (λ v. (if truth_of v then Sited.done by_position else Sited.rounds by_position (n - 1) body c) l next)) traps

-- branches

module _ (calls : Sited.Calls by_position) where
  branch_more : (all : List Branch) (last : Programs.Branches) (i t : ℕ) (b : Branch) (store : Store) → i < length all → b ≡ get_or all i b →
      Sited.meaning_of_branches by_position calls i (branches_in (drop i all) last) t store
      ≡ bind (of_part i (of_part 0 (Sited.value_of by_position store (expression_of b.condition)))) (λ v.
      (if truth_of v then Sited.run_part by_position i (Sited.run_part by_position 1 (Sited.meaning_of_all by_position calls 0 (statements_in b.body.items)))
      else Sited.meaning_of_branches by_position calls (suc i) (branches_in (drop (i + 1) all) last)) t store)
  branch_more all last i t b store below is =
      ap (λ bs. Sited.meaning_of_branches by_position calls i (branches_in bs last) t store) (drop_here all i b below ∙ ap (λ x. x ∷ drop (i + 1) all) (sym is))

  pub branch_taken : (all : List Branch) (last : Programs.Branches) (i t : ℕ) (b : Branch) (store : Store) (v : Scalar) (r : Sited (ℕ × Store)) → i < length all → b ≡ get_or all i b →
      of_part i (of_part 0 (Sited.value_of by_position store (expression_of b.condition))) ≡ Yields v → truth_of v ≡ true →
      Sited.meaning_of_branches by_position calls i (branches_in (drop i all) last) t store ≡ r →
      r ≡ of_part i (of_part 1 (Sited.meaning_of_all by_position calls 0 (statements_in b.body.items) t store))
  branch_taken all last i t b store v r below is gives holds so_far =
      let rest : Run = Sited.meaning_of_branches by_position calls (suc i) (branches_in (drop (i + 1) all) last) in
      let body : Run = Sited.run_part by_position i (Sited.run_part by_position 1 (Sited.meaning_of_all by_position calls 0 (statements_in b.body.items))) in
      sym so_far ∙ branch_more all last i t b store below is
      ∙ ap (λ e. bind e (λ v. (if truth_of v then body else rest) t store)) gives
      ∙ chosen_run (truth_of v) body rest t store holds

-- calls

pub call_goes : (program : Programs.Program) (more n t : ℕ) (handed : List Held) (store : Store) → 0 < more → 0 < t →
    Sited.calls by_position program more n handed t store
    ≡ of_procedure n (Sited.activated by_position (Sited.calls by_position program (more - 1)) (slice_get program.procedures n) handed (t - 1) store)
call_goes program zero n t handed store h k = absurd (omega (arith, h))
call_goes program (suc more) n zero handed store h k = absurd (omega (arith, k))
call_goes program (suc more) n (suc t) handed store h k =
    let fewer : more ≡ suc more - 1 = omega arith in
    let turns : t ≡ suc t - 1 = omega arith in
    ap (λ x. of_procedure n (Sited.activated by_position (Sited.calls by_position program x) (slice_get program.procedures n) handed t store)) fewer
    ∙ ap (λ x. of_procedure n (Sited.activated by_position (Sited.calls by_position program (suc more - 1)) (slice_get program.procedures n) handed x store)) turns

-- a procedure that is not there
pub none_mapped : {A B : Type 0} (f : A → B) (xs : List A) (n : ℕ) → length xs ≤ n → slice_get (map f xs) n ≡ None
none_mapped f [] n h = refl
none_mapped f (x ∷ xs) zero h = absurd (omega (arith, h))
none_mapped f (x ∷ xs) (suc n) h = none_mapped f xs n (omega (arith, h))

pub call_out : (program : Programs.Program) (more n : ℕ) (handed : List Held) (store : Store) → 0 < more →
    Sited.calls by_position program more n handed 0 store ≡ TrapsAt (here 0 no_turn_left Turning)
call_out program zero n handed store h = absurd (omega (arith, h))
call_out program (suc more) n handed store h = refl

-- an activation: the statements of the procedure in the store with it
pub activated_runs : (types : List Entry) (calls : Sited.Calls by_position) (p : Procedure) (t : ℕ) (handed : List Held) (store entered : Store) (activation : Activation) (body : List Statement) (variables : List Variable) →
    body ≡ p.body.items → variables ≡ p.variables.items → activation ≡ handed ++ begun (map (variable_of types) variables) → entered ≡ store ++ activation ∷ [] →
    Sited.activated by_position calls (Some (procedure_of types p)) handed t store
    ≡ Sited.left by_position (Sited.meaning_of_all by_position calls 0 (statements_in body) t entered)
activated_runs types calls p t handed store entered activation body variables bodies own begins enters =
    let run = λ (ss : List Statement) (s : Store). Sited.left by_position (Sited.meaning_of_all by_position calls 0 (statements_in ss) t s) in
    ap (λ vs. run p.body.items (store ++ (handed ++ begun (map (variable_of types) vs)) ∷ [])) (sym own)
    ∙ ap (λ a. run p.body.items (store ++ a ∷ [])) (sym begins)
    ∙ ap (run p.body.items) (sym enters)
    ∙ ap (λ ss. run ss entered) (sym bodies)

pub left_stops : (o : Sited (ℕ × Store)) (site : Site) → o ≡ TrapsAt site → Sited.left by_position o ≡ TrapsAt site
left_stops o site h = ap (Sited.left by_position) h

-- a run that is done is done without its sites
pub plainly_done : (program : Programs.Program) (more t l : ℕ) (ss : Programs.Statements) (store next : Store) →
    Sited.meaning_of_all by_position (Sited.calls by_position program more) 0 ss t store ≡ Yields (l, next) → meaning_of_all (calls program more) ss t store ≡ Done l next
plainly_done program more t l ss store next h = sym (body_same by_position program more ss t store) ∙ ap outcome h
