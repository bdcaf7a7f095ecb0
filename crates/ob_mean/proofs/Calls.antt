-- Calls with more turns: one that doesn't run out of its turns does the same with more, and one that is done took those that aren't left.
use Rattle.std.proofs.Common.{◌≡◌, refl, sym, ap, subst, ◌∙◌, arith, ℕ, ◌+◌, ◌-◌, ◌<◌, ◌≤◌, true, false, not, List, inl, inr, Option, Some, None}
use Rattle.std.proofs.lemmas.Bool.{eq-eqb}
use Rattle.std.specs.Prelude.{slice_get}
use Rattle.ob_interface.specs.Call.{ObjectCall, Reply, Trapped}
use Rattle.ob_interface.specs.declared.scalar.Scalar.{Scalar}
use Rattle.ob_typing.specs.Arithmetic.{no_turn_left}
use Rattle.ob_typing.specs.Program.{Procedure, Program, exports}
use Rattle.ob_meaning.specs.ByNameEvaluation.{by_name}
use Rattle.ob_meaning.specs.ByNameObject as Named
use Rattle.ob_meaning.specs.ByNameObject.{State, most_activations}
use Rattle.ob_meaning.specs.OverStore.{Outcome, Done, Trap}
use Rattle.ob_meaning.specs.ByNameStore as Names
use Rattle.ob_meaning.specs.ByPositionEvaluation.{by_position}
use Rattle.ob_meaning.specs.ByPositionObject as Positions
use Rattle.ob_meaning.specs.ByPositionStore as Stores
use Rattle.ob_meaning.specs.ByPositionStore.{Activation}
use Rattle.ob_mean.specs.Laws.{MoreTurnsChangeNothing, TurnsAreThoseSpent, run_of_call}
use Rattle.ob_mean.specs.Turns.{is_out_of_turns, turns_of}
use Rattle.ob_mean.proofs.Counting.{first_is}
use Rattle.ob_mean.proofs.MoreTurns.{Beside, Within, program_grows, program_spends}

out : (k : ℕ) → k ≡ no_turn_left → is_out_of_turns (Trapped k) ≡ true
out k e = eq-eqb k no_turn_left e

-- ---- by name

named_more : (d : ℕ) (before : State) (o r : Outcome Names.Store) → Beside d o r → is_out_of_turns (Named.effect_of before o).reply ≡ false →
    Named.effect_of before r ≡ Named.effect_of before o
named_more d before (Done l s) (Done m t) h enough = rw h.1 refl
named_more d before (Done l s) (Trap k) h enough = absurd h
named_more d before (Trap k) (Done m t) h enough = let bad = sym (out k h.0) ∙ enough in absurd (cc bad)
named_more d before (Trap k) (Trap j) (inl e) enough = let bad = sym (out k e) ∙ enough in absurd (cc bad)
named_more d before (Trap k) (Trap j) (inr e) enough = rw e refl

named_procedure_more : (program : Program) (p : Option Procedure) (arguments : List Scalar) (turns more : ℕ) (state : State) → turns ≤ more →
    is_out_of_turns (Named.effect_of_procedure program p arguments turns state).reply ≡ false →
    Named.effect_of_procedure program p arguments more state ≡ Named.effect_of_procedure program p arguments turns state
named_procedure_more program None arguments turns more state le enough = refl
named_procedure_more program (Some p) arguments turns more state le enough =
    named_more (more - turns) state _ _
    (program_grows by_name program (most_activations - 1) p.body (more - turns) turns more _ (omega (arith, le))) enough

pub more_change_nothing : (program : Program) → MoreTurnsChangeNothing program
more_change_nothing program call turns more state le enough =
    named_procedure_more program (slice_get (exports program) call.export) call.arguments turns more state le enough

-- ---- by position

held_more : (d : ℕ) (before : Activation) (o r : Outcome Stores.Store) → Beside d o r → is_out_of_turns (Positions.effect_of before o).reply ≡ false →
    Positions.effect_of before r ≡ Positions.effect_of before o
held_more d before (Done l s) (Done m t) h enough = rw h.1 refl
held_more d before (Done l s) (Trap k) h enough = absurd h
held_more d before (Trap k) (Done m t) h enough = let bad = sym (out k h.0) ∙ enough in absurd (cc bad)
held_more d before (Trap k) (Trap j) (inl e) enough = let bad = sym (out k e) ∙ enough in absurd (cc bad)
held_more d before (Trap k) (Trap j) (inr e) enough = rw e refl

procedure_more : (program : Program) (p : Option Procedure) (arguments : List Scalar) (turns more : ℕ) (state : Activation) → turns ≤ more →
    is_out_of_turns (Positions.effect_of_procedure program p arguments turns state).reply ≡ false →
    Positions.effect_of_procedure program p arguments more state ≡ Positions.effect_of_procedure program p arguments turns state
procedure_more program None arguments turns more state le enough = refl
procedure_more program (Some p) arguments turns more state le enough =
    held_more (more - turns) state _ _
    (program_grows by_position program (most_activations - 1) p.body (more - turns) turns more _ (omega (arith, le))) enough

pub more_at : (program : Program) (call : ObjectCall) (turns more : ℕ) (state : Activation) → turns ≤ more →
    is_out_of_turns (Positions.effect program call turns state).reply ≡ false →
    Positions.effect program call more state ≡ Positions.effect program call turns state
more_at program call turns more state le enough =
    procedure_more program (slice_get (exports program) call.export) call.arguments turns more state le enough

-- ---- the turns of a call that is done

-- with fewer turns than were spent it runs out of them
out_before : (d left n budget : ℕ) (before : State) (store : Names.Store) (o : Outcome Names.Store) → Beside d o (Done left store) → budget ≡ d + n →
    n + left < budget → is_out_of_turns (Named.effect_of before o).reply ≡ true
out_before d left n budget before store (Done l s) h e less = absurd (let m = h.0 in omega (arith, m, e, less))
out_before d left n budget before store (Trap k) h e less = out k h.0

-- with as many it doesn't
enough_then : (left : ℕ) (before : State) (store : Names.Store) (o : Outcome Names.Store) → Beside left o (Done left store) →
    is_out_of_turns (Named.effect_of before o).reply ≡ false
enough_then left before store (Done l s) h = refl
enough_then left before store (Trap k) h = absurd (let less = h.1 in omega (arith, less))

left_within : (t l : ℕ) (s : Names.Store) (o : Outcome Names.Store) → Within t o → o ≡ Done l s → l ≤ t
left_within t l s o h e = subst (Within t) e h

pub turns_spent : (program : Program) → TurnsAreThoseSpent program
turns_spent program call budget left state p store at done =
    let run : ℕ → Outcome Names.Store = λ n. run_of_call program p call n state in
    let few : left ≤ budget = left_within budget left store (run budget) (program_spends by_name program (most_activations - 1) p.body budget _) done in
    let beside : (d n : ℕ) → budget ≡ d + n → Beside d (run n) (Done left store) =
    λ d n e. subst (Beside d (run n)) done (program_grows by_name program (most_activations - 1) p.body d n budget _ e) in
    let reply : ℕ → Reply = λ n. (Named.effect_of state (run n)).reply in
    let same : (n : ℕ) → (Named.effect program call n state).reply ≡ reply n =
    λ n. ap (λ q. (Named.effect_of_procedure program q call.arguments n state).reply) at in
    let found : turns_of program call budget state ≡ budget - left =
    first_is (λ n. not (is_out_of_turns (Named.effect program call n state).reply)) 0 budget (budget - left) (omega arith) (omega arith)
    (λ n above below. ap (λ r. not (is_out_of_turns r)) (same n) ∙ ap not (out_before (budget - n) left n budget state store (run n) (beside (budget - n) n (omega (arith, below, few))) (omega (arith, below, few)) (omega (arith, below, few))))
    (λ below. ap (λ r. not (is_out_of_turns r)) (same (budget - left)) ∙ ap not (enough_then left state store (run (budget - left)) (beside left (budget - left) (omega (arith, few))))) in
    omega (arith, found, few)
