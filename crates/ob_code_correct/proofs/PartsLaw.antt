-- The engine over the parts of some program is lawful, and its effect is the call of each such program.
use Rattle.std.proofs.Common.{ℕ, suc, List, ◌∷◌, map, sym, ◌∙◌, subst, arith, ap}
use Rattle.std.specs.Prelude.{ℤ, pos}
use Rattle.std.proofs.Math.Logic.{∥∥₁_elim, ∥∥₁_map}
use Rattle.std.proofs.Math.Bridge.{le_prop}
use Rattle.ob_interface.specs.Call.{ObjectCall, Reply, Answers, Trapped as TrapReply}
use Rattle.ob_typing.specs.Program.{Program}
use Rattle.ob_meaning.specs.ByPositionObject.{effect}
use Rattle.ob_code_machine.specs.Body.{Run}
use Rattle.ob_code_machine.proofs.Over.{stuck_step}
use Rattle.ob_code_machine.proofs.Sizes.{steps_keep_sizes}
use Rattle.ob_code_scheme.specs.Layout.{word}
use Rattle.wf_table.specs.Meaning.{Turned, Meaning, body}
use Rattle.wf_table.specs.Law.{HasReturned, HasTrapped, IsLawful}
use Rattle.ob_code_correct.specs.CodeMeaning.{EngineParts, most, value_count, first_word, other_words, entrance_at, code_meaning}
use Rattle.ob_code_correct.specs.Compiled.{IsFitting, HasReserve, IsLawfulBlock, CallEnds, IsEffect}
use Rattle.ob_code_correct.specs.Parts.{IsCompiledTo, HasProgram, IsLawfulFor, IsEffectOf, PartsAreLawful, EffectIsOfEach, PartsAreRead}
use Rattle.ob_code_correct.specs.Carried.{Simulates, IsOfState}
use Rattle.ob_code_correct.proofs.WordLaw.{length-padded}
use Rattle.ob_code_correct.proofs.StepLaw.{was_stuck, code_touches}
use Rattle.ob_code_correct.proofs.CodeLaw.{started_reserve, code_lawful, effect_total, effect_called}
use Rattle.ob_code_correct.proofs.Carried.{are_read}
use Rattle.ob_code_correct.proofs.OneEnd.{one_effect}

-- with a program that it is compiled of
abbrev Lawfully : Program → ℕ → EngineParts → Type 0
Lawfully program budget q =
    IsLawful (code_meaning q) (IsLawfulBlock program) (IsFitting q.exports) (HasReserve q) (IsEffect program budget)

pub lawful_of : (program : Program) (parts : EngineParts) → IsCompiledTo program parts → Lawfully program parts.budget parts
lawful_of program parts c = subst (Lawfully program parts.budget) (sym c.parts_are) (code_lawful program parts.budget c.well)

module _ (parts : EngineParts) (there : ∥ HasProgram parts ∥₁) where
  abbrev m : Meaning Run
  m = code_meaning parts

  returned_at : (program : Program) (compiled : IsCompiledTo program parts) (b : List ℤ) (c : ObjectCall) (t : Turned Run) → HasReturned m (IsEffect program parts.budget) b c t → HasReturned m (IsEffectOf parts) b c t
  returned_at program compiled b c t h = record {
    values = h.values;
    effect = ∥∥₁_map h.effect (λ e. record { program = program; compiled = compiled; is = e });
    reply = h.reply;
    rest = h.rest;
  }

  trapped_at : (program : Program) (compiled : IsCompiledTo program parts) (b : List ℤ) (c : ObjectCall) (k : ℕ) → HasTrapped m (IsEffect program parts.budget) b c k → HasTrapped m (IsEffectOf parts) b c k
  trapped_at program compiled b c k h =
      record { number = h.number; effect = ∥∥₁_map h.effect (λ e. record { program = program; compiled = compiled; is = e }); reply = h.reply }

  before_lawful : (b : List ℤ) (c : ObjectCall) (b' : List ℤ) (a : Reply) (e : IsEffectOf parts c b b' a) → IsLawfulBlock e.program b
  before_lawful b c b' a e = record { state = e.is.before; encodes = e.is.block_is }

  lawful : IsLawful m (IsLawfulFor parts) (IsFitting parts.exports) (HasReserve parts) (IsEffectOf parts)
  lawful = record {
    has_argument = omega arith;
    few_variables = ∥∥₁_elim there le_prop (λ c. (lawful_of c.0 parts c.1).few_variables);
    few_replies = ∥∥₁_elim there le_prop (λ c. (lawful_of c.0 parts c.1).few_replies);
    few_arguments = ∥∥₁_elim there le_prop (λ c. (lawful_of c.0 parts c.1).few_arguments);
    length_lay = λ c fits. length-padded (suc (most value_count parts.exports)) (pos c.export ∷ map word c.arguments);
    length_step = λ run b ready long. (steps_keep_sizes parts.code.instructions run b).long;
    length_lawful = λ b l. (lawful_of l.program parts l.compiled).length_lawful b l.is;
    few_values = λ c words fits long. ∥∥₁_elim there le_prop (λ p. (lawful_of p.0 parts p.1).few_values c words fits long);
    start_ready = λ words long. started_reserve parts (entrance_at parts.exports (first_word words)) (other_words words);
    step_ready = λ run b ready long. (steps_keep_sizes parts.code.instructions run b).reserve ∙ ready;
    stuck_run = λ run b ready long stuck. (stuck_step parts.code.instructions run b (was_stuck _ stuck)).0;
    stuck_block = λ run b ready long stuck. (stuck_step parts.code.instructions run b (was_stuck _ stuck)).1;
    one_word = λ run b ready long. code_touches parts run b;
    effect_lawful = λ b c b' a l fits e. record { program = e.program; compiled = e.compiled; is = record { state = e.is.next; encodes = e.is.after_is } };
    returned = λ b c n l fits h. returned_at l.program l.compiled b c (body m n b c) ((lawful_of l.program parts l.compiled).returned b c n l.is fits h);
    trapped = λ b c n k l fits h. trapped_at l.program l.compiled b c k ((lawful_of l.program parts l.compiled).trapped b c n k l.is fits h);
    never_stuck = λ b c n l fits h. (lawful_of l.program parts l.compiled).never_stuck b c n l.is fits h;
    returns = λ b c b' values l fits e. (lawful_of e.program parts e.compiled).returns b c b' values (before_lawful b c b' (Answers values) e) fits e.is;
    traps = λ b c b' k l fits e. (lawful_of e.program parts e.compiled).traps b c b' k (before_lawful b c b' (TrapReply k) e) fits e.is;
  }

pub parts_lawful : PartsAreLawful
parts_lawful parts there = lawful parts there

pub effect_of_each : EffectIsOfEach
effect_of_each program parts call before block after reply compiled fits encodes e =
    let whole : IsLawfulBlock program block = record { state = before; encodes = encodes } in
    let here = subst (λ (q : EngineParts). IsFitting q.exports call) compiled.parts_are fits in
    let one = effect_total program parts.budget compiled.well call block whole here in
    let same = one_effect (code_meaning parts) (IsLawfulBlock e.program) (IsLawfulBlock program) (IsFitting parts.exports) (IsFitting parts.exports) (HasReserve parts) (HasReserve parts)
    (IsEffect e.program parts.budget) (IsEffect program parts.budget) (lawful_of e.program parts e.compiled) (lawful_of program parts compiled)
    block call after one.after reply one.reply (record { state = e.is.before; encodes = e.is.block_is }) whole fits fits e.is one.is in
    effect_called program parts.budget call before block after reply encodes
    (subst (λ (ws : List ℤ). IsEffect program parts.budget call block ws reply) (sym same.0)
    (subst (λ (r : Reply). IsEffect program parts.budget call block one.after r) (sym same.1) one.is))

-- on words the engine's effect does what the program's calls do
parts_simulate : (program : Program) (parts : EngineParts) → IsCompiledTo program parts → Simulates (IsFitting parts.exports) (IsOfState program) (IsEffectOf parts) (CallEnds program parts.budget)
parts_simulate program parts compiled call here after there reply fit is does =
    let c = effect_of_each program parts call there here after reply compiled fit is does in
    record {
      next = (effect program call parts.budget there).state;
      ends = ap (λ (r : Reply). record { state = (effect program call parts.budget there).state; reply = r }) c.0;
      is = c.1;
    }

pub parts_are_read : PartsAreRead
parts_are_read program parts opening last block words history order compiled =
    are_read program parts.budget (IsFitting parts.exports) (IsEffectOf parts) (parts_simulate program parts compiled) opening last block words history order
