-- From what each call comes to, to how the code behaves.
use Rattle.std.proofs.Common.{◌≡◌, ℕ, suc, ◌+◌, ◌-◌, ◌*◌, ◌≤◌, List, length, sym, ◌∙◌, subst, arith}
use Rattle.ob_interface.specs.declared.scalar.Scalar.{Scalar}
use Rattle.ob_interface.specs.Call.{Reply, Answers, Trapped as TrapReply}
use Rattle.ob_typing.specs.Program.{Procedure, Program}
use Rattle.ob_meaning.specs.ByNameObject.{results_position, most_activations}
use Rattle.ob_meaning.specs.ByPositionStore.{Activation, activation_at}
use Rattle.ob_meaning.specs.ByPositionStatements.{Outcome as Ended, Done, Trap, meaning_of_all, calls}
use Rattle.ob_meaning.specs.ByPositionObject.{Effect, effect_of, values_of_results}
use Rattle.ob_code_words.specs.declared.instr.Instr.{Instr}
use Rattle.ob_code_machine.specs.Laws.{IsOver}
use Rattle.ob_code_machine.specs.Machine.{Configuration, Outcome, exec}
use Rattle.ob_code_machine.proofs.Over.{over_stays}
use Rattle.ob_code_machine.proofs.Within.{stack_stays}
use Rattle.ob_code_scheme.specs.Types.{IsStateOf}
use Rattle.ob_code_scheme.specs.Temporaries.{stack_words}
use Rattle.ob_code_scheme.specs.Correct.{ReplyFits, beginning, end_with, end_of, meant, Behaves}
use Rattle.ob_code_scheme.specs.Executing.{Follows, first_store, Exported}
use Rattle.ob_code_correct.proofs.Fitting.{values_typed, values_in_range}

-- ---- what is over stays over

module _ (code : List Instr) (reserve : ℕ) (c : Configuration) where
  -- two ends are one
  one_end : (m n : ℕ) (x : Outcome) → exec code reserve m c ≡ x → IsOver x → IsOver (exec code reserve n c) → exec code reserve n c ≡ x
  one_end m n x h over over' =
      let e = over_stays code reserve m (m + n) c (subst IsOver (sym h) over) (omega arith) in
      let f = over_stays code reserve n (m + n) c over' (omega arith) in
      sym f ∙ e ∙ h

  -- what is over so early is over later
  over_later : (m n : ℕ) (x : Outcome) → exec code reserve m c ≡ x → IsOver x → m ≤ n → IsOver (exec code reserve n c)
  over_later m n x h over le =
      subst IsOver (sym (over_stays code reserve m n c (subst IsOver (sym h) over) le ∙ h)) over

-- ---- a call

module _ (program : Program) (code : List Instr) (entry : ℕ) (p : Procedure) (state : Activation) (arguments : List Scalar) (budget : ℕ) (typed : IsStateOf program.variables state) where
  abbrev reserve : ℕ
  reserve = stack_words program.procedures

  abbrev start : Configuration
  start = beginning entry program.variables p.parameters state arguments budget

  -- the machine ends as the source does, within what is paid for, and what it leaves fits
  record EndsAs (e : Effect) : Type 0 where
    pub count : ℕ
    pub few : count ≤ suc budget * length code
    pub ended : exec code reserve count start ≡ end_of e
    pub state_fits : IsStateOf program.variables e.state
    pub reply_fits : ReplyFits p.parameters e.reply

  ends_as : (o : Ended) → Follows program code p start budget o → EndsAs (effect_of state o)
  ends_as (Done left store) h = record {
    count = h.count;
    few = h.few;
    ended = h.returned;
    state_fits = h.typed;
    reply_fits = record {
      typed = values_typed p.parameters (values_of_results (activation_at store results_position)) h.fitting;
      ranged = values_in_range _ (values_of_results (activation_at store results_position)) h.fitting;
    };
  }
  ends_as (Trap k) h = record {
    count = h.count;
    few = h.few;
    ended = h.trapped;
    state_fits = typed;
    reply_fits = record { typed = tt; ranged = λ k d below. absurd (omega (arith, below)) };
  }

  end_is_over : (before : Activation) (reply : Reply) → IsOver (end_with before reply)
  end_is_over before (Answers values) = tt
  end_is_over before (TrapReply k) = tt

  pub behaves : Exported program code p entry state arguments budget → Behaves program code reserve entry p state arguments budget
  behaves h =
      let e = ends_as (meaning_of_all (calls program (most_activations - 1)) p.body budget (first_store p state arguments)) h.follows in
      let effect = meant program code reserve entry p state arguments budget in
      let over = end_is_over effect.state effect.reply in
      record {
        ends_so = λ count is. one_end code reserve start e.count count (end_of effect) e.ended over is;
        ends = λ count le. over_later code reserve start e.count count (end_of effect) e.ended over (omega (arith, le, e.few));
        state_fits = e.state_fits;
        reply_fits = e.reply_fits;
        within = λ count c is. stack_stays code reserve count start c h.within is;
      }
