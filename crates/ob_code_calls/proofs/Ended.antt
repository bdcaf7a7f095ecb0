-- What the body of a call comes to, where it may take as many instructions as are paid for.
use Rattle.std.proofs.Common.{◌≡◌, ℕ, ◌^◌, ◌<◌, ◌≤◌, true, List, length, refl, sym, ap, ◌∙◌, subst, inl, inr, arith}
use Rattle.std.proofs.Math.Logic.{∥∥₁_elim}
use Rattle.std.proofs.Math.Nat.{ℕ_set}
use Rattle.std.specs.Prelude.{ℤ, ◌⊎◌}
use Rattle.ob_interface.specs.Call.{ObjectCall, Reply, Answers, Trapped as TrapReply}
use Rattle.ob_typing.specs.Program.{Program}
use Rattle.ob_meaning.specs.ByPositionObject.{Effect, effect}
use Rattle.ob_meaning.specs.ByPositionStore.{Activation}
use Rattle.ob_code_machine.specs.Body.{Run}
use Rattle.ob_code_scheme.specs.Layout.{encoded, IsEncoding}
use Rattle.ob_code_correct.specs.CodeMeaning.{EngineParts, code_meaning}
use Rattle.ob_code_correct.specs.Compiled.{parts_of, Fits, IsFitting, HasReserve, IsLawfulBlock, IsEffect, body_limit}
use Rattle.ob_code_correct.specs.Parts.{HasProgram, IsCompiledTo, IsLawfulFor}
use Rattle.ob_code_correct.proofs.CodeLaw.{called_effect, effect_called, bodies_end}
use Rattle.ob_code_correct.proofs.OneEnd.{one_end}
use Rattle.ob_code_correct.proofs.PartsLaw.{lawful_of, parts_lawful}
use Rattle.ob_code_calls.specs.Calls.{IsMade, meaning_of, paid}
use Rattle.wf_table.specs.declared.engine_turn.EngineTurn.{EngineTurn}
use Rattle.wf_table.specs.declared.engine_turn.EngineTurn.TheVariants.{On, Returned, Trapped, Stuck}
use Rattle.wf_table.specs.Law.{IsLawful}
use Rattle.wf_table.specs.Meaning.{Meaning, Turned, is_over, body, kept, steps}

module _ (program : Program) (parts : EngineParts) (compiled : IsCompiledTo program parts) (call : ObjectCall) (fits : IsFitting parts.exports call)
    (before : Activation) (block : List ℤ) (encodes : IsEncoding program.variables before block) where
  abbrev m : Meaning Run
  m = meaning_of parts

  abbrev end : Turned Run
  end = body m (paid parts) block call

  abbrev meant : Effect
  meant = effect program call parts.budget before

  law : IsLawful m (IsLawfulBlock program) (IsFitting parts.exports) (HasReserve parts) (IsEffect program parts.budget)
  law = lawful_of program parts compiled

  whole : IsLawfulBlock program block
  whole = record { state = before; encodes = encodes }

  here : Fits program call
  here = subst (λ (q : EngineParts). IsFitting q.exports call) compiled.parts_are fits

  there : IsEffect program parts.budget call block (encoded meant.state) meant.reply
  there = called_effect program parts.budget compiled.well call before block here encodes

  state_there : IsEncoding program.variables meant.state (encoded meant.state)
  state_there = (effect_called program parts.budget call before block (encoded meant.state) meant.reply encodes there).1

  limit : body_limit program parts.budget ≤ paid (parts_of program parts.budget)
  limit = omega arith

  over : is_over end.turn ≡ true
  over =
      subst (λ (q : EngineParts). is_over (body (code_meaning q) (paid q) block call).turn ≡ true) (sym compiled.parts_are)
      (bodies_end program parts.budget compiled.well call block whole here (paid (parts_of program parts.budget)) limit)

  -- it has returned, with the block and the reply of the effect; or it has trapped
  record HasReturned (reply : Reply) : Type 0 where
    pub turn : end.turn ≡ Returned
    pub block_is : end.block ≡ encoded meant.state
    pub reply_is : m.reply call (kept m end.run) ≡ reply

  record HasTrapped (reply : Reply) : Type 0 where
    pub number : ℕ
    pub turn : end.turn ≡ Trapped number
    pub block_is : block ≡ encoded meant.state
    pub reply_is : TrapReply number ≡ reply

  ended : (reply : Reply) → IsEffect program parts.budget call block (encoded meant.state) reply → HasReturned reply ⊎ HasTrapped reply
  ended (Answers values) e =
      let r = law.returns block call (encoded meant.state) values whole fits e in
      let same = one_end m r.count (paid parts) block call (ap is_over r.turn) over in
      inl (record {
        turn = sym (ap (λ (t : Turned Run). t.turn) same) ∙ r.turn;
        block_is = sym (ap (λ (t : Turned Run). t.block) same) ∙ r.block_is;
        reply_is = sym (ap (λ (t : Turned Run). m.reply call (kept m t.run)) same) ∙ r.reply;
      })
  ended (TrapReply k) e =
      let r = law.traps block call (encoded meant.state) k whole fits e in
      let same = one_end m r.count (paid parts) block call (ap is_over r.turn) over in
      inr (record { number = k; turn = sym (ap (λ (t : Turned Run). t.turn) same) ∙ r.turn; block_is = r.block_is; reply_is = refl })

  -- what it shows where it has returned
  pub when_returned : end.turn ≡ Returned → IsMade program parts.budget call before end.block (m.reply call (kept m end.run))
  when_returned is =
      elim (ended meant.reply there) [
        | inl h ↦ record { reply_is = sym h.reply_is; block_is = subst (λ (ws : List ℤ). IsEncoding program.variables meant.state ws) (sym h.block_is) state_there }
        | inr h ↦ absurd (let never : Returned ≡ Trapped h.number = sym is ∙ h.turn in cc)
      ]

  -- and where it has trapped
  pub when_trapped : (k : ℕ) → end.turn ≡ Trapped k → IsMade program parts.budget call before block (TrapReply k)
  when_trapped k is =
      elim (ended meant.reply there) [
        | inl h ↦ absurd (let never : Trapped k ≡ Returned = sym is ∙ h.turn in cc)
        | inr h ↦
            let same : Trapped k ≡ Trapped h.number = sym is ∙ h.turn in
            let number : k ≡ h.number = cc in
            record { reply_is = sym h.reply_is ∙ ap TrapReply (sym number); block_is = subst (λ (ws : List ℤ). IsEncoding program.variables meant.state ws) (sym h.block_is) state_there }
      ]

  -- it is over, and not stuck
  pub not_on : end.turn ≡ On → ⊥
  not_on is =
      elim (ended meant.reply there) [
        | inl h ↦ let never : On ≡ Returned = sym is ∙ h.turn in cc
        | inr h ↦ let never : On ≡ Trapped h.number = sym is ∙ h.turn in cc
      ]

  pub not_stuck : end.turn ≡ Stuck → ⊥
  not_stuck is =
      elim (ended meant.reply there) [
        | inl h ↦ let never : Stuck ≡ Returned = sym is ∙ h.turn in cc
        | inr h ↦ let never : Stuck ≡ Trapped h.number = sym is ∙ h.turn in cc
      ]

  -- the same, of steps that are the body's
  pub made_returned : (t : Turned Run) → t ≡ end → Returned ≡ t.turn → (run : Run) → run ≡ t.run → (left : List ℤ) → left ≡ t.block → (reply : Reply) → reply ≡ m.reply call (kept m run) →
      IsMade program parts.budget call before left reply
  made_returned t same turn run run_is left left_is reply reply_is =
      subst (λ (ws : List ℤ). IsMade program parts.budget call before ws reply) (sym (left_is ∙ ap (λ (x : Turned Run). x.block) same))
      (subst (λ (r : Reply). IsMade program parts.budget call before end.block r) (sym (reply_is ∙ ap (λ (x : Run). m.reply call (kept m x)) (run_is ∙ ap (λ (x : Turned Run). x.run) same)))
      (when_returned (ap (λ (x : Turned Run). x.turn) (sym same) ∙ sym turn)))

  pub made_trapped : (t : Turned Run) → t ≡ end → (k : ℕ) → Trapped k ≡ t.turn → (left : List ℤ) → left ≡ block → IsMade program parts.budget call before left (TrapReply k)
  made_trapped t same k turn left left_is =
      subst (λ (ws : List ℤ). IsMade program parts.budget call before ws (TrapReply k)) (sym left_is) (when_trapped k (ap (λ (x : Turned Run). x.turn) (sym same) ∙ sym turn))

-- steps from its start are the body's
pub same_body : (parts : EngineParts) (call : ObjectCall) (block : List ℤ) (most : ℕ) (run : Run) → most ≡ paid parts → run ≡ (meaning_of parts).start ((meaning_of parts).lay call) →
    steps (meaning_of parts) most run block ≡ body (meaning_of parts) (paid parts) block call
same_body parts call block most run enough begun =
    ap (λ (n : ℕ). steps (meaning_of parts) n run block) enough ∙ ap (λ (r : Run). steps (meaning_of parts) (paid parts) r block) begun

-- there are few results
pub few_results : (parts : EngineParts) → ∥ HasProgram parts ∥₁ → (meaning_of parts).replies < 2 ^ 32
few_results parts there = (parts_lawful parts there).few_replies

-- ---- of the block of a state that is not at hand

module _ (parts : EngineParts) (block : List ℤ) (lawful : ∥ IsLawfulFor parts block ∥₁) where
  -- it has the words of the variables
  pub length_is : length block ≡ parts.variables
  length_is = ∥∥₁_elim lawful (ℕ_set (length block) parts.variables) (λ l. (lawful_of l.program parts l.compiled).length_lawful block l.is)

  -- the body of a call that fits has returned, where it has not trapped
  pub returned_one : (call : ObjectCall) → IsFitting parts.exports call → (t : EngineTurn) → (body (meaning_of parts) (paid parts) block call).turn ≡ t →
      ((k : ℕ) → ¬ (t ≡ Trapped k)) → Returned ≡ t
  returned_one call fits On is not_trapped = absurd (∥∥₁_elim lawful (λ a b. absurd a) (λ l. not_on l.program parts l.compiled call fits l.is.state block l.is.encodes is))
  returned_one call fits Returned is not_trapped = refl
  returned_one call fits (Trapped k) is not_trapped = absurd (not_trapped k refl)
  returned_one call fits Stuck is not_trapped = absurd (∥∥₁_elim lawful (λ a b. absurd a) (λ l. not_stuck l.program parts l.compiled call fits l.is.state block l.is.encodes is))
