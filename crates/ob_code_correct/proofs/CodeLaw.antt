-- The engine over compiled code meets the law, and its effect is total.
use Rattle.std.proofs.Common.{◌≡◌, ℕ, suc, ◌+◌, ◌-◌, ◌≤◌, Bool, true, false, cond, List, ◌∷◌, length, map, Some, None, Option, refl, sym, ap, ◌∙◌, subst, arith}
use Rattle.std.specs.Prelude.{ℤ, pos, slice_get, nat_le}
use Rattle.std.specs.Ordering.{int_eq}
use Rattle.ob_interface.specs.declared.scalar.Scalar.{Scalar}
use Rattle.ob_interface.specs.declared.export.Formal.{Formal}
use Rattle.ob_interface.specs.Call.{ObjectCall, Reply, Answers, Trapped as TrapReply}
use Rattle.ob_interface.specs.Export.{ArgumentsFit}
use Rattle.ob_typing.specs.Program.{Program}
use Rattle.ob_meaning.specs.ByPositionStore.{Activation}
use Rattle.ob_meaning.specs.ByPositionObject.{Effect, effect}
use Rattle.ob_code_machine.specs.declared.argument.Argument.{Argument}
use Rattle.ob_code_machine.specs.Body.{Run, empty, enter, entered, result_count as results_of}
use Rattle.ob_code_machine.proofs.Over.{stuck_step}
use Rattle.ob_code_machine.proofs.Sizes.{steps_keep_sizes}
use Rattle.ob_code_scheme.specs.WellFormed.{IsWellFormed}
use Rattle.ob_code_scheme.specs.Layout.{word, encoded, decoded, IsEncoding}
use Rattle.ob_code_scheme.specs.Scheme.{code_of}
use Rattle.ob_code_correct.proofs.Memory.{memory_holds}
use Rattle.ob_code_correct.proofs.KeptStatements.{openings_are_states}
use Rattle.wf_history.specs.declared.event.CallId.{CallId}
use Rattle.wf_history.specs.Legal.{OneAtATime, none, more}
use Rattle.wf_table.specs.declared.engine_turn.EngineTurn.TheVariants as Turn
use Rattle.wf_table.specs.Meaning.{Meaning, is_over, body, values_in}
use Rattle.wf_table.specs.Law.{IsLawful, HasReturned, HasTrapped, Reaches, ReachesTrap}
use Rattle.wf_table.specs.Ends.{IsCallOf}
use Rattle.ob_code_correct.specs.CodeMeaning.{Entrance, EngineParts, most, result_count, value_count, first_word, other_words, values_of, parameters_of, entrance_at, started, arguments_in, trap_in}
use Rattle.ob_code_correct.specs.Compiled.{entrances_from, parts_of, engine_of, Fits, HasReserve, IsLawfulBlock, IsEffect, body_limit}
use Rattle.ob_code_correct.specs.EngineLaw.{CodeIsLawful, FittingIsOfSignatures, DecodedIsLawful, LawfulIsDecoded, OpeningsAreLawful, EffectIsTotal, EffectIsCalled, CalledIsEffect, BodiesEnd, ScriptsEnd}
use Rattle.ob_code_correct.proofs.ExportLaw.{few, most_of, results_few, values_few, entered_at, signed_at}
use Rattle.ob_code_correct.proofs.WordLaw.{length-padded, values_short}
use Rattle.ob_code_correct.proofs.StepLaw.{was_stuck, code_touches}
use Rattle.ob_code_correct.proofs.CallLaw.{returned, trapped, never_stuck, returns, traps, next_typed, ends_within}

-- a start has the reserve
entered_reserve : (reserve variables budget : ℕ) (o : Option ℕ) (arguments : List Argument) → (entered reserve variables o arguments budget).reserve ≡ reserve
entered_reserve reserve variables budget None arguments = refl
entered_reserve reserve variables budget (Some entry) arguments = by (nat_le (results_of arguments + length arguments) reserve)
  where
    by : (b : Bool) → (cond {A = Run} b (record { reserve = reserve; is_over = false; body = enter entry variables arguments budget }) (record { reserve = reserve; is_over = true; body = empty })).reserve ≡ reserve
    by true = refl
    by false = refl

pub started_reserve : (parts : EngineParts) (o : Option Entrance) (words : List ℤ) → (started parts o words).reserve ≡ parts.reserve
started_reserve parts None words = refl
started_reserve parts (Some x) words =
    entered_reserve parts.reserve parts.variables parts.budget (slice_get parts.code.entries x.procedure) (arguments_in x.parameters words)

-- a reply's values
reply_few : (b : Bool) (values : List Scalar) (k : ℕ) → length values ≤ 8 → length (values_in (cond b (Answers values) (TrapReply k))) ≤ 8
reply_few true values k h = h
reply_few false values k h = omega arith

values_at : (o : Option Entrance) (words : List ℤ) → ((x : Entrance) → o ≡ Some x → length x.parameters ≤ 8) → length (values_of (parameters_of o) words) ≤ 8
values_at None words h = omega arith
values_at (Some x) words h = let short = values_short x.parameters words in let limit = h x refl in omega (arith, short, limit)

-- two states with the same words are one
one_state : (program : Program) (a b : Activation) (block : List ℤ) → IsEncoding program.variables a block → IsEncoding program.variables b block → a ≡ b
one_state program a b block x y =
    let first = memory_holds.decodes_encoded program.variables a x.typed in
    let second = memory_holds.decodes_encoded program.variables b y.typed in
    let same = ap (λ (ws : List ℤ). decoded program.variables ws) (sym x.words_are ∙ y.words_are) in
    let both : Some a ≡ Some b = sym first ∙ same ∙ second in
    cc

module _ (program : Program) (budget : ℕ) (well : IsWellFormed program) where
  abbrev m : Meaning Run
  m = engine_of program budget

  abbrev exports : List Entrance
  exports = entrances_from 0 program.procedures

  returned_at : (b : List ℤ) (c : ObjectCall) (n : ℕ) → IsLawfulBlock program b → Fits program c → (body m n b c).turn ≡ Turn.Returned → HasReturned m (IsEffect program budget) b c (body m n b c)
  returned_at b c n l fits h =
      subst (λ (x : List ℤ). HasReturned m (IsEffect program budget) x c (body m n x c)) (sym l.encodes.words_are)
      (returned program budget well c fits l.state l.encodes.typed n (ap (λ (x : List ℤ). (body m n x c).turn) (sym l.encodes.words_are) ∙ h))

  trapped_at : (b : List ℤ) (c : ObjectCall) (n k : ℕ) → IsLawfulBlock program b → Fits program c → (body m n b c).turn ≡ Turn.Trapped k → HasTrapped m (IsEffect program budget) b c k
  trapped_at b c n k l fits h =
      subst (λ (x : List ℤ). HasTrapped m (IsEffect program budget) x c k) (sym l.encodes.words_are)
      (trapped program budget well c fits l.state l.encodes.typed n k (ap (λ (x : List ℤ). (body m n x c).turn) (sym l.encodes.words_are) ∙ h))

  never_at : (b : List ℤ) (c : ObjectCall) (n : ℕ) → IsLawfulBlock program b → Fits program c → (body m n b c).turn ≡ Turn.Stuck → ⊥
  never_at b c n l fits h =
      never_stuck program budget well c fits l.state l.encodes.typed n (ap (λ (x : List ℤ). (body m n x c).turn) (sym l.encodes.words_are) ∙ h)

  returns_at : (b : List ℤ) (c : ObjectCall) (b' : List ℤ) (values : List Scalar) → Fits program c → IsEffect program budget c b b' (Answers values) → Reaches m b c b' values
  returns_at b c b' values fits e =
      subst (λ (x : List ℤ). Reaches m x c b' values) (sym e.block_is.words_are)
      (subst (λ (y : List ℤ). Reaches m (encoded e.before) c y values) (sym e.after_is.words_are)
      (returns program budget well c fits e.before e.block_is.typed e.next values e.ends))

  traps_at : (b : List ℤ) (c : ObjectCall) (b' : List ℤ) (k : ℕ) → Fits program c → IsEffect program budget c b b' (TrapReply k) → ReachesTrap m b c b' k
  traps_at b c b' k fits e =
      subst (λ (x : List ℤ). ReachesTrap m x c b' k) (sym e.block_is.words_are)
      (subst (λ (y : List ℤ). ReachesTrap m (encoded e.before) c y k) (sym e.after_is.words_are)
      (traps program budget well c fits e.before e.block_is.typed e.next k e.ends))

  lawful : IsLawful m (IsLawfulBlock program) (Fits program) (HasReserve (parts_of program budget)) (IsEffect program budget)
  lawful = record {
    has_argument = omega arith;
    few_variables = let V = well.variables in omega (arith, V);
    few_replies = let R = most_of result_count results_few program well in omega (arith, R);
    few_arguments = let A = most_of value_count values_few program well in omega (arith, A);
    length_lay = λ c fits. length-padded (suc (most value_count exports)) (pos c.export ∷ map word c.arguments);
    length_step = λ run b ready long. (steps_keep_sizes (code_of program).instructions run b).long;
    length_lawful = λ b l. ap (λ (ws : List ℤ). length ws) l.encodes.words_are ∙ memory_holds.encoded_lengths program.variables l.state l.encodes.typed;
    few_values = λ c words fits long.
        reply_few (int_eq (first_word words) (pos 0)) (values_of (parameters_of (slice_get exports c.export)) (other_words words)) (trap_in (first_word words))
        (values_at (slice_get exports c.export) (other_words words) (λ x e. few program well c.export x e));
    start_ready = λ words long. started_reserve (parts_of program budget) (entrance_at exports (first_word words)) (other_words words);
    step_ready = λ run b ready long. (steps_keep_sizes (code_of program).instructions run b).reserve ∙ ready;
    stuck_run = λ run b ready long stuck. (stuck_step (code_of program).instructions run b (was_stuck _ stuck)).0;
    stuck_block = λ run b ready long stuck. (stuck_step (code_of program).instructions run b (was_stuck _ stuck)).1;
    one_word = λ run b ready long. code_touches (parts_of program budget) run b;
    effect_lawful = λ b c b' a lawful fits e. record { state = e.next; encodes = e.after_is };
    returned = returned_at;
    trapped = trapped_at;
    never_stuck = never_at;
    returns = λ b c b' values lawful fits e. returns_at b c b' values fits e;
    traps = λ b c b' k lawful fits e. traps_at b c b' k fits e;
  }

  effect_there : (call : ObjectCall) (before : Activation) (block : List ℤ) → Fits program call → IsEncoding program.variables before block →
      IsEffect program budget call block (encoded (effect program call budget before).state) (effect program call budget before).reply
  effect_there call before block fits encodes = record {
    before = before;
    next = (effect program call budget before).state;
    ends = refl;
    block_is = encodes;
    after_is = record { typed = next_typed program budget well call fits before encodes.typed; words_are = refl };
  }

  ends_at : (call : ObjectCall) (block : List ℤ) → IsLawfulBlock program block → Fits program call → (n : ℕ) → body_limit program budget ≤ n → is_over (body m n block call).turn ≡ true
  ends_at call block l fits n le =
      ap (λ (x : List ℤ). is_over (body m n x call).turn) l.encodes.words_are ∙ ends_within program budget well call fits l.state l.encodes.typed n le

  -- calls made one at a time lead from a lawful block to a lawful one
  made_lawful : (Made : CallId → ObjectCall → Type 0) → ((id : CallId) (call : ObjectCall) → Made id call → Fits program call) →
      (ids : List CallId) (replies : List Reply) (opening block : List ℤ) → IsLawfulBlock program opening → OneAtATime Made (IsEffect program budget) opening ids replies block → IsLawfulBlock program block
  made_lawful Made fit ids replies opening block l none = l
  made_lawful Made fit ids replies opening block l (more {between = between} {ids = rest} {answers = others} made does later) =
      made_lawful Made fit rest others between block (record { state = does.next; encodes = does.after_is }) later

pub code_lawful : CodeIsLawful
code_lawful program budget well = lawful program budget well

pub openings_lawful : OpeningsAreLawful
openings_lawful program turns left store well h =
    record { typed = openings_are_states program turns left store well h; words_are = refl }

pub decoded_lawful : DecodedIsLawful
decoded_lawful program block state h =
    let e = memory_holds.encodes_decoded program.variables block state h in record { typed = e.0; words_are = sym e.1 }

pub lawful_decoded : LawfulIsDecoded
lawful_decoded program block state h =
    ap (λ (ws : List ℤ). decoded program.variables ws) h.words_are ∙ memory_holds.decodes_encoded program.variables state h.typed

pub effect_called : EffectIsCalled
effect_called program budget call before block after reply encodes e =
    let same = one_state program e.before before block e.block_is encodes in
    let ends : effect program call budget before ≡ record { state = e.next; reply = reply } =
    ap (λ (s : Activation). effect program call budget s) (sym same) ∙ e.ends in
    (ap (λ (x : Effect). x.reply) ends, subst (λ (s : Activation). IsEncoding program.variables s after) (sym (ap (λ (x : Effect). x.state) ends)) e.after_is)

pub called_effect : CalledIsEffect
called_effect program budget well call before block fits encodes = effect_there program budget well call before block fits encodes

pub effect_total : EffectIsTotal
effect_total program budget well call block l fits = record {
  after = encoded (effect program call budget l.state).state;
  reply = (effect program call budget l.state).reply;
  is = effect_there program budget well call l.state block fits l.encodes;
  only = λ other answer e.
      let is = effect_called program budget call l.state block other answer l.encodes e in
      (is.1.words_are, sym is.0);
}

pub bodies_end : BodiesEnd
bodies_end program budget well call block l fits n le = ends_at program budget well call block l fits n le

pub scripts_end : ScriptsEnd
scripts_end program budget well scripts opening fit l = record {
  ends = λ id call block is reached.
      bodies_end program budget well call block
      (made_lawful program budget well (IsCallOf scripts) (λ other c of. fit other.process (other.number - 1) c of.1) reached.others reached.replies opening block l reached.made)
      (fit id.process (id.number - 1) call is.1) (body_limit program budget) (omega arith);
}

-- ---- calls that fit the signatures

pub fitting_signed : (program : Program) (call : ObjectCall) → FittingIsOfSignatures program call
fitting_signed program call = record {
  fits = λ h ranged.
      let e = entered_at 0 program.procedures call.export h.signature h.here in
      record { entrance = e.entrance; there = e.there; typed = subst (λ (fs : List Formal). ArgumentsFit fs call.arguments) (sym e.formals) h.fit; ranged = ranged };
  signed = λ h.
      let s = signed_at 0 program.procedures call.export h.entrance h.there in
      record { signature = s.signature; here = s.here; fit = subst (λ (fs : List Formal). ArgumentsFit fs call.arguments) s.formals h.typed };
}
