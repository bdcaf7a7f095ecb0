-- One call on the state of a lawful block: what the engine's steps come to.
use Rattle.std.proofs.Common.{◌≡◌, ℕ, ◌<◌, ◌≤◌, Bool, true, false, cond, ℤ, pos, List, [], ◌∷◌, length, map, replicate, Option, refl, sym, ap, ◌∙◌, subst, arith}
use Rattle.std.specs.Prelude.{nat_lt, slice_get, slice_index_or}
use Rattle.std.specs.List.{range_with_len}
use Rattle.std.specs.Ordering.{int_eq}
use Rattle.std.proofs.lemmas.Int.{ints}
use Rattle.std.proofs.lemmas.Bool.Decides.{nat_tests}
use Rattle.std.proofs.lemmas.List.{length-map}
use Rattle.ob_interface.specs.declared.scalar.Scalar.{Scalar}
use Rattle.ob_interface.specs.declared.export.Formal.{Formal}
use Rattle.ob_interface.specs.Call.{ObjectCall, Reply, Answers, Trapped as TrapReply}
use Rattle.ob_interface.specs.Export.{ArgumentsFit}
use Rattle.ob_typing.specs.Program.{Procedure, Program}
use Rattle.ob_meaning.specs.ByPositionStore.{Activation}
use Rattle.ob_meaning.specs.ByPositionStatements.{Outcome, Done, Trap, meaning_of_all, activation_of, calls}
use Rattle.ob_meaning.specs.ByPositionObject.{Effect, results_begun, outside_handed, effect_of, effect_of_procedure, effect}
use Rattle.ob_code_machine.specs.declared.argument.Argument.{Argument}
use Rattle.ob_code_machine.specs.declared.turn.BodyTurn.TheVariants as Answer
use Rattle.ob_code_machine.specs.Code.{CodeParts}
use Rattle.ob_code_machine.specs.Body.{Run, Step, entered}
use Rattle.ob_code_scheme.specs.Types.{IsStateOf}
use Rattle.ob_code_scheme.specs.Temporaries.{stack_words}
use Rattle.ob_code_scheme.specs.WellFormed.{IsWellFormed}
use Rattle.ob_code_scheme.specs.Layout.{word, encoded, variable_words}
use Rattle.ob_code_scheme.specs.Scheme.{code_of}
use Rattle.ob_code_scheme.specs.Correct.{formals_of, ReplyFits, words_of}
use Rattle.ob_code_correct.specs.Bodies.{HasEnded, started as started_body, stepped, meant as meant_by, BodyBehaves}
use Rattle.ob_code_correct.proofs.Bodies.{bodies_correct}
use Rattle.wf_table.specs.declared.engine_turn.EngineTurn.TheVariants as Turn
use Rattle.wf_table.specs.Meaning.{Turned, Meaning, is_over, steps, body, kept, kept_trap}
use Rattle.wf_table.specs.Law.{HasReturned, HasTrapped, Reaches, ReachesTrap}
use Rattle.ob_code_correct.specs.CodeMeaning.{Entrance, EngineParts, most, result_count, value_count, padded, arguments_in, values_of, parameters_of, started, turn_of, turned, trap_in}
use Rattle.ob_code_correct.specs.Compiled.{entrances_from, parts_of, engine_of, Fits, IsEffect, body_limit}
use Rattle.ob_code_correct.proofs.ExportLaw.{Found, found, most_has}
use Rattle.ob_code_correct.proofs.WordLaw.{handed_back, values_back, values_count, kept_words, past_words}
use Rattle.ob_code_correct.proofs.StepLaw.{steps_same, was_returned, was_trapped, was_stuck, was_on, over_is, trap_small}

-- ---- traps

above_0 : (k : ℕ) → 0 < k → int_eq (pos k) (pos 0) ≡ false
above_0 k h = grind (arith, ints)

byte_is : (k : ℕ) → k ≤ 5 → trap_in (pos k) ≡ k
byte_is k h = ap (λ (b : Bool). cond b k 0) (below k h)
  where
    below : (k : ℕ) → k ≤ 5 → nat_lt k 256 ≡ true
    below k h = grind (arith, nat_tests)

-- a trap leaves the state
trap_stays : (before next : Activation) (k : ℕ) (o : Outcome) → effect_of before o ≡ record { state = next; reply = TrapReply k } → before ≡ next
trap_stays before next k (Done left store) h = let replies = ap (λ (e : Effect). e.reply) h in absurd (cc)
trap_stays before next k (Trap j) h = ap (λ (e : Effect). e.state) h

module _ (program : Program) (budget : ℕ) (well : IsWellFormed program)
    (call : ObjectCall) (fitting : Fits program call) (state : Activation) (typed : IsStateOf program.variables state) where
  abbrev m : Meaning Run
  m = engine_of program budget

  abbrev parts : EngineParts
  parts = parts_of program budget

  abbrev exports : List Entrance
  exports = entrances_from 0 program.procedures

  abbrev f : Found 0 program.procedures call.export fitting.entrance
  f = found 0 program.procedures call.export fitting.entrance fitting.there

  abbrev p : Procedure
  p = f.procedure

  abbrev code : CodeParts
  code = code_of program

  abbrev reserve : ℕ
  reserve = stack_words program.procedures

  abbrev fs : List Formal
  fs = fitting.entrance.parameters

  behaves : BodyBehaves program code reserve f.index p state call.arguments budget
  behaves =
      bodies_correct program f.index p well f.there f.is_exported state call.arguments budget typed
      (record { typed = subst (λ (fs : List Formal). ArgumentsFit fs call.arguments) f.parameters fitting.typed; ranged = fitting.ranged })

  -- ---- the start

  abbrev begun : Run
  begun = started_body program code reserve f.index p state call.arguments budget

  number_is : fitting.entrance.procedure ≡ f.index
  number_is = omega (arith, f.number)

  values_within : value_count (formals_of p.parameters) ≤ most value_count exports
  values_within =
      let has = most_has value_count exports call.export fitting.entrance fitting.there in
      let same = ap value_count f.parameters in
      omega (arith, has, same)

  starts : m.start (m.lay call) ≡ begun
  starts =
      let V = variable_words program.variables in
      let ws = padded (most value_count exports) (words_of call.arguments) in
      ap (λ (o : Option Entrance). started parts o ws) fitting.there
      ∙ ap (λ (i : ℕ). entered reserve V (slice_get code.entries i) (arguments_in fs ws) budget) number_is
      ∙ ap (λ (gs : List Formal). entered reserve V (slice_get code.entries f.index) (arguments_in gs ws) budget) f.parameters
      ∙ ap (λ (given : List Argument). entered reserve V (slice_get code.entries f.index) given budget) (handed_back p.parameters call.arguments (most value_count exports) values_within)

  -- ---- after so many steps

  abbrev stood : ℕ → Step
  stood n = stepped program code reserve f.index p state call.arguments budget n

  body_is : (n : ℕ) → body m n (encoded state) call ≡ turned (stood n)
  body_is n = ap (λ (r : Run). steps m n r (encoded state)) starts ∙ steps_same parts n begun (encoded state)

  turn_is : (n : ℕ) → (body m n (encoded state) call).turn ≡ (turned (stood n)).turn
  turn_is n = ap (λ (t : Turned Run). t.turn) (body_is n)

  -- ---- the program's call

  abbrev meant : Effect
  meant = meant_by program code reserve f.index p state call.arguments budget

  effect_is : effect program call budget state ≡ meant
  effect_is = ap (λ (o : _). effect_of_procedure program o call.arguments budget state) f.exported

  pub next_typed : IsStateOf program.variables (effect program call budget state).state
  next_typed = subst (λ (e : Effect). IsStateOf program.variables e.state) (sym effect_is) behaves.state_fits

  -- that it comes to this, as an effect on words
  effect_made : (next : Activation) (reply : Reply) (block : List ℤ) → meant ≡ record { state = next; reply = reply } → block ≡ encoded next → IsEffect program budget call (encoded state) block reply
  effect_made next reply block is same = record {
    before = state;
    next = next;
    ends = effect_is ∙ is;
    block_is = record { typed = typed; words_are = refl };
    after_is = record { typed = subst (λ (e : Effect). IsStateOf program.variables e.state) is behaves.state_fits; words_are = same };
  }

  trapped_state : (next : Activation) (k : ℕ) → meant ≡ record { state = next; reply = TrapReply k } → state ≡ next
  trapped_state next k is =
      trap_stays state next k
      (meaning_of_all (calls program 63) p.body budget (state ∷ results_begun p.parameters ∷ activation_of p (outside_handed 0 p.parameters call.arguments) ∷ [])) is

  -- values that are answered
  module _ (next : Activation) (values : List Scalar) (is : meant ≡ record { state = next; reply = Answers values }) where
    fitting_reply : ReplyFits p.parameters (Answers values)
    fitting_reply = subst (λ (e : Effect). ReplyFits p.parameters e.reply) is behaves.reply_fits

    few_values : length values ≤ m.replies
    few_values =
        let count = values_count (formals_of p.parameters) values fitting_reply.typed in
        let has = most_has result_count exports call.export fitting.entrance fitting.there in
        let same = ap result_count f.parameters in
        omega (arith, count, has, same)

    reply_is : (r : Run) → r.body.stack ≡ words_of values → m.reply call (kept m r) ≡ Answers values
    reply_is r stack =
        let R = most result_count exports in
        ap (λ (o : Option Entrance). Answers (values_of (parameters_of o) (map (m.result r) (range_with_len 0 R)))) fitting.there
        ∙ ap (λ (ws : List ℤ). Answers (values_of fs ws)) (kept_words R r.body.stack)
        ∙ ap (λ (ws : List ℤ). Answers (values_of fs (padded R ws))) stack
        ∙ ap (λ (gs : List Formal). Answers (values_of gs (padded R (words_of values)))) f.parameters
        ∙ ap Answers (values_back (formals_of p.parameters) values R fitting_reply.typed fitting_reply.ranged few_values)

    has_returned : (s : Step) → HasEnded s next (Answers values) → HasReturned m (IsEffect program budget) (encoded state) call (turned s)
    has_returned s ended = record {
      values = values;
      effect = ∣ effect_made next (Answers values) s.block is ended.1 ∣₁;
      reply = reply_is s.run ended.2;
      rest = λ i le lt.
          let count : length (words_of values) ≡ length values = length-map values word in
          ap (λ (ws : List ℤ). slice_index_or ws i (pos 0)) ended.2 ∙ past_words (words_of values) i (omega (arith, count, le));
    }

    reaches : (n : ℕ) → HasEnded (stood n) next (Answers values) → Reaches m (encoded state) call (encoded next) values
    reaches n ended = record {
      count = n;
      turn = turn_is n ∙ ap turn_of ended.0;
      block_is = ap (λ (t : Turned Run). t.block) (body_is n) ∙ ended.1;
      reply = ap (λ (t : Turned Run). m.reply call (kept m t.run)) (body_is n) ∙ reply_is (stood n).run ended.2;
    }

  -- ---- how a body ended

  off_ended : (n : ℕ) → is_over (turned (stood n)).turn ≡ true → HasEnded (stood n) meant.state meant.reply
  off_ended n over = behaves.ends_so n (was_on (stood n).turn over)

  returned_by : (n : ℕ) (next : Activation) (reply : Reply) → meant ≡ record { state = next; reply = reply } → HasEnded (stood n) next reply → (stood n).turn ≡ Answer.Returned →
      HasReturned m (IsEffect program budget) (encoded state) call (turned (stood n))
  returned_by n next (Answers values) is ended h = has_returned next values is (stood n) ended
  returned_by n next (TrapReply k) is ended h = absurd (cc)

  pub returned : (n : ℕ) → (body m n (encoded state) call).turn ≡ Turn.Returned → HasReturned m (IsEffect program budget) (encoded state) call (body m n (encoded state) call)
  returned n h =
      let turn = sym (turn_is n) ∙ h in
      subst (λ (t : Turned Run). HasReturned m (IsEffect program budget) (encoded state) call t) (sym (body_is n))
      (returned_by n meant.state meant.reply refl (off_ended n (ap is_over turn)) (was_returned (stood n).turn turn))

  trap_reply : (k : ℕ) → 0 < k → k ≤ 5 → m.reply call (kept_trap m k) ≡ TrapReply k
  trap_reply k some small =
      ap (λ (b : Bool). cond b (Answers (values_of (parameters_of (slice_get exports call.export)) (replicate m.replies (pos 0)))) (TrapReply (trap_in (pos k)))) (above_0 k some)
      ∙ ap TrapReply (byte_is k small)

  trapped_by : (n k : ℕ) (next : Activation) (reply : Reply) → meant ≡ record { state = next; reply = reply } → HasEnded (stood n) next reply → (stood n).turn ≡ Answer.Trapped k →
      HasTrapped m (IsEffect program budget) (encoded state) call k
  trapped_by n k next (Answers values) is ended h = let turn = ended.0 in absurd (cc)
  trapped_by n k next (TrapReply j) is ended h =
      let same : j ≡ k = cc in
      let small = trap_small code.instructions n begun (encoded state) k h in
      record {
        number = small.0;
        effect = ∣ effect_made next (TrapReply k) (encoded state) (is ∙ ap (λ (i : ℕ). record { state = next; reply = TrapReply i }) same) (ap encoded (trapped_state next j is)) ∣₁;
        reply = trap_reply k small.0 small.1;
      }

  pub trapped : (n k : ℕ) → (body m n (encoded state) call).turn ≡ Turn.Trapped k → HasTrapped m (IsEffect program budget) (encoded state) call k
  trapped n k h =
      let turn = sym (turn_is n) ∙ h in
      trapped_by n k meant.state meant.reply refl (off_ended n (ap is_over turn)) (was_trapped (stood n).turn k turn)

  stuck_by : (n : ℕ) (next : Activation) (reply : Reply) → HasEnded (stood n) next reply → (stood n).turn ≡ Answer.Stuck → ⊥
  stuck_by n next (Answers values) ended h = let turn = ended.0 in cc
  stuck_by n next (TrapReply k) ended h = cc

  pub never_stuck : (n : ℕ) → (body m n (encoded state) call).turn ≡ Turn.Stuck → ⊥
  never_stuck n h =
      let turn = sym (turn_is n) ∙ h in
      stuck_by n meant.state meant.reply (off_ended n (ap is_over turn)) (was_stuck (stood n).turn turn)

  -- ---- where the program's call ends: it always does, within what is paid for

  abbrev limit : ℕ
  limit = body_limit program budget

  at_limit : HasEnded (stood limit) meant.state meant.reply
  at_limit = behaves.ends_so limit (behaves.ends limit (omega arith))

  came : (next : Activation) (reply : Reply) → meant ≡ record { state = next; reply = reply } → HasEnded (stood limit) next reply
  came next reply is = subst (λ (e : Effect). HasEnded (stood limit) e.state e.reply) is at_limit

  pub returns : (next : Activation) (values : List Scalar) → effect program call budget state ≡ record { state = next; reply = Answers values } → Reaches m (encoded state) call (encoded next) values
  returns next values h =
      let is = sym effect_is ∙ h in
      reaches next values is limit (came next (Answers values) is)

  pub traps : (next : Activation) (k : ℕ) → effect program call budget state ≡ record { state = next; reply = TrapReply k } → ReachesTrap m (encoded state) call (encoded next) k
  traps next k h =
      let is = sym effect_is ∙ h in
      let ended = came next (TrapReply k) is in
      let small = trap_small code.instructions limit begun (encoded state) k ended in
      record { count = limit; turn = turn_is limit ∙ ap turn_of ended; block_is = ap encoded (trapped_state next k is); reply = trap_reply k small.0 small.1 }

  pub ends_within : (n : ℕ) → limit ≤ n → is_over (body m n (encoded state) call).turn ≡ true
  ends_within n le = ap is_over (turn_is n) ∙ over_is (stood n).turn (behaves.ends n le)
