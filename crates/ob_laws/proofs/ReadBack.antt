-- A writable record's lines are a record that tells it.
use Rattle.std.proofs.Common.{◌≡◌, ℕ, ◌-◌, ◌≤◌, List, [], ◌∷◌, ◌++◌, All, codes, map, slice_get, Option, Some, None, refl, sym, ◌∙◌, ap, subst, arith, append_assoc, append-nil}
use Rattle.std.proofs.lemmas.List.Elements.{All-cons, All-head, All-nil, All-tail}
use Rattle.ob_checked.specs.Exports.{signatures}
use Rattle.ob_grammar.specs.Texts.{HasText}
use Rattle.ob_grammar.specs.Tree.{Module}
use Rattle.ob_interface.specs.Call.{ObjectCall, Reply, Answers, Trapped}
use Rattle.ob_interface.specs.Export.{value_types, var_types}
use Rattle.ob_text_record.specs.Record.{Record}
use Rattle.ob_object_calls.proofs.WithoutApplied.{runs_verified}
use Rattle.ob_object_calls.specs.RunRecords.{without_applied}
use Rattle.ob_meaning.specs.ByPositionStore.{Activation}
use Rattle.ob_scan.proofs.TokenFacts.{lexemes_spelled}
use Rattle.ob_scan.specs.Lexemes.{lexemes}
use Rattle.ob_laws.specs.Writable.{AreCarried, IsNamed, IsReadBack, IsWritable, IsWritableEvent, LegalIsVerified, ModulesAreRead, WellTypedIsRead, told_by}
use Rattle.ob_laws.proofs.DeclaredNames.{module_words}
use Rattle.ob_laws.proofs.ExportNames.{own_named}
use Rattle.ob_laws.proofs.Fronts.{history_front, history_without, same_calls, without-append}
use Rattle.ob_laws.proofs.Numbers.{id_named}
use Rattle.ob_text_values_reading.proofs.Numerals.{numeral}
use Rattle.ob_laws.proofs.PlainWords.{lines_of_text}
use Rattle.ob_laws.proofs.ReadValues.{values_read}
use Rattle.ob_laws.proofs.SaidValues.{lines_open}
use Rattle.ob_laws.proofs.WordLines.{all_words, answered, budget_line, carried_lines, count_line, event_line, head_lines, lines_behind, order_line, record_written, schedule_line, title_line, value_lines}
use Rattle.ob_text_record.specs.RecordText.{id_text, name_of, record_text}
use Rattle.ob_text_reading.proofs.NoComments.{lines_are_read}
use Rattle.ob_text_reading.specs.RecordLines as Lines
use Rattle.ob_text_reading.specs.RecordLines.{AreIds, AreLines, IsEvent, IsHead, IsRecordOf, IsTail, Line}
use Rattle.ob_text_words.specs.ScalarTexts.{scalar_text}
use Rattle.ob_text_words.specs.Words.{Word}
use Rattle.ob_typing.specs.Declarations.{WellTyped}
use Rattle.ob_typing.specs.Program.{Program, Variable}
use Rattle.wf_history.specs.declared.event.CallId.{CallId}
use Rattle.wf_history.specs.History.{Event, Begin, Applied, End, IsHistory, own_calls}

ids_read : (n : ℕ) (ids : List CallId) → n ≤ 16 → All (IsNamed n) ids → AreIds n (map id_text ids) ids
ids_read n [] few all = Lines.AreIds.none
ids_read n (id ∷ ids) few all =
    Lines.AreIds.more (id_named n id few (All-head (IsNamed n) id ids all)) (ids_read n ids few (All-tail (IsNamed n) id ids all))

variable_tails : (vs : List Variable) (state : Activation) → All IsTail (value_lines 86 vs state)
variable_tails [] state = All-nil IsTail
variable_tails (v ∷ vs) [] = All-nil IsTail
variable_tails (v ∷ vs) (h ∷ state) = All-cons IsTail _ (value_lines 86 vs state) Lines.variable (variable_tails vs state)

module _ (m : Module) (program : Program) (text : HasText m) (typed : WellTyped m program) (r : Record) (h : IsWritable program r) where
  abbrev told : List (Event ObjectCall Reply) → List (Event ObjectCall Reply)
  told = without_applied

  -- a history goes on
  place : (before behind : List (Event ObjectCall Reply)) (e : Event ObjectCall Reply) → r.history ≡ before ++ e ∷ behind → told (e ∷ []) ≡ e ∷ [] → IsHistory (told before ++ e ∷ [])
  place before behind e is own =
      let whole : IsHistory ((before ++ e ∷ []) ++ behind) =
      subst (λ (es : List (Event ObjectCall Reply)). IsHistory es) (is ∙ sym (append_assoc before (e ∷ []) behind)) h.whole in
      subst (λ (es : List (Event ObjectCall Reply)). IsHistory es)
      (without-append before (e ∷ []) ∙ ap (λ (es : List (Event ObjectCall Reply)). told before ++ es) own)
      (history_without (before ++ e ∷ []) (history_front (before ++ e ∷ []) behind whole))

  begin_read : (before : List (Event ObjectCall Reply)) (id : CallId) (call : ObjectCall) → IsWritableEvent program r.processes before (Begin id call) →
      IsEvent r.processes (signatures program) (told before) (event_line (signatures program) (Begin id call)) (Begin id call)
  begin_read before id call (k, made) =
      let signature = made.fits.signature in
      subst (λ (w : Word). IsEvent r.processes (signatures program) (told before) (codes "B" ∷ id_text id ∷ w ∷ map scalar_text call.arguments) (Begin id call))
      (sym (ap name_of made.fits.here))
      (Lines.begin (id_named r.processes id h.most k) (own_named m program typed call.export signature made.fits.here)
      (values_read (value_types signature.formals) call.arguments made.fits.fit made.ranged))

  begun : (before : List (Event ObjectCall Reply)) (id : CallId) (call : ObjectCall) → slice_get (own_calls id.process before) (id.number - 1) ≡ Some call →
      slice_get (own_calls id.process (told before)) (id.number - 1) ≡ Some call
  begun before id call at = ap (λ (cs : List ObjectCall). slice_get cs (id.number - 1)) (same_calls id.process before) ∙ at

  end_read : (before behind : List (Event ObjectCall Reply)) (id : CallId) (reply : Reply) → r.history ≡ before ++ End id reply ∷ behind → IsWritableEvent program r.processes before (End id reply) →
      IsEvent r.processes (signatures program) (told before) (event_line (signatures program) (End id reply)) (End id reply)
  end_read before behind id (Answers values) is (k, answers) =
      let call = answered m program text typed r h before behind id (Answers values) is in
      let reply = answers call.0 call.1 in
      Lines.end (id_named r.processes id h.most k) (begun before id call.0 call.1)
      (Lines.done reply.here (values_read (var_types reply.signature.formals) values reply.fits reply.ranged))
  end_read before behind id (Trapped n) is (k, answers) =
      let call = answered m program text typed r h before behind id (Trapped n) is in
      let trap = (answers call.0 call.1).trap in
      Lines.end (id_named r.processes id h.most k) (begun before id call.0 call.1) (Lines.trap (numeral n (omega (arith, trap.1))) trap.0 trap.1)

  abbrev tail : List Line
  tail = order_line r.order ∷ schedule_line r.schedule ∷ value_lines 86 program.variables r.state

  abbrev AreLeft : List (Event ObjectCall Reply) → List (Event ObjectCall Reply) → Type 0
  AreLeft before behind = AreLines r.processes (signatures program) before (map (event_line (signatures program)) behind ++ tail) (told r.history) r.order

  -- the lines behind some events, as those of the events behind them
  lines_read : (before behind : List (Event ObjectCall Reply)) → r.history ≡ before ++ behind → AreLeft (told before) behind
  lines_read before [] is =
      subst (λ (es : List (Event ObjectCall Reply)). AreLeft (told es) []) (is ∙ append-nil before)
      (Lines.AreLines.order (Lines.IsOrder.order (ids_read r.processes r.order h.most h.order))
      (All-cons IsTail (schedule_line r.schedule) (value_lines 86 program.variables r.state) Lines.schedule (variable_tails program.variables r.state)))
  lines_read before (Begin id call ∷ behind) is =
      Lines.AreLines.event (record { form = begin_read before id call (h.events before behind (Begin id call) is); place = place before behind (Begin id call) is refl })
      (subst (λ (es : List (Event ObjectCall Reply)). AreLeft es behind) (without-append before (Begin id call ∷ []))
      (lines_read (before ++ Begin id call ∷ []) behind (is ∙ sym (append_assoc before (Begin id call ∷ []) behind))))
  lines_read before (Applied ids ∷ behind) is =
      Lines.AreLines.applied (Lines.IsApplied.applied (ids_read r.processes ids h.most (h.events before behind (Applied ids) is)))
      (subst (λ (es : List (Event ObjectCall Reply)). AreLeft es behind) (without-append before (Applied ids ∷ []) ∙ append-nil (told before))
      (lines_read (before ++ Applied ids ∷ []) behind (is ∙ sym (append_assoc before (Applied ids ∷ []) behind))))
  lines_read before (End id reply ∷ behind) is =
      Lines.AreLines.event (record { form = end_read before behind id reply is (h.events before behind (End id reply) is); place = place before behind (End id reply) is refl })
      (subst (λ (es : List (Event ObjectCall Reply)). AreLeft es behind) (without-append before (End id reply ∷ []))
      (lines_read (before ++ End id reply ∷ []) behind (is ∙ sym (append_assoc before (End id reply ∷ []) behind))))

  heads : (carried : Option Activation) → AreCarried program carried →
      IsHead program.variables (title_line carried ∷ count_line r.processes ∷ budget_line r.budget ∷ carried_lines program carried) r.processes r.budget carried
  heads None k =
      Lines.of_version_2 refl (Lines.count (numeral r.processes (omega (arith, h.most))) h.least h.most) (Lines.budget (numeral r.budget (omega (arith, h.budget))) h.budget)
  heads (Some held) k =
      Lines.of_version_3 refl (Lines.count (numeral r.processes (omega (arith, h.most))) h.least h.most) (Lines.budget (numeral r.budget (omega (arith, h.budget))) h.budget)
      (lines_open program.variables held (module_words m program text typed).variables k)

  all_read : IsRecordOf program (head_lines program r ++ lines_behind program r) (told_by r)
  all_read =
      record { head = head_lines program r; behind = lines_behind program r; parts = refl; heads = heads r.carried h.carried; tells = lines_read [] r.history refl }

  read : IsReadBack program r
  read =
      lines_are_read program (record_text program r) (told_by r)
      (subst (λ (ls : List Line). IsRecordOf program ls (told_by r))
      (sym (ap Lines.record_lines (record_written program r)
      ∙ lines_of_text (title_line r.carried) (count_line r.processes ∷ budget_line r.budget ∷ carried_lines program r.carried ++ lines_behind program r) (all_words m program text typed r h)))
      all_read)

pub well_typed_is_read : WellTypedIsRead
well_typed_is_read m program r text typed h = read m program text typed r h

pub modules_are_read : ModulesAreRead
modules_are_read text program r is h =
    read is.tree program
    (record { tokens = lexemes text is.text_of.tokens; spelled = lexemes_spelled is.text_of.scanned; derives = is.text_of.derives }) is.typed r h

pub legal_is_verified : LegalIsVerified
legal_is_verified module_text program opening last r is opens h legal =
    runs_verified module_text (record_text program r) program opening last r.history (told_by r) is (modules_are_read module_text program r is h) opens refl legal
