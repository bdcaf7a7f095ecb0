-- The lines of a record's text, as words.
use Rattle.std.proofs.Common.{◌≡◌, ℕ, ◌-◌, zero, suc, List, [], ◌∷◌, ◌++◌, All, codes, decimal, map, flat_map, slice_get, Option, Some, None, refl, sym, ◌∙◌, ap, ap₂, subst, arith, append_assoc, append-nil}
use Rattle.std.specs.List.{AllByRecursion}
use Rattle.std.proofs.lemmas.Grind.{flat_map-append}
use Rattle.std.proofs.lemmas.List.Elements.{All-head, All-tail}
use Rattle.std.proofs.lemmas.Option.{same_Some}
use Rattle.ob_meaning.proofs.ResolvedModules.{exports_are_seen}
use Rattle.ob_meaning.specs.Exported.{Export, seen}
use Rattle.ob_checked.specs.Exports.{signature_in, signatures}
use Rattle.ob_code_scheme.specs.Correct.{IsInRange}
use Rattle.ob_code_scheme.specs.Types.{IsStateOf}
use Rattle.ob_grammar.specs.Texts.{HasText}
use Rattle.ob_grammar.specs.Tree.{Module}
use Rattle.ob_interface.specs.Call.{ObjectCall, Reply, Answers, Trapped}
use Rattle.ob_interface.specs.Export.{Signature}
use Rattle.ob_text_record.specs.Record.{Record}
use Rattle.ob_meaning.specs.ByPositionStore.{Activation, Holds, Refers, value_held}
use Rattle.ob_meaning.specs.ByPositionValue.{Value}
use Rattle.ob_laws.specs.Writable.{AreCarried, IsCounted, IsNamed, IsWritable, IsWritableEvent}
use Rattle.ob_laws.proofs.DeclaredNames.{AreWordedVariables, IsWordedExport, module_words}
use Rattle.ob_laws.proofs.EndedCalls.{ended_call}
use Rattle.ob_laws.proofs.Fronts.{history_front}
use Rattle.ob_laws.proofs.Names.{name_word}
use Rattle.ob_laws.proofs.Numbers.{decimal_word, id_word, scalar_word}
use Rattle.ob_laws.proofs.PlainWords.{AllWords, AreWords, line, spaced, text_of, written}
use Rattle.ob_laws.proofs.PlainWords as Plain
use Rattle.ob_laws.proofs.ValueWords.{value_word}
use Rattle.ob_laws.proofs.Words.{IsWord, byte_word, word_more, words_joined}
use Rattle.ob_text_record.specs.RecordText.{carried_text, event_text, head_text, id_text, name_of, order_text, record_text, schedule_text, title_text}
use Rattle.ob_text_reading.specs.RecordLines.{Line}
use Rattle.ob_text_record.specs.Values.{value_text}
use Rattle.ob_text_record.specs.Variables as Variables
use Rattle.ob_text_record.specs.Variables.{line_behind, opening_text, state_text}
use Rattle.ob_text_words.specs.ScalarTexts.{scalar_text}
use Rattle.ob_text_words.specs.Words.{Word}
use Rattle.ob_typing.specs.Declarations.{WellTyped}
use Rattle.ob_typing.specs.Program.{Procedure, Program, Variable, exports}
use Rattle.wf_history.specs.declared.event.CallId.{CallId}
use Rattle.wf_history.specs.History.{Event, Begin, Applied, End, IsHistory, own_calls}
use Rattle.wf_table.specs.declared.schedule.Turns.{Turns}

-- the first line of a version, by the digit of that
abbrev title : ℕ → Line
title digit = codes "obl0" ∷ codes "record" ∷ (digit ∷ []) ∷ []

abbrev pub title_line : Option Activation → Line
title_line None = title 50
title_line (Some opening) = title 51

abbrev pub count_line : ℕ → Line
count_line n = codes "n" ∷ decimal n ∷ []

abbrev pub budget_line : ℕ → Line
budget_line b = codes "b" ∷ decimal b ∷ []

abbrev pub event_line : List Signature → Event ObjectCall Reply → Line
event_line exports (Begin id call) = codes "B" ∷ id_text id ∷ name_of (slice_get exports call.export) ∷ map scalar_text call.arguments
event_line exports (Applied ids) = codes "A" ∷ map id_text ids
event_line exports (End id (Answers values)) = codes "E" ∷ id_text id ∷ codes "done" ∷ map scalar_text values
event_line exports (End id (Trapped k)) = codes "E" ∷ id_text id ∷ codes "trap" ∷ decimal k ∷ []

abbrev pub turns_word : Turns → Word
turns_word t = decimal t.process ++ codes "*" ++ decimal t.count

abbrev pub order_line : List CallId → Line
order_line order = codes "O" ∷ map id_text order

abbrev pub schedule_line : List Turns → Line
schedule_line schedule = codes "S" ∷ map turns_word schedule

-- behind a letter
abbrev pub value_line : ℕ → Variable → Value → Line
value_line kind variable value = (kind ∷ []) ∷ variable.name ∷ value_text variable.type value ∷ []

abbrev pub value_lines : ℕ → List Variable → Activation → List Line
value_lines kind [] state = []
value_lines kind (variable ∷ variables) [] = []
value_lines kind (variable ∷ variables) (h ∷ state) = value_line kind variable (value_held h) ∷ value_lines kind variables state

abbrev pub carried_lines : Program → Option Activation → List Line
carried_lines program None = []
carried_lines program (Some held) = value_lines 73 program.variables held

abbrev pub head_lines : Program → Record → List Line
head_lines program r = title_line r.carried ∷ count_line r.processes ∷ budget_line r.budget ∷ carried_lines program r.carried

abbrev pub lines_behind : Program → Record → List Line
lines_behind program r =
    map (event_line (signatures program)) r.history ++ order_line r.order ∷ schedule_line r.schedule ∷ value_lines 86 program.variables r.state

abbrev feed : List ℕ
feed = 10 ∷ []

spaced_map : {X : Type 0} (f : X → Word) (xs : List X) → flat_map (λ x. codes " " ++ f x) xs ≡ spaced (map f xs)
spaced_map f [] = refl
spaced_map f (x ∷ xs) = ap (λ (bs : List ℕ). (32 ∷ f x) ++ bs) (spaced_map f xs)

event_written : (exports : List Signature) (e : Event ObjectCall Reply) → event_text exports e ≡ written (event_line exports e) ++ feed
event_written exports (Begin id call) =
    let name = name_of (slice_get exports call.export) in
    let arguments = spaced (map scalar_text call.arguments) in
    ap (λ (bs : List ℕ). 66 ∷ 32 ∷ (bs ++ feed))
    (ap (λ (bs : List ℕ). ((id_text id ++ 32 ∷ []) ++ name) ++ bs) (spaced_map scalar_text call.arguments)
    ∙ append_assoc (id_text id ++ 32 ∷ []) name arguments ∙ append_assoc (id_text id) (32 ∷ []) (name ++ arguments))
event_written exports (Applied ids) = ap (λ (bs : List ℕ). 65 ∷ (bs ++ feed)) (spaced_map id_text ids)
event_written exports (End id (Answers values)) = ap (λ (bs : List ℕ). 69 ∷ 32 ∷ ((id_text id ++ (codes " done" ++ bs)) ++ feed)) (spaced_map scalar_text values)
event_written exports (End id (Trapped k)) = ap (λ (bs : List ℕ). 69 ∷ 32 ∷ ((id_text id ++ (codes " trap " ++ bs)) ++ feed)) (sym (append-nil (decimal k)))

events_written : (exports : List Signature) (es : List (Event ObjectCall Reply)) → flat_map (event_text exports) es ≡ text_of (map (event_line exports) es)
events_written exports [] = refl
events_written exports (e ∷ es) = ap₂ (λ (a b : List ℕ). a ++ b) (event_written exports e) (events_written exports es)

value_written : (kind : ℕ) (variable : Variable) (value : Value) → line_behind (kind ∷ 32 ∷ []) variable value ≡ written (value_line kind variable value) ++ feed
value_written kind variable value =
    let text = value_text variable.type value in
    ap (λ (bs : List ℕ). kind ∷ 32 ∷ (bs ++ feed))
    (append_assoc variable.name (32 ∷ []) text ∙ ap (λ (bs : List ℕ). variable.name ++ 32 ∷ bs) (sym (append-nil text)))

values_written : (kind : ℕ) (variables : List Variable) (state : Activation) → Variables.lines_behind (kind ∷ 32 ∷ []) variables state ≡ text_of (value_lines kind variables state)
values_written kind [] state = refl
values_written kind (variable ∷ variables) [] = refl
values_written kind (variable ∷ variables) (h ∷ state) =
    ap₂ (λ (x y : List ℕ). x ++ y) (value_written kind variable (value_held h)) (values_written kind variables state)

order_written : (order : List CallId) → order_text order ≡ written (order_line order) ++ feed
order_written order = ap (λ (bs : List ℕ). 79 ∷ (bs ++ feed)) (spaced_map id_text order)

schedule_written : (schedule : List Turns) → schedule_text schedule ≡ written (schedule_line schedule) ++ feed
schedule_written schedule = ap (λ (bs : List ℕ). 83 ∷ (bs ++ feed)) (spaced_map turns_word schedule)

-- the numbers of the head, and what stands behind it
head_written : (P B Y : List ℕ) → (((P ++ (10 ∷ 98 ∷ 32 ∷ [])) ++ B) ++ feed) ++ Y ≡ (P ++ feed) ++ 98 ∷ 32 ∷ ((B ++ feed) ++ Y)
head_written P B Y =
    append_assoc ((P ++ (10 ∷ 98 ∷ 32 ∷ [])) ++ B) feed Y ∙ append_assoc (P ++ (10 ∷ 98 ∷ 32 ∷ [])) B (feed ++ Y)
    ∙ append_assoc P (10 ∷ 98 ∷ 32 ∷ []) (B ++ (feed ++ Y)) ∙ ap (λ (bs : List ℕ). P ++ 10 ∷ 98 ∷ 32 ∷ bs) (sym (append_assoc B feed Y))
    ∙ sym (append_assoc P feed (98 ∷ 32 ∷ ((B ++ feed) ++ Y)))

module _ (program : Program) (r : Record) where
  abbrev E : List ℕ
  E = flat_map (event_text (signatures program)) r.history

  abbrev O : List ℕ
  O = order_text r.order

  abbrev S : List ℕ
  S = schedule_text r.schedule

  abbrev V : List ℕ
  V = state_text program.variables r.state

  behind_written : E ++ (O ++ (S ++ V)) ≡ text_of (lines_behind program r)
  behind_written =
      let last = order_line r.order ∷ schedule_line r.schedule ∷ value_lines 86 program.variables r.state in
      let tails : O ++ (S ++ V) ≡ text_of last =
      ap₂ (λ (a b : List ℕ). a ++ b) (order_written r.order) (ap₂ (λ (a b : List ℕ). a ++ b) (schedule_written r.schedule) (values_written 86 program.variables r.state)) in
      ap₂ (λ (a b : List ℕ). a ++ b) (events_written (signatures program) r.history) tails
      ∙ sym (flat_map-append (λ (l : Line). written l ++ feed) (map (event_line (signatures program)) r.history) last)

  -- of a version with this digit, with these lines between the head and the events
  version_written : (digit : ℕ) (C : List ℕ) (carried : List Line) → C ≡ text_of carried →
      (codes "obl0 record " ++ digit ∷ 10 ∷ []) ++ head_text r.processes r.budget ++ C ++ E ++ O ++ S ++ V
      ≡ text_of (title digit ∷ count_line r.processes ∷ budget_line r.budget ∷ carried ++ lines_behind program r)
  version_written digit C carried same =
      let P = decimal r.processes in
      let B = decimal r.budget in
      let X = ((P ++ (10 ∷ 98 ∷ 32 ∷ [])) ++ B) ++ feed in
      let behind : C ++ (E ++ (O ++ (S ++ V))) ≡ text_of (carried ++ lines_behind program r) =
      ap₂ (λ (a b : List ℕ). a ++ b) same behind_written ∙ sym (flat_map-append (λ (l : Line). written l ++ feed) carried (lines_behind program r)) in
      let apart : ((((X ++ C) ++ E) ++ O) ++ S) ++ V ≡ X ++ (C ++ (E ++ (O ++ (S ++ V)))) =
      append_assoc (((X ++ C) ++ E) ++ O) S V ∙ append_assoc ((X ++ C) ++ E) O (S ++ V) ∙ append_assoc (X ++ C) E (O ++ (S ++ V)) ∙ append_assoc X C (E ++ (O ++ (S ++ V))) in
      let numbers = ap₂ (λ (p b : List ℕ). (p ++ feed) ++ 98 ∷ 32 ∷ ((b ++ feed) ++ (C ++ (E ++ (O ++ (S ++ V)))))) (sym (append-nil P)) (sym (append-nil B)) in
      ap (λ (bs : List ℕ). codes "obl0 record " ++ digit ∷ 10 ∷ 110 ∷ 32 ∷ bs)
      (apart ∙ head_written P B (C ++ (E ++ (O ++ (S ++ V)))) ∙ numbers ∙ ap (λ (bs : List ℕ). ((P ++ []) ++ feed) ++ 98 ∷ 32 ∷ (((B ++ []) ++ feed) ++ bs)) behind)

  written_from : (carried : Option Activation) → title_text carried ++ head_text r.processes r.budget ++ carried_text program carried ++ E ++ O ++ S ++ V
      ≡ text_of (title_line carried ∷ count_line r.processes ∷ budget_line r.budget ∷ carried_lines program carried ++ lines_behind program r)
  written_from None = version_written 50 [] [] refl
  written_from (Some held) = version_written 51 (opening_text program.variables held) (value_lines 73 program.variables held) (values_written 73 program.variables held)

  -- the text of a record is its lines of words
  pub record_written : record_text program r ≡ text_of (head_lines program r ++ lines_behind program r)
  record_written = written_from r.carried

-- ---- all lines are lines of words

data EachWord : List Word → Type 0 where
  nothing : EachWord []
  word : {w : Word} {ws : List Word} → IsWord w → EachWord ws → EachWord (w ∷ ws)

line_of : (w : Word) (ws : List Word) → IsWord w → EachWord ws → AreWords (w ∷ ws)
line_of w [] h nothing = Plain.one h
line_of w (v ∷ ws) h (word k ks) = Plain.more h (line_of v ws k ks)

each : {X : Type 0} (P : X → Type 0) (f : X → Word) (xs : List X) → ((x : X) → P x → IsWord (f x)) → All P xs → EachWord (map f xs)
each P f [] h all = nothing
each P f (x ∷ xs) h all = word (h x (All-head P x xs all)) (each P f xs h (All-tail P x xs all))

words_more : (ls rest : List Line) → AllWords ls → AllWords rest → AllWords (ls ++ rest)
words_more [] rest h k = k
words_more (l ∷ ls) rest (line h hs) k = Plain.line h (words_more ls rest hs k)

-- the name of an export
signature_named : (ps : List Procedure) → AllByRecursion IsWordedExport (map seen ps) → (k : ℕ) (s : Signature) → slice_get (map signature_in ps) k ≡ Some s → IsWord s.name
signature_named [] h k s at = absurd (cc)
signature_named (p ∷ ps) h zero s at = subst (λ (x : Signature). IsWord x.name) (same_Some (signature_in p) s at) (name_word p.name h.0)
signature_named (p ∷ ps) h (suc k) s at = signature_named ps h.1 k s at

variable_words : (kind : ℕ) (vs : List Variable) (state : Activation) → IsWord (kind ∷ []) → AreWordedVariables vs → IsStateOf vs state → AllWords (value_lines kind vs state)
variable_words kind [] [] k w h = Plain.none
variable_words kind [] (x ∷ state) k w h = absurd h
variable_words kind (v ∷ vs) [] k w h = absurd h
variable_words kind (v ∷ vs) (Holds x ∷ state) k w h =
    Plain.line (line_of _ _ k (word (name_word v.name w.0.name) (word (value_word v.type x w.0.type.parts h.0) nothing))) (variable_words kind vs state k w.1 h.1)
variable_words kind (v ∷ vs) (Refers place ∷ state) k w h = absurd h.0

done_word : IsWord (codes "done")
done_word = word_more 100 _ refl refl (word_more 111 _ refl refl (word_more 110 _ refl refl (byte_word 101 refl refl)))

trap_word : IsWord (codes "trap")
trap_word = word_more 116 _ refl refl (word_more 114 _ refl refl (word_more 97 _ refl refl (byte_word 112 refl refl)))

turn_word : (t : Turns) → IsCounted t → IsWord (turns_word t)
turn_word t k =
    subst (λ (w : Word). IsWord w) (sym (append_assoc (decimal t.process) (42 ∷ []) (decimal t.count)))
    (words_joined (decimal t.process) (42 ∷ decimal t.count) (decimal_word t.process k.process) (word_more 42 (decimal t.count) refl refl (decimal_word t.count k.count)))

module _ (m : Module) (program : Program) (text : HasText m) (typed : WellTyped m program) (r : Record) (h : IsWritable program r) where
  id_at : (id : CallId) → IsNamed r.processes id → IsWord (id_text id)
  id_at id k = id_word r.processes id h.most k

  export_word : (k : ℕ) (s : Signature) → slice_get (signatures program) k ≡ Some s → IsWord s.name
  export_word k s at =
      signature_named (exports program)
      (subst (λ (es : List Export). AllByRecursion IsWordedExport es) (sym (exports_are_seen m program typed)) (module_words m program text typed).exports) k s at

  -- the call that an End event ends
  pub answered : (before behind : List (Event ObjectCall Reply)) (id : CallId) (reply : Reply) → r.history ≡ before ++ End id reply ∷ behind →
      (call : ObjectCall) × (slice_get (own_calls id.process before) (id.number - 1) ≡ Some call)
  answered before behind id reply is =
      ended_call before id reply
      (history_front (before ++ End id reply ∷ []) behind
      (subst (λ (es : List (Event ObjectCall Reply)). IsHistory es) (is ∙ sym (append_assoc before (End id reply ∷ []) behind)) h.whole))

  event_words : (before behind : List (Event ObjectCall Reply)) (e : Event ObjectCall Reply) → r.history ≡ before ++ e ∷ behind → IsWritableEvent program r.processes before e →
      AreWords (event_line (signatures program) e)
  event_words before behind (Begin id call) is (k, made) =
      let name : IsWord (name_of (slice_get (signatures program) call.export)) =
      subst (λ (w : Word). IsWord w) (sym (ap name_of made.fits.here)) (export_word call.export made.fits.signature made.fits.here) in
      line_of _ _ (byte_word 66 refl refl) (word (id_at id k) (word name (each IsInRange scalar_text call.arguments scalar_word made.ranged)))
  event_words before behind (Applied ids) is k = line_of _ _ (byte_word 65 refl refl) (each (IsNamed r.processes) id_text ids id_at k)
  event_words before behind (End id (Answers values)) is (k, answers) =
      let call = answered before behind id (Answers values) is in
      line_of _ _ (byte_word 69 refl refl) (word (id_at id k) (word done_word (each IsInRange scalar_text values scalar_word (answers call.0 call.1).ranged)))
  event_words before behind (End id (Trapped n)) is (k, answers) =
      let call = answered before behind id (Trapped n) is in
      line_of _ _ (byte_word 69 refl refl) (word (id_at id k) (word trap_word (word (decimal_word n (omega (arith, (answers call.0 call.1).trap.1))) nothing)))

  events_words : (before behind : List (Event ObjectCall Reply)) (rest : List Line) → r.history ≡ before ++ behind → AllWords rest →
      AllWords (map (event_line (signatures program)) behind ++ rest)
  events_words before [] rest e k = k
  events_words before (x ∷ behind) rest e k =
      Plain.line (event_words before behind x e (h.events before behind x e)) (events_words (before ++ x ∷ []) behind rest (e ∙ sym (append_assoc before (x ∷ []) behind)) k)

  title_words : (carried : Option Activation) → AreWords (title_line carried)
  title_words carried =
      let product = word_more 111 _ refl refl (word_more 98 _ refl refl (word_more 108 _ refl refl (byte_word 48 refl refl))) in
      let kind = word_more 114 _ refl refl (word_more 101 _ refl refl (word_more 99 _ refl refl (word_more 111 _ refl refl (word_more 114 _ refl refl (byte_word 100 refl refl))))) in
      version carried product kind
    where
      version : (carried : Option Activation) → IsWord (codes "obl0") → IsWord (codes "record") → AreWords (title_line carried)
      version None product kind = line_of _ _ product (word kind (word (byte_word 50 refl refl) nothing))
      version (Some held) product kind = line_of _ _ product (word kind (word (byte_word 51 refl refl) nothing))

  carried_words : (carried : Option Activation) → AreCarried program carried → AllWords (carried_lines program carried)
  carried_words None k = Plain.none
  carried_words (Some held) k = variable_words 73 program.variables held (byte_word 73 refl refl) (module_words m program text typed).variables k

  pub all_words : AllWords (head_lines program r ++ lines_behind program r)
  all_words =
      let schedule = line_of _ _ (byte_word 83 refl refl) (each IsCounted turns_word r.schedule turn_word h.schedule) in
      let order = line_of _ _ (byte_word 79 refl refl) (each (IsNamed r.processes) id_text r.order id_at h.order) in
      let count = line_of _ _ (byte_word 110 refl refl) (word (decimal_word r.processes (omega (arith, h.most))) nothing) in
      let budget = line_of _ _ (byte_word 98 refl refl) (word (decimal_word r.budget (omega (arith, h.budget))) nothing) in
      let variables = variable_words 86 program.variables r.state (byte_word 86 refl refl) (module_words m program text typed).variables h.variables in
      let behind = events_words [] r.history _ refl (Plain.line order (Plain.line schedule variables)) in
      Plain.line (title_words r.carried) (Plain.line count (Plain.line budget (words_more (carried_lines program r.carried) _ (carried_words r.carried h.carried) behind)))
