-- A line says one event at most, and only one kind of thing.
use Rattle.std.proofs.Common.{◌≡◌, ◌∙◌, ℕ, ◌-◌, ◌≤◌, List, [], ◌∷◌, ◌++◌, ◌⊎◌, Option, None, Result, Ok, Err, IfOk, MatchOption, inl, inr, Some, slice_get, length, codes, refl, sym, ap, ap₂, subst, arith}
use Rattle.std.proofs.lemmas.Option.{same_Some}
use Rattle.ob_interface.specs.declared.scalar.Scalar.{Scalar}
use Rattle.ob_meaning.specs.ByNameObject.{most_turns}
use Rattle.ob_typing.specs.Arithmetic.{no_turn_left}
use Rattle.ob_interface.specs.Call.{ObjectCall, Reply, Answers, Trapped}
use Rattle.ob_interface.specs.declared.call.Reply as Replied
use Rattle.ob_interface.specs.View as View
use Rattle.ob_text_words.specs.ExportNames.{export_named}
use Rattle.ob_text_words.specs.Values.{AreValues}
use Rattle.ob_interface.specs.Export.{Signature, value_types, var_types}
use Rattle.ob_text_words.specs.Words.{IsNumeral, Word}
use Rattle.ob_text_reading.specs.RecordLines as Lines
use Rattle.ob_text_reading.specs.RecordLines.{IsApplied, IsBudget, IsCount, AreIds, IsEvent, IsId, IsNextEvent, IsOrder, IsReply, Line}
use Rattle.ob_text_reading.specs.LineReading.{HasSaid, IsAppliedRead, IsOrderRead, SaysNothing}
use Rattle.ob_text_reading.specs.Seats.{EndsCall}
use Rattle.ob_text_reading.specs.declared.line.Line as Rust
use Rattle.ob_text_reading.specs.declared.line.Line.TheVariants as Says
use Rattle.ob_text_values_reading.proofs.Ids.{one_id, one_ids, one_numeral}
use Rattle.ob_text_words.proofs.OneList.{one_list}
use Rattle.wf_history.specs.declared.event.CallId.{CallId}
use Rattle.wf_history.specs.History.{Event, Begin, End, IsHistory, own_calls}

abbrev pub first_byte : Line → ℕ
first_byte [] = 0
first_byte ([] ∷ ws) = 0
first_byte ((b ∷ word) ∷ ws) = b

abbrev pub first_word : List Word → Word
first_word [] = []
first_word (w ∷ ws) = w

abbrev pub other_words : List Word → List Word
other_words [] = []
other_words (w ∷ ws) = ws

pub one_count : {line : Line} {m n : ℕ} → IsCount line m → IsCount line n → m ≡ n
one_count h k =
    let a = count_parts h in
    let b = count_parts k in
    one_numeral (ap (λ ws. first_word (other_words ws)) (sym a.1 ∙ b.1)) a.2 b.2
  where
    count_parts : {line : Line} {m : ℕ} → IsCount line m → (number : Word) × (line ≡ codes "n" ∷ number ∷ []) × IsNumeral number m
    count_parts (Lines.count {number = number} h low high) = (number, refl, h)

pub budget_parts : {line : Line} {m : ℕ} → IsBudget line m → (number : Word) × (line ≡ codes "b" ∷ number ∷ []) × IsNumeral number m × (m ≤ most_turns)
budget_parts (Lines.budget {number = number} h high) = (number, refl, h, high)

pub one_budget : {line : Line} {a b : ℕ} → IsBudget line a → IsBudget line b → a ≡ b
one_budget h k =
    let a = budget_parts h in
    let b = budget_parts k in
    one_numeral (ap (λ ws. first_word (other_words ws)) (sym a.1 ∙ b.1)) a.2 b.2

-- a budget that the only word says, or none
pub budget_read : (ws : List Word) (r : Option ℕ) →
    MatchOption r ((word : Word) (n : ℕ) → ws ≡ word ∷ [] → IsNumeral word n → 0 ≤ n → n ≤ most_turns → ⊥)
    (λ n. (word : Word) × (ws ≡ word ∷ []) × IsNumeral word n × (0 ≤ n) × (n ≤ most_turns)) →
    MatchOption r ((b : ℕ) → IsBudget (codes "b" ∷ ws) b → ⊥) (λ b. IsBudget (codes "b" ∷ ws) b)
budget_read ws None h = λ b k. let p = budget_parts k in h p.0 b (ap other_words p.1) p.2 (omega arith) p.3
budget_read ws (Some n) h = subst (λ (vs : List Word). IsBudget (codes "b" ∷ vs) n) (sym h.1) (Lines.budget h.2 h.4)

-- an export with its number
abbrev pub Numbered : Type 0
Numbered = ℕ × Signature

-- what a reply is
pub record Done (signatures : List Signature) (export : ℕ) (ws : List Word) (reply : Reply) : Type 0 where
  rest : List Word
  signature : Signature
  values : List Scalar
  words_are : ws ≡ codes "done" ∷ rest
  reply_is : reply ≡ Answers values
  of : slice_get signatures export ≡ Some signature
  fit : AreValues (var_types signature.formals) rest values

pub record Trap (ws : List Word) (reply : Reply) : Type 0 where
  word : Word
  k : ℕ
  words_are : ws ≡ codes "trap" ∷ word ∷ []
  reply_is : reply ≡ Trapped k
  number : IsNumeral word k
  low : 1 ≤ k
  high : k ≤ no_turn_left

pub reply_parts : {signatures : List Signature} {export : ℕ} {ws : List Word} {reply : Reply} → IsReply signatures export ws reply → Done signatures export ws reply ⊎ Trap ws reply
reply_parts (Lines.done {ws = ws} {signature = signature} {values = values} of fit) =
    inl (record { rest = ws; signature = signature; values = values; words_are = refl; reply_is = refl; of = of; fit = fit })
reply_parts (Lines.trap {word = word} {k = k} number low high) =
    inr (record { word = word; k = k; words_are = refl; reply_is = refl; number = number; low = low; high = high })

fit_of : {s t : Signature} {ws vs : List Word} {xs : List Scalar} → s ≡ t → ws ≡ vs → AreValues (var_types s.formals) ws xs → AreValues (var_types t.formals) vs xs
fit_of e f h = rw (← e, ← f) h

pub one_reply : {signatures : List Signature} {export : ℕ} {ws : List Word} {a b : Reply} → IsReply signatures export ws a → IsReply signatures export ws b → a ≡ b
one_reply h k =
    elim (reply_parts h) [
      | inl x ↦ elim (reply_parts k) [
        | inl y ↦
            let words : x.rest ≡ y.rest = ap other_words (sym x.words_are ∙ y.words_are) in
            let same : x.signature ≡ y.signature = same_Some x.signature y.signature (sym x.of ∙ y.of) in
            x.reply_is ∙ ap (λ vs. Answers vs) (one_list _ _ _ _ (fit_of same words x.fit) y.fit) ∙ sym y.reply_is
        | inr y ↦ absurd (let e = ap first_byte (sym x.words_are ∙ y.words_are) in omega (arith, e))
      ]
      | inr x ↦ elim (reply_parts k) [
        | inl y ↦ absurd (let e = ap first_byte (sym x.words_are ∙ y.words_are) in omega (arith, e))
        | inr y ↦
            let words : x.word ≡ y.word = ap (λ ws. first_word (other_words ws)) (sym x.words_are ∙ y.words_are) in
            x.reply_is ∙ ap (λ k. Trapped k) (one_numeral words x.number y.number) ∙ sym y.reply_is
      ]
    ]

-- what a line of an event is
pub record Begun (processes : ℕ) (signatures : List Signature) (line : Line) (e : Event ObjectCall Reply) : Type 0 where
  pub word : Word
  pub name : Word
  pub rest : List Word
  pub id : CallId
  pub of : Numbered
  pub arguments : List Scalar
  pub line_is : line ≡ codes "B" ∷ word ∷ name ∷ rest
  pub event_is : e ≡ Begin id (record { export = of.0; arguments = arguments })
  pub names : IsId processes word id
  pub found : export_named signatures name ≡ Some of
  pub fit : AreValues (value_types of.1.formals) rest arguments

pub record Ended (processes : ℕ) (signatures : List Signature) (before : List (Event ObjectCall Reply)) (line : Line) (e : Event ObjectCall Reply) : Type 0 where
  pub word : Word
  pub rest : List Word
  pub id : CallId
  pub call : ObjectCall
  pub reply : Reply
  pub line_is : line ≡ codes "E" ∷ word ∷ rest
  pub event_is : e ≡ End id reply
  pub names : IsId processes word id
  pub begun : slice_get (own_calls id.process before) (id.number - 1) ≡ Some call
  pub replies : IsReply signatures call.export rest reply

pub event_parts : {processes : ℕ} {signatures : List Signature} {before : List (Event ObjectCall Reply)} {line : Line} {e : Event ObjectCall Reply} →
    IsEvent processes signatures before line e → Begun processes signatures line e ⊎ Ended processes signatures before line e
event_parts (Lines.begin {word = word} {name = name} {rest = rest} {id = id} {n = n} {signature = signature} {arguments = arguments} names found fit) =
    inl (record { word = word; name = name; rest = rest; id = id; of = (n, signature); arguments = arguments; line_is = refl; event_is = refl; names = names; found = found; fit = fit })
event_parts (Lines.end {word = word} {rest = rest} {id = id} {call = call} {reply = reply} names begun replies) =
    inr (record { word = word; rest = rest; id = id; call = call; reply = reply; line_is = refl; event_is = refl; names = names; begun = begun; replies = replies })

id_of : {processes : ℕ} {v w : Word} {i : CallId} → v ≡ w → IsId processes v i → IsId processes w i
id_of e h = rw (← e) h

arguments_of : {a b : Numbered} {ws vs : List Word} {xs : List Scalar} → a ≡ b → ws ≡ vs → AreValues (value_types a.1.formals) ws xs → AreValues (value_types b.1.formals) vs xs
arguments_of e f h = rw (← e, ← f) h

reply_of : {signatures : List Signature} {c d : ObjectCall} {ws vs : List Word} {r : Reply} → c ≡ d → ws ≡ vs → IsReply signatures c.export ws r → IsReply signatures d.export vs r
reply_of e f h = rw (← e, ← f) h

abbrev pub begin_event : CallId → ℕ → List Scalar → Event ObjectCall Reply
begin_event i export arguments = Begin i (record { export = export; arguments = arguments })

same_begin : (i j : CallId) (m n : ℕ) (xs ys : List Scalar) → i ≡ j → m ≡ n → xs ≡ ys → begin_event i m xs ≡ begin_event j n ys
same_begin i j m n xs ys a b c = rw (a, b, c) refl

module _ (processes : ℕ) (signatures : List Signature) (before : List (Event ObjectCall Reply)) where
  one_begun : {line : Line} {a b : Event ObjectCall Reply} → Begun processes signatures line a → Begun processes signatures line b → a ≡ b
  one_begun x y =
      let lines = sym x.line_is ∙ y.line_is in
      let words : x.word ≡ y.word = ap (λ ws. first_word (other_words ws)) lines in
      let names : x.name ≡ y.name = ap (λ ws. first_word (other_words (other_words ws))) lines in
      let rests : x.rest ≡ y.rest = ap (λ ws. other_words (other_words (other_words ws))) lines in
      let same : x.of ≡ y.of = same_Some x.of y.of (sym x.found ∙ ap (export_named signatures) names ∙ y.found) in
      x.event_is
      ∙ same_begin x.id y.id x.of.0 y.of.0 x.arguments y.arguments (one_id (id_of words x.names) y.names) (ap (λ (n : Numbered). n.0) same) (one_list _ _ _ _ (arguments_of same rests x.fit) y.fit)
      ∙ sym y.event_is

  one_ended : {line : Line} {a b : Event ObjectCall Reply} → Ended processes signatures before line a → Ended processes signatures before line b → a ≡ b
  one_ended x y =
      let lines = sym x.line_is ∙ y.line_is in
      let words : x.word ≡ y.word = ap (λ ws. first_word (other_words ws)) lines in
      let rests : x.rest ≡ y.rest = ap (λ ws. other_words (other_words ws)) lines in
      let ids : x.id ≡ y.id = one_id (id_of words x.names) y.names in
      let calls : x.call ≡ y.call = same_Some x.call y.call (sym x.begun ∙ ap (λ (i : CallId). slice_get (own_calls i.process before) (i.number - 1)) ids ∙ y.begun) in
      x.event_is ∙ ap₂ (λ (i : CallId) (r : Reply). End i r) ids (one_reply (reply_of calls rests x.replies) y.replies) ∙ sym y.event_is

  pub one_event : {line : Line} {a b : Event ObjectCall Reply} → IsEvent processes signatures before line a → IsEvent processes signatures before line b → a ≡ b
  one_event h k =
      elim (event_parts h) [
        | inl x ↦ elim (event_parts k) [
          | inl y ↦ one_begun x y
          | inr y ↦ absurd (let e = ap first_byte (sym x.line_is ∙ y.line_is) in omega (arith, e))
        ]
        | inr x ↦ elim (event_parts k) [
          | inl y ↦ absurd (let e = ap first_byte (sym x.line_is ∙ y.line_is) in omega (arith, e))
          | inr y ↦ one_ended x y
        ]
      ]

  pub applied_byte : {line : Line} → IsApplied processes line → first_byte line ≡ 65
  applied_byte (Lines.applied h) = refl

  pub order_byte : {line : Line} {ids : List CallId} → IsOrder processes line ids → first_byte line ≡ 79
  order_byte (Lines.order h) = refl

  pub event_not_applied : {line : Line} {e : Event ObjectCall Reply} → IsEvent processes signatures before line e → IsApplied processes line → ⊥
  event_not_applied h k =
      let a = applied_byte k in
      elim (event_parts h) [
        | inl x ↦ let e = ap first_byte x.line_is in absurd (omega (arith, e, a))
        | inr x ↦ let e = ap first_byte x.line_is in absurd (omega (arith, e, a))
      ]

  pub event_not_order : {line : Line} {e : Event ObjectCall Reply} {ids : List CallId} → IsEvent processes signatures before line e → IsOrder processes line ids → ⊥
  event_not_order h k =
      let a = order_byte k in
      elim (event_parts h) [
        | inl x ↦ let e = ap first_byte x.line_is in absurd (omega (arith, e, a))
        | inr x ↦ let e = ap first_byte x.line_is in absurd (omega (arith, e, a))
      ]

  pub applied_not_order : {line : Line} {ids : List CallId} → IsApplied processes line → IsOrder processes line ids → ⊥
  applied_not_order h k = let a = applied_byte h in let b = order_byte k in absurd (omega (arith, a, b))

pub one_order : (processes : ℕ) {line : Line} {a b : List CallId} → IsOrder processes line a → IsOrder processes line b → a ≡ b
one_order processes (Lines.order h) (Lines.order k) = one_ids processes h k

-- what is known of lines of events by their first words
record BeginsAs (processes : ℕ) (signatures : List Signature) (word name : Word) (rest : List Word) (e : Event ObjectCall Reply) : Type 0 where
  id : CallId
  of : Numbered
  arguments : List Scalar
  names : IsId processes word id
  found : export_named signatures name ≡ Some of
  fit : AreValues (value_types of.1.formals) rest arguments
  event_is : e ≡ begin_event id of.0 arguments

record EndsAs (processes : ℕ) (signatures : List Signature) (before : List (Event ObjectCall Reply)) (word : Word) (rest : List Word) (e : Event ObjectCall Reply) : Type 0 where
  id : CallId
  call : ObjectCall
  reply : Reply
  names : IsId processes word id
  begun : slice_get (own_calls id.process before) (id.number - 1) ≡ Some call
  replies : IsReply signatures call.export rest reply
  event_is : e ≡ End id reply

values_of : (s : Signature) {ws vs : List Word} {xs : List Scalar} → ws ≡ vs → AreValues (value_types s.formals) ws xs → AreValues (value_types s.formals) vs xs
values_of s e h = rw (← e) h

module _ (processes : ℕ) (signatures : List Signature) (before : List (Event ObjectCall Reply)) where
  begins_as : (word name : Word) (rest : List Word) {e : Event ObjectCall Reply} → IsEvent processes signatures before (codes "B" ∷ word ∷ name ∷ rest) e → BeginsAs processes signatures word name rest e
  begins_as word name rest h =
      elim (event_parts h) [
        | inl x ↦
            let words : x.word ≡ word = ap (λ ws. first_word (other_words ws)) (sym x.line_is) in
            let names : x.name ≡ name = ap (λ ws. first_word (other_words (other_words ws))) (sym x.line_is) in
            let rests : x.rest ≡ rest = ap (λ ws. other_words (other_words (other_words ws))) (sym x.line_is) in
            record {
              id = x.id;
              of = x.of;
              arguments = x.arguments;
              names = id_of words x.names;
              found = ap (export_named signatures) (sym names) ∙ x.found;
              fit = values_of x.of.1 rests x.fit;
              event_is = x.event_is;
            }
        | inr y ↦ absurd (let e = ap first_byte y.line_is in omega (arith, e))
      ]

  ends_as : (word : Word) (rest : List Word) {e : Event ObjectCall Reply} → IsEvent processes signatures before (codes "E" ∷ word ∷ rest) e → EndsAs processes signatures before word rest e
  ends_as word rest h =
      elim (event_parts h) [
        | inl x ↦ absurd (let e = ap first_byte x.line_is in omega (arith, e))
        | inr y ↦
            let words : y.word ≡ word = ap (λ ws. first_word (other_words ws)) (sym y.line_is) in
            let rests : y.rest ≡ rest = ap (λ ws. other_words (other_words ws)) (sym y.line_is) in
            record {
              id = y.id;
              call = y.call;
              reply = y.reply;
              names = id_of words y.names;
              begun = y.begun;
              replies = subst (λ (vs : List Word). IsReply signatures y.call.export vs y.reply) rests y.replies;
              event_is = y.event_is;
            }
      ]

  -- why a line that begins with B or E is none
  pub no_begin : (word name : Word) (rest : List Word) (e : Event ObjectCall Reply) (i : CallId) → IsId processes word i →
      ((call : ObjectCall) → IsHistory (before ++ Begin i call ∷ []) → ⊥) → IsNextEvent processes signatures before (codes "B" ∷ word ∷ name ∷ rest) e → ⊥
  no_begin word name rest e i k never n =
      let x = begins_as word name rest n.form in
      let is : e ≡ begin_event i x.of.0 x.arguments = x.event_is ∙ ap (λ (j : CallId). begin_event j x.of.0 x.arguments) (one_id x.names k) in
      never (record { export = x.of.0; arguments = x.arguments }) (subst (λ (f : Event ObjectCall Reply). IsHistory (before ++ f ∷ [])) is n.place)

  pub no_name : (word : Word) (e : Event ObjectCall Reply) → IsNextEvent processes signatures before (codes "B" ∷ word ∷ []) e → ⊥
  no_name word e n =
      elim (event_parts n.form) [
        | inl x ↦ absurd (let e = ap length x.line_is in omega (arith, e))
        | inr y ↦ absurd (let e = ap first_byte y.line_is in omega (arith, e))
      ]

  pub no_arguments : (word name : Word) (rest : List Word) (e : Event ObjectCall Reply) (of : Numbered) → export_named signatures name ≡ Some of →
      ((arguments : List Scalar) → AreValues (value_types of.1.formals) rest arguments → ⊥) → IsNextEvent processes signatures before (codes "B" ∷ word ∷ name ∷ rest) e → ⊥
  no_arguments word name rest e of found misfit n =
      let x = begins_as word name rest n.form in
      let same : x.of ≡ of = same_Some x.of of (sym x.found ∙ found) in
      misfit x.arguments (subst (λ (o : Numbered). AreValues (value_types o.1.formals) rest x.arguments) same x.fit)

  pub no_end : (word : Word) (rest : List Word) (e : Event ObjectCall Reply) (i : CallId) → IsId processes word i →
      ((reply : Reply) → IsHistory (before ++ End i reply ∷ []) → ⊥) → IsNextEvent processes signatures before (codes "E" ∷ word ∷ rest) e → ⊥
  no_end word rest e i k never n =
      let y = ends_as word rest n.form in
      let is : e ≡ End i y.reply = y.event_is ∙ ap (λ (j : CallId). End j y.reply) (one_id y.names k) in
      never y.reply (subst (λ (f : Event ObjectCall Reply). IsHistory (before ++ f ∷ [])) is n.place)

  pub no_reply : (word : Word) (rest : List Word) (e : Event ObjectCall Reply) (i : CallId) (export : ℕ) → IsId processes word i → EndsCall before i export →
      ((reply : Reply) → IsReply signatures export rest reply → ⊥) → IsNextEvent processes signatures before (codes "E" ∷ word ∷ rest) e → ⊥
  no_reply word rest e i export k ends misfit n =
      let y = ends_as word rest n.form in
      let same : y.call ≡ ends.call = same_Some y.call ends.call (sym y.begun ∙ ap (λ (j : CallId). slice_get (own_calls j.process before) (j.number - 1)) (one_id y.names k) ∙ ends.begun) in
      misfit y.reply (subst (λ (m : ℕ). IsReply signatures m rest y.reply) (ap (λ (c : ObjectCall). c.export) same ∙ ends.of_export) y.replies)

  pub ended : (word : Word) (rest : List Word) (i : CallId) (export : ℕ) (reply : Reply) → IsId processes word i → EndsCall before i export → IsReply signatures export rest reply →
      IsNextEvent processes signatures before (codes "E" ∷ word ∷ rest) (End i reply)
  ended word rest i export reply k ends replies =
      record { form = Lines.end k ends.begun (subst (λ (m : ℕ). IsReply signatures m rest reply) (sym ends.of_export) replies); place = ends.next reply }

  -- lines of other first words
  pub nothing_applied : (ws : List Word) → ((ids : List CallId) → AreIds processes ws ids → ⊥) → SaysNothing processes signatures before (codes "A" ∷ ws)
  nothing_applied ws misfit =
      record {
        event = λ e n. elim (event_parts n.form) [
          | inl x ↦ absurd (let e = ap first_byte x.line_is in omega (arith, e))
          | inr x ↦ absurd (let e = ap first_byte x.line_is in omega (arith, e))
        ];
        applied = λ h. let p = applied_words h in misfit p.0 p.1;
        order = λ ids h. absurd (let e = order_byte processes signatures before h in omega (arith, e));
      }
    where
      applied_words : {ws : List Word} → IsApplied processes (codes "A" ∷ ws) → (ids : List CallId) × AreIds processes ws ids
      applied_words (Lines.applied {ids = ids} h) = (ids, h)

  pub nothing_ordered : (ws : List Word) → ((ids : List CallId) → AreIds processes ws ids → ⊥) → SaysNothing processes signatures before (codes "O" ∷ ws)
  nothing_ordered ws misfit =
      record {
        event = λ e n. elim (event_parts n.form) [
          | inl x ↦ absurd (let e = ap first_byte x.line_is in omega (arith, e))
          | inr x ↦ absurd (let e = ap first_byte x.line_is in omega (arith, e))
        ];
        applied = λ h. absurd (let e = applied_byte processes signatures before h in omega (arith, e));
        order = λ ids h. misfit ids (order_words h);
      }
    where
      order_words : {ws : List Word} {ids : List CallId} → IsOrder processes (codes "O" ∷ ws) ids → AreIds processes ws ids
      order_words (Lines.order h) = h

  pub applied_read : {E : Type 0} (ws : List Word) (r : Result (Option Rust.Line) E) →
      IfOk r (λ read. MatchOption read ((ids : List CallId) → AreIds processes ws ids → ⊥) (IsAppliedRead processes ws)) →
      IfOk r (λ read. MatchOption read (SaysNothing processes signatures before (codes "A" ∷ ws)) (HasSaid processes signatures before (codes "A" ∷ ws)))
  applied_read ws (Err e) h = tt
  applied_read ws (Ok None) h = nothing_applied ws h
  applied_read ws (Ok (Some Says.Applied)) h = Lines.applied h.1
  applied_read ws (Ok (Some (Says.Begin id call))) h = absurd h
  applied_read ws (Ok (Some (Says.End id reply))) h = absurd h
  applied_read ws (Ok (Some (Says.Order ids))) h = absurd h

  pub order_read : {E : Type 0} (ws : List Word) (r : Result (Option Rust.Line) E) →
      IfOk r (λ read. MatchOption read ((ids : List CallId) → AreIds processes ws ids → ⊥) (IsOrderRead processes ws)) →
      IfOk r (λ read. MatchOption read (SaysNothing processes signatures before (codes "O" ∷ ws)) (HasSaid processes signatures before (codes "O" ∷ ws)))
  order_read ws (Err e) h = tt
  order_read ws (Ok None) h = nothing_ordered ws h
  order_read ws (Ok (Some (Says.Order ids))) h = Lines.order h
  order_read ws (Ok (Some (Says.Begin id call))) h = absurd h
  order_read ws (Ok (Some (Says.End id reply))) h = absurd h
  order_read ws (Ok (Some Says.Applied)) h = absurd h

-- why words are no reply
module _ (signatures : List Signature) (export : ℕ) where
  pub no_done : (ws : List Word) (reply : Reply) (signature : Signature) → slice_get signatures export ≡ Some signature →
      ((values : List Scalar) → AreValues (var_types signature.formals) ws values → ⊥) → IsReply signatures export (codes "done" ∷ ws) reply → ⊥
  no_done ws reply signature of misfit h =
      elim (reply_parts h) [
        | inl x ↦
            let rests : x.rest ≡ ws = ap other_words (sym x.words_are) in
            let same : x.signature ≡ signature = same_Some x.signature signature (sym x.of ∙ of) in
            misfit x.values (fit_of same rests x.fit)
        | inr x ↦ absurd (let e = ap first_byte x.words_are in omega (arith, e))
      ]

  pub no_trap : (ws : List Word) (reply : Reply) → ((word : Word) (k : ℕ) → ws ≡ word ∷ [] → IsNumeral word k → 1 ≤ k → k ≤ no_turn_left → ⊥) → IsReply signatures export (codes "trap" ∷ ws) reply → ⊥
  no_trap ws reply misfit h =
      elim (reply_parts h) [
        | inl x ↦ absurd (let e = ap first_byte x.words_are in omega (arith, e))
        | inr x ↦ misfit x.word x.k (ap other_words x.words_are) x.number x.low x.high
      ]

  pub trap_read : (ws : List Word) (r : Option Replied.Reply) →
      MatchOption r ((word : Word) (k : ℕ) → ws ≡ word ∷ [] → IsNumeral word k → 1 ≤ k → k ≤ no_turn_left → ⊥)
      (λ reply. (word : Word) × (k : ℕ) × (ws ≡ word ∷ []) × IsNumeral word k × (1 ≤ k) × (k ≤ no_turn_left) × (View.reply_of reply ≡ Trapped k)) →
      MatchOption r ((reply : Reply) → IsReply signatures export (codes "trap" ∷ ws) reply → ⊥) (λ reply. IsReply signatures export (codes "trap" ∷ ws) (View.reply_of reply))
  trap_read ws None h = λ reply k. no_trap ws reply h k
  trap_read ws (Some reply) h =
      subst (λ (r : Reply). IsReply signatures export (codes "trap" ∷ ws) r) (sym h.6)
      (subst (λ (vs : List Word). IsReply signatures export (codes "trap" ∷ vs) (Trapped h.1)) (sym h.2) (Lines.trap h.3 h.4 h.5))
