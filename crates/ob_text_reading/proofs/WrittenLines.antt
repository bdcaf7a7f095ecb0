-- Lines as runs write them, taken up.
use Rattle.std.proofs.Common.{◌≡◌, ◌∙◌, ℕ, false, List, [], ◌∷◌, map, codes, refl, sym, subst, Bor, Result, Ok, Err, IfOk, IfSome, Option, Some, None}
use Rattle.ob_interface.specs.Call.{ObjectCall, Reply}
use Rattle.ob_interface.specs.Export.{Signature}
use Rattle.ob_text_reading.specs.HistoryLines.{process_numbers}
use Rattle.ob_text_reading.specs.LineReading as Lines
use Rattle.ob_text_reading.specs.LineReading.{LeadsOn, TakesBegin, TakesEnd, TakesLine, TakesOrLeaves}
use Rattle.ob_text_reading.specs.Reading.{GoesOn}
use Rattle.ob_text_reading.specs.RecordLines as Records
use Rattle.ob_text_reading.specs.RecordLines.{IsApplied, IsId, Line}
use Rattle.ob_text_reading.proofs.OneEvent.{ended}
use Rattle.ob_text_values_reading.specs.CallNames as Names
use Rattle.ob_text_values_reading.specs.LineBeginnings.{BeginsLine, TakesIds, ends_word}
use Rattle.ob_text_values_reading.proofs.WrittenWords.{blank_said, feed_said, line_said}
use Rattle.ob_text_words.specs.Words.{Word, lines, words}
use Rattle.wf_history.specs.declared.event.CallId.{CallId}
use Rattle.wf_history.specs.History.{Event}

-- behind a letter and the name of a call, the first line of a text leads to those events, and this stands behind it
pub record TakesNamed (letter : Word) (signatures : List Signature) (before : List (Event ObjectCall Reply)) (i : CallId) (text : List ℕ)
    (after : List (Event ObjectCall Reply)) (rest : List ℕ) : Type 0 where
  pub line : Line
  pub parts : map words (lines text) ≡ line ∷ map words (lines rest)
  pub leads : (word : Word) → IsId process_numbers word i → GoesOn signatures before (letter ∷ word ∷ line) after

-- a line of applied calls, where such a line leads nowhere else
module _ {X : Type 0} (processes : ℕ) (Leads : Line → X → Type 0) (before : X) (stays : (line : Line) → IsApplied processes line → Leads line before) (text : List ℕ) (i : CallId) where
  -- of one call
  pub applied_taken : (rest : List ℕ) → BeginsLine processes text 65 i (10 ∷ rest) → TakesLine Leads text before rest
  applied_taken rest h =
      record {
        line = codes "A" ∷ h.named.word ∷ [];
        parts = line_said processes text 65 i 10 rest refl refl h [] (map words (lines rest)) (feed_said 10 rest refl);
        leads = stays (codes "A" ∷ h.named.word ∷ []) (Records.applied (Names.more h.named.names Names.none));
      }

  -- of several
  pub more_applied : (tail : List ℕ) (r : Option (Bor (List ℕ))) → BeginsLine processes text 65 i (32 ∷ tail) →
      IfSome r (λ rest. TakesIds processes tail rest.now) → TakesOrLeaves before before (TakesLine Leads text) r
  more_applied tail None h k = refl
  more_applied tail (Some rest) h k =
      record {
        line = codes "A" ∷ h.named.word ∷ k.line;
        parts = line_said processes text 65 i 32 tail refl refl h k.line (map words (lines rest.now)) (blank_said 32 tail refl ∙ k.parts);
        leads = stays (codes "A" ∷ h.named.word ∷ k.line) (Records.applied (Names.more h.named.names k.names));
      }

-- a line of a letter, the name of a call, and what is taken up behind it
named_line : {X : Type 0} (processes : ℕ) (Leads : Line → X → Type 0) (after : X) (text : List ℕ) (letter : ℕ) (i : CallId) (tail : List ℕ) (line : Line) (rest : List ℕ) →
    ends_word letter ≡ false → BeginsLine processes text letter i (32 ∷ tail) → map words (lines tail) ≡ line ∷ map words (lines rest) →
    ((word : Word) → IsId processes word i → Leads ((letter ∷ []) ∷ word ∷ line) after) → TakesLine Leads text after rest
named_line processes Leads after text letter i tail line rest whole h parts leads =
    record {
      line = (letter ∷ []) ∷ h.named.word ∷ line;
      parts = line_said processes text letter i 32 tail whole refl h line (map words (lines rest)) (blank_said 32 tail refl ∙ parts);
      leads = leads h.named.word h.named.names;
    }

-- of a record
module _ (processes : ℕ) (signatures : List Signature) (before : List (Event ObjectCall Reply)) (text : List ℕ) (i : CallId) (tail : List ℕ) (after : List (Event ObjectCall Reply)) where
  begin_led : {rest : List ℕ} (t : TakesBegin signatures before i tail after rest) (word : Word) → IsId processes word i →
      LeadsOn processes signatures before (codes "B" ∷ word ∷ t.name ∷ t.line) after
  begin_led t word names =
      subst (λ (es : List (Event ObjectCall Reply)). LeadsOn processes signatures before (codes "B" ∷ word ∷ t.name ∷ t.line) es) (sym t.leads)
      (Lines.event (record { form = Records.begin names t.named t.says; place = t.turn }))

  end_led : {rest : List ℕ} (t : TakesEnd signatures before i tail after rest) (word : Word) → IsId processes word i →
      LeadsOn processes signatures before (codes "E" ∷ word ∷ t.line) after
  end_led t word names =
      subst (λ (es : List (Event ObjectCall Reply)). LeadsOn processes signatures before (codes "E" ∷ word ∷ t.line) es) (sym t.leads)
      (Lines.event (ended processes signatures before word t.line i t.export t.reply names t.ends t.says))

  pub begin_taken : {E : Type 0} (r : Result (Option (Bor (List ℕ))) E) → BeginsLine processes text 66 i (32 ∷ tail) →
      IfOk r (TakesOrLeaves before after (TakesBegin signatures before i tail)) →
      IfOk r (TakesOrLeaves before after (TakesLine (LeadsOn processes signatures before) text))
  begin_taken (Err e) h k = tt
  begin_taken (Ok None) h k = k
  begin_taken (Ok (Some rest)) h k =
      named_line processes (LeadsOn processes signatures before) after text 66 i tail (k.name ∷ k.line) rest.now refl h k.parts (begin_led k)

  pub end_taken : {E : Type 0} (r : Result (Option (Bor (List ℕ))) E) → BeginsLine processes text 69 i (32 ∷ tail) →
      IfOk r (TakesOrLeaves before after (TakesEnd signatures before i tail)) →
      IfOk r (TakesOrLeaves before after (TakesLine (LeadsOn processes signatures before) text))
  end_taken (Err e) h k = tt
  end_taken (Ok None) h k = k
  end_taken (Ok (Some rest)) h k =
      named_line processes (LeadsOn processes signatures before) after text 69 i tail k.line rest.now refl h k.parts (end_led k)

-- of a history
module _ (signatures : List Signature) (before : List (Event ObjectCall Reply)) (text : List ℕ) (i : CallId) (tail : List ℕ) (after : List (Event ObjectCall Reply)) where
  pub named_taken : (letter : ℕ) {E : Type 0} (r : Result (Option (Bor (List ℕ))) E) → ends_word letter ≡ false → BeginsLine process_numbers text letter i (32 ∷ tail) →
      IfOk r (TakesOrLeaves before after (TakesNamed (letter ∷ []) signatures before i tail)) →
      IfOk r (TakesOrLeaves before after (TakesLine (GoesOn signatures before) text))
  named_taken letter (Err e) whole h k = tt
  named_taken letter (Ok None) whole h k = k
  named_taken letter (Ok (Some rest)) whole h k =
      named_line process_numbers (GoesOn signatures before) after text letter i tail k.line rest.now whole h k.parts k.leads
