-- Why a line of an event is none that may stand there.
use Rattle.std.proofs.Common.{◌≡◌, ◌∙◌, List, [], ◌∷◌, ◌++◌, codes, inl, inr, sym, ap, subst, arith}
use Rattle.ob_interface.specs.Call.{ObjectCall, Reply}
use Rattle.ob_interface.specs.Export.{Signature}
use Rattle.ob_text_reading.specs.HistoryLines.{HasFewProcesses, IsNamedEvent, process_numbers}
use Rattle.ob_text_reading.specs.Names.{MayCome}
use Rattle.ob_text_values_reading.proofs.Ids.{one_id}
use Rattle.ob_text_reading.proofs.OneEvent.{event_parts, first_byte, first_word, other_words}
use Rattle.ob_text_reading.specs.RecordLines.{IsId}
use Rattle.ob_text_words.specs.Words.{Word}
use Rattle.wf_history.specs.declared.event.CallId.{CallId}
use Rattle.wf_history.specs.History.{Event, Begin, IsHistory}

module _ (signatures : List Signature) (before : List (Event ObjectCall Reply)) where
  pub no_begin : (word name : Word) (rest : List Word) (e : Event ObjectCall Reply) (i : CallId) → IsId process_numbers word i →
      ((call : ObjectCall) → MayCome before (Begin i call) → ⊥) → IsNamedEvent signatures before (codes "B" ∷ word ∷ name ∷ rest) e → ⊥
  no_begin word name rest e i k never n =
      elim (event_parts n.next.form) [
        | inl x ↦
            let same_word : x.word ≡ word = ap (λ ws. first_word (other_words ws)) (sym x.line_is) in
            let same : x.id ≡ i = one_id (subst (λ (w : Word). IsId process_numbers w x.id) same_word x.names) k in
            let call : ObjectCall = record { export = x.of.0; arguments = x.arguments } in
            let is : e ≡ Begin i call = x.event_is ∙ ap (λ (j : CallId). Begin j call) same in
            never call (record {
              turn = subst (λ (f : Event ObjectCall Reply). IsHistory (before ++ f ∷ [])) is n.next.place;
              few = subst (λ (f : Event ObjectCall Reply). HasFewProcesses (before ++ f ∷ [])) is n.few;
            })
        | inr y ↦ absurd (let e = ap first_byte y.line_is in omega (arith, e))
      ]

  -- a line without its first word B or E
  pub other_word : (word : Word) (rest : List Word) (e : Event ObjectCall Reply) → (word ≡ codes "B" → ⊥) → (word ≡ codes "E" → ⊥) → IsNamedEvent signatures before (word ∷ rest) e → ⊥
  other_word word rest e b d n =
      elim (event_parts n.next.form) [ inl x ↦ b (ap first_word x.line_is) | inr y ↦ d (ap first_word y.line_is) ]

  pub no_words : (e : Event ObjectCall Reply) → IsNamedEvent signatures before [] e → ⊥
  no_words e n =
      elim (event_parts n.next.form) [
        | inl x ↦ absurd (let e = ap first_byte x.line_is in omega (arith, e))
        | inr y ↦ absurd (let e = ap first_byte y.line_is in omega (arith, e))
      ]
