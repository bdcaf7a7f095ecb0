-- What lines say of processes by small numbers, told by their names.
use Rattle.std.proofs.Common.{◌≡◌, ◌∙◌, ℕ, List, ◌∷◌, Some, None, Option, Bor, Result, Ok, Err, IfOk, OnErr, codes, slice_get, sym, ap, subst}
use Rattle.ob_interface.specs.Export.{Signature}
use Rattle.ob_text_reading.specs.LineReading.{TakesBegin, TakesEnd, TakesOrLeaves}
use Rattle.ob_text_reading.specs.Names.{AreNamed, Naming, events_of, known, named_all}
use Rattle.ob_text_reading.specs.Reading as Reading
use Rattle.ob_text_reading.specs.Reading.{GoesOn}
use Rattle.ob_text_reading.specs.RecordLines as Records
use Rattle.ob_text_reading.proofs.Growing.{as_before, events_end, events_more, may_begin, may_end, named_end, named_more}
use Rattle.ob_text_reading.proofs.Naming.{Events}
use Rattle.ob_text_reading.proofs.OneEvent.{ended}
use Rattle.ob_text_reading.proofs.WrittenLines.{TakesNamed}
use Rattle.ob_text_reading.specs.HistoryLines.{process_numbers}
use Rattle.wf_history.specs.declared.event.CallId.{CallId}

-- a process of this number has this name
module _ (n : Naming) (a : AreNamed n) (signatures : List Signature) (i : CallId) (place : ℕ) (at : slice_get n.names place ≡ Some i.process) (text : List ℕ) (after : Events) where
  abbrev placed : CallId
  placed = record { process = place; number = i.number }

  abbrev AreStill : Type 0
  AreStill = AreNamed (record { names = n.names; numbered = after })

  unchanged : after ≡ n.numbered → AreStill
  unchanged same = subst (λ (es : Events). AreNamed (record { names = n.names; numbered = es })) (sym same) a

  -- ---- a call that begins

  begin_still : {rest : List ℕ} → TakesBegin signatures n.numbered placed text after rest → AreStill
  begin_still t =
      subst (λ (es : Events). AreNamed (record { names = n.names; numbered = es })) (sym t.leads)
      (named_more n a i.process place i.number n.names (as_before at) a.few t.call t.turn)

  begin_named : {rest : List ℕ} → TakesBegin signatures n.numbered placed text after rest →
      TakesNamed (codes "B") signatures (events_of n) i text (named_all n.names after) rest
  begin_named t =
      let may = may_begin n a i.process place i.number (known at) t.call t.turn in
      let is = ap (named_all n.names) t.leads ∙ events_more n a i.process place i.number n.names (as_before at) a.few t.call in
      record {
        line = t.name ∷ t.line;
        parts = t.parts;
        leads = λ word names.
            subst (λ (es : Events). GoesOn signatures (events_of n) (codes "B" ∷ word ∷ t.name ∷ t.line) es) (sym is)
            (Reading.event (record { next = record { form = Records.begin names t.named t.says; place = may.turn }; few = may.few }));
      }

  pub begin_keeps : {E : Type 0} (r : Result (Option (Bor (List ℕ))) E) → IfOk r (TakesOrLeaves n.numbered after (TakesBegin signatures n.numbered placed text)) →
      OnErr r (after ≡ n.numbered) → AreStill
  begin_keeps (Err e) k same = unchanged same
  begin_keeps (Ok None) k same = unchanged k
  begin_keeps (Ok (Some rest)) k same = begin_still k

  pub begin_taken : {E : Type 0} (r : Result (Option (Bor (List ℕ))) E) → IfOk r (TakesOrLeaves n.numbered after (TakesBegin signatures n.numbered placed text)) →
      IfOk r (TakesOrLeaves (events_of n) (named_all n.names after) (TakesNamed (codes "B") signatures (events_of n) i text))
  begin_taken (Err e) k = tt
  begin_taken (Ok None) k = ap (named_all n.names) k
  begin_taken (Ok (Some rest)) k = begin_named k

  -- ---- a call that ends

  end_still : {rest : List ℕ} → TakesEnd signatures n.numbered placed text after rest → AreStill
  end_still t =
      subst (λ (es : Events). AreNamed (record { names = n.names; numbered = es })) (sym t.leads)
      (named_end n a i.process place i.number at t.reply (t.ends.next t.reply))

  end_named : {rest : List ℕ} → TakesEnd signatures n.numbered placed text after rest →
      TakesNamed (codes "E") signatures (events_of n) i text (named_all n.names after) rest
  end_named t =
      let may = may_end n a i.process place i.number at t.export t.ends in
      let is = ap (named_all n.names) t.leads ∙ events_end n a i.process place i.number at t.reply in
      record {
        line = t.line;
        parts = t.parts;
        leads = λ word names.
            subst (λ (es : Events). GoesOn signatures (events_of n) (codes "E" ∷ word ∷ t.line) es) (sym is)
            (Reading.event (record { next = ended process_numbers signatures (events_of n) word t.line i t.export t.reply names may.ends t.says; few = may.few t.reply }));
      }

  pub end_keeps : {E : Type 0} (r : Result (Option (Bor (List ℕ))) E) → IfOk r (TakesOrLeaves n.numbered after (TakesEnd signatures n.numbered placed text)) →
      OnErr r (after ≡ n.numbered) → AreStill
  end_keeps (Err e) k same = unchanged same
  end_keeps (Ok None) k same = unchanged k
  end_keeps (Ok (Some rest)) k same = end_still k

  pub end_taken : {E : Type 0} (r : Result (Option (Bor (List ℕ))) E) → IfOk r (TakesOrLeaves n.numbered after (TakesEnd signatures n.numbered placed text)) →
      IfOk r (TakesOrLeaves (events_of n) (named_all n.names after) (TakesNamed (codes "E") signatures (events_of n) i text))
  end_taken (Err e) k = tt
  end_taken (Ok None) k = ap (named_all n.names) k
  end_taken (Ok (Some rest)) k = end_named k
