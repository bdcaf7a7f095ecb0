-- Lines of events one after the other: what they lead to, and what the lines behind them are.
use Rattle.std.proofs.Common.{◌≡◌, ℕ, List, [], ◌∷◌, ◌++◌, All, codes, refl, sym, ap, subst, arith, append_assoc, append-nil}
use Rattle.ob_interface.specs.Call.{ObjectCall, Reply}
use Rattle.ob_interface.specs.Export.{Signature}
use Rattle.ob_text_reading.specs.RecordLines as Lines
use Rattle.ob_text_reading.specs.RecordLines.{AreLines, IsApplied, IsNextEvent, IsOrder, IsTail, Line}
use Rattle.ob_text_reading.specs.LineReading.{BeginsLines, SaysNothing}
use Rattle.ob_text_values_reading.proofs.Tails.{no_tails}
use Rattle.ob_text_reading.proofs.OneEvent.{applied_not_order, event_not_applied, event_not_order, one_event, one_order}
use Rattle.wf_history.specs.declared.event.CallId.{CallId}
use Rattle.wf_history.specs.History.{Event}

module _ (processes : ℕ) (signatures : List Signature) where
  -- behind these events, lines of events that lead to those
  pub data AreEvents : List (Event ObjectCall Reply) → List Line → List (Event ObjectCall Reply) → Type 0 where
    nothing : {before : List (Event ObjectCall Reply)} → AreEvents before [] before
    event : {before after : List (Event ObjectCall Reply)} {line : Line} {rest : List Line} {e : Event ObjectCall Reply} →
        IsNextEvent processes signatures before line e → AreEvents (before ++ e ∷ []) rest after → AreEvents before (line ∷ rest) after
    applied : {before after : List (Event ObjectCall Reply)} {line : Line} {rest : List Line} →
        IsApplied processes line → AreEvents before rest after → AreEvents before (line ∷ rest) after

  pub joined : {a b c : List (Event ObjectCall Reply)} {xs ys : List Line} → AreEvents a xs b → AreEvents b ys c → AreEvents a (xs ++ ys) c
  joined nothing h = h
  joined (event n rest) h = event n (joined rest h)
  joined (applied n rest) h = applied n (joined rest h)

  pub whole : {a b all : List (Event ObjectCall Reply)} {xs ys : List Line} {ids : List CallId} → AreEvents a xs b → AreLines processes signatures b ys all ids → AreLines processes signatures a (xs ++ ys) all ids
  whole nothing h = h
  whole (event n rest) h = Lines.event n (whole rest h)
  whole (applied n rest) h = Lines.applied n (whole rest h)

  events_of : {a b : List (Event ObjectCall Reply)} {ls : List Line} {all : List (Event ObjectCall Reply)} {ids : List CallId} → a ≡ b → AreLines processes signatures a ls all ids → AreLines processes signatures b ls all ids
  events_of e h = rw (← e) h

  same_push : (a : List (Event ObjectCall Reply)) {e f : Event ObjectCall Reply} → e ≡ f → a ++ e ∷ [] ≡ a ++ f ∷ []
  same_push a is = ap (λ (e : Event ObjectCall Reply). a ++ e ∷ []) is

  -- the lines behind those of events
  pub behind : {a b all : List (Event ObjectCall Reply)} {xs ys : List Line} {ids : List CallId} → AreEvents a xs b → AreLines processes signatures a (xs ++ ys) all ids → AreLines processes signatures b ys all ids
  behind nothing h = h
  behind {a} (event n rest) (Lines.event m h) = behind rest (events_of (same_push a (one_event processes signatures a m.form n.form)) h)
  behind {a} (event n rest) (Lines.applied m h) = absurd (event_not_applied processes signatures a n.form m)
  behind {a} (event n rest) (Lines.order m h) = absurd (event_not_order processes signatures a n.form m)
  behind {a} (applied n rest) (Lines.event m h) = absurd (event_not_applied processes signatures a m.form n)
  behind (applied n rest) (Lines.applied m h) = behind rest h
  behind {a} (applied n rest) (Lines.order m h) = absurd (applied_not_order processes signatures a n m)

  -- lines tell one list of events and one order at most
  pub one_told : {a all all' : List (Event ObjectCall Reply)} {ls : List Line} {ids ids' : List CallId} → AreLines processes signatures a ls all ids → AreLines processes signatures a ls all' ids' → (all ≡ all') × (ids ≡ ids')
  one_told {a} (Lines.event n h) (Lines.event m k) = one_told h (events_of (same_push a (one_event processes signatures a m.form n.form)) k)
  one_told {a} (Lines.event n h) (Lines.applied m k) = absurd (event_not_applied processes signatures a n.form m)
  one_told {a} (Lines.event n h) (Lines.order m k) = absurd (event_not_order processes signatures a n.form m)
  one_told {a} (Lines.applied n h) (Lines.event m k) = absurd (event_not_applied processes signatures a m.form n)
  one_told (Lines.applied n h) (Lines.applied m k) = one_told h k
  one_told {a} (Lines.applied n h) (Lines.order m k) = absurd (applied_not_order processes signatures a n m)
  one_told {a} (Lines.order n h) (Lines.event m k) = absurd (event_not_order processes signatures a m.form n)
  one_told {a} (Lines.order n h) (Lines.applied m k) = absurd (applied_not_order processes signatures a m n)
  one_told (Lines.order n h) (Lines.order m k) = (refl, one_order processes n m)

  pub begins : {ls : List Line} {b : List (Event ObjectCall Reply)} → AreEvents [] ls b → BeginsLines processes signatures ls
  begins {ls} {b} h = record { rest = (codes "O" ∷ []) ∷ []; all = b; ids = []; whole = whole h (Lines.order (Lines.order Lines.none) no_tails) }

  nothing_said : {b all : List (Event ObjectCall Reply)} {line : Line} {rest : List Line} {ids : List CallId} → SaysNothing processes signatures b line → AreLines processes signatures b (line ∷ rest) all ids → ⊥
  nothing_said s (Lines.event m h) = s.event _ m
  nothing_said s (Lines.applied m h) = s.applied m
  nothing_said s (Lines.order m h) = s.order _ m

  no_lines : {b all : List (Event ObjectCall Reply)} {ids : List CallId} → AreLines processes signatures b [] all ids → ⊥
  no_lines h = elim h [ ]

  -- the lines behind lines of events
  pub lines_behind : (xs ys rest : List Line) {b all : List (Event ObjectCall Reply)} {ids : List CallId} → AreEvents [] xs b → AreLines processes signatures [] ((xs ++ ys) ++ rest) all ids → AreLines processes signatures b (ys ++ rest) all ids
  lines_behind xs ys rest h k = behind h (rw append_assoc at k)

  -- with a line that says nothing no record goes on
  pub ends_here : {xs : List Line} {line : Line} {b : List (Event ObjectCall Reply)} → AreEvents [] xs b → SaysNothing processes signatures b line → ¬ BeginsLines processes signatures (xs ++ line ∷ [])
  ends_here {xs} {line} h s k = nothing_said s (lines_behind xs (line ∷ []) k.rest h k.whole)

  pub ends_missing : {xs : List Line} {b all : List (Event ObjectCall Reply)} {ids : List CallId} → AreEvents [] xs b → AreLines processes signatures [] xs all ids → ⊥
  ends_missing {xs} {b} {all} {ids} h k =
      no_lines (behind h (subst (λ (ls : List Line). AreLines processes signatures [] ls all ids) (sym (append-nil xs)) k))
