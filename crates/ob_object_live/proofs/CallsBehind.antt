-- One call behind others: its state, its reply, its line, its events and its name.
use Rattle.std.proofs.Common.{◌≡◌, ◌∙◌, ℕ, ◌+◌, List, [], ◌∷◌, ◌++◌, refl, sym, ap, append-nil, append_assoc, add-one}
use Rattle.std.proofs.lemmas.Bool.{eq-eqb}
use Rattle.ob_interface.specs.Call.{Reply}
use Rattle.ob_mean.specs.Sequences.{replies_to}
use Rattle.ob_object_live.specs.Living.{asked, behind, callers, count_of, end_text, events_alone, events_behind, id_behind, lines_behind, order_behind, state_after}
use Rattle.ob_meaning.specs.ByPositionObject.{effect}
use Rattle.ob_meaning.specs.ByPositionStore.{Activation}
use Rattle.ob_text_words.specs.ScriptCalls.{ScriptCall, object_call}
use Rattle.ob_typing.specs.Program.{Program}

-- who made calls
pub callers_more : (calls : List ScriptCall) (c : ScriptCall) → callers (calls ++ c ∷ []) ≡ callers calls ++ c.process ∷ []
callers_more [] c = refl
callers_more (d ∷ calls) c = ap (λ ps. d.process ∷ ps) (callers_more calls c)

pub behind_more : (before processes : List ℕ) (p : ℕ) → behind before (processes ++ p ∷ []) ≡ p ∷ behind before processes
behind_more before [] p = refl
behind_more before (q ∷ processes) p = behind_more (q ∷ before) processes p

pub count_here : (p : ℕ) (before : List ℕ) → count_of p (p ∷ before) ≡ count_of p before + 1
count_here p before = rw (eq-eqb p p refl) (sym (add-one (count_of p before)))

pub order_more : (before processes : List ℕ) (p : ℕ) → order_behind before (processes ++ p ∷ []) ≡ order_behind before processes ++ id_behind (behind before processes) p ∷ []
order_more before [] p = refl
order_more before (q ∷ processes) p = ap (λ ids. id_behind before q ∷ ids) (order_more (q ∷ before) processes p)

module _ (program : Program) (budget : ℕ) where
  abbrev After : Activation → List ScriptCall → Activation
  After state calls = state_after program budget state (asked calls)

  abbrev Replies : Activation → List ScriptCall → List Reply
  Replies state calls = replies_to program budget state (asked calls)

  -- the reply to a call behind others
  abbrev pub reply_behind : Activation → List ScriptCall → ScriptCall → Reply
  reply_behind state calls c = (effect program (object_call c) budget (After state calls)).reply

  pub state_more : (state : Activation) (calls : List ScriptCall) (c : ScriptCall) →
      After state (calls ++ c ∷ []) ≡ (effect program (object_call c) budget (After state calls)).state
  state_more state [] c = refl
  state_more state (d ∷ calls) c = state_more (effect program (object_call d) budget state).state calls c

  pub lines_more : (state : Activation) (before : List ℕ) (calls : List ScriptCall) (c : ScriptCall) →
      lines_behind before (calls ++ c ∷ []) (Replies state (calls ++ c ∷ []))
      ≡ lines_behind before calls (Replies state calls) ++ end_text (id_behind (behind before (callers calls)) c.process) (reply_behind state calls c)
  lines_more state before [] c = append-nil (end_text (id_behind before c.process) (reply_behind state [] c))
  lines_more state before (d ∷ calls) c =
      let done = effect program (object_call d) budget state in
      let first = end_text (id_behind before d.process) done.reply in
      ap (λ rest. first ++ rest) (lines_more done.state (d.process ∷ before) calls c)
      ∙ sym (append_assoc first (lines_behind (d.process ∷ before) calls (Replies done.state calls))
      (end_text (id_behind (behind before (callers (d ∷ calls))) c.process) (reply_behind state (d ∷ calls) c)))

  pub events_more : (state : Activation) (before : List ℕ) (calls : List ScriptCall) (c : ScriptCall) →
      events_behind before (calls ++ c ∷ []) (Replies state (calls ++ c ∷ []))
      ≡ events_behind before calls (Replies state calls)
      ++ events_alone (id_behind (behind before (callers calls)) c.process) (object_call c) (reply_behind state calls c)
  events_more state before [] c = append-nil (events_alone (id_behind before c.process) (object_call c) (reply_behind state [] c))
  events_more state before (d ∷ calls) c =
      let done = effect program (object_call d) budget state in
      let first = events_alone (id_behind before d.process) (object_call d) done.reply in
      ap (λ rest. first ++ rest) (events_more done.state (d.process ∷ before) calls c)
      ∙ sym (append_assoc first (events_behind (d.process ∷ before) calls (Replies done.state calls))
      (events_alone (id_behind (behind before (callers (d ∷ calls))) c.process) (object_call c) (reply_behind state (d ∷ calls) c)))
