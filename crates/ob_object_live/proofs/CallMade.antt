-- What there is of calls when one more was made.
use Rattle.std.proofs.Common.{◌≡◌, ◌∙◌, ◌<◌, ◌≤◌, ℕ, ◌+◌, ◌==◌, false, inl, inr, List, [], ◌∷◌, ◌++◌, All, codes, get_or, length, map, set, string_bytes, take, refl, sym, ap, ap₂, subst, append-nil, append_assoc, add-one, get_or-set_other, get_or-set_same}
use Rattle.std.specs.List.{flat_map}
use Rattle.std.proofs.lemmas.Bool.Decides.{eqb_tells}
use Rattle.std.proofs.lemmas.List.Concat.{flat_map-append}
use Rattle.std.proofs.lemmas.List.{get_or-map, length-map, take_all, take_more}
use Rattle.std.proofs.lemmas.List.Elements.{All-get_or, All-push}
use Rattle.ob_checked.specs.Exports.{signatures}
use Rattle.ob_interface.specs.Call.{ObjectCall, Reply}
use Rattle.ob_interface.specs.Export.{CallFits, Signature}
use Rattle.ob_object_live.specs.Living.{Ground, IsAt, IsMore, OneMade, applied_text, behind, call_text, callers, count_of, end_text, events_alone, events_behind, ground_of, id_behind, lines_at, order_behind, replies_at, state_at}
use Rattle.ob_object_live.specs.declared.live_parts.Live.{Live}
use Rattle.ob_object_live.proofs.CallsBehind.{behind_more, callers_more, count_here, events_more, lines_more, order_more, reply_behind, state_more}
use Rattle.ob_meaning.specs.ByPositionObject as Effects
use Rattle.ob_meaning.specs.ByPositionObject.{effect}
use Rattle.ob_store.specs.View.{state_of}
use Rattle.ob_text_record.specs.RecordText.{begin_text, event_text, id_text, ids_text}
use Rattle.ob_text_words.specs.ReplyLines.{reply_line}
use Rattle.ob_text_words.specs.ScriptCalls.{ScriptCall, object_call, script_call_of}
use Rattle.ob_text_words.specs.declared.script_call.ScriptCall as Declared
use Rattle.wf_history.specs.declared.event.CallId.{CallId}

-- the lines of a call that was made alone
applied_is : (id : CallId) → codes "A" ++ ids_text (id ∷ []) ++ codes "\n" ≡ applied_text id
applied_is id = ap (λ t. codes "A" ++ t ++ codes "\n") (append-nil (codes " " ++ id_text id))

alone_text : (exports : List Signature) (id : CallId) (call : ObjectCall) (reply : Reply) →
    flat_map (event_text exports) (events_alone id call reply) ≡ call_text exports id call reply
alone_text exports id call reply =
    ap (λ t. begin_text exports id call ++ t) (ap₂ (λ a b. a ++ b) (applied_is id) (append-nil (reply_line id.process id.number reply)))
    ∙ sym (append_assoc (begin_text exports id call) (applied_text id) (reply_line id.process id.number reply))

ids_more : (ids : List CallId) (id : CallId) → ids_text (ids ++ id ∷ []) ≡ ids_text ids ++ (codes " " ++ id_text id)
ids_more ids id = flat_map-append (λ i. codes " " ++ id_text i) ids (id ∷ []) ∙ ap (λ t. ids_text ids ++ t) (append-nil (codes " " ++ id_text id))

count_other : (p q : ℕ) (before : List ℕ) → (p == q) ≡ false → count_of q (p ∷ before) ≡ count_of q before
count_other p q before e = rw e refl

module _ (g : Ground) (calls : List ScriptCall) (l : Live) (at : IsAt g calls l) (c : ScriptCall) (number : ℕ) (more : number ≡ get_or l.made.items c.process 0 + 1)
    (below : c.process < g.processes) where
  abbrev before : List ℕ
  before = behind [] (callers calls)

  before_more : behind [] (callers (calls ++ c ∷ [])) ≡ c.process ∷ before
  before_more = ap (behind []) (callers_more calls c) ∙ behind_more [] (callers calls) c.process

  -- how many calls each process has made
  counts : (made : List ℕ) → made ≡ set l.made.items c.process number → c.process < length l.made.items →
      (q : ℕ) → q < g.processes → get_or made q 0 ≡ count_of q (behind [] (callers (calls ++ c ∷ [])))
  counts made is within q q_below =
      elim (eqb_tells c.process q) [
        | inl same ↦
            rw (is, before_more)
            (subst (λ r. get_or (set l.made.items c.process number) r 0 ≡ count_of r (c.process ∷ before)) same.1
            (get_or-set_same l.made.items c.process number 0 within ∙ more ∙ ap (λ k. k + 1) (at.counted c.process below) ∙ sym (count_here c.process before)))
        | inr other ↦
            rw (is, before_more)
            (get_or-set_other l.made.items c.process q number 0 (λ e. other.1 (sym e)) ∙ at.counted q q_below ∙ sym (count_other c.process q before other.0))
      ]

  -- the name of the call
  abbrev id : CallId
  id = record { process = c.process; number = number }

  id_is : id ≡ id_behind before c.process
  id_is = ap (λ (k : ℕ). let i : CallId = record { process = c.process; number = k } in i) (more ∙ ap (λ k. k + 1) (at.counted c.process below) ∙ add-one (count_of c.process before))

  -- what it does
  module _ (state : Effects.Effect) (gives : effect g.program (object_call c) g.budget (state_of l.state) ≡ state) where
    done : effect g.program (object_call c) g.budget (state_at g calls) ≡ state
    done = ap (λ s. effect g.program (object_call c) g.budget s) (sym at.state) ∙ gives

    state_is : state.state ≡ state_at g (calls ++ c ∷ [])
    state_is = sym (ap (λ e. e.state) done) ∙ sym (state_more g.program g.budget g.opening calls c)

    reply_is : reply_behind g.program g.budget g.opening calls c ≡ state.reply
    reply_is = ap (λ e. e.reply) done

    lines_are : (lines : List ℕ) → lines ≡ end_text id state.reply → lines_at g (calls ++ c ∷ []) ≡ lines_at g calls ++ lines
    lines_are lines is =
        lines_more g.program g.budget g.opening [] calls c
        ∙ ap (λ t. lines_at g calls ++ t) (ap₂ end_text (sym id_is) reply_is ∙ sym is)

    events_are : (events : List ℕ) → events ≡ string_bytes l.events ++ call_text (signatures g.program) id (object_call c) state.reply →
        events ≡ flat_map (event_text (signatures g.program)) (events_behind [] (calls ++ c ∷ []) (replies_at g (calls ++ c ∷ [])))
    events_are events is =
        let all = flat_map (event_text (signatures g.program)) in
        is ∙ ap (λ t. t ++ call_text (signatures g.program) id (object_call c) state.reply) at.events
        ∙ ap (λ t. all (events_behind [] calls (replies_at g calls)) ++ t)
        (sym (alone_text (signatures g.program) id (object_call c) state.reply)
        ∙ ap₂ (λ i r. all (events_alone i (object_call c) r)) id_is (sym reply_is))
        ∙ sym (flat_map-append (event_text (signatures g.program)) (events_behind [] calls (replies_at g calls))
        (events_alone (id_behind before c.process) (object_call c) (reply_behind g.program g.budget g.opening calls c)))
        ∙ ap all (sym (events_more g.program g.budget g.opening [] calls c))

    order_is : (order : List ℕ) → order ≡ string_bytes l.order ++ (codes " " ++ id_text id) → order ≡ ids_text (order_behind [] (callers (calls ++ c ∷ [])))
    order_is order is =
        is ∙ ap (λ t. t ++ (codes " " ++ id_text id)) at.order
        ∙ sym (ids_more (order_behind [] (callers calls)) id)
        ∙ ap (λ i. ids_text (order_behind [] (callers calls) ++ i ∷ [])) id_is
        ∙ ap ids_text (sym (order_more [] (callers calls) c.process))
        ∙ ap (λ ps. ids_text (order_behind [] ps)) (sym (callers_more calls c))

    -- all of it
    pub one_more : (next : Live) → ground_of next.ground ≡ g → state_of next.state ≡ state.state → next.made.items ≡ set l.made.items c.process number →
        c.process < length l.made.items → CallFits (signatures g.program) (object_call c) →
        string_bytes next.events ≡ string_bytes l.events ++ call_text (signatures g.program) id (object_call c) state.reply →
        string_bytes next.order ≡ string_bytes l.order ++ (codes " " ++ id_text id) →
        (lines : List ℕ) → lines ≡ end_text id state.reply → IsMore g calls (c ∷ []) lines next
    one_more next same state_same made within fits events order lines told = record {
      told = lines_are lines told;
      at = record {
        ground = same;
        state = state_same ∙ state_is;
        counted = counts next.made.items made within;
        events = events_are (string_bytes next.events) events;
        order = order_is (string_bytes next.order) order;
        below = All-push (λ (x : ScriptCall). x.process < g.processes) calls c at.below below;
        fit = All-push (λ (x : ScriptCall). CallFits (signatures g.program) (object_call x)) calls c at.fit fits;
      };
    }

-- behind more calls, more calls
pub and_more : (g : Ground) (calls some others : List ScriptCall) (lines rest : List ℕ) (middle last : Live) → IsMore g calls some lines middle →
    IsMore g (calls ++ some) others rest last → IsMore g calls (some ++ others) (lines ++ rest) last
and_more g calls some others lines rest middle last first second =
    let joined : (calls ++ some) ++ others ≡ calls ++ (some ++ others) = append_assoc calls some others in
    record {
      told =
          ap (lines_at g) (sym joined) ∙ second.told ∙ ap (λ t. t ++ rest) first.told ∙ append_assoc (lines_at g calls) lines rest;
      at = subst (λ (cs : List ScriptCall). IsAt g cs last) joined second.at;
    }

-- behind no call
pub none_more : (g : Ground) (calls : List ScriptCall) (l : Live) → IsAt g calls l → IsMore g calls [] [] l
none_more g calls l at = record {
  told = ap (lines_at g) (append-nil calls) ∙ sym (append-nil (lines_at g calls));
  at = subst (λ (cs : List ScriptCall). IsAt g cs l) (sym (append-nil calls)) at;
}

-- some calls were made on the same ground, whatever calls were made before
pub record SoFar (g : Ground) (first : Live) (some : List ScriptCall) (lines : List ℕ) (now : Live) : Type 0 where
  pub ground : ground_of now.ground ≡ g
  pub made : (before : List ScriptCall) → IsAt g before first → IsMore g before some lines now

pub so_far_none : (g : Ground) (first : Live) → ground_of first.ground ≡ g → SoFar g first [] [] first
so_far_none g first same = record { ground = same; made = λ before at. none_more g before first at }

-- one more call
pub so_far_more : (g : Ground) (first now next : Live) (some : List ScriptCall) (call : ScriptCall) (lines new : List ℕ) → SoFar g first some lines now →
    ground_of next.ground ≡ ground_of now.ground →
    ((before : List ScriptCall) → IsAt (ground_of now.ground) before now → OneMade (ground_of now.ground) before call lines new next) →
    SoFar g first (some ++ call ∷ []) new next
so_far_more g first now next some call lines new so_far same one = record {
  ground = same ∙ so_far.ground;
  made = λ before at.
      let earlier = so_far.made before at in
      let made = subst (λ (h : Ground). (b : List ScriptCall) → IsAt h b now → OneMade h b call lines new next) so_far.ground one (before ++ some) earlier.at in
      rw made.appended (and_more g before some (call ∷ []) lines made.line now next earlier made.made);
}

-- the view of the call at a place
here : (calls : List Declared.ScriptCall) (i : ℕ) (call : Declared.ScriptCall) → i < length calls → call ≡ get_or calls i call →
    get_or (map script_call_of calls) i (script_call_of call) ≡ script_call_of call
here calls i call lt is = get_or-map script_call_of calls i call (script_call_of call) lt ∙ sym (ap script_call_of is)

-- what holds of each of the calls that were read holds of the one at a place
pub each_at : (P : ScriptCall → Type 0) (calls : List Declared.ScriptCall) (i : ℕ) (call : Declared.ScriptCall) → i < length calls → call ≡ get_or calls i call →
    All P (map script_call_of calls) → P (script_call_of call)
each_at P calls i call lt is all =
    subst P (here calls i call lt is) (All-get_or P (map script_call_of calls) i (script_call_of call) (rw length-map lt) all)

-- one more of the calls that were read
pub read_more : (calls : List Declared.ScriptCall) (i : ℕ) (call : Declared.ScriptCall) → i < length calls → call ≡ get_or calls i call →
    take (i + 1) (map script_call_of calls) ≡ take i (map script_call_of calls) ++ script_call_of call ∷ []
read_more calls i call lt is =
    let views = map script_call_of calls in
    take_more views i (script_call_of call) (rw length-map lt) ∙ ap (λ (x : ScriptCall). take i views ++ x ∷ []) (here calls i call lt is)

-- all of them
pub read_all : (calls : List Declared.ScriptCall) (i : ℕ) → length calls ≤ i → take i (map script_call_of calls) ≡ map script_call_of calls
read_all calls i past = take_all i (map script_call_of calls) (rw length-map past)
