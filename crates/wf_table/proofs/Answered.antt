-- Every step keeps what is said of replies that were given.
use Rattle.std.proofs.Common.{◌≡◌, ℕ, zero, suc, ◌+◌, ◌-◌, ◌<◌, true, false, List, [], ◌∷◌, ◌++◌, length, get_or, take, length-append, refl, sym, ap, ◌∙◌, arith, cond, inl, inr, subst}
use Rattle.std.specs.Prelude.{ℤ, pos, Option, Some, None, slice_get, nat_lt}
use Rattle.std.specs.List.{range_with_len, Contains}
use Rattle.std.proofs.lemmas.List.{get_or_append_left, length-map, length-replicate}
use Rattle.std.proofs.lemmas.List.Elements.{Contains-push_cases}
use Rattle.std.proofs.lemmas.List.FromFn.{length-range_with_len}
use Rattle.std.proofs.lemmas.Option.{slice_get_within}
use Rattle.ll_cell.specs.Cell.{Cell, is_linked, block_of, word_at}
use Rattle.ob_interface.specs.Call.{ObjectCall, Reply}
use Rattle.wf_history.specs.declared.event.CallId.{CallId}
use Rattle.wf_history.specs.History.{Event, Begin, Applied, End, own_calls, IsHistory}
use Rattle.wf_history.specs.Legal.{NoRepeats, OneAtATime, HasBegun}
use Rattle.wf_table.specs.declared.engine_turn.EngineTurn.{EngineTurn}
use Rattle.wf_table.specs.declared.engine_turn.EngineTurn.TheVariants.{On, Returned, Trapped, Stuck}
use Rattle.wf_table.specs.declared.process.Label.{Label}
use Rattle.wf_table.specs.declared.process.Label.TheVariants.{Next, Commit, Give}
use Rattle.wf_table.specs.declared.process.Sizes.{Sizes}
use Rattle.wf_table.specs.Meaning.{Meaning, body}
use Rattle.wf_table.specs.StepTable.{Process, open_call, call_at}
use Rattle.wf_table.specs.Object.{Records, event_at, history_after, order_after}
use Rattle.wf_table.specs.Labels.{unannounced}
use Rattle.wf_table.proofs.Words.{same_words}
use Rattle.wf_table.specs.Order.{IsAt, applied_count}
use Rattle.wf_table.specs.HelpAndOrder.{flips_at, announced_call, IsFounded, IsHelpful, IsOrdered}
use Rattle.wf_table.proofs.Applied.{new_ids}
use Rattle.wf_table.proofs.Numbers.{order_below}
use Rattle.wf_table.proofs.HelpAndOrderSteps.{flips_is}
use Rattle.wf_table.specs.HelpAlone.{Alone, replied}
use Rattle.wf_table.specs.Contents.{no_words, reply_word, RootHolds}
use Rattle.wf_table.proofs.HelpOrders.{more_made, length_answers, begun_more, same_end}
use Rattle.wf_table.specs.Stands.{words_taken, IsStanding}
use Rattle.wf_table.specs.Answers.{IsReply, Agree, AreAnswered}
use Rattle.wf_table.proofs.Unique.{one_call, of_script}
use Rattle.wf_table.proofs.StandingOrders.{front_of, made_at, last_is}

abbrev Events : Type 0
Events = List (Event ObjectCall Reply)

-- in a list without repeats an element has one place
one_place : (xs : List CallId) (i j : ℕ) (x : CallId) → NoRepeats xs → IsAt xs i x → IsAt xs j x → i ≡ j
one_place [] i j x once a b = absurd (omega (arith, a.0))
one_place (y ∷ ys) zero zero x once a b = refl
one_place (y ∷ ys) zero (suc j) x once a b = absurd (once.0 (subst (λ (w : CallId). Contains ys w) (sym a.1) (j, omega (arith, b.0), b.1)))
one_place (y ∷ ys) (suc i) zero x once a b = absurd (once.0 (subst (λ (w : CallId). Contains ys w) (sym b.1) (i, omega (arith, a.0), a.1)))
one_place (y ∷ ys) (suc i) (suc j) x once a b = ap suc (one_place ys i j x once.1 (omega (arith, a.0), a.1) (omega (arith, b.0), b.1))

module _ {Run : Type 0} (m : Meaning Run) where
  replied_length : (t : EngineTurn) (run : Run) → length (replied m t run) ≡ m.replies + 1
  replied_length On run = omega (arith, length-map (range_with_len 0 m.replies) (m.result run), length-range_with_len 0 m.replies)
  replied_length Returned run = omega (arith, length-map (range_with_len 0 m.replies) (m.result run), length-range_with_len 0 m.replies)
  replied_length (Trapped k) run = omega (arith, length-replicate m.replies (pos 0))
  replied_length Stuck run = omega (arith, length-map (range_with_len 0 m.replies) (m.result run), length-range_with_len 0 m.replies)

  words_length : (call : ObjectCall) (b a w : List ℤ) → Alone m call b a w → length w ≡ m.replies + 1
  words_length call b a w h = sym (ap length h.words_are) ∙ replied_length (body m h.count b call).turn (body m h.count b call).run

  longer : (xs ys : Events) (id : CallId) (w : List ℤ) (reply : Reply) → IsReply m xs id w reply → IsReply m (xs ++ ys) id w reply
  longer xs ys id w reply h = record { call = h.call; begun = begun_more xs ys id h.call h.begun; stands_for = h.stands_for }

  module _ (lawful : List ℤ → Type 0) (opening : List ℤ) where
    -- an order has one list of words
    to_all : (history : Events) (order : List CallId) (words : List (List ℤ)) (last : List ℤ) → IsHistory history → OneAtATime (HasBegun history) (Alone m) opening order words last → Agree m history order words → AreAnswered m opening history order
    to_all history order words last turns made agree others end other =
        let same = same_end m lawful opening (HasBegun history) (λ id a b. one_call history turns id a b) opening last end order words others made other in
        subst (λ (ws : List (List ℤ)). Agree m history order ws) same.1 agree

    module _ (history : Events) (order : List CallId) (words : List (List ℤ)) (last : List ℤ) (made : OneAtATime (HasBegun history) (Alone m) opening order words last) (agree : Agree m history order words) where
      wider : (more : Events) → OneAtATime (HasBegun (history ++ more)) (Alone m) opening order words last
      wider more = more_made (Alone m) (HasBegun history) (HasBegun (history ++ more)) (λ id call. begun_more history more id call) opening last order words made

      begins : (id : CallId) (call : ObjectCall) → Agree m (history ++ Begin id call ∷ []) order words
      begins id call i a reply at ended = elim (Contains-push_cases history (Begin id call) (End a reply) ended) [
        | inl there ↦ longer history (Begin id call ∷ []) a (get_or words i []) reply (agree i a reply at there)
        | inr is ↦ absurd (cc)
      ]

      ends : (id : CallId) (given : Reply) → ((i : ℕ) → IsAt order i id → IsReply m history id (get_or words i []) given) → Agree m (history ++ End id given ∷ []) order words
      ends id given new i a reply at ended = elim (Contains-push_cases history (End id given) (End a reply) ended) [
        | inl there ↦ longer history (End id given ∷ []) a (get_or words i []) reply (agree i a reply at there)
        | inr is ↦ (let same : id ≡ a = cc in let gave : given ≡ reply = cc in
            longer history (End id given ∷ []) a (get_or words i []) reply
            (subst (λ (r : Reply). IsReply m history a (get_or words i []) r) gave
            (subst (λ (c : CallId). IsReply m history c (get_or words i []) given) same
            (new i (subst (λ (c : CallId). IsAt order i c) (sym same) at)))))
      ]

      applies : (ids : List CallId) (words' : List (List ℤ)) (last' : List ℤ) → IsHistory (history ++ Applied ids ∷ []) → NoRepeats (order ++ ids) → ((id : CallId) (reply : Reply) → Contains history (End id reply) → Contains order id) → OneAtATime (HasBegun (history ++ Applied ids ∷ [])) (Alone m) opening (order ++ ids) words' last' → Agree m (history ++ Applied ids ∷ []) (order ++ ids) words'
      applies ids words' last' turns once in_order made' i a reply at ended = elim (Contains-push_cases history (Applied ids) (End a reply) ended) [
        | inl there ↦ (let found = in_order a reply there in
            let place : i ≡ found.0 = one_place (order ++ ids) i found.0 a once at (omega (arith, found.1, length-append order ids), get_or_append_left order ids a found.0 found.1 ∙ found.2) in
            let lt : i < length order = omega (arith, place, found.1) in
            let history' = history ++ Applied ids ∷ [] in
            let f = front_of (HasBegun history') (Alone m) opening last' order ids words' made' in
            let same = same_end m lawful opening (HasBegun history') (λ id x y. one_call history' turns id x y) opening f.middle last order f.front words f.made (wider (Applied ids ∷ [])) in
            let word : get_or words i [] ≡ get_or words' i [] = sym (f.same i [] lt ∙ ap (λ (ws : List (List ℤ)). get_or ws i []) same.1) in
            longer history (Applied ids ∷ []) a (get_or words' i []) reply
            (subst (λ (w : List ℤ). IsReply m history a w reply) word (agree i a reply (lt, sym (get_or_append_left order ids a i lt) ∙ at.1) there)))
        | inr is ↦ absurd (cc)
      ]

      -- behind any event
      pub after : (event : Option (Event ObjectCall Reply)) (words' : List (List ℤ)) (last' : List ℤ) → IsHistory (history_after history event) → NoRepeats (order_after order event) → ((id : CallId) (reply : Reply) → Contains history (End id reply) → Contains order id) → OneAtATime (HasBegun (history_after history event)) (Alone m) opening (order_after order event) words' last' → ((id : CallId) (reply : Reply) → event ≡ Some (End id reply) → (i : ℕ) → IsAt order i id → IsReply m history id (get_or words i []) reply) → AreAnswered m opening (history_after history event) (order_after order event)
      after None words' last' turns once in_order made' new = to_all history order words last turns made agree
      after (Some (Begin id call)) words' last' turns once in_order made' new = to_all (history ++ Begin id call ∷ []) order words last turns (wider (Begin id call ∷ [])) (begins id call)
      after (Some (Applied ids)) words' last' turns once in_order made' new = to_all (history ++ Applied ids ∷ []) (order ++ ids) words' last' turns made' (applies ids words' last' turns once in_order made')
      after (Some (End id reply)) words' last' turns once in_order made' new = to_all (history ++ End id reply ∷ []) order words last turns (wider (End id reply ∷ [])) (ends id reply (new id reply refl))

-- the root has the words of each announced call that is in the order
pub call_words : {Run : Type 0} (m : Meaning Run) (lawful : List ℤ → Type 0) (z : Sizes) (opening : List ℤ) (c : Cell) (ps : List (Process Run)) (r : Records) (holds : RootHolds m lawful z opening r.history r.order (block_of c c.root)) (k i x : ℕ) → IsHelpful z c ps r → IsOrdered z c ps r → k < z.processes → x < z.replies + 1 → IsAt r.order i (announced_call ps k) → reply_word z (block_of c c.root) k x ≡ word_at (get_or holds.words i []) x
call_words m lawful z opening c ps r holds k i x help ord lt few here =
    let most = order_below r.order (announced_call ps k) (ord.in_turn k) (i, here.0, here.1) in
    let count : flips_at ps k + 1 ≡ 1 + applied_count r.order k = omega (arith, most.1, help.counted.begun k lt) in
    let lengths = length_answers (Alone m) (HasBegun r.history) opening holds.last r.order holds.words holds.made.made in
    holds.replies k x lt few
    ∙ ap (λ (w : List ℤ). word_at w x) (last_is (no_words z) 1 (applied_count r.order k) k (flips_at ps k) r.order holds.words i lengths (ord.in_turn k) count here)

module _ {Run : Type 0} (m : Meaning Run) (lawful : List ℤ → Type 0) (z : Sizes) (opening : List ℤ) (c : Cell) (ps : List (Process Run)) (r : Records) (p : ℕ) (q : Process Run) (at : slice_get ps p ≡ Some q) (holds : RootHolds m lawful z opening r.history r.order (block_of c c.root)) where
  -- the words of the call that ends
  ended_words : q.label ≡ Give → z.replies ≡ m.replies → IsFounded z c ps r → IsHelpful z c ps r → IsOrdered z c ps r → IsStanding z c ps r → (i : ℕ) → IsAt r.order i (record { process = p; number = q.begun }) → length (get_or holds.words i []) ≡ m.replies + 1 → q.replies ≡ get_or holds.words i []
  ended_words is values base help ord h i here long =
      let lt : p < z.processes = omega (arith, slice_get_within ps p q at, base.count) in
      let all : flips_at ps p ≡ q.begun = flips_is ps p q at ∙ ap (λ (l : Label). cond (unannounced l) (q.begun - 1) q.begun) is in
      let announced = subst (λ (n : ℕ). IsAt r.order i (record { process = p; number = n })) (sym all) here in
      let range = base.in_range p q at in
      same_words q.replies (get_or holds.words i []) (omega (arith, range.replies, values, long)) (λ k less.
      (let few : k < z.replies + 1 = omega (arith, less, range.replies) in
      (h.carried p q at).taken k (subst (λ (l : Label). k < words_taken z l q.registers.i) (sym is) few)
      ∙ call_words m lawful z opening c ps r holds p i k help ord lt few announced))

  gives : q.label ≡ Give → z.replies ≡ m.replies → IsHistory r.history → own_calls p r.history ≡ take q.begun q.calls → IsFounded z c ps r → IsHelpful z c ps r → IsOrdered z c ps r → IsStanding z c ps r → (i : ℕ) → IsAt r.order i (record { process = p; number = q.begun }) → IsReply m r.history (record { process = p; number = q.begun }) (get_or holds.words i []) (m.reply (open_call q) q.replies)
  gives is values turns script base help ord h i here =
      let id : CallId = record { process = p; number = q.begun } in
      let made = made_at (HasBegun r.history) (Alone m) opening holds.last r.order holds.words i id [] holds.made.made here.0 here.1 in
      let call : open_call q ≡ made.call = (of_script r.history turns id made.call (record { export = 0; arguments = [] }) q.begun q.calls script made.made).1 in
      let words = ended_words is values base help ord h i here (words_length m made.call made.before made.after (get_or holds.words i []) made.effect) in
      record { call = made.call; begun = made.made; stands_for = ap (λ (k : ObjectCall). m.reply k q.replies) call ∙ ap (m.reply made.call) words }

  -- the event of a step that ends a call
  abbrev New : Option (Event ObjectCall Reply) → Type 0
  New event = (id : CallId) (reply : Reply) → event ≡ Some (End id reply) → (i : ℕ) → IsAt r.order i id → IsReply m r.history id (get_or holds.words i []) reply

  gives_new : ((i : ℕ) → IsAt r.order i (record { process = p; number = q.begun }) → IsReply m r.history (record { process = p; number = q.begun }) (get_or holds.words i []) (m.reply (open_call q) q.replies)) → New (Some (End (record { process = p; number = q.begun }) (m.reply (open_call q) q.replies)))
  gives_new given id reply e i here =
      let ended : CallId = record { process = p; number = q.begun } in
      let same : ended ≡ id = cc in
      let gave : m.reply (open_call q) q.replies ≡ reply = cc in
      subst (λ (a : Reply). IsReply m r.history id (get_or holds.words i []) a) gave
      (subst (λ (c : CallId). IsReply m r.history c (get_or holds.words i []) (m.reply (open_call q) q.replies)) same
      (given i (subst (λ (c : CallId). IsAt r.order i c) (sym same) here)))

  pub new_reply : (l : Label) → q.label ≡ l → z.replies ≡ m.replies → IsHistory r.history → own_calls p r.history ≡ take q.begun q.calls → IsFounded z c ps r → IsHelpful z c ps r → IsOrdered z c ps r → IsStanding z c ps r → New (event_at l m z c ps p q)
  new_reply Next is values turns script base help ord h = elim (nat_lt q.begun (length q.calls)) as (λ b. New (cond b (Some (Begin (record { process = p; number = q.begun + 1 }) (call_at q q.begun))) None)) [ true ↦ λ id reply e. absurd (cc) | false ↦ λ id reply e. absurd (cc) ]
  new_reply Commit is values turns script base help ord h = elim (is_linked c p) as (λ b. New (cond b (Some (Applied (new_ids z c ps r p))) None)) [ true ↦ λ id reply e. absurd (cc) | false ↦ λ id reply e. absurd (cc) ]
  new_reply Give is values turns script base help ord h = gives_new (gives is values turns script base help ord h)
  new_reply l is values turns script base help ord h = λ id reply e. absurd (cc)
