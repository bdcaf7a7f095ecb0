-- A history and a list have one fault at most, and none where the list is a legal order.
use Rattle.std.proofs.Common.{◌≡◌, refl, sym, ap, ◌∙◌, subst, ℕ, ◌+◌, ◌<◌, ◌≤◌, zero, suc, List, [], ◌∷◌, length, take, Some, Ok, Err, arith, ◌⊎◌, inl, inr}
use Rattle.std.proofs.lemmas.Bool.{cases_lt}
use Rattle.std.proofs.lemmas.List.{take-take, take_all}
use Rattle.std.proofs.lemmas.Option.{same_Some}
use Rattle.std.specs.List.{slice_get, Contains}
use Rattle.std.specs.Prelude.{Result, IfErr, IfOk, MatchResult, OnOk}
use Rattle.ob_typing.specs.Program.{Program}
use Rattle.ob_meaning.specs.ByPositionStore.{Activation}
use Rattle.ob_meaning.specs.ByPositionObject.{Effect}
use Rattle.ob_interface.specs.Call.{ObjectCall, Reply}
use Rattle.wf_history.specs.declared.event.CallId.{CallId}
use Rattle.ob_object_run.specs.declared.order_checker.OrderFault.{OrderFault}
use Rattle.ob_object_run.specs.declared.order_checker.OrderFault.TheVariants as F
use Rattle.wf_history.specs.History.{Event, Begin, Applied, End, IsHistory}
use Rattle.wf_history.specs.Legal.{OneAtATime, HasBegun, RepliesAgree, IsLegal, more}
use Rattle.ob_object_run.specs.LegalOrder.{CallEnds, IsLegalOrder}
use Rattle.ob_object_run.specs.OrderFaults.{IsFirst, IsNowhere, IsUnknown, EndsUnlisted, IsListFault, IsReplayFault, IsTooEarly, IsArranged, LeadsTo, IsNext, AnswersOtherwise, IsOrderFault}
use Rattle.wf_history.proofs.Positions.{one_item, place_of, contains_at, place_take, place_in_take, no_repeats, one_place, is_listed, split_twice, places_of_split}
use Rattle.ob_object_run.proofs.Replay.{passes}

module _ {A : Type 0} {Fact : ℕ → A → Type 0} (items : List A) where
  first_once : (x y : A) → IsFirst Fact items x → IsFirst Fact items y → x ≡ y
  first_once x y f g =
      elim (cases_lt f.place g.place) [
        | inl lt ↦ absurd (g.earlier f.place x lt f.here f.holds)
        | inr le ↦ elim (cases_lt g.place f.place) [
          | inl lt ↦ absurd (f.earlier g.place y lt g.here g.holds)
          | inr ge ↦ let same : f.place ≡ g.place = omega arith in one_item items g.place x y (subst (λ (n : ℕ). slice_get items n ≡ Some x) same f.here) g.here
        ]
      ]

  first_nowhere : (x : A) → IsFirst Fact items x → IsNowhere Fact items → ⊥
  first_nowhere x f nowhere = nowhere f.place x f.here f.holds

module _ {State Call Reply : Type 0} (history : List (Event Call Reply)) (order : List CallId) where
  module _ {Effect : Call → State → State → Reply → Type 0} {opening last : State} (legal : IsLegal Effect opening history order last) where
    begun_in : (ids : List CallId) (replies : List Reply) (before after : State) (k : ℕ) (id : CallId) → OneAtATime (HasBegun history) Effect before ids replies after → slice_get ids k ≡ Some id → (call : Call) × HasBegun history id call
    begun_in [] replies before after k id made here = absurd (cc)
    begun_in (i ∷ ids) [] before after k id made here = elim made [ ]
    begun_in (i ∷ ids) (r ∷ replies) before after zero id (more {call = call} begun ends rest) here = (call, subst (λ (j : CallId). HasBegun history j call) (same_Some i id here) begun)
    begun_in (i ∷ ids) (r ∷ replies) before after (suc k) id (more {between = between} begun ends rest) here = begun_in ids replies between after k id rest here

    legal_known : IsNowhere (IsUnknown history order) order
    legal_known k id here unknown =
        elim unknown [
          | inl never ↦ let begun = begun_in order legal.replies opening last k id legal.made here in never begun.0 begun.1
          | inr before ↦
              let p = place_of (take k order) id before in
              let q = place_take k order p.0 id p.1 in
              one_place order p.0 k id legal.once q.1 q.0 here
        ]

    legal_listed : IsNowhere (EndsUnlisted history order) history
    legal_listed k (Begin id call) here missing = missing
    legal_listed k (Applied ids) here missing = missing
    legal_listed k (End id reply) here missing = missing (legal.ended id reply (contains_at history k (End id reply) here))

    legal_in_time : IsNowhere (IsTooEarly history order) order
    legal_in_time k id here early =
        let r = split_twice order k early.0 id early.1 early.2 here early.3 in
        legal.in_time r.0 r.1 r.2 id early.1 r.3 early.4

    pub legal_arranged : IsArranged history order
    legal_arranged = record { known = legal_known; listed = legal_listed; in_time = legal_in_time }

  -- a list that is arranged and replayed is a legal order
  pub arranged_legal : (Effect : Call → State → State → Reply → Type 0) (opening last : State) → IsArranged history order → LeadsTo Effect opening history order (length order) last → IsLegal Effect opening history order last
  arranged_legal Effect opening last arranged leads =
      let whole = take_all (length order) order (omega arith) in
      record {
        once = no_repeats order (λ k m id lt at also. arranged.known m id also (inr (contains_at (take m order) k id (place_in_take m order k id at lt))));
        ended = λ id reply ends.
            let p = place_of history (End id reply) ends in
            elim (is_listed order id) [ inl c ↦ c | inr missing ↦ absurd (arranged.listed p.0 (End id reply) p.1 missing) ];
        in_time = λ first second third a b split early.
            let p = places_of_split order first second third a b split in
            arranged.in_time (length first) a p.0 (length first + suc (length second), b, omega arith, p.1, early);
        replies = leads.replies;
        made = subst (λ (ids : List CallId). OneAtATime (HasBegun history) Effect opening ids leads.replies last) whole leads.made;
        agree = subst (λ (ids : List CallId). RepliesAgree history ids leads.replies) whole leads.agree;
      }

module _ (program : Program) (budget : ℕ) (opening : Activation) (history : List (Event ObjectCall Reply)) (order : List CallId) (whole : IsHistory history) where
  abbrev Ends : ObjectCall → Activation → Activation → Reply → Type 0
  Ends = CallEnds program budget

  -- a call ends in one way
  one_end : (call : ObjectCall) (state after last : Activation) (reply answer : Reply) → Ends call state after reply → Ends call state last answer → (after ≡ last) × (reply ≡ answer)
  one_end call state after last reply answer h g =
      (ap (λ (e : Effect). e.state) (sym h ∙ g), ap (λ (e : Effect). e.reply) (sym h ∙ g))

  -- the call ends in this state, with the history's reply
  abbrev Passes : CallId → ObjectCall → Activation → Type 0
  Passes id call state = (after : Activation) × (answer : Reply) × Ends call state after answer × ((reply : Reply) → Contains history (End id reply) → reply ≡ answer)

  abbrev Next : CallId → ObjectCall → Activation → Type 0
  Next = IsNext Ends opening history order

  legal_passes : (last : Activation) → IsLegalOrder program budget opening history order last → (id : CallId) (call : ObjectCall) (state : Activation) → Next id call state → Passes id call state
  legal_passes last legal id call state next =
      passes Ends Ends one_end history whole order next.place id call next.leads.replies legal.replies opening state last next.here next.begun next.leads.made legal.made legal.agree

  abbrev Wrong : CallId → Type 0
  Wrong = AnswersOtherwise Ends opening history order

  wrong_passes : (id : CallId) (f : Wrong id) → Passes id f.call f.before → ⊥
  wrong_passes id f (after, answer, ends, same) =
      f.other (same f.reply f.ended ∙ sym (one_end f.call f.before f.after after f.answer answer f.ends ends).1)

  abbrev Fault : OrderFault → Type 0
  Fault = IsOrderFault program budget opening history order

  pub legal_fault : (last : Activation) → IsLegalOrder program budget opening history order last → (fault : OrderFault) → Fault fault → fault ≡ F.NoMemory
  legal_fault last legal (F.Unknown id) f = absurd (first_nowhere order id f (legal_arranged history order legal).known)
  legal_fault last legal (F.Missing id) (known, (reply, f)) = absurd (first_nowhere history (End id reply) f (legal_arranged history order legal).listed)
  legal_fault last legal (F.TooEarly id) (known, listed, f) = absurd (first_nowhere order id f (legal_arranged history order legal).in_time)
  legal_fault last legal (F.OtherReply id) (arranged, f) = absurd (wrong_passes id f (legal_passes last legal id f.call f.before f.next))
  legal_fault last legal F.NoMemory f = refl

  -- of two calls whose turn comes, the one that stands first passes
  first_passes : (id other : CallId) (call also : ObjectCall) (state late : Activation) (n : Next id call state) (m : Next other also late) → n.place < m.place → Passes id call state
  first_passes id other call also state late n m lt =
      let here = place_in_take m.place order n.place id n.here lt in
      let le : n.place ≤ m.place = omega arith in
      passes Ends Ends one_end history whole (take m.place order) n.place id call n.leads.replies m.leads.replies opening state late here n.begun
      (subst (λ (ids : List CallId). OneAtATime (HasBegun history) Ends opening ids n.leads.replies state) (sym (take-take n.place m.place order le)) n.leads.made)
      m.leads.made m.leads.agree

  -- so of two calls with another reply each is the other
  one_wrong : (id other : CallId) → Wrong id → Wrong other → id ≡ other
  one_wrong id other f g =
      elim (cases_lt f.next.place g.next.place) [
        | inl lt ↦ absurd (wrong_passes id f (first_passes id other f.call g.call f.before g.before f.next g.next lt))
        | inr le ↦ elim (cases_lt g.next.place f.next.place) [
          | inl lt ↦ absurd (wrong_passes other g (first_passes other id g.call f.call g.before f.before g.next f.next lt))
          | inr ge ↦ let same : f.next.place ≡ g.next.place = omega arith in
              one_item order g.next.place id other (subst (λ (k : ℕ). slice_get order k ≡ Some id) same f.next.here) g.next.here
        ]
      ]

  pub one_fault : (e f : OrderFault) → Fault e → Fault f → (f ≡ F.NoMemory) ⊎ ((e ≡ f) ⊎ (e ≡ F.NoMemory))
  one_fault F.NoMemory f h g = inr (inr refl)
  one_fault (F.Unknown a) F.NoMemory h g = inl refl
  one_fault (F.Missing a) F.NoMemory h g = inl refl
  one_fault (F.TooEarly a) F.NoMemory h g = inl refl
  one_fault (F.OtherReply a) F.NoMemory h g = inl refl
  one_fault (F.Unknown a) (F.Unknown b) h g = inr (inl (ap F.Unknown (first_once order a b h g)))
  one_fault (F.Unknown a) (F.Missing b) h (known, g) = absurd (first_nowhere order a h known)
  one_fault (F.Unknown a) (F.TooEarly b) h (known, listed, g) = absurd (first_nowhere order a h known)
  one_fault (F.Unknown a) (F.OtherReply b) h (arranged, g) = absurd (first_nowhere order a h arranged.known)
  one_fault (F.Missing a) (F.Unknown b) (known, h) g = absurd (first_nowhere order b g known)
  one_fault (F.Missing a) (F.Missing b) (known, (reply, h)) (also, (answer, g)) =
      let same = first_once history (End a reply) (End b answer) h g in
      let ids : a ≡ b = cc in
      inr (inl (ap F.Missing ids))
  one_fault (F.Missing a) (F.TooEarly b) (known, (reply, h)) (also, listed, g) = absurd (first_nowhere history (End a reply) h listed)
  one_fault (F.Missing a) (F.OtherReply b) (known, (reply, h)) (arranged, g) = absurd (first_nowhere history (End a reply) h arranged.listed)
  one_fault (F.TooEarly a) (F.Unknown b) (known, listed, h) g = absurd (first_nowhere order b g known)
  one_fault (F.TooEarly a) (F.Missing b) (known, listed, h) (also, (answer, g)) = absurd (first_nowhere history (End b answer) g listed)
  one_fault (F.TooEarly a) (F.TooEarly b) (known, listed, h) (also, all, g) = inr (inl (ap F.TooEarly (first_once order a b h g)))
  one_fault (F.TooEarly a) (F.OtherReply b) (known, listed, h) (arranged, g) = absurd (first_nowhere order a h arranged.in_time)
  one_fault (F.OtherReply a) (F.Unknown b) (arranged, h) g = absurd (first_nowhere order b g arranged.known)
  one_fault (F.OtherReply a) (F.Missing b) (arranged, h) (also, (answer, g)) = absurd (first_nowhere history (End b answer) g arranged.listed)
  one_fault (F.OtherReply a) (F.TooEarly b) (arranged, h) (also, all, g) = absurd (first_nowhere order b g arranged.in_time)
  one_fault (F.OtherReply a) (F.OtherReply b) (arranged, h) (also, g) = inr (inl (ap F.OtherReply (one_wrong a b h g)))

  pub list_fault : (e : OrderFault) → IsListFault history order e → Fault e
  list_fault (F.Unknown id) h = h
  list_fault (F.Missing id) h = h
  list_fault (F.TooEarly id) h = h
  list_fault (F.OtherReply id) h = absurd h
  list_fault F.NoMemory h = tt

  pub replay_fault : IsArranged history order → (e : OrderFault) → IsReplayFault program budget opening history order e → Fault e
  replay_fault arranged (F.Unknown id) h = absurd h
  replay_fault arranged (F.Missing id) h = absurd h
  replay_fault arranged (F.TooEarly id) h = absurd h
  replay_fault arranged (F.OtherReply id) h = (arranged, h)
  replay_fault arranged F.NoMemory h = tt

  -- what an answer says, of its two clauses
  module _ {T : Type 0} (result : Result T OrderFault) (fault : IfErr result Fault) where
    pub accepted_of : (last : Activation) → IsLegalOrder program budget opening history order last → IfErr result (λ e. e ≡ F.NoMemory)
    accepted_of last legal = elim result as (λ r. IfErr r Fault → IfErr r (λ e. e ≡ F.NoMemory)) [ Ok s ↦ λ h. tt | Err e ↦ λ h. legal_fault last legal e h ] fault

    pub exact_of : OnOk result ((last : Activation) × IsLegalOrder program budget opening history order last) → (f : OrderFault) → Fault f →
        (f ≡ F.NoMemory) ⊎ MatchResult result (λ x. ⊥) (λ e. (e ≡ f) ⊎ (e ≡ F.NoMemory))
    exact_of legal f g =
        elim result as (λ r. IfErr r Fault → OnOk r ((last : Activation) × IsLegalOrder program budget opening history order last) → (f ≡ F.NoMemory) ⊎ MatchResult r (λ x. ⊥) (λ e. (e ≡ f) ⊎ (e ≡ F.NoMemory))) [
          | Ok x ↦ λ h l. inl (legal_fault l.0 l.1 f g)
          | Err e ↦ λ h l. one_fault e f h g
        ] fault legal

pub err_weaker : {T : Type 0} (result : Result T OrderFault) (P Q : OrderFault → Type 0) → ((e : OrderFault) → P e → Q e) → IfErr result P → IfErr result Q
err_weaker (Ok u) P Q up h = tt
err_weaker (Err e) P Q up h = up e h

pub ok_weaker : {T : Type 0} (result : Result T OrderFault) (P Q : T → Type 0) → ((x : T) → P x → Q x) → IfOk result P → IfOk result Q
ok_weaker (Ok x) P Q up h = up x h
ok_weaker (Err e) P Q up h = tt
