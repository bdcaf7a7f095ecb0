-- An order is legal for events where it is legal for them and Applied events.
use Rattle.std.proofs.Common.{◌≡◌, ◌∙◌, ℕ, zero, suc, List, [], ◌∷◌, ◌++◌, Some, sym, ap, subst}
use Rattle.std.proofs.lemmas.List.Elements.{Contains-append_right}
use Rattle.std.proofs.lemmas.Option.{same_Some}
use Rattle.std.specs.List.{slice_get, Contains}
use Rattle.ob_code_correct.specs.Named.{CallMeans}
use Rattle.ob_interface.specs.Call.{ObjectCall, Reply}
use Rattle.ob_object_calls.specs.RunRecords.{LegalRunsAreVerified, without_applied}
use Rattle.wf_history.proofs.Positions.{contains_at, place_of}
use Rattle.wf_history.specs.declared.event.CallId.{CallId}
use Rattle.wf_history.specs.History.{Event, Begin, Applied, End, Before, before}
use Rattle.wf_history.specs.Legal.{HasBegun, IsLegal, OneAtATime, RepliesAgree, more, none}

module _ {Call Reply : Type 0} where
  -- the event is one of a call
  abbrev IsOfCall : Event Call Reply → Type 0
  IsOfCall (Begin id call) = Unit {0}
  IsOfCall (Applied ids) = ⊥
  IsOfCall (End id reply) = Unit {0}

  there : (y x : Event Call Reply) (xs : List (Event Call Reply)) → Contains xs x → Contains (y ∷ xs) x
  there y x xs h = Contains-append_right (y ∷ []) xs x h

  stays : (events : List (Event Call Reply)) (e : Event Call Reply) (k : ℕ) → IsOfCall e → slice_get events k ≡ Some e → Contains (without_applied events) e
  stays [] e k of at = absurd (cc)
  stays (Begin id call ∷ events) e zero of at = contains_at (Begin id call ∷ without_applied events) zero e at
  stays (Begin id call ∷ events) e (suc k) of at = there (Begin id call) e (without_applied events) (stays events e k of at)
  stays (Applied ids ∷ events) e zero of at = absurd (subst IsOfCall (sym (same_Some (Applied ids) e at)) of)
  stays (Applied ids ∷ events) e (suc k) of at = stays events e k of at
  stays (End id reply ∷ events) e zero of at = contains_at (End id reply ∷ without_applied events) zero e at
  stays (End id reply ∷ events) e (suc k) of at = there (End id reply) e (without_applied events) (stays events e k of at)

  comes : (events : List (Event Call Reply)) (e : Event Call Reply) (k : ℕ) → slice_get (without_applied events) k ≡ Some e → Contains events e
  comes [] e k at = absurd (cc)
  comes (Begin id call ∷ events) e zero at = contains_at (Begin id call ∷ events) zero e at
  comes (Begin id call ∷ events) e (suc k) at = there (Begin id call) e events (comes events e k at)
  comes (Applied ids ∷ events) e k at = there (Applied ids) e events (comes events e k at)
  comes (End id reply ∷ events) e zero at = contains_at (End id reply ∷ events) zero e at
  comes (End id reply ∷ events) e (suc k) at = there (End id reply) e events (comes events e k at)

  begun_still : (events : List (Event Call Reply)) (id : CallId) (call : Call) → HasBegun events id call → HasBegun (without_applied events) id call
  begun_still events id call h =
      let p = place_of events (Begin id call) h in stays events (Begin id call) p.0 tt p.1

  ended_before : (events : List (Event Call Reply)) (id : CallId) (reply : Reply) → Contains (without_applied events) (End id reply) → Contains events (End id reply)
  ended_before events id reply h =
      let p = place_of (without_applied events) (End id reply) h in comes events (End id reply) p.0 p.1

  -- an event stands among all events where it does without the Applied ones
  record Parts (events : List (Event Call Reply)) (e : Event Call Reply) (last : List (Event Call Reply)) : Type 0 where
    front : List (Event Call Reply)
    back : List (Event Call Reply)
    parts : events ≡ front ++ e ∷ back
    rest : without_applied back ≡ last

  one_more : (y : Event Call Reply) (events last : List (Event Call Reply)) (e : Event Call Reply) → Parts events e last → Parts (y ∷ events) e last
  one_more y events last e p = record { front = y ∷ p.front; back = p.back; parts = ap (λ (es : List (Event Call Reply)). y ∷ es) p.parts; rest = p.rest }

  first_is : (y e : Event Call Reply) (xs ys : List (Event Call Reply)) → y ∷ xs ≡ e ∷ ys → (y ≡ e) × (xs ≡ ys)
  first_is y e xs ys h = (cc, cc)

  parts_first : (y : Event Call Reply) (events : List (Event Call Reply)) (e : Event Call Reply) (first last : List (Event Call Reply)) →
      ((front : List (Event Call Reply)) → without_applied events ≡ front ++ e ∷ last → Parts events e last) → y ∷ without_applied events ≡ first ++ e ∷ last → Parts (y ∷ events) e last
  parts_first y events e [] last behind h =
      let same = first_is y e (without_applied events) last h in
      record { front = []; back = events; parts = ap (λ (x : Event Call Reply). x ∷ events) same.0; rest = same.1 }
  parts_first y events e (f ∷ first) last behind h = one_more y events last e (behind first (first_is y f (without_applied events) (first ++ e ∷ last) h).1)

  parts_of : (events : List (Event Call Reply)) (e : Event Call Reply) (first last : List (Event Call Reply)) → without_applied events ≡ first ++ e ∷ last → Parts events e last
  parts_of [] e [] last h = absurd (cc)
  parts_of [] e (f ∷ first) last h = absurd (cc)
  parts_of (Begin id call ∷ events) e first last h = parts_first (Begin id call) events e first last (λ front k. parts_of events e front last k) h
  parts_of (Applied ids ∷ events) e first last h = one_more (Applied ids) events last e (parts_of events e first last h)
  parts_of (End id reply ∷ events) e first last h = parts_first (End id reply) events e first last (λ front k. parts_of events e front last k) h

  before_still : (events : List (Event Call Reply)) (a b : CallId) → Before (without_applied events) a b → Before events a b
  before_still events a b (before reply call first between last h) =
      let p = parts_of events (End a reply) first (between ++ Begin b call ∷ last) h in
      let q = parts_of p.back (Begin b call) between last p.rest in
      before reply call p.front q.front q.back (p.parts ∙ ap (λ (es : List (Event Call Reply)). p.front ++ End a reply ∷ es) q.parts)

  module _ {State : Type 0} (Effect : Call → State → State → Reply → Type 0) (events : List (Event Call Reply)) where
    made_still : (from to : State) (ids : List CallId) (replies : List Reply) → OneAtATime (HasBegun events) Effect from ids replies to → OneAtATime (HasBegun (without_applied events)) Effect from ids replies to
    made_still from to ids replies none = none
    made_still from to ids replies (more {between = between} {id = id} {ids = rest} {call = call} {answers = others} begun does later) =
        more (begun_still events id call begun) does (made_still between to rest others later)

    agree_still : (ids : List CallId) (replies : List Reply) → RepliesAgree events ids replies → RepliesAgree (without_applied events) ids replies
    agree_still ids replies none = none
    agree_still ids replies (more {id = id} {ids = rest} {replies = others} same later) =
        more (λ other ends. same other (ended_before events id other ends)) (agree_still rest others later)

    pub legal_still : (opening last : State) (order : List CallId) → IsLegal Effect opening events order last → IsLegal Effect opening (without_applied events) order last
    legal_still opening last order l =
        record {
          once = l.once;
          ended = λ id reply ends. l.ended id reply (ended_before events id reply ends);
          in_time = λ first second third a b split early. l.in_time first second third a b split (before_still events b a early);
          replies = l.replies;
          made = made_still opening last order l.replies l.made;
          agree = agree_still order l.replies l.agree;
        }

pub runs_verified : LegalRunsAreVerified
runs_verified module_text record_text program opening last events tells is_module is_record begins shown legal =
    record {
      program = program;
      is_module = is_module;
      is_legal = record {
        tells = tells;
        is_record = is_record;
        opening = opening;
        begins = begins;
        last = last;
        legal = subst (λ (es : List (Event ObjectCall Reply)). IsLegal (CallMeans program tells.budget) opening es tells.order last) (sym shown)
            (legal_still (CallMeans program tells.budget) events opening last tells.order legal);
      };
    }
