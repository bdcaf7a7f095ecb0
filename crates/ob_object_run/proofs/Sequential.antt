-- Calls that are made one at a time have the replies that a legal order of the same calls gives.
use Rattle.std.proofs.Common.{◌≡◌, ℕ, zero, suc, ◌+◌, ◌-◌, ◌<◌, ◌≤◌, List, [], ◌∷◌, length, get_or, refl, sym, ap, ◌∙◌, arith, subst, true}
use Rattle.std.specs.Prelude.{Option, Some, None, slice_get}
use Rattle.std.specs.Cmp.Lexicographic.{pointwise}
use Rattle.std.specs.List.{Contains}
use Rattle.std.proofs.Math.Bool.{Bool-set}
use Rattle.std.proofs.Math.Bridge.{le_prop}
use Rattle.std.proofs.Math.Logic.{∥∥₁_elim, ∥∥₁_map}
use Rattle.std.proofs.Math.Nat.{ℕ_set}
use Rattle.std.proofs.lemmas.List.FromFn.{get_or-map-range_with_len}
use Rattle.std.proofs.lemmas.Option.{same_Some, slice_get-get_or, get_or_from_slice_get, slice_get_within}
use Rattle.std.proofs.lemmas.Slice.Eq.{slice_eq-Decides}
use Rattle.ob_interface.specs.declared.scalar.Scalar.{Scalar}
use Rattle.ob_interface.specs.Call.{Answers, ObjectCall, Reply, Trapped}
use Rattle.ob_typing.specs.Program.{Program}
use Rattle.ob_meaning.specs.ByNameObject.{Effect, State, effect, replies_to}
use Rattle.ob_code_correct.specs.Named.{CallMeans}
use Rattle.ob_object_run.specs.OwnCalls.{HasReplies}
use Rattle.wf_history.specs.declared.event.CallId.{CallId}
use Rattle.wf_history.specs.History.{Event, End, IsHistory}
use Rattle.wf_history.specs.Legal.{HasBegun, IsLegal, OneAtATime, RepliesAgree, more}
use Rattle.wf_history.proofs.Once.{one_call}
use Rattle.wf_history.proofs.Same.{scalar_eq, scalar_decides}
use Rattle.wf_theorems.specs.FirstCalls.{AreFirstCalls, first_ids}

-- replies that are equal as a mere fact are equal
same_values : (a b : List Scalar) → ∥ Answers a ≡ Answers b ∥₁ → a ≡ b
same_values a b h =
    let test = pointwise scalar_eq a b in
    let decides = slice_eq-Decides {E = scalar_eq} scalar_decides a b test refl in
    decides.0 (∥∥₁_elim h (Bool-set test true) (λ e. let lists : a ≡ b = cc in decides.1 lists))

same_reply : (a b : Reply) → ∥ a ≡ b ∥₁ → a ≡ b
same_reply (Answers a) (Answers b) h = ap Answers (same_values a b h)
same_reply (Answers a) (Trapped k) h = absurd (∥∥₁_elim h (λ x y. absurd x) (λ e. absurd (cc)))
same_reply (Trapped k) (Answers b) h = absurd (∥∥₁_elim h (λ x y. absurd x) (λ e. absurd (cc)))
same_reply (Trapped k) (Trapped j) h = ap Trapped (∥∥₁_elim h (ℕ_set k j) (λ e. cc))

same_found : (a : Option Reply) (b : Reply) → ∥ a ≡ Some b ∥₁ → a ≡ Some b
same_found None b h = absurd (∥∥₁_elim h (λ x y. absurd x) (λ e. absurd (cc)))
same_found (Some a) b h = ap Some (same_reply a b (∥∥₁_map h (λ e. same_Some a b e)))

-- in each place, by the first reply and those behind it
by_place : (k : ℕ) (reply a : Reply) (rest answers : List Reply) → a ≡ reply → (answer : Reply) → ((j : ℕ) (b : Reply) → slice_get answers j ≡ Some b → slice_get rest j ≡ Some b) → slice_get (a ∷ answers) k ≡ Some answer → slice_get (reply ∷ rest) k ≡ Some answer
by_place zero reply a rest answers is answer later at = ap Some (sym is) ∙ at
by_place (suc k) reply a rest answers is answer later at = later k answer at

module _ (program : Program) (budget : ℕ) (history : List (Event ObjectCall Reply)) (whole : IsHistory history) where
  -- these ids began as these calls, each in its place
  abbrev Began : List CallId → List ObjectCall → Type 0
  Began ids calls = (k : ℕ) (id : CallId) (call : ObjectCall) → slice_get ids k ≡ Some id → slice_get calls k ≡ Some call → HasBegun history id call

  abbrev Made : State → List CallId → List Reply → State → Type 0
  Made = OneAtATime (HasBegun history) (CallMeans program budget)

  -- so what they answer one at a time is what the calls give
  same_answers : (ids : List CallId) (calls : List ObjectCall) (answers : List Reply) (before last : State) → Made before ids answers last → Began ids calls → length ids ≤ length calls →
      (k : ℕ) (answer : Reply) → slice_get answers k ≡ Some answer → slice_get (replies_to program budget before calls) k ≡ Some answer
  same_answers [] calls [] before last made began few k answer at = absurd (cc)
  same_answers [] calls (a ∷ answers) before last made began few k answer at = elim made [ ]
  same_answers (id ∷ ids) (call ∷ calls) [] before last made began few k answer at = elim made [ ]
  same_answers (id ∷ ids) [] answers before last made began few k answer at = absurd (omega (arith, few))
  same_answers (id ∷ ids) (call ∷ calls) (a ∷ answers) before last (more {between = between} {call = other} made ends rest) began few k answer at =
      let same = one_call history whole id other call made (began 0 id call refl refl) in
      let there = subst (λ (c : ObjectCall). effect program c budget before ≡ record { state = between; reply = a }) same ends in
      let after = ap (λ (e : Effect). e.state) there in
      let later = same_answers ids calls answers (effect program call budget before).state last
      (subst (λ (s : State). Made s ids answers last) (sym after) rest) (λ j. began (suc j)) (omega (arith, few)) in
      by_place k (effect program call budget before).reply a (replies_to program budget (effect program call budget before).state calls) answers
      (sym (ap (λ (e : Effect). e.reply) there)) answer later at

  -- a call of the order that ended has the reply of its place
  agreed_at : (ids : List CallId) (answers : List Reply) (k : ℕ) (id : CallId) (reply : Reply) → RepliesAgree history ids answers → slice_get ids k ≡ Some id → Contains history (End id reply) → slice_get answers k ≡ Some reply
  agreed_at [] answers k id reply agree here ended = absurd (cc)
  agreed_at (i ∷ ids) [] k id reply agree here ended = elim agree [ ]
  agreed_at (i ∷ ids) (a ∷ answers) zero id reply (more first rest) here ended = ap Some (sym (first reply (subst (λ (x : CallId). Contains history (End x reply)) (sym (same_Some i id here)) ended)))
  agreed_at (i ∷ ids) (a ∷ answers) (suc k) id reply (more first rest) here ended = agreed_at ids answers k id reply rest here ended

  -- an id of the first ones is of its place
  id_at : (order : List CallId) (k : ℕ) (id : CallId) → order ≡ first_ids 0 (length order) → slice_get order k ≡ Some id → id ≡ record { process = 0; number = k + 1 }
  id_at order k id in_turn here =
      let lt = slice_get_within order k id here in
      let place : 1 + k ≡ k + 1 = omega arith in
      sym (get_or_from_slice_get order k id id here)
      ∙ ap (λ (ids : List CallId). get_or ids k id) in_turn
      ∙ get_or-map-range_with_len (λ (n : ℕ). record { process = 0; number = n }) 1 (length order) k (k + 1) id lt place

  abbrev HasReply : List Reply → ℕ → Reply → Type 0
  HasReply replies number reply = (0 < number) × (slice_get replies (number - 1) ≡ Some reply)

  -- which is the one of its number
  ended_at : (order : List CallId) (calls : List ObjectCall) (first last : State) → AreFirstCalls 0 calls history order → IsLegal (CallMeans program budget) first history order last →
      (number : ℕ) (reply : Reply) → Contains history (End (record { process = 0; number = number }) reply) → HasReply (replies_to program budget first calls) number reply
  ended_at order calls first last are legal number reply ended =
      let id : CallId = record { process = 0; number = number } in
      let there = legal.ended id reply ended in
      let k = there.0 in
      let here : slice_get order k ≡ Some id = slice_get-get_or order k id there.1 ∙ ap Some there.2 in
      let is : number ≡ k + 1 = ap (λ (x : CallId). x.number) (id_at order k id are.in_turn here) in
      let place : number - 1 ≡ k = omega (arith, is) in
      let began : Began order calls = λ j x call at called. subst (λ (y : CallId). HasBegun history y call) (sym (id_at order j x are.in_turn at)) (are.began j call (slice_get_within order j x at) called) in
      let found = same_answers order calls legal.replies first last legal.made began are.few k reply (agreed_at order legal.replies k id reply legal.agree here ended) in
      (omega (arith, is), ap (slice_get (replies_to program budget first calls)) place ∙ found)

  abbrev HasOrder : State → List CallId → Type 0
  HasOrder first order = (last : State) × IsLegal (CallMeans program budget) first history order last

  pub has_replies : (order : List CallId) (calls : List ObjectCall) (first : State) → AreFirstCalls 0 calls history order → ∥ HasOrder first order ∥₁ → HasReplies 0 history (replies_to program budget first calls)
  has_replies order calls first are legal number reply ended = (
    ∥∥₁_elim legal le_prop (λ l. (ended_at order calls first l.0 are l.1 number reply ended).0),
    same_found (slice_get (replies_to program budget first calls) (number - 1)) reply (∥∥₁_map legal (λ l. (ended_at order calls first l.0 are l.1 number reply ended).1)),
  )
