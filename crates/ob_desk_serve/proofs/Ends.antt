-- What the faults of the parts of serving say of the whole, and what the seats that came back show.
use Rattle.std.proofs.Common.{◌≡◌, ◌+◌, ◌<◌, ◌∙◌, [], ◌∷◌, All, Bool, Global, List, None, Option, Some, Vec, ap, arith, cond, false, length, map, nat_eq, refl, suc, subst, sym, true, zero, ℕ}
use Rattle.std.specs.Prelude.{IfSome, slice_get}
use Rattle.std.specs.List.{AllZip}
use Rattle.std.proofs.lemmas.Bool.Decides.{nat_tests}
use Rattle.std.proofs.lemmas.List.{length-map}
use Rattle.std.proofs.lemmas.List.Elements.{All-append, All-cons, All-head, All-map, All-nil, All-tail}
use Rattle.std.proofs.lemmas.List.Sums.{sum_by-cons}
use Rattle.std.proofs.lemmas.List.FromFn.{get_or-map-range_with_len, length-map-range_with_len}
use Rattle.std.proofs.lemmas.Option.{none-some, same_Some, slice_get-get_or}
use Rattle.std.proofs.lemmas.Slice.Zip.{AllZip-long}
use Rattle.ob_desk_floor.specs.Close.{AreSeats, seats_at}
use Rattle.ob_desk_floor.specs.Desk.{seats_of}
use Rattle.ob_desk_floor.specs.Agreeing.{Agrees}
use Rattle.ob_desk_floor.specs.Floor.{turns_in}
use Rattle.ob_desk_floor.specs.Seat.{Seat, answered_call, new_seat}
use Rattle.ob_desk_floor.specs.declared.seat.CallAnswer.{CallAnswer}
use Rattle.ob_desk_serve.specs.Rounds.{AreLet, HasWorked, Hears, IsLet, IsRefused, Says}
use Rattle.ob_desk_serve.specs.declared.worker.Ended.{Ended}
use Rattle.ob_desk_serve.specs.declared.worker.Worked.{Worked}
use Rattle.ob_interface.specs.Call.{ObjectCall, Reply}
use Rattle.ob_object_compile.specs.Compilation.{ObjectParts}
use Rattle.ob_desk_serve.specs.NotAllEnded.{AreBack, AreOf, HaveAllServed, HaveServed, IsGatherFault, NoneEnded, hidden, how_ended, lists_in, started}
use Rattle.ob_desk_serve.specs.ServeFaults.{HasLost, IsFinishFault, IsServeFault, TellsClosing}
use Rattle.ob_desk_serve.specs.PromisesOfServe.{AreAnswersTold, AreTurnsLet, desk_of}
use Rattle.ob_desk_serve.specs.declared.ended_workers.HandedBack.{HandedBack}
use Rattle.ob_desk_serve.specs.declared.fault.ServeFault.{ServeFault}
use Rattle.ob_desk_serve.specs.declared.fault.ServeFault.TheVariants as Faults
use Rattle.ob_text_words.specs.ScriptCalls.{ScriptCall}
use Rattle.wf_history.specs.History.{Event, own_answers}
use Rattle.wf_history.specs.declared.event.CallId.{CallId}
use Rattle.wf_table.specs.declared.schedule.Turns.{Turns}

seat_at : (n p : ℕ) → p < n → slice_get (seats_of n 0) p ≡ Some (new_seat p 0)
seat_at n p lt =
    let f : ℕ → Seat = λ q. new_seat q 0 in
    let long : p < length (seats_of n 0) = omega (arith, lt, length-map-range_with_len f 0 n) in
    slice_get-get_or (seats_of n 0) p (f 0) long ∙ ap Some (get_or-map-range_with_len f 0 n p p (f 0) lt (omega arith))

module _ (passes refuses : Says) (hears : Hears) (limit : ℕ) where
  abbrev Works : Seat → Worked → Type 0
  Works s w = HasWorked passes refuses hears hidden limit s w

  abbrev MayWork : Seat → Option Worked → Type 0
  MayWork s w = IfSome w (HasWorked passes refuses hears hidden limit s)

  -- a worker that ended as refused was
  refused_at : (seats : List Seat) (workers : List (Option Worked)) → AllZip MayWork seats workers → (k : ℕ) (s : Seat) (x : Option Worked) → slice_get seats k ≡ Some s → slice_get workers k ≡ Some x → how_ended x ≡ Some Ended.Refused → IsRefused refuses limit s.process
  refused_at [] workers z k s x at there ends = absurd (none-some s at)
  refused_at (t ∷ seats) [] z k s x at there ends = absurd z
  refused_at (t ∷ seats) (None ∷ workers) z zero s x at there ends = absurd (none-some Ended.Refused (ap how_ended (same_Some None x there) ∙ ends))
  refused_at (t ∷ seats) (Some w ∷ workers) z zero s x at there ends =
      subst (λ (u : Seat). IsRefused refuses limit u.process) (same_Some t s at) (z.0.refused (same_Some w.ended Ended.Refused (ap how_ended (same_Some (Some w) x there) ∙ ends)))
  refused_at (t ∷ seats) (w ∷ workers) z (suc k) s x at there ends = refused_at seats workers z.1 k s x at there ends

  well : (e : Ended) → (Some e ≡ Some Ended.NoMemory → ⊥) → (Some e ≡ Some Ended.Refused → ⊥) → e ≡ Ended.Done
  well Ended.Done enough passed = refl
  well Ended.Refused enough passed = absurd (passed refl)
  well Ended.NoMemory enough passed = absurd (enough refl)

  -- where each was started and none ended otherwise, each has worked and ended well
  all_served : (seats : List Seat) (workers : List (Option Worked)) → AllZip MayWork seats workers → NoneEnded None workers → NoneEnded (Some Ended.NoMemory) workers → NoneEnded (Some Ended.Refused) workers →
      AllZip Works seats (started workers) × All (λ w. w.ended ≡ Ended.Done) (started workers)
  all_served [] [] z all enough passed = (tt, All-nil (λ (w : Worked). w.ended ≡ Ended.Done))
  all_served [] (w ∷ workers) z all enough passed = absurd z
  all_served (s ∷ seats) [] z all enough passed = absurd z
  all_served (s ∷ seats) (None ∷ workers) z all enough passed = absurd (All-head (λ (x : Option Worked). how_ended x ≡ None → ⊥) None workers all refl)
  all_served (s ∷ seats) (Some w ∷ workers) z all enough passed =
      let here : Option Worked = Some w in
      let rest = all_served seats workers z.1
      (All-tail (λ (x : Option Worked). how_ended x ≡ None → ⊥) here workers all)
      (All-tail (λ (x : Option Worked). how_ended x ≡ Some Ended.NoMemory → ⊥) here workers enough)
      (All-tail (λ (x : Option Worked). how_ended x ≡ Some Ended.Refused → ⊥) here workers passed) in
      let done = well w.ended (All-head (λ (x : Option Worked). how_ended x ≡ Some Ended.NoMemory → ⊥) here workers enough) (All-head (λ (x : Option Worked). how_ended x ≡ Some Ended.Refused → ⊥) here workers passed) in
      ((z.0, rest.0), All-cons (λ (x : Worked). x.ended ≡ Ended.Done) w (started workers) done rest.1)

  pub have_all_served : (n : ℕ) (workers : List (Option Worked)) (b : HandedBack) → HaveServed passes refuses hears limit n workers → AreBack workers b → HaveAllServed passes refuses hears limit n (started workers)
  have_all_served n workers b served back =
      let all = all_served (seats_of n 0) workers served back.all back.enough back.passed in
      record { each = all.0; well = all.1 }

  -- a list of answers of each process
  pub as_many_lists : (n : ℕ) (worked : List Worked) (b : HandedBack) → HaveAllServed passes refuses hears limit n worked → AreOf worked b → length b.answers.items ≡ n
  as_many_lists n worked b served are =
      let items : Vec CallAnswer Global → List CallAnswer = λ list. list.items in
      let lists : Worked → List CallAnswer = λ w. w.answers.items in
      sym (length-map b.answers.items items) ∙ ap length are.answers ∙ length-map worked lists ∙ AllZip-long Works (seats_of n 0) worked served.each ∙ length-map-range_with_len (λ (q : ℕ). new_seat q 0) 0 n

  -- ---- what each seat shows

  -- its gate let it take each turn, and was told of each answer
  abbrev pub IsServed : Seat → Type 0
  IsServed s = AreLet passes limit s × All (λ a. hears a.0.process a.0.number) s.answers

  done_is_enough : (e : Ended) → e ≡ Ended.Done → e ≡ Ended.NoMemory → ⊥
  done_is_enough e done short = cc

  of_worked : (s : Seat) (w : Worked) → IsServed s → HasWorked passes refuses hears hidden limit s w → w.ended ≡ Ended.Done → IsServed w.seat
  of_worked s w so has done =
      let told : CallId × Reply → Type 0 = λ a. hears a.0.process a.0.number in (
        has.are_let so.0,
        subst (All told) (sym (has.answers (done_is_enough w.ended done))) (All-append told s.answers (map answered_call w.answers.items) so.1 (All-map told answered_call w.answers.items has.told)),
      )

  all_of_worked : (seats : List Seat) (worked : List Worked) → AllZip Works seats worked → All (λ w. w.ended ≡ Ended.Done) worked → All IsServed seats → All IsServed (map (λ w. w.seat) worked)
  all_of_worked [] [] z done so = All-nil IsServed
  all_of_worked [] (w ∷ worked) z done so = absurd z
  all_of_worked (s ∷ seats) [] z done so = absurd z
  all_of_worked (s ∷ seats) (w ∷ worked) z done so =
      let ends : Worked → Type 0 = λ x. x.ended ≡ Ended.Done in
      let seat : Worked → Seat = λ x. x.seat in
      All-cons IsServed w.seat (map seat worked)
      (of_worked s w (All-head IsServed s seats so) z.0 (All-head ends w worked done))
      (all_of_worked seats worked z.1 (All-tail ends w worked done) (All-tail IsServed s seats so))

  new_is_served : (k : ℕ) → IsServed (new_seat k 0)
  new_is_served k = ((λ turns none. absurd (omega arith)), All-nil (λ (a : CallId × Reply). hears a.0.process a.0.number))

  pub back_are_served : (n : ℕ) (worked : List Worked) (b : HandedBack) → HaveAllServed passes refuses hears limit n worked → AreOf worked b → All IsServed b.seats.items
  back_are_served n worked b served are =
      subst (All IsServed) (sym are.seats)
      (all_of_worked (seats_of n 0) worked served.each served.well (λ k d lt.
      let f : ℕ → Seat = λ q. new_seat q 0 in
      let below : k < n = omega (arith, lt, length-map-range_with_len f 0 n) in
      subst IsServed (sym (get_or-map-range_with_len f 0 n k k d below (omega arith))) (new_is_served k)))

module _ (passes refuses : Says) (hears : Hears) (limit : ℕ) (o : ObjectParts) (scripts : List ScriptCall) where
  -- what is told of workers that did not end well
  pub gather_fault : (workers : List (Option Worked)) → HaveServed passes refuses hears limit o.processes workers → (e : ServeFault) → IsGatherFault workers e → IsServeFault passes refuses hears limit o scripts e
  gather_fault workers served (Faults.NotStarted p) h =
      let long = AllZip-long (MayWork passes refuses hears limit) (seats_of o.processes 0) workers served in
      let below : p < o.processes = omega (arith, h.within, long, length-map-range_with_len (λ (q : ℕ). new_seat q 0) 0 o.processes) in
      (below, workers, served, h)
  gather_fault workers served Faults.NoMemory h = tt
  gather_fault workers served (Faults.Refused p) h =
      let long = AllZip-long (MayWork passes refuses hears limit) (seats_of o.processes 0) workers served in
      let below : p < o.processes = omega (arith, h.2.within, long, length-map-range_with_len (λ (q : ℕ). new_seat q 0) 0 o.processes) in
      (below, refused_at passes refuses hears limit (seats_of o.processes 0) workers served p (new_seat p 0) h.2.worker (seat_at o.processes p below) h.2.there h.2.ended)
  gather_fault workers served (Faults.Lost p) h = absurd h
  gather_fault workers served (Faults.Close e) h = absurd h

  -- what is told of workers that did
  pub finish_fault : (worked : List Worked) (b : HandedBack) → HaveAllServed passes refuses hears limit o.processes worked → AreOf worked b → (e : ServeFault) → IsFinishFault o scripts b.seats.items (lists_in b) e → IsServeFault passes refuses hears limit o scripts e
  finish_fault worked b served are (Faults.NotStarted p) h = absurd h
  finish_fault worked b served are Faults.NoMemory h = tt
  finish_fault worked b served are (Faults.Refused p) h = absurd h
  finish_fault worked b served are (Faults.Lost p) h = (
    worked,
    served,
    subst (λ (seats : List Seat). HasLost o scripts seats (map (λ w. w.answers.items) worked) p) are.seats
        (subst (λ (lists : List (List CallAnswer)). HasLost o scripts b.seats.items lists p) are.answers h),
  )
  finish_fault worked b served are (Faults.Close e) h = (worked, served, subst (λ (seats : List Seat). TellsClosing o scripts seats e) are.seats h)

  -- of each process there is a seat
  fewer : (p : ℕ) (s : Seat) (seats : List Seat) → 0 < seats_at p (s ∷ seats) → nat_eq s.process p ≡ false → 0 < seats_at p seats
  fewer p s seats some other =
      let all : seats_at p (s ∷ seats) ≡ cond false 1 0 + seats_at p seats = sum_by-cons (λ (x : Seat). cond (nat_eq x.process p) 1 0) s seats ∙ ap (λ (b : Bool). cond b 1 0 + seats_at p seats) other in
      omega (arith, some, all)

  by_first : (P : Seat → Type 0) (p : ℕ) (s : Seat) (seats : List Seat) (b : Bool) → nat_eq s.process p ≡ b → P s → (b ≡ false → (t : Seat) × (t.process ≡ p) × P t) → (t : Seat) × (t.process ≡ p) × P t
  by_first P p s seats true is so others = (s, grind (arith, nat_tests, is), so)
  by_first P p s seats false is so others = others refl

  seat_of : (P : Seat → Type 0) (p : ℕ) (seats : List Seat) → 0 < seats_at p seats → All P seats → (s : Seat) × (s.process ≡ p) × P s
  seat_of P p [] some so = absurd (omega (arith, some))
  seat_of P p (s ∷ seats) some so =
      by_first P p s seats (nat_eq s.process p) refl (All-head P s seats so) (λ other. seat_of P p seats (fewer p s seats some other) (All-tail P s seats so))

  module _ (history : List (Event ObjectCall Reply)) (schedule : List Turns) (seats : List Seat) (own : AreSeats (desk_of o scripts) seats) (agree : All (Agrees history schedule) seats) (so : All (IsServed passes refuses hears limit) seats) where
    abbrev Shows : Seat → Type 0
    Shows s = Agrees history schedule s × IsServed passes refuses hears limit s

    both : All Shows seats
    both = λ k d lt. (agree k d lt, so k d lt)

    -- so its gate let each process take each of its turns
    pub turns_are_let : AreTurnsLet passes limit o.processes schedule
    turns_are_let p turns below lt =
        let it = seat_of Shows p seats (omega (arith, own.each p below)) both in
        let all : it.0.turns ≡ turns_in p schedule = it.2.0.turns ∙ ap (λ (k : ℕ). turns_in k schedule) it.1 in
        subst (λ (k : ℕ). IsLet passes limit k turns) it.1 (it.2.1.0 turns (omega (arith, lt, all)))

    -- and was told of each of its answers
    pub answers_are_told : AreAnswersTold hears o.processes history
    answers_are_told p below =
        let it = seat_of Shows p seats (omega (arith, own.each p below)) both in
        let all : it.0.answers ≡ own_answers p history = it.2.0.answers ∙ ap (λ (k : ℕ). own_answers k history) it.1 in
        subst (All (λ (a : CallId × Reply). hears a.0.process a.0.number)) all it.2.1.1
