-- A seat after turns, what the gate said of them, and their answers.
use Rattle.std.proofs.Common.{◌≡◌, ◌≢◌, ℕ, ◌<◌, ◌≤◌, ◌+◌, ◌++◌, ◌∷◌, ◌∙◌, [], List, ap, arith, length, map, refl, subst, sym, ⊎_elim}
use Rattle.std.specs.Prelude.{Err, IfOk, MatchOption, None, Ok, OnErr, Option, Result, Some}
use Rattle.std.proofs.lemmas.Bool.{cases_lt}
use Rattle.std.proofs.lemmas.List.{append-nil, append_assoc, length-append, map-append, same_from_push}
use Rattle.ob_desk_floor.specs.Seat.{HasTurned, IsLastAnswer, Seat, answered_call, answers_in, seat_after}
use Rattle.ob_desk_floor.specs.declared.seat.CallAnswer.{CallAnswer}
use Rattle.ob_interface.specs.Call.{Reply}
use Rattle.ob_interface.specs.declared.no_memory.NoMemory.{NoMemory}
use Rattle.ob_desk_serve.specs.Rounds.{AreLet, AreRefused, GoOnFrom, IsAfterTurns, IsLastAdded, IsLet, IsRefused, Says}
use Rattle.ob_desk_serve.specs.declared.worker.Ended.{Ended}
use Rattle.ob_desk_serve.specs.declared.worker.Ended.TheVariants as Ended
use Rattle.wf_history.specs.declared.event.CallId.{CallId}
use Rattle.wf_object.specs.View.{seen_in}
use Rattle.wf_records.specs.declared.records.Seen.{Seen}
use Rattle.wf_records.specs.declared.records.Seen.TheVariants as Seen
use Rattle.wf_table.specs.Object.{Answer, Begins, GoesOn, Halts, Replies}

pub no_turn : (s : Seat) → IsAfterTurns s s
no_turn s = record { process = refl; tag = refl; later = []; answers = sym (append-nil s.answers); turns = omega arith }

at_most_one : (a : Answer) → length (answers_in a) ≤ 1
at_most_one (Replies id reply) = omega arith
at_most_one GoesOn = omega arith
at_most_one (Begins id) = omega arith
at_most_one Halts = omega arith

pub one_turn : (a : Answer) (s : Seat) → IsAfterTurns s (seat_after a s)
one_turn a s = record { process = refl; tag = refl; later = answers_in a; answers = refl; turns = omega (arith, at_most_one a) }

pub more_turns : (a b c : Seat) → IsAfterTurns a b → IsAfterTurns b c → IsAfterTurns a c
more_turns a b c one two = record {
  process = two.process ∙ one.process;
  tag = two.tag ∙ one.tag;
  later = one.later ++ two.later;
  answers = two.answers ∙ ap (λ (l : List (CallId × Reply)). l ++ two.later) one.answers ∙ append_assoc a.answers one.later two.later;
  turns = omega (arith, one.turns, two.turns, length-append one.later two.later);
}

-- at most one turn more, which the gate let the process take
pub one_let_more : (passes : Says) (limit : ℕ) (before after : Seat) (refusals : ℕ) → after.process ≡ before.process → after.turns ≤ before.turns + 1 → refusals < limit → passes before.process before.turns refusals → AreLet passes limit before → AreLet passes limit after
one_let_more passes limit before after refusals same few less said so turns lt =
    ⊎_elim
    (λ earlier. subst (λ (p : ℕ). IsLet passes limit p turns) (sym same) (so turns earlier))
    (λ later.
    let now : before.turns ≡ turns = omega (arith, later, lt, few) in
    subst (λ (p : ℕ). IsLet passes limit p turns) (sym same) (subst (λ (k : ℕ). IsLet passes limit before.process k) now (refusals, less, said)))
    (cases_lt turns before.turns)

-- one refusal more
pub one_refused_more : (refuses : Says) (s : Seat) (count : ℕ) → refuses s.process s.turns count → AreRefused refuses s count → AreRefused refuses s (count + 1)
one_refused_more refuses s count said so k lt =
    ⊎_elim (λ earlier. so k earlier) (λ later. let now : count ≡ k = omega (arith, later, lt) in subst (λ (j : ℕ). refuses s.process s.turns j) now said) (cases_lt k count)

-- as many as the limit says
pub refused_as_often : (refuses : Says) (limit : ℕ) (before after : Seat) (count : ℕ) → after.process ≡ before.process → count ≡ limit → AreRefused refuses after count → IsRefused refuses limit before.process
refused_as_often refuses limit before after count same all so =
    (after.turns, λ k lt. subst (λ (p : ℕ). refuses p after.turns k) same (so k (subst (λ (n : ℕ). k < n) (sym all) lt)))

-- a turn that was taken or not is one turn more at most
pub turned : (r : Result Seen NoMemory) (before after : Seat) → IfOk r (λ seen. HasTurned seen before after) → OnErr r (after ≡ before) → IsAfterTurns before after × (after.turns ≤ before.turns + 1)
turned (Ok seen) before after taken none =
    let steps : (s : Seat) → s ≡ seat_after taken.answer before → IsAfterTurns before s × (s.turns ≤ before.turns + 1) =
    λ s is. subst (λ (x : Seat). IsAfterTurns before x × (x.turns ≤ before.turns + 1)) (sym is) (one_turn taken.answer before, omega arith) in
    steps after taken.turned
turned (Err e) before after taken none = subst (λ (x : Seat). IsAfterTurns before x × (x.turns ≤ before.turns + 1)) (sym none) (no_turn before, omega arith)

-- the gate let the process take that turn
pub turn_is_let : (passes : Says) (limit : ℕ) (before after : Seat) → after.process ≡ before.process → after.turns ≤ before.turns + 1 → IsLet passes limit before.process before.turns → AreLet passes limit before → AreLet passes limit after
turn_is_let passes limit before after same few said so = one_let_more passes limit before after said.0 same few said.1 said.2 so

-- nothing was refused yet
pub none_refused : (refuses : Says) (s : Seat) (count : ℕ) → count ≡ 0 → AreRefused refuses s count
none_refused refuses s count none k lt = absurd (omega (arith, lt, none))

-- ---- the answers

-- a copy of the seat's last answer was added
pub last_added : (s : Seat) (old new : List CallAnswer) (a : CallAnswer) → IsLastAnswer s.answers (Some a) → new ≡ old ++ a ∷ [] → IsLastAdded s old new
last_added s old new a is more = λ earlier last at.
    let same = same_from_push is.0 earlier (answered_call a) last (sym is.1 ∙ at) in
    ap (map answered_call) more ∙ map-append answered_call old (a ∷ []) ∙ ap (λ (x : CallId × Reply). map answered_call old ++ x ∷ []) same.1

-- it has none
pub no_last : (s : Seat) (old new : List CallAnswer) → IsLastAnswer s.answers None → IsLastAdded s old new
no_last s old new none = λ earlier last at. absurd (omega (arith, ap length (sym none ∙ at), length-append earlier (last ∷ [])))

-- the answer of the last turn was added
one_answer_more : (before after : Seat) (last : CallId × Reply) (old new : List CallAnswer) → after.answers ≡ before.answers ++ last ∷ [] → IsLastAdded after old new → GoOnFrom before old after new
one_answer_more before after last old new given added = λ earlier behind.
    given ∙ ap (λ (l : List (CallId × Reply)). l ++ last ∷ []) behind ∙ append_assoc earlier (map answered_call old) (last ∷ []) ∙ ap (λ (l : List (CallId × Reply)). earlier ++ l) (sym (added before.answers last given))

no_answer_more : (before after : Seat) (old new : List CallAnswer) → after.answers ≡ before.answers ++ [] → new ≡ old → GoOnFrom before old after new
no_answer_more before after old new given same = λ earlier behind.
    given ∙ append-nil before.answers ∙ behind ∙ ap (λ (l : List CallAnswer). earlier ++ map answered_call l) (sym same)

in_answered : (e : Option Ended) (P : Type 0) → MatchOption e P (λ ended. ended ≡ Ended.NoMemory) → e ≢ Some Ended.NoMemory → P
in_answered None P h enough = h
in_answered (Some e) P h enough = absurd (enough (ap Some h))

of_answer : (a : Answer) (seen : Seen) (before after : Seat) (old new : List CallAnswer) (e : Option Ended) → seen ≡ seen_in a → after.answers ≡ before.answers ++ answers_in a →
    (seen ≡ Seen.Answered → MatchOption e (IsLastAdded after old new) (λ ended. ended ≡ Ended.NoMemory)) → (seen ≢ Seen.Answered → new ≡ old) → e ≢ Some Ended.NoMemory → GoOnFrom before old after new
of_answer (Replies id reply) seen before after old new e shows given answered same enough = one_answer_more before after (id, reply) old new given (in_answered e (IsLastAdded after old new) (answered shows) enough)
of_answer GoesOn seen before after old new e shows given answered same enough = no_answer_more before after old new given (same (λ is. cc))
of_answer (Begins id) seen before after old new e shows given answered same enough = no_answer_more before after old new given (same (λ is. cc))
of_answer Halts seen before after old new e shows given answered same enough = no_answer_more before after old new given (same (λ is. cc))

-- what the end of a turn adds, unless memory wants, is the turn's answer
pub turn_added : (r : Result Seen NoMemory) (before after : Seat) (old new : List CallAnswer) (e : Option Ended) → IfOk r (λ seen. HasTurned seen before after) → OnErr r (e ≡ Some Ended.NoMemory) →
    (r ≡ Ok Seen.Answered → MatchOption e (IsLastAdded after old new) (λ ended. ended ≡ Ended.NoMemory)) → (r ≢ Ok Seen.Answered → new ≡ old) → e ≢ Some Ended.NoMemory → GoOnFrom before old after new
turn_added (Ok seen) before after old new e taken want answered same enough =
    of_answer taken.answer seen before after old new e taken.shows (ap (λ (s : Seat). s.answers) taken.turned) (λ is. answered (ap Ok is)) (λ other. same (λ is. other (cc))) enough
turn_added (Err f) before after old new e taken want answered same enough = absurd (enough want)

pub no_more : (s : Seat) (xs : List CallAnswer) → GoOnFrom s xs s xs
no_more s xs = λ earlier behind. behind

pub go_further : (s t u : Seat) (xs ys zs : List CallAnswer) → GoOnFrom s xs t ys → GoOnFrom t ys u zs → GoOnFrom s xs u zs
go_further s t u xs ys zs one two = λ earlier behind. two earlier (one earlier behind)
