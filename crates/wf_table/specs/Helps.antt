-- Help with order: what the own block of a process holds behind a whole copy, and how far it is in a call that it serves.
use Rattle.std.specs.Prelude.{◌≡◌, ◌≢◌, ℕ, ◌+◌, ◌%◌, ◌<◌, ◌≤◌, Bool, true, false, ℤ, pos, List, ◌∷◌, ◌++◌, length, map, take, not, replicate, slice_index, Contains, if◌then◌else◌}
use Rattle.std.specs.List.{All, range_with_len, filter}
use Rattle.std.proofs.Common.{int_eq}
use Rattle.ll_cell.specs.Cell.{Cell, is_linked, block_of, announcement_of, word_at}
use Rattle.ob_interface.specs.Call.{ObjectCall, Reply}
use Rattle.wf_history.specs.declared.event.CallId.{CallId}
use Rattle.wf_history.specs.History.{Event}
use Rattle.wf_history.specs.Legal.{HasBegun}
use Rattle.wf_table.specs.declared.process.Label.{Label}
use Rattle.wf_table.specs.declared.process.Label.TheVariants.{Fetch, Check2, Save, Enter, Body, Undo, Keep}
use Rattle.wf_table.specs.Labels.{holding, holds_variables, at_keep}
use Rattle.wf_table.specs.declared.process.Sizes.{Sizes}
use Rattle.wf_table.specs.declared.engine_turn.EngineTurn.TheVariants.{On}
use Rattle.wf_table.specs.Meaning.{Meaning, body, kept}
use Rattle.wf_table.specs.StepTable.{Process, own_block, toggle_in}
use Rattle.wf_table.specs.Object.{Records, State}
use Rattle.wf_table.specs.Marks.{applied_in}
use Rattle.wf_table.specs.Toggles.{flips}
use Rattle.wf_table.specs.Each.{Each}
use Rattle.wf_table.specs.Helping.{has_copied, looked_at}
use Rattle.wf_table.specs.Order.{applied_count}
use Rattle.wf_table.specs.HelpAndOrder.{phase}
use Rattle.wf_table.specs.HelpAlone.{Alone}
use Rattle.wf_table.specs.Contents.{last_words, no_words, reply_word, IsMade, RootHolds}

-- calls that the first so many events of a history applied
abbrev pub upto : ℕ → List (Event ObjectCall Reply) → List CallId
upto h history = applied_in (take h history)

-- of the first so many processes those whose toggles differ between two blocks, each with its call that was announced last
abbrev pub made_below : Sizes → List ℤ → List ℤ → List ℕ → ℕ → List CallId
made_below z old new flips j =
    map (λ q. record { process = q; number = slice_index flips q })
    (filter (λ q. not (int_eq (toggle_in z old q) (toggle_in z new q))) (range_with_len 0 j))

-- what is known of the own block of a process but can't be read off the object: the length of the history when its link was
-- last seen to stand, the calls applied by then and those that it made since, the words of their replies and the variables
-- that they lead to; of the call that it serves the number, the call itself, and how many steps of its body are done
pub record Witness : Type 0 where
  pub length : ℕ
  pub before : List CallId
  pub helped : List CallId
  pub words : List (List ℤ)
  pub last : List ℤ
  pub number : ℕ
  pub call : ObjectCall
  pub count : ℕ

-- the calls that are made in the own block
abbrev pub calls_of : Witness → List CallId
calls_of w = w.before ++ w.helped

-- the call that is served
abbrev pub served : Witness → ℕ → CallId
served w j = record { process = j; number = w.number }

-- the words that KEEP writes before the toggle
abbrev pub kept_words : {Run : Type 0} → Meaning Run → Process Run → List ℤ
kept_words m q = if int_eq q.registers.status (pos 0) then kept m q.run else q.registers.status ∷ replicate m.replies (pos 0)

-- whole copy, helped list: the calls made in the own block are those that were applied by then, and those of processes that
-- have been looked at
pub record IsListed {Run : Type 0} (m : Meaning Run) (lawful : List ℤ → Type 0) (opening : List ℤ) (history : List (Event ObjectCall Reply)) (looked : ℕ) (w : Witness) : Type 0 where
  pub within : w.length ≤ length history
  pub copied : w.before ≡ upto w.length history
  pub below : All (λ id. id.process < looked) w.helped
  pub made : IsMade m lawful opening history (calls_of w) w.words w.last

-- linked list: of a linked process these are the order and the calls of those whose toggles differ from the root's
pub record IsCurrent (z : Sizes) (order : List CallId) (root own : List ℤ) (flips : List ℕ) (looked : ℕ) (w : Witness) : Type 0 where
  pub before : w.before ≡ order
  pub helped : w.helped ≡ made_below z root own flips looked

-- own parts: of each process the words of its last call and the parity of its count, but where they are being written
pub record HoldsReplies (z : Sizes) (own : List ℤ) (w : Witness) (keeps : Bool) (j : ℕ) : Type 0 where
  pub replies : (k i : ℕ) → k < z.processes → i < z.replies + 1 → (keeps ≡ true → k ≢ j) → reply_word z own k i ≡ word_at (last_words (no_words z) k (calls_of w) w.words) i
  pub toggles : (k : ℕ) → k < z.processes → toggle_in z own k ≡ pos (applied_count (calls_of w) k % 2)

-- passed list: the list is laid of a call that has begun and is not made in the own block; of a linked process it is the
-- announced one of the process that it serves
pub record HasPassed {Run : Type 0} (m : Meaning Run) (fits : ObjectCall → Type 0) (history : List (Event ObjectCall Reply)) (linked : Bool) (flips : List ℕ) (w : Witness) (j : ℕ) (list : List ℤ) : Type 0 where
  pub begun : HasBegun history (served w j) w.call
  pub fit : fits w.call
  pub absent : ¬ Contains (calls_of w) (served w j)
  pub laid : list ≡ m.lay w.call
  pub announced : linked ≡ true → w.number ≡ slice_index flips j

-- saved front, so far
pub record SavesFront {Run : Type 0} (w : Witness) (q : Process Run) : Type 0 where
  pub front : (k : ℕ) → k < q.registers.i → word_at q.save k ≡ word_at w.last k

-- the variables are saved
pub record HasSaved {Run : Type 0} (w : Witness) (q : Process Run) : Type 0 where
  pub saved : q.save ≡ w.last

-- body run: the steps so far go on, and lead to the run and to the variables of the own block
pub record RunsBody {Run : Type 0} (m : Meaning Run) (z : Sizes) (own : List ℤ) (w : Witness) (q : Process Run) : Type 0 where
  pub saved : q.save ≡ w.last
  pub on : (body m w.count w.last w.call).turn ≡ On
  pub run : (body m w.count w.last w.call).run ≡ q.run
  pub variables : (body m w.count w.last w.call).block ≡ take z.variables own

-- undo front: the call traps, and the first variables are the old ones again
pub record Undoes {Run : Type 0} (m : Meaning Run) (own : List ℤ) (w : Witness) (q : Process Run) : Type 0 where
  pub saved : q.save ≡ w.last
  pub alone : Alone m w.call w.last w.last (kept_words m q)
  pub front : (k : ℕ) → k < q.registers.i → word_at own k ≡ word_at w.last k

-- kept reply: the variables are those that the call leaves, and the first words of the part are those of its reply
pub record Keeps {Run : Type 0} (m : Meaning Run) (z : Sizes) (own : List ℤ) (w : Witness) (q : Process Run) : Type 0 where
  pub alone : Alone m w.call w.last (take z.variables own) (kept_words m q)
  pub front : (i : ℕ) → i < q.registers.i → i < z.replies + 1 → reply_word z own q.registers.j i ≡ word_at (kept_words m q) i

-- how far the served call is
abbrev pub Works : {Run : Type 0} → Label → Meaning Run → Sizes → List ℤ → Witness → Process Run → Type 0
Works Save m z own w q = SavesFront w q
Works Enter m z own w q = HasSaved w q
Works Body m z own w q = RunsBody m z own w q
Works Undo m z own w q = Undoes m own w q
Works Keep m z own w q = Keeps m z own w q
Works _ m z own w q = Unit {0}

-- fetched front: a linked process has the first words of the announcement of the process that it serves
abbrev pub words_fetched : Sizes → Label → ℕ → ℕ
words_fetched z Fetch i = i
words_fetched z Check2 i = z.arguments
words_fetched z _ i = 0

pub record HasFetched {Run : Type 0} (z : Sizes) (c : Cell) (linked : Bool) (q : Process Run) : Type 0 where
  pub front : linked ≡ true → (k : ℕ) → k < words_fetched z q.label q.registers.i → word_at q.list k ≡ word_at (announcement_of c q.registers.j) k

abbrev pub AllFetched : {Run : Type 0} → Sizes → Cell → ℕ → Process Run → Type 0
AllFetched z c p q = HasFetched z c (is_linked c p) q

module _ {Run : Type 0} (m : Meaning Run) (lawful : List ℤ → Type 0) (fits : ObjectCall → Type 0) (z : Sizes) (opening : List ℤ) where
  -- of a process at this label, which is linked or not, with its own block, the root, and how many calls of each process are
  -- announced
  pub record IsPacked (history : List (Event ObjectCall Reply)) (order : List CallId) (flips : List ℕ) (linked : Bool) (root own : List ℤ) (l : Label) (q : Process Run) (w : Witness) : Type 0 where
    pub listed : IsListed m lawful opening history (looked_at (phase l) q.registers.j) w
    pub current : linked ≡ true → IsCurrent z order root own flips (looked_at (phase l) q.registers.j) w
    pub parts : HoldsReplies z own w (at_keep l) q.registers.j
    pub variables : holds_variables l ≡ true → take z.variables own ≡ w.last
    pub passed : holding l ≡ true → HasPassed m fits history linked flips w q.registers.j q.list
    pub works : Works l m z own w q

  abbrev pub Packs : List (Event ObjectCall Reply) → List CallId → List ℕ → Bool → List ℤ → List ℤ → Label → Process Run → Type 0
  Packs history order flips linked root own l q = has_copied (phase l) ≡ true → (w : Witness) × IsPacked history order flips linked root own l q w

  abbrev pub AllPacked : Cell → List (Process Run) → Records → ℕ → Process Run → Type 0
  AllPacked c ps r p q = Packs r.history r.order (map flips ps) (is_linked c p) (block_of c c.root) (own_block c p) q.label q

  -- what every reached object keeps of its calls' order
  pub record IsHelped (s : State Run) : Type 0 where
    pub fetched : Each (AllFetched z s.cell) s.processes
    pub root : RootHolds m lawful z opening s.records.history s.records.order (block_of s.cell s.cell.root)
    pub packed : Each (AllPacked s.cell s.processes s.records) s.processes
