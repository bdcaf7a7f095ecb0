-- Help, by toggles and counts alone: what a process has done for the open calls of the others, and what the others have
-- done for its own.
use Rattle.std.specs.Prelude.{◌≡◌, ◌≢◌, ℕ, ◌+◌, ◌%◌, ◌<◌, ◌≤◌, Bool, true, false, ℤ, pos, ◌⊎◌}

-- of each process how many of its calls are announced, how many are in the order, its toggle in the root and the announced
-- one, and the mark of its last FLIP; and the root's mark
pub record Standing : Type 0 where
  pub flips : ℕ → ℕ
  pub applied : ℕ → ℕ
  pub root : ℕ → ℤ
  pub announced : ℕ → ℤ
  pub flip_mark : ℕ → ℕ
  pub root_mark : ℕ

-- a call of the process is announced that is not in the order
abbrev pub IsPending : Standing → ℕ → Type 0
IsPending s p = s.applied p < s.flips p

-- an exchange came after the process's last FLIP
abbrev pub IsNewer : Standing → ℕ → Type 0
IsNewer s p = s.flip_mark p < s.root_mark

-- of n processes: an announced call is pending at most while no later one is announced, and toggles are parities
pub record IsCounted (n : ℕ) (s : Standing) : Type 0 where
  pub begun : (k : ℕ) → k < n → s.applied k ≤ s.flips k
  pub one_open : (k : ℕ) → k < n → s.flips k ≤ s.applied k + 1
  pub root : (k : ℕ) → k < n → s.root k ≡ pos (s.applied k % 2)
  pub announced : (k : ℕ) → k < n → s.announced k ≡ pos (s.flips k % 2)

-- where a process stands in a call: settled, with no announced call open; trying, before it has a whole copy; asking whether
-- its own call is made; looking for the open calls of the others; serving one of them
pub data Phase : Type 0 where
  Settled : Phase
  Trying : Phase
  Asking : Phase
  Looking : Phase
  Serving : Phase

-- behind a whole copy
abbrev pub has_copied : Phase → Bool
has_copied Settled = false
has_copied Trying = false
has_copied _ = true

-- behind the question whether the own call is made
abbrev pub has_asked : Phase → Bool
has_asked Looking = true
has_asked Serving = true
has_asked _ = false

-- the processes below this one have been looked at in this round
abbrev pub looked_at : Phase → ℕ → ℕ
looked_at Asking j = 0
looked_at _ j = j

-- of process p in this phase, which is linked or not, whose own block has these toggles, which looks at process j, and which
-- has lost so many rounds
pub record IsHelping (n : ℕ) (s : Standing) (p : ℕ) (linked : Bool) (own : ℕ → ℤ) (phase : Phase) (j lost : ℕ) : Type 0 where
  -- settled labels: no call is pending
  pub settled : phase ≡ Settled → ¬ IsPending s p
  -- own toggles: those of the root, but where a pending call was made
  pub own_toggles : has_copied phase ≡ true → linked ≡ true → (k : ℕ) → k < n → (own k ≡ s.root k) ⊎ ((k < looked_at phase j) × IsPending s k)
  -- wanted help: the call that is served is not yet made in the own block
  pub wanted_help : phase ≡ Serving → linked ≡ true → own j ≢ s.announced j
  -- older calls helped: the own call, and each that was announced before the last exchange, is made in the own block
  pub own_helped : has_copied phase ≡ true → linked ≡ true → p < looked_at phase j → own p ≡ s.announced p
  pub older_helped : has_copied phase ≡ true → linked ≡ true → (k : ℕ) → k < looked_at phase j → IsNewer s k → own k ≡ s.announced k
  -- found applied: an own toggle that is the announced one tells the truth, linked or not
  pub found_applied : phase ≡ Asking → own p ≡ s.announced p → ¬ IsPending s p
  -- own call open
  pub own_open : has_asked phase ≡ true → linked ≡ true → IsPending s p
  -- lost rounds: who has lost one saw an exchange since its FLIP, and who has lost two was helped
  pub lost_one : 0 < lost → IsNewer s p
  pub lost_two : 1 < lost → ¬ IsPending s p
