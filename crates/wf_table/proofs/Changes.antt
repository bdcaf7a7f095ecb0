-- What a step of a process makes of the standing.
use Rattle.std.specs.Prelude.{◌≡◌, ◌≢◌, ℕ, ◌+◌, ◌<◌, ◌≤◌, ℤ}
use Rattle.wf_table.specs.Helping.{Standing}

-- a private step, or a word of an announcement: all stays
pub record IsSame (s t : Standing) : Type 0 where
  pub flips : (k : ℕ) → t.flips k ≡ s.flips k
  pub applied : (k : ℕ) → t.applied k ≡ s.applied k
  pub root : (k : ℕ) → t.root k ≡ s.root k
  pub announced : (k : ℕ) → t.announced k ≡ s.announced k
  pub flip_mark : (k : ℕ) → t.flip_mark k ≡ s.flip_mark k
  pub root_mark : t.root_mark ≡ s.root_mark

-- process p flips: one call more is announced, and no exchange came after that
pub record IsFlipped (p : ℕ) (s t : Standing) : Type 0 where
  pub flips : (k : ℕ) → k ≢ p → t.flips k ≡ s.flips k
  pub one_more : t.flips p ≡ s.flips p + 1
  pub applied : (k : ℕ) → t.applied k ≡ s.applied k
  pub root : (k : ℕ) → t.root k ≡ s.root k
  pub announced : (k : ℕ) → k ≢ p → t.announced k ≡ s.announced k
  pub flip_mark : (k : ℕ) → k ≢ p → t.flip_mark k ≡ s.flip_mark k
  pub root_mark : t.root_mark ≡ s.root_mark
  pub latest : t.root_mark ≤ t.flip_mark p

-- an exchange: the block with these toggles becomes the root, and the calls of those whose toggles differ are in the order
pub record IsExchanged (n : ℕ) (own : ℕ → ℤ) (s t : Standing) : Type 0 where
  pub flips : (k : ℕ) → t.flips k ≡ s.flips k
  pub announced : (k : ℕ) → t.announced k ≡ s.announced k
  pub flip_mark : (k : ℕ) → t.flip_mark k ≡ s.flip_mark k
  pub root : (k : ℕ) → k < n → t.root k ≡ own k
  pub stays : (k : ℕ) → k < n → own k ≡ s.root k → t.applied k ≡ s.applied k
  pub one_more : (k : ℕ) → k < n → own k ≢ s.root k → t.applied k ≡ s.applied k + 1
  pub newer : (k : ℕ) → k < n → t.flip_mark k < t.root_mark
