-- What the processes share: a root number, n + 1 blocks, own block numbers, links and announcements.
use Rattle.std.specs.Prelude.{◌≢◌, ℕ, ◌+◌, ◌<◌, ◌≤◌, Bool, true, false, ℤ, pos, List, [], ◌++◌, length, take, drop, replicate, slice_index_or, slice_set, if◌then◌else◌}
use Rattle.std.specs.List.{range_with_len}

pub record Cell : Type 0 where
  pub root : ℕ
  pub own : List ℕ
  pub linked : List Bool
  pub blocks : List (List ℤ)
  pub announcements : List (List ℤ)

-- n processes; block 0 is the root, and process p owns block p + 1
abbrev pub fresh : ℕ → ℕ → ℕ → Cell
fresh n words announce = record {
  root = 0;
  own = range_with_len 1 n;
  linked = replicate n false;
  blocks = replicate (n + 1) (replicate words (pos 0));
  announcements = replicate n (replicate announce (pos 0));
}

abbrev pub own_of : Cell → ℕ → ℕ
own_of c p = slice_index_or c.own p 0

abbrev pub is_linked : Cell → ℕ → Bool
is_linked c p = slice_index_or c.linked p false

abbrev pub block_of : Cell → ℕ → List ℤ
block_of c b = slice_index_or c.blocks b []

abbrev pub announcement_of : Cell → ℕ → List ℤ
announcement_of c p = slice_index_or c.announcements p []

abbrev pub word_at : List ℤ → ℕ → ℤ
word_at ws i = slice_index_or ws i (pos 0)

-- p is linked
abbrev pub link : Cell → ℕ → Cell
link c p = record c { linked = slice_set c.linked p true }

-- root and own number change places, and every link is cleared
abbrev pub exchanged : Cell → ℕ → Cell
exchanged c p = record c { root = own_of c p; own = slice_set c.own p c.root; linked = replicate (length c.linked) false }

-- an exchange, where p is linked
abbrev pub exchange : Cell → ℕ → Cell
exchange c p = if is_linked c p then exchanged c p else c

-- p's own block holds these words
abbrev pub with_own : Cell → ℕ → List ℤ → Cell
with_own c p ws = record c { blocks = slice_set c.blocks (own_of c p) ws }

abbrev pub write_own : Cell → ℕ → ℕ → ℤ → Cell
write_own c p i w = with_own c p (slice_set (block_of c (own_of c p)) i w)

-- a block whose first words are these, and the rest is as before; its length stays
abbrev pub refilled : List ℤ → List ℤ → List ℤ
refilled block ws = take (length block) (ws ++ drop (length ws) block)

-- a block with so many words of another in place of its own, from word `first` on
abbrev pub copied : (first count : ℕ) → (source block : List ℤ) → List ℤ
copied first count source block = take first block ++ (take count (drop first source) ++ drop (first + count) block)

-- so many words of block b, from word `first` on, stand in p's own block too
abbrev pub copy_own : Cell → (p b first count : ℕ) → Cell
copy_own c p b first count = with_own c p (copied first count (block_of c b) (block_of c (own_of c p)))

-- the first words of p's own block are these
abbrev pub refill_own : Cell → ℕ → List ℤ → Cell
refill_own c p ws = with_own c p (refilled (block_of c (own_of c p)) ws)

abbrev pub announce_word : Cell → ℕ → ℕ → ℤ → Cell
announce_word c p i w = record c { announcements = slice_set c.announcements p (slice_set (announcement_of c p) i w) }

-- root and own numbers are the numbers 0 to n, each once
pub record IsNumbered (root : ℕ) (own : List ℕ) : Type 0 where
  pub root_in : root ≤ length own
  pub own_in : (p : ℕ) → p < length own → slice_index_or own p 0 ≤ length own
  pub root_apart : (p : ℕ) → p < length own → slice_index_or own p 0 ≢ root
  pub own_apart : (p q : ℕ) → p < length own → q < length own → p ≢ q → slice_index_or own p 0 ≢ slice_index_or own q 0
