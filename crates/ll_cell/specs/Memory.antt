-- A cell, and how the words of its blocks are kept.
use Rattle.std.specs.Prelude.{◌≡◌, ℕ, ◌+◌, ◌*◌, ◌^◌, ◌<◌, Bool, ℤ, List, length, nat_le, if◌then◌else◌}
use Rattle.ll_cell.specs.declared.form.Form.{Form}
use Rattle.ll_cell.specs.Cell.{Cell, IsNumbered, own_of, announcement_of, refill_own, word_at}
use Rattle.ll_cell.specs.Form.{IsBit}
use Rattle.ll_cell.specs.Rows.{Rows, row_of, listed, overrun}

pub record Memory : Type 0 where
  pub cell : Cell
  pub form : Form

abbrev pub with_cell : Memory → Cell → Memory
with_cell m c = record m { cell = c }

-- w may stand at word i of p's announcement: where blocks have bits, the last word of an announcement is 0 or 1
abbrev pub MayAnnounce : Memory → ℕ → ℕ → ℤ → Type 0
MayAnnounce m p i w = 0 < m.form.parts → i + 1 ≡ length (announcement_of m.cell p) → IsBit w

-- ws come back as the first words of p's own block. They are never more than its head, since no slice grows
abbrev pub given_back_own : Memory → ℕ → List ℤ → Memory
given_back_own m p ws =
    if nat_le (length ws) m.form.head
    then with_cell m (refill_own m.cell p ws)
    else with_cell m (record m.cell { blocks = (overrun (record { form = m.form; rows = m.cell.blocks }) (own_of m.cell p) ws).rows })

-- n announcements of so many words, which lie one behind the other
abbrev pub announced : ℕ → ℕ → List ℤ → List (List ℤ)
announced n words row = listed n (λ p. listed words (λ i. word_at row (p * words + i)))

-- root, own numbers, links and blocks, with the announcements of so many words that lie in one block
abbrev pub memory_view : (root : ℕ) → (own : List ℕ) → (linked : List Bool) → (blocks announcements : Rows) → (words : ℕ) → Memory
memory_view root own linked blocks announcements words = record {
  cell = record {
    root = root;
    own = own;
    linked = linked;
    blocks = blocks.rows;
    announcements = announced (length own) words (row_of announcements 0);
  };
  form = blocks.form;
}

-- the announcements are one block, in which each is a part
pub record IsMemory (root : ℕ) (own : List ℕ) (blocks announcements : Rows) (words : ℕ) : Type 0 where
  pub numbered : IsNumbered root own
  pub one : length announcements.rows ≡ 1
  pub long : length (row_of announcements 0) ≡ length own * words
  pub fits : length own * words < 2 ^ 64
  pub flagged : 0 < announcements.form.parts → (0 < blocks.form.parts) × (announcements.form.head ≡ 0) × (announcements.form.part ≡ words)
