-- Root and own numbers stay 0 to n, each once.
use Rattle.std.proofs.Common.{ℕ, ◌<◌, length}
use Rattle.ll_cell.specs.Cell.{Cell, IsNumbered}
use Rattle.ll_cell.proofs.Exchange.{exchange_cases}
use Rattle.ll_cell.proofs.Numbered.{keeps_numbered}
use Rattle.wf_table.specs.StepTable.{Change, Nothing, Own, Refill, Announce, Links, Exchanges, cell_after}

pub keeps_numbers : (c : Cell) (p : ℕ) (change : Change) → p < length c.own → IsNumbered c.root c.own → IsNumbered (cell_after c p change).root (cell_after c p change).own
keeps_numbers c p Nothing lt h = h
keeps_numbers c p (Own i w) lt h = h
keeps_numbers c p (Refill ws) lt h = h
keeps_numbers c p (Announce i w) lt h = h
keeps_numbers c p Links lt h = h
keeps_numbers c p Exchanges lt h = exchange_cases (λ k. IsNumbered k.root k.own) c p (λ _. keeps_numbered c.root c.own p lt h) (λ _. h)
