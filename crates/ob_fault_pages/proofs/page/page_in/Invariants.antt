use Rattle.std.proofs.Common.{◌≡◌, length, map}
use Rattle.ob_fault_pages.specs.Pages.{page_in, row_of}
use Rattle.ob_fault_pages.proofs.page.page_in.Given as goal

abbrev pub invariant-loop-rows : goal.invariant-loop-rows
invariant-loop-rows l = page_in (map row_of l.rows) l.name ≡ page_in (map row_of l.initial.rows) l.name

abbrev pub decreases-loop-rows : goal.decreases-loop-rows
decreases-loop-rows l = length l.rows
