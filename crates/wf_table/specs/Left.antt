-- What an open call may still take: own steps outside bodies, by the label and the registers. Each of these steps leaves
-- at least one less to take, and no step of a body leaves more.
use Rattle.std.specs.Prelude.{ℕ, ◌+◌, ◌-◌, ◌*◌}
use Rattle.wf_table.specs.declared.process.Label.{Label}
use Rattle.wf_table.specs.declared.process.Label.TheVariants.{Next, Post, Flip, Try, Link, Load, Store, Check1, Mine, Seen, Fetch, Check2, Save, Enter, Body, Undo, Keep, Commit, Read, Take, Give}
use Rattle.wf_table.specs.declared.process.Registers.{Registers}
use Rattle.wf_table.specs.declared.process.Sizes.{Sizes}
use Rattle.wf_table.specs.StepTable.{Process, block_words}

-- to serve one process: SEEN, FETCH, CHECK2, SAVE, ENTER, UNDO, KEEP
unfoldable pub serve : Sizes → ℕ
serve z = z.arguments + 2 * z.variables + z.replies + 5

-- a round: TRY, LINK, the copy, CHECK1, MINE, serving every process, SEEN, COMMIT
unfoldable pub lap : Sizes → ℕ
lap z = 2 * block_words z + z.processes * serve z + 6

-- the processes from j on
unfoldable pub serves_left : Sizes → ℕ → ℕ
serves_left z j = (z.processes - j) * serve z

-- the rounds behind this one
unfoldable pub laps_left : Sizes → ℕ → ℕ
laps_left z round = (2 - round) * lap z

-- READ, TAKE, GIVE
abbrev pub left_at_read : Sizes → ℕ
left_at_read z = z.replies + 3

abbrev pub left_at_try : Sizes → ℕ → ℕ
left_at_try z round = laps_left z round + 1 + left_at_read z

abbrev pub left_at_seen : Sizes → ℕ → ℕ → ℕ
left_at_seen z round j = serves_left z j + 2 + left_at_try z round

-- KEEP, and what is behind the process j
abbrev pub left_at_keep : Sizes → ℕ → ℕ → ℕ → ℕ
left_at_keep z round j i = (z.replies + 2 - i) + left_at_seen z round (j + 1)

abbrev pub steps_left : Sizes → Label → Registers → ℕ
steps_left z Next g = 0
steps_left z Post g = (z.arguments - g.i) + 1 + left_at_try z 0
steps_left z Flip g = 1 + left_at_try z 0
steps_left z Try g = left_at_try z g.round
steps_left z Link g = 2 * block_words z + serves_left z 0 + 5 + left_at_try z g.round
steps_left z Load g = 2 * (block_words z - g.i) + serves_left z 0 + 4 + left_at_try z g.round
steps_left z Store g = 2 * (block_words z - g.i) + serves_left z 0 + 3 + left_at_try z g.round
steps_left z Check1 g = serves_left z 0 + 4 + left_at_try z g.round
steps_left z Mine g = serves_left z 0 + 3 + left_at_try z g.round
steps_left z Seen g = left_at_seen z g.round g.j
steps_left z Fetch g = (z.arguments - g.i) + 1 + z.variables + 1 + z.variables + left_at_keep z g.round g.j 0
steps_left z Check2 g = 1 + z.variables + 1 + z.variables + left_at_keep z g.round g.j 0
steps_left z Save g = (z.variables - g.i) + 1 + z.variables + left_at_keep z g.round g.j 0
steps_left z Enter g = 1 + z.variables + left_at_keep z g.round g.j 0
steps_left z Body g = z.variables + left_at_keep z g.round g.j 0
steps_left z Undo g = (z.variables - g.i) + left_at_keep z g.round g.j 0
steps_left z Keep g = left_at_keep z g.round g.j g.i
steps_left z Commit g = 1 + left_at_try z g.round
steps_left z Read g = left_at_read z
steps_left z Take g = (z.replies + 1 - g.i) + 1
steps_left z Give g = 1

-- of a process that stands so
abbrev pub left_to : {Run : Type 0} → Sizes → Process Run → ℕ
left_to z q = steps_left z q.label q.registers
